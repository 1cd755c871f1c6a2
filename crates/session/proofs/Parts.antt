-- The parts of the lent slices that are asked for, and what is past them. Assumes nothing.
use Rattle.std.proofs.Common.{◌≡◌, ℕ, true, List, ◌++◌, length, take, drop, Err, sym, refl, ap, ◌∙◌, subst, ap₂}
use Rattle.std.proofs.lemmas.List.{take_at, drop_at, take-append-drop}
use Rattle.lamps.specs.Calls.{Board, Answer, refused, number, lamps, fewest, some_way, never, garbled, turned, place}
use Rattle.lamps.specs.Promise.{Memory, new_board}
use Rattle.matrix.specs.Cells.{width_of}
use Rattle.calls.specs.declared.Refusal.{Refusal}
use Rattle.calls.specs.declared.Answer.{Answer as Reply}
use Rattle.calls.specs.declared.Answer.TheVariants as reply
use Rattle.calls.specs.Reading.{decoded}
use Rattle.calls.specs.Saying.{number_of, place_of, asked, called, said}
use Rattle.calls.specs.Laws.{Reads}
use Rattle.desk.specs.Holding.{lent, refuses, Holds, Performs}
use Rattle.desk.proofs.Taken.{performs_as, performs_refused}
use Rattle.session.specs.Lent.{table_words, Long, asked_of, past, Opened, Answered, Called}

-- the first `size` of a slice were lent, and are `new` now
pub record Part (size : ℕ) (old new whole : List ℕ) : Type 0 where
  pub asked : take size whole ≡ new
  pub rest : drop size whole ≡ drop size old

pub part : (size d : ℕ) (old new front back : List ℕ) → front ≡ new → back ≡ drop d old → d ≡ size → length new ≡ size → Part size old new (front ++ back)
part size d old new front back f b e long =
    subst (λ x. Part size old new (x ++ back)) (sym f) (record {
      asked = take_at new back size long;
      rest = drop_at new back size long ∙ b ∙ ap (λ x. drop x old) e;
    })

pub lent_same : (n : ℕ) {ws ws' rs rs' ts ts' cs cs' ls ls' ms ms' : List ℕ} → ws ≡ ws' → rs ≡ rs' → ts ≡ ts' → cs ≡ cs' → ls ≡ ls' → ms ≡ ms'
    → lent n ws rs ts cs ls ms ≡ lent n ws' rs' ts' cs' ls' ms'
lent_same n {ws} {ws'} {rs} {rs'} {ts} {ts'} {cs} {cs'} {ls} {ls'} {ms} {ms'} p q r s t u =
    ap₂ (λ x y. lent n x y ts cs ls ms) p q ∙ ap₂ (λ x y. lent n ws' rs' x y ls ms) r s ∙ ap₂ (λ x y. lent n ws' rs' ts' cs' x y) t u

module _ (n : ℕ) (ws rs ts cs ls ms ws' rs' ts' cs' ls' ms' wsₑ rsₑ tsₑ csₑ lsₑ msₑ : List ℕ)
    (a : Part (table_words n) ws ws' wsₑ) (b : Part (table_words n) rs rs' rsₑ) (c : Part (table_words n) ts ts' tsₑ)
    (d : Part n cs cs' csₑ) (e : Part (width_of n) ls ls' lsₑ) (f : Part (width_of n) ms ms' msₑ) where
  pub parts_asked : asked_of (lent n wsₑ rsₑ tsₑ csₑ lsₑ msₑ) ≡ lent n ws' rs' ts' cs' ls' ms'
  parts_asked = lent_same n a.asked b.asked c.asked d.asked e.asked f.asked

  pub parts_past : past (lent n wsₑ rsₑ tsₑ csₑ lsₑ msₑ) ≡ past (lent n ws rs ts cs ls ms)
  parts_past = lent_same n a.rest b.rest c.rest d.rest e.rest f.rest

  pub opened : (k : ℕ) → k ≡ n → Long (lent k ws rs ts cs ls ms) → Holds (lent k ws' rs' ts' cs' ls' ms') (new_board k)
      → Opened (lent n ws rs ts cs ls ms) (lent n wsₑ rsₑ tsₑ csₑ lsₑ msₑ)
  opened k same long holds = record {
    long = subst (λ x. Long (lent x ws rs ts cs ls ms)) same long;
    holds = subst (λ m. Holds m (new_board n)) (sym parts_asked) (subst (λ x. Holds (lent x ws' rs' ts' cs' ls' ms') (new_board x)) same holds);
    past = parts_past;
  }

-- what is asked for and what is past it are the whole
pub whole_same : (n : ℕ) (ws rs ts cs ls ms ws' rs' ts' cs' ls' ms' : List ℕ)
    → asked_of (lent n ws' rs' ts' cs' ls' ms') ≡ asked_of (lent n ws rs ts cs ls ms) → past (lent n ws' rs' ts' cs' ls' ms') ≡ past (lent n ws rs ts cs ls ms)
    → lent n ws' rs' ts' cs' ls' ms' ≡ lent n ws rs ts cs ls ms
whole_same n ws rs ts cs ls ms ws' rs' ts' cs' ls' ms' p q = lent_same n
    (joined (table_words n) ws ws' (ap (λ m. m.wires) p) (ap (λ m. m.wires) q))
    (joined (table_words n) rs rs' (ap (λ m. m.rows) p) (ap (λ m. m.rows) q))
    (joined (table_words n) ts ts' (ap (λ m. m.done) p) (ap (λ m. m.done) q))
    (joined n cs cs' (ap (λ m. m.pivots) p) (ap (λ m. m.pivots) q))
    (joined (width_of n) ls ls' (ap (λ m. m.lit) p) (ap (λ m. m.lit) q))
    (joined (width_of n) ms ms' (ap (λ m. m.marks) p) (ap (λ m. m.marks) q))
  where
    joined : (size : ℕ) (xs ys : List ℕ) → take size ys ≡ take size xs → drop size ys ≡ drop size xs → ys ≡ xs
    joined size xs ys p q = sym (take-append-drop size ys) ∙ ap₂ (λ a b. a ++ b) p q ∙ take-append-drop size xs

pub answered_as : {m n m' n' : Memory} {bytes old new : List ℕ} {k : ℕ} → m ≡ n → m' ≡ n' → Answered m m' bytes old new k → Answered n n' bytes old new k
answered_as {m} {n} {m'} {n'} {bytes} {old} {new} {k} e e' h = subst (λ x. Answered n x bytes old new k) e' (subst (λ x. Answered x m' bytes old new k) e h)

-- a call on the parts that are asked for is a call on the whole
module _ (n : ℕ) (ws rs ts cs ls ms ws' rs' ts' cs' ls' ms' wsₑ rsₑ tsₑ csₑ lsₑ msₑ : List ℕ)
    (a : Part (table_words n) ws ws' wsₑ) (b : Part (table_words n) rs rs' rsₑ) (c : Part (table_words n) ts ts' tsₑ)
    (d : Part n cs cs' csₑ) (e : Part (width_of n) ls ls' lsₑ) (f : Part (width_of n) ms ms' msₑ) where
  pub lifted : (bytes old new : List ℕ) (k : ℕ) → Answered (asked_of (lent n ws rs ts cs ls ms)) (lent n ws' rs' ts' cs' ls' ms') bytes old new k
      → Called (lent n ws rs ts cs ls ms) (lent n wsₑ rsₑ tsₑ csₑ lsₑ msₑ) bytes old new k
  lifted bytes old new k h =
      let asked = parts_asked n ws rs ts cs ls ms ws' rs' ts' cs' ls' ms' wsₑ rsₑ tsₑ csₑ lsₑ msₑ a b c d e f in
      let rest = parts_past n ws rs ts cs ls ms ws' rs' ts' cs' ls' ms' wsₑ rsₑ tsₑ csₑ lsₑ msₑ a b c d e f in
      record {
        answered = record {
          says = h.says;
          put = h.put;
          performs = λ w holds. subst (λ m. Performs (asked_of (lent n ws rs ts cs ls ms)) m w (called bytes) h.says) (sym asked) (h.performs w holds);
          kept = λ x y is. asked ∙ h.kept x y is;
        };
        past = rest;
        kept = λ x y is. whole_same n ws rs ts cs ls ms wsₑ rsₑ tsₑ csₑ lsₑ msₑ (asked ∙ h.kept x y is) rest;
      }

-- bytes that are no call are refused by 1, with the place where they cease to be one
pub unread_performs : (m : Memory) (b : Board) (bs : List ℕ) (r : Refusal) → Holds m b → Err r ≡ decoded bs → Reads bs (Err r)
    → Performs m m b (called bs) (refused (number_of r) (place_of r))
unfolding turned place
unread_performs m b bs r h is (p, e, ceases) =
    subst (λ q. Err q ≡ decoded bs → Performs m m b (called bs) (refused (number_of q) (place_of q))) (sym e)
    (λ at_p. performs_as (ap asked (sym at_p)) (performs_refused m b (garbled p) h 0 p refl refl)) is

IsRefusal : Answer → Type 0
IsRefusal (refused k p) = Unit {0}
IsRefusal (number k) = ⊥
IsRefusal (lamps s) = ⊥
IsRefusal (fewest s) = ⊥
IsRefusal (some_way s) = ⊥
IsRefusal (never s) = ⊥

-- what is said is a refusal if it is one that was written
pub said_refuses : (a : Reply) (row : List ℕ) (k p : ℕ) → said a row ≡ refused k p → refuses a ≡ true
unfolding IsRefusal
said_refuses (reply.Refused r) row k p e = refl
said_refuses (reply.Number n) row k p e = absurd (subst IsRefusal (sym e) tt)
said_refuses (reply.Lit n) row k p e = absurd (subst IsRefusal (sym e) tt)
said_refuses (reply.Fewest n) row k p e = absurd (subst IsRefusal (sym e) tt)
said_refuses (reply.SomeWay n) row k p e = absurd (subst IsRefusal (sym e) tt)
said_refuses (reply.Never n) row k p e = absurd (subst IsRefusal (sym e) tt)
