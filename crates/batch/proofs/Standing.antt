-- Answers that stand in parts of their own. Assumes nothing.
use Rattle.std.proofs.Common.{◌≡◌, ℕ, ◌+◌, ◌-◌, ◌*◌, ◌<◌, ◌≤◌, List, [], ◌∷◌, ◌++◌, map, length, get_or, take, drop, sym, refl, ap, ◌∙◌, subst, inl, inr, append_assoc, arith, length-append, length-take}
use borrow.Rule.Slice.PartMut.{put_mid}
use Rattle.std.proofs.lemmas.List.{take_at, drop_at, take-take, drop-take, take_more}
use Rattle.std.proofs.lemmas.Bool.{cases_eq}
use Rattle.lamps.specs.Calls.{Board, Answer, after, IsRight}
use Rattle.lamps.specs.Promise.{Memory, ran}
use Rattle.matrix.proofs.Memory.{row_within}
use Rattle.calls.specs.declared.Call.{Call}
use Rattle.calls.specs.declared.Call.TheVariants.{Wire}
use Rattle.calls.specs.Bytes.{Put}
use Rattle.calls.specs.Saying.{meant, written}
use Rattle.desk.specs.Holding.{Holds, Performs}
use Rattle.batch.specs.Answered.{Stands, left_by, AnswersCall, AnswersAll}

-- an answer that was written into a part of the answers stands where the part begins
pub stands_put : (a : Answer) (at n k : ℕ) (old new part : List ℕ) → at ≤ length old → Put (written a) part new k → Stands a (put_mid at n old new) at
stands_put a at n k old new part within put =
    ap (take (length (written a)))
    (drop_at (take at old) (new ++ drop n (drop at old)) at (simp length-take (omega arith))
    ∙ ap (λ bs. bs ++ drop n (drop at old)) put.holds ∙ append_assoc (written a) (drop k part) (drop n (drop at old)))
    ∙ take_at (written a) (drop k part ++ drop n (drop at old)) (length (written a)) refl

-- and stays there, as long as what is before a later place stays
pub stands_on : (a : Answer) (bytes bytes' : List ℕ) (place size later : ℕ) → length (written a) ≤ size → place + size ≤ later → take later bytes' ≡ take later bytes
    → Stands a bytes place → Stands a bytes' place
stands_on a bytes bytes' place size later small apart same h = seen bytes' ∙ ap (λ bs. take (length (written a)) (drop place bs)) same ∙ sym (seen bytes) ∙ h
  where
    seen : (bs : List ℕ) → take (length (written a)) (drop place bs) ≡ take (length (written a)) (drop place (take later bs))
    seen bs =
        sym (ap (take (length (written a))) (ap (λ x. drop place (take x bs)) (omega arith) ∙ drop-take place (later - place) bs)
        ∙ take-take (length (written a)) (later - place) (drop place bs) (omega arith))

-- it is no longer than its part
pub put_fits : (a : Answer) (old new : List ℕ) (k size : ℕ) → Put (written a) old new k → length new ≡ size → length (written a) ≤ size
put_fits a old new k size put long = let e : length new ≡ length (written a ++ drop k old) = ap length put.holds in let d = length-append (written a) (drop k old) in omega arith

-- one call more
ran_more : (b : Board) (xs : List Call) (x : Call) → ran b (map meant (xs ++ (x ∷ []))) ≡ after (ran b (map meant xs)) (meant x)
unfolding ran
ran_more b [] x = refl
ran_more b (y ∷ ys) x = ran_more (after b (meant y)) ys x

module _ (m' m'' : Memory) (b : Board) (cs : List Call) (size : ℕ) (bytes bytes' : List ℕ) (k : ℕ) (c : Call) (so_far : AnswersAll m' b cs size bytes k)
    (a : Answer) (done : Performs m' m'' (left_by b cs k) (meant c) a) (fits : length (written a) ≤ size) (stands : Stands a bytes' (k * size)) (same : take (k * size) bytes' ≡ take (k * size) bytes)
    (here : k < length cs) (is : c ≡ get_or cs k (Wire 0 0)) where
  next : left_by b cs (k + 1) ≡ after (left_by b cs k) (meant c)
  next = ap (λ xs. ran b (map meant xs)) (take_more cs k (Wire 0 0) here) ∙ ran_more b (take k cs) (get_or cs k (Wire 0 0)) ∙ ap (λ x. after (left_by b cs k) (meant x)) (sym is)

  pub answers_more : AnswersAll m'' b cs size bytes' (k + 1)
  answers_more = record {
    holds = subst (Holds m'') (sym next) done.holds;
    each = λ i l. elim (cases_eq i k) [
      | inl e ↦ subst (AnswersCall b cs size bytes') (sym e) (record {
        answer = a;
        is_right = subst (λ x. IsRight (left_by b cs k) (meant x) a) is done.answered;
        fits = fits;
        stands = stands;
      })
      | inr ne ↦
          let old = so_far.each i (omega arith) in
          let low = row_within size i k (omega arith) in
          record { answer = old.answer; is_right = old.is_right; fits = old.fits; stands = stands_on old.answer bytes bytes' (i * size) size (k * size) old.fits low same old.stands }
    ];
  }

-- none yet
pub answers_none : (m : Memory) (b : Board) (cs : List Call) (size : ℕ) (bytes : List ℕ) → Holds m b → AnswersAll m b cs size bytes 0
unfolding ran
answers_none m b cs size bytes h = record { holds = h; each = λ i l. absurd (omega arith) }

pub answers_upto : {m : Memory} {b : Board} {cs : List Call} {size : ℕ} {bytes : List ℕ} {k n : ℕ} → k ≡ n → AnswersAll m b cs size bytes k → AnswersAll m b cs size bytes n
answers_upto {m} {b} {cs} {size} {bytes} = subst (AnswersAll m b cs size bytes)
