-- A line that changes the board, or is refused; a claim that is checked. Assumes nothing.
use Rattle.std.proofs.Common.{◌≡◌, ℕ, suc, ◌/◌, ◌%◌, ◌<◌, ◌≤◌, true, false, not, eqb, ◌≢◌, List, [], ◌∷◌, ◌++◌, length, get_or, take, set, Some, None, Ok, Err, MatchResult, Option, Result, sym, refl, ap, ◌∙◌, subst, ap₂, inl, inr, arith}
use Rattle.std.proofs.lemmas.Bool.{cases_lt, eq-eqb, ne_eqb}
use Rattle.std.proofs.lemmas.List.{length-take-le, take_all, take-append-le}
use Rattle.gf2.specs.Rows.{pick}
use Rattle.lamps.specs.Lamps.{Lamps, Wire, at, listed}
use Rattle.lamps.specs.Calls.{Board as Wall, Call as Asked, wires, turns, rewired, turned, changed}
use Rattle.lamps.proofs.Listed.{listed_same}
use Rattle.lamps.proofs.Refusals as refusals
use Rattle.bits.specs.Bits.{bit, bit_of}
use Rattle.wires.specs.Holds.{HoldsWires}
use Rattle.lit.specs.Holds.{HoldsLit, lamps_of}
use Rattle.calls.specs.declared.Refusal.TheVariants.{Itself, NoLamp}
use Rattle.claims.specs.declared.Verdict.{Verdict}
use Rattle.claims.specs.Checked.{PressesChecked, NeverChecked}
use Rattle.lines.specs.declared.Claim.{Claim}
use Rattle.lines.specs.declared.refusal.Refusal.{Refusal}
use Rattle.lines.specs.declared.refusal.Refusal.TheVariants.{Call}
use Rattle.lines.specs.Lines.{claim_of}
use Rattle.lines.specs.Printed.{set_in}
use Rattle.lines.specs.Texts.{refusal_line}
use Rattle.checker.specs.Replies.{lamps_in, said, numbered, refusal, Holding, Called}
use Rattle.checker.specs.Held.{lamps_held, Held}
use Rattle.checker.specs.Texts.{line_for}
use Rattle.checker.specs.declared.small.SmallBoard.{SmallBoard}
use Rattle.checker.specs.declared.reply.Reply.TheVariants.{Nothing, Refused}

-- the first n words, written
pub words_put : (n : ℕ) (ws ys zs : List ℕ) → length ys ≡ length (take n ws) → n ≤ length ws → take n (ys ++ zs) ≡ ys
words_put n ws ys zs e l = let long : length ys ≡ n = e ∙ length-take-le n ws l in take-append-le n ys zs (omega arith) ∙ take_all n ys (omega arith)

-- a set of at most 64 lamps, as one word
pub one_word : (n m p : ℕ) → n ≤ 64 → m ≡ n → lamps_of n (p ∷ []) ≡ set_in m p
one_word n m p small e = listed_same n (bit_of (p ∷ [])) (bit p) same ∙ ap (λ x. listed x (bit p)) (sym e)
  where
    same : (k : ℕ) → k < n → bit_of (p ∷ []) k ≡ bit p k
    same k l = ap₂ (λ x y. bit (get_or (p ∷ []) x 0) y) word place
      where
        word : k / 64 ≡ 0
        word = omega arith

        place : k % 64 ≡ k
        place = omega arith

module _ (n : ℕ) (ws ls : List ℕ) (b : Wall) (h : Holding n ws ls b) where
  called_refused : (c : Asked) (k : ℕ) → turned b c ≡ suc k → Called n ws ls b c (Refused (Call (numbered (suc k))))
  called_refused c k e =
      let no_call : eqb (turned b c) 0 ≡ false = ne_eqb (turned b c) 0 (omega (arith, e)) in
      record { right = ap refusal (sym e); holds = subst (λ t. Holding n ws ls (pick t (changed b c) b)) (sym no_call) h }

  called_taken : (ws' ls' : List ℕ) (c : Asked) → turned b c ≡ 0 → Holding n ws' ls' (changed b c) → Called n ws' ls' b c Nothing
  called_taken ws' ls' c e g =
      let a_call : eqb (turned b c) 0 ≡ true = eq-eqb (turned b c) 0 e in
      record { right = ap refusal (sym e); holds = subst (λ t. Holding n ws' ls' (pick t (changed b c) b)) (sym a_call) g }

  -- which refusal comes first
  pub wire_no_first : (i j : ℕ) → n ≤ i → Called n ws ls b (wires i j) (Refused (Call NoLamp))
  wire_no_first i j g = called_refused (wires i j) 3 (refusals.wire_no_first b n h.lit.long i j g)

  pub wire_no_second : (i j : ℕ) → i < n → n ≤ j → Called n ws ls b (wires i j) (Refused (Call NoLamp))
  wire_no_second i j l g = called_refused (wires i j) 3 (refusals.wire_no_second b n h.lit.long i j l g)

  pub wire_itself : (i j : ℕ) → i < n → j < n → i ≡ j → Called n ws ls b (wires i j) (Refused (Call Itself))
  wire_itself i j l k e = called_refused (wires i j) 1 (refusals.wire_itself b n h.lit.long i j l k e)

  pub turn_no_lamp : (i : ℕ) → n ≤ i → Called n ws ls b (turns i) (Refused (Call NoLamp))
  turn_no_lamp i g = called_refused (turns i) 3 (refusals.turn_no_lamp b n h.lit.long i g)

  -- taken
  pub wire_called : (i j : ℕ) (ws' : List ℕ) → i < n → j < n → i ≢ j
      → ((vs : List Wire) → HoldsWires n (take n ws) vs → HoldsWires n (take n ws') (rewired vs i j)) → Called n ws' ls b (wires i j) Nothing
  unfolding changed
  wire_called i j ws' l m ne holds =
      called_taken ws' ls (wires i j) (refusals.wire_taken b n h.lit.long i j l m ne) (record { wires = holds b.wires_there h.wires; lit = h.lit })

  pub turn_called : (i : ℕ) (ls' : List ℕ) → i < n → ((s : Lamps) → HoldsLit n ls s → HoldsLit n ls' (set s i (not (at s i)))) → Called n ws ls' b (turns i) Nothing
  unfolding changed
  turn_called i ls' l holds =
      called_taken ws ls' (turns i) (refusals.turn_taken b n h.lit.long i l) (record { wires = h.wires; lit = holds b.on h.lit })

-- a claim is checked
module _ (n : ℕ) (ws ls : List ℕ) (b : Wall) (h : Holding n ws ls b) (p : ℕ) (v : Verdict) (small : n ≤ 64) where
  pub presses_checked : ((vs : List Wire) (s : Lamps) → HoldsWires n (take n ws) vs → HoldsLit n ls s → PressesChecked vs s (lamps_of n (p ∷ [])) v)
      → PressesChecked b.wires_there b.on (set_in (length b.on) p) v
  presses_checked checked = subst (λ q. PressesChecked b.wires_there b.on q v) (one_word n (length b.on) p small h.lit.long) (checked _ _ h.wires h.lit)

  pub never_checked : ((vs : List Wire) (s : Lamps) → HoldsWires n (take n ws) vs → HoldsLit n ls s → NeverChecked vs s (lamps_of n (p ∷ [])) v)
      → NeverChecked b.wires_there b.on (set_in (length b.on) p) v
  never_checked checked = subst (λ q. NeverChecked b.wires_there b.on q v) (one_word n (length b.on) p small h.lit.long) (checked _ _ h.wires h.lit)

-- the line that is read on the board that there is
lamps_as : (c : Option SmallBoard) (b : Option Wall) → Held c b → lamps_held c ≡ lamps_in b
lamps_as None None h = refl
lamps_as None (Some b) h = absurd h
lamps_as (Some c) None h = absurd h
lamps_as (Some c) (Some b) h = sym h.lit.long

read_as : (r : Result Claim ℕ) (claim : Claim) → MatchResult r (λ x. ◌≡◌ {A = Result Claim Refusal} (Ok claim) (Ok x)) (λ p. ⊥) → r ≡ Ok claim
read_as (Ok x) claim m = sym (cc)
read_as (Err p) claim m = absurd m

pub says : (c : Option SmallBoard) (b : Option Wall) (n : ℕ) (line : List ℕ) (r : Result Claim ℕ) (claim : Claim) → Held c b → n ≡ lamps_held c → r ≡ claim_of n line
    → MatchResult r (λ x. ◌≡◌ {A = Result Claim Refusal} (Ok claim) (Ok x)) (λ p. ⊥) → Ok claim ≡ said b line
says c b n line r claim h e k m = sym (read_as r claim m) ∙ k ∙ ap (λ l. claim_of l line) (e ∙ lamps_as c b h)

-- a call that is refused by number k is answered by the line of number k at 0
pub refusal_printed : (k : ℕ) → 2 ≤ k → k ≤ 4 → line_for (refusal k) ≡ refusal_line k 0
refusal_printed k l m = elim (cases_lt k 3) [
  | inl two ↦ let e : k ≡ 2 = omega arith in rw e
  | inr more ↦ elim (cases_lt k 4) [ inl three ↦ let e : k ≡ 3 = omega arith in rw e | inr four ↦ let e : k ≡ 4 = omega arith in rw e ]
]
