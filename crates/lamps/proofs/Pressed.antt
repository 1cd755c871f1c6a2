-- What is lit after presses, lamp by lamp. Assumes nothing.
use Rattle.std.proofs.Common.{◌≡◌, ℕ, zero, suc, ◌+◌, ◌<◌, Bool, true, false, not, List, [], ◌∷◌, length, set, sym, refl, ap, ◌∙◌, subst, ap₂, inl, inr, add-zero, add-suc, suc-add, zero-add, arith}
use Rattle.std.proofs.lemmas.List.{length-set, get_or-set_same, get_or-set_other}
use Rattle.std.proofs.lemmas.Bool.{cases_eq, and_parts, and_from, not-true, not_from_false}
use Rattle.gf2.specs.Rows.{differ, Row, only, act}
use Rattle.gf2.proofs.Rows.{and_comm, only_self, only_other, dot_right, dot_only}
use Rattle.lamps.specs.Lamps.{Lamps, at, listed, none_lit, all_lit, all_off, Wire, changes, table, odd_for, lit_from, pressed}
use Rattle.lamps.proofs.Listed.{length_listed, at_listed, listed_is}

-- SETS OF LAMPS

-- all off: each is
pub all_off_at : (s : Lamps) → all_off s ≡ true → (k : ℕ) → at s k ≡ false
unfolding all_off
all_off_at [] h k = refl
all_off_at (l ∷ ls) h zero = not-true l (and_parts (not l) (all_off ls) h).0
all_off_at (l ∷ ls) h (suc k) = all_off_at ls (and_parts (not l) (all_off ls) h).1 k

pub all_off_from : (s : Lamps) → ((k : ℕ) → k < length s → at s k ≡ false) → all_off s ≡ true
unfolding all_off
all_off_from [] h = refl
all_off_from (l ∷ ls) h =
    and_from (not l) (all_off ls) (not_from_false l (h 0 (omega arith))) (all_off_from ls (λ k b. h (suc k) (omega arith)))

pub length_none_lit : (n : ℕ) → length (none_lit n) ≡ n
unfolding none_lit
length_none_lit zero = refl
length_none_lit (suc n) = ap suc (length_none_lit n)

pub at_none_lit : (n k : ℕ) → at (none_lit n) k ≡ false
unfolding none_lit
at_none_lit zero k = refl
at_none_lit (suc n) zero = refl
at_none_lit (suc n) (suc k) = at_none_lit n k

pub length_all_lit : (n : ℕ) → length (all_lit n) ≡ n
unfolding all_lit
length_all_lit zero = refl
length_all_lit (suc n) = ap suc (length_all_lit n)

pub at_all_lit : (n k : ℕ) → k < n → at (all_lit n) k ≡ true
unfolding all_lit
at_all_lit zero k h = absurd (omega arith)
at_all_lit (suc n) zero h = refl
at_all_lit (suc n) (suc k) h = at_all_lit n k (omega arith)

-- lamp i alone
pub at_alone : (n i k : ℕ) → i < n → at (set (none_lit n) i true) k ≡ only i k
at_alone n i k h = elim (cases_eq k i) [
  | inl e ↦ subst (λ z. at (set (none_lit n) i true) z ≡ only i z) (sym e)
      (get_or-set_same (none_lit n) i true false (rw length_none_lit h) ∙ sym (only_self i))
  | inr ne ↦ get_or-set_other (none_lit n) i k true false ne ∙ at_none_lit n k ∙ sym (only_other i k ne)
]

-- PRESSES

-- which lamps presses change: the table's rows on the presses
pub odd_for_is : (ws : List Wire) (p : Lamps) (j n : ℕ) → odd_for ws p j n ≡ act n (table ws) (at p) j
unfolding odd_for
odd_for_is ws p j zero = refl
odd_for_is ws p j (suc n) = ap₂ differ (and_comm (at p n) (changes ws n j)) (odd_for_is ws p j n)

length_lit_from : (ws : List Wire) (s p : Lamps) (n i : ℕ) → length (lit_from ws s p n i) ≡ n
unfolding lit_from
length_lit_from ws s p zero i = refl
length_lit_from ws s p (suc n) i = ap suc (length_lit_from ws s p n (suc i))

abbrev lit_at : List Wire → Lamps → Lamps → ℕ → Bool
lit_at ws s p j = differ (at s j) (odd_for ws p j (length s))

at_lit_from : (ws : List Wire) (s p : Lamps) (n i k : ℕ) → k < n → at (lit_from ws s p n i) k ≡ lit_at ws s p (i + k)
unfolding lit_from
at_lit_from ws s p zero i k h = absurd (omega arith)
at_lit_from ws s p (suc n) i zero h = ap (lit_at ws s p) (sym (add-zero i))
at_lit_from ws s p (suc n) i (suc k) h = at_lit_from ws s p n (suc i) k (omega arith) ∙ ap (lit_at ws s p) (suc-add i k ∙ sym (add-suc i k))

pub length_pressed : (ws : List Wire) (s p : Lamps) → length (pressed ws s p) ≡ length s
length_pressed ws s p = length_lit_from ws s p (length s) 0

pub at_pressed : (ws : List Wire) (s p : Lamps) (k : ℕ) → k < length s → at (pressed ws s p) k ≡ differ (at s k) (odd_for ws p k (length s))
at_pressed ws s p k h = at_lit_from ws s p (length s) 0 k h ∙ ap (lit_at ws s p) (zero-add k)

pub at_pressed_act : (ws : List Wire) (s p : Lamps) (k : ℕ) → k < length s → at (pressed ws s p) k ≡ differ (at s k) (act (length s) (table ws) (at p) k)
at_pressed_act ws s p k h = at_pressed ws s p k h ∙ ap (differ (at s k)) (odd_for_is ws p k (length s))

-- one press
pub at_pressed_one : (ws : List Wire) (s : Lamps) (i k : ℕ) → i < length s → k < length s → at (pressed ws s (set (none_lit (length s)) i true)) k ≡ differ (at s k) (changes ws i k)
at_pressed_one ws s i k hi hk =
    at_pressed_act ws s (set (none_lit n) i true) k hk
    ∙ ap (differ (at s k)) (dot_right n (table ws k) (at (set (none_lit n) i true)) (only i) (λ j _. at_alone n i j hi) ∙ dot_only n (table ws k) i hi)
  where
    n : ℕ
    n = length s

-- LAMPS THAT ARE LISTED: one pressed, one turned
pub pressed_listed : (ws : List Wire) (n : ℕ) (f : Row) (i : ℕ) → i < n → pressed ws (listed n f) (set (none_lit (length (listed n f))) i true) ≡ listed n (λ k. differ (f k) (changes ws i k))
pressed_listed ws n f i h = listed_is n (pressed ws s one) (λ k. differ (f k) (changes ws i k)) (length_pressed ws s one ∙ length_listed n f)
    (λ k l. at_pressed_one ws s i k (rw length_listed h) (rw length_listed l) ∙ ap (λ x. differ x (changes ws i k)) (at_listed n f k l))
  where
    s : Lamps
    s = listed n f

    one : Lamps
    one = set (none_lit (length s)) i true

pub turned_listed : (n : ℕ) (f : Row) (i : ℕ) → i < n → set (listed n f) i (not (at (listed n f) i)) ≡ listed n (λ k. differ (f k) (only i k))
turned_listed n f i h = listed_is n (set s i (not (at s i))) (λ k. differ (f k) (only i k)) (length-set s i (not (at s i)) ∙ length_listed n f) each
  where
    s : Lamps
    s = listed n f

    flip : (a b : Bool) → b ≡ true → not a ≡ differ a b
    flip a b e = grind arith

    keep : (a b : Bool) → b ≡ false → a ≡ differ a b
    keep a b e = grind arith

    each : (k : ℕ) → k < n → at (set s i (not (at s i))) k ≡ differ (f k) (only i k)
    each k l = elim (cases_eq k i) [
      | inl e ↦ subst (λ z. at (set s i (not (at s i))) z ≡ differ (f z) (only i z)) (sym e)
          (get_or-set_same s i (not (at s i)) false (rw length_listed h) ∙ ap not (at_listed n f i h) ∙ flip (f i) (only i i) (only_self i))
      | inr ne ↦ get_or-set_other s i k (not (at s i)) false ne ∙ at_listed n f k l ∙ keep (f k) (only i k) (only_other i k ne)
    ]
