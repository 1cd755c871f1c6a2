-- The least among the sums of a row with some of k others. Assumes nothing.
use Rattle.std.proofs.Common.{◌≡◌, ℕ, suc, ◌*◌, ◌≤◌, Bool, true, false, ◌&&◌, eqb, ◌⊎◌, Option, List, sym, refl, ap, ◌∙◌, subst, ap₂, inl, inr, arith}
use mathlib.Core.Path.{fun_ext}
use Rattle.std.proofs.lemmas.Bool.{eq-eqb, ne_eqb, cases_Bool}
use Rattle.gf2.specs.Rows.{pick, differ, Row, Rows, parity, tally}
use Rattle.gf2.proofs.Parity.{parity_cong, differ_false, differ_assoc}
use Rattle.gf2.proofs.Tally.{tally_cong}
use Rattle.matrix.specs.Cells.{cell}
use Rattle.fewest.specs.Sets.{sum_of, may_take, Least}

-- a choice for one more
abbrev pub choose : (ℕ → Bool) → ℕ → Bool → ℕ → Bool
choose e k x b = pick (eqb b k) x (e b)

pub parity_choose : (e : ℕ → Bool) (S : Rows) (k : ℕ) (x : Bool) (j : ℕ)
    → parity (λ b. choose e k x b && S b j) (suc k) ≡ differ (x && S k j) (parity (λ b. e b && S b j) k)
parity_choose e S k x j = ap₂ (λ a b. differ a b)
    (ap (λ t. pick t x (e k) && S k j) (eq-eqb k k refl))
    (parity_cong (λ b. choose e k x b && S b j) (λ b. e b && S b j) k (λ b l. ap (λ t. pick t x (e b) && S b j) (ne_eqb b k (omega arith))))

-- x is turned over where s is, and back again
pub turned : {x y z s t : Bool} → x ≡ differ y s → y ≡ z → s ≡ t → x ≡ differ z t
turned e f g = e ∙ ap₂ (λ a b. differ a b) f g

turned_twice : (a b : Bool) → differ (differ a b) b ≡ a
turned_twice a b = grind arith

pub turned_back : (x v s : Bool) {y : Bool} → x ≡ differ y s → y ≡ differ v s → x ≡ v
turned_back x v s e f = e ∙ ap (λ b. differ b s) f ∙ turned_twice v s

module _ (m : ℕ) (S : Rows) (ok : Row → Bool) (p : Row) where
  -- what is accepted depends on the bits alone
  moved : (a b : Row) → ((j : ℕ) → a j ≡ b j) → ok b ≡ true → ok a ≡ true
  moved a b h t = ap ok (fun_ext h) ∙ t

  none_added : (e : ℕ → Bool) (j : ℕ) → sum_of 0 e S p j ≡ p j
  none_added e j = differ_false (p j)

  -- with no set, there is one sum
  pub least_here : (old : Row) (bound : ℕ) (new : Row) (count : ℕ) → count ≡ tally p m → ((j : ℕ) → new j ≡ p j) → count ≤ bound → ok p ≡ true → Least m 0 S ok p old new bound count
  least_here old bound new count e same l t = record {
    counted = e ∙ sym (tally_cong new p m (λ j _. same j));
    below = l;
    least = λ c _. omega (arith, e ∙ sym (tally_cong (sum_of 0 c S p) p m (λ j _. none_added c j)));
    one_of = inr (λ _. false, λ j. same j ∙ sym (none_added (λ _. false) j), moved new p same t);
  }

  -- one set more: p₁ is p with row k added
  module _ (k : ℕ) (p₁ old mid new : Row) (bound c₁ c₂ : ℕ) (add : (j : ℕ) → p₁ j ≡ differ (p j) (S k j))
      (a : Least m k S ok p old mid bound c₁) (b : Least m k S ok p₁ mid new c₁ c₂) where
    with_it : (e : ℕ → Bool) (j : ℕ) → sum_of k e S p₁ j ≡ differ (p j) (differ (S k j) (parity (λ b. e b && S b j) k))
    with_it e j = ap (λ x. differ x (parity (λ b. e b && S b j) k)) (add j) ∙ differ_assoc (p j) (S k j) (parity (λ b. e b && S b j) k)

    every : (e : ℕ → Bool) → ok (sum_of (suc k) e S p) ≡ true → (e k ≡ true) ⊎ (e k ≡ false) → c₂ ≤ tally (sum_of (suc k) e S p) m
    every e u (inl t) =
        let same : (j : ℕ) → sum_of k e S p₁ j ≡ sum_of (suc k) e S p j =
        λ j. with_it e j ∙ ap (λ x. differ (p j) (differ (x && S k j) (parity (λ b. e b && S b j) k))) (sym t) in
        omega (arith, b.least e (moved _ _ same u), tally_cong (sum_of k e S p₁) (sum_of (suc k) e S p) m (λ j _. same j))
    every e u (inr f) =
        let same : (j : ℕ) → sum_of k e S p j ≡ sum_of (suc k) e S p j =
        λ j. ap (λ x. differ (p j) (differ (x && S k j) (parity (λ b. e b && S b j) k))) (sym f) in
        omega (arith, a.least e (moved _ _ same u), b.below, tally_cong (sum_of k e S p) (sum_of (suc k) e S p) m (λ j _. same j))

    some : ((j : ℕ) → new j ≡ mid j) ⊎ ((e : ℕ → Bool) × ((j : ℕ) → new j ≡ sum_of k e S p₁ j) × (ok new ≡ true))
        → ((j : ℕ) → mid j ≡ old j) ⊎ ((e : ℕ → Bool) × ((j : ℕ) → mid j ≡ sum_of k e S p j) × (ok mid ≡ true))
        → ((j : ℕ) → new j ≡ old j) ⊎ ((e : ℕ → Bool) × ((j : ℕ) → new j ≡ sum_of (suc k) e S p j) × (ok new ≡ true))
    some (inl x) (inl y) = inl (λ j. x j ∙ y j)
    some (inl x) (inr y) = inr (choose y.0 k false, λ j. x j ∙ y.1 j ∙ ap (λ z. differ (p j) z) (sym (parity_choose y.0 S k false j)), moved new mid x y.2)
    some (inr x) y = inr (choose x.0 k true, λ j. x.1 j ∙ with_it x.0 j ∙ ap (λ z. differ (p j) z) (sym (parity_choose x.0 S k true j)), x.2)

    pub least_more : Least m (suc k) S ok p old new bound c₂
    least_more = record {
      counted = b.counted;
      below = omega (arith, a.below, b.below);
      least = λ e u. every e u (cases_Bool (e k));
      one_of = some b.one_of a.one_of;
    }

-- least among rows of w words, which are `width`
pub least_at : (w width k : ℕ) (xs : List ℕ) (against : Option (List ℕ)) (p old new : Row) (bound count : ℕ) → w ≡ width
    → Least (64 * w) k (cell xs w) (may_take (64 * w) against) p old new bound count → Least (64 * width) k (cell xs width) (may_take (64 * width) against) p old new bound count
least_at w width k xs against p old new bound count e l = subst (λ x. Least (64 * x) k (cell xs x) (may_take (64 * x) against) p old new bound count) e l
