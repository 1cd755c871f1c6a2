-- Which columns are free, and how many are before one. Assumes nothing.
use Rattle.std.proofs.Common.{◌≡◌, ℕ, zero, suc, ◌+◌, ◌<◌, ◌≤◌, Bool, true, false, not, ◌&&◌, ◌||◌, eqb, ◌⊎◌, sym, refl, ap, ◌∙◌, ap₂, inl, inr, not-suc-le-zero, add-one, arith}
use mathlib.Core.Bool.{false≢true}
use Rattle.gf2.proofs.Parity.{differ_false}
use Rattle.std.proofs.Math.Bool.{or-true}
use Rattle.std.proofs.lemmas.Bool.{cases_Bool, cases_eq, eq-eqb, ne_eqb}
use Rattle.gf2.specs.Rows.{differ, Row, Rows, parity, tally, one}
use Rattle.gf2.specs.Reduction.{Pivots, Free, Marks}
use Rattle.echelon.specs.Laws.{ZeroRows}
use Rattle.fewest.specs.Sets.{taken, free}
use Rattle.fewest.proofs.Sums.{choose, parity_choose}

or_on : (a b : Bool) → b ≡ true → (a || b) ≡ true
or_on a b h = grind arith

pub taken_here : (n : ℕ) (c : ℕ → ℕ) (j i : ℕ) → i < n → c i ≡ j → taken n c j ≡ true
taken_here zero c j i h e = absurd (not-suc-le-zero h)
taken_here (suc n) c j i h e = go (taken_here n c j i) (cases_eq i n)
  where
    go : (i < n → c i ≡ j → taken n c j ≡ true) → (i ≡ n) ⊎ (i ≡ n → ⊥) → (eqb (c n) j || taken n c j) ≡ true
    go ih (inl q) = ap (λ b. b || taken n c j) (eq-eqb (c n) j (sym (ap c q) ∙ e))
    go ih (inr ne) = or_on (eqb (c n) j) (taken n c j) (ih (omega arith) e)

pub taken_none : (n : ℕ) (c : ℕ → ℕ) (j : ℕ) → Free n c j → taken n c j ≡ false
taken_none zero c j h = refl
taken_none (suc n) c j h = ap₂ (λ a b. a || b) (ne_eqb (c n) j (h n (omega arith))) (taken_none n c j (λ i l. h i (omega arith)))

-- one row more: its pivot was set; is set now; is past the columns
module _ (n : ℕ) (c : ℕ → ℕ) (v : Row) (i : ℕ) (so_far : (j : ℕ) → j < n → v j ≡ taken i c j) where
  next : (j : ℕ) (b : Bool) → (eqb (c i) j || taken i c j) ≡ b → taken (i + 1) c j ≡ b
  next j b e = ap (λ m. taken m c j) (add-one i) ∙ e

  pub taken_again : c i < n → true ≡ v (c i) → (j : ℕ) → j < n → v j ≡ taken (i + 1) c j
  taken_again k t j l = so_far j l ∙ sym (next j (taken i c j) (elim (cases_eq (c i) j) [
    | inl e ↦ ap (λ b. eqb (c i) j || b) (here e) ∙ or-true (eqb (c i) j) ∙ sym (here e)
    | inr ne ↦ ap (λ b. b || taken i c j) (ne_eqb (c i) j ne)
  ]))
    where
      here : c i ≡ j → taken i c j ≡ true
      here e = sym (so_far j l) ∙ ap v (sym e) ∙ sym t

  pub taken_new : (w : Row) → c i < n → false ≡ v (c i) → ((j : ℕ) → w j ≡ differ (v j) (eqb j (c i))) → (j : ℕ) → j < n → w j ≡ taken (i + 1) c j
  taken_new w k t turn j l = turn j ∙ sym (next j (differ (v j) (eqb j (c i))) (elim (cases_eq (c i) j) [
    | inl e ↦ ap₂ (λ a b. a || b) (eq-eqb (c i) j e) (sym (so_far j l) ∙ here e) ∙ sym (ap₂ differ (here e) (eq-eqb j (c i) (sym e)))
    | inr ne ↦ ap (λ b. b || taken i c j) (ne_eqb (c i) j ne) ∙ sym (ap₂ differ (so_far j l) (ne_eqb j (c i) (λ e. ne (sym e))) ∙ differ_false (taken i c j))
  ]))
    where
      here : c i ≡ j → v j ≡ false
      here e = ap v (sym e) ∙ sym t

  pub taken_past : n ≤ c i → (j : ℕ) → j < n → v j ≡ taken (i + 1) c j
  taken_past g j l = so_far j l ∙ sym (next j (taken i c j) (ap (λ b. b || taken i c j) (ne_eqb (c i) j (omega arith))))

pub free_marks : (n : ℕ) (c : ℕ → ℕ) → Marks n c (free n c)
free_marks n c = record {
  pivot = λ i l k. ap (λ b. not b) (taken_here n c (c i) i l refl);
  none = λ j l f. ap (λ b. not b) (taken_none n c j f);
}

pub free_is : (n : ℕ) (c : ℕ → ℕ) (j : ℕ) → free n c j ≡ true → Free n c j
free_is n c j t i l e = false≢true (sym (ap (λ b. not b) (taken_here n c j i l e)) ∙ t)

-- as many columns are free as rows have no pivot
pub free_many : (n k : ℕ) (c : ℕ → ℕ) (R : Rows) → ZeroRows n c k → Pivots n R c → k ≡ tally (free n c) n
free_many n k c R zeros pv = zeros.free R (free n c) pv (free_marks n c)

module _ (g : ℕ → Bool) where
  rank_zero : tally g 0 ≡ 0
  rank_zero = refl

  pub rank_on : (f : ℕ) → g f ≡ true → tally g (suc f) ≡ suc (tally g f)
  rank_on f t = let e : one (g f) ≡ 1 = ap one t in omega arith

  pub rank_off : (f : ℕ) → g f ≡ false → tally g (suc f) ≡ tally g f
  rank_off f t = let e : one (g f) ≡ 0 = ap one t in omega arith

  rank_step : (f : ℕ) → tally g f ≤ tally g (suc f)
  rank_step f = omega arith

  -- those before f are fewer than all
  pub rank_below : (n f : ℕ) → f < n → g f ≡ true → tally g f < tally g n
  rank_below zero f h t = absurd (not-suc-le-zero h)
  rank_below (suc n) f h t = go (rank_below n f) (cases_eq f n)
    where
      go : (f < n → g f ≡ true → tally g f < tally g n) → (f ≡ n) ⊎ (f ≡ n → ⊥) → tally g f < tally g (suc n)
      go ih (inl e) = let a : tally g f ≡ tally g n = ap (λ x. tally g x) e in let b = rank_on n (ap g (sym e) ∙ t) in omega arith
      go ih (inr ne) = let a = ih (omega arith) t in let b = rank_step n in omega arith

  -- the one with b before it
  pub ranked : (n b : ℕ) → b < tally g n → (f : ℕ) × (f < n) × (g f ≡ true) × (tally g f ≡ b)
  ranked zero b h = absurd (let e = rank_zero in omega arith)
  ranked (suc n) b h = go (cases_Bool (g n)) (cases_eq b (tally g n)) (ranked n b)
    where
      go : (g n ≡ true) ⊎ (g n ≡ false) → (b ≡ tally g n) ⊎ (b ≡ tally g n → ⊥)
          → (b < tally g n → (f : ℕ) × (f < n) × (g f ≡ true) × (tally g f ≡ b))
          → (f : ℕ) × (f < suc n) × (g f ≡ true) × (tally g f ≡ b)
      go (inl t) (inl e) ih = (n, omega arith, t, sym e)
      go (inl t) (inr ne) ih = let a = rank_on n t in let w = ih (omega arith) in (w.0, omega arith, w.2, w.3)
      go (inr f) d ih = let a = rank_off n f in let w = ih (omega arith) in (w.0, omega arith, w.2, w.3)

  -- a sum over those that pass the test, as one over their ranks
  pub by_rank : (x : Row) (S : Rows) (n : ℕ) → (e : ℕ → Bool)
      × ((j : ℕ) → parity (λ f. (g f && x f) && S (tally g f) j) n ≡ parity (λ b. e b && S b j) (tally g n))
  by_rank x S zero = (x, λ j. ap (λ m. parity (λ b. x b && S b j) m) (sym rank_zero))
  by_rank x S (suc n) = go (cases_Bool (g n)) (by_rank x S n)
    where
      go : (g n ≡ true) ⊎ (g n ≡ false) → (e : ℕ → Bool) × ((j : ℕ) → parity (λ f. (g f && x f) && S (tally g f) j) n ≡ parity (λ b. e b && S b j) (tally g n))
          → (e : ℕ → Bool) × ((j : ℕ) → parity (λ f. (g f && x f) && S (tally g f) j) (suc n) ≡ parity (λ b. e b && S b j) (tally g (suc n)))
      go (inl t) (e, h) = (
        choose e (tally g n) (x n),
        λ j.
            ap₂ (λ a b. differ ((a && x n) && S (tally g n) j) b) t (h j)
            ∙ sym (parity_choose e S (tally g n) (x n) j)
            ∙ ap (λ m. parity (λ b. choose e (tally g n) (x n) b && S b j) m) (sym (rank_on n t)),
      )
      go (inr f) (e, h) = (
        e,
        λ j.
            ap₂ (λ a b. differ ((a && x n) && S (tally g n) j) b) f (h j)
            ∙ ap (λ m. parity (λ b. e b && S b j) m) (sym (rank_off n f)),
      )
