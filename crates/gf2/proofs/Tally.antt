-- How many of the first n are on; what is paired off with no remainder is as many. Assumes nothing.
use Rattle.std.proofs.Common.{◌≡◌, ℕ, zero, suc, ◌+◌, ◌<◌, ◌≤◌, Bool, true, false, not, ◌&&◌, eqb, ◌≢◌, ◌⊎◌, refl, ap, ◌∙◌, ap₂, inl, inr, zero-le, not-suc-le-zero, arith}
use Rattle.std.proofs.lemmas.Bool.{cases_eq, cases_Bool, eq-eqb, ne_eqb, and_from}
use Rattle.gf2.specs.Rows.{Row, Same, one, tally}

pub tally_cong : (f g : Row) (n : ℕ) → Same n f g → tally f n ≡ tally g n
tally_cong f g zero h = refl
tally_cong f g (suc n) h = ap₂ (λ a b. one a + b) (h n (omega arith)) (tally_cong f g n (λ i k. h i (omega arith)))

pub tally_first : (f : Row) (n : ℕ) → tally f (suc n) ≡ one (f 0) + tally (λ i. f (suc i)) n
tally_first f zero = refl
tally_first f (suc n) = ap (λ x. one (f (suc n)) + x) (tally_first f n) ∙ left (one (f (suc n))) (one (f 0)) (tally (λ i. f (suc i)) n)
  where
    left : (a b d : ℕ) → a + (b + d) ≡ b + (a + d)
    left a b d = omega arith

pub tally_not : (f : Row) (n : ℕ) → tally (λ i. not (f i)) n + tally f n ≡ n
tally_not f zero = refl
tally_not f (suc n) = step (f n) (tally (λ i. not (f i)) n) (tally f n) (tally_not f n)
  where
    step : (b : Bool) (x y : ℕ) → x + y ≡ n → (one (not b) + x) + (one b + y) ≡ suc n
    step true x y h = omega arith
    step false x y h = omega arith

-- one taken off
pub tally_off : (g : Row) (n x : ℕ) → x < n → g x ≡ true → tally g n ≡ suc (tally (λ j. g j && not (eqb j x)) n)
tally_off g zero x h on = absurd (not-suc-le-zero h)
tally_off g (suc n) x h on = go (tally_off g n x) (cases_eq n x)
  where
    last : (a b : Bool) (y z : ℕ) → a ≡ true → b ≡ true → y ≡ z → one a + y ≡ suc (one (a && not b) + z)
    last a b y z p q e =
        let on : one a ≡ 1 = ap one p in
        let off : one (a && not b) ≡ 0 = ap₂ (λ u w. one (u && not w)) p q in
        omega arith

    same : (a b : Bool) → b ≡ false → a ≡ (a && not b)
    same a b e = grind arith

    other : (a b : Bool) (y z : ℕ) → b ≡ false → y ≡ suc z → one a + y ≡ suc (one (a && not b) + z)
    other a b y z p e =
        let q : one a ≡ one (a && not b) = ap one (same a b p) in
        omega arith

    go : (x < n → g x ≡ true → tally g n ≡ suc (tally (λ j. g j && not (eqb j x)) n)) → (n ≡ x) ⊎ (n ≡ x → ⊥) → tally g (suc n) ≡ suc (tally (λ j. g j && not (eqb j x)) (suc n))
    go ih (inl e) = last (g n) (eqb n x) (tally g n) (tally (λ j. g j && not (eqb j x)) n) (ap g e ∙ on) (eq-eqb n x e)
        (tally_cong g (λ j. g j && not (eqb j x)) n (λ j k. same (g j) (eqb j x) (ne_eqb j x (omega arith))))
    go ih (inr ne) = other (g n) (eqb n x) (tally g n) (tally (λ j. g j && not (eqb j x)) n) (ne_eqb n x ne) (ih (omega arith) on)

-- each of f has one of g of its own
pub tally_into : (f g : Row) (m n : ℕ) (c : ℕ → ℕ) → ((i : ℕ) → i < m → f i ≡ true → (c i < n) × (g (c i) ≡ true)) → ((i k : ℕ) → i < m → k < m → f i ≡ true → f k ≡ true → c i ≡ c k → i ≡ k) → tally f m ≤ tally g n
tally_into f g zero n c h apart = zero-le
tally_into f g (suc m) n c h apart = go (cases_Bool (f m)) (λ g'. tally_into f g' m n c)
  where
    go : (f m ≡ true) ⊎ (f m ≡ false) →
        ((g' : Row) → ((i : ℕ) → i < m → f i ≡ true → (c i < n) × (g' (c i) ≡ true)) → ((i k : ℕ) → i < m → k < m → f i ≡ true → f k ≡ true → c i ≡ c k → i ≡ k) → tally f m ≤ tally g' n) →
        one (f m) + tally f m ≤ tally g n
    go (inl t) ih =
        let w : (c m < n) × (g (c m) ≡ true) = h m (omega arith) t in
        let a : tally g n ≡ suc (tally (λ j. g j && not (eqb j (c m))) n) = tally_off g n (c m) w.0 w.1 in
        let b : tally f m ≤ tally (λ j. g j && not (eqb j (c m))) n =
        ih (λ j. g j && not (eqb j (c m)))
        (λ i l p.
        let x : (c i < n) × (g (c i) ≡ true) = h i (omega arith) p in
        let ne : c i ≢ c m = λ e. (let q : i ≡ m = apart i m (omega arith) (omega arith) p t e in omega arith) in
        (x.0, and_from (g (c i)) (not (eqb (c i) (c m))) x.1 (ap not (ne_eqb (c i) (c m) ne))))
        (λ i k l q. apart i k (omega arith) (omega arith)) in
        let d : one (f m) ≡ 1 = ap one t in
        omega arith
    go (inr f0) ih =
        let b : tally f m ≤ tally g n = ih g (λ i l. h i (omega arith)) (λ i k l q. apart i k (omega arith) (omega arith)) in
        let d : one (f m) ≡ 0 = ap one f0 in
        omega arith
