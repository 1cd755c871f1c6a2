-- Sums over two elements: `parity f n` is the sum of f 0, .., f (n - 1), with `differ` for the sum of two and `&&` for the product. Assumes nothing.
use Rattle.std.proofs.Common.{◌≡◌, ℕ, zero, suc, ◌+◌, ◌<◌, Bool, false, ◌&&◌, sym, refl, ap, ◌∙◌, ap₂, add-zero, add-suc, arith}
use Rattle.gf2.specs.Rows.{differ, parity}

-- two elements
pub differ_false : (a : Bool) → differ a false ≡ a
differ_false a = grind arith

pub differ_comm : (a b : Bool) → differ a b ≡ differ b a
differ_comm a b = grind arith

pub differ_assoc : (a b c : Bool) → differ (differ a b) c ≡ differ a (differ b c)
differ_assoc a b c = grind arith

pub differ_left : (a b c : Bool) → differ a (differ b c) ≡ differ b (differ a c)
differ_left a b c = grind arith

pub swap_four : (a b c d : Bool) → differ (differ a b) (differ c d) ≡ differ (differ a c) (differ b d)
swap_four a b c d = grind arith

pub and_false : (a : Bool) → (a && false) ≡ false
and_false a = grind arith

pub and_differ : (a b c : Bool) → differ (a && b) (a && c) ≡ (a && differ b c)
and_differ a b c = grind arith

-- alike below n
pub parity_cong : (f g : ℕ → Bool) (n : ℕ) → ((i : ℕ) → i < n → f i ≡ g i) → parity f n ≡ parity g n
parity_cong f g zero h = refl
parity_cong f g (suc n) h = ap₂ differ (h n (omega arith)) (parity_cong f g n (λ i k. h i (omega arith)))

pub parity_none : (f : ℕ → Bool) (n : ℕ) → ((i : ℕ) → i < n → f i ≡ false) → parity f n ≡ false
parity_none f zero h = refl
parity_none f (suc n) h = ap₂ differ (h n (omega arith)) (parity_none f n (λ i k. h i (omega arith)))

-- linear
pub parity_differ : (f g : ℕ → Bool) (n : ℕ) → parity (λ i. differ (f i) (g i)) n ≡ differ (parity f n) (parity g n)
parity_differ f g zero = refl
parity_differ f g (suc n) = ap (differ (differ (f n) (g n))) (parity_differ f g n) ∙ swap_four (f n) (g n) (parity f n) (parity g n)

pub parity_and : (c : Bool) (f : ℕ → Bool) (n : ℕ) → parity (λ i. c && f i) n ≡ (c && parity f n)
parity_and c f zero = sym (and_false c)
parity_and c f (suc n) = ap (differ (c && f n)) (parity_and c f n) ∙ and_differ c (f n) (parity f n)

-- the first taken off; a sum in two parts
pub parity_first : (f : ℕ → Bool) (n : ℕ) → parity f (suc n) ≡ differ (f 0) (parity (λ i. f (suc i)) n)
parity_first f zero = refl
parity_first f (suc n) = ap (differ (f (suc n))) (parity_first f n) ∙ differ_left (f (suc n)) (f 0) (parity (λ i. f (suc i)) n)

pub parity_split : (f : ℕ → Bool) (m n : ℕ) → parity f (m + n) ≡ differ (parity f m) (parity (λ i. f (m + i)) n)
parity_split f m zero = ap (parity f) (add-zero m) ∙ sym (differ_false (parity f m))
parity_split f m (suc n) =
    ap (parity f) (add-suc m n)
    ∙ ap (differ (f (m + n))) (parity_split f m n)
    ∙ differ_left (f (m + n)) (parity f m) (parity (λ i. f (m + i)) n)

-- a double sum either way
pub fubini : (f : ℕ → ℕ → Bool) (m n : ℕ) → parity (λ i. parity (λ j. f i j) n) m ≡ parity (λ j. parity (λ i. f i j) m) n
fubini f zero n = sym (parity_none (λ j. false) n (λ i h. refl))
fubini f (suc m) n = ap (differ (parity (λ j. f m j) n)) (fubini f m n) ∙ sym (parity_differ (λ j. f m j) (λ j. parity (λ i. f i j) m) n)

-- a double sum over a symmetric square is the sum over its diagonal
pub parity_square : (f : ℕ → ℕ → Bool) (n : ℕ) → ((i j : ℕ) → f i j ≡ f j i) → parity (λ i. parity (f i) n) n ≡ parity (λ i. f i i) n
parity_square f zero h = refl
parity_square f (suc n) h =
    let row = parity (f n) n in
    let rest = parity (λ i. parity (f i) n) n in
    let column : parity (λ i. f i n) n ≡ row = parity_cong (λ i. f i n) (f n) n (λ i _. h i n) in
    ap (differ (differ (f n n) row)) (parity_differ (λ i. f i n) (λ i. parity (f i) n) n ∙ ap (λ x. differ x rest) column)
    ∙ cancel (f n n) row rest
    ∙ ap (differ (f n n)) (parity_square f n h)
  where
    cancel : (d r c : Bool) → differ (differ d r) (differ r c) ≡ differ d c
    cancel d r c = grind arith
