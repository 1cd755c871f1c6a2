-- How many of the first n pass a test, and whether that is odd; `count_ones` counts the bits of a word. Assumes nothing.
use Rattle.std.proofs.Common.{◌≡◌, ℕ, zero, suc, ◌+◌, ◌-◌, ◌/◌, ◌%◌, ◌^◌, ◌<◌, ◌≤◌, Bool, true, false, eqb, sym, refl, ap, ◌∙◌, ap₂, add-zero, add-suc, mod-lt, arith}
use lib.Arith.{lt-one}
use lib.Count.{ones, ones_step}
use Rattle.std.proofs.lemmas.Bool.Decides.{nat_tests}
use Rattle.bits.specs.Bits.{bit}
use Rattle.gf2.specs.Rows.{differ, one, tally, parity}
use Rattle.gf2.proofs.Parity.{parity_none}
use Rattle.gf2.proofs.Tally.{tally_cong, tally_first}
use Rattle.bits.proofs.Words.{bit_zero, bit_suc, bit_of_zero, half_below}

-- ---- at most all of them

pub tally_le : (n : ℕ) (f : ℕ → Bool) → tally f n ≤ n
tally_le zero f = omega arith
tally_le (suc n) f = let rest = tally_le n f in let one = at_most_one (f n) in omega arith
  where
    at_most_one : (b : Bool) → one b ≤ 1
    at_most_one true = omega arith
    at_most_one false = omega arith

-- ---- the first m, and then n more

pub tally_cat : (m n : ℕ) (f : ℕ → Bool) → tally f (m + n) ≡ tally f m + tally (λ k. f (m + k)) n
tally_cat m zero f = ap (λ x. tally f x) (add-zero m) ∙ sym (add-zero (tally f m))
tally_cat m (suc n) f = ap (λ x. tally f x) (add-suc m n) ∙ (let e = tally_cat m n f in omega arith)

pub parity_cat : (m n : ℕ) (f : ℕ → Bool) → parity f (m + n) ≡ differ (parity (λ k. f (m + k)) n) (parity f m)
parity_cat m zero f = ap (λ x. parity f x) (add-zero m)
parity_cat m (suc n) f =
    ap (λ x. parity f x) (add-suc m n) ∙ ap (differ (f (m + n))) (parity_cat m n f)
    ∙ assoc (f (m + n)) (parity (λ k. f (m + k)) n) (parity f m)
  where
    assoc : (a b c : Bool) → differ a (differ b c) ≡ differ (differ a b) c
    assoc a b c = grind arith

-- past n none: the first n are all that count
pub parity_short : (f : ℕ → Bool) (n m : ℕ) → n ≤ m → ((k : ℕ) → n ≤ k → f k ≡ false) → parity f m ≡ parity f n
parity_short f n m h past =
    ap (λ x. parity f x) (omega arith) ∙ parity_cat n (m - n) f
    ∙ ap (λ b. differ b (parity f n)) (parity_none (λ k. f (n + k)) (m - n) (λ k _. past (n + k) (omega arith)))

-- ---- whether a count is odd

parity_tally : (n : ℕ) (f : ℕ → Bool) → parity f n ≡ eqb (tally f n % 2) 1
parity_tally zero f = refl
parity_tally (suc n) f = ap (differ (f n)) (parity_tally n f) ∙ one_more (f n) (tally f n)
  where
    one_more : (b : Bool) (m : ℕ) → differ b (eqb (m % 2) 1) ≡ eqb ((one b + m) % 2) 1
    one_more true m = grind (arith, nat_tests)
    one_more false m = ap (λ x. eqb (x % 2) 1) (omega arith)

-- ---- `count_ones`

digit_number : (p : ℕ) → p < 2 → p ≡ one (eqb p 1)
digit_number zero h = refl
digit_number (suc zero) h = refl
digit_number (suc (suc p)) h = absurd (omega arith)

pub ones_bits : (n w : ℕ) → w < 2 ^ n → ones w ≡ tally (bit w) n
unfolding ones
ones_bits zero w h = ap ones (lt-one h)
ones_bits (suc n) w h =
    ones_step w
    ∙ ap₂ ◌+◌
    (digit_number (w % 2) (mod-lt w (omega arith)) ∙ ap one (sym (bit_zero w)))
    (ones_bits n (w / 2) (half_below w n h) ∙ tally_cong (λ k. bit (w / 2) k) (λ k. bit w (suc k)) n (λ k _. sym (bit_suc w k)))
    ∙ sym (tally_first (bit w) n)

pub odd_bits : (n w : ℕ) → w < 2 ^ n → parity (bit w) n ≡ eqb (ones w % 2) 1
odd_bits n w h = parity_tally n (bit w) ∙ ap (λ x. eqb (x % 2) 1) (sym (ones_bits n w h))

pub odd_bits_of_zero : (n : ℕ) → parity (bit 0) n ≡ false
odd_bits_of_zero n = parity_none (bit 0) n (λ k _. bit_of_zero k)
