-- The bits of a word: what `^`, `&`, a shift and `count_ones` do to each. Assumes nothing.
use Rattle.std.proofs.Common.{◌≡◌, ℕ, zero, suc, ◌*◌, ◌/◌, ◌%◌, ◌^◌, ◌<◌, true, false, ◌&&◌, eqb, sym, refl, ap, ◌∙◌, ⊎_elim, mod-lt, mul_comm, div-lt_iff_lt-mul, pow-suc, div-one, mul-div_cancel, arith}
use native.Mathlib.Nat.{div-div-eq-div-mul, zero-div, mul-mod_left}
use lib.Dec.{eqb-zero-suc, eqb-suc-zero, eqb-suc-suc}
use lib.Bits.{bit_and, bit_xor, and_shr, xor_shr, and_mod, xor_mod, and_mask}
use Rattle.std.proofs.lemmas.Nat.{one_shl}
use Rattle.std.proofs.lemmas.Bool.{eqb-true, eqb-false, cases_eq}
use Rattle.bits.specs.Bits.{bit}
use Rattle.gf2.specs.Rows.{differ}

-- ---- a digit is 0 or 1

digit_xor : (p q : ℕ) → p < 2 → q < 2 → eqb (bit_xor p q) 1 ≡ differ (eqb p 1) (eqb q 1)
digit_xor zero q hp hq = refl
digit_xor (suc zero) zero hp hq = refl
digit_xor (suc zero) (suc zero) hp hq = refl
digit_xor (suc zero) (suc (suc q)) hp hq = absurd (omega arith)
digit_xor (suc (suc p)) q hp hq = absurd (omega arith)

digit_and : (p q : ℕ) → p < 2 → q < 2 → eqb (bit_and p q) 1 ≡ (eqb p 1 && eqb q 1)
digit_and zero q hp hq = refl
digit_and (suc zero) zero hp hq = refl
digit_and (suc zero) (suc zero) hp hq = refl
digit_and (suc zero) (suc (suc q)) hp hq = absurd (omega arith)
digit_and (suc (suc p)) q hp hq = absurd (omega arith)

-- ---- each bit of `a ^ b` and of `a & b`

pub xor_bit : (a b k : ℕ) → bit (bit_xor a b) k ≡ differ (bit a k) (bit b k)
unfolding bit
xor_bit a b k =
    ap (λ x. eqb (x % 2) 1) (xor_shr a b k) ∙ ap (λ x. eqb x 1) (xor_mod (a / 2 ^ k) (b / 2 ^ k) 1)
    ∙ digit_xor (a / 2 ^ k % 2) (b / 2 ^ k % 2) (mod-lt _ (omega arith)) (mod-lt _ (omega arith))

pub and_bit : (a b k : ℕ) → bit (bit_and a b) k ≡ (bit a k && bit b k)
unfolding bit
and_bit a b k =
    ap (λ x. eqb (x % 2) 1) (and_shr a b k) ∙ ap (λ x. eqb x 1) (and_mod (a / 2 ^ k) (b / 2 ^ k) 1)
    ∙ digit_and (a / 2 ^ k % 2) (b / 2 ^ k % 2) (mod-lt _ (omega arith)) (mod-lt _ (omega arith))

-- ---- the lowest bit, and the others

pub bit_zero : (w : ℕ) → bit w 0 ≡ eqb (w % 2) 1
unfolding bit
bit_zero w = ap (λ x. eqb (x % 2) 1) (div-one w)

pub bit_suc : (w k : ℕ) → bit w (suc k) ≡ bit (w / 2) k
unfolding bit
bit_suc w k =
    ap (λ x. eqb (w / x % 2) 1) (pow-suc 2 k ∙ mul_comm (2 ^ k) 2) ∙ ap (λ x. eqb (x % 2) 1) (sym (div-div-eq-div-mul w 2 (2 ^ k)))

-- no bit of 0 is set
pub bit_of_zero : (k : ℕ) → bit 0 k ≡ false
unfolding bit
bit_of_zero k = ap (λ x. eqb (x % 2) 1) (zero-div (2 ^ k))

-- ---- what the code writes: `w >> k & 1 == 1` reads a bit, and `w ^ 1 << j` turns one over

pub bit_read : (w k : ℕ) → eqb (bit_and (w / 2 ^ k) 1) 1 ≡ bit w k
unfolding bit
bit_read w k = ap (λ x. eqb x 1) (and_mask (w / 2 ^ k) 1)

-- 1 << j has the bit j alone
pub bit_pow : (j k : ℕ) → bit (2 ^ j) k ≡ eqb k j
bit_pow zero zero = bit_zero 1
bit_pow zero (suc k) = bit_suc 1 k ∙ bit_of_zero k ∙ sym (eqb-suc-zero k)
bit_pow (suc j) zero =
    bit_zero (2 ^ suc j) ∙ ap (λ x. eqb (x % 2) 1) (pow-suc 2 j) ∙ ap (λ x. eqb x 1) (mul-mod_left (2 ^ j) 2) ∙ sym (eqb-zero-suc j)
bit_pow (suc j) (suc k) =
    bit_suc (2 ^ suc j) k ∙ ap (λ x. bit (x / 2) k) (pow-suc 2 j) ∙ ap (λ x. bit x k) (mul-div_cancel (2 ^ j) (omega arith))
    ∙ bit_pow j k ∙ sym (eqb-suc-suc k j)

pub bit_flip : (w j k : ℕ) → j < 64 → bit (bit_xor w ((1 * 2 ^ j) % 2 ^ 64)) k ≡ differ (bit w k) (eqb k j)
bit_flip w j k h = ap (λ x. bit (bit_xor w x) k) (one_shl j 64 h) ∙ xor_bit w (2 ^ j) k ∙ ap (differ (bit w k)) (bit_pow j k)

-- ---- words below 2 ^ n with the same bits are the same

same_digit : (p q : ℕ) → p < 2 → q < 2 → eqb p 1 ≡ eqb q 1 → p ≡ q
same_digit zero zero hp hq e = refl
same_digit zero (suc zero) hp hq e = absurd (eqb-false 0 1 refl (eqb-true 0 1 e))
same_digit (suc zero) zero hp hq e = absurd (eqb-false 0 1 refl (eqb-true 0 1 (sym e)))
same_digit (suc zero) (suc zero) hp hq e = refl
same_digit zero (suc (suc q)) hp hq e = absurd (omega arith)
same_digit (suc zero) (suc (suc q)) hp hq e = absurd (omega arith)
same_digit (suc (suc p)) q hp hq e = absurd (omega arith)

pub half_below : (w n : ℕ) → w < 2 ^ suc n → w / 2 < 2 ^ n
half_below w n h = let e = pow-suc 2 n in (div-lt_iff_lt-mul (omega arith)).1 (omega arith)

pub same_bits : (n a b : ℕ) → a < 2 ^ n → b < 2 ^ n → ((k : ℕ) → k < n → bit a k ≡ bit b k) → a ≡ b
same_bits zero a b ha hb same = omega arith
same_bits (suc n) a b ha hb same =
    let low = same_digit (a % 2) (b % 2) (mod-lt a (omega arith)) (mod-lt b (omega arith)) (sym (bit_zero a) ∙ same 0 (omega arith) ∙ bit_zero b) in
    let others : (k : ℕ) → k < n → bit (a / 2) k ≡ bit (b / 2) k = λ k h. sym (bit_suc a k) ∙ same (suc k) (omega arith) ∙ bit_suc b k in
    let high = same_bits n (a / 2) (b / 2) (half_below a n ha) (half_below b n hb) others in
    omega arith

-- a word that is not 0 has a bit set
pub some_bit : (n w : ℕ) → w < 2 ^ n → (w ≡ 0 → ⊥) → (k : ℕ) × (k < n) × (bit w k ≡ true)
some_bit zero w h ne = absurd (ne (omega arith))
some_bit (suc n) w h ne = ⊎_elim lowest (λ even. higher (some_bit n (w / 2) (half_below w n h) (half even))) (cases_eq (w % 2) 1)
  where
    lowest : w % 2 ≡ 1 → (k : ℕ) × (k < suc n) × (bit w k ≡ true)
    lowest e = (0, omega arith, bit_zero w ∙ ap (λ x. eqb x 1) e)

    half : (w % 2 ≡ 1 → ⊥) → w / 2 ≡ 0 → ⊥
    half even e = ne (omega arith)

    higher : (k : ℕ) × (k < n) × (bit (w / 2) k ≡ true) → (k : ℕ) × (k < suc n) × (bit w k ≡ true)
    higher (k, l, e) = (suc k, omega arith, bit_suc w k ∙ e)
