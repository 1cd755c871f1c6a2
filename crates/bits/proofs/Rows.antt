-- The bits of a row of words. Assumes nothing.
use Rattle.std.proofs.Common.{◌≡◌, ℕ, ◌+◌, ◌*◌, ◌/◌, ◌%◌, ◌^◌, ◌<◌, ◌≤◌, Bool, false, ◌&&◌, eqb, List, length, get_or, set, sym, ap, ◌∙◌, ap₂, ⊎_elim, arith, get_or-set_other, get_or-set_same}
use lib.Bits.{bit_and, bit_xor}
use lib.Count.{ones}
use Rattle.std.proofs.lemmas.List.{get_or_past, ext_get_or}
use Rattle.std.proofs.lemmas.Bool.{cases_eq, cases_lt, ne_eqb}
use Rattle.std.proofs.lemmas.Bool.Decides.{nat_tests}
use Rattle.bits.specs.Bits.{bit, bit_of}
use Rattle.gf2.specs.Rows.{differ, tally, parity}
use Rattle.bits.proofs.Words.{xor_bit, and_bit, bit_flip, bit_of_zero, same_bits}
use Rattle.gf2.proofs.Parity.{differ_false, parity_cong, parity_differ}
use Rattle.gf2.proofs.Tally.{tally_cong}
use Rattle.bits.proofs.Counts.{tally_cat, ones_bits, parity_cat}

-- bit k of word i
pub bit_of_word : (ws : List ℕ) (i k : ℕ) → k < 64 → bit_of ws (64 * i + k) ≡ bit (get_or ws i 0) k
bit_of_word ws i k h = ap₂ (λ x y. bit (get_or ws x 0) y) (omega arith) (omega arith)

-- rows of words of 64 bits with the same bits are the same
pub same_rows : (xs ys : List ℕ) → length xs ≡ length ys
    → ((i : ℕ) → get_or xs i 0 < 2 ^ 64) → ((i : ℕ) → get_or ys i 0 < 2 ^ 64)
    → ((k : ℕ) → k < 64 * length xs → bit_of xs k ≡ bit_of ys k) → xs ≡ ys
same_rows xs ys long fx fy same = ext_get_or 0 xs ys long (λ i h. same_bits 64 (get_or xs i 0) (get_or ys i 0) (fx i) (fy i) (each i h))
  where
    each : (i : ℕ) → i < length xs → (k : ℕ) → k < 64 → bit (get_or xs i 0) k ≡ bit (get_or ys i 0) k
    each i h k l = sym (bit_of_word xs i k l) ∙ same (64 * i + k) (omega arith) ∙ bit_of_word ys i k l

-- no bit past the last word is set
pub bit_past : (ws : List ℕ) (b : ℕ) → length ws ≤ b / 64 → bit_of ws b ≡ false
bit_past ws b h = ap (λ w. bit w (b % 64)) (get_or_past ws (b / 64) 0 h) ∙ bit_of_zero (b % 64)

-- no bit of a row of zeros is set
pub zero_words : (ws : List ℕ) → ((k : ℕ) → k < length ws → get_or ws k 0 ≡ 0) → (b : ℕ) → bit_of ws b ≡ false
zero_words ws zeros b =
    ⊎_elim (λ h. ap (λ w. bit w (b % 64)) (zeros (b / 64) h) ∙ bit_of_zero (b % 64)) (bit_past ws b) (cases_lt (b / 64) (length ws))

-- ---- a word is written

pub bit_of_set_here : (ws : List ℕ) (j w i : ℕ) → j < length ws → i / 64 ≡ j → bit_of (set ws j w) i ≡ bit w (i % 64)
bit_of_set_here ws j w i h e =
    ap (λ x. bit (get_or (set ws j w) x 0) (i % 64)) e ∙ ap (λ x. bit x (i % 64)) (get_or-set_same ws j w 0 h)

pub bit_of_set_other : (ws : List ℕ) (j w i : ℕ) → (i / 64 ≡ j → ⊥) → bit_of (set ws j w) i ≡ bit_of ws i
bit_of_set_other ws j w i ne = ap (λ x. bit x (i % 64)) (get_or-set_other ws j (i / 64) w 0 ne)

-- bit k of the row is turned over: w is the word that has it, with that bit turned over
pub bit_of_turned : (ws : List ℕ) (k i w : ℕ) → k / 64 < length ws
    → ((b : ℕ) → bit w b ≡ differ (bit (get_or ws (k / 64) 0) b) (eqb b (k % 64)))
    → bit_of (set ws (k / 64) w) i ≡ differ (bit_of ws i) (eqb i k)
bit_of_turned ws k i w h turned = ⊎_elim here other (cases_eq (i / 64) (k / 64))
  where
    here : i / 64 ≡ k / 64 → bit_of (set ws (k / 64) w) i ≡ differ (bit_of ws i) (eqb i k)
    here e =
        let at : eqb (i % 64) (k % 64) ≡ eqb i k = grind (arith, nat_tests) in
        bit_of_set_here ws (k / 64) w i h e ∙ turned (i % 64) ∙ ap₂ (λ x y. differ (bit (get_or ws x 0) (i % 64)) y) (sym e) at

    other : (i / 64 ≡ k / 64 → ⊥) → bit_of (set ws (k / 64) w) i ≡ differ (bit_of ws i) (eqb i k)
    other ne =
        let at : eqb i k ≡ false = ne_eqb i k (λ e. ne (ap (λ x. x / 64) e)) in
        bit_of_set_other ws (k / 64) w i ne ∙ sym (differ_false (bit_of ws i)) ∙ ap (differ (bit_of ws i)) (sym at)

-- as `row[k / 64] ^= 1 << (k % 64)` does
pub bit_of_flip : (ws : List ℕ) (k i : ℕ) → k / 64 < length ws
    → bit_of (set ws (k / 64) (bit_xor (get_or ws (k / 64) 0) ((1 * 2 ^ (k % 64)) % 2 ^ 64))) i ≡ differ (bit_of ws i) (eqb i k)
bit_of_flip ws k i h = bit_of_turned ws k i _ h (λ b. bit_flip (get_or ws (k / 64) 0) (k % 64) b (omega arith))

-- ---- a row is added to another

pub bit_of_xor : (zs xs ys : List ℕ) → length zs ≡ length xs → length xs ≡ length ys
    → ((k : ℕ) → k < length zs → get_or zs k 0 ≡ bit_xor (get_or xs k 0) (get_or ys k 0))
    → (i : ℕ) → bit_of zs i ≡ differ (bit_of xs i) (bit_of ys i)
bit_of_xor zs xs ys ex ey each i = ⊎_elim within past (cases_lt (i / 64) (length zs))
  where
    within : i / 64 < length zs → bit_of zs i ≡ differ (bit_of xs i) (bit_of ys i)
    within h = ap (λ x. bit x (i % 64)) (each (i / 64) h) ∙ xor_bit (get_or xs (i / 64) 0) (get_or ys (i / 64) 0) (i % 64)

    past : length zs ≤ i / 64 → bit_of zs i ≡ differ (bit_of xs i) (bit_of ys i)
    past h =
        let z = get_or_past zs (i / 64) 0 h in
        let x = get_or_past xs (i / 64) 0 (omega arith) in
        let y = get_or_past ys (i / 64) 0 (omega arith) in
        rw (z, x, y, bit_of_zero (i % 64))

-- ---- one word more

pub tally_word : (ws : List ℕ) (i : ℕ) → get_or ws i 0 < 2 ^ 64
    → tally (bit_of ws) (64 * (i + 1)) ≡ tally (bit_of ws) (64 * i) + ones (get_or ws i 0)
tally_word ws i h =
    ap (λ n. tally (bit_of ws) n) (omega arith) ∙ tally_cat (64 * i) 64 (bit_of ws) ∙ ap (λ n. tally (bit_of ws) (64 * i) + n) word
  where
    word : tally (λ k. bit_of ws (64 * i + k)) 64 ≡ ones (get_or ws i 0)
    word = tally_cong (λ k. bit_of ws (64 * i + k)) (bit (get_or ws i 0)) 64 (bit_of_word ws i) ∙ sym (ones_bits 64 (get_or ws i 0) h)

-- the bits that two rows have in common
abbrev pub common : List ℕ → List ℕ → ℕ → Bool
common xs ys k = bit_of xs k && bit_of ys k

-- s has the sum, bit by bit, of the words that the two rows have in common before word i
pub odd_word : (xs ys : List ℕ) (i s : ℕ) → parity (bit s) 64 ≡ parity (common xs ys) (64 * i)
    → parity (bit (bit_xor s (bit_and (get_or xs i 0) (get_or ys i 0)))) 64 ≡ parity (common xs ys) (64 * (i + 1))
odd_word xs ys i s so_far =
    parity_cong (bit (bit_xor s (bit_and (get_or xs i 0) (get_or ys i 0)))) (λ k. differ (bit s k) (common xs ys (64 * i + k))) 64 each
    ∙ parity_differ (bit s) (λ k. common xs ys (64 * i + k)) 64
    ∙ ap (λ b. differ b (parity (λ k. common xs ys (64 * i + k)) 64)) so_far
    ∙ comm (parity (common xs ys) (64 * i)) (parity (λ k. common xs ys (64 * i + k)) 64)
    ∙ sym (parity_cat (64 * i) 64 (common xs ys)) ∙ ap (λ n. parity (common xs ys) n) (omega arith)
  where
    comm : (a b : Bool) → differ a b ≡ differ b a
    comm a b = grind arith

    each : (k : ℕ) → k < 64 → bit (bit_xor s (bit_and (get_or xs i 0) (get_or ys i 0))) k ≡ differ (bit s k) (common xs ys (64 * i + k))
    each k h =
        xor_bit s (bit_and (get_or xs i 0) (get_or ys i 0)) k
        ∙ ap (differ (bit s k)) (and_bit (get_or xs i 0) (get_or ys i 0) k ∙ sym (ap₂ ◌&&◌ (bit_of_word xs i k h) (bit_of_word ys i k h)))
