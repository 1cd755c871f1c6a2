-- Lamps packed as bits, eight to a byte. Assumes nothing.
use Rattle.std.proofs.Common.{◌≡◌, ℕ, zero, suc, ◌+◌, ◌-◌, ◌*◌, ◌/◌, ◌%◌, ◌^◌, ◌<◌, ◌≤◌, min, Bool, true, false, ◌&&◌, eqb, ltb, List, [], ◌∷◌, ◌++◌, map, length, get_or, drop, set, sym, refl, ap, ◌∙◌, ap₂, ⊎_elim, mod-lt, pow-suc, arith, pow_pos, pow_mono, shr-shr}
use lib.Bits.{bit_and}
use borrow.Rule.Slice.PartMut.{put_mid}
use Rattle.std.specs.List.{range_with_len}
use Rattle.std.proofs.lemmas.Nat.{one_shl, and_le_r}
use Rattle.std.proofs.lemmas.List.FromFn.{get_or-map-range_with_len, length-map-range_with_len, map-range_with_len_more}
use Rattle.std.proofs.lemmas.List.{get_or_past, get_or_append_left, drop_more, set_at, append_assoc, append-nil, drop-drop, drop_all}
use Rattle.std.proofs.lemmas.Bool.{cases_lt, lt-ltb, le-ltb, eq-eqb, ne_eqb, and_right}
use Rattle.std.proofs.lemmas.Bool.Decides.{nat_tests}
use Rattle.std.proofs.Math.Bool.{and-true}
use Rattle.gf2.specs.Rows.{one}
use Rattle.lamps.specs.Lamps.{Lamps, at, listed}
use Rattle.lamps.proofs.Listed.{length_listed, at_listed, listed_same, listed_at}
use Rattle.bits.specs.Bits.{bit, bit_of}
use Rattle.bits.proofs.Words.{bit_zero, bit_suc, and_bit, bit_of_zero, half_below}
use Rattle.calls.specs.Bytes.{two_bytes, valued, eight, packed, unpacked, Put}
use Rattle.calls.specs.Saying.{with_lamps}

-- ---- a number and its bits

valued_same : (n : ℕ) (f g : ℕ → Bool) → ((k : ℕ) → k < n → f k ≡ g k) → valued n f ≡ valued n g
unfolding valued
valued_same zero f g same = refl
valued_same (suc n) f g same = ap₂ (λ b v. one b + 2 * v) (same 0 (omega arith)) (valued_same n _ _ (λ k h. same (suc k) (omega arith)))

one_digit : (d : ℕ) → d < 2 → one (eqb d 1) ≡ d
one_digit zero h = refl
one_digit (suc zero) h = refl
one_digit (suc (suc d)) h = absurd (omega arith)

valued_bits : (n w : ℕ) → w < 2 ^ n → valued n (bit w) ≡ w
unfolding valued
valued_bits zero w h = omega arith
valued_bits (suc n) w h =
    let first = ap one (bit_zero w) ∙ one_digit (w % 2) (mod-lt w (omega arith)) in
    let others = valued_same n (λ k. bit w (suc k)) (bit (w / 2)) (λ k l. bit_suc w k) ∙ valued_bits n (w / 2) (half_below w n h) in
    ap₂ (λ b v. b + 2 * v) first others ∙ omega arith

bit_valued : (n : ℕ) (f : ℕ → Bool) (k : ℕ) → k < n → bit (valued n f) k ≡ f k
unfolding valued
bit_valued zero f k h = absurd (omega arith)
bit_valued (suc n) f zero h = bit_zero (one (f 0) + 2 * valued n (λ k. f (suc k))) ∙ lowest (f 0)
  where
    lowest : (b : Bool) → eqb ((one b + 2 * valued n (λ k. f (suc k))) % 2) 1 ≡ b
    lowest true = eq-eqb _ 1 (omega arith)
    lowest false = ne_eqb _ 1 (λ e. omega arith)
bit_valued (suc n) f (suc k) h = bit_suc (one (f 0) + 2 * valued n (λ k. f (suc k))) k ∙ ap (λ x. bit x k) (half (f 0)) ∙ bit_valued n (λ k. f (suc k)) k (omega arith)
  where
    half : (b : Bool) → (one b + 2 * valued n (λ k. f (suc k))) / 2 ≡ valued n (λ k. f (suc k))
    half true = omega arith
    half false = omega arith

-- ---- what the code does: the bits of `w >> s` and of `(1 << m) - 1`

bit_shr : (w s k : ℕ) → bit (w / 2 ^ s) k ≡ bit w (s + k)
unfolding bit
bit_shr w s k = ap (λ x. eqb (x % 2) 1) (shr-shr w s k)

bit_ones : (m k : ℕ) → bit (2 ^ m - 1) k ≡ ltb k m
bit_ones zero k = bit_of_zero k ∙ sym (le-ltb k 0 (omega arith))
bit_ones (suc m) zero = bit_zero (2 ^ suc m - 1) ∙ eq-eqb _ 1 (omega (arith, pow-suc 2 m, pow_pos m)) ∙ sym (lt-ltb 0 (suc m) (omega arith))
bit_ones (suc m) (suc k) =
    bit_suc (2 ^ suc m - 1) k ∙ ap (λ x. bit x k) (omega (arith, pow-suc 2 m, pow_pos m)) ∙ bit_ones m k ∙ grind (arith, nat_tests)

-- ---- a byte of lamps, as the code makes it

at_past : (n : ℕ) (f : ℕ → Bool) (k : ℕ) → n ≤ k → at (listed n f) k ≡ false
at_past n f k h = get_or_past (listed n f) k false (rw length_listed h)

pub lamps_byte : (ws : List ℕ) (n i left : ℕ) → left ≡ min (n - 8 * i) 8 → bit_and (get_or ws (i / 8) 0 / 2 ^ (8 * (i % 8))) ((1 * 2 ^ left) % 2 ^ 64 - 1) ≡ eight (listed n (bit_of ws)) i
lamps_byte ws n i left least =
    ap (λ x. bit_and shifted (x - 1)) (one_shl left 64 (omega arith)) ∙ sym (valued_bits 8 byte small) ∙ valued_same 8 (bit byte) (λ j. at (listed n (bit_of ws)) (8 * i + j)) each
  where
    shifted : ℕ
    shifted = get_or ws (i / 8) 0 / 2 ^ (8 * (i % 8))

    byte : ℕ
    byte = bit_and shifted (2 ^ left - 1)

    small : byte < 2 ^ 8
    small = let bound : 2 ^ left ≤ 2 ^ 8 = pow_mono {i = left} {j = 8} (omega arith) in omega (arith, and_le_r shifted (2 ^ left - 1), pow_pos left)

    inner : (j : ℕ) → j < 8 → bit shifted j ≡ bit_of ws (8 * i + j)
    inner j h = bit_shr (get_or ws (i / 8) 0) (8 * (i % 8)) j ∙ ap₂ (λ x y. bit (get_or ws x 0) y) (omega arith) (omega arith)

    within : (j : ℕ) → j < 8 → 8 * i + j < n → bit byte j ≡ at (listed n (bit_of ws)) (8 * i + j)
    within j h l =
        and_bit shifted (2 ^ left - 1) j ∙ ap (λ b. bit shifted j && b) (bit_ones left j ∙ lt-ltb j left (omega arith)) ∙ and-true _ ∙ inner j h
        ∙ sym (at_listed n (bit_of ws) (8 * i + j) l)

    beyond : (j : ℕ) → j < 8 → n ≤ 8 * i + j → bit byte j ≡ at (listed n (bit_of ws)) (8 * i + j)
    beyond j h l =
        and_bit shifted (2 ^ left - 1) j ∙ and_right _ _ (bit_ones left j ∙ le-ltb j left (omega arith)) ∙ sym (at_past n (bit_of ws) (8 * i + j) l)

    each : (j : ℕ) → j < 8 → bit byte j ≡ at (listed n (bit_of ws)) (8 * i + j)
    each j h = ⊎_elim (within j h) (beyond j h) (cases_lt (8 * i + j) n)

-- ---- the bytes of the lamps

pub length_packed : (ls : Lamps) → length (packed ls) ≡ (length ls + 7) / 8
unfolding packed
length_packed ls = length-map-range_with_len (eight ls) 0 ((length ls + 7) / 8)

-- one byte more of those that are written, before what stays
pub packed_more : (f : ℕ → ℕ) (xs old : List ℕ) (i : ℕ) → i < length old → xs ≡ map f (range_with_len 0 i) ++ drop i old → set xs i (f i) ≡ map f (range_with_len 0 (i + 1)) ++ drop (i + 1) old
packed_more f xs old i h e =
    ap (λ l. set l i (f i)) (e ∙ ap (λ l. map f (range_with_len 0 i) ++ l) (drop_more old i 0 h)) ∙ set_at _ _ _ (f i) i (length-map-range_with_len f 0 i)
    ∙ sym (append_assoc (map f (range_with_len 0 i)) (f i ∷ []) _) ∙ ap (λ l. l ++ drop (i + 1) old) (sym (map-range_with_len_more f 0 i i (omega arith)))

-- and once all are written
pub packed_all : (n i : ℕ) (f : ℕ → Bool) (xs old : List ℕ) → i ≡ (n + 7) / 8 → length old ≡ i → xs ≡ map (eight (listed n f)) (range_with_len 0 i) ++ drop i old → xs ≡ packed (listed n f)
unfolding packed
packed_all n i f xs old all none e =
    e ∙ ap₂ (λ j r. map (eight (listed n f)) (range_with_len 0 j) ++ r) as_many (drop_all i old (omega arith)) ∙ append-nil _
  where
    as_many : i ≡ (length (listed n f) + 7) / 8
    as_many = rw length_listed all

-- reading lamps back
pub unpacked_packed : (ls : Lamps) (rest : List ℕ) → unpacked (length ls) (packed ls ++ rest) ≡ ls
unfolding packed unpacked
unpacked_packed ls rest = listed_same (length ls) _ (at ls) each ∙ listed_at ls
  where
    bytes : List ℕ
    bytes = map (eight ls) (range_with_len 0 ((length ls + 7) / 8))

    each : (k : ℕ) → k < length ls → bit (get_or (bytes ++ rest) (k / 8) 0) (k % 8) ≡ at ls k
    each k h =
        ap (λ x. bit x (k % 8)) (get_or_append_left bytes rest 0 (k / 8) (rw length-map-range_with_len (omega arith)) ∙ get_or-map-range_with_len (eight ls) 0 _ (k / 8) (k / 8) 0 (omega arith) (omega arith))
        ∙ bit_valued 8 (λ j. at ls (8 * (k / 8) + j)) (k % 8) (omega arith) ∙ ap (at ls) (omega arith)

-- lamps in the rest of an answer, past its first three bytes
pub lamps_put : (out p : List ℕ) (t k : ℕ) (ls : Lamps) → p ≡ (t ∷ two_bytes (length ls)) ++ drop 3 out → k ≡ length (packed ls)
    → Put (with_lamps t ls) out (put_mid 3 (3 + k - 3) p (packed ls)) (3 + k)
lamps_put out p t k ls is many = record {
  count = omega (arith, many);
  holds = ap (λ l. put_mid 3 (3 + k - 3) l (packed ls)) is ∙ ap (λ l. t ∷ (two_bytes (length ls) ++ (packed ls ++ l))) (ap (λ j. drop j (drop 3 out)) (omega arith) ∙ drop-drop k 3 out);
}
