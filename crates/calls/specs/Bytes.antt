-- Numbers and lamps in bytes. Assumes nothing: these are definitions.
use Rattle.std.specs.Prelude.{◌≡◌, ℕ, zero, suc, ◌+◌, ◌*◌, ◌/◌, ◌%◌, ◌<◌, Bool, List, [], ◌∷◌, ◌++◌, map, length, drop, Option, MatchOption, slice_index}
use Rattle.std.specs.List.{range_with_len}
use Rattle.gf2.specs.Rows.{one}
use Rattle.lamps.specs.Lamps.{Lamps, at, listed}
use Rattle.bits.specs.Bits.{bit}

-- a number in two bytes, the low one first; and the number in the two bytes from place p on
abbrev pub two_bytes : ℕ → List ℕ
two_bytes n = n % 256 ∷ n / 256 ∷ []

abbrev pub two : List ℕ → ℕ → ℕ
two bs p = slice_index bs p + 256 * slice_index bs (p + 1)

-- the number that has these as its lowest n bits, the first the lowest
unfoldable pub valued : ℕ → (ℕ → Bool) → ℕ
valued zero f = 0
valued (suc n) f = one (f 0) + 2 * valued n (λ k. f (suc k))

-- lamps as bits, eight to a byte, the first the lowest: bits past the last lamp are 0
abbrev pub eight : Lamps → ℕ → ℕ
eight ls i = valued 8 (λ j. at ls (8 * i + j))

unfoldable pub packed : Lamps → List ℕ
packed ls = map (eight ls) (range_with_len 0 ((length ls + 7) / 8))

-- the first n lamps in such bytes
unfoldable pub unpacked : ℕ → List ℕ → Lamps
unpacked n bs = listed n (λ k. bit (slice_index bs (k / 8)) (k % 8))

-- memory was `old` and is `new`: `bs` stands in its first k bytes, and those past them are as they were
pub record Put (bs old new : List ℕ) (k : ℕ) : Type 0 where
  pub count : k ≡ length bs
  pub holds : new ≡ bs ++ drop k old

-- the same where there is room for them; else nothing is written
abbrev pub Puts : List ℕ → List ℕ → List ℕ → Option ℕ → Type 0
Puts bs old new r = MatchOption r ((length old < length bs) × (new ≡ old)) (Put bs old new)
