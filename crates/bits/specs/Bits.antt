-- A row of bits, kept in words of 64 bits. Assumes nothing: these are definitions.
use Rattle.std.specs.Prelude.{ℕ, ◌/◌, ◌%◌, ◌^◌, Bool, List, ◌==◌, slice_index}

-- bit k of a word, the lowest first
unfoldable pub bit : ℕ → ℕ → Bool
bit w k = w / 2 ^ k % 2 == 1

-- bit k of a row of words: past the last word it is false
abbrev pub bit_of : List ℕ → ℕ → Bool
bit_of ws k = bit (slice_index ws (k / 64)) (k % 64)
