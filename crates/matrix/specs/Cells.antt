-- A matrix of bits in memory: rows of `width` words, one after another. Assumes nothing: these are definitions.
use Rattle.std.specs.Prelude.{◌≡◌, ℕ, ◌+◌, ◌*◌, ◌/◌, ◌<◌, ◌≤◌, false, List, take, drop}
use Rattle.gf2.specs.Rows.{Rows}
use Rattle.bits.specs.Bits.{bit_of}

-- how many words a row of n bits has
abbrev pub width_of : ℕ → ℕ
width_of n = (n + 63) / 64

-- row i
abbrev pub row_of : List ℕ → ℕ → ℕ → List ℕ
row_of ws width i = take width (drop (i * width) ws)

-- bit j of row i
abbrev pub cell : List ℕ → ℕ → Rows
cell ws width i j = bit_of (row_of ws width i) j

-- the bits past n are not set
abbrev pub Spare : ℕ → Rows → Type 0
Spare n M = (i : ℕ) → i < n → (j : ℕ) → n ≤ j → M i j ≡ false
