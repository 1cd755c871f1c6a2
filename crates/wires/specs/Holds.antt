-- Wires in memory: a row of bits for each lamp, which says what pressing it changes. Assumes nothing: these are definitions.
use Rattle.std.specs.Prelude.{◌≡◌, ℕ, ◌<◌, List}
use Rattle.gf2.specs.Rows.{differ}
use Rattle.lamps.specs.Lamps.{Wire, joins, changes}
use Rattle.matrix.specs.Cells.{width_of, cell, Spare}

-- the memory holds the wires of n lamps: row i has bit j set if pressing i changes j, and no bit past n is set
pub record HoldsWires (n : ℕ) (memory : List ℕ) (ws : List Wire) : Type 0 where
  pub each : (i j : ℕ) → i < n → j < n → cell memory (width_of n) i j ≡ changes ws i j
  pub spare : Spare n (cell memory (width_of n))

-- bit j of row i and bit i of row j are turned over, and no other
abbrev pub Toggled : List ℕ → List ℕ → ℕ → ℕ → ℕ → Type 0
Toggled old new width i j = (a b : ℕ) → cell new width a b ≡ differ (cell old width a b) (joins i j a b)
