-- What is lit, as a row of bits. Assumes nothing: these are definitions.
use Rattle.std.specs.Prelude.{◌≡◌, ℕ, List, length}
use Rattle.gf2.specs.Rows.{differ, dot}
use Rattle.lamps.specs.Lamps.{Lamps, at, listed}
use Rattle.bits.specs.Bits.{bit_of}
use Rattle.matrix.specs.Cells.{cell}

-- the row holds a set of n lamps: it has bit k set if lamp k is in the set, and no bit past n
pub record HoldsLit (n : ℕ) (row : List ℕ) (s : Lamps) : Type 0 where
  pub long : length s ≡ n
  pub each : (k : ℕ) → bit_of row k ≡ at s k

-- the set of those of the first n lamps whose bit is set
abbrev pub lamps_of : ℕ → List ℕ → Lamps
lamps_of n row = listed n (bit_of row)

-- those of the first m buttons that `presses` has set are pressed: a bit is turned over if an odd number of them change it
pub record Pressing (width : ℕ) (wires presses old new : List ℕ) (m : ℕ) : Type 0 where
  pub each : (k : ℕ) → bit_of new k ≡ differ (bit_of old k) (dot m (bit_of presses) (λ i. cell wires width i k))
