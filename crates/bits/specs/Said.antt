-- What the contracts of the functions on rows say. Assumes nothing: these are definitions.
use Rattle.std.specs.Prelude.{◌≡◌, ℕ, ◌<◌, true, false, List, Option, Some, None}
use Rattle.gf2.specs.Rows.{Row, differ}
use Rattle.bits.specs.Bits.{bit_of}

-- each bit of `new` is the sum of those of two rows
abbrev pub Added : List ℕ → List ℕ → List ℕ → Type 0
Added new xs ys = (k : ℕ) → bit_of new k ≡ differ (bit_of xs k) (bit_of ys k)

-- r is the first of the first n that is set
pub record First (n : ℕ) (row : Row) (r : ℕ) : Type 0 where
  pub within : r < n
  pub here : row r ≡ true
  pub before : (j : ℕ) → j < r → row j ≡ false

-- the first of the first n that is set; or none, where none is
abbrev pub FirstSet : ℕ → Row → Option ℕ → Type 0
FirstSet n row (Some r) = First n row r
FirstSet n row None = (j : ℕ) → j < n → row j ≡ false
