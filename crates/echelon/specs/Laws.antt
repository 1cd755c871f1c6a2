-- What is read off rows in steps. Assumes nothing: these are definitions.
use Rattle.std.specs.Prelude.{◌≡◌, ℕ, ◌<◌, Decides, nat_le}
use Rattle.gf2.specs.Rows.{Row, Rows, Same, nowhere, tally}
use Rattle.gf2.specs.Reduction.{Pivots, Marks, Quiet}
use Rattle.echelon.specs.Steps.{InSteps}

-- rows in steps have the quiet sets of the rows that they came from, and no others
abbrev pub SameQuiet : Type 0
SameQuiet = (n : ℕ) (A R T : Rows) (c : ℕ → ℕ) → InSteps n A R T c → (x : Row) → (Quiet n A x → Quiet n R x) × (Quiet n R x → Quiet n A x)

-- k of the rows have no pivot; where the rows are in steps, so many are zero, and so many columns are free
pub record ZeroRows (n : ℕ) (c : ℕ → ℕ) (k : ℕ) : Type 0 where
  pub counted : k ≡ tally (λ i. nat_le n (c i)) n
  pub zero : (R : Rows) (off : Row) → Pivots n R c → ((i : ℕ) → i < n → Decides (off i) (Same n (R i) nowhere)) → k ≡ tally off n
  pub free : (R : Rows) (free : Row) → Pivots n R c → Marks n c free → k ≡ tally free n
