use Rattle.std.proofs.Common.{◌≡◌, ℕ, ◌<◌, length}
use Rattle.bits.specs.Bits.{bit_of}
use Rattle.echelon.specs.Steps.{column_of}
use Rattle.fewest.specs.Sets.{taken}
use Rattle.fewest.proofs.mark_pivots.Given as goal

abbrev pub invariant-loop-column : goal.invariant-loop-column
invariant-loop-column l =
    ((j : ℕ) → j < l.n → bit_of l.columns j ≡ taken l.column-index (column_of l.pivots) j)
    × (length l.columns ≡ length l.initial.columns)
