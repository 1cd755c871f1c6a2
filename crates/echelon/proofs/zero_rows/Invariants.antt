use Rattle.std.proofs.Common.{◌≡◌, leb}
use Rattle.gf2.specs.Rows.{tally}
use Rattle.echelon.specs.Steps.{column_of}
use Rattle.echelon.proofs.zero_rows.Given as goal

abbrev pub invariant-loop-column : goal.invariant-loop-column
invariant-loop-column l = l.zero ≡ tally (λ i. leb l.n (column_of l.pivots i)) l.column-index
