use Rattle.std.proofs.Common.{◌≡◌, ℕ, ◌≤◌, Bool, true, false, leb, ap, ◌∙◌, arith}
use Rattle.std.specs.Int.{from_bool}
use Rattle.gf2.specs.Rows.{tally}
use Rattle.bits.proofs.Counts.{tally_le}
use Rattle.echelon.specs.Steps.{column_of}
use Rattle.echelon.proofs.Laws.{zero_rows}
use Rattle.echelon.proofs.zero_rows.Goals as goal

at_most_one : (b : Bool) (k : ℕ) → k ≡ from_bool b → k ≤ 1
at_most_one true k e = omega (arith, e)
at_most_one false k e = omega (arith, e)

pub overflow_add-zero : goal.overflow_add-zero
overflow_add-zero c =
    let most = tally_le c.loop-column.column-index (λ i. leb c.args.n (column_of c.args.pivots.now i)) in
    omega (arith, c.loop-column.invariant, at_most_one _ c.from-zero.result c.from-zero.ensures, most)

pub returns : goal.returns
returns c = zero_rows _ _ _ (c.loop-column.invariant ∙ ap (tally (λ i. leb c.args.n (column_of c.args.pivots.now i))) (omega arith))
