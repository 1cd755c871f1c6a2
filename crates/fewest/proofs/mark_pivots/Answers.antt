use Rattle.std.proofs.Common.{◌≡◌, ℕ, ◌+◌, ◌<◌, List, length, sym, ◌∙◌, subst}
use Rattle.bits.specs.Bits.{bit_of}
use Rattle.echelon.specs.Steps.{column_of}
use Rattle.fewest.specs.Sets.{taken}
use Rattle.fewest.proofs.Columns.{taken_again, taken_new, taken_past}
use Rattle.fewest.proofs.mark_pivots.Goals as goal
use Rattle.fewest.proofs.mark_pivots.Goals.{then-column-n+then-not-get, else-column-n, else-column-n-via-then-column-n+else-not-get, else-column-n-via-else-column-n}

pub loop-column-preserved : goal.loop-column-preserved
loop-column-preserved c =
    let Next : List ℕ → Type 0 = λ columns.
    ((j : ℕ) → j < c.args.n → bit_of columns j ≡ taken (c.loop-column.column-index + 1) (column_of c.args.pivots.now) j)
    × (length columns ≡ length c.zero.new.row) in
    let inv = c.loop-column.invariant in
    elim c.if-column-n.branch [
      | then-column-n+then-not-get w ↦ subst Next (sym w.columns-is)
          (taken_new _ _ _ _ inv.0 _ w.if-column-n.true w.if-not-get.ensures w.flip.ensures, w.flip.auto.row ∙ inv.1)
      | else-column-n w ↦ subst Next (sym w.columns-is) (
        elim w.else-column-n.branch [
          | else-column-n-via-then-column-n+else-not-get v ↦ taken_again _ _ _ _ inv.0 v.if-column-n.true v.if-not-get.ensures
          | else-column-n-via-else-column-n v ↦ taken_past _ _ _ _ inv.0 v.if-column-n.false
        ],
        inv.1,
      )
    ]
