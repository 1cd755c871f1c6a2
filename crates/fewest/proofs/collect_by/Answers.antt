use Rattle.std.proofs.Common.{◌+◌, ◌*◌, ◌≤◌, length, refl, sym, ◌∙◌, arith}
use Rattle.matrix.specs.Cells.{width_of}
use Rattle.matrix.proofs.Memory.{row_within}
use Rattle.fewest.proofs.Building.{collected_off, collected_past, collected_put, collected_all, set_put, lent_long}
use Rattle.fewest.proofs.collect_by.Goals as goal
use Rattle.fewest.proofs.collect_by.Goals.{then-counts, then-k-lt16, else-k-lt16, else-counts}

pub loop-i-preserved : goal.loop-i-preserved
loop-i-preserved g c =
    let width = width_of c.args.n in
    let inv = c.loop-i.invariant in (
      λ t says. elim c.if-counts.branch [
        | then-counts w ↦ elim w.if-k-lt16.branch [
          | then-k-lt16 v ↦
              let row = row_within width c.loop-i.k 16 v.if-k-lt16.true in
              let fits : c.loop-i.k * width + width ≤ length c.loop-i.sets = omega (arith, inv.2) in
              let long = lent_long width _ c.loop-i.k c.loop-i.sets c.width-width.ensures fits in
              rw w.sets-is (rw v.sets-is (rw w.k-is (collected_put _ _ _ _ _ _ _ (inv.0 t says) (sym (says _ _ c.loop-i-test.true w.if-counts.ensures))
              (set_put _ _ _ _ _ _ _ c.width-width.ensures fits (v.write.auto.arg3 ∙ long) (record { before = _; after = _; long = long; called = v.write.ensures; left = refl })))))
          | else-k-lt16 v ↦ rw w.sets-is (rw v.sets-is (rw w.k-is (collected_past _ _ _ _ _ (inv.0 t says) (sym (says _ _ c.loop-i-test.true w.if-counts.ensures)) v.if-k-lt16.false)))
        ]
        | else-counts w ↦ rw w.sets-is (rw w.k-is (collected_off _ _ _ _ _ (inv.0 t says) (sym (says _ _ c.loop-i-test.true w.if-counts.ensures))))
      ],
      elim c.if-counts.branch [ then-counts w ↦ omega (arith, w.k-is, inv.1) | else-counts w ↦ omega (arith, w.k-is, inv.1) ],
      c.if-counts.auto.sets ∙ inv.2,
    )

pub returns : goal.returns
returns g c t says = collected_all _ _ _ _ _ _ (omega arith) (c.loop-i.invariant.0 t says)
