use Rattle.std.proofs.Common.{◌≡◌, subst, arith}
use Rattle.matrix.specs.Cells.{width_of}
use Rattle.echelon.specs.Steps.{column_of, TakesPivot}
use Rattle.echelon.proofs.Places.{in_place_both}
use Rattle.blocks.specs.Said.{BlockSettles}
use Rattle.blocks.proofs.Reduce.{settles_row}
use Rattle.blocks.proofs.settle_block.Goals as goal

pub loop-t-preserved : goal.loop-t-preserved
loop-t-preserved c =
    let s₁ = c.loop-t.steps in
    let s₂ = c.take_pivot.new.self in
    let t = c.loop-t.t in
    let inv = c.loop-t.invariant in
    let take = c.take_pivot.ensures in
    let takes = subst (λ n. TakesPivot n (width_of n) s₁.rows.now s₁.done.now (column_of s₁.pivots.now) s₂.rows.now s₂.done.now (column_of s₂.pivots.now)
    c.args.block.first c.args.block.end t) inv.1.n take.taken in (
      settles_row _ _ _ _ _ _ _ _ _ _ _ _ _ _ c.loop-t.auto.t (omega arith) c.requires inv.0 takes,
      in_place_both _ _ _ inv.1 take.place,
    )

pub returns-clause-settled : goal.returns-clause-settled
returns-clause-settled c =
    let all : c.loop-t.t ≡ c.args.block.end = omega arith in
    let s₀ = c.args.steps.now in
    subst (λ t. BlockSettles s₀.n (width_of s₀.n) s₀.rows.now s₀.done.now (column_of s₀.pivots.now)
    c.loop-t.steps.rows.now c.loop-t.steps.done.now (column_of c.loop-t.steps.pivots.now) c.args.block.first t c.args.block.end) all c.loop-t.invariant.0
