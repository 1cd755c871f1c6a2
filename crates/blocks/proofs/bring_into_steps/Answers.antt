use Rattle.std.proofs.Common.{◌≡◌, sym, subst, arith, zero-le}
use Rattle.matrix.specs.Cells.{width_of, cell}
use Rattle.matrix.specs.Said.{Identity}
use Rattle.echelon.specs.Steps.{column_of}
use Rattle.echelon.proofs.Places.{in_place_both}
use Rattle.blocks.specs.Said.{FirstRow, BlockReduces}
use Rattle.blocks.proofs.Whole.{Working, working_start, working_next, working_block}
use Rattle.blocks.proofs.bring_into_steps.Goals as goal

pub loop-first-init : goal.loop-first-init
loop-first-init c =
    let s₀ = c.args.steps.now in
    let s₁ = c.no_pivots.new.self in
    let no = c.no_pivots.ensures in
    let width = width_of s₀.n in
    let id : Identity width c.identity.new.memory s₀.n = subst (λ w. Identity w c.identity.new.memory s₀.n) c.width-width.ensures c.identity.ensures in
    let cs = column_of s₁.pivots.now in
    let start : Working s₀.n width (cell s₀.rows.now width) s₀.rows.now c.identity.new.memory cs 0 = working_start _ _ _ _ _ id no.pivots in
    let done : Working s₀.n width (cell s₀.rows.now width) s₀.rows.now s₁.done.now cs 0 =
    subst (λ ts. Working s₀.n width (cell s₀.rows.now width) s₀.rows.now ts cs 0) (sym no.done) start in (
      subst (λ rs. Working s₀.n width (cell s₀.rows.now width) rs s₁.done.now cs 0) (sym no.rows) done,
      zero-le,
      record { n = no.place.n; rows = no.place.rows; done = no.place.done; pivots = no.place.pivots },
    )

pub loop-first-preserved : goal.loop-first-preserved
loop-first-preserved c =
    let s₀ = c.args.steps.now in
    let s = c.loop-first.steps in
    let s' = c.reduce_block.new.steps in
    let inv = c.loop-first.invariant in
    let n : s.n ≡ s₀.n = inv.2.n in
    let first = c.in-Some.first in
    let end = c.min-end.result in
    let found : FirstRow (width_of s₀.n) s.rows.now c.loop-first.from s₀.n first = subst (λ m. FirstRow (width_of m) s.rows.now c.loop-first.from m first) n c.in-Some.ensures in
    let reduced : BlockReduces s₀.n (width_of s₀.n) s.rows.now s.done.now (column_of s.pivots.now) s'.rows.now s'.done.now (column_of s'.pivots.now) first end =
    subst (λ m. BlockReduces m (width_of m) s.rows.now s.done.now (column_of s.pivots.now) s'.rows.now s'.done.now (column_of s'.pivots.now) first end) n c.reduce_block.ensures.reduced in (
      working_block _ _ _ _ _ _ _ _ _ _ _ (omega arith) (working_next _ _ _ _ _ _ _ _ inv.0 found) reduced,
      omega arith,
      in_place_both _ _ _ inv.2 c.reduce_block.ensures.place,
    )
