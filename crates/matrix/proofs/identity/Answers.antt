use Rattle.std.proofs.Common.{◌≡◌, refl, ◌∙◌, subst, arith}
use Rattle.matrix.specs.Said.{Identity}
use Rattle.matrix.proofs.Memory.{row_within}
use Rattle.matrix.proofs.Unit.{identity_none, identity_more}
use Rattle.matrix.proofs.identity.Goals as goal

pub loop-i-init : goal.loop-i-init
loop-i-init c = (identity_none _ _ c.zero.ensures, refl)

pub flip_cell-requires : goal.flip_cell-requires
flip_cell-requires c =
    let row = row_within c.args.width c.loop-i.i c.args.n c.loop-i-test.true in
    record { fits = omega arith; within = omega arith }

pub loop-i-preserved : goal.loop-i-preserved
loop-i-preserved c = (identity_more _ _ _ _ c.loop-i.invariant.0 c.flip_cell.ensures, c.flip_cell.auto.memory ∙ c.loop-i.invariant.1)

pub returns : goal.returns
returns c = let all : c.loop-i.i ≡ c.args.n = omega arith in subst (Identity c.args.width c.loop-i.memory) all c.loop-i.invariant.0
