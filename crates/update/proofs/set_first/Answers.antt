use Rattle.std.proofs.Common.{◌≡◌, refl, ◌∙◌, subst, arith}
use Rattle.update.specs.Said.{Marked}
use Rattle.update.proofs.Zeros.{marked_more}
use Rattle.update.proofs.set_first.Goals as goal

pub loop-i-init : goal.loop-i-init
loop-i-init c = (
  record {
    set = λ i h. absurd (omega arith);
    rest = λ i h. c.zero.ensures i;
  },
  refl,
)

pub loop-i-preserved : goal.loop-i-preserved
loop-i-preserved c = (marked_more _ _ _ c.loop-i.invariant.0 c.flip.ensures, c.flip.auto.row ∙ c.loop-i.invariant.1)

pub returns : goal.returns
returns c = let all : c.loop-i.i ≡ c.args.n = omega arith in subst (Marked c.loop-i.row) all c.loop-i.invariant.0
