use Rattle.std.proofs.Common.{subst}
use Rattle.checker.specs.Held.{Answered, found_or}
use Rattle.checker.proofs.Taking.{says}
use Rattle.checker.proofs.Checker.read.Goals as goal

pub returns : goal.returns
returns c b h =
    subst (λ s. Answered b s (found_or c.take.result) c.take.new.self.board)
    (says c.args.self.now.board b c.lamps.result c.args.line.now _ _ h c.lamps.ensures c.read_claim.ensures c.in_ok-claim.ensures.cases) (c.take.ensures b h)
