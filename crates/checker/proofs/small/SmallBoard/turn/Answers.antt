use Rattle.std.proofs.Common.{arith}
use Rattle.checker.proofs.Taking.{turn_no_lamp, turn_called}
use Rattle.checker.proofs.small.SmallBoard.turn.Goals as goal

pub returns-then-i-self : goal.returns-then-i-self
returns-then-i-self c b h = turn_no_lamp _ _ _ b h c.args.i (omega arith)

pub returns : goal.returns
returns c b h = turn_called _ _ _ b h c.args.i _ (omega arith) c.turn.ensures.holds
