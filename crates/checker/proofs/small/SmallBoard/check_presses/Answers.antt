use Rattle.checker.proofs.Taking.{presses_checked}
use Rattle.checker.proofs.small.SmallBoard.check_presses.Goals as goal

pub returns : goal.returns
returns c b h = let few = c.args.self.now.few in let e = c.check_presses.ensures in presses_checked _ _ _ b h c.args.presses _ few e
