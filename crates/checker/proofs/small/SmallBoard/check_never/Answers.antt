use Rattle.checker.proofs.Taking.{never_checked}
use Rattle.checker.proofs.small.SmallBoard.check_never.Goals as goal

pub returns : goal.returns
returns c b h = let few = c.args.self.now.few in let e = c.check_never.ensures in never_checked _ _ _ b h c.args.set _ few e
