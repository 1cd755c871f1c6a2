use Rattle.lamps.proofs.EveryBoard.{one_or_other}
use Rattle.lamps.proofs.one_or_other_holds.Goals as goal

pub returns : goal.returns
returns c = one_or_other
