use Rattle.lamps.proofs.EveryBoard.{as_many}
use Rattle.lamps.proofs.as_many_holds.Goals as goal

pub returns : goal.returns
returns c = as_many
