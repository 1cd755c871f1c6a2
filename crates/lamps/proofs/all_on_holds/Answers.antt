use Rattle.lamps.proofs.EveryBoard.{all_on}
use Rattle.lamps.proofs.all_on_holds.Goals as goal

pub returns : goal.returns
returns c = all_on
