use Rattle.lamps.proofs.SideBySide.{side_by_side}
use Rattle.lamps.proofs.side_by_side_holds.Goals as goal

pub returns : goal.returns
returns c = side_by_side
