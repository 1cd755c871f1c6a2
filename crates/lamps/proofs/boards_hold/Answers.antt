use Rattle.lamps.proofs.Boards.{boards}
use Rattle.lamps.proofs.boards_hold.Goals as goal

pub returns : goal.returns
returns c = boards
