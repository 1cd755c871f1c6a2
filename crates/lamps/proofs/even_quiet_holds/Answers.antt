use Rattle.lamps.proofs.EvenQuiet.{even_quiet}
use Rattle.lamps.proofs.even_quiet_holds.Goals as goal

pub returns : goal.returns
returns c = even_quiet
