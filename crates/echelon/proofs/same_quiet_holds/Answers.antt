use Rattle.echelon.proofs.Laws.{same_quiet}
use Rattle.echelon.proofs.same_quiet_holds.Goals as goal

pub returns : goal.returns
returns c = same_quiet
