use Rattle.session.proofs.Runs.{steps_right}
use Rattle.session.proofs.desk_is_right.Goals as goal

pub returns : goal.returns
returns c = steps_right
