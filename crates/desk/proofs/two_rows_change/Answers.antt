use Rattle.desk.proofs.Rewired.{two_rows_change}
use Rattle.desk.proofs.two_rows_change.Goals as goal

pub returns : goal.returns
returns c = two_rows_change
