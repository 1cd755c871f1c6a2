use Rattle.session.proofs.Runs.{in_budget}
use Rattle.session.proofs.memory_in_budget.Goals as goal

pub returns : goal.returns
returns c = in_budget
