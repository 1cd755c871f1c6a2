use Rattle.calls.proofs.Readings.{of_calls}
use Rattle.calls.proofs.Answering.{of_answers}
use Rattle.calls.proofs.laws_stand.Goals as goal

pub returns : goal.returns
returns c = record { calls = of_calls; answers = of_answers }
