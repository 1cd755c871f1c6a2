use Rattle.desk.proofs.Told.{renewed_holds}
use Rattle.desk.proofs.memory.Memory.renew.Goals as goal

pub returns-clause-holds : goal.returns-clause-holds
returns-clause-holds c b h = renewed_holds _ _ _ _ _ _ _ _ _ _ _ b c.renew.ensures.steps h
