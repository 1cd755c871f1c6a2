use Rattle.session.proofs.Parts.{unread_performs}
use Rattle.session.proofs.perform.Goals as goal

pub returns-in-Err-clause-performs : goal.returns-in-Err-clause-performs
returns-in-Err-clause-performs c b h = unread_performs _ b _ c.in-Err.refusal h c.in-Err.ensures.value c.in-Err.ensures.reads
