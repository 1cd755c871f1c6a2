use Rattle.desk.proofs.Told.{spare, within, out_fewest, out_some_way, out_never}
use Rattle.desk.proofs.memory.Memory.out.Goals as goal

pub returns-then-free-le16-clause-performs : goal.returns-then-free-le16-clause-performs
returns-then-free-le16-clause-performs c b h =
    let k = c.renew.ensures.holds b h in
    let clear = c.renew.ensures.cleared in
    out_fewest _ _ _ _ _ _ _ _ b h k clear _ _ _ (c.if-solve.ensures.system (within _ _ _ _ _ _ _ _ b h k clear) (spare _ _ _ _ _ _ _ _ b h k clear))
    c.fewest_way-free.ensures c.if-free-le16.true

pub returns-else-free-le16-clause-performs : goal.returns-else-free-le16-clause-performs
returns-else-free-le16-clause-performs c b h =
    let k = c.renew.ensures.holds b h in
    let clear = c.renew.ensures.cleared in
    out_some_way _ _ _ _ _ _ _ _ b h k clear _ _ _ (c.if-solve.ensures.system (within _ _ _ _ _ _ _ _ b h k clear) (spare _ _ _ _ _ _ _ _ b h k clear))
    c.fewest_way-free.ensures c.if-free-le16.false

pub returns-else-solve-clause-performs : goal.returns-else-solve-clause-performs
returns-else-solve-clause-performs c b h =
    let k = c.renew.ensures.holds b h in
    let clear = c.renew.ensures.cleared in
    let lit = within _ _ _ _ _ _ _ _ b h k clear in
    let done = spare _ _ _ _ _ _ _ _ b h k clear in
    out_never _ _ _ _ _ _ _ _ b h k clear _ _ _ (c.if-solve.ensures.system lit done) (c.fewest_never.ensures lit done)
