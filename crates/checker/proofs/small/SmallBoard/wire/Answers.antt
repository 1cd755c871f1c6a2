use Rattle.checker.proofs.Taking.{wire_no_first, wire_no_second, wire_itself, wire_called}
use Rattle.checker.proofs.small.SmallBoard.wire.Goals as goal
use Rattle.checker.proofs.small.SmallBoard.wire.Goals.{then-i-n-via-then-i-n, then-i-n-via-else-i-n+then-j-n}

pub returns-then-i-n : goal.returns-then-i-n
returns-then-i-n c b h = elim c.then-i-n.branch [
  | then-i-n-via-then-i-n w ↦ wire_no_first _ _ _ b h c.args.i c.args.j w.if-i-n.true
  | then-i-n-via-else-i-n+then-j-n w ↦ wire_no_second _ _ _ b h c.args.i c.args.j w.if-i-n.false w.if-j-n.true
]

pub returns-then-i-j : goal.returns-then-i-j
returns-then-i-j c b h = wire_itself _ _ _ b h c.args.i c.args.j c.if-i-n.false c.if-j-n.false c.if-i-j.true

pub returns : goal.returns
returns c b h = wire_called _ _ _ b h c.args.i c.args.j _ c.if-i-n.false c.if-j-n.false c.if-i-j.false c.toggle.ensures
