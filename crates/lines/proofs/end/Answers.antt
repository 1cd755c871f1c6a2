use Rattle.std.proofs.lemmas.List.{drop_more, drop_all}
use Rattle.lines.specs.Readers.{ends}
use Rattle.lines.proofs.end.Goals as goal

pub returns-then-at-line : goal.returns-then-at-line
unfolding ends
returns-then-at-line c = rw (drop_more _ _ 0 c.if-at-line.true)

pub returns-else-at-line : goal.returns-else-at-line
unfolding ends
returns-else-at-line c = rw (drop_all _ _ c.if-at-line.false)
