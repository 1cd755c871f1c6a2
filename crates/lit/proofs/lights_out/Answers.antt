use Rattle.lit.proofs.Holding.{holds_none}
use Rattle.lit.proofs.lights_out.Goals as goal

pub returns : goal.returns
returns c = record { bits = c.zero.ensures; holds = holds_none c.args.board.lamps c.zero.new.row c.zero.ensures }
