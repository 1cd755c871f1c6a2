use Rattle.std.proofs.Common.{subst}
use Rattle.matrix.specs.Said.{Identity}
use Rattle.wires.proofs.Toggling.{holds_none}
use Rattle.wires.proofs.no_wires.Goals as goal

pub returns : goal.returns
returns c =
    let id = subst (λ w. Identity w c.identity.new.memory c.args.board.lamps) c.width.ensures c.identity.ensures in
    record { bits = id; holds = holds_none c.args.board.lamps _ id }
