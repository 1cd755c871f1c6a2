use Rattle.std.proofs.Common.{sym, subst, arith}
use Rattle.lamps.specs.Calls.{rewired}
use Rattle.wires.specs.Holds.{HoldsWires}
use Rattle.checker.proofs.Taking.{words_put}
use Rattle.checker.proofs.small.toggle.Goals as goal

pub returns : goal.returns
returns c vs h =
    subst (λ x. HoldsWires c.args.board.lamps x (rewired vs c.args.i c.args.j))
    (sym (words_put c.args.board.lamps c.args.wires.now c.toggle.new.rows _ c.toggle.auto.rows (omega (arith, c.told-wires, c.requires.few))))
    (c.toggle.ensures.holds vs h)
