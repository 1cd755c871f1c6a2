use Rattle.std.proofs.Common.{◌<◌, [], sym, subst}
use Rattle.text.specs.Memory.{lamps_open}
use Rattle.text.specs.Board.{held}
use Rattle.text.proofs.Opened.{opens}
use Rattle.text.proofs.wall.Wall.open.Goals as goal

pub returns : goal.returns
returns c =
    let now = c.in_ok-board.ensures in
    opens c.args.lamps c.in_ok-board.board.lamps [] (held c.args.self.now) (held c.clear.new.self) now.served now.lamps
    (subst (λ b. 0 < lamps_open b) (sym now.opens) c.in_ok-board.board.some) now.dark
