use Rattle.std.proofs.Common.{◌≡◌, ◌*◌, ◌<◌, [], ◌∙◌, ap, sym, subst}
use Rattle.lamps.specs.Boards.{wires_before, grid}
use Rattle.desk.specs.Holding.{Holds}
use Rattle.text.specs.Memory.{lamps_open, in_use}
use Rattle.text.specs.Board.{dark, held}
use Rattle.text.proofs.Grids.{grid_some, grid_whole}
use Rattle.text.proofs.Opened.{opens}
use Rattle.text.proofs.wall.Wall.open_grid.Goals as goal

pub join_all-requires-clause-whole : goal.join_all-requires-clause-whole
join_all-requires-clause-whole c =
    let w = c.args.w in
    let size = ap lamps_open c.in_ok-board.ensures.opens ∙ c.in_ok-board.ensures.lamps in
    grid_whole w c.args.h (lamps_open c.clear.new.self.board) size (grid_some w c.args.h (subst (λ n. 0 < n) c.in_ok-board.ensures.lamps c.in_ok-board.board.some))

pub returns : goal.returns
returns c =
    let w = c.args.w in
    let h = c.args.h in
    let now = c.in_ok-board.ensures in
    let bare = c.clear.new.self in
    let all = c.join_all.new.self in
    let size : lamps_open bare.board ≡ w * h = ap lamps_open now.opens ∙ now.lamps in
    let some = subst (λ n. 0 < n) (sym (ap lamps_open c.join_all.ensures.same ∙ ap lamps_open now.opens)) c.in_ok-board.board.some in
    let holds = subst (λ n. Holds (in_use (held bare)) (dark n []) → Holds (in_use (held all)) (dark n (wires_before w n n))) size c.join_all.ensures.comes now.dark in
    opens (w * h) c.in_ok-board.board.lamps (grid w h) (held c.args.self.now) (held all) now.served now.lamps some holds
