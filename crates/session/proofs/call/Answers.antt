use Rattle.std.proofs.Common.{◌≡◌, take, ap, ◌∙◌, rules}
use Rattle.matrix.specs.Cells.{width_of}
use Rattle.desk.specs.Holding.{lent}
use Rattle.session.specs.Lent.{table_words}
use Rattle.session.proofs.Parts.{lent_same, part, answered_as, lifted}
use Rattle.session.proofs.call.Goals as goal

pub returns : goal.returns
returns c =
    let n = c.args.board.lamps in
    let sizes = c.asked-sizes.ensures in
    let m = c.reply.new.memory in
    let place : m.board.lamps ≡ n = c.reply.ensures.place.lamps in
    let tables : table_words m.board.lamps ≡ table_words n = ap table_words place in
    let rows : width_of m.board.lamps ≡ width_of n = ap width_of place in
    lifted n _ _ _ _ _ _ _ _ _ _ _ _ _ _ _ _ _ _
    (part _ _ _ m.wires.now _ _ (search rules) c.split_at_mut-wires.ensures.back sizes.tables (m.wires_long ∙ tables))
    (part _ _ _ m.rows.now _ _ (search rules) c.split_at_mut-rows.ensures.back sizes.tables (m.rows_long ∙ tables))
    (part _ _ _ m.done.now _ _ (search rules) c.split_at_mut-done.ensures.back sizes.tables (m.done_long ∙ tables))
    (part _ _ _ m.pivots.now _ _ (search rules) c.split_at_mut-pivots.ensures.back sizes.pivots (m.pivots_long ∙ place))
    (part _ _ _ m.lit.now _ _ (search rules) c.split_at_mut-lit.ensures.back sizes.rows (m.lit_long ∙ rows))
    (part _ _ _ m.marks.now _ _ (search rules) c.split_at_mut-marks.ensures.back sizes.rows (m.marks_long ∙ rows))
    _ _ _ _
    (answered_as (lent_same n
    (c.split_at_mut-wires.ensures.front ∙ ap (λ x. take x c.args.wires.now) sizes.tables) (c.split_at_mut-rows.ensures.front ∙ ap (λ x. take x c.args.rows.now) sizes.tables)
    (c.split_at_mut-done.ensures.front ∙ ap (λ x. take x c.args.done.now) sizes.tables) (c.split_at_mut-pivots.ensures.front ∙ ap (λ x. take x c.args.pivots.now) sizes.pivots)
    (c.split_at_mut-lit.ensures.front ∙ ap (λ x. take x c.args.lit.now) sizes.rows) (c.split_at_mut-marks.ensures.front ∙ ap (λ x. take x c.args.marks.now) sizes.rows))
    (ap (λ k. lent k m.wires.now m.rows.now m.done.now m.pivots.now m.lit.now m.marks.now) place) c.reply.ensures.answered)
