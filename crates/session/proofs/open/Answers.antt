use Rattle.std.proofs.Common.{◌≡◌, ap, ◌∙◌, subst, rules, refl}
use Rattle.matrix.specs.Cells.{width_of}
use Rattle.desk.specs.Holding.{lent, Holds}
use Rattle.lamps.specs.Promise.{new_board}
use Rattle.session.specs.Lent.{table_words}
use Rattle.session.proofs.Parts.{part, opened}
use Rattle.session.proofs.open.Goals as goal

pub returns : goal.returns
returns c =
    let n = c.args.lamps in
    let same = c.in-Some.ensures in
    let sizes = c.asked-sizes.ensures in
    let m = c.clear.new.self in
    let place : m.board.lamps ≡ n = c.clear.ensures.place.lamps ∙ same in
    let table : c.asked-sizes.result.table ≡ table_words n = sizes.tables ∙ ap table_words same in
    let row : c.asked-sizes.result.row ≡ width_of n = sizes.rows ∙ ap width_of same in
    let lamps : c.asked-sizes.result.pivots ≡ n = sizes.pivots ∙ same in
    let tables : table_words m.board.lamps ≡ table_words n = ap table_words place in
    let rows : width_of m.board.lamps ≡ width_of n = ap width_of place in (
      same,
      opened n _ _ _ _ _ _ _ _ _ _ _ _ _ _ _ _ _ _
          (part _ _ _ m.wires.now _ _ (search rules) c.split_at_mut-wires.ensures.back table (m.wires_long ∙ tables))
          (part _ _ _ m.rows.now _ _ (search rules) c.split_at_mut-rows.ensures.back table (m.rows_long ∙ tables))
          (part _ _ _ m.done.now _ _ (search rules) c.split_at_mut-done.ensures.back table (m.done_long ∙ tables))
          (part _ _ _ m.pivots.now _ _ (search rules) c.split_at_mut-pivots.ensures.back lamps (m.pivots_long ∙ place))
          (part _ _ _ m.lit.now _ _ (search rules) c.split_at_mut-lit.ensures.back row (m.lit_long ∙ rows))
          (part _ _ _ m.marks.now _ _ (search rules) c.split_at_mut-marks.ensures.back row (m.marks_long ∙ rows))
          _ same (c.if-not-long.ensures.enough refl)
          (subst (λ k. Holds (lent k m.wires.now m.rows.now m.done.now m.pivots.now m.lit.now m.marks.now) (new_board c.in-Some.board.lamps)) c.clear.ensures.place.lamps
          c.clear.ensures.holds),
    )
