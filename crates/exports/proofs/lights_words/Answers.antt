use Rattle.std.proofs.Common.{◌≡◌, ◌*◌, ◌^◌, ◌<◌, pos, ap, ◌∙◌, inl, arith, w64, rules}
use Rattle.std.proofs.lemmas.Int.{to_z_pos}
use Rattle.matrix.specs.Cells.{width_of}
use Rattle.session.specs.Lent.{table_words}
use Rattle.exports.proofs.lights_words.Goals as goal

pub returns : goal.returns
returns c =
    let n = c.in-Some.board.lamps in
    let some = c.in-Some.board.some in
    let small = c.in-Some.board.small in
    let same : n ≡ c.args.lamps = c.in-Some.ensures in
    let table = c.asked.ensures.tables in
    let fits : n * width_of n < 2 ^ 63 = search rules in
    inl ((omega arith, omega arith), to_z_pos w64 c.asked.result.table (omega (arith, table, fits)) ∙ ap pos (table ∙ ap table_words same))
