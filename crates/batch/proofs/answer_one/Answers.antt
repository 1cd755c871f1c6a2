use Rattle.std.proofs.Common.{◌≡◌, ◌+◌, ◌-◌, length, ◌∙◌, arith, length-drop, length-take}
use Rattle.std.proofs.lemmas.Slice.{drop-put_mid}
use Rattle.session.specs.Lent.{answer_bytes}
use Rattle.batch.proofs.answer_one.Goals as goal

pub returns-clause-after : goal.returns-clause-after
returns-clause-after c =
    let size = c.asked-size.ensures.answer in
    let bytes = answer_bytes c.args.memory.now.board.lamps in
    let long : length c.write_answer.new.out ≡ c.args.at + c.asked-size.result.answer - c.args.at =
    c.write_answer.auto.out ∙ simp (length-take, length-drop) (omega (arith, c.requires.room, size)) in
    drop-put_mid c.args.at (c.args.at + c.asked-size.result.answer - c.args.at) c.args.answers.now c.write_answer.new.out (c.args.at + bytes)
    (omega (arith, size)) (omega (arith, c.requires.room, size)) (omega (arith, size, long))
