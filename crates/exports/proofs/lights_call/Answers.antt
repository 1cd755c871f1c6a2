use Rattle.std.proofs.Common.{◌*◌, ◌^◌, ◌<◌, ◌≤◌, length, inl, arith, w64, rules}
use Rattle.std.proofs.lemmas.Int.{to_z_pos}
use Rattle.calls.specs.Saying.{written}
use Rattle.exports.proofs.Bytes.{put_within, called_as}
use Rattle.exports.proofs.lights_call.Goals as goal

pub overflow_cast-result : goal.overflow_cast-result
overflow_cast-result c =
    let room : length c.args.answer.now * 1 < 2 ^ 63 = search rules in
    let few : c.in-Ok.written ≤ length c.call.new.answer = put_within (written c.in-Ok.ensures.answered.says) c.args.answer.now c.call.new.answer c.in-Ok.written c.in-Ok.ensures.answered.put in
    record { sfits = omega (arith, room, few, c.call.auto.answer) }

pub returns-in-Ok : goal.returns-in-Ok
returns-in-Ok c =
    let room : length c.args.answer.now * 1 < 2 ^ 63 = search rules in
    let few : c.in-Ok.written ≤ length c.call.new.answer = put_within (written c.in-Ok.ensures.answered.says) c.args.answer.now c.call.new.answer c.in-Ok.written c.in-Ok.ensures.answered.put in
    inl (
      c.in-Ok.written,
      to_z_pos w64 c.in-Ok.written (omega (arith, room, few, c.call.auto.answer)),
      called_as c.in-Some.ensures c.in-Ok.ensures,
    )
