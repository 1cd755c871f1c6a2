use Rattle.std.proofs.Common.{◌≡◌, ◌*◌, ◌≤◌, length, take, refl, ap, subst, arith}
use Rattle.calls.specs.Saying.{written}
use Rattle.desk.proofs.Places.{in_place, in_place_both}
use Rattle.session.specs.Lent.{answer_bytes}
use Rattle.batch.specs.Answered.{Stands}
use Rattle.batch.proofs.Standing.{answers_none, answers_more, answers_upto}
use Rattle.batch.proofs.answer_each.Goals as goal

pub loop-k-init : goal.loop-k-init
loop-k-init c = (λ b h. answers_none _ b _ _ _ h, in_place _)

pub loop-k-preserved : goal.loop-k-preserved
loop-k-preserved c =
    let inv = c.loop-k.invariant in
    let place = c.answer_one.ensures.place in
    let size : answer_bytes c.loop-k.memory.board.lamps ≡ answer_bytes c.args.memory.now.board.lamps = ap answer_bytes inv.1.lamps in
    let at : c.loop-k.k * c.asked-size.result.answer ≡ c.loop-k.k * answer_bytes c.args.memory.now.board.lamps = ap (λ n. c.loop-k.k * n) c.asked-size.ensures.answer in (
      λ b h.
          let so_far = inv.0 b h in
          let w = c.answer_one.ensures.performs _ so_far.holds in
          answers_more _ _ b _ _ _ _ c.loop-k.k _ so_far w.0 w.1 (subst (λ n. length (written w.0) ≤ n) size w.2) (subst (Stands w.0 c.answer_one.new.answers) at w.3)
          (subst (λ n. take n c.answer_one.new.answers ≡ take n c.loop-k.answers) at c.answer_one.ensures.before) c.loop-k-test.true refl,
      in_place_both _ _ _ inv.1 place,
    )

pub returns-clause-answers : goal.returns-clause-answers
returns-clause-answers c b h =
    let all : c.loop-k.k ≡ length c.args.calls.now = omega arith in
    answers_upto all (c.loop-k.invariant.0 b h)
