use Rattle.std.proofs.Common.{length, arith}
use Rattle.std.proofs.lemmas.List.{get_or-replicate}
use Rattle.bits.proofs.Rows.{zero_words}
use Rattle.bits.proofs.zero.Goals as goal

pub returns : goal.returns
returns c = zero_words c.fill.new.self (λ k h. rw (c.fill.ensures.after (λ y e. e)) (get_or-replicate (length c.args.row.now) k 0 0 (omega (arith, c.fill.ensures.len))))
