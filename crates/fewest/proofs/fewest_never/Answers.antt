use Rattle.std.proofs.Common.{Some, arith}
use Rattle.fewest.proofs.Sums.{least_at}
use Rattle.fewest.proofs.Solutions.{zero_spans, never_fewest}
use Rattle.fewest.proofs.fewest_never.Goals as goal

pub returns-then-k-le16 : goal.returns-then-k-le16
returns-then-k-le16 c lit spare = record {
  many = c.collect_zero-k.ensures.many;
  kept = λ g. absurd (omega arith);
  fewest = λ small inside A R tr pv shows.
      never_fewest _ _ _ A _ _ _ _ _ _ (omega arith) lit (zero_spans _ _ _ _ _ c.collect_zero-k.ensures small spare A R tr pv) inside shows
      (least_at _ _ _ _ (Some c.args.lit.now) _ _ _ _ _ c.requires.set c.improve.ensures);
}
