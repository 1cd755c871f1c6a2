use Rattle.std.proofs.Common.{◌≡◌, None, sym, refl, ◌∙◌, subst, arith}
use Rattle.gf2.specs.Rows.{nowhere}
use Rattle.matrix.specs.Cells.{width_of, cell}
use Rattle.fewest.specs.Sets.{Spans}
use Rattle.fewest.proofs.Columns.{free_many}
use Rattle.fewest.proofs.Sums.{least_at}
use Rattle.fewest.proofs.Solutions.{way_fewest}
use Rattle.fewest.proofs.fewest_way.Goals as goal

pub returns-then-k-le16 : goal.returns-then-k-le16
returns-then-k-le16 c = record {
  many = free_many _ _ _ _ c.zero_rows-k.ensures;
  kept = λ g. absurd (omega arith);
  fewest = λ small inside A T s tr pv solves.
      let n = c.args.n in
      let same : c.collect.result ≡ c.zero_rows-k.result = c.collect.ensures.sets.many ∙ sym (free_many _ _ _ _ c.zero_rows-k.ensures pv) in
      let spans = subst (λ m. Spans n A m (cell c.collect.new.sets (width_of n))) same (c.collect.ensures.spans (omega (arith, same)) A T tr pv).0 in
      way_fewest _ _ _ A _ s nowhere _ _ _ _ (omega arith) spans solves inside (least_at _ _ _ _ None _ _ _ _ _ c.requires.way c.improve.ensures);
}

pub returns-else-k-le16 : goal.returns-else-k-le16
returns-else-k-le16 c = record { many = free_many _ _ _ _ c.zero_rows-k.ensures; kept = λ _. refl; fewest = λ small. absurd (omega (arith, c.if-k-le16.false)) }
