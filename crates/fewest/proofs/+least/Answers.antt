use Rattle.std.proofs.Common.{◌≡◌, ℕ, suc, ◌-◌, ◌*◌, ◌^◌, ◌<◌, length, get_or, sym, refl, ap, subst, arith, rules}
use Rattle.std.specs.Option.{option_copied}
use Rattle.gf2.specs.Rows.{differ}
use Rattle.bits.specs.Bits.{bit_of}
use Rattle.bits.proofs.Rows.{same_rows}
use Rattle.matrix.specs.Cells.{cell}
use Rattle.fewest.specs.Sets.{Least, may_take}
use Rattle.fewest.proofs.Sums.{least_at, least_here, least_more, turned, turned_back}
use Rattle.fewest.proofs.+least.Goals as goal

pub returns-then-accepted : goal.returns-then-accepted
returns-then-accepted t c =
    let m = 64 * length c.args.current.now in
    let S = cell c.args.sets.now (length c.args.current.now) in
    record {
      back = refl;
      least = subst (λ k. Least m k S (may_take m (option_copied c.args.against.now)) (bit_of c.args.current.now) (bit_of c.args.best.now) (bit_of c.copy_from_slice.new.self) c.args.best_count c.count-count.result) (sym c.if-k-eq0.true)
          (least_here _ _ _ _ _ _ _ _ c.count-count.ensures (λ j. ap (λ ws. bit_of ws j) c.copy_from_slice.ensures.after) (omega arith) (sym c.if-accepted.ensures));
    }

pub returns : goal.returns
returns t c =
    let sets = c.args.sets.now in
    let width = length c.args.current.now in
    let one : suc (c.args.k - 1) ≡ c.args.k = omega arith in
    let row : (j : ℕ) → bit_of c.row-set.result.now j ≡ cell sets width (c.args.k - 1) j = λ j. ap (λ ws. bit_of ws j) c.row-set.ensures in
    let add : (j : ℕ) → bit_of c.xor_into.new.to j ≡ differ (bit_of c.args.current.now j) (cell sets width (c.args.k - 1) j) =
    λ j. turned (c.xor_into.ensures j) (ap (λ ws. bit_of ws j) c.least-without.ensures.back) (row j) in
    let fits : (i : ℕ) → get_or c.args.current.now i 0 < 2 ^ 64 = λ i. search rules in
    record {
      back = same_rows c.xor_into-2.new.to c.args.current.now (omega arith) (λ i. omega (arith, c.type_inv.current i)) fits (λ j _. turned_back _ (bit_of c.args.current.now j) (cell sets width (c.args.k - 1) j)
          (turned (c.xor_into-2.ensures j) (ap (λ ws. bit_of ws j) c.least-with.ensures.back) (row j)) (add j));
      least = subst (λ k. Least (64 * width) k (cell sets width) (may_take (64 * width) (option_copied c.args.against.now)) (bit_of c.args.current.now) (bit_of c.args.best.now) (bit_of c.least-with.new.best) c.args.best_count c.least-with.result) one
          (least_more _ _ _ _ _ _ _ _ _ _ _ _ add c.least-without.ensures.least (least_at _ _ _ _ (option_copied c.args.against.now) _ _ _ _ _ (omega arith) c.least-with.ensures.least));
    }
