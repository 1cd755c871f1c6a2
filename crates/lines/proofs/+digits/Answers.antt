use Rattle.std.proofs.Common.{◌-◌, arith}
use Rattle.lines.specs.Readers.{found}
use Rattle.lines.proofs.Steps.{bits_none, bits_stops, binary_small, found_small}
use Rattle.lines.proofs.Forms.{bits_from, stopped}
use Rattle.lines.proofs.+digits.Goals as goal

pub returns-then-n-eq0 : goal.returns-then-n-eq0
returns-then-n-eq0 t c = bits_none _ found _ _ c.if-n-eq0.true

pub returns-then-not-is_binary : goal.returns-then-not-is_binary
returns-then-not-is_binary t c = bits_stops _ found _ (c.args.n - 1) _ (omega arith) (rw c.byte_at-byte.ensures at c.if-not-is_binary.ensures)

pub returns-in_err-later : goal.returns-in_err-later
returns-in_err-later t c =
    rw (bits_from _ _ (c.args.n - 1) c.args.n _ (omega arith) c.byte_at-byte.ensures c.if-not-is_binary.ensures, ← c.in_err-later.ensures) (stopped _ _ c.from_residual.ensures)

pub overflow_mul-result : goal.overflow_mul-result
overflow_mul-result t c = let small = found_small _ _ _ _ _ (omega arith) c.in_ok-later.ensures in omega arith

pub overflow_add-result : goal.overflow_add-result
overflow_add-result t c =
    let small = found_small _ _ _ _ _ (omega arith) c.in_ok-later.ensures in
    let low = binary_small c.byte_at-byte.result c.if-not-is_binary.ensures in omega arith

pub returns : goal.returns
returns t c = rw (bits_from _ _ (c.args.n - 1) c.args.n _ (omega arith) c.byte_at-byte.ensures c.if-not-is_binary.ensures, ← c.in_ok-later.ensures)
