use Rattle.std.proofs.Common.{◌≡◌, ℕ, ◌+◌, ◌*◌, true, false, List, length, sym, refl, ap, ◌∙◌, subst, arith}
use Rattle.gf2.specs.Rows.{Row, act, dot}
use Rattle.bits.specs.Bits.{bit_of}
use Rattle.matrix.proofs.Memory.{length_row, row_in}
use Rattle.matrix.specs.Cells.{width_of, row_of, cell, Spare}
use Rattle.echelon.specs.Steps.{column_of}
use Rattle.solve.proofs.Placing.{Placing, placing_none, placing_even, placing_odd, way_found, never_found}
use Rattle.solve.specs.Solved.{Within, Solved}
use Rattle.solve.proofs.Boards.{solved_tells, lit_within}
use Rattle.solve.proofs.solve.Goals as goal
use Rattle.solve.proofs.solve.Goals.{then-parity_and+else-column-n, else-parity_and}

-- whether an odd number of a row of what was done is in the set, by the row alone
odd_row : (ts xs lit : List ℕ) (width i : ℕ) → xs ≡ row_of ts width i → length xs ≡ width
    → dot (64 * length xs) (bit_of xs) (bit_of lit) ≡ act (64 * width) (cell ts width) (bit_of lit) i
odd_row ts xs lit width i e long = ap (λ m. dot (64 * m) (bit_of xs) (bit_of lit)) long ∙ ap (λ ys. dot (64 * width) (bit_of ys) (bit_of lit)) e

pub loop-i-init : goal.loop-i-init
loop-i-init c = (placing_none _ _ _ _ c.zero.ensures, omega arith)

pub returns-then-column-n : goal.returns-then-column-n
returns-then-column-n c =
    let n = c.args.n in
    let width = width_of n in
    let done = cell c.args.done.now width in
    let made = c.row-made.ensures ∙ ap (λ w. row_of c.args.done.now w c.loop-i.i) c.width-width.ensures in
    let odd = odd_row c.args.done.now _ c.args.lit.now width c.loop-i.i made
    (ap length made ∙ length_row _ width _ (row_in n width c.loop-i.i _ refl (omega arith) (omega arith))) in
    let system : Within n (bit_of c.args.lit.now) → Spare n done
    → Solved n done (column_of c.args.pivots.now) (bit_of c.args.lit.now) (bit_of c.copy_from_slice.new.self) false =
    λ lit spare. never_found n (64 * width) done (column_of c.args.pivots.now) (bit_of c.args.lit.now) _ (omega arith) lit
    c.loop-i.i (omega arith) c.if-column-n.true (c.if-parity_and.ensures ∙ odd) spare
    (λ j. ap (λ ws. bit_of ws j) (c.copy_from_slice.ensures.after ∙ made)) in
    record { system = system; board = λ ws t R e same spare tr pv. solved_tells _ ws R done _ tr pv t _ _ _ e same (system (lit_within _ t _ e same) spare) }

pub loop-i-preserved : goal.loop-i-preserved
loop-i-preserved c =
    let n = c.args.n in
    let width = width_of n in
    let Next : List ℕ → Type 0 = λ out.
    Placing n (column_of c.args.pivots.now) (act (64 * width) (cell c.args.done.now width) (bit_of c.args.lit.now)) (bit_of out) (c.loop-i.i + 1)
    × (length out ≡ width) in
    let inv = c.loop-i.invariant in
    let made = c.row-made.ensures ∙ ap (λ w. row_of c.args.done.now w c.loop-i.i) c.width-width.ensures in
    let odd = odd_row c.args.done.now _ c.args.lit.now width c.loop-i.i made
    (ap length made ∙ length_row _ width _ (row_in n width c.loop-i.i _ refl (omega arith) (omega arith))) in
    elim c.if-parity_and.branch [
      | then-parity_and+else-column-n w ↦ subst Next (sym w.out-is)
          (placing_odd _ _ _ _ _ inv.0 _ (w.if-parity_and.ensures ∙ odd) w.if-column-n.false w.flip.ensures, w.flip.auto.row ∙ inv.1)
      | else-parity_and w ↦ subst Next (sym w.out-is) (placing_even _ _ _ _ _ inv.0 (w.if-parity_and.ensures ∙ odd), inv.1)
    ]

pub returns : goal.returns
returns c =
    let n = c.args.n in
    let width = width_of n in
    let done = cell c.args.done.now width in
    let all : c.loop-i.i ≡ n = omega arith in
    let odd : Row = act (64 * width) done (bit_of c.args.lit.now) in
    let system : Within n (bit_of c.args.lit.now) → Spare n done
    → Solved n done (column_of c.args.pivots.now) (bit_of c.args.lit.now) (bit_of c.loop-i.out) true =
    λ lit spare. way_found n (64 * width) done (column_of c.args.pivots.now) (bit_of c.args.lit.now) _ (omega arith) lit
    (subst (Placing n (column_of c.args.pivots.now) odd (bit_of c.loop-i.out)) all c.loop-i.invariant.0) in
    record { system = system; board = λ ws t R e same spare tr pv. solved_tells _ ws R done _ tr pv t _ _ _ e same (system (lit_within _ t _ e same) spare) }
