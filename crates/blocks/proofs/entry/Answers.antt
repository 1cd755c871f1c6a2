use Rattle.std.proofs.Common.{◌+◌, ◌*◌, ◌&&◌, Bool, sym, ap, refl, ◌∙◌, ap₂, arith, [], ◌∷◌, ◌++◌, append-nil, append_assoc}
use Rattle.std.specs.Int.{from_bool}
use Rattle.std.proofs.lemmas.Bool.{lt-ltb, le-ltb, and_left}
use Rattle.matrix.specs.Cells.{cell}
use Rattle.blocks.specs.Said.{entry_of}
use Rattle.blocks.proofs.Table.{digit_small, entry_more, none_left}
use Rattle.blocks.proofs.Swept.{read_below}
use Rattle.blocks.proofs.entry.Goals as goal

pub loop-column-init : goal.loop-column-init
loop-column-init c = ([], append-nil _ ∙ cc, refl)

pub overflow_mul-e : goal.overflow_mul-e
overflow_mul-e c =
    let (read, all, is) = c.loop-column.invariant in
    omega (arith, is, read_below c.args.n c.args.width c.args.rows.now _ read c.args.columns.now c.args.i c.requires.few all)

pub overflow_add-e : goal.overflow_add-e
overflow_add-e c =
    let (read, all, is) = c.loop-column.invariant in
    omega (arith, is, c.from-e.ensures, digit_small c.has.result, read_below c.args.n c.args.width c.args.rows.now _ read c.args.columns.now c.args.i c.requires.few all)

pub loop-column-preserved-then-column-n : goal.loop-column-preserved-then-column-n
loop-column-preserved-then-column-n c =
    let (read, all, is) = c.loop-column.invariant in
    let x = c.in-Some.column.now in
    let bit : Bool = cell c.args.rows.now c.args.width c.args.i x in
    let on = ap (λ t. t && bit) (lt-ltb _ _ c.if-column-n.true) in (
      x ∷ read,
      sym (append_assoc c.next.new.self.iter.rest.now (x ∷ []) read) ∙ ap (λ l. l ++ read) (sym c.in-Some.ensures.steps) ∙ all,
      ap₂ (λ e v. e * 2 + v) is (c.from-e.ensures ∙ ap from_bool (c.has.ensures ∙ sym on)) ∙ sym (entry_more c.args.n c.args.width c.args.rows.now c.args.i x read),
    )

pub loop-column-preserved : goal.loop-column-preserved
loop-column-preserved c =
    let (read, all, is) = c.loop-column.invariant in
    let x = c.in-Some.column.now in
    let off = ap from_bool (and_left _ (cell c.args.rows.now c.args.width c.args.i x) (le-ltb _ _ c.if-column-n.false)) in (
      x ∷ read,
      sym (append_assoc c.next.new.self.iter.rest.now (x ∷ []) read) ∙ ap (λ l. l ++ read) (sym c.in-Some.ensures.steps) ∙ all,
      omega (arith, is, off, entry_more c.args.n c.args.width c.args.rows.now c.args.i x read),
    )

pub returns : goal.returns
returns c =
    let (read, all, is) = c.loop-column.invariant in
    is ∙ ap (λ columns. entry_of c.args.n c.args.width c.args.rows.now columns c.args.i) (none_left _ read _ c.in-None.ensures.steps.0 all)
