use Rattle.std.proofs.Common.{◌≡◌, ◌*◌, subst, inl, inr, ⊎_elim, arith}
use Rattle.matrix.proofs.Adding.{AddedTo, added_more, added_row}
use Rattle.matrix.proofs.Memory.{rows_apart}
use Rattle.matrix.proofs.add_row.Goals as goal

pub loop-k-preserved : goal.loop-k-preserved
loop-k-preserved c =
    added_more c.args.memory.now c.loop-k.memory (c.args.i * c.args.width) (c.args.j * c.args.width) c.loop-k.k
    c.loop-k.invariant (omega arith)
    (⊎_elim (λ below. inr (omega arith)) (λ above. inl (omega arith)) (rows_apart c.args.width c.args.j c.args.i c.requires.apart))

pub returns : goal.returns
returns c =
    let all : c.loop-k.k ≡ c.args.width = omega arith in
    let done = subst (AddedTo c.args.memory.now c.loop-k.memory (c.args.i * c.args.width) (c.args.j * c.args.width)) all c.loop-k.invariant in
    added_row _ _ _ _ _ done c.loop-k.auto.memory c.requires.to c.requires.from
