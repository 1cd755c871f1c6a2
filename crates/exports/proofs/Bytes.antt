-- How many bytes an answer has. Assumes nothing.
use Rattle.std.proofs.Common.{◌≡◌, ℕ, ◌+◌, ◌≤◌, List, length, drop, ap, ◌∙◌, subst, arith, length-append}
use Rattle.calls.specs.Bytes.{Put}
use Rattle.desk.specs.Holding.{lent}
use Rattle.session.specs.Lent.{Called}

-- they are no more than what was lent for them
pub put_within : (bs old new : List ℕ) (k : ℕ) → Put bs old new k → k ≤ length new
put_within bs old new k p =
    let long : length new ≡ length bs + length (drop k old) = ap length p.holds ∙ length-append bs (drop k old) in
    omega (arith, p.count, long)

-- the number of lamps by another name
pub called_as : {n n' : ℕ} {ws rs ts cs ls ms ws' rs' ts' cs' ls' ms' bytes old new : List ℕ} {k : ℕ} → n ≡ n'
    → Called (lent n ws rs ts cs ls ms) (lent n ws' rs' ts' cs' ls' ms') bytes old new k → Called (lent n' ws rs ts cs ls ms) (lent n' ws' rs' ts' cs' ls' ms') bytes old new k
called_as {n} {n'} {ws} {rs} {ts} {cs} {ls} {ms} {ws'} {rs'} {ts'} {cs'} {ls'} {ms'} {bytes} {old} {new} {k} =
    subst (λ x. Called (lent x ws rs ts cs ls ms) (lent x ws' rs' ts' cs' ls' ms') bytes old new k)
