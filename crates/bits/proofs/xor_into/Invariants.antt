use Rattle.std.proofs.Common.{◌≡◌, ℕ, ◌<◌, ◌≤◌, get_or}
use lib.Bits.{bit_xor}
use Rattle.bits.proofs.xor_into.Given as goal

-- the words before i are done, and the others are as they were
abbrev pub invariant-loop-i : goal.invariant-loop-i
invariant-loop-i l =
    ((k : ℕ) → k < l.i → get_or l.to k 0 ≡ bit_xor (get_or l.initial.to k 0) (get_or l.from k 0))
    × ((k : ℕ) → l.i ≤ k → get_or l.to k 0 ≡ get_or l.initial.to k 0)
