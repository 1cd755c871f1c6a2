-- A call on a wall. Assumes nothing.
use Rattle.std.proofs.Common.{◌≡◌, ℕ, ◌<◌, List, Some, None, refl, arith}
use Rattle.lamps.specs.Calls.{Call, Answer, after}
use Rattle.lamps.specs.Promise.{Memory}
use Rattle.text.specs.Lines.{told}
use Rattle.text.specs.Memory.{in_use, Performed}
use Rattle.text.specs.Board.{Asks, Step, Tells}

on_board : (c : Call) (m m' : Memory) (s : List ℕ) → 0 < m.lamps → m'.lamps ≡ m.lamps → Tells c (in_use m) (in_use m') s → Step (Asks c) m m' s
on_board c m m' s p many tells None h = absurd (omega (arith, p, h))
on_board c m m' s p many tells (Some w) h =
    let said = tells w h.1 in
    (Some (after w c), (said.0, said.1, said.2, refl), (omega (arith, p, many), said.3))

-- the call is performed, and answered by a line
pub asked : (c : Call) (m m' : Memory) (a : Answer) (s : List ℕ) → 0 < m.lamps → m'.lamps ≡ m.lamps → Performed c m m' a → s ≡ told c a → Step (Asks c) m m' s
asked c m m' a s p many done says = on_board c m m' s p many (λ b h. let then = done b h in (a, then.answered, says, then.holds))
