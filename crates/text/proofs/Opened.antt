-- A board is opened. Assumes nothing.
use Rattle.std.proofs.Common.{◌≡◌, ℕ, ◌<◌, true, List, Some, refl, ap, subst}
use Rattle.lamps.specs.Lamps.{Wire}
use Rattle.lamps.specs.Promise.{Memory}
use Rattle.desk.specs.Holding.{Holds}
use Rattle.lines.specs.Lines.{serves}
use Rattle.text.specs.Lines.{opened}
use Rattle.text.specs.Memory.{in_use}
use Rattle.text.specs.Board.{dark, Step}
use Rattle.text.specs.Transcript.{Opens, OpensIf}

-- a board of n lamps is open, with these wires
pub opens : (n k : ℕ) (ws : List Wire) (m m' : Memory) → true ≡ serves n → k ≡ n → 0 < m'.lamps → Holds (in_use m') (dark n ws) → Step (Opens n ws) m m' (opened k)
opens n k ws m m' served same some holds b h =
    (Some (dark n ws), subst (λ t. OpensIf t n ws b (opened k) (Some (dark n ws))) served (ap opened same, refl), (some, holds))
