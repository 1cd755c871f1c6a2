-- How numbers, sets of lamps and lines are written: a number by `decimal`, which has no leading zero. Assumes nothing: these are definitions.
use Rattle.std.specs.Prelude.{ℕ, List, [], ◌∷◌, ◌++◌, codes, decimal}
use Rattle.gf2.specs.Rows.{pick}
use Rattle.lamps.specs.Lamps.{Lamps, listed}
use Rattle.bits.specs.Bits.{bit}
use Rattle.calls.specs.declared.Call.TheVariants as calls
use Rattle.lines.specs.declared.Line.{Line}
use Rattle.lines.specs.declared.Line.TheVariants as line
use Rattle.lines.specs.declared.Claim.{Claim}
use Rattle.lines.specs.declared.Claim.TheVariants as claim

-- a set of lamps: a digit for each, 1 where it is in the set
unfoldable pub shown : Lamps → List ℕ
shown [] = []
shown (l ∷ ls) = pick l 49 48 ∷ shown ls

-- the set of those of n lamps whose bit is set in a word
abbrev pub set_in : ℕ → ℕ → Lamps
set_in n w = listed n (bit w)

-- a line of calls
abbrev pub printed : Line → List ℕ
printed (line.Lamps n) = codes "lamps " ++ decimal n
printed (line.Grid w h) = codes "grid " ++ (decimal w ++ (codes " " ++ decimal h))
printed (line.Call (calls.Wire i j)) = codes "wire " ++ (decimal i ++ (codes " " ++ decimal j))
printed (line.Call (calls.Turn i)) = codes "turn " ++ decimal i
printed (line.Call (calls.Press i)) = codes "press " ++ decimal i
printed (line.Call calls.Lit) = codes "lit"
printed (line.Call calls.Out) = codes "out"
printed (line.Call calls.Ways) = codes "ways"
printed line.Nothing = []

-- a line of a board of n lamps, and of claims about it
abbrev pub printed_claim : ℕ → Claim → List ℕ
printed_claim n (claim.Lamps m) = codes "lamps " ++ decimal m
printed_claim n (claim.Wire i j) = codes "wire " ++ (decimal i ++ (codes " " ++ decimal j))
printed_claim n (claim.Turn i) = codes "turn " ++ decimal i
printed_claim n (claim.Press p) = codes "press " ++ shown (set_in n p)
printed_claim n (claim.Never q) = codes "never, by " ++ shown (set_in n q)
printed_claim n claim.Nothing = []
