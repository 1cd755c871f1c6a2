-- What is promised of lines. Each is a statement, whose proof is owed. Assumes nothing.
use Rattle.std.specs.Prelude.{◌≡◌, ℕ, ◌+◌, ◌^◌, ◌<◌, ◌≤◌, true, List, ◌++◌, length, take, is_ok, Ok, Err, Result}
use Rattle.lines.specs.Lines.{line_of, claim_of, serves}
use Rattle.lines.specs.Printed.{printed, printed_claim}
use Rattle.calls.specs.declared.Call.TheVariants as calls
use Rattle.lines.specs.declared.Line.{Line}
use Rattle.lines.specs.declared.Line.TheVariants as line
use Rattle.lines.specs.declared.Claim.{Claim}
use Rattle.lines.specs.declared.Claim.TheVariants as claim

-- some line that can be read begins with these bytes
abbrev pub Begins : {X : Type 0} → (List ℕ → Result X ℕ) → List ℕ → Type 0
Begins read s = (t : List ℕ) × (is_ok (read (s ++ t)) ≡ true)

-- p is the length of the longest beginning of a line with which some line begins that can be read
pub record Longest {X : Type 0} (read : List ℕ → Result X ℕ) (bs : List ℕ) (p : ℕ) : Type 0 where
  pub within : p ≤ length bs
  pub fits : Begins read (take p bs)
  pub stops : p < length bs → Begins read (take (p + 1) bs) → ⊥

-- the numbers of a line are those that a line can have
abbrev pub Fits : Line → Type 0
Fits (line.Lamps n) = n < 65536
Fits (line.Grid w h) = (w < 65536) × (h < 65536)
Fits (line.Call (calls.Wire i j)) = (i < 65536) × (j < 65536)
Fits (line.Call (calls.Turn i)) = i < 65536
Fits (line.Call (calls.Press i)) = i < 65536
Fits (line.Call calls.Lit) = Unit {0}
Fits (line.Call calls.Out) = Unit {0}
Fits (line.Call calls.Ways) = Unit {0}
Fits line.Nothing = Unit {0}

abbrev pub ClaimFits : ℕ → Claim → Type 0
ClaimFits n (claim.Lamps m) = m < 65536
ClaimFits n (claim.Wire i j) = (i < 65536) × (j < 65536)
ClaimFits n (claim.Turn i) = i < 65536
ClaimFits n (claim.Press p) = (serves n ≡ true) × (p < 2 ^ n)
ClaimFits n (claim.Never q) = (serves n ≡ true) × (q < 2 ^ n)
ClaimFits n claim.Nothing = Unit {0}

-- a line is refused at the end of the longest beginning that fits, and what is printed is read as what it was
pub record OfLines : Type 0 where
  pub longest : (bs : List ℕ) (p : ℕ) → line_of bs ≡ Err p → Longest line_of bs p
  pub back : (l : Line) → Fits l → line_of (printed l) ≡ Ok l

pub record OfClaims : Type 0 where
  pub longest : (n : ℕ) (bs : List ℕ) (p : ℕ) → claim_of n bs ≡ Err p → Longest (claim_of n) bs p
  pub back : (n : ℕ) (c : Claim) → ClaimFits n c → claim_of n (printed_claim n c) ≡ Ok c
