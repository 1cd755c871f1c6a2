-- The lines of a text: calls, and claims about a board. Assumes nothing: these are definitions.
use Rattle.std.specs.Prelude.{ℕ, Bool, cond, ◌&&◌, ◌||◌, List, length, drop, Ok, Err, codes, Result, ◌==◌, nat_lt, slice_index}
use Rattle.lines.specs.Readers.{Reader, ends, word, number, bits, here, then, ◌or◌}
use Rattle.calls.specs.declared.Call.TheVariants as calls
use Rattle.lines.specs.declared.Line.{Line}
use Rattle.lines.specs.declared.Line.TheVariants as line
use Rattle.lines.specs.declared.Claim.{Claim}
use Rattle.lines.specs.declared.Claim.TheVariants as claim

-- an empty line says nothing, nor does one that begins with #
abbrev pub says_nothing : List ℕ → Bool
says_nothing bs = length bs == 0 || slice_index bs 0 == 35

unfoldable pub silent : {X : Type 0} → X → Reader X
silent x p bs = cond (says_nothing bs) (Ok x) (Err p)

-- a keyword alone; with a number; with two numbers, one space between them; with a digit 0 or 1 for each of n lamps
unfoldable pub alone : {X : Type 0} → List ℕ → X → Reader X
alone w x = word w (ends x)

unfoldable pub one : {X : Type 0} → List ℕ → (ℕ → X) → Reader X
one w f = word w (number (λ n. ends (f n)))

unfoldable pub two : {X : Type 0} → List ℕ → (ℕ → ℕ → X) → Reader X
two w f = word w (number (λ i. word (codes " ") (number (λ j. ends (f i j)))))

unfoldable pub set : {X : Type 0} → ℕ → List ℕ → (ℕ → X) → Reader X
set n w f = word w (bits n (λ v. ends (f v)))

-- what `read` reads behind a keyword, up to the end of the line
abbrev pub after : {X : Type 0} → List ℕ → (ℕ → Result (X × ℕ) ℕ) → List ℕ → Result X ℕ
after w read bs = then (word w here 0 bs) (λ p. then (read p) (λ r. then (ends (tt {0}) r.1 (drop r.1 bs)) (λ _. Ok r.0)))

-- a line of calls
abbrev pub call : Reader Line
call =
    silent line.Nothing
    or one (codes "lamps ") line.Lamps
    or two (codes "grid ") line.Grid
    or two (codes "wire ") (λ i j. line.Call (calls.Wire i j))
    or one (codes "turn ") (λ i. line.Call (calls.Turn i))
    or one (codes "press ") (λ i. line.Call (calls.Press i))
    or alone (codes "lit") (line.Call calls.Lit)
    or alone (codes "out") (line.Call calls.Out)
    or alone (codes "ways") (line.Call calls.Ways)

-- a board has 1 to 64 lamps
abbrev pub serves : ℕ → Bool
serves n = nat_lt 0 n && nat_lt n 65

-- a line that makes a board; a claim about a board of n lamps
abbrev pub board : Reader Claim
board = silent claim.Nothing or one (codes "lamps ") claim.Lamps or two (codes "wire ") claim.Wire or one (codes "turn ") claim.Turn

abbrev pub claimed : ℕ → Reader Claim
claimed n = board or set n (codes "press ") claim.Press or set n (codes "never, by ") claim.Never

-- what a line of calls says, or the place where it can't be read on
unfoldable pub line_of : List ℕ → Result Line ℕ
line_of bs = call 0 bs

-- what a line of a board of n lamps, or of claims about it, says; where n is 0 there is no board yet, and no claim
unfoldable pub claim_of : ℕ → List ℕ → Result Claim ℕ
claim_of n bs = cond (serves n) (claimed n 0 bs) (board 0 bs)
