-- What is answered to each line of a text. Assumes nothing: these are definitions.
use Rattle.std.specs.Prelude.{◌≡◌, ℕ, ◌*◌, Bool, true, false, List, [], ◌∷◌, ◌++◌, Some, None, Ok, Err, Option, Result}
use Rattle.lamps.specs.Lamps.{Wire}
use Rattle.lamps.specs.Calls.{Board}
use Rattle.lamps.specs.Boards.{grid}
use Rattle.calls.specs.Saying.{meant}
use Rattle.lines.specs.Lines.{line_of, serves}
use Rattle.lines.specs.declared.Line.{Line}
use Rattle.lines.specs.declared.Line.TheVariants as line
use Rattle.lines.specs.Texts.{lines_from, refusal_line}
use Rattle.text.specs.Lines.{opened}
use Rattle.text.specs.Board.{dark, Asks}

-- s is what is said, b is there before and b' after it

-- a dark board of n lamps with these wires is to be opened in place of what there is; if so many are not served, that stays
abbrev pub OpensIf : Bool → ℕ → List Wire → Option Board → List ℕ → Option Board → Type 0
OpensIf true n ws b s b' = (s ≡ opened n) × (b' ≡ Some (dark n ws))
OpensIf false n ws b s b' = (s ≡ refusal_line 3 0) × (b' ≡ b)

abbrev pub Opens : ℕ → List Wire → Option Board → List ℕ → Option Board → Type 0
Opens n ws = OpensIf (serves n) n ws

-- a line is to be answered, by what it says or the place where it can't be read on
abbrev pub Answers : Result Line ℕ → Option Board → List ℕ → Option Board → Type 0
Answers (Ok (line.Lamps n)) = Opens n []
Answers (Ok (line.Grid w h)) = Opens (w * h) (grid w h)
Answers (Ok (line.Call c)) = Asks (meant c)
Answers (Ok line.Nothing) = λ b s b'. (s ≡ []) × (b' ≡ b)
Answers (Err p) = λ b s b'. (s ≡ refusal_line 1 p) × (b' ≡ b)

-- s is what is said to these lines, one after the other, each on the board that those before it left
unfoldable pub Transcript : Option Board → List (List ℕ) → List ℕ → Type 0
Transcript b [] s = s ≡ []
Transcript b (l ∷ ls) s =
    (first : List ℕ) × (rest : List ℕ) × (b' : Option Board) × (s ≡ first ++ rest) × Answers (line_of l) b first b' × Transcript b' ls rest

-- what is said to a text, from no board on
abbrev pub Answered : List ℕ → List ℕ → Type 0
Answered text s = Transcript None (lines_from [] text) s
