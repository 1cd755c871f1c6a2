-- A text and its lines, and the line of a refusal. Assumes nothing: these are definitions.
use Rattle.std.specs.Prelude.{ℕ, cond, List, [], ◌∷◌, ◌++◌, codes, decimal, ◌==◌}

-- the lines of a text, of which the first has begun with `line`: a line ends before byte 10, the last where the text ends
unfoldable pub lines_from : List ℕ → List ℕ → List (List ℕ)
lines_from line [] = line ∷ []
lines_from line (b ∷ bs) = cond (b == 10) (line ∷ lines_from [] bs) (lines_from (line ++ (b ∷ [])) bs)

-- a refusal, by its number and the place; and the line that it is answered by
abbrev pub refused_at : ℕ → ℕ → List ℕ
refused_at k p = codes "refused " ++ (decimal k ++ (codes " at " ++ decimal p))

abbrev pub refusal_line : ℕ → ℕ → List ℕ
refusal_line k p = codes "refused " ++ (decimal k ++ (codes " at " ++ (decimal p ++ codes "\n")))
