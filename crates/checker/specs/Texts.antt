-- The text of the answers. Assumes nothing: these are definitions.
use Rattle.std.specs.Prelude.{◌≡◌, ℕ, List, [], ◌∷◌, ◌++◌, codes, decimal, Option}
use Rattle.lamps.specs.Calls.{Board as Wall}
use Rattle.claims.specs.declared.Verdict.{Verdict}
use Rattle.claims.specs.declared.Verdict.TheVariants.{Right, Lamp, Even}
use Rattle.lines.specs.Refusals.{number_of, place_of}
use Rattle.lines.specs.Texts.{refusal_line}
use Rattle.checker.specs.Replies.{said, Replies, next}
use Rattle.checker.specs.declared.reply.Reply.{Reply}
use Rattle.checker.specs.declared.reply.Reply.TheVariants.{Nothing, Refused, Found}

-- what a claim is found to be, as a line; a reply as a line, or as nothing
abbrev pub line_found : Verdict → List ℕ
line_found Right = codes "right\n"
line_found (Lamp k) = decimal k ++ codes "\n"
line_found Even = codes "even\n"

abbrev pub line_for : Reply → List ℕ
line_for Nothing = []
line_for (Refused why) = refusal_line (number_of why) (place_of why)
line_for (Found v) = line_found v

-- `out` answers the lines one after another, each rightly on the board that those before it left
unfoldable pub Verdicts : Option Wall → List (List ℕ) → List ℕ → Type 0
Verdicts b [] out = out ≡ []
Verdicts b (l ∷ ls) out =
    (r : Reply) × (rest : List ℕ) × Replies b (said b l) r × (out ≡ line_for r ++ rest) × Verdicts (next b (said b l)) ls rest
