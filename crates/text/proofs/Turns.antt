-- Line after line is answered. Assumes nothing.
use Rattle.std.proofs.Common.{◌≡◌, ℕ, None, Some, List, [], ◌∷◌, ◌++◌, take, Option, Bor, sym, refl, ap, subst, subst₂, append_assoc, append-nil, ◌∙◌}
use Rattle.lamps.specs.Calls.{Board}
use Rattle.lines.specs.Lines.{line_of}
use Rattle.lines.specs.Texts.{lines_from}
use Rattle.lines.proofs.Cut.{lines_left}
use Rattle.text.specs.Memory.{lamps_open}
use Rattle.text.specs.declared.wall.Wall.{Wall}
use Rattle.text.specs.Board.{held, Stands, Step}
use Rattle.text.specs.Transcript.{Answers, Transcript, Answered}

-- this was said to these lines, the wall holds the board that they left, and what is said to others on it goes on from there
pub record Sofar (lines : List (List ℕ)) (w : Wall) (said : List ℕ) : Type 0 where
  pub board : Option Board
  pub stands : Stands (held w) board
  pub goes : (others : List (List ℕ)) (more : List ℕ) → Transcript board others more → Transcript None (lines ++ others) (said ++ more)

pub no_line : (w : Wall) → w.board ≡ None → Sofar [] w []
no_line w e = record { board = None; stands = ap lamps_open e; goes = λ others more h. h }

module _ {lines : List (List ℕ)} {w : Wall} {said : List ℕ} (old : Sofar lines w said) where
  -- a line more
  pub next_line : (line : List ℕ) (w' : Wall) (first : List ℕ) → Step (Answers (line_of line)) (held w) (held w') first → Sofar (lines ++ (line ∷ [])) w' (said ++ first)
  unfolding Transcript
  next_line line w' first step =
      let turn = step old.board old.stands in
      record {
        board = turn.0;
        stands = turn.2;
        goes = λ others more h. subst₂ (Transcript None) (sym (append_assoc lines (line ∷ []) others)) (sym (append_assoc said first more))
            (old.goes (line ∷ others) (first ++ more) (first, more, turn.0, refl, turn.1, h));
      }

  -- no line more
  pub all_said : Transcript None lines said
  unfolding Transcript
  all_said = subst₂ (Transcript None) (append-nil lines) (append-nil said) (old.goes [] [] refl)

-- the lines of a text before the rest of it were answered
pub record Before (text : List ℕ) (rest : Option (Bor (List ℕ))) (w : Wall) (said : List ℕ) : Type 0 where
  pub lines : List (List ℕ)
  pub sofar : Sofar lines w said
  pub cut : lines_from [] text ≡ lines ++ lines_left rest

pub from_start : (text : Bor (List ℕ)) (w : Wall) (said : List ℕ) → w.board ≡ None → said ≡ [] → Before text.now (Some text) w said
unfolding lines_left
from_start text w said e none = record { lines = []; sofar = subst (Sofar [] w) (sym none) (no_line w e); cut = refl }

module _ {text : List ℕ} {w : Wall} {said : List ℕ} where
  -- a line of the rest more
  pub line_ahead : (rest : Bor (List ℕ)) (end : ℕ) (rest' : Option (Bor (List ℕ))) (w' : Wall) (first : List ℕ) → Before text (Some rest) w said
      → lines_from [] rest.now ≡ take end rest.now ∷ lines_left rest' → Step (Answers (line_of (take end rest.now))) (held w) (held w') first → Before text rest' w' (said ++ first)
  unfolding lines_left
  line_ahead rest end rest' w' first old found step = record {
    lines = old.lines ++ (take end rest.now ∷ []);
    sofar = next_line old.sofar (take end rest.now) w' first step;
    cut = old.cut ∙ ap (λ ls. old.lines ++ ls) found ∙ sym (append_assoc old.lines (take end rest.now ∷ []) (lines_left rest'));
  }

  -- no line is left
  pub all_ahead : Before text None w said → Answered text said
  unfolding lines_left
  all_ahead old = subst (λ lines. Transcript None lines said) (sym (old.cut ∙ append-nil old.lines)) (all_said old.sofar)
