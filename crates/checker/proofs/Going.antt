-- The lines of a text, answered one after another. Assumes nothing.
use Rattle.std.proofs.Common.{◌≡◌, ℕ, List, [], ◌∷◌, ◌++◌, None, Option, sym, refl, subst}
use Rattle.std.proofs.lemmas.List.{append-nil, append_assoc}
use Rattle.lamps.specs.Calls.{Board as Wall}
use Rattle.checker.specs.Replies.{said, next}
use Rattle.checker.specs.Held.{Held, Answered}
use Rattle.checker.specs.Texts.{line_for, Verdicts}
use Rattle.checker.specs.declared.reply.Reply.{Reply}
use Rattle.checker.specs.declared.small.SmallBoard.{SmallBoard}

-- of these lines some are answered by `out`, and what answers the others, on the board that there is now, goes on from it
pub record Going (lines others : List (List ℕ)) (c : Option SmallBoard) (out : List ℕ) : Type 0 where
  pub model : Option Wall
  pub held : Held c model
  pub rest : (x : List ℕ) → Verdicts model others x → Verdicts None lines (out ++ x)

pub going_from : (lines : List (List ℕ)) (c : Option SmallBoard) → Held c None → Going lines lines c []
going_from lines c h = record { model = None; held = h; rest = λ x v. v }

module _ {lines others : List (List ℕ)} {c : Option SmallBoard} {out : List ℕ} (g : Going lines others c out) where
  pub going_on : (line : List ℕ) (more : List (List ℕ)) (r : Reply) (c' : Option SmallBoard) → others ≡ line ∷ more → Answered g.model (said g.model line) r c' → Going lines more c' (out ++ line_for r)
  unfolding Verdicts
  going_on line more r c' e a = record { model = next g.model (said g.model line); held = a.holds; rest = completes }
    where
      completes : (x : List ℕ) → Verdicts (next g.model (said g.model line)) more x → Verdicts None lines ((out ++ line_for r) ++ x)
      completes x v = subst (Verdicts None lines) (sym (append_assoc out (line_for r) x)) (g.rest (line_for r ++ x) (subst (λ ls. Verdicts g.model ls (line_for r ++ x)) (sym e) (r, x, a.right, refl, v)))

  pub going_done : others ≡ [] → Verdicts None lines out
  unfolding Verdicts
  going_done e = subst (Verdicts None lines) (append-nil out) (g.rest [] (subst (λ ls. Verdicts g.model ls []) (sym e) refl))
