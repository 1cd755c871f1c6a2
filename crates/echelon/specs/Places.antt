-- Which memory the steps are in. Assumes nothing: these are definitions.
use Rattle.std.specs.Prelude.{◌≡◌}
use Rattle.echelon.specs.declared.steps.Steps.{Steps}

-- there are as many rows, in the same slices as before
pub record InPlace (old new : Steps) : Type 0 where
  pub n : new.n ≡ old.n
  pub rows : new.rows.ghost_name ≡ old.rows.ghost_name
  pub done : new.done.ghost_name ≡ old.done.ghost_name
  pub pivots : new.pivots.ghost_name ≡ old.pivots.ghost_name
