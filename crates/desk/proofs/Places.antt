-- Memory stays where it is. Assumes nothing.
use Rattle.std.proofs.Common.{refl, ◌∙◌}
use Rattle.desk.specs.declared.memory.Memory.{Memory}
use Rattle.desk.specs.Places.{InPlace}

pub in_place : (m : Memory) → InPlace m m
in_place m = record { lamps = refl; wires = refl; rows = refl; done = refl; pivots = refl; lit = refl; marks = refl }

pub in_place_both : (m m₁ m₂ : Memory) → InPlace m m₁ → InPlace m₁ m₂ → InPlace m m₂
in_place_both m m₁ m₂ p q = record {
  lamps = q.lamps ∙ p.lamps;
  wires = q.wires ∙ p.wires;
  rows = q.rows ∙ p.rows;
  done = q.done ∙ p.done;
  pivots = q.pivots ∙ p.pivots;
  lit = q.lit ∙ p.lit;
  marks = q.marks ∙ p.marks;
}
