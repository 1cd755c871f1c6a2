-- Which memory a board is in. Assumes nothing: these are definitions.
use Rattle.std.specs.Prelude.{◌≡◌}
use Rattle.lamps.specs.Promise.{Memory as Held}
use Rattle.desk.specs.Holding.{lent}
use Rattle.desk.specs.declared.memory.Memory.{Memory}

-- the memory, by what its slices hold
abbrev pub held : Memory → Held
held m = lent m.board.lamps m.wires.now m.rows.now m.done.now m.pivots.now m.lit.now m.marks.now

-- it is of as many lamps, in the same slices as before
pub record InPlace (old new : Memory) : Type 0 where
  pub lamps : new.board.lamps ≡ old.board.lamps
  pub wires : new.wires.ghost_name ≡ old.wires.ghost_name
  pub rows : new.rows.ghost_name ≡ old.rows.ghost_name
  pub done : new.done.ghost_name ≡ old.done.ghost_name
  pub pivots : new.pivots.ghost_name ≡ old.pivots.ghost_name
  pub lit : new.lit.ghost_name ≡ old.lit.ghost_name
  pub marks : new.marks.ghost_name ≡ old.marks.ghost_name
