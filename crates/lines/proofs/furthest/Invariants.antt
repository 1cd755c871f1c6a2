use Rattle.std.proofs.Common.{◌≡◌, Err, drop}
use Rattle.std.specs.List.{fold}
use Rattle.lines.specs.Readers.{further}
use Rattle.lines.proofs.furthest.Given as goal

abbrev pub invariant-loop-reading : goal.invariant-loop-reading
invariant-loop-reading g l = fold further (Err l.far) (drop l.reading-index l.readings) ≡ fold further (Err 0) l.readings
