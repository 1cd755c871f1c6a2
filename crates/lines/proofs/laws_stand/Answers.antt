use Rattle.lines.proofs.Sound.{line_longest, claim_longest}
use Rattle.lines.proofs.Back.{line_back, claim_back}
use Rattle.lines.proofs.laws_stand.Goals as goal

pub returns : goal.returns
returns c = record { lines = record { longest = line_longest; back = line_back }; claims = record { longest = claim_longest; back = claim_back } }
