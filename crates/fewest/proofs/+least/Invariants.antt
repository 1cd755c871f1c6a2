use Rattle.fewest.proofs.+least.Given as goal

abbrev pub decreases-least : goal.decreases-least
decreases-least l = l.k
