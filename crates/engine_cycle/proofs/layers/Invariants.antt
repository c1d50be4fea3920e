-- The loop: the layers so far.
use Rattle.graph.specs.Lists.{zeros}
use Rattle.engine_cycle.proofs.Rounds.{Grown}
use Rattle.engine_cycle.proofs.layers.Given as goal

abbrev pub invariant-loop-numbers : goal.invariant-loop-numbers
invariant-loop-numbers l = Grown l.graph l.s l.numbers l.far

abbrev pub decreases-loop-numbers : goal.decreases-loop-numbers
decreases-loop-numbers l = zeros l.numbers
