use Rattle.std.proofs.Common.{arith}
use Rattle.machine.specs.Query.{upper_side, lower_side}
use Rattle.engine_place.proofs.class_link_holds.Goals as goal

pub overflow_add-g : goal.overflow_add-g
overflow_add-g c = omega (arith, c.requires.1.counts-small upper_side)

pub overflow_add-g-then-g-f : goal.overflow_add-g-then-g-f
overflow_add-g-then-g-f c = omega (arith, c.requires.1.counts-small lower_side)
