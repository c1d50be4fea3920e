-- The character at a fault is within the line.
use Rattle.std.proofs.Common.{arith}
use Rattle.keys.proofs.Bounds.{fault-within}
use Rattle.keys.proofs.tell.fault.Goals as goal

pub overflow_add-fault : goal.overflow_add-fault
overflow_add-fault g c = omega (arith, fault-within _ _ _ _ c.in-Err.ensures)

pub overflow_add-fault-2 : goal.overflow_add-fault-2
overflow_add-fault-2 g c = omega (arith, fault-within _ _ _ _ c.in-Err.ensures)

pub slice_bounds-character-end : goal.slice_bounds-character-end
slice_bounds-character-end g c = omega (arith, fault-within _ _ _ _ c.in-Err.ensures)
