-- The frames from the bottom up: the invariant is that those below i hold whatever the ceiling, which the top frame's sum then decides.
use Rattle.std.proofs.Common.{◌≡◌, ◌-◌, ◌<◌, ◌≤◌, true, false, []}
use Rattle.machine.specs.Frames.{frames_of, chain_holds}
use Rattle.machine.specs.Stack.{look_at, store}
use Rattle.engine_step.specs.Setting.{machine_by}
use Rattle.engine_place.specs.Place.{unlimited, linked_at}
use Rattle.engine_place.proofs.frames_hold.Given as goal

abbrev pub invariant-loop-i : goal.invariant-loop-i
invariant-loop-i l =
    (0 < l.i) × (l.i ≤ l.depth) × (chain_holds (machine_by (unlimited l.setting.setup l.stack) l.setting.classes.now l.setting.initials.now [] l.setting.arcs.now l.setting.upper.now l.setting.lower.now) l.started (frames_of store l.stack (l.i - 1)) (look_at l.stack (l.i - 1)) ≡ true)
    × (l.i < l.depth → linked_at l.setting.setup l.setting.first.now l.setting.arcs.now l.setting.upper.now l.setting.lower.now l.stack l.i ≡ false)

abbrev pub decreases-loop-i : goal.decreases-loop-i
decreases-loop-i l = l.depth - l.i
