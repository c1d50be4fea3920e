-- The first frame that is not linked by the rules of the sides. The invariant: those so far are, and the code holds the frame below with where its
-- state's arcs begin.
use Rattle.std.proofs.Common.{◌≡◌, ℕ, ◌-◌, ◌<◌, ◌≤◌, true, get_or}
use Rattle.machine.specs.Stack.{look_at}
use Rattle.engine_frames.specs.Frames.{frame_of}
use Rattle.engine_place.specs.Place.{linked_at}
use Rattle.engine_place.proofs.links_from.Given as goal

abbrev pub invariant-loop-i : goal.invariant-loop-i
invariant-loop-i l =
    ((j : ℕ) → l.from ≤ j → j < l.i → linked_at l.setup l.first l.arcs l.upper l.lower l.stack j ≡ true) × (l.g ≡ frame_of (look_at l.stack (l.i - 1)))
    × (l.begin ≡ get_or l.first l.g.state 0)
