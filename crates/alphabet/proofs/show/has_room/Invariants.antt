-- At every turn, what is left of the room and what is left of the text differ as they did.
use Prim.Native.Nat.{◌+◌, ◌≤◌}
use mathlib.Core.Path.{◌≡◌}
use lib.ListN.{length, drop}
use Rattle.alphabet.specs.Shown.{shown}
use Rattle.alphabet.proofs.show.has_room.Given as goal

abbrev pub invariant-loop-c : goal.invariant-loop-c
invariant-loop-c l = (l.c-index ≤ length l.text) × (l.room + length (shown (drop l.c-index l.text)) ≡ l.left + length (shown l.text))
