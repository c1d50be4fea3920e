-- The loop: whether the letters before it hold.
use Rattle.std.proofs.Common.{◌≡◌, ◌≤◌, length, take}
use Rattle.machine.specs.Query.{letters_within}
use Rattle.engine_admission.proofs.word_holds.Given as goal

abbrev pub invariant-loop-x : goal.invariant-loop-x
invariant-loop-x l = (length l.w ≤ 64) × (l.hold ≡ letters_within (take l.x-index l.w))
