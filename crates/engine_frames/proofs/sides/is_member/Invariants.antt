use mathlib.Core.Path.{◌≡◌}
use lib.ListN.{take}
use Rattle.table_format.specs.Rules.{any}
use Rattle.engine_frames.proofs.sides.is_member.Given as goal

abbrev pub invariant-loop-y : goal.invariant-loop-y
invariant-loop-y g l = l.found ≡ any (λ y. g.T.PartialEq.eq y l.x) (take l.y-index l.list)
