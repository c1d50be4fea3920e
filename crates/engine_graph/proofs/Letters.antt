-- Whether an arc is idle, where it is looked at once for each side.
use mathlib.Core.Path.{◌≡◌, ap₂, ◌∙◌}
use mathlib.Core.Bool.{Bool, ◌&&◌}
use Rattle.table_format.specs.Table.{Arc}
use Rattle.table_format.specs.declared.Arc as held
use Rattle.table_format.specs.Cells.{arc_held}
use Rattle.machine.specs.Idle.{side_idle}
use Rattle.engine_graph.specs.Graph.{idle_by}

-- its upper letter first
pub idle_by_lem : (upper lower : Bool) (a : Arc) (r r' : held.Arc) {x y : Bool} → r ≡ arc_held a → r' ≡ arc_held a → x ≡ side_idle upper r.upper → y ≡ side_idle lower r'.lower
    → (x && y) ≡ idle_by upper lower a
idle_by_lem upper lower a r r' e e' u l = ap₂ ◌&&◌ u l ∙ ap₂ (λ (z w : held.Arc). side_idle upper z.upper && side_idle lower w.lower) e e'
