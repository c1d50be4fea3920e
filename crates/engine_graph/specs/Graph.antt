-- A table's arcs, in their cells, as a graph on its states; upper and lower tell whether a side is read.
use Rattle.std.specs.Prelude.{ℕ, ◌+◌, ◌<◌, ◌≤◌, ◌≡◌, Bool, cond, ◌&&◌, List, length, get_or, Option, Some, None}
use Rattle.table_format.specs.Table.{Arc}
use Rattle.table_format.specs.Cells.{arc_count, arc_of, arcs_as}
use Rattle.machine.specs.Idle.{side_idle, Leads}

-- the arcs lead among the states, and those of state q are numbered from the index at q up to the index at q + 1
pub record Graph (arcs first : List ℕ) (states : ℕ) : Type 0 where
  pub few : states ≤ 256
  pub index : length first ≡ 257
  pub source_in : (n : ℕ) → n < arc_count arcs → (arc_of arcs n).source < states
  pub target_in : (n : ℕ) → n < arc_count arcs → (arc_of arcs n).target < states
  pub indexed : (n : ℕ) → n < arc_count arcs → (get_or first (arc_of arcs n).source 0 ≤ n) × (n < get_or first ((arc_of arcs n).source + 1) 0)
  pub numbered : (q n : ℕ) → q < states → get_or first q 0 ≤ n → n < get_or first (q + 1) 0 → (n < arc_count arcs) × ((arc_of arcs n).source ≡ q)

-- an arc is idle; where no side is read, every arc is
abbrev pub idle_by : Bool → Bool → Arc → Bool
idle_by upper lower a = side_idle upper a.upper && side_idle lower a.lower

-- the target of an arc that is idle
abbrev pub idle_target : Bool → Bool → Arc → Option ℕ
idle_target upper lower a = cond (idle_by upper lower a) (Some a.target) None

-- an idle arc leads from s to r
abbrev pub IdleEdge : List ℕ → Bool → Bool → ℕ → ℕ → Type 0
IdleEdge arcs upper lower = Leads (arcs_as arcs) (idle_by upper lower)
