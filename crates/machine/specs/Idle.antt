-- Document 01, "Table and paths": idle arcs and idle cycles; document 02, slip 2: cycles that are reached, slip 8: the one that refusal 12 tells.
use Rattle.std.specs.Prelude.{ℕ, zero, suc, ◌≡◌, Bool, true, false, ◌&&◌, eqb}
use mathlib.Core.List.{List, Memᴰ}
use Rattle.table_format.specs.Table.{Arc, Table}
use Rattle.table_format.specs.Rules.{any}
use Rattle.graph.specs.Walk.{Walk}
use Rattle.graph.specs.Reached.{Reached, NoReachedCycle, ReachedCycle}
use Rattle.graph.specs.Shown.{Shown, has_reached_cycle, shown_cycle}
use Rattle.machine.specs.Query.{Task, Side, upper_side, lower_side, reads, letter}

-- a letter x passes nothing that is read: its side is written, or it is 0
abbrev pub side_idle : Bool → ℕ → Bool
side_idle true zero = true
side_idle true (suc x) = false
side_idle false x = true

-- "An arc is idle for a task if it has 0 on every side that the task reads."
abbrev pub idle_on : Task → Side → Arc → Bool
idle_on k s a = side_idle (reads k s) (letter s a)

-- both sides
abbrev pub idle : Task → Arc → Bool
idle k a = idle_on k upper_side a && idle_on k lower_side a

-- an arc that passes a test leads from s to r
pub record Leads (arcs : List Arc) (test : Arc → Bool) (s r : ℕ) : Type 0 where
  pub arc : Arc
  pub listed : Memᴰ arc arcs
  pub from : arc.source ≡ s
  pub to : arc.target ≡ r
  pub passes : test arc ≡ true

-- the same, computed
abbrev pub leads_by : List Arc → (Arc → Bool) → ℕ → ℕ → Bool
leads_by arcs test s r = any (λ a. test a && (eqb a.source s && eqb a.target r)) arcs

-- every arc passes
abbrev pub always : Arc → Bool
always a = true

-- an arc leads from s to r, whatever its letters
abbrev pub AnyArc : List Arc → ℕ → ℕ → Type 0
AnyArc arcs = Leads arcs always

-- a state "can be reached by arcs from an initial state", by none or more of them
abbrev pub StateReached : Table → ℕ → Type 0
StateReached t = Reached (AnyArc t.arcs) t.initials

module _ (t : Table) (k : Task) where
  -- an idle arc leads from s to r
  abbrev pub IdleArc : ℕ → ℕ → Type 0
  IdleArc = Leads t.arcs (idle k)

  -- a walk of one or more idle arcs, from a state to a state
  abbrev pub IdleWalk : ℕ → ℕ → Type 0
  IdleWalk = Walk IdleArc

  -- "An idle cycle is a closed walk of one or more idle arcs": no state that is reached is on one
  abbrev pub NoIdleCycle : Type 0
  NoIdleCycle = NoReachedCycle (AnyArc t.arcs) IdleArc t.initials

  -- "the states of one such cycle, none twice, in walking order"; the first of them is reached, and so are all
  abbrev pub CycleStates : List ℕ → Type 0
  CycleStates = ReachedCycle (AnyArc t.arcs) IdleArc t.initials

  -- whether one is reached (cycle-test)
  unfoldable pub has_idle_cycle : Bool
  has_idle_cycle = has_reached_cycle (leads_by t.arcs always) (leads_by t.arcs (idle k)) t.states t.initials

  -- slip 8: "From the lowest state on an idle cycle reachable as in Slip 2, show a shortest cycle through it; among those the one whose state
  -- numbers come first, compared one by one."
  abbrev pub ShownIdle : List ℕ → Type 0
  ShownIdle = Shown (AnyArc t.arcs) IdleArc t.initials

  -- the same, computed (shown-is); none where no idle cycle is reached: "The cycle in 12 is then no longer left to the program."
  abbrev pub shown_idle : List ℕ
  shown_idle = shown_cycle (leads_by t.arcs always) (leads_by t.arcs (idle k)) t.states t.initials
