-- The machine of a search, by the parts of the loaded table and the words that the code is lent.
use Rattle.std.specs.Prelude.{ℕ, suc, ◌+◌, ◌≤◌, ◌<◌, ◌≡◌, Bool, true, false, ◌||◌, List, [], length, get_or, ltb}
use Rattle.table_format.specs.Table.{Arc, Table}
use Rattle.table_format.specs.Classes.{first_class}
use Rattle.table_format.specs.Rules.{keeps_rules}
use Rattle.table_format.specs.Index.{below, first_index}
use Rattle.table_format.specs.Cells.{arc_count, arc_of, arcs_as}
use Rattle.machine.specs.Query.{Task, recognition, synthesis, analysis, Side, Query, most_ceiling}
use Rattle.machine.specs.Machine.{Machine}
use Rattle.machine.specs.Frames.{Held}
use Rattle.machine.specs.Transducer.{passed, machine}
use Rattle.machine.specs.Stack.{most_frames, frames_in, look_at}
use Rattle.engine_frames.specs.declared.Setup.{Setup}
use Rattle.engine_frames.specs.declared.Setting.{Setting}

-- the task that reads these sides, one or both
abbrev pub task_by : Bool → Bool → Task
task_by true true = recognition
task_by true false = synthesis
task_by false b = analysis

-- the query
abbrev pub query_by : Setup → List ℕ → List ℕ → Query
query_by s upper lower = record { task = task_by s.up s.low; upper_word = upper; lower_word = lower; ceiling = s.ceiling }

-- the table
abbrev pub table_by : Setup → List (List ℕ) → List ℕ → List ℕ → List ℕ → Table
table_by s classes initials terminals arcs =
    record { states = s.states; classes = classes; initials = initials; terminals = terminals; arcs = arcs_as arcs }

-- the machine
abbrev pub machine_by : Setup → List (List ℕ) → List ℕ → List ℕ → List ℕ → List ℕ → List ℕ → Machine
machine_by s classes initials terminals arcs upper lower = machine (table_by s classes initials terminals arcs) (query_by s upper lower)

-- a run with its cells
abbrev pub held : ℕ → ℕ → List ℕ → Held (List ℕ)
held n d c = record { started = n; depth = d; cells = c }

-- no letter of a word means a class
pub record SmallWords (upper lower : List ℕ) : Type 0 where
  pub upper-small : (i : ℕ) → get_or upper i 0 < first_class
  pub lower-small : (i : ℕ) → get_or lower i 0 < first_class

-- an arc has a class on both sides or on none
abbrev pub Alike : Arc → Type 0
Alike a = ltb a.upper first_class ≡ ltb a.lower first_class

-- the table keeps the rules, `first` is its first-arc index, the task reads a side, the words have only letters, and the ceiling is within its limit
pub record Prepared (s : Setup) (classes : List (List ℕ)) (first initials terminals arcs upper lower : List ℕ) : Type 0 where
  pub keeps : keeps_rules (table_by s classes initials terminals arcs) ≡ true
  pub index : first ≡ first_index s.states (arcs_as arcs)
  pub reads-some : (s.up || s.low) ≡ true
  pub words_small : SmallWords upper lower
  pub ceiling-small : s.ceiling ≤ most_ceiling

-- the same of what a search goes by
abbrev pub IsPrepared : Setting → Type 0
IsPrepared s = Prepared s.setup s.classes.now s.first.now s.initials.now s.terminals.now s.arcs.now s.upper.now s.lower.now

-- its machine
abbrev pub machine_of : Setting → Machine
machine_of s = machine_by s.setup s.classes.now s.initials.now s.terminals.now s.arcs.now s.upper.now s.lower.now

-- its machine where no terminal state is looked at, as for a move or a place
abbrev pub moving_of : Setting → Machine
moving_of s = machine_by s.setup s.classes.now s.initials.now [] s.arcs.now s.upper.now s.lower.now

-- what is known of the frame at d: its state has its place in the index, its next arc is within the arcs and has a class on both sides or on none,
-- its counts and its sum can grow
pub record InBounds (first arcs stack : List ℕ) (d : ℕ) : Type 0 where
  pub indexed : (look_at stack d).state + 1 < length first
  pub from_is : get_or first (look_at stack d).state 0 ≡ below (look_at stack d).state (arcs_as arcs)
  pub to_is : get_or first ((look_at stack d).state + 1) 0 ≡ below (suc (look_at stack d).state) (arcs_as arcs)
  pub next_in : (look_at stack d).next < below (suc (look_at stack d).state) (arcs_as arcs) → (look_at stack d).next < arc_count arcs
  pub next-most : (look_at stack d).next ≤ arc_count arcs
  pub next_small : (look_at stack d).next ≤ 1024
  pub next-alike : (look_at stack d).next < arc_count arcs → Alike (arc_of arcs (look_at stack d).next)
  pub counts-small : (side : Side) → passed (look_at stack d).datum.0 side ≤ most_frames
  pub sum-small : (look_at stack d).datum.1 ≤ most_ceiling

-- what a step may look at: the top frame, or an initial state that is left
pub record Top (first initials arcs : List ℕ) (n d : ℕ) (stack : List ℕ) : Type 0 where
  pub on_stack : d ≤ frames_in stack
  pub few-frames : d ≤ most_frames
  pub some_left : d ≡ 0 → n < length initials
  pub few-initials : length initials ≤ 256
  pub top_in : (k : ℕ) → d ≡ suc k → InBounds first arcs stack k
