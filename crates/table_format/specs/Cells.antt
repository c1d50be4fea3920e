-- Numbers and cells as code holds them, as the counts and arcs that they say.
use Rattle.std.specs.Prelude.{ℕ, ◌+◌, ◌*◌, ◌/◌, List, length, get_or}
use Rattle.table_format.specs.declared.Arc as Held
use Rattle.table_format.specs.Table.{Arc, Counts}
use Rattle.table_format.specs.Loaded.{arc_width, arcs_in}

abbrev pub counts_as : ℕ → ℕ → ℕ → ℕ → Counts
counts_as s i t a = record { states = s; initials = i; terminals = t; arcs = a }

abbrev pub arc_with : ℕ → ℕ → ℕ → ℕ → ℕ → Arc
arc_with s u l t p = record { source = s; upper = u; lower = l; target = t; penalty = p }

-- without a penalty
abbrev pub arc_as : ℕ → ℕ → ℕ → ℕ → Arc
arc_as s u l t = arc_with s u l t 0

-- an arc as code holds it
abbrev pub arc_held : Arc → Held.Arc
arc_held a = record { source = a.source; upper = a.upper; lower = a.lower; target = a.target; penalty = a.penalty }

-- the arc that code holds so
abbrev pub arc_said : Held.Arc → Arc
arc_said a = arc_with a.source a.upper a.lower a.target a.penalty

-- how many arcs a list of cells holds
abbrev pub arc_count : List ℕ → ℕ
arc_count cells = length cells / arc_width

-- the arc of number n
abbrev pub arc_of : List ℕ → ℕ → Arc
arc_of cells n =
    arc_with (get_or cells (arc_width * n) 0) (get_or cells (arc_width * n + 1) 0) (get_or cells (arc_width * n + 2) 0) (get_or cells (arc_width * n + 3) 0)
    (get_or cells (arc_width * n + 4) 0)

-- the arcs
abbrev pub arcs_as : List ℕ → List Arc
arcs_as cells = arcs_in (arc_count cells) cells
