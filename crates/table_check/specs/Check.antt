-- What the table check tells: whether the cells hold a table that keeps the rules, where its parts stand, where each state's arcs begin.
use Rattle.std.specs.Prelude.{ℕ, ◌-◌, ◌≤◌, ◌≡◌, List, length, take, drop, replicate, Result, Ok, Err}
use Rattle.std.proofs.Math.Option as maybe
use Rattle.table_check.specs.declared.Checked.{Checked}
use Rattle.table_check.specs.declared.Layout.{Layout}
use Rattle.table_format.specs.Table.{Table, Counts}
use Rattle.table_format.specs.Loaded.{initials_at, counts_in, terminals_at, arcs_at, extent, loaded}
use Rattle.table_format.specs.Index.{first_arcs}

-- where the parts of a loaded table begin, by its counts
abbrev pub layout_of : Counts → Layout
layout_of c = record { states = c.states; initials = initials_at; terminals = terminals_at c; arcs = arcs_at c; end = extent c }

-- the layout of a table that the cells hold whole
pub record LaidOut (cells : List ℕ) (l : Layout) : Type 0 where
  pub states-is : l.states ≡ (counts_in cells).states
  pub initials-is : l.initials ≡ initials_at
  pub terminals-is : l.terminals ≡ terminals_at (counts_in cells)
  pub arcs-is : l.arcs ≡ arcs_at (counts_in cells)
  pub end_is : l.end ≡ extent (counts_in cells)
  pub whole : extent (counts_in cells) ≤ length cells

-- the cells of its parts
abbrev pub initials_part : List ℕ → Layout → List ℕ
initials_part cells l = take (l.terminals - l.initials) (drop l.initials cells)

abbrev pub terminals_part : List ℕ → Layout → List ℕ
terminals_part cells l = take (l.arcs - l.terminals) (drop l.terminals cells)

abbrev pub arcs_part : List ℕ → Layout → List ℕ
arcs_part cells l = take (l.end - l.arcs) (drop l.arcs cells)

-- the table check, where l is the layout by the counts; a table that is refused has it too, and an index of zeros
abbrev pub checked_as : Layout → maybe.Option Table → Result Checked Checked
checked_as l maybe.none = Err (record { layout = l; first = replicate 257 0 })
checked_as l (maybe.some t) = Ok (record { layout = l; first = first_arcs t })

unfoldable pub checked : List ℕ → Result Checked Checked
checked cells = checked_as (layout_of (counts_in cells)) (loaded cells)
