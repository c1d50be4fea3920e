-- Document 01, "Table and paths", and document 02, slips 6 and 10: a table. Arcs are numbered from 0 in the order of the list; letter 0 is no letter.
use Rattle.std.specs.Prelude.{ℕ, List, map, length}

-- "An arc may carry a penalty of 0 to 255"; 0 where it carries none
pub record Arc : Type 0 where
  pub source : ℕ
  pub upper : ℕ
  pub lower : ℕ
  pub target : ℕ
  pub penalty : ℕ

-- what stands for an arc beyond the last
abbrev pub no_arc : Arc
no_arc = record { source = 0; upper = 0; lower = 0; target = 0; penalty = 0 }

-- an arc without its penalty: what "compared for equality without it" compares
abbrev pub without_penalty : Arc → Arc
without_penalty a = record { source = a.source; upper = a.upper; lower = a.lower; target = a.target; penalty = 0 }

-- states are numbered from 0; the classes are rows of letters (Classes); the initial states are in order, the terminal ones rise
pub record Table : Type 0 where
  pub states : ℕ
  pub classes : List (List ℕ)
  pub initials : List ℕ
  pub terminals : List ℕ
  pub arcs : List Arc

-- a table without its penalties
abbrev pub without_penalties : Table → Table
without_penalties t = record { states = t.states; classes = t.classes; initials = t.initials; terminals = t.terminals; arcs = map without_penalty t.arcs }

-- the four counts that a header line and a loaded table begin with
pub record Counts : Type 0 where
  pub states : ℕ
  pub initials : ℕ
  pub terminals : ℕ
  pub arcs : ℕ

abbrev pub counts_of : Table → Counts
counts_of t =
    record {
      states = t.states;
      initials = length t.initials;
      terminals = length t.terminals;
      arcs = length t.arcs;
    }
