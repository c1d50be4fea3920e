-- A worked example: two ways to write 2 for 1, one of them with penalty 4, arcs that write 2 and nothing for 3, and an arc of the class of 1 and 3.
use mathlib.Core.Path.{◌≡◌, refl}
use mathlib.Core.Bool.{true}
use mathlib.Core.List.{[], ◌∷◌}
use lib.ListN.{length}
use Rattle.table_format.specs.Table.{Table}
use Rattle.table_format.specs.Classes.{row_with}
use Rattle.table_format.specs.Rules.{each, counts_hold, header_faults, row_holds, classes_keep, initial_faults, terminal_faults, arc_faults, arc_class_holds, keeps_rules}
use Rattle.table_format.specs.Cells.{arc_with, arc_as}
use Rattle.machine.specs.Query.{synthesis, analysis, recognition_of, synthesis_of, analysis_of}
use Rattle.machine.specs.Tour.{following, tour, readings}
use Rattle.machine.specs.Idle.{NoIdleCycle, has_idle_cycle}
use Rattle.machine.proofs.Headlines.{cycle-test}
use Rattle.inverse.specs.Inverse.{inverse}
use Rattle.inverse.specs.Readings.{accepting_paths, readings_of, occurrences}

abbrev t : Table
t =
    record {
      states = 3;
      classes = row_with (1 ∷ 3 ∷ []) ∷ row_with [] ∷ row_with [] ∷ row_with [] ∷ row_with [] ∷ row_with [] ∷ row_with [] ∷ row_with [] ∷ [];
      initials = 0 ∷ [];
      terminals = 1 ∷ 2 ∷ [];
      arcs = arc_as 0 1 2 1 ∷ arc_with 0 1 2 2 4 ∷ arc_as 0 3 2 1 ∷ arc_as 0 3 0 1 ∷ arc_as 0 64 64 1 ∷ [];
    }

-- it is one of the tables of which the theorems speak, for every task
rules : keeps_rules t ≡ true
unfolding keeps_rules header_faults counts_hold classes_keep row_holds initial_faults terminal_faults arc_faults arc_class_holds each
rules = refl

forward-starts : NoIdleCycle t synthesis
unfolding has_idle_cycle
forward-starts = (cycle-test t rules synthesis).0 refl

backward-starts : NoIdleCycle t analysis
unfolding has_idle_cycle
backward-starts = (cycle-test t rules analysis).0 refl

-- the forward key of 1, under two ceilings
forward : readings_of t (synthesis_of (1 ∷ []) 4) ≡ (2 ∷ []) ∷ (2 ∷ []) ∷ (1 ∷ []) ∷ []
unfolding readings tour following
forward = refl

forward-under : readings_of t (synthesis_of (1 ∷ []) 3) ≡ (2 ∷ []) ∷ (1 ∷ []) ∷ []
unfolding readings tour following
forward-under = refl

-- the backward key of 2, and the forward key of the inverse
backward : readings_of t (analysis_of (2 ∷ []) 4) ≡ (1 ∷ []) ∷ (1 ∷ []) ∷ (3 ∷ []) ∷ []
unfolding readings tour following
backward = refl

backward-inverse : readings_of (inverse t) (synthesis_of (2 ∷ []) 4) ≡ (1 ∷ []) ∷ (1 ∷ []) ∷ (3 ∷ []) ∷ []
unfolding readings tour following
backward-inverse = refl

-- recognition of 1 and 2: as often as the forward key of 1 has 2, and the backward key of 2 has 1
two-found : (length (accepting_paths t (recognition_of (1 ∷ []) (2 ∷ []) 4)) ≡ 2) × (occurrences (2 ∷ []) (readings_of t (synthesis_of (1 ∷ []) 4)) ≡ 2) × (occurrences (1 ∷ []) (readings_of t (analysis_of (2 ∷ []) 4)) ≡ 2)
unfolding readings tour following
two-found = (refl, refl, refl)

one-under : (length (accepting_paths t (recognition_of (1 ∷ []) (2 ∷ []) 3)) ≡ 1) × (occurrences (2 ∷ []) (readings_of t (synthesis_of (1 ∷ []) 3)) ≡ 1) × (occurrences (1 ∷ []) (readings_of t (analysis_of (2 ∷ []) 3)) ≡ 1)
unfolding readings tour following
one-under = (refl, refl, refl)

-- and of 3 and the empty word
empty-found : (length (accepting_paths t (recognition_of (3 ∷ []) [] 0)) ≡ 1) × (occurrences [] (readings_of t (synthesis_of (3 ∷ []) 0)) ≡ 1) × (occurrences (3 ∷ []) (readings_of t (analysis_of [] 0)) ≡ 1)
unfolding readings tour following
empty-found = (refl, refl, refl)
