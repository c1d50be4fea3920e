-- The accepting paths of a machine that narrows another are the other's that pass the test, in the same order.
use mathlib.Core.Path.{◌≡◌}
use mathlib.Core.Bool.{Bool}
use mathlib.Core.List.{List}
use Rattle.graph.specs.Lists.{keep}
use Rattle.graph.proofs.Lists.{keep-mem, mem-keep}
use Rattle.machine.specs.Machine.{Machine, Path, Bounded}
use Rattle.machine.specs.Tour.{paths_in, tour}
use Rattle.machine.specs.Order.{accepting, Lists, Narrows}
use Rattle.machine.proofs.Order.{rising-keep, tour_lists, lists_same}

module _ (M N : Machine) (test : Path → Bool) (narrows : Narrows M N test) where
  narrowed_lists : (ps : List Path) → Lists N ps → Lists M (keep test ps)
  narrowed_lists ps L =
      record {
        rising = rising-keep test ps L.rising;
        members = λ p. (
          λ m. let h = keep-mem test ps p m in (narrows p).1 ((L.members p).0 h.0, h.1),
          λ a. let h = (narrows p).0 a in mem-keep test ps p ((L.members p).1 h.0) h.1,
        );
      }

  pub narrowed : Bounded M → Bounded N → accepting M (paths_in (tour M)) ≡ keep test (accepting N (paths_in (tour N)))
  narrowed B C =
      lists_same M (accepting M (paths_in (tour M))) (keep test (accepting N (paths_in (tour N)))) (tour_lists M B)
      (narrowed_lists (accepting N (paths_in (tour N))) (tour_lists N C))
