-- The numbers in the frames of a place in a search are within the table's, the counts within the depth and the sums within the ceiling.
use Prim.Native.Nat.{ℕ, suc, pred, ◌≤◌, ◌<◌}
use native.Mathlib.Omega.{arith}
use mathlib.Core.Path.{◌≡◌, refl, sym, subst, ◌∙◌}
use mathlib.Core.Bool.{Bool, true, false, cond}
use mathlib.Core.Option.{some}
use mathlib.Core.List.{List, [], ◌∷◌}
use lib.ListN.{length}
use lib.Dec.{ltb}
use borrow.Author.Tests.{ltb-true, ltb-false}
use Rattle.table_format.specs.Table.{Arc, Table, no_arc}
use Rattle.table_format.specs.Index.{below}
use Rattle.table_format.proofs.Ruled.{Ruled}
use Rattle.machine.specs.Query.{Side, Query}
use Rattle.machine.specs.Machine.{Path, start, more, final, Allowed}
use Rattle.machine.specs.Frames.{Frame, walk_to}
use Rattle.machine.specs.Transducer.{arc_at, Passed, passed, plain_at, machine}
use Rattle.machine.proofs.Frames.{walk-size}
use Rattle.machine.specs.Place.{Placed}
use Rattle.machine.proofs.Transducer.{arc_of_lem, at_mem, step-parts}
use Rattle.machine.proofs.Penalties.{datum-plain, datum-sum, passed-size}

pub below_length : (s : ℕ) (l : List Arc) → below s l ≤ length l
below_length s [] = omega arith
below_length s (a ∷ l) = go (ltb a.source s) (below_length s l)
  where
    go : (b : Bool) → below s l ≤ length l → cond b (suc (below s l)) (below s l) ≤ suc (length l)
    go true h = omega arith
    go false h = omega arith

pub below-rises : (s : ℕ) (l : List Arc) → below s l ≤ below (suc s) l
below-rises s [] = omega arith
below-rises s (a ∷ l) = go (ltb a.source s) refl (ltb a.source (suc s)) refl (below-rises s l)
  where
    go : (b : Bool) → ltb a.source s ≡ b → (c : Bool) → ltb a.source (suc s) ≡ c → below s l ≤ below (suc s) l → cond b (suc (below s l)) (below s l) ≤ cond c (suc (below (suc s) l)) (below (suc s) l)
    go true e true f h = omega arith
    go true e false f h = absurd (let x : a.source < s = ltb-true _ _ e in let y : suc s ≤ a.source = ltb-false _ _ f in omega arith)
    go false e true f h = omega arith
    go false e false f h = h

module _ (t : Table) (q : Query) (U : Ruled t) where
  -- the last state of a path that the words allow is a state
  pub final_in : (p : Path) → Allowed (machine t q) p → final (machine t q) p < t.states
  final_in (start i) A = U.initial_in _ (at_mem t.initials i 0 A)
  final_in (more p n) A = U.target_in _ (at_mem t.arcs n no_arc ((arc_of_lem t q U.rising (final (machine t q) p) n).0 A.1).0)

  pub record InRange (d : ℕ) (f : Frame (Passed × ℕ)) : Type 0 where
    pub state_in_lem : f.state < t.states
    pub next_in : f.next ≤ length t.arcs
    pub passed_in_lem : (s : Side) → passed f.datum.0 s ≤ d
    pub sum_in : f.datum.1 ≤ q.ceiling

  pub in_range : (n : ℕ) (f : Frame (Passed × ℕ)) (fs : List (Frame (Passed × ℕ))) → Placed (machine t q) n (f ∷ fs) → InRange (length fs) f
  in_range n f fs P =
      record {
        state_in_lem = subst (λ (s : ℕ). s < t.states) (sym P.state-is) (final_in (walk_to n fs) P.allowed);
        next_in = omega (arith, P.high, below-rises f.state t.arcs, below_length (suc f.state) t.arcs);
        passed_in_lem = λ s. subst (λ (k : ℕ). passed f.datum.0 s ≤ k) (walk-size (machine t q) n fs) (passed-size t q (walk_to n fs) f.datum P.datum-is s);
        sum_in = let S = datum-sum t q (walk_to n fs) f.datum P.datum-is in subst (λ (k : ℕ). k ≤ q.ceiling) (sym S.0) S.1;
      }

  -- the arc just tried below a frame is a plain one there
  pub tried-plain : (n : ℕ) (f g : Frame (Passed × ℕ)) (fs : List (Frame (Passed × ℕ))) → Placed (machine t q) n (f ∷ (g ∷ fs)) → (b : Arc) × (plain_at t q (arc_at t (pred g.next)) g.datum.0 ≡ some b)
  tried-plain n f g fs P =
      let S = step-parts t q (walk_to n fs) (pred g.next) f.datum.0 (datum-plain t q (walk_to n (g ∷ fs)) f.datum P.datum-is) in
      let h : some S.0 ≡ some g.datum.0 = sym S.2 ∙ datum-plain t q (walk_to n fs) g.datum P.below.datum-is in
      let e : S.0 ≡ g.datum.0 = cc in
      (S.1, subst (λ (d : Passed). plain_at t q (arc_at t (pred g.next)) d ≡ some S.1) e S.3)
