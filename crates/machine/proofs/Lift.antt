-- The traces of the machine under a ceiling are those without one whose penalties add up to no more than it.
use Prim.Native.Nat.{ℕ, ◌+◌, ◌≤◌}
use native.Mathlib.Omega.{arith}
use mathlib.Core.Path.{◌≡◌, refl, ap, subst, ◌∙◌}
use mathlib.Core.List.{List, ◌∷◌}
use Rattle.table_format.specs.Table.{Arc, Table}
use Rattle.machine.specs.Query.{Task}
use Rattle.machine.specs.Machine.{Path, start, more}
use Rattle.machine.specs.Ceiling.{sum_of}
use Rattle.machine.specs.Transducer.{penalty_at}
use Rattle.machine.specs.Agree.{arcs_back, penalties, with_sum, without_sum, Lowered}
use Rattle.machine.specs.Report.{Cell, Edge, Trace, null, thence, arcs_of, kernel, kernel_under}

pub sum-arcs : (t : Table) (p : Path) → sum_of (penalty_at t) p ≡ penalties (arcs_back t p)
sum-arcs t (start i) = refl
sum-arcs t (more p n) = ap (λ (s : ℕ). s + penalty_at t n) (sum-arcs t p)

module _ (t : Table) (k : Task) (c : ℕ) where
  pub edge-without : {x y : Cell (kernel_under t k c)} → Edge (kernel_under t k c) x y → Edge (kernel t k) (without_sum t k c x) (without_sum t k c y)
  edge-without E = record { arc = E.arc; listed = E.listed; from = E.from; to = E.to; related = E.related.0 }

  pub lift : {x y : Cell (kernel t k)} (T : Trace (kernel t k) x y) → penalties (arcs_of T) ≤ c
      → (S : Trace (kernel_under t k c) (with_sum t k c x 0) (with_sum t k c y (penalties (arcs_of T)))) × (arcs_of S ≡ arcs_of T)
  lift null h = (null, refl)
  lift (thence T E) h =
      let S = lift T (omega arith) in
      (thence S.0 (record { arc = E.arc; listed = E.listed; from = E.from; to = E.to; related = (E.related, (refl, h)) }), ap (λ (l : List Arc). E.arc ∷ l) S.1)

  pub lower : {x y : Cell (kernel_under t k c)} (T : Trace (kernel_under t k c) x y) → x.0.1 ≡ 0 → Lowered t k c T
  unfolding edge-without
  lower null z = record { trace = null; arcs-are = refl; sum_is = z; sum-within = omega arith }
  lower (thence {e} {f} T E) z =
      let S = lower T z in
      let s : f.0.1 ≡ penalties (arcs_of T) + E.arc.penalty = E.related.1.0 ∙ ap (λ (n : ℕ). n + E.arc.penalty) S.sum_is in
      record {
        trace = thence S.trace (edge-without E);
        arcs-are = ap (λ (l : List Arc). E.arc ∷ l) S.arcs-are;
        sum_is = s;
        sum-within = subst (λ (n : ℕ). n ≤ c) s E.related.1.1;
      }
