-- The lowest state with a number to which an idle arc leads from a state: the arcs of the state are looked at one after another.
use Prim.Native.Nat.{ℕ, ◌+◌, ◌<◌, ◌≤◌}
use native.Mathlib.Omega.{arith}
use mathlib.Core.Path.{◌≡◌, refl, sym, ap, subst, ◌∙◌}
use mathlib.Core.Logic.{⊎_elim}
use mathlib.Core.List.{List}
use lib.ListN.{get_or}
use Rattle.std.specs.Prelude.{Option, Some, None, min, unwrap_or}
use Rattle.graph.proofs.Lists.{below_more, most?}
use Rattle.engine_graph.specs.declared.IdleGraph.{IdleGraph}
use Rattle.engine_graph.specs.Edge.{EdgeIn}
use Rattle.engine_graph.proofs.Targets.{some-same, none-some, target_at, edge_at, edge-number}
use Rattle.engine_cycle.specs.Numbers.{number_in, LowestAt}

module _ (g : IdleGraph) (numbers : List ℕ) (far q : ℕ) where
  abbrev first : ℕ → ℕ
  first i = get_or g.first.now i 0

  -- arc i is idle and leads to t, which has the number
  abbrev pub Fits : ℕ → ℕ → Type 0
  Fits i t = (target_at g i ≡ Some t) × (number_in numbers t ≡ far)

  -- o is a state no higher than t
  abbrev AtMost : Option ℕ → ℕ → Type 0
  AtMost o t = (r : ℕ) × (o ≡ Some r) × (r ≤ t)

  -- o is the lowest target of such an arc of q before n
  pub record Least (n : ℕ) (o : Option ℕ) : Type 0 where
    pub least : (i : ℕ) → i < n → first q ≤ i → (t : ℕ) → Fits i t → AtMost o t
    pub one : (r : ℕ) → o ≡ Some r → (i : ℕ) × (first q ≤ i) × (i < n) × Fits i r

  pub least-begins : (n : ℕ) → n ≤ first q → Least n None
  least-begins n h = record { least = λ i k a. absurd (omega arith); one = λ r e. absurd (none-some e) }

  module _ (n : ℕ) (o : Option ℕ) (L : Least n o) where
    pub least-keeps : ((t : ℕ) → Fits n t → AtMost o t) → Least (n + 1) o
    least-keeps f =
        record {
          least = below_more (λ (i : ℕ). first q ≤ i → (t : ℕ) → Fits i t → AtMost o t) n L.least (λ _. f);
          one = λ r e. let O = L.one r e in let b = O.2 in (O.0, O.1, omega arith, O.3);
        }

    -- an arc that leads nowhere
    pub least-none : target_at g n ≡ None → Least (n + 1) o
    least-none e = least-keeps (λ t F. absurd (none-some (sym e ∙ F.0)))

    -- or to a state of another number
    pub least-other : (x : ℕ) → target_at g n ≡ Some x → (number_in numbers x ≡ far → ⊥) → Least (n + 1) o
    least-other x e d = least-keeps (λ t F. absurd (d (ap (number_in numbers) (some-same (sym e ∙ F.0)) ∙ F.1)))

    -- or to a lower one
    least-takes : first q ≤ n → (x : ℕ) → Fits n x → ((r : ℕ) → o ≡ Some r → x ≤ r) → Least (n + 1) (Some x)
    least-takes a x F h =
        record {
          least =
              below_more (λ (i : ℕ). first q ≤ i → (t : ℕ) → Fits i t → AtMost (Some x) t) n
              (λ i k b t G. let W = L.least i k b t G in (x, refl, let y = h W.0 W.1 in let w = W.2 in omega arith)) (λ b t G. (x, refl, let y = some-same (sym F.0 ∙ G.0) in omega arith));
          one = λ r e. (n, a, omega arith, (F.0 ∙ e, ap (number_in numbers) (sym (some-same e)) ∙ F.1));
        }

  -- an arc that leads to the number: the lower of its target and the lowest before
  pub least-lower : (n : ℕ) (o : Option ℕ) → Least n o → first q ≤ n → (x : ℕ) → Fits n x → Least (n + 1) (Some (min x (unwrap_or o x)))
  least-lower n None L a x F = subst (λ (m : ℕ). Least (n + 1) (Some m)) {x = x} {y = min x x} (omega arith) (least-takes n None L a x F (λ r e. absurd (none-some e)))
  least-lower n (Some r) L a x F =
      ⊎_elim
      (λ k. subst (λ (m : ℕ). Least (n + 1) (Some m)) {x = r} {y = min x r} (omega arith) (least-keeps n (Some r) L (λ t G. (r, refl, let y = some-same (sym F.0 ∙ G.0) in omega arith))))
      (λ k. subst (λ (m : ℕ). Least (n + 1) (Some m)) {x = x} {y = min x r} (omega arith) (least-takes n (Some r) L a x F (λ z e. let y = some-same e in omega arith))) (most? r x)

  pub least-is : q < g.states → (n : ℕ) (o : Option ℕ) → first (q + 1) ≤ n → ((i : ℕ) → first q ≤ i → i < n → i < first (q + 1)) → Least n o → LowestAt g numbers far q o
  least-is h n o k within L =
      record {
        found =
            λ r s. let O = L.one r s in (
              edge_at g q O.0 r h O.1 (within O.0 O.1 O.2) O.3.0,
              O.3.1,
              λ z E e. let W = least-of z E e in let y = some-same (sym W.1 ∙ s) in let w = W.2 in omega arith,
            );
        none-there = λ s z E e. let W = least-of z E e in none-some (sym s ∙ W.1);
      }
    where
      least-of : (z : ℕ) → EdgeIn g q z → number_in numbers z ≡ far → AtMost o z
      least-of z E e = let N = edge-number g q z E in L.least N.0 (omega (arith, N.2)) N.1 z (N.3, e)
