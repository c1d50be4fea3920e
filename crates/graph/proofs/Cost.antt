-- Where no reached state is on a cycle of free edges, the cost bounds the edges of a walk.
use Prim.Native.Nat.{ℕ, suc, ◌+◌, ◌*◌, ◌<◌, ◌≤◌}
use native.Mathlib.Omega.{arith}
use mathlib.Core.Logic.{⊎_elim}
use mathlib.Core.List.Memᴰ
use mathlib.Core.List.{List, [], ◌∷◌, Memᴰ}
use lib.ListN.{length}
use Rattle.graph.specs.Lists.{Distinct, AllBelow}
use Rattle.graph.specs.Walk.{Among}
use Rattle.graph.specs.Reached.{Reached, initial, by_edge, NoReachedCycle}
use Rattle.graph.specs.Cost.{Costly, stay, freely, paying}
use Rattle.graph.proofs.Pigeon.{pigeon}
use Rattle.graph.proofs.Walk.{AllLead, all_lead_more}

module _ (A Free : ℕ → ℕ → Type 0) (n : ℕ) (starts : List ℕ) where
  -- x is reached; before it, since the last edge that is paid, different states from which free walks lead to x
  record Recent (x : ℕ) (l : List ℕ) : Type 0 where
    is-reached : Reached A starts x
    linked : AllLead Free x l
    distinct : Distinct (x ∷ l)
    below : AllBelow n (x ∷ l)

  recent_short : {x : ℕ} {l : List ℕ} → Recent x l → suc (length l) ≤ n
  recent_short {x} {l} R = pigeon n (x ∷ l) R.distinct R.below

  recent_alone : (x : ℕ) → Reached A starts x → x < n → Recent x []
  recent_alone x R h =
      record {
        is-reached = R;
        linked = λ y m. absurd (Memᴰ.not-nil m);
        distinct = (λ m. Memᴰ.not-nil m, tt);
        below = λ y m. ⊎_elim (λ u. rw u h) (λ u. absurd (Memᴰ.not-nil u)) (Memᴰ.cases_cons m);
      }

  module _ (free-is : (s r : ℕ) → Free s r → A s r) (G : Among A n) (N : NoReachedCycle A Free starts) where
    recent_more : (x : ℕ) (l : List ℕ) (r : ℕ) → Recent x l → Free x r → Recent r (x ∷ l)
    recent_more x l r R g =
        let reach : Reached A starts r = by_edge R.is-reached (free-is x r g) in
        record {
          is-reached = reach;
          linked = all_lead_more Free x l r R.linked g;
          distinct = (λ m. N r reach (all_lead_more Free x l r R.linked g r m), R.distinct);
          below = λ y m. ⊎_elim (λ u. rw u (G x r (free-is x r g)).1) (R.below y) (Memᴰ.cases_cons m);
        }

    module _ (B : AllBelow n starts) (s : ℕ) (S : Memᴰ s starts) where
      counted : {x m k : ℕ} → Costly A Free s x m k → (l : List ℕ) × Recent x l × (m ≤ k * n + length l)
      counted stay = ([], recent_alone s (initial S) (B s S), omega arith)
      counted (freely {x} {r} {m} {k} W g) = let C = counted W in (x ∷ C.0, recent_more x C.0 r C.1 g, omega (arith, C.2))
      counted (paying {x} {r} {m} {k} W g) =
          let C = counted W in ([], recent_alone r (by_edge C.1.is-reached g) (G x r g).1, omega (arith, C.2, recent_short C.1))

      pub few-edges : {x m k : ℕ} → Costly A Free s x m k → m < (k + 1) * n
      few-edges {x} {m} {k} W = let C = counted W in omega (arith, C.2, recent_short C.1)
