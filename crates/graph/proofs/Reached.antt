-- What is computed as reached is what is reached.
use Prim.Native.Nat.{ℕ, zero, suc, ◌+◌, ◌≤◌}
use native.Mathlib.Omega.{arith}
use mathlib.Core.Path.{◌≡◌, subst}
use mathlib.Core.Logic.{◌⊎◌, inl, inr, ⊎_elim, ◌↔◌}
use mathlib.Core.Bool.{Bool, ◌||◌}
use mathlib.Core.List.Memᴰ
use mathlib.Core.List.{List, [], ◌∷◌, Memᴰ}
use lib.ListN.{length}
use Rattle.table_format.specs.Rules.{any}
use Rattle.table_format.proofs.Tests.{or_cases, or_left, or_right}
use Rattle.table_format.proofs.Any.{any_found, any-mem}
use Rattle.graph.specs.Lists.{AllBelow, member, up_to}
use Rattle.graph.specs.Walk.{Through, Walk, Among, Decides}
use Rattle.graph.specs.Reached.{Reached, initial, by_edge, ReachedCycle, reached_in, reached}
use Rattle.graph.proofs.Lists.{same?, member-mem, mem-member, up_to-mem, mem-up_to, keep-mem, mem-keep}
use Rattle.graph.proofs.Walk.{edge-walk, walk-then, freed, freed-short}

pub reached-map : {E F : ℕ → ℕ → Type 0} {starts others : List ℕ} → ((s : ℕ) → Memᴰ s starts → Memᴰ s others) → ((s r : ℕ) → E s r → F s r) → {s : ℕ} → Reached E starts s
    → Reached F others s
reached-map i f (initial {s} m) = initial (i s m)
reached-map i f (by_edge {s} {r} R g) = by_edge (reached-map i f R) (f s r g)

-- marks that the starts have and that edges carry on are on all that is reached
pub closed-reached : (E : ℕ → ℕ → Type 0) (starts : List ℕ) (Marked : ℕ → Type 0) → ((s : ℕ) → Memᴰ s starts → Marked s) → ((s r : ℕ) → Marked s → E s r → Marked r)
    → {s : ℕ} → Reached E starts s → Marked s
closed-reached E starts Marked b c (initial {s} m) = b s m
closed-reached E starts Marked b c (by_edge {s} {r} R g) = c s r (closed-reached E starts Marked b c R) g

-- what is reached from a reached state is reached
pub reached-from : (E : ℕ → ℕ → Type 0) (starts : List ℕ) {r : ℕ} → Reached E starts r → {s : ℕ} → Reached E (r ∷ []) s → Reached E starts s
reached-from E starts R =
    closed-reached E (_ ∷ []) (Reached E starts) (λ s m. ⊎_elim (λ u. rw u R) (λ u. absurd (Memᴰ.not-nil u)) (Memᴰ.cases_cons m)) (λ s r S g. by_edge S g)

-- what a walk leads to from a reached state is reached
pub reached-along : (E : ℕ → ℕ → Type 0) (starts : List ℕ) {x s : ℕ} → Reached E starts x → Walk E x s → Reached E starts s
reached-along E starts R w = go _ w.0 R w.1
  where
    go : (x : ℕ) (l : List ℕ) {s : ℕ} → Reached E starts x → Through E x l s → Reached E starts s
    go x [] R T = by_edge R T
    go x (y ∷ l) R T = go y l (by_edge R T.0) T.1

-- what is reached is a start, or a walk leads there from one
pub reached-walk : (E : ℕ → ℕ → Type 0) (starts : List ℕ) {s : ℕ} → Reached E starts s → Memᴰ s starts ⊎ ((i : ℕ) × Memᴰ i starts × Walk E i s)
reached-walk E starts (initial m) = inl m
reached-walk E starts (by_edge {s} R g) = inr (⊎_elim (λ m. (s, m, edge-walk E g)) (λ W. (W.0, W.1, walk-then E W.2 g)) (reached-walk E starts R))

-- where edges of E are edges of A, a cycle of E that is reached is so in all its states
pub cycle-reached : (A E : ℕ → ℕ → Type 0) (starts : List ℕ) → ((s r : ℕ) → E s r → A s r) → (c : List ℕ) → ReachedCycle A E starts c → (x : ℕ) → Memᴰ x c → Reached A starts x
cycle-reached A E starts f [] C x m = absurd C
cycle-reached A E starts f (s ∷ l) C x m = go s l s C.0 C.1.0 x m
  where
    go : (s : ℕ) (l : List ℕ) (r : ℕ) → Reached A starts s → Through E s l r → (x : ℕ) → Memᴰ x (s ∷ l) → Reached A starts x
    go s [] r R T x m = ⊎_elim (λ u. rw u R) (λ u. absurd (Memᴰ.not-nil u)) (Memᴰ.cases_cons m)
    go s (y ∷ l) r R T x m = ⊎_elim (λ u. rw u R) (go y l r (by_edge R (f s y T.0)) T.1 x) (Memᴰ.cases_cons m)

module _ (E : ℕ → ℕ → Type 0) (e : ℕ → ℕ → Bool) (n : ℕ) (starts : List ℕ) (D : Decides E e) where
  abbrev test : List ℕ → ℕ → Bool
  test l r = member r l || any (λ s. e s r) l

  in_sound : (k s : ℕ) → Memᴰ s (reached_in e n starts k) → Reached E starts s
  in_sound zero s m = initial m
  in_sound (suc k) s m =
      let l = reached_in e n starts k in
      ⊎_elim (λ h. in_sound k s (member-mem s l h))
      (λ h. let R = any_found (λ x. e x s) l h in by_edge (in_sound k R.0 R.1) ((D R.0 s).0 R.2))
      (or_cases (member s l) (any (λ x. e x s) l) (keep-mem (test l) (up_to n) s m).1)

  module _ (G : Among E n) (B : AllBelow n starts) where
    in_below : (k : ℕ) → AllBelow n (reached_in e n starts k)
    in_below zero s m = B s m
    in_below (suc k) s m = mem-up_to n s (keep-mem (test (reached_in e n starts k)) (up_to n) s m).0

    grows : (k s : ℕ) → Memᴰ s (reached_in e n starts k) → Memᴰ s (reached_in e n starts (suc k))
    grows k s m = let l = reached_in e n starts k in mem-keep (test l) (up_to n) s (up_to-mem n s (in_below k s m)) (or_left (member s l) (any (λ x. e x s) l) (mem-member s l m))

    later : (k j s : ℕ) → j ≤ k → Memᴰ s (reached_in e n starts j) → Memᴰ s (reached_in e n starts k)
    later zero j s h m = let z : j ≡ 0 = omega arith in subst (λ (i : ℕ). Memᴰ s (reached_in e n starts i)) z m
    later (suc k) j s h m =
        ⊎_elim (λ z. subst (λ (i : ℕ). Memᴰ s (reached_in e n starts i)) z m) (λ d. grows k s (later k j s (omega arith) m)) (same? j (suc k))

    by_one : (j s r : ℕ) → Memᴰ s (reached_in e n starts j) → E s r → Memᴰ r (reached_in e n starts (suc j))
    by_one j s r m g =
        let l = reached_in e n starts j in
        mem-keep (test l) (up_to n) r (up_to-mem n r (G s r g).1) (or_right (member r l) (any (λ x. e x r) l) (any-mem (λ x. e x r) l s m ((D s r).1 g)))

    along : (s : ℕ) (l : List ℕ) (r j k : ℕ) → Memᴰ s (reached_in e n starts j) → Through E s l r → suc (length l) + j ≤ k → Memᴰ r (reached_in e n starts k)
    along s [] r j k m T h = later k (suc j) r (omega arith) (by_one j s r m T)
    along s (x ∷ l) r j k m T h = along x l r (suc j) k (by_one j s x m T.0) T.1 (omega arith)

    -- freed of repeats, the walk has at most n edges
    in_complete : (s : ℕ) → Reached E starts s → Memᴰ s (reached_in e n starts n)
    in_complete s R =
        ⊎_elim (λ m. later n 0 s (omega arith) m)
        (λ W. let F = freed E W.0 W.2.0 s W.2.1 in along W.0 F.states s 0 n W.1 F.leads (omega (arith, freed-short E n G F)))
        (reached-walk E starts R)

    pub reached-is : (s : ℕ) → Memᴰ s (reached e n starts) ↔ Reached E starts s
    reached-is s = (in_sound n s, in_complete s)
