-- Laws of the marking: states visited one after another, and the search that follows the arcs of each.
use Prim.Native.Nat.{ℕ, zero, suc, ◌+◌, ◌<◌, ◌≤◌}
use native.Mathlib.Omega.{arith}
use native.Mathlib.Numerals.{add-one}
use mathlib.Core.Path.{◌≡◌, refl, sym, ap, subst, ◌∙◌}
use mathlib.Core.Logic.{◌⊎◌, inl, inr, ⊎_elim, ◌↔◌}
use mathlib.Core.Bool.{Bool, true, false, true≢false}
use mathlib.Core.List.{List, [], ◌∷◌, Memᴰ}
use lib.ListN.{length, get_or, set, replicate, length-set, length-replicate}
use lib.Seq.{get_or-set_same, get_or-set_other}
use Rattle.std.specs.Prelude.{Option, Some, None}
use Rattle.table_format.specs.Cells.{arcs_as}
use Rattle.graph.specs.Walk.{Among, Through, Walk}
use Rattle.graph.specs.Reached.{initial}
use Rattle.graph.proofs.Lists.{same?}
use Rattle.graph.proofs.Walk.{edge-walk, walk-then, walk_join}
use Rattle.graph.proofs.Reached.{closed-reached, reached-along}
use Rattle.machine.specs.Idle.{AnyArc}
use Rattle.machine.proofs.Transducer.{at_mem, mem-at}
use Rattle.engine_graph.specs.declared.IdleGraph.{IdleGraph}
use Rattle.engine_graph.specs.Edge.{EdgeIn}
use Rattle.engine_reach.specs.Reach.{IsMet, unmet, Listed, MetWithin, Meets, Spread, ReachedBy, ReachedCells}
use Rattle.engine_graph.proofs.Targets.{some-same, none-some, target_at, edge_at, edge-number}

met? : (b : Bool) → (b ≡ false) ⊎ (b ≡ true)
met? false = inl refl
met? true = inr refl

unmet-set : (l : List Bool) (i : ℕ) → i < length l → get_or l i false ≡ false → unmet (set l i true) + 1 ≡ unmet l
unmet-set [] i h e = absurd (omega arith)
unmet-set (false ∷ l) zero h e = add-one (unmet l)
unmet-set (true ∷ l) zero h e = absurd (true≢false e)
unmet-set (false ∷ l) (suc i) h e = let r = unmet-set l i (omega arith) e in omega arith
unmet-set (true ∷ l) (suc i) h e = unmet-set l i (omega arith) e

unmet-none : (n : ℕ) → unmet (replicate n false) ≡ n
unmet-none zero = refl
unmet-none (suc n) = ap suc (unmet-none n)

none-met : (n s : ℕ) → get_or (replicate n false) s false ≡ false
none-met zero s = refl
none-met (suc n) zero = refl
none-met (suc n) (suc s) = none-met n s

pub none_met_lem : {met : List Bool} → met ≡ replicate 256 false → (s : ℕ) → get_or met s false ≡ false
none_met_lem e s = ap (λ (l : List Bool). get_or l s false) e ∙ none-met 256 s

pub listed-none : Listed (replicate 256 false) (replicate 256 0) 0
listed-none =
    record {
      width = length-replicate {A = Bool} 256 false;
      order_long = length-replicate {A = ℕ} 256 0;
      once = unmet-none 256;
      listed = λ s m f. true≢false (sym m ∙ none-met 256 s);
      marked = λ i k. absurd (omega arith);
    }

-- ONE STATE, that is met already or not.

module _ (met : List Bool) (order : List ℕ) (count x : ℕ) where
  pub meets_again : get_or met x false ≡ true → Meets (λ s. s ≡ x) met order count met order count
  meets_again y =
      record {
        visited = record { kept = λ s m. m; covered = λ s e. ap (λ (i : ℕ). get_or met i false) e ∙ y; only = λ s n m. absurd (true≢false (sym m ∙ n)) };
        no_fewer = omega arith;
        in_place = λ i h. refl;
      }

  module _ (L : Listed met order count) (h : x < 256) (z : get_or met x false ≡ false) where
    -- there is room for it
    pub room : count < 256
    room = let u = unmet-set met x (omega (arith, L.width)) z in omega (arith, L.once)

    at : (s : ℕ) → s ≡ x → get_or (set met x true) s false ≡ true
    at s e = ap (λ (y : ℕ). get_or (set met x true) y false) e ∙ get_or-set_same met x true false (omega (arith, L.width))

    other : (s : ℕ) → (s ≡ x → ⊥) → get_or (set met x true) s false ≡ get_or met s false
    other s n = get_or-set_other met x s true false n

    kept' : (s : ℕ) → IsMet met s → IsMet (set met x true) s
    kept' s m = ⊎_elim (at s) (λ n. other s n ∙ m) (same? s x)

    new : get_or (set order count x) count 0 ≡ x
    new = get_or-set_same order count x 0 (omega (arith, room, L.order_long))

    old : (i : ℕ) → i < count → get_or (set order count x) i 0 ≡ get_or order i 0
    old i k = get_or-set_other order count i x 0 (λ e. omega arith)

    pub meets_first : Meets (λ s. s ≡ x) met order count (set met x true) (set order count x) (count + 1)
    meets_first =
        record {
          visited = record { kept = kept'; covered = at; only = λ s n m. ⊎_elim (λ y. y) (λ d. absurd (true≢false (sym m ∙ other s d ∙ n))) (same? s x) };
          no_fewer = omega arith;
          in_place = old;
        }

    pub listed_more : Listed (set met x true) (set order count x) (count + 1)
    listed_more =
        record {
          width = length-set met x true ∙ L.width;
          order_long = length-set order count x ∙ L.order_long;
          once = let u = unmet-set met x (omega (arith, L.width)) z in omega (arith, L.once);
          listed =
              λ s m f. ⊎_elim (λ e. f count (omega arith) (new ∙ sym e)) (λ n. L.listed s (sym (other s n) ∙ m) (λ i k e. f i (omega arith) (old i k ∙ e))) (same? s x);
          marked =
              λ i k. ⊎_elim (λ e. at (get_or (set order count x) i 0) (ap (λ (j : ℕ). get_or (set order count x) j 0) e ∙ new))
              (λ n. let j : i < count = omega arith in subst (λ (y : ℕ). IsMet (set met x true) y) (sym (old i j)) (kept' (get_or order i 0) (L.marked i j))) (same? i count);
        }

-- STATES ONE AFTER ANOTHER: the values that a function gives, from one number up to another.

-- the same states, said otherwise
meets_as : {Who Same : ℕ → Type 0} {met met' : List Bool} {order : List ℕ} {count : ℕ} {order' : List ℕ} {count' : ℕ}
    → ((s : ℕ) → Same s → Who s) → ((s : ℕ) → Who s → Same s) → Meets Who met order count met' order' count' → Meets Same met order count met' order' count'
meets_as f g P =
    record {
      visited = record { kept = P.visited.kept; covered = λ s m. P.visited.covered s (f s m); only = λ s e h. g s (P.visited.only s e h) };
      no_fewer = P.no_fewer;
      in_place = P.in_place;
    }

-- s is such a value
abbrev pub Values : (ℕ → Option ℕ) → ℕ → ℕ → ℕ → Type 0
Values f from n s = (i : ℕ) × (from ≤ i) × (i < n) × (f i ≡ Some s)

module _ (f : ℕ → Option ℕ) (from : ℕ) where
  pub values-begin : (n : ℕ) (met : List Bool) (order : List ℕ) (count : ℕ) → n ≤ from → Meets (Values f from n) met order count met order count
  values-begin n met order count h =
      record {
        visited = record { kept = λ s m. m; covered = λ s v. absurd (let a = v.1 in let b = v.2 in omega arith); only = λ s z m. absurd (true≢false (sym m ∙ z)) };
        no_fewer = omega arith;
        in_place = λ i h. refl;
      }

  values-later : (n s : ℕ) → Values f from n s → Values f from (n + 1) s
  values-later n s v = let b = v.2 in (v.0, v.1, omega arith, v.3)

  -- a number of no value
  pub values_skip : (n : ℕ) {met met' : List Bool} {order : List ℕ} {count : ℕ} {order' : List ℕ} {count' : ℕ} → f n ≡ None
      → Meets (Values f from n) met order count met' order' count' → Meets (Values f from (n + 1)) met order count met' order' count'
  values_skip n o =
      meets_as (λ s v. let k = v.2 in ⊎_elim (λ z. absurd (none-some (sym o ∙ sym (ap f z) ∙ v.3))) (λ z. (v.0, v.1, omega arith, v.3)) (same? v.0 n)) (values-later n)

  -- and one of a value
  module _ (n x : ℕ) {met met₁ met₂ : List Bool} {order : List ℕ} {count : ℕ} {order₁ : List ℕ} {count₁ : ℕ} {order₂ : List ℕ} {count₂ : ℕ} (h : from ≤ n) (o : f n ≡ Some x)
      (P : Meets (Values f from n) met order count met₁ order₁ count₁) (Q : Meets (λ s. s ≡ x) met₁ order₁ count₁ met₂ order₂ count₂) where
    split : (s : ℕ) → Values f from (n + 1) s → Values f from n s ⊎ (s ≡ x)
    split s v = let k = v.2 in ⊎_elim (λ z. inr (some-same (sym v.3 ∙ ap f z ∙ o))) (λ z. inl (v.0, v.1, omega arith, v.3)) (same? v.0 n)

    only-more : (s : ℕ) → get_or met s false ≡ false → IsMet met₂ s → Values f from (n + 1) s
    only-more s z k =
        ⊎_elim (λ y. (n, h, omega arith, o ∙ sym (ap (λ (i : ℕ). Some i) (Q.visited.only s y k)))) (λ p. values-later n s (P.visited.only s z p)) (met? (get_or met₁ s false))

    pub values-more : Meets (Values f from (n + 1)) met order count met₂ order₂ count₂
    values-more =
        record {
          visited =
              record {
                kept = λ s k. Q.visited.kept s (P.visited.kept s k);
                covered = λ s v. ⊎_elim (λ w. Q.visited.kept s (P.visited.covered s w)) (Q.visited.covered s) (split s v);
                only = only-more;
              };
          no_fewer = let a = P.no_fewer in let b = Q.no_fewer in omega arith;
          in_place = λ i k. Q.in_place i (let a = P.no_fewer in omega arith) ∙ P.in_place i k;
        }

module _ {met met' : List Bool} {order : List ℕ} {count : ℕ} {order' : List ℕ} {count' : ℕ} where
  -- all of a list
  pub meets_list : (l : List ℕ) (n : ℕ) → length l ≤ n → n ≤ length l → Meets (Values (λ i. Some (get_or l i 0)) 0 n) met order count met' order' count' → Meets (λ s. Memᴰ s l) met order count met' order' count'
  meets_list l n h k =
      meets_as (λ s m. let M = mem-at l s 0 m in let b = M.1 in (M.0, omega arith, omega arith, ap (λ (i : ℕ). Some i) M.2))
      (λ s v. let b = v.2 in subst (λ (x : ℕ). Memᴰ x l) (some-same v.3) (at_mem l v.0 0 (omega arith)))

  -- all to which idle arcs lead from q
  pub meets_targets : (g : IdleGraph) (q n : ℕ) → q < g.states → get_or g.first.now (q + 1) 0 ≤ n → ((i : ℕ) → get_or g.first.now q 0 ≤ i → i < n → i < get_or g.first.now (q + 1) 0)
      → Meets (Values (target_at g) (get_or g.first.now q 0) n) met order count met' order' count' → Meets (EdgeIn g q) met order count met' order' count'
  meets_targets g q n h k within =
      meets_as (λ s A. let N = edge-number g q s A in (N.0, N.1, (let b = N.2 in omega arith), N.3)) (λ s v. edge_at g q v.0 s h v.1 (within v.0 v.1 v.2) v.3)

-- THE SEARCH: the arcs of the first states of the order are followed.

module _ (E : ℕ → ℕ → Type 0) (before : List Bool) where
  -- edges lead to s from a state that was met before
  abbrev From : ℕ → Type 0
  From s = (x : ℕ) × IsMet before x × ((x ≡ s) ⊎ Walk E x s)

  from_more : (s r : ℕ) → From s → E s r → From r
  from_more s r (x, p, w) g = (x, p, inr (⊎_elim (λ e. subst (λ (y : ℕ). Walk E y r) (sym e) (edge-walk E g)) (λ v. walk-then E v g) w))

  -- what is met is led to, and so is met all to which the arcs of the first `done` lead
  pub record Search (met : List Bool) (order : List ℕ) (count done : ℕ) : Type 0 where
    pub behind : done ≤ count
    pub kept : (s : ℕ) → IsMet before s → IsMet met s
    pub only : (s : ℕ) → IsMet met s → From s
    pub followed : (i : ℕ) → i < done → (r : ℕ) → E (get_or order i 0) r → IsMet met r

  pub search_begins : (order : List ℕ) (count : ℕ) → Search before order count 0
  search_begins order count = record { behind = omega arith; kept = λ s p. p; only = λ s p. (s, p, inl refl); followed = λ i k. absurd (omega arith) }

  -- what is led to is within the states
  from-within : (n : ℕ) → Among E n → MetWithin n before → (s : ℕ) → From s → s < n
  from-within n A W s (x, p, w) = ⊎_elim (λ e. subst (λ (y : ℕ). y < n) e (W x p)) (λ v. walk-into x v.0 v.1) w
    where
      walk-into : (x : ℕ) (l : List ℕ) → Through E x l s → s < n
      walk-into x [] T = (A x s T).1
      walk-into x (y ∷ l) T = walk-into y l T.1

  module _ {met : List Bool} {order : List ℕ} {count done : ℕ} (S : Search met order count done) (L : Listed met order count) where
    -- what the search works on are states
    pub search_inside : (n : ℕ) → Among E n → MetWithin n before → done < count → get_or order done 0 < n
    search_inside n A W h = from-within n A W (get_or order done 0) (S.only (get_or order done 0) (L.marked done h))

    pub search_goes_on : {met' : List Bool} {order' : List ℕ} {count' : ℕ} (q : ℕ) → q ≡ get_or order done 0 → done < count → Meets (E q) met order count met' order' count'
        → Search met' order' count' (done + 1)
    search_goes_on {met'} {order'} q e h P =
        record {
          behind = let a = P.no_fewer in omega arith;
          kept = λ s p. P.visited.kept s (S.kept s p);
          only = λ s p. ⊎_elim (λ z. from_more q s (subst From (sym e) (S.only (get_or order done 0) (L.marked done h))) (P.visited.only s z p)) (S.only s) (met? (get_or met s false));
          followed = followed';
        }
      where
        followed' : (i : ℕ) → i < done + 1 → (r : ℕ) → E (get_or order' i 0) r → IsMet met' r
        followed' i k r g =
            let b = S.behind in
            let g' : E (get_or order i 0) r = subst (λ (x : ℕ). E x r) (P.in_place i (omega arith)) g in
            ⊎_elim (λ z. P.visited.covered r (subst (λ (x : ℕ). E x r) (ap (λ (j : ℕ). get_or order j 0) z ∙ sym e) g')) (λ n. P.visited.kept r (S.followed i (omega arith) r g')) (same? i done)

    pub search_ends : count ≤ done → Spread E before met
    search_ends h = record { kept = S.kept; closed = closed'; only = S.only }
      where
        closed' : (x r : ℕ) → IsMet met x → E x r → IsMet met r
        closed' x r p g =
            ⊎_elim (λ z. absurd (L.listed x p (λ i k e. true≢false (sym (S.followed i (omega arith) r (subst (λ (y : ℕ). E y r) (sym e) g)) ∙ z)))) (λ m. m) (met? (get_or met r false))

-- WHAT IS FOUND, where none was met before.

-- what is met first is within the states
pub first-within : {before mid : List Bool} {order order' : List ℕ} {start count : ℕ} → ((s : ℕ) → get_or before s false ≡ false) → (n : ℕ) {Who : ℕ → Type 0} → ((s : ℕ) → Who s → s < n)
    → Meets Who before order start mid order' count → MetWithin n mid
first-within U n f P s m = f s (P.visited.only s (U s) m)

module _ {before mid : List Bool} {order order' : List ℕ} {start count : ℕ} {after : List Bool} (U : (s : ℕ) → get_or before s false ≡ false) where
  -- from the initial states: all that is reached
  pub reached-cells : (arcs initials : List ℕ) → Meets (λ s. Memᴰ s initials) before order start mid order' count → Spread (AnyArc (arcs_as arcs)) mid after → ReachedCells arcs initials after
  reached-cells arcs initials P S s = ⊎_elim (λ z. inr (z, λ R. true≢false (sym (marked R) ∙ z))) (λ p. inl (p, is-reached (S.only s p))) (met? (get_or after s false))
    where
      marked : {x : ℕ} → ReachedBy arcs initials x → IsMet after x
      marked = closed-reached (AnyArc (arcs_as arcs)) initials (λ (x : ℕ). IsMet after x) (λ x m. S.kept x (P.visited.covered x m)) S.closed

      is-reached : From (AnyArc (arcs_as arcs)) mid s → ReachedBy arcs initials s
      is-reached (x, p, w) =
          let R : ReachedBy arcs initials x = initial (P.visited.only x (U x) p) in
          ⊎_elim (λ e. subst (ReachedBy arcs initials) e R) (λ v. reached-along (AnyArc (arcs_as arcs)) initials R v) w

  -- from where edges lead from q: q itself, where it is on a cycle
  pub back-again : (E : ℕ → ℕ → Type 0) (q : ℕ) → Meets (E q) before order start mid order' count → Spread E mid after → (get_or after q false ≡ true) ↔ Walk E q q
  back-again E q P S = (
    λ e. let F = S.only q e in
        let g : E q F.0 = P.visited.only F.0 (U F.0) F.1 in
        ⊎_elim (λ z. edge-walk E (subst (E q) z g)) (λ w. walk_join E (edge-walk E g) w) F.2,
    λ w. come w.0 w.1,
  )
    where
      first-met : (x : ℕ) → E q x → IsMet after x
      first-met x g = S.kept x (P.visited.covered x g)

      along : (x : ℕ) (l : List ℕ) → IsMet after x → Through E x l q → IsMet after q
      along x [] p T = S.closed x q p T
      along x (y ∷ l) p T = along y l (S.closed x y p T.0) T.1

      come : (l : List ℕ) → Through E q l q → IsMet after q
      come [] T = first-met q T
      come (x ∷ l) T = along x l (first-met x T.0) T.1
