-- Laws of the rounds in which states die: the arcs of a state, one state's turn in a round, and the rounds.
use Prim.Native.Nat.{ℕ, zero, suc, ◌+◌, ◌<◌, ◌≤◌}
use native.Mathlib.Omega.{arith}
use mathlib.Core.Path.{◌≡◌, refl, sym, subst, ◌∙◌}
use mathlib.Core.Logic.{⊎_elim}
use mathlib.Core.Bool.{Bool, true, false, true≢false}
use mathlib.Core.List.{List, [], ◌∷◌}
use lib.ListN.{length, get_or, set, length-set}
use lib.Seq.{get_or-set_other}
use Rattle.std.specs.Prelude.{Some}
use Rattle.graph.proofs.Lists.{same?}
use Rattle.graph.proofs.Walk.{rotated}
use Rattle.engine_graph.specs.declared.IdleGraph.{IdleGraph}
use Rattle.engine_graph.specs.Edge.{EdgeIn}
use Rattle.engine_graph.proofs.Targets.{target_at, edge_at, edge-number}
use Rattle.engine_peel.specs.Peel.{Lives, living, Cyclic, Leaf, Peeled, Settled}

-- a state that dies is one less
pub living-set : (l : List ℕ) (i : ℕ) → get_or l i 0 ≡ 1 → living (set l i 0) + 1 ≡ living l
unfolding living
living-set [] i e = absurd (omega arith)
living-set (x ∷ l) zero e = subst (λ (y : ℕ). living (set (x ∷ l) 0 0) + 1 ≡ living (y ∷ l)) (sym e) (omega arith)
living-set (x ∷ l) (suc i) e = let r : living (set l i 0) + 1 ≡ living l = living-set l i e in omega arith

module _ (g : IdleGraph) where
  module _ (alive : List ℕ) (q : ℕ) (h : q < g.states) where
    pub leaf-not : (n x : ℕ) → get_or g.first.now q 0 ≤ n → n < get_or g.first.now (q + 1) 0 → target_at g n ≡ Some x → Lives alive x → Leaf g alive q false
    leaf-not n x a b e l = record { leads-on = λ k. (x, edge_at g q n x h a b e, l); leads_nowhere = λ k. absurd (true≢false (sym k)) }

    pub leaf : ((n x : ℕ) → get_or g.first.now q 0 ≤ n → n < get_or g.first.now (q + 1) 0 → target_at g n ≡ Some x → Lives alive x → ⊥) → Leaf g alive q true
    leaf f = record { leads-on = λ k. absurd (true≢false k); leads_nowhere = λ k x E l. let N = edge-number g q x E in f N.0 x N.1 N.2 N.3 l }

  -- A round: from state q on, the states had their turn.

  pub record Round (before alive : List ℕ) (q : ℕ) (died : Bool) : Type 0 where
    pub same_length : length alive ≡ length before
    pub keeps : Cyclic g before → Cyclic g alive
    pub no_more : living alive ≤ living before
    pub fewer : died ≡ true → living alive < living before
    pub seen : died ≡ false → (s : ℕ) → q ≤ s → s < g.states → Lives alive s → (r : ℕ) × EdgeIn g s r × Lives alive r

  pub round-begins : (alive : List ℕ) (q : ℕ) → q ≡ g.states → Round alive alive q false
  round-begins alive q h = record { same_length = refl; keeps = λ C. C; no_more = omega arith; fewer = λ e. absurd (true≢false (sym e)); seen = λ e s a b. absurd (omega arith) }

  pub round-ends : (before alive : List ℕ) (q : ℕ) (died : Bool) → q ≤ 0 → Round before alive q died → Peeled g before alive died
  round-ends before alive q died h R = record { same_length = R.same_length; keeps = R.keeps; no_more = R.no_more; fewer = R.fewer; stable = λ e s k a. R.seen e s (omega arith) k a }

  -- the turn of state q, where the states behind it had theirs
  module _ (before alive : List ℕ) (p q : ℕ) (died : Bool) (R : Round before alive p died) (next : p ≡ q + 1) where
    -- it needs nothing or has what it needs
    stays : (Lives alive q → (r : ℕ) × EdgeIn g q r × Lives alive r) → Round before alive q died
    stays f =
        record {
          same_length = R.same_length;
          keeps = R.keeps;
          no_more = R.no_more;
          fewer = R.fewer;
          seen =
              λ e s a b w. ⊎_elim (λ y. subst (λ (x : ℕ). (r : ℕ) × EdgeIn g x r × Lives alive r) (sym y) (f (subst (Lives alive) y w)))
              (λ n. R.seen e s (omega arith) b w) (same? s q);
        }

    pub round_dead : (Lives alive q → ⊥) → Round before alive q died
    round_dead d = stays (λ e. absurd (d e))

    module _ (r : Bool) (N : Leaf g alive q r) where
      pub round_lives : r ≡ false → Round before alive q died
      round_lives k = stays (λ e. N.leads-on k)

      pub round_dies : Lives alive q → r ≡ true → Round before (set alive q 0) q true
      round_dies a k =
          let less = living-set alive q a in
          let few = R.no_more in
          record { same_length = length-set alive q 0 ∙ R.same_length; keeps = λ C. kept (R.keeps C); no_more = omega arith; fewer = λ e. omega arith; seen = λ e. absurd (true≢false e) }
        where
          kept : Cyclic g alive → Cyclic g (set alive q 0)
          kept C s w =
              ⊎_elim
              (λ z. let O = rotated (EdgeIn g) s w in absurd (N.leads_nowhere k O.0 (subst (λ (x : ℕ). EdgeIn g x O.0) z O.1) (C O.0 O.2)))
              (λ n. get_or-set_other alive q s 0 0 n ∙ C s w) (same? s q)

  pub settled : (before alive after : List ℕ) → length alive ≡ length before → (Cyclic g before → Cyclic g alive) → Peeled g alive after false → Settled g before after
  settled before alive after e K P = record { same_length = P.same_length ∙ e; keeps = λ C. P.keeps (K C); stable = P.stable refl }
