-- The computed test tells whether a walk comes back to a state.
use Prim.Native.Nat.{ℕ, zero, suc}
use mathlib.Core.Path.{◌≡◌, refl, ap, subst}
use mathlib.Core.Bool.{Bool, true}
use mathlib.Core.List.{List, [], ◌∷◌, Memᴰ}
use lib.ListN.{length}
use Rattle.table_format.specs.Rules.{any}
use Rattle.table_format.proofs.Any.{any_found, any-mem}
use Rattle.graph.specs.Lists.{up_to}
use Rattle.graph.specs.Walk.{Through, Walk, Among, Decides}
use Rattle.graph.specs.Cycle.{enough, back_in, back_after, on_cycle}
use Rattle.graph.proofs.Lists.{mem-member, up_to-mem, keep-mem, mem-keep}
use Rattle.graph.proofs.Walk.{WalkThrough, freed, freed-short}

module _ (E : ℕ → ℕ → Type 0) (e : ℕ → ℕ → Bool) (n : ℕ) (D : Decides E e) where
  pub back-steps : (s m x : ℕ) → Memᴰ x (back_in e n s m) → WalkThrough E s m x
  back-steps s zero x h = ([], (D x s).0 (keep-mem (λ y. e y s) (up_to n) x h).1, refl)
  back-steps s (suc m) x h =
      let R = any_found (e x) (back_in e n s m) (keep-mem (λ y. any (e y) (back_in e n s m)) (up_to n) x h).1 in
      let S = back-steps s m R.0 R.1 in
      (R.0 ∷ S.0, ((D x R.0).0 R.2, S.1), ap suc S.2)

  module _ (G : Among E n) where
    through-back : (s x : ℕ) (l : List ℕ) → Through E x l s → Memᴰ x (back_in e n s (length l))
    through-back s x [] T = mem-keep (λ y. e y s) (up_to n) x (up_to-mem n x (G x s T).0) ((D x s).1 T)
    through-back s x (y ∷ l) T =
        mem-keep (λ z. any (e z) (back_in e n s (length l))) (up_to n) x (up_to-mem n x (G x y T.0).0)
        (any-mem (e x) (back_in e n s (length l)) y (through-back s y l T.1) ((D x y).1 T.0))

    pub steps_back : (s m x : ℕ) → WalkThrough E s m x → Memᴰ x (back_in e n s m)
    steps_back s m x S = subst (λ (i : ℕ). Memᴰ x (back_in e n s i)) S.2 (through-back s x S.0 S.1)

    -- freed of repeats, the walk is short enough to be looked for
    pub walk-on : (s : ℕ) → Walk E s s → on_cycle e n s ≡ true
    walk-on s w =
        let F = freed E s w.0 s w.1 in
        any-mem (back_after e n s) (enough n) (length F.states) (up_to-mem n (length F.states) (freed-short E n G F))
        (mem-member s (back_in e n s (length F.states)) (through-back s s F.states F.leads))
