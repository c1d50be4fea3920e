-- Laws of the layers: one state after another gets its number, and one layer comes after another.
use Prim.Native.Nat.{ℕ, zero, suc, ◌+◌, ◌<◌, ◌≤◌}
use native.Mathlib.Omega.{arith}
use native.Mathlib.Numerals.{add-one}
use mathlib.Core.Path.{◌≡◌, refl, sym, ap, subst, ◌∙◌}
use mathlib.Core.Logic.{◌⊎◌, inl, inr, ⊎_elim}
use mathlib.Core.Bool.{true, false, true≢false}
use mathlib.Core.List.{List}
use lib.ListN.{length, get_or, set, replicate, length-set, length-replicate}
use lib.Seq.{get_or-set_same, get_or-set_other}
use Rattle.graph.specs.Lists.{zeros}
use Rattle.graph.specs.Walk.{Walk}
use Rattle.graph.specs.Layers.{Layers}
use Rattle.graph.proofs.Lists.{same?, zero?, zeros-all, zeros-set}
use Rattle.graph.proofs.Layers.{layers-begin, layers-more, layers-end}
use Rattle.std.specs.Prelude.{Option, Some, None, is_some}
use Rattle.engine_graph.specs.declared.IdleGraph.{IdleGraph}
use Rattle.engine_graph.specs.Edge.{EdgeIn}
use Rattle.engine_graph.proofs.Targets.{edges_among}
use Rattle.engine_cycle.specs.Numbers.{number_in, LowestAt, LayerAdded, LayersTo}

-- an option, by the tests
pub some-there : (o : Option ℕ) → is_some o ≡ true → (r : ℕ) × (o ≡ Some r)
some-there (Some r) e = (r, refl)
some-there None e = absurd (true≢false (sym e))

pub none-there : (o : Option ℕ) → is_some o ≡ false → o ≡ None
none-there None e = refl
none-there (Some r) e = absurd (true≢false e)

zeros-in : (n x : ℕ) → ◌≡◌ {A = ℕ} (get_or (replicate n 0) x 0) 0
zeros-in zero x = refl
zeros-in (suc n) zero = refl
zeros-in (suc n) (suc x) = zeros-in n x

module _ (g : IdleGraph) where
  -- ONE LAYER: the states below n had their turn.
  pub record Turned (far : ℕ) (before numbers : List ℕ) (n : ℕ) : Type 0 where
    pub same_length : length numbers ≡ length before
    pub kept : (x : ℕ) → 0 < number_in before x → number_in numbers x ≡ number_in before x
    pub added : (x : ℕ) → number_in before x ≡ 0 → 0 < number_in numbers x → (number_in numbers x ≡ suc far) × ((y : ℕ) × EdgeIn g x y × (number_in before y ≡ far))
    pub covered : (x : ℕ) → x < n → (y : ℕ) → EdgeIn g x y → number_in before y ≡ far → 0 < number_in numbers x
    pub fewer : (numbers ≡ before) ⊎ (zeros numbers < zeros before)

  pub turned_none : (far : ℕ) (before : List ℕ) → Turned far before before 0
  turned_none far before =
      record { same_length = refl; kept = λ x p. refl; added = λ x z p. absurd (omega arith); covered = λ x h. absurd (omega arith); fewer = inl refl }

  module _ {far : ℕ} {before numbers : List ℕ} {n : ℕ} (T : Turned far before numbers n) where
    -- a state that has its number, or that does not lead to the layer
    pub turned-stays : ((y : ℕ) → EdgeIn g n y → number_in before y ≡ far → 0 < number_in numbers n) → Turned far before numbers (n + 1)
    turned-stays f =
        record {
          same_length = T.same_length;
          kept = T.kept;
          added = T.added;
          covered = λ x h. ⊎_elim (λ e. subst (λ (i : ℕ). (y : ℕ) → EdgeIn g i y → number_in before y ≡ far → 0 < number_in numbers i) (sym e) f) (λ d. T.covered x (omega arith)) (same? x n);
          fewer = T.fewer;
        }

    pub turned-numbered : (number_in numbers n ≡ 0 → ⊥) → Turned far before numbers (n + 1)
    turned-numbered d = turned-stays (λ y E e. ⊎_elim (λ z. absurd (d z)) (λ p. p) (zero? (number_in numbers n)))

    module _ (o : Option ℕ) (L : LowestAt g numbers far n o) (h : 0 < far) where
      pub turned-leads-not : o ≡ None → Turned far before numbers (n + 1)
      turned-leads-not k = turned-stays (λ y E e. absurd (L.none-there k y E (T.kept y (omega arith) ∙ e)))

      -- a state that gets its number
      module _ (r : ℕ) (k : o ≡ Some r) (b : n < length numbers) (z : number_in numbers n ≡ 0) where
        abbrev after : List ℕ
        after = set numbers n (far + 1)

        here : (x : ℕ) → x ≡ n → number_in after x ≡ far + 1
        here x e = ap (number_in after) e ∙ get_or-set_same numbers n (far + 1) 0 b

        there : (x : ℕ) → (x ≡ n → ⊥) → number_in after x ≡ number_in numbers x
        there x d = get_or-set_other numbers n x (far + 1) 0 d

        was : number_in before r ≡ far
        was = let F = (L.found r k).1 in ⊎_elim (λ y. absurd (let A = T.added r y (omega arith) in let w = A.0 in omega arith)) (λ p. sym (T.kept r p) ∙ F) (zero? (number_in before r))

        pub turned-adds : Turned far before (set numbers n (far + 1)) (n + 1)
        turned-adds =
            record {
              same_length = length-set numbers n (far + 1) ∙ T.same_length;
              kept = λ x p. let y = T.kept x p in there x (λ e. let w = ap (number_in numbers) e in omega arith) ∙ y;
              added =
                  λ x y p.
                  ⊎_elim (λ e. (here x e ∙ add-one far, (r, subst (λ (i : ℕ). EdgeIn g i r) (sym e) (L.found r k).0, was)))
                  (λ d. let w = there x d in let A = T.added x y (omega arith) in (w ∙ A.0, A.1)) (same? x n);
              covered =
                  λ x i y E e.
                  ⊎_elim (λ s. let w = here x s in omega arith) (λ d. let w = there x d in let p = T.covered x (omega arith) y E e in omega arith) (same? x n);
              fewer = inr (let s = zeros-set numbers n (far + 1) b z (omega arith) in ⊎_elim (λ e. let w = ap zeros e in omega arith) (λ w. omega arith) T.fewer);
            }

  pub turned-all : {far : ℕ} {before numbers : List ℕ} {n : ℕ} → g.states ≤ n → Turned far before numbers n → LayerAdded g far before numbers
  turned-all h T =
      record {
        same_length = T.same_length;
        layer =
            record {
              kept = T.kept;
              added = T.added;
              covered = λ x y E e. T.covered x (omega (arith, (edges_among g x y E).0)) y E e;
            };
        fewer = T.fewer;
      }

  -- THE LAYERS, until s leads to the outermost.
  module _ (s : ℕ) where
    -- the layers up to a number
    pub record Grown (numbers : List ℕ) (far : ℕ) : Type 0 where
      pub layers : Layers (EdgeIn g) s (number_in numbers) far
      pub width : length numbers ≡ 256
      pub room : far + zeros numbers ≤ 256
      pub some : 0 < far

    pub grown-first : s < 256 → Grown (set (replicate 256 0) s 1) 1
    grown-first h =
        let U = λ (x : ℕ). zeros-in 256 x in
        let w = length-replicate {A = ℕ} 256 0 in
        record {
          layers =
              layers-begin (EdgeIn g) s (number_in (set (replicate 256 0) s 1)) (get_or-set_same (replicate 256 0) s 1 0 (omega arith)) (λ x d. get_or-set_other (replicate 256 0) s x 1 0 d ∙ U x);
          width = length-set (replicate 256 0) s 1 ∙ w;
          room = let z = zeros-set (replicate 256 0) s 1 (omega arith) (U s) (omega arith) in let a = zeros-all (replicate 256 0) U in omega arith;
          some = omega arith;
        }

    module _ {numbers : List ℕ} {far : ℕ} (G : Grown numbers far) (o : Option ℕ) (L : LowestAt g numbers far s o) where
      module _ (k : o ≡ None) (w : Walk (EdgeIn g) s s) {after : List ℕ} (A : LayerAdded g far numbers after) where
        -- each layer has a state, since s is on a cycle
        pub grown-fewer : zeros after < zeros numbers
        grown-fewer =
            ⊎_elim
            (λ e. absurd (layers-end (EdgeIn g) s G.layers (λ x y E f. subst (λ (l : List ℕ). 0 < number_in l x) e (A.layer.covered x y E f)) (L.none-there k) w))
            (λ h. h) A.fewer

        pub grown-more : Grown after (far + 1)
        grown-more =
            record {
              layers = subst (Layers (EdgeIn g) s (number_in after)) (sym (add-one far)) (layers-more (EdgeIn g) s G.layers A.layer (L.none-there k));
              width = A.same_length ∙ G.width;
              room = let f = grown-fewer in let m = G.room in omega arith;
              some = omega arith;
            }

      pub grown-ends : (r : ℕ) → o ≡ Some r → LayersTo g s numbers far
      grown-ends r k = let F = L.found r k in record { layers = G.layers; few = omega (arith, G.room); leads = (r, F.0, F.1) }
