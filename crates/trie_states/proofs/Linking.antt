-- The children of states, as lists.
use Prim.Native.Nat.{ℕ, suc, ◌-◌, ◌≤◌, ◌<◌}
use native.Mathlib.Omega.{arith}
use mathlib.Core.Path.{◌≡◌, refl, sym, ap, subst, ◌∙◌}
use mathlib.Core.Logic.{⊎_elim}
use mathlib.Core.Bool.{cond}
use mathlib.Core.List.{List, [], ◌∷◌, ◌++◌, Memᴰ}
use lib.ListN.{length, set, replicate, length-set, length-replicate, get_or-replicate}
use lib.Seq.{get_or-set_same, get_or-set_other}
use lib.Dec.{eqb}
use borrow.Author.Tests.{eq-eqb, ne_eqb}
use Rattle.std.specs.Prelude.{Option, Some, None, IfSome}
use Rattle.graph.proofs.Lists.{same?}
use Rattle.lexicon.specs.Lexicon.{most_states}
use Rattle.trie_states.specs.declared.tree.State.{State}
use Rattle.trie_states.specs.declared.children.Links.{Links}
use Rattle.trie_states.specs.Tree.{parent_of, first_of, next_of, children, Chain}
use Rattle.trie_states.proofs.Rows.{child_to}
use Rattle.trie_states.proofs.Sets.{field-kept}

-- A list of states.

-- it depends on what comes after its elements alone
chain-same : (f g : ℕ → Option ℕ) (l : List ℕ) (k : Option ℕ) → ((x : ℕ) → Memᴰ x l → f x ≡ g x) → Chain f k l → Chain g k l
chain-same f g [] k h C = C
chain-same f g (x ∷ l) k h C =
    let e : f x ≡ g x = h x (Memᴰ.head refl) in
    (C.0, C.1, subst (λ (o : Option ℕ). IfSome o (λ n. x < n)) e C.2, subst (λ (o : Option ℕ). Chain g o l) e (chain-same f g l (f x) (λ y m. h y (Memᴰ.tail m)) C.3))

-- it begins with none of the states before its elements
chain-above : (after : ℕ → Option ℕ) (s : ℕ) (l : List ℕ) (k : Option ℕ) → ((x : ℕ) → Memᴰ x l → s < x) → Chain after k l → IfSome k (λ n. s < n)
chain-above after s [] k h C = subst (λ (o : Option ℕ). IfSome o (λ n. s < n)) (sym C) tt
chain-above after s (x ∷ l) k h C = subst (λ (o : Option ℕ). IfSome o (λ n. s < n)) (sym C.0) (h x (Memᴰ.head refl))

pub chain-none : (after : ℕ → Option ℕ) (k : Option ℕ) (l : List ℕ) → Chain after k l → k ≡ None → l ≡ []
chain-none after k [] C h = refl
chain-none after k (x ∷ l) C h = let e : Some x ≡ None = sym C.0 ∙ h in absurd (cc)

pub record Step (after : ℕ → Option ℕ) (k : ℕ) (l : List ℕ) : Type 0 where
  pub rest : List ℕ
  pub is : l ≡ k ∷ rest
  pub low : k < most_states
  pub above : IfSome (after k) (λ n. k < n)
  pub chain : Chain after (after k) rest

pub chain-step : (after : ℕ → Option ℕ) (k : Option ℕ) (j : ℕ) (l : List ℕ) → Chain after k l → k ≡ Some j → Step after j l
chain-step after k j [] C h = let e : None ≡ Some j = sym C ∙ h in absurd (cc)
chain-step after k j (x ∷ l) C h =
    let o : Some x ≡ Some j = sym C.0 ∙ h in
    let e : x ≡ j = cc in
    record {
      rest = l;
      is = ap (λ (y : ℕ). y ∷ l) e;
      low = subst (λ (y : ℕ). y < most_states) e C.1;
      above = subst (λ (y : ℕ). IfSome (after y) (λ n. y < n)) e C.2;
      chain = subst (λ (y : ℕ). Chain after (after y) l) e C.3;
    }

-- From the last state down.

pub record Linking (tree : List State) (states : ℕ) (links : List Links) (state : ℕ) : Type 0 where
  pub links-all : length links ≡ most_states
  pub some : 1 ≤ state
  pub within : state ≤ states
  pub chains : (i : ℕ) → i < most_states → Chain (next_of links) (first_of links i) (children (parent_of tree) i state (states - state))

pub linking_none : (tree : List State) (states : ℕ) → 1 ≤ states → Linking tree states (replicate most_states (record { first = None; next = None })) states
linking_none tree states h =
    let alone : Links = record { first = None; next = None } in
    let links = replicate most_states alone in
    let z : 0 ≡ states - states = omega arith in
    record {
      links-all = length-replicate {A = Links} most_states alone;
      some = h;
      within = omega arith;
      chains = λ i l.
          subst (λ (n : ℕ). Chain (next_of links) (first_of links i) (children (parent_of tree) i states n)) z
          (ap (λ (k : Links). k.first) (get_or-replicate most_states i alone alone l));
    }

-- a state is put in front of the children of its parent
pub record Put (links links' : List Links) (s p : ℕ) : Type 0 where
  pub same : length links' ≡ length links
  pub first_here : first_of links' p ≡ Some s
  pub first_other : (i : ℕ) → (i ≡ p → ⊥) → first_of links' i ≡ first_of links i
  pub next_here : next_of links' s ≡ first_of links p
  pub next_other : (x : ℕ) → (x ≡ s → ⊥) → next_of links' x ≡ next_of links x

abbrev pub with_next : List Links → ℕ → ℕ → List Links
with_next links s p = set links s (record { first = first_of links s; next = first_of links p })

abbrev pub with_first : List Links → ℕ → ℕ → List Links
with_first links s p = set links p (record { first = Some s; next = next_of links p })

pub put : (links : List Links) (s p : ℕ) → s < length links → p < length links → Put links (with_first (with_next links s p) s p) s p
put links s p h k =
    let none : Links = record { first = None; next = None } in
    let links₁ = with_next links s p in
    let now : Links = record { first = first_of links s; next = first_of links p } in
    let then : Links = record { first = Some s; next = next_of links₁ p } in
    let l₁ : length links₁ ≡ length links = length-set links s now in
    let next-kept = field-kept none (λ (x : Links). x.next) links₁ p then (omega (arith, l₁)) refl in
    let first-kept = field-kept none (λ (x : Links). x.first) links s now h refl in
    record {
      same = length-set links₁ p then ∙ l₁;
      first_here = ap (λ (x : Links). x.first) (get_or-set_same links₁ p then none (omega (arith, l₁)));
      first_other = λ i e. ap (λ (x : Links). x.first) (get_or-set_other links₁ p i then none e) ∙ first-kept i;
      next_here = next-kept s ∙ ap (λ (x : Links). x.next) (get_or-set_same links s now none h);
      next_other = λ x e. next-kept x ∙ ap (λ (x : Links). x.next) (get_or-set_other links s x now none e);
    }

module _ (tree : List State) (states : ℕ) (links : List Links) (state : ℕ) (L : Linking tree states links state) (few : states ≤ most_states) where
  abbrev parent : ℕ → ℕ
  parent = parent_of tree

  pub linking_more : (s : ℕ) → suc s ≡ state → 1 ≤ s → (p : ℕ) → p ≡ parent s → p < most_states → (links' : List Links) → Put links links' s p → Linking tree states links' s
  linking_more s s-is h p p-is p-low links' P =
      record {
        links-all = P.same ∙ L.links-all;
        some = h;
        within = omega (arith, L.within);
        chains = λ i l. subst (λ (k : List ℕ). Chain (next_of links') (first_of links' i) k) (sym (here i)) (⊎_elim (λ e. mine i l e) (λ e. other i l e) (same? (parent s) i));
      }
    where
      here : (i : ℕ) → children parent i s (states - s) ≡ cond (eqb (parent s) i) (s ∷ []) [] ++ children parent i state (states - state)
      here i =
          let e : states - s ≡ suc (states - state) = omega (arith, L.within) in
          ap (children parent i s) e ∙ ap (λ (j : ℕ). cond (eqb (parent s) i) (s ∷ []) [] ++ children parent i j (states - state)) s-is

      later : (i x : ℕ) → Memᴰ x (children parent i state (states - state)) → s < x
      later i x m = omega (arith, (child_to parent i (states - state) state x m).0)

      kept : (i : ℕ) → i < most_states → Chain (next_of links') (first_of links i) (children parent i state (states - state))
      kept i l =
          chain-same (next_of links) (next_of links') (children parent i state (states - state)) (first_of links i)
          (λ x m. sym (P.next_other x (λ e. let f = later i x m in omega arith))) (L.chains i l)

      mine : (i : ℕ) → i < most_states → parent s ≡ i → Chain (next_of links') (first_of links' i) (cond (eqb (parent s) i) (s ∷ []) [] ++ children parent i state (states - state))
      mine i l e =
          let q : p ≡ i = p-is ∙ e in
          let f : first_of links' i ≡ Some s = ap (first_of links') (sym q) ∙ P.first_here in
          let g : next_of links' s ≡ first_of links i = P.next_here ∙ ap (first_of links) q in
          rw (eq-eqb (parent s) i e) (
            f,
            omega (arith, L.within),
            subst (λ (o : Option ℕ). IfSome o (λ n. s < n)) (sym g) (chain-above (next_of links) s (children parent i state (states - state)) (first_of links i) (later i) (L.chains i l)),
            subst (λ (o : Option ℕ). Chain (next_of links') o (children parent i state (states - state))) (sym g) (kept i l),
          )

      other : (i : ℕ) → i < most_states → (parent s ≡ i → ⊥) → Chain (next_of links') (first_of links' i) (cond (eqb (parent s) i) (s ∷ []) [] ++ children parent i state (states - state))
      other i l e =
          let f : first_of links' i ≡ first_of links i = P.first_other i (λ u. e (sym p-is ∙ sym u)) in
          rw (ne_eqb (parent s) i e) (subst (λ (o : Option ℕ). Chain (next_of links') o (children parent i state (states - state))) (sym f) (kept i l))
