-- What the arcs by letters tell in synthesis: only that of the next letter fits. None has a class.
use Prim.Native.Nat.{ℕ, zero, suc, ◌+◌, ◌≤◌, ◌<◌}
use native.Mathlib.Omega.{arith}
use mathlib.Core.Path.{◌≡◌, refl, sym, ap, ap₂, ◌∙◌}
use mathlib.Core.Logic.{◌⊎◌, inl, inr, ⊎_elim}
use mathlib.Core.Option.{Option, none, some}
use mathlib.Core.List.{List, [], ◌∷◌, ◌++◌, append-nil}
use lib.ListN.{get_or}
use lib.Dec.{leb-zero}
use borrow.Author.Tests.{eq-eqb, ne_eqb, lt-ltb}
use Rattle.table_format.specs.Table.{Arc, Table}
use Rattle.graph.proofs.Lists.{same?}
use Rattle.machine.specs.Query.{synthesis_of}
use Rattle.machine.specs.Transducer.{Passed}
use Rattle.machine.specs.Denotation.{if_fits}
use Rattle.lexicon.specs.Words.{Word}
use Rattle.trie_format.specs.Trie.{place_from, letter_arc, letter_arcs}
use Rattle.machine.proofs.ArcLists.{list_tell, list_tell-append}

-- letters passed, with no penalty
abbrev pub at : ℕ → ℕ → Passed × ℕ
at n m = (record { up = n; low = m }, 0)

module _ (t : Table) (w : Word) (ceiling : ℕ) (g : ℕ → Passed × ℕ → List ℕ → List (List ℕ)) (n m : ℕ) (o : List ℕ) where
  abbrev tells : List Arc → List (List ℕ)
  tells l = list_tell t (synthesis_of w ceiling) g (at n m) o l

  -- what a letter's arc tells where it fits
  abbrev pub onto : ℕ → Option ℕ → List (List ℕ)
  onto x p = if_fits p (λ j. g j (at (suc n) (suc m)) (o ++ (x ∷ [])))

  one-miss : (i x : ℕ) (p : Option ℕ) → suc x < 64 → (get_or w n 0 ≡ suc x → ⊥) → tells (letter_arc i (suc x) p) ≡ []
  one-miss i x none s h = refl
  one-miss i x (some j) s h = rw (lt-ltb (suc x) 64 s, ne_eqb (get_or w n 0) (suc x) h)

  one_hit : (i x : ℕ) (p : Option ℕ) → suc x < 64 → get_or w n 0 ≡ suc x → tells (letter_arc i (suc x) p) ≡ onto (suc x) p
  one_hit i x none s h = refl
  one_hit i x (some j) s h = rw (lt-ltb (suc x) 64 s, eq-eqb (get_or w n 0) (suc x) h, leb-zero ceiling) (append-nil _)

  module _ (bs : List Word) (i : ℕ) (b : Word) where
    -- the arc by the first letter, and the others
    abbrev first : ℕ → List Arc
    first x = letter_arc i x (place_from 0 (b ++ (x ∷ [])) bs)

    split : (k x : ℕ) {u v : List (List ℕ)} → tells (first x) ≡ u → tells (letter_arcs bs i b (suc x) k) ≡ v → tells (letter_arcs bs i b x (suc k)) ≡ u ++ v
    unfolding letter_arcs
    split k x p q = list_tell-append t (synthesis_of w ceiling) g (at n m) o (first x) (letter_arcs bs i b (suc x) k) ∙ ap₂ (λ (u v : List (List ℕ)). u ++ v) p q

    pub letters-miss : (k x : ℕ) → suc x + k ≤ 64 → ((get_or w n 0 ≤ x) ⊎ (suc x + k ≤ get_or w n 0)) → tells (letter_arcs bs i b (suc x) k) ≡ []
    unfolding letter_arcs
    letters-miss zero x s h = refl
    letters-miss (suc k) x s h =
        split k (suc x) (one-miss i x (place_from 0 (b ++ (suc x ∷ [])) bs) (omega arith) (⊎_elim (λ l e. omega arith) (λ l e. omega arith) h))
        (letters-miss k (suc x) (omega arith) (⊎_elim (λ l. inl (omega arith)) (λ l. inr (omega arith)) h))

    pub letters-hit : (k x y : ℕ) → suc x + k ≤ 64 → get_or w n 0 ≡ y → suc x ≤ y → y < suc x + k → tells (letter_arcs bs i b (suc x) k) ≡ onto y (place_from 0 (b ++ (y ∷ [])) bs)
    letters-hit zero x y s e l h = absurd (omega arith)
    letters-hit (suc k) x y s e l h =
        ⊎_elim
        (λ u. split k (suc x) (one_hit i x (place_from 0 (b ++ (suc x ∷ [])) bs) (omega arith) (e ∙ u)) (letters-miss k (suc x) (omega arith) (inl (omega arith))) ∙ append-nil _
        ∙ ap (λ (z : ℕ). onto z (place_from 0 (b ++ (z ∷ [])) bs)) (sym u))
        (λ u. split k (suc x) (one-miss i x (place_from 0 (b ++ (suc x ∷ [])) bs) (omega arith) (λ v. u (sym e ∙ v))) (letters-hit k (suc x) y (omega arith) e (omega (arith, u)) (omega arith)))
        (same? y (suc x))
