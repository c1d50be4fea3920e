-- The arcs of a state of a table that is made state by state, and what they tell, as a list.
use Prim.Native.Nat.{ℕ, zero, suc, ◌+◌, ◌<◌}
use native.Mathlib.Omega.{arith}
use mathlib.Core.Path.{◌≡◌, refl, sym, ap, ap₂, subst, ◌∙◌}
use mathlib.Core.List.{List, [], ◌∷◌, ◌++◌, append-nil}
use lib.ListN.{length, get_or}
use Rattle.table_format.specs.Table.{Arc, Table}
use Rattle.table_format.specs.Ruled.{AtLeast}
use Rattle.table_format.proofs.All.{All}
use Rattle.machine.specs.Query.{Query}
use Rattle.machine.specs.Transducer.{Passed, machine}
use Rattle.machine.specs.Denotation.{arcs_tell}
use Rattle.machine.proofs.ArcLists.{list_tell, arcs_from, from-append, from-own, from-other, at_least-less, part-rises, state_tells_lem}
use Rattle.lexicon.specs.Words.{Word}
use Rattle.trie_format.specs.Trie.{by_state}

module _ (f : ℕ → Word → List Arc) (from : (i : ℕ) (b : Word) → All (λ a. a.source ≡ i) (f i b)) where
  rises : (bs : List Word) (i : ℕ) → AtLeast i (by_state f i bs)
  rises [] i = tt
  rises (b ∷ bs) i = part-rises i i (f i b) (by_state f (suc i) bs) (omega arith) (from i b) (at_least-less i (suc i) (by_state f (suc i) bs) (omega arith) (rises bs (suc i)))

  -- no arc of a later state is one of s
  none-later : (bs : List Word) (s i : ℕ) → s < i → arcs_from s (by_state f i bs) ≡ []
  none-later [] s i h = refl
  none-later (b ∷ bs) s i h =
      from-append s (f i b) (by_state f (suc i) bs)
      ∙ ap₂ (λ (x y : List Arc). x ++ y) (from-other s i (λ e. omega arith) (f i b) (from i b)) (none-later bs s (suc i) (omega arith))

  -- the arcs of the state s at place k, where the first one is i
  arcs_at_lem : (bs : List Word) (i k s : ℕ) → s ≡ i + k → k < length bs → arcs_from s (by_state f i bs) ≡ f s (get_or bs k [])
  arcs_at_lem [] i k s e h = absurd (omega arith)
  arcs_at_lem (b ∷ bs) i zero s e h =
      let E : i ≡ s = omega arith in
      from-append s (f i b) (by_state f (suc i) bs)
      ∙ ap₂ (λ (x y : List Arc). x ++ y) (from-own s i E (f i b) (from i b)) (none-later bs s (suc i) (omega arith))
      ∙ append-nil (f i b)
      ∙ ap (λ (r : ℕ). f r b) E
  arcs_at_lem (b ∷ bs) i (suc k) s e h =
      from-append s (f i b) (by_state f (suc i) bs)
      ∙ ap₂ (λ (x y : List Arc). x ++ y) (from-other s i (λ z. omega arith) (f i b) (from i b)) (arcs_at_lem bs (suc i) k s (omega arith) (omega arith))

  -- so what a state's arcs tell is what their list tells
  pub state-part : (t : Table) (q : Query) (bs : List Word) → t.arcs ≡ by_state f 0 bs → (g : ℕ → Passed × ℕ → List ℕ → List (List ℕ)) (d : Passed × ℕ) (o : List ℕ) (s : ℕ) → s < length bs
      → arcs_tell (machine t q) g d o ((machine t q).first s) ((machine t q).arity s) ≡ list_tell t q g d o (f s (get_or bs s []))
  state-part t q bs e g d o s h =
      state_tells_lem t q (subst (AtLeast 0) (sym e) (rises bs 0)) g d o s ∙ ap (list_tell t q g d o) (ap (arcs_from s) e ∙ arcs_at_lem bs 0 s s (omega arith) h)
