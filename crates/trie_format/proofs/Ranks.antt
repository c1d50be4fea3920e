-- Lists that are made state by state, and lists whose elements rise by a rank.
use Prim.Native.Nat.{ℕ, zero, suc, ◌+◌, ◌≤◌, ◌<◌}
use native.Mathlib.Omega.{arith}
use mathlib.Core.Path.{◌≡◌, refl, sym, ap, subst}
use mathlib.Core.Logic.{◌↔◌, ⊎_elim}
use mathlib.Core.List.Memᴰ
use mathlib.Core.List.{List, [], ◌∷◌, ◌++◌, map, Memᴰ}
use lib.ListN.{length, get_or}
use Rattle.table_format.specs.Ruled.{Differ, Rise}
use Rattle.table_format.proofs.All.{All, all_append, at_mem}
use Rattle.graph.specs.Lists.{Distinct}
use Rattle.graph.proofs.Sorted.{sorted-distinct, sorted_unique}
use Rattle.lexicon.specs.Words.{Word}
use Rattle.trie_format.specs.Facts.{Between, Ranked}
use Rattle.trie_format.specs.Trie.{by_state}

-- of a list that has none twice, equal elements have one place
pub distinct-differ : {A : Type 0} (l : List A) → Distinct l → Differ l
distinct-differ [] D d i j h k e = absurd (omega arith)
distinct-differ (x ∷ l) D d zero zero h k e = refl
distinct-differ {A} (x ∷ l) D d zero (suc j) h k e = absurd (D.0 (subst (λ (y : A). Memᴰ y l) (sym e) (at_mem l j d (omega arith))))
distinct-differ {A} (x ∷ l) D d (suc i) zero h k e = absurd (D.0 (subst (λ (y : A). Memᴰ y l) e (at_mem l i d (omega arith))))
distinct-differ (x ∷ l) D d (suc i) (suc j) h k e = ap suc (distinct-differ l D.1 d i j (omega arith) (omega arith) e)

-- different elements have different images
pub distinct-map : {A B : Type 0} (f : A → B) (l : List A) → ((a b : A) → Memᴰ a l → Memᴰ b l → f a ≡ f b → a ≡ b) → Distinct l → Distinct (map f l)
distinct-map f [] h D = tt
distinct-map {A} f (x ∷ l) h D = (
  λ m. let R = Memᴰ.of_map f l m in D.0 (subst (λ (z : A). Memᴰ z l) (h R.0 x (Memᴰ.tail R.1) (Memᴰ.head refl) R.2) R.1),
  distinct-map f l (λ a b m n. h a b (Memᴰ.tail m) (Memᴰ.tail n)) D.1,
)

-- what holds at every state
module _ {A : Type 0} (P : A → Type 0) (f : ℕ → Word → List A) where
  all_from : (bs : List Word) (i : ℕ) → ((s k : ℕ) → s ≡ i + k → k < length bs → All P (f s (get_or bs k []))) → All P (by_state f i bs)
  all_from [] i h = tt
  all_from (b ∷ bs) i h =
      all_append P (f i b) (by_state f (suc i) bs) (h i 0 (omega arith) (omega arith)) (all_from bs (suc i) (λ s k e l. h s (suc k) (omega arith) (omega arith)))

  pub all-by : (bs : List Word) → ((s : ℕ) → s < length bs → All P (f s (get_or bs s []))) → All P (by_state f 0 bs)
  all-by bs h = all_from bs 0 (λ s k e l. let E : k ≡ s = omega arith in subst (λ (z : ℕ). All P (f z (get_or bs k []))) E (h k l))

module _ {A : Type 0} (rank : A → ℕ) where
  pub between-from : (l : List A) (q r m : ℕ) → q ≤ r → Between rank r m l → Between rank q m l
  between-from [] q r m h B = omega arith
  between-from (a ∷ l) q r m h B = (omega (arith, B.0), B.1)

  pub between-append : (l k : List A) (r m n : ℕ) → Between rank r m l → Between rank m n k → Between rank r n (l ++ k)
  between-append [] k r m n B C = between-from k r m n B C
  between-append (a ∷ l) k r m n B C = (B.0, between-append l k (suc (rank a)) m n B.1 C)

  -- state by state, where those of state s stand from (width s) on
  pub between-by : (f : ℕ → Word → List A) (width : ℕ → ℕ) → ((s : ℕ) (b : Word) → Between rank (width s) (width (suc s)) (f s b)) → (bs : List Word) (i : ℕ)
      → Between rank (width i) (width (i + length bs)) (by_state f i bs)
  between-by f width h [] i = let e : i ≡ i + 0 = omega arith in subst (λ (z : ℕ). width i ≤ width z) e (omega arith)
  between-by f width h (b ∷ bs) i =
      let e : suc i + length bs ≡ i + suc (length bs) = omega arith in
      between-append (f i b) (by_state f (suc i) bs) (width i) (width (suc i)) (width (i + suc (length bs))) (h i b)
      (subst (λ (z : ℕ). Between rank (width (suc i)) (width z) (by_state f (suc i) bs)) e (between-by f width h bs (suc i)))

  between-above : (l : List A) (r m : ℕ) → Between rank r m l → (a : A) → Memᴰ a l → r ≤ rank a
  between-above [] r m B a h = absurd (Memᴰ.not-nil h)
  between-above (b ∷ l) r m B a h =
      ⊎_elim (λ e. subst (λ (c : A). r ≤ rank c) (sym e) B.0) (λ k. omega (arith, B.0, between-above l (suc (rank b)) m B.1 a k)) (Memᴰ.cases_cons h)

  -- So they are in order.

  ranked_parts : (a : A) (l : List A) → Ranked rank (a ∷ l) → ((b : A) → Memᴰ b l → rank a < rank b) × Ranked rank l
  ranked_parts a l R = (between-above l (suc (rank a)) R.1 R.2.1, (suc (rank a), R.1, R.2.1))

  pub ranked_distinct : (l : List A) → Ranked rank l → Distinct l
  ranked_distinct = sorted-distinct (λ a b. rank a < rank b) (λ a b h k. omega arith) (Ranked rank) ranked_parts

  pub ranked_unique : (l k : List A) → Ranked rank l → Ranked rank k → ((a : A) → Memᴰ a l ↔ Memᴰ a k) → l ≡ k
  ranked_unique = sorted_unique (λ a b. rank a < rank b) (λ a b h k. omega arith) (Ranked rank) ranked_parts

-- numbers that rise
pub between-rise : (l : List ℕ) (r m : ℕ) → Between (λ s. s) r m l → Rise l
between-rise [] r m B i h = absurd (omega arith)
between-rise (s ∷ []) r m B i h = absurd (omega arith)
between-rise (s ∷ t ∷ l) r m B zero h = B.1.0
between-rise (s ∷ t ∷ l) r m B (suc i) h = between-rise (t ∷ l) (suc s) m B.1 i (omega arith)
