-- The places of beginnings, the terminal states, and what the theorems ask of a list of beginnings.
use Prim.Native.Nat.{ℕ, zero, suc, ◌+◌, ◌≤◌, ◌<◌}
use native.Mathlib.Omega.{arith}
use mathlib.Core.Path.{◌≡◌, refl, sym, ap, ap₂, ◌∙◌}
use mathlib.Core.Logic.{◌⊎◌, inl, inr, ⊎_elim}
use mathlib.Core.Bool.{Bool, true, false, cond, true≢false}
use mathlib.Core.Option.{none, some}
use mathlib.Core.List.Memᴰ
use mathlib.Core.List.{List, [], ◌∷◌, ◌++◌, append_assoc, Memᴰ}
use lib.ListN.{length, get_or, length-append}
use borrow.Author.Tests.{eq-eqb, ne_eqb}
use Rattle.graph.specs.Lists.{member}
use Rattle.lexicon.specs.Words.{Word, letters_hold, list_holds, same, listed}
use Rattle.lexicon.specs.Beginnings.{beginnings}
use Rattle.lexicon.proofs.Words.{same-is, is_same, not_listed, mem-holds, no_empty, letters, letter_in_lem}
use Rattle.lexicon.proofs.Beginnings.{beginnings_have}
use Rattle.trie_format.specs.Trie.{place_from, by_state}

-- The place of a beginning.

pub place_found : (bs : List Word) (b : Word) (i j : ℕ) → place_from i b bs ≡ some j → (k : ℕ) × (j ≡ i + k) × (k < length bs) × (get_or bs k [] ≡ b)
place_found [] b i j e = absurd (let z : ◌≡◌ {A = ℕ} 0 1 = cc in omega arith)
place_found (c ∷ bs) b i j e = go (same b c) refl e (λ g. place_found bs b (suc i) j g)
  where
    go : (x : Bool) → same b c ≡ x → cond x (some i) (place_from (suc i) b bs) ≡ some j
        → (place_from (suc i) b bs ≡ some j → (k : ℕ) × (j ≡ suc i + k) × (k < length bs) × (get_or bs k [] ≡ b))
        → (k : ℕ) × (j ≡ i + k) × (k < suc (length bs)) × (get_or (c ∷ bs) k [] ≡ b)
    go true f g G = let h : i ≡ j = cc in (0, omega arith, omega arith, sym (same-is b c f))
    go false f g G = let R = G g in (suc R.0, omega (arith, R.1), omega (arith, R.2), R.3)

pub place_none : (bs : List Word) (b : Word) (i : ℕ) → place_from i b bs ≡ none → Memᴰ b bs → ⊥
place_none [] b i e m = Memᴰ.not-nil m
place_none (c ∷ bs) b i e m = go (same b c) refl e (λ g h. place_none bs b (suc i) g h) (Memᴰ.cases_cons m)
  where
    go : (x : Bool) → same b c ≡ x → cond x (some i) (place_from (suc i) b bs) ≡ none → (place_from (suc i) b bs ≡ none → Memᴰ b bs → ⊥) → (b ≡ c) ⊎ Memᴰ b bs → ⊥
    go true f g G h = let z : ◌≡◌ {A = ℕ} 0 1 = cc in omega arith
    go false f g G (inl h) = true≢false (sym (is_same b) ∙ ap (same b) h ∙ f)
    go false f g G (inr h) = G g h

-- The terminal states.

module _ (test : Word → Bool) where
  -- the places of the beginnings that pass, the first one's being i
  abbrev pub ends : ℕ → List Word → List ℕ
  ends = by_state (λ i b. cond (test b) (i ∷ []) [])

  ends-later : (bs : List Word) (s i : ℕ) → s < i → member s (ends i bs) ≡ false
  ends-later [] s i h = refl
  ends-later (b ∷ bs) s i h = go (test b) (ends-later bs s (suc i) (omega arith))
    where
      go : (x : Bool) → member s (ends (suc i) bs) ≡ false → member s (cond x (i ∷ []) [] ++ ends (suc i) bs) ≡ false
      go true e = rw (ne_eqb i s (λ u. omega arith)) e
      go false e = e

  pub ends-are : (bs : List Word) (s i k : ℕ) → s ≡ i + k → k < length bs → member s (ends i bs) ≡ test (get_or bs k [])
  ends-are [] s i k e h = absurd (omega arith)
  ends-are (b ∷ bs) s i zero e h = go (test b)
    where
      go : (x : Bool) → member s (cond x (i ∷ []) [] ++ ends (suc i) bs) ≡ x
      go true = rw (eq-eqb i s (omega arith))
      go false = ends-later bs s (suc i) (omega arith)
  ends-are (b ∷ bs) s i (suc k) e h = go (test b) (ends-are bs s (suc i) k (omega arith) (omega arith))
    where
      go : (x : Bool) → member s (ends (suc i) bs) ≡ test (get_or bs k []) → member s (cond x (i ∷ []) [] ++ ends (suc i) bs) ≡ test (get_or bs k [])
      go true f = rw (ne_eqb i s (λ u. omega arith)) f
      go false f = f

-- One letter more.

pub snoc-parts : (b c : Word) (x y : ℕ) → b ++ (x ∷ []) ≡ c ++ (y ∷ []) → (b ≡ c) × (x ≡ y)
snoc-parts [] [] x y e = (refl, cc)
snoc-parts [] (z ∷ c) x y e = absurd (omega (arith, ap length e, length-append c (y ∷ [])))
snoc-parts (z ∷ b) [] x y e = absurd (omega (arith, ap length e, length-append b (x ∷ [])))
snoc-parts (z ∷ b) (a ∷ c) x y e =
    let f : z ≡ a = cc in
    let g : b ++ (x ∷ []) ≡ c ++ (y ∷ []) = cc in
    let R = snoc-parts b c x y g in
    (ap₂ (λ (u : ℕ) (v : Word). u ∷ v) f R.0, R.1)

-- is not the root's
pub above_root : (bs : List Word) → get_or bs 0 [] ≡ [] → (j : ℕ) (b : Word) (x : ℕ) → get_or bs j [] ≡ b ++ (x ∷ []) → 0 < j
above_root bs r zero b x e = absurd (omega (arith, ap length r, ap length e, length-append b (x ∷ [])))
above_root bs r (suc j) b x e = omega arith

-- What the theorems ask of the beginnings of states.

pub record Names (ws bs : List Word) : Type 0 where
  pub root : get_or bs 0 [] ≡ []
  pub some-state : 0 < length bs
  -- the empty word is not listed
  pub no_empty : listed ws [] ≡ false
  -- where b with x behind it is no state's, or x no letter of a word, no listed word begins so
  pub complete : (b : Word) (x : ℕ) → place_from 0 (b ++ (x ∷ [])) bs ≡ none → (u : Word) → listed ws ((b ++ (x ∷ [])) ++ u) ≡ false
  pub letters : (b : Word) (x : ℕ) → ((x ≤ 0) ⊎ (63 ≤ x)) → (u : Word) → listed ws ((b ++ (x ∷ [])) ++ u) ≡ false

pub names : (ws : List Word) → list_holds ws ≡ true → Names ws (beginnings ws)
unfolding beginnings
names ws e =
    record {
      root = refl;
      some-state = omega arith;
      no_empty = not_listed ws [] (λ m. no_empty (mem-holds ws e [] m));
      complete = λ b x f u. not_listed ws ((b ++ (x ∷ [])) ++ u) (λ m. place_none (beginnings ws) (b ++ (x ∷ [])) 0 f (beginnings_have ws (b ++ (x ∷ [])) u m));
      letters = λ b x h u. not_listed ws ((b ++ (x ∷ [])) ++ u)
          (λ m. let L = letter_in_lem b u x (ap letters_hold (sym (append_assoc b (x ∷ []) u)) ∙ letters ((b ++ (x ∷ [])) ++ u) (mem-holds ws e ((b ++ (x ∷ [])) ++ u) m)) in
          ⊎_elim (λ l. omega (arith, L.0)) (λ l. omega (arith, L.1)) h);
    }
