-- The arcs of the letter tree: their forms, and their order by source and by what they write.
use Prim.Native.Nat.{ℕ, zero, suc, ◌+◌, ◌*◌, ◌≤◌, ◌<◌}
use native.Mathlib.Omega.{arith}
use mathlib.Core.Path.{◌≡◌, refl, sym, ap, subst, ◌∙◌}
use mathlib.Core.Logic.{inl, inr}
use mathlib.Core.Bool.{Bool, true, false, cond, true≢false}
use mathlib.Core.Option.{Option, none, some}
use mathlib.Core.List.{List, [], ◌∷◌, ◌++◌, Memᴰ}
use lib.ListN.{length, get_or}
use Rattle.table_format.specs.Table.{Arc}
use Rattle.table_format.specs.Cells.{arc_as}
use Rattle.table_format.proofs.All.{All, all_append}
use Rattle.lexicon.specs.Words.{Word, listed}
use Rattle.lexicon.proofs.Words.{listed-mem, mem-listed}
use Rattle.trie_format.specs.Facts.{ByLetter, FromEnd, TreeArc, rank, Between}
use Rattle.trie_format.specs.Trie.{place_from, letter_arc, letter_arcs, cut_arc, arcs_of, table_on}
use Rattle.trie_format.proofs.Names.{place_found, above_root, Names}
use Rattle.trie_format.proofs.Ranks.{all-by, between-from, between-append, between-by}

-- what holds of every arc by a letter
pub letters-all : (P : Arc → Type 0) (bs : List Word) (i : ℕ) (b : Word) (k x : ℕ)
    → ((y j : ℕ) → x ≤ y → y < x + k → place_from 0 (b ++ (y ∷ [])) bs ≡ some j → P (arc_as i y y j)) → All P (letter_arcs bs i b x k)
unfolding letter_arcs
letters-all P bs i b zero x h = tt
letters-all P bs i b (suc k) x h =
    all_append P (letter_arc i x (place_from 0 (b ++ (x ∷ [])) bs)) (letter_arcs bs i b (suc x) k) (go (place_from 0 (b ++ (x ∷ [])) bs) refl)
    (letters-all P bs i b k (suc x) (λ y j l m e. h y j (omega arith) (omega arith) e))
  where
    go : (p : Option ℕ) → place_from 0 (b ++ (x ∷ [])) bs ≡ p → All P (letter_arc i x p)
    go none e = tt
    go (some j) e = (h x j (omega arith) (omega arith) e, tt)

-- the arcs of a state come from it
pub letters_from_lem : (bs : List Word) (i : ℕ) (b : Word) (k x : ℕ) → All (λ a. a.source ≡ i) (letter_arcs bs i b x k)
letters_from_lem bs i b k x = letters-all (λ a. a.source ≡ i) bs i b k x (λ y j l m e. refl)

cut-from : (i : ℕ) (x : Bool) → All (λ a. a.source ≡ i) (cond x (cut_arc i ∷ []) [])
cut-from i true = (refl, tt)
cut-from i false = tt

pub arcs_from_lem : (ws bs : List Word) (i : ℕ) (b : Word) → All (λ a. a.source ≡ i) (arcs_of ws bs i b)
arcs_from_lem ws bs i b = search (all_append (λ (a : Arc). a.source ≡ i), letters_from_lem bs i b 62 1, cut-from i (listed ws b))

-- Their forms.

-- it does not lead to the root
pub letter-above : (bs : List Word) → get_or bs 0 [] ≡ [] → (a : Arc) → ByLetter bs a → 0 < a.target
letter-above bs r a S = above_root bs r a.target (get_or bs a.source []) a.lower S.step

-- a word's end is not the root
pub end-above : (ws bs : List Word) → Names ws bs → (a : Arc) → FromEnd ws bs a → 0 < a.source
end-above ws bs N a S = go a.source S.word_end
  where
    go : (s : ℕ) → Memᴰ (get_or bs s []) ws → 0 < s
    go zero m = absurd (true≢false (sym (mem-listed ws (get_or bs 0 []) m) ∙ ap (listed ws) N.root ∙ N.no_empty))
    go (suc s) m = omega arith

pub letters_shape : (bs : List Word) (s : ℕ) → s < length bs → All (ByLetter bs) (letter_arcs bs s (get_or bs s []) 1 62)
letters_shape bs s h =
    letters-all (ByLetter bs) bs s (get_or bs s []) 62 1
    (λ y j l m e.
    let R = place_found bs (get_or bs s [] ++ (y ∷ [])) 0 j e in
    let J : R.0 ≡ j = omega (arith, R.1) in
    record { source_in = h; target_in = omega (arith, R.2); low = l; high = omega arith; same = refl; no_penalty = refl; step = ap (λ (z : ℕ). get_or bs z []) (sym J) ∙ R.3 })

pub arcs_shape : (ws bs : List Word) → All (TreeArc ws bs) (table_on ws bs).arcs
arcs_shape ws bs = all-by (TreeArc ws bs) (arcs_of ws bs) bs both
  where
    all_inl : (l : List Arc) → All (ByLetter bs) l → All (TreeArc ws bs) l
    all_inl [] p = tt
    all_inl (a ∷ l) p = (inl p.0, all_inl l p.1)

    cut : (s : ℕ) → s < length bs → (x : Bool) → listed ws (get_or bs s []) ≡ x → All (TreeArc ws bs) (cond x (cut_arc s ∷ []) [])
    cut s h true e = (inr (record { source_in = h; word_end = listed-mem ws (get_or bs s []) e; reads_none = refl; writes-cut = refl; to-root = refl; no_penalty = refl }), tt)
    cut s h false e = tt

    both : (s : ℕ) → s < length bs → All (TreeArc ws bs) (arcs_of ws bs s (get_or bs s []))
    both s h =
        let letters = all_inl (letter_arcs bs s (get_or bs s []) 1 62) (letters_shape bs s h) in
        let back = cut s h (listed ws (get_or bs s [])) refl in
        search (all_append (TreeArc ws bs), letters, back)

-- the terminal states
pub ends_shape : (ws bs : List Word) → All (λ s. (s < length bs) × Memᴰ (get_or bs s []) ws) (table_on ws bs).terminals
ends_shape ws bs = all-by (λ s. (s < length bs) × Memᴰ (get_or bs s []) ws) (λ i b. cond (listed ws b) (i ∷ []) []) bs (λ s h. go s h (listed ws (get_or bs s [])) refl)
  where
    go : (s : ℕ) → s < length bs → (x : Bool) → listed ws (get_or bs s []) ≡ x → All (λ s. (s < length bs) × Memᴰ (get_or bs s []) ws) (cond x (s ∷ []) [])
    go s h true e = ((h, listed-mem ws (get_or bs s []) e), tt)
    go s h false e = tt

-- Their order.

pub letters-between : (bs : List Word) (i : ℕ) (b : Word) (k x : ℕ) → Between rank (i * 64 + x) (i * 64 + (x + k)) (letter_arcs bs i b x k)
unfolding letter_arcs
letters-between bs i b zero x = omega arith
letters-between bs i b (suc k) x =
    let e : suc x + k ≡ x + suc k = omega arith in
    between-append rank (letter_arc i x (place_from 0 (b ++ (x ∷ [])) bs)) (letter_arcs bs i b (suc x) k) (i * 64 + x) (i * 64 + suc x) (i * 64 + (x + suc k))
    (go (place_from 0 (b ++ (x ∷ [])) bs)) (subst (λ (z : ℕ). Between rank (i * 64 + suc x) (i * 64 + z) (letter_arcs bs i b (suc x) k)) e (letters-between bs i b k (suc x)))
  where
    go : (p : Option ℕ) → Between rank (i * 64 + x) (i * 64 + suc x) (letter_arc i x p)
    go none = omega arith
    go (some j) = (omega arith, omega arith)

-- those of a state and what comes behind them
pub state-between : (bs : List Word) (i : ℕ) (b : Word) (l : List Arc) → Between rank (i * 64 + 63) (suc i * 64) l
    → Between rank (i * 64) (suc i * 64) (letter_arcs bs i b 1 62 ++ l)
state-between bs i b l B =
    between-from rank (letter_arcs bs i b 1 62 ++ l) (i * 64) (i * 64 + 1) (suc i * 64) (omega arith)
    (between-append rank (letter_arcs bs i b 1 62) l (i * 64 + 1) (i * 64 + 63) (suc i * 64) (letters-between bs i b 62 1) B)

-- all arcs
pub arcs-between : (ws bs : List Word) → Between rank 0 (length bs * 64) (table_on ws bs).arcs
arcs-between ws bs =
    let e : (0 + length bs) * 64 ≡ length bs * 64 = omega arith in
    subst (λ (z : ℕ). Between rank 0 z (table_on ws bs).arcs) e
    (between-by rank (arcs_of ws bs) (λ s. s * 64) (λ i b. state-between bs i b (cond (listed ws b) (cut_arc i ∷ []) []) (cut i (listed ws b))) bs 0)
  where
    cut : (i : ℕ) (x : Bool) → Between rank (i * 64 + 63) (suc i * 64) (cond x (cut_arc i ∷ []) [])
    cut i true = (omega arith, omega arith)
    cut i false = omega arith
