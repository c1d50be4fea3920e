-- A list that earns neither 30 nor 31: whether it is taken, how many words it has then, and how many bytes.
use Prim.Native.Nat.{ℕ, ◌*◌, ◌≤◌, ◌<◌}
use native.Mathlib.Omega.{arith}
use mathlib.Core.Path.{◌≡◌, refl, sym, ap, subst, ◌∙◌}
use mathlib.Core.Logic.{◌⊎◌, inl, inr, ⊎_elim}
use mathlib.Core.Bool.{Bool, true, false}
use mathlib.Core.List.Memᴰ
use mathlib.Core.List.{List, [], ◌∷◌, ◌++◌, append_assoc, append-nil}
use lib.ListN.{length, length-append}
use lib.Dec.{leb}
use borrow.Author.Tests.{leb-true, leb-false}
use Rattle.refusal.specs.declared.InputCause.TheVariants.{StateLimit}
use Rattle.table_format.specs.Rules.{each}
use Rattle.table_format.proofs.Tests.{and_left, and_right}
use Rattle.table_format.proofs.Each.{each_append}
use Rattle.graph.specs.Lists.{Before}
use Rattle.graph.proofs.Lists.{most?}
use Rattle.lexicon.specs.Words.{Word, good_word, follows, list_holds}
use Rattle.lexicon.specs.Beginnings.{fresh, fresh_after, beginnings, RisingWords}
use Rattle.lexicon.specs.Lexicon.{spelled, most_states, words, turned_down, lexicon}
use Rattle.lexicon.specs.FirstBad.{Kept, crowds, FirstBad}
use Rattle.lexicon.proofs.Words.{word_test}
use Rattle.lexicon.proofs.Facts.{word-is, rises-is, list-is}
use Rattle.lexicon.proofs.Lexicon.{kept-none, kept_more, lexicon-complete, turned_down_lem}
use Rattle.lexicon.proofs.Comparing.{rises-more}
use Rattle.wordlist_sorted.specs.Sorted.{GoodWords}
use Rattle.wordlist_sorted.proofs.Growth.{fresh-length}

pub spelled-append : (xs ys : List Word) → spelled (xs ++ ys) ≡ spelled xs ++ spelled ys
spelled-append [] ys = refl
spelled-append (x ∷ xs) ys =
    ap (λ (l : List ℕ). length x ∷ l) (ap (λ (l : List ℕ). x ++ l) (spelled-append xs ys) ∙ sym (append_assoc x (spelled xs) (spelled ys)))

-- Taken, or turned down for its states: the earliest word with which there are too many.

crowded : (ws before : List Word) → Kept before → list_holds (before ++ ws) ≡ true → most_states < length (beginnings (before ++ ws))
    → FirstBad (spelled (before ++ ws)) StateLimit
unfolding each
crowded [] before K h l = absurd (omega (arith, K.few, ap (λ (vs : List Word). length (beginnings vs)) (append-nil before)))
crowded (w ∷ ws) before K h l = go (leb (length (beginnings (before ++ (w ∷ [])))) most_states) refl (λ L. crowded ws (before ++ (w ∷ [])) L)
  where
    passed : word_test before w ≡ true
    passed = and_left _ (each word_test (before ++ (w ∷ [])) ws) (and_right (list_holds before) _ (sym (each_append word_test [] before (w ∷ ws)) ∙ h))

    good : good_word w ≡ true
    good = and_left _ (follows before w) passed

    above : follows before w ≡ true
    above = and_right (good_word w) _ passed

    A : (before ++ (w ∷ [])) ++ ws ≡ before ++ (w ∷ ws)
    A = append_assoc before (w ∷ []) ws

    go : (b : Bool) → leb (length (beginnings (before ++ (w ∷ [])))) most_states ≡ b
        → (Kept (before ++ (w ∷ [])) → list_holds ((before ++ (w ∷ [])) ++ ws) ≡ true → most_states < length (beginnings ((before ++ (w ∷ [])) ++ ws))
        → FirstBad (spelled ((before ++ (w ∷ [])) ++ ws)) StateLimit)
        → FirstBad (spelled (before ++ (w ∷ ws))) StateLimit
    go true e G =
        subst (λ (vs : List Word). FirstBad (spelled vs) StateLimit) A
        (G (kept_more before w K good above (leb-true _ most_states e)) (ap list_holds A ∙ h) (omega (arith, ap (λ (vs : List Word). length (beginnings vs)) A)))
    go false e G =
        record { before = before; kept = K; rest = spelled (w ∷ ws); cut = spelled-append before (w ∷ ws); bad = crowds w (spelled ws) good above (leb-false _ most_states e) }

pub never_30_31 : (ws : List Word) → list_holds ws ≡ true
    → ((length (beginnings ws) ≤ most_states) × (lexicon (spelled ws) ≡ words ws)) ⊎ ((most_states < length (beginnings ws)) × (lexicon (spelled ws) ≡ turned_down StateLimit))
never_30_31 ws e =
    ⊎_elim (λ h. inl (h, lexicon-complete ws (record { holds = e; few = h })))
    (λ h. inr (h, (turned_down_lem (spelled ws) StateLimit).1 (crowded ws [] kept-none e h)))
    (most? (length (beginnings ws)) most_states)

-- Each word has a beginning of its own that is not the root's.

fresh-some : (p w : Word) → Before p w → 1 ≤ length (fresh [] p w)
fresh-some p w h = omega (arith, fresh-length p w, rises-more p w ((rises-is p w).1 h))

after_many : (ws : List Word) (p : Word) → RisingWords (p ∷ ws) → length ws ≤ length (fresh_after p ws)
after_many [] p R = omega arith
after_many (w ∷ ws) p R =
    omega (arith, length-append (fresh [] p w) (fresh_after w ws), fresh-some p w (R.0 w (Memᴰ.head refl)), after_many ws w R.1)

above-empty : (w : Word) → good_word w ≡ true → Before [] w
above-empty [] e = absurd (omega (arith, ((word-is []).0 e).0))
above-empty (x ∷ w) e = tt

pub words-few : (ws : List Word) → Kept ws → length ws < most_states
unfolding beginnings
words-few ws K =
    let L = (list-is ws).0 K.holds in
    omega (arith, K.few, after_many ws [] (λ w m. above-empty w (L.0 w m), L.1))

-- A length byte and at most 64 letters each.

bytes_most : (ws : List Word) → GoodWords ws → length (spelled ws) ≤ 65 * length ws
bytes_most [] g = omega arith
bytes_most (w ∷ ws) g =
    omega (arith, length-append w (spelled ws), ((word-is w).0 (g w (Memᴰ.head refl))).1, bytes_most ws (λ v m. g v (Memᴰ.tail m)))

pub list_bytes_lem : (ws : List Word) → Kept ws → length (spelled ws) ≤ 16575
list_bytes_lem ws K = omega (arith, bytes_most ws ((list-is ws).0 K.holds).0, words-few ws K)
