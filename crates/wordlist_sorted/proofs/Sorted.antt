-- A word put in its place: which words are there then, and that they rise; the same word after word.
use Prim.Native.Nat.{◌+◌}
use native.Mathlib.Omega.{arith}
use mathlib.Core.Path.{◌≡◌, refl, sym, ap, subst, ◌∙◌}
use mathlib.Core.Logic.{◌↔◌, ◌⊎◌, inl, inr, ⊎_elim}
use mathlib.Core.Bool.{Bool, true, false, cond, true≢false}
use mathlib.Core.List.Memᴰ
use mathlib.Core.List.{List, [], ◌∷◌, Memᴰ}
use lib.ListN.{length, length-append}
use Rattle.graph.specs.Lists.{Before, Distinct}
use Rattle.graph.proofs.Lists.{before_trans, before-both}
use Rattle.graph.proofs.Sorted.{sorted_unique}
use Rattle.lexicon.specs.Words.{Word, good_word, rises, list_holds}
use Rattle.lexicon.specs.Beginnings.{RisingWords}
use Rattle.lexicon.specs.Lexicon.{spelled}
use Rattle.lexicon.proofs.Facts.{rises-is, not-above, list-is}
use Rattle.lexicon.proofs.Beginnings.{rising-distinct}
use Rattle.wordlist_sorted.specs.Sorted.{inserted, sorted_onto, sorted, GoodWords}

-- two words of which neither is above the other are the same
pub neither-same : (v w : Word) → rises v w ≡ false → rises w v ≡ false → w ≡ v
neither-same v w e f = ⊎_elim (λ s. s) (λ b. absurd (true≢false (sym ((rises-is w v).1 b) ∙ f))) (not-above v w e)

mem-first : (v w : Word) (ws : List Word) → Memᴰ v (w ∷ ws) ↔ ((v ≡ w) ⊎ Memᴰ v ws)
mem-first v w ws = (λ m. Memᴰ.cases_cons m, λ h. ⊎_elim (λ e. Memᴰ.head e) (λ m. Memᴰ.tail m) h)

pub inserted-members : (w v : Word) (ws : List Word) → Memᴰ v (inserted w ws) ↔ ((v ≡ w) ⊎ Memᴰ v ws)
unfolding inserted
inserted-members w v [] = mem-first v w []
inserted-members w v (u ∷ ws) = go (rises u w) (rises w u) refl refl (inserted-members w v ws)
  where
    go : (a b : Bool) → rises u w ≡ a → rises w u ≡ b → Memᴰ v (inserted w ws) ↔ ((v ≡ w) ⊎ Memᴰ v ws)
        → Memᴰ v (cond a (u ∷ inserted w ws) (cond b (w ∷ u ∷ ws) (u ∷ ws))) ↔ ((v ≡ w) ⊎ Memᴰ v (u ∷ ws))
    go true b p q G = (
      λ m. ⊎_elim (λ e. inr (Memᴰ.head e)) (λ k. ⊎_elim inl (λ j. inr (Memᴰ.tail j)) (G.0 k)) (Memᴰ.cases_cons m),
      λ h. ⊎_elim (λ e. Memᴰ.tail (G.1 (inl e))) (λ m. ⊎_elim (λ e. Memᴰ.head e) (λ j. Memᴰ.tail (G.1 (inr j))) (Memᴰ.cases_cons m)) h,
    )
    go false true p q G = mem-first v w (u ∷ ws)
    go false false p q G = (inr, λ h. ⊎_elim (λ e. Memᴰ.head (e ∙ neither-same u w p q)) (λ m. m) h)

pub inserted-rises : (w : Word) (ws : List Word) → RisingWords ws → RisingWords (inserted w ws)
unfolding inserted
inserted-rises w [] R = (λ c m. absurd (Memᴰ.not-nil m), tt)
inserted-rises w (u ∷ ws) R = go (rises u w) (rises w u) refl refl (inserted-rises w ws R.1)
  where
    go : (a b : Bool) → rises u w ≡ a → rises w u ≡ b → RisingWords (inserted w ws) → RisingWords (cond a (u ∷ inserted w ws) (cond b (w ∷ u ∷ ws) (u ∷ ws)))
    go true b p q G = (λ c m. ⊎_elim (λ e. subst (Before u) (sym e) ((rises-is u w).0 p)) (R.0 c) ((inserted-members w c ws).0 m), G)
    go false true p q G =
        let h : Before w u = (rises-is w u).0 q in
        (λ c m. ⊎_elim (λ e. subst (Before w) (sym e) h) (λ k. before_trans w u c h (R.0 c k)) (Memᴰ.cases_cons m), R)
    go false false p q G = R

pub inserted-holds : (w : Word) (ws : List Word) → good_word w ≡ true → list_holds ws ≡ true → list_holds (inserted w ws) ≡ true
inserted-holds w ws g e =
    let L = (list-is ws).0 e in
    (list-is (inserted w ws)).1
    (λ v m. ⊎_elim (λ s. subst (λ (u : Word). good_word u ≡ true) (sym s) g) (L.0 v) ((inserted-members w v ws).0 m), inserted-rises w ws L.1)

-- how many words and bytes there are then
pub inserted-grows : (w : Word) (ws : List Word)
    → (inserted w ws ≡ ws) ⊎ ((length (inserted w ws) ≡ length ws + 1) × (length (spelled (inserted w ws)) ≡ length (spelled ws) + 1 + length w))
unfolding inserted
inserted-grows w [] = inr (refl, omega (arith, length-append w []))
inserted-grows w (u ∷ ws) = go (rises u w) (rises w u) (inserted-grows w ws)
  where
    go : (a b : Bool) → (inserted w ws ≡ ws) ⊎ ((length (inserted w ws) ≡ length ws + 1) × (length (spelled (inserted w ws)) ≡ length (spelled ws) + 1 + length w))
        → (cond a (u ∷ inserted w ws) (cond b (w ∷ u ∷ ws) (u ∷ ws)) ≡ u ∷ ws)
        ⊎ ((length (cond a (u ∷ inserted w ws) (cond b (w ∷ u ∷ ws) (u ∷ ws))) ≡ length (u ∷ ws) + 1)
        × (length (spelled (cond a (u ∷ inserted w ws) (cond b (w ∷ u ∷ ws) (u ∷ ws)))) ≡ length (spelled (u ∷ ws)) + 1 + length w))
    go true b (inl e) = inl (ap (λ (vs : List Word). u ∷ vs) e)
    go true b (inr G) = inr (omega (arith, G.0), omega (arith, G.1, length-append u (spelled (inserted w ws)), length-append u (spelled ws)))
    go false true G = inr (omega arith, omega (arith, length-append w (spelled (u ∷ ws))))
    go false false G = inl refl

-- Word after word.

onto-rises : (vs ws : List Word) → RisingWords ws → RisingWords (sorted_onto ws vs)
onto-rises [] ws R = R
onto-rises (v ∷ vs) ws R = onto-rises vs (inserted v ws) (inserted-rises v ws R)

onto-members : (w : Word) (vs ws : List Word) → Memᴰ w (sorted_onto ws vs) ↔ (Memᴰ w ws ⊎ Memᴰ w vs)
onto-members w [] ws = (inl, λ h. ⊎_elim (λ m. m) (λ m. absurd (Memᴰ.not-nil m)) h)
onto-members w (v ∷ vs) ws =
    let G = onto-members w vs (inserted v ws) in
    let I = inserted-members v w ws in (
      λ m. ⊎_elim (λ k. ⊎_elim (λ e. inr (Memᴰ.head e)) inl (I.0 k)) (λ k. inr (Memᴰ.tail k)) (G.0 m),
      λ h. G.1 (⊎_elim (λ m. inl (I.1 (inr m))) (λ m. ⊎_elim (λ e. inl (I.1 (inl e))) inr (Memᴰ.cases_cons m)) h),
    )

pub sorted_rises : (vs : List Word) → RisingWords (sorted vs)
unfolding sorted
sorted_rises vs = onto-rises vs [] tt

pub sorted-members : (w : Word) (vs : List Word) → Memᴰ w (sorted vs) ↔ Memᴰ w vs
unfolding sorted
sorted-members w vs =
    let G = onto-members w vs [] in (λ m. ⊎_elim (λ k. absurd (Memᴰ.not-nil k)) (λ k. k) (G.0 m), λ m. G.1 (inr m))

pub sorted-once : (vs : List Word) → Distinct (sorted vs)
sorted-once vs = rising-distinct (sorted vs) (sorted_rises vs)

pub sorted-only : (vs us : List Word) → RisingWords us → ((w : Word) → Memᴰ w us ↔ Memᴰ w vs) → us ≡ sorted vs
sorted-only vs us R h =
    sorted_unique Before before-both RisingWords (λ b l S. S) us (sorted vs) R (sorted_rises vs)
    (λ w. (λ m. (sorted-members w vs).1 ((h w).0 m), λ m. (h w).1 ((sorted-members w vs).0 m)))

pub sorted-holds : (vs : List Word) → GoodWords vs → list_holds (sorted vs) ≡ true
sorted-holds vs g = (list-is (sorted vs)).1 (λ w m. g w ((sorted-members w vs).0 m), sorted_rises vs)
