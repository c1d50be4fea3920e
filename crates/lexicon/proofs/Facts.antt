-- What a word and a list of words keep to, as facts.
use Prim.Native.Nat.{ℕ, ◌≤◌}
use native.Mathlib.Omega.{arith}
use mathlib.Core.Path.{◌≡◌, refl, sym, ap, ap₂, ◌∙◌}
use mathlib.Core.Logic.{◌↔◌, ◌⊎◌, inl, inr, ⊎_elim}
use mathlib.Core.Bool.{Bool, true, false, ◌&&◌, true≢false}
use mathlib.Core.List.{List, [], ◌∷◌, ◌++◌, Memᴰ}
use lib.Dec.{eqb, leb, ltb}
use lib.ListN.{length}
use borrow.Author.Tests.{leb-true, le-leb, lt-ltb, ltb-false, eq-eqb}
use Rattle.table_format.specs.Rules.{each}
use Rattle.table_format.proofs.Tests.{and_left, and_right, and_both, or_left, or_right, neither}
use Rattle.table_format.proofs.All.{All}
use Rattle.table_format.proofs.Each.{last_snoc}
use Rattle.graph.specs.Lists.{Before}
use Rattle.graph.proofs.Lists.{most?}
use Rattle.lexicon.specs.Words.{Word, letter_holds, letters_hold, good_word, rises, follows, list_holds}
use Rattle.lexicon.specs.Beginnings.{RisingWords}
use Rattle.lexicon.proofs.Words.{rises-before, word_test, mem-holds}
use Rattle.lexicon.proofs.Beginnings.{Climbs, climbs-rise}

-- a letter of a listed word
abbrev pub ListedLetter : ℕ → Type 0
ListedLetter x = (1 ≤ x) × (x ≤ 62)

letters-are : (w : Word) → (letters_hold w ≡ true) ↔ All ListedLetter w
letters-are [] = (λ e. tt, λ a. refl)
letters-are (x ∷ w) = (
  λ e. let f = and_left (letter_holds x) _ e in ((leb-true 1 x (and_left _ _ f), leb-true x 62 (and_right (leb 1 x) _ f)), (letters-are w).0 (and_right (letter_holds x) _ e)),
  λ a. and_both (and_both (le-leb 1 x a.0.0) (le-leb x 62 a.0.1)) ((letters-are w).1 a.1),
)

pub word-is : (w : Word) → (good_word w ≡ true) ↔ ((1 ≤ length w) × (length w ≤ 64) × All ListedLetter w)
word-is w = (
  λ e. let f = and_left (leb 1 (length w) && leb (length w) 64) _ e in
      (leb-true 1 (length w) (and_left _ _ f), leb-true (length w) 64 (and_right (leb 1 (length w)) _ f), (letters-are w).0 (and_right (leb 1 (length w) && leb (length w) 64) _ e)),
  λ h. and_both (and_both (le-leb 1 (length w) h.0) (le-leb (length w) 64 h.1)) ((letters-are w).1 h.2),
)

before-rises : (u v : Word) → Before u v → rises u v ≡ true
before-rises [] [] h = absurd h
before-rises [] (y ∷ v) h = refl
before-rises (x ∷ u) [] h = absurd h
before-rises (x ∷ u) (y ∷ v) (inl h) = or_left (ltb x y) _ (lt-ltb x y h)
before-rises (x ∷ u) (y ∷ v) (inr h) = or_right (ltb x y) _ (and_both (eq-eqb x y h.0) (before-rises u v h.1))

pub rises-is : (u v : Word) → (rises u v ≡ true) ↔ Before u v
rises-is u v = (rises-before u v, before-rises u v)

-- a word that is not above another is that word or stands before it
pub not-above : (v w : Word) → rises v w ≡ false → (w ≡ v) ⊎ Before w v
not-above [] [] e = inl refl
not-above [] (y ∷ w) e = absurd (true≢false e)
not-above (x ∷ v) [] e = inr tt
not-above (x ∷ v) (y ∷ w) e =
    ⊎_elim (λ l. same (omega (arith, l, ltb-false x y N.0)) (λ f. not-above v w f)) (λ l. inr (inl l)) (most? x y)
  where
    N : (ltb x y ≡ false) × ((eqb x y && rises v w) ≡ false)
    N = neither (ltb x y) _ e

    same : x ≡ y → (rises v w ≡ false → (w ≡ v) ⊎ Before w v) → (y ∷ w ≡ x ∷ v) ⊎ Before (y ∷ w) (x ∷ v)
    same s G =
        ⊎_elim (λ d. inl (ap₂ (λ (a : ℕ) (l : Word). a ∷ l) (sym s) d)) (λ d. inr (inr (sym s, d))) (G (sym (ap (λ b. b && rises v w) (eq-eqb x y s)) ∙ N.1))

-- each word after p is above the one before it
words_climb : (ws before : List Word) (p : Word) → each word_test (before ++ (p ∷ [])) ws ≡ true → Climbs p ws
unfolding each
words_climb [] before p e = tt
words_climb (w ∷ ws) before p e =
    let t : Bool = word_test (before ++ (p ∷ [])) w in
    (rises-before p w (sym (last_snoc (λ v. rises v w) before p) ∙ and_right (good_word w) _ (and_left t _ e)), words_climb ws (before ++ (p ∷ [])) w (and_right t _ e))

rising : (ws : List Word) → list_holds ws ≡ true → RisingWords ws
unfolding each
rising [] e = tt
rising (w ∷ ws) e = climbs-rise w ws (words_climb ws [] w (and_right (word_test [] w) _ e))

holds-rising : (ws before : List Word) → ((w : Word) → Memᴰ w ws → good_word w ≡ true) → RisingWords ws → ((w : Word) → Memᴰ w ws → follows before w ≡ true)
    → each word_test before ws ≡ true
unfolding each
holds-rising [] before g R f = refl
holds-rising (w ∷ ws) before g R f =
    and_both (and_both (g w (Memᴰ.head refl)) (f w (Memᴰ.head refl)))
    (holds-rising ws (before ++ (w ∷ [])) (λ v m. g v (Memᴰ.tail m)) R.1 (λ v m. last_snoc (λ u. rises u v) before w ∙ before-rises w v (R.0 v m)))

-- a list earns neither 30 nor 31 exactly where its words are good and rise
pub list-is : (ws : List Word) → (list_holds ws ≡ true) ↔ (((w : Word) → Memᴰ w ws → good_word w ≡ true) × RisingWords ws)
list-is ws = (λ e. (mem-holds ws e, rising ws e), λ h. holds-rising ws [] h.0 h.1 (λ w m. refl))
