-- Words with 63 between tell the words: no letter of a listed word is 63.
use Prim.Native.Nat.{ℕ}
use native.Mathlib.Omega.{arith}
use mathlib.Core.Path.{◌≡◌, refl, sym, ap, ap₂, ◌∙◌}
use mathlib.Core.Bool.{true}
use mathlib.Core.List.{List, [], ◌∷◌, ◌++◌, cons≢nil}
use Rattle.table_format.proofs.Tests.{and_right}
use Rattle.table_format.proofs.All.{All}
use Rattle.lexicon.specs.Words.{Word, letter_holds, letters_hold, good_word}
use Rattle.lexicon.proofs.Words.{no_empty, letters, letter_in_lem}
use Rattle.segmentation.specs.Ways.{joined}

no_63 : (c b r : Word) → letters_hold c ≡ true → c ≡ b ++ (63 ∷ r) → ⊥
no_63 c b r h e = omega (arith, (letter_in_lem b r 63 (ap letters_hold (sym e) ∙ h)).1)

same-cut : (b c r s : Word) → letters_hold b ≡ true → letters_hold c ≡ true → b ++ (63 ∷ r) ≡ c ++ (63 ∷ s) → (b ≡ c) × (r ≡ s)
same-cut [] [] r s h k e = (refl, cc)
same-cut [] (y ∷ c) r s h k e = absurd (no_63 (y ∷ c) [] c k (cc))
same-cut (x ∷ b) [] r s h k e = absurd (no_63 (x ∷ b) [] b h (cc))
same-cut (x ∷ b) (y ∷ c) r s h k e =
    let f : x ≡ y = cc in
    let g : b ++ (63 ∷ r) ≡ c ++ (63 ∷ s) = cc in
    let R = same-cut b c r s (and_right (letter_holds x) _ h) (and_right (letter_holds y) _ k) g in
    (ap₂ (λ (u : ℕ) (v : Word). u ∷ v) f R.0, R.1)

-- a word that holds, and perhaps others after it, are some letters
some-letters : (b : Word) (z : List Word) → good_word b ≡ true → joined (b ∷ z) ≡ [] → ⊥
some-letters [] z h e = no_empty h
some-letters (x ∷ b) [] h e = cons≢nil e
some-letters (x ∷ b) (d ∷ z) h e = cons≢nil e

pub joined_injective : (z y : List Word) → All (λ w. good_word w ≡ true) z → All (λ w. good_word w ≡ true) y → joined z ≡ joined y → z ≡ y
joined_injective [] [] g h e = refl
joined_injective [] (c ∷ y) g h e = absurd (some-letters c y h.0 (sym e))
joined_injective (b ∷ z) [] g h e = absurd (some-letters b z g.0 e)
joined_injective (b ∷ []) (c ∷ []) g h e = ap (λ (w : Word). w ∷ []) e
joined_injective (b ∷ []) (c ∷ d ∷ y) g h e = absurd (no_63 b c (joined (d ∷ y)) (letters b g.0) e)
joined_injective (b ∷ d ∷ z) (c ∷ []) g h e = absurd (no_63 c b (joined (d ∷ z)) (letters c h.0) (sym e))
joined_injective (b ∷ d ∷ z) (c ∷ f ∷ y) g h e =
    let R = same-cut b c (joined (d ∷ z)) (joined (f ∷ y)) (letters b g.0) (letters c h.0) e in
    ap₂ (λ (u : Word) (v : List Word). u ∷ v) R.0 (joined_injective (d ∷ z) (f ∷ y) g.1 h.1 R.1)
