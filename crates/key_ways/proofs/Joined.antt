-- The reading of a way: its length, its letters, and the word that it tells.
use Prim.Native.Nat.{ℕ, ◌-◌, ◌*◌, ◌≤◌}
use native.Mathlib.Omega.{arith}
use mathlib.Core.Path.{◌≡◌, refl, sym, ap, ◌∙◌}
use mathlib.Core.Bool.{Bool, true, cond}
use mathlib.Core.List.{List, [], ◌∷◌, ◌++◌, append-nil}
use lib.Dec.{leb, ltb}
use lib.ListN.{length, length-append}
use borrow.Author.Tests.{leb-true, le-leb, lt-ltb}
use Rattle.table_format.proofs.All.{All}
use Rattle.table_format.proofs.Tests.{and_left, and_right, and_both}
use Rattle.graph.specs.Lists.{keep}
use Rattle.faces.specs.Lent.{every, is_letter}
use Rattle.faces.proofs.Lent.{every_append}
use Rattle.lexicon.specs.Words.{Word, letter_holds, letters_hold, good_word}
use Rattle.lexicon.proofs.Words.{letters}
use Rattle.trie_format.specs.Trie.{cut_letter}
use Rattle.segmentation.specs.Ways.{joined, together}

-- a letter that is not 63, and the letters of a reading that are not
abbrev pub is_own : ℕ → Bool
is_own x = ltb x cut_letter

abbrev pub uncut : Word → Word
uncut = keep is_own

some-letters : (b : Word) → good_word b ≡ true → 1 ≤ length b
some-letters b h = leb-true _ _ (and_left _ _ (and_left _ _ h))

-- at most a cut before each letter but the first
pub joined_length : (z : List Word) → All (λ b. good_word b ≡ true) z → length (joined z) ≤ 2 * length (together z) - 1
joined_length [] h = omega arith
joined_length (b ∷ []) h = let k = some-letters b h.0 in omega (arith, length-append b [])
joined_length (b ∷ d ∷ z) h =
    let k = some-letters b h.0 in
    let l = some-letters d h.1.0 in
    omega (arith, joined_length (d ∷ z) h.1, length-append b (cut_letter ∷ joined (d ∷ z)), length-append b (together (d ∷ z)), length-append d (together z))

word-letters : (b : Word) → letters_hold b ≡ true → every is_letter b ≡ true
word-letters [] h = refl
word-letters (x ∷ b) h =
    let f = and_left (letter_holds x) _ h in
    let k : x ≤ 62 = leb-true _ _ (and_right (leb 1 x) _ f) in
    and_both (and_both (and_left (leb 1 x) _ f) (le-leb x 63 (omega arith))) (word-letters b (and_right (letter_holds x) _ h))

-- letters 1 to 63
pub joined_letters_lem : (z : List Word) → All (λ b. good_word b ≡ true) z → every is_letter (joined z) ≡ true
joined_letters_lem [] h = refl
joined_letters_lem (b ∷ []) h = word-letters b (letters b h.0)
joined_letters_lem (b ∷ d ∷ z) h =
    every_append is_letter b (cut_letter ∷ joined (d ∷ z)) ∙ and_both (word-letters b (letters b h.0)) (joined_letters_lem (d ∷ z) h.1)

uncut-word : (b r : Word) → letters_hold b ≡ true → uncut (b ++ r) ≡ b ++ uncut r
uncut-word [] r h = refl
uncut-word (x ∷ b) r h =
    let k : x ≤ 62 = leb-true _ _ (and_right (leb 1 x) _ (and_left (letter_holds x) _ h)) in
    ap (λ (t : Bool). cond t (x ∷ uncut (b ++ r)) (uncut (b ++ r))) (lt-ltb x 63 (omega arith))
    ∙ ap (λ (l : Word). x ∷ l) (uncut-word b r (and_right (letter_holds x) _ h))

-- without 63 it is the word that was cut
pub joined-uncut : (z : List Word) → All (λ b. good_word b ≡ true) z → uncut (joined z) ≡ together z
joined-uncut [] h = refl
joined-uncut (b ∷ []) h = ap uncut (sym (append-nil b)) ∙ uncut-word b [] (letters b h.0)
joined-uncut (b ∷ d ∷ z) h = uncut-word b (cut_letter ∷ joined (d ∷ z)) (letters b h.0) ∙ ap (λ (l : Word). b ++ l) (joined-uncut (d ∷ z) h.1)
