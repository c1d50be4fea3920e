-- The reading of a way, as it is shown: its words' letters in their small forms, with `|` between.
use Prim.Native.Nat.{ℕ}
use native.Mathlib.Omega.{arith}
use mathlib.Core.Path.{◌≡◌, refl, ap, ap₂, subst, ◌∙◌}
use mathlib.Core.Bool.{true}
use mathlib.Core.List.{List, [], ◌∷◌, ◌++◌, map, map-append}
use Rattle.table_format.proofs.All.{All}
use Rattle.utf8.specs.Utf8.{is_scalar, encoded}
use Rattle.alphabet.specs.Letters.{letter_count, smalls, small_of, Known}
use Rattle.alphabet.specs.Shown.{face_table, code_shown, shown_as, shown}
use Rattle.alphabet.proofs.Places.{same_from}
use Rattle.alphabet.proofs.Headlines.{letter_of-small, shown-append}
use Rattle.faces.specs.Faces.{face_of}
use Rattle.lexicon.specs.Words.{Word}
use Rattle.segmentation.specs.Ways.{joined, together}
use Rattle.trie_format.specs.Trie.{cut_letter}
use Rattle.wordlist_spelling.specs.Facts.{Spells}
use Rattle.key_ways.specs.Printed.{word_text, way_text}

-- its face is shown as its small form
pub letter-shown : (l : ℕ) → Known l → shown_as (face_of face_table l) ≡ encoded (small_of l)
unfolding shown_as code_shown face_table encoded small_of smalls
letter-shown l k = same_from (λ i. shown_as (face_of face_table i)) (λ i. encoded (small_of i)) 1 letter_count refl l k.0 (omega arith)

-- and the cut's as `|`
pub cut-shown : shown_as (face_of face_table cut_letter) ≡ 124 ∷ []
unfolding shown_as code_shown face_table
cut-shown = refl

pub word-shown : (u : Word) → All Known u → shown (map (face_of face_table) u) ≡ word_text u
unfolding shown
word-shown [] k = refl
word-shown (l ∷ u) k = ap₂ ◌++◌ (letter-shown l k.0) (word-shown u k.1)

pub way-shown : (z : List Word) → All (All Known) z → shown (map (face_of face_table) (joined z)) ≡ way_text z
unfolding shown
way-shown [] k = refl
way-shown (u ∷ []) k = word-shown u k.0
way-shown (u ∷ v ∷ z) k =
    ap shown (map-append (face_of face_table) u (cut_letter ∷ joined (v ∷ z)))
    ∙ shown-append (map (face_of face_table) u) _
    ∙ ap₂ ◌++◌ (word-shown u k.0) (ap₂ ◌++◌ cut-shown (way-shown (v ∷ z) k.1))

-- the words that make a word have its letters
module _ (P : ℕ → Type 0) where
  all-parts : (u v : Word) → All P (u ++ v) → All P u × All P v
  all-parts [] v p = (tt, p)
  all-parts (x ∷ u) v p = let q = all-parts u v p.1 in ((p.0, q.0), q.1)

  pub words-letters : (z : List Word) → All P (together z) → All (All P) z
  words-letters [] p = tt
  words-letters (u ∷ z) p = let q = all-parts u (together z) p in (q.0, words-letters z q.1)

-- what is printed of a word spells it
small_scalar : (l : ℕ) → Known l → is_scalar (small_of l) ≡ true
unfolding small_of smalls
small_scalar l k = same_from (λ i. is_scalar (small_of i)) (λ i. true) 1 letter_count refl l k.0 (omega arith)

pub text-spells : (u : Word) → All Known u → Spells u (word_text u)
text-spells [] k = Spells.none
text-spells (l ∷ u) k =
    let own = letter_of-small l k.0.0 k.0.1 in
    subst (λ (x : ℕ). Spells (x ∷ u) (word_text (l ∷ u))) own (Spells.one (small_of l) (small_scalar l k.0) (omega arith) (text-spells u k.1))
