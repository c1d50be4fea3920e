-- The word of a line: where it is one, that it is no other, and that it is good for a list.
use Prim.Native.Nat.{ℕ, ◌<◌}
use native.Mathlib.Omega.{arith}
use mathlib.Core.Path.{◌≡◌, refl, sym, ap, ap₂, subst, ◌∙◌}
use mathlib.Core.Logic.{◌⊎◌, inl, inr}
use mathlib.Core.Bool.{true, false, true≢false}
use mathlib.Core.List.{List, [], ◌∷◌, ◌++◌, Memᴰ}
use lib.ListN.{length, drop, length-append}
use lib.Seq.{drop-append_seam}
use Rattle.utf8.specs.Utf8.{encoded, character_in}
use Rattle.utf8.proofs.Bytes.{scalar-tells}
use Rattle.utf8.proofs.Front.{encoding_read}
use Rattle.utf8.proofs.Headlines.{encoded-sizes}
use Rattle.alphabet.specs.Letters.{letter_of}
use Rattle.lexicon.specs.Words.{Word, good_word}
use Rattle.wordlist_lines.specs.Lines.{lines_in, trimmed, passed_over, Line, mark_size, held_lines}
use Rattle.wordlist_lines.proofs.Headlines.{held-are}
use Rattle.std.specs.Prelude.{Some, None}
use Rattle.wordlist_spelling.specs.declared.FaultKind.TheVariants.{NoLetter, TooLong}
use Rattle.wordlist_spelling.specs.Spelled.{Ending, spelled}
use Rattle.wordlist_spelling.specs.Facts.{Spells}
use Rattle.wordlist_spelling.proofs.Headlines.{word-whole, whole-good}
use Rattle.wordlist.specs.Facts.{IsWord, word_of, NoWord}

-- A line by how its letters end.

module _ (l : Line) where
  abbrev ending : Ending
  ending = (spelled l.text).ending

  pub whole_word : ending ≡ None → IsWord l (word_of l)
  whole_word e = (word-whole l.text (word_of l)).0 (e, refl)

  pub word-ends : (w : Word) → IsWord l w → ending ≡ None
  word-ends w h = ((word-whole l.text w).1 h).0

  pub fault_no_word : (ws : List Word) → (ending ≡ Some NoLetter) ⊎ (ending ≡ Some TooLong) → NoWord l ws
  fault_no_word ws (inl e) w h = let f = word-ends w h in let z : ◌≡◌ {A = ℕ} 0 1 = cc in omega arith
  fault_no_word ws (inr e) w h = let f = word-ends w h in let z : ◌≡◌ {A = ℕ} 0 1 = cc in omega arith

  pub no_word-fault : (ws : List Word) → NoWord l ws → (ending ≡ Some NoLetter) ⊎ (ending ≡ Some TooLong)
  no_word-fault ws n = go ending refl
    where
      go : (e : Ending) → ending ≡ e → (ending ≡ Some NoLetter) ⊎ (ending ≡ Some TooLong)
      go None e = absurd (n (word_of l) (whole_word e))
      go (Some NoLetter) e = inl e
      go (Some TooLong) e = inr e

-- Characters spell one word at most.

some_bytes : (c : ℕ) (rest : List ℕ) → encoded c ++ rest ≡ [] → ⊥
some_bytes c rest e = omega (arith, (encoded-sizes c).0, ap length e, length-append (encoded c) rest)

pub spells_one : {w bytes : List ℕ} → Spells w bytes → {v other : List ℕ} → Spells v other → other ≡ bytes → v ≡ w
spells_one Spells.none Spells.none e = refl
spells_one Spells.none (Spells.one d {w = v} {bytes = rest} t k q) e = absurd (some_bytes d rest e)
spells_one (Spells.one c {w} {bytes} s h p) Spells.none e = absurd (some_bytes c bytes (sym e))
spells_one (Spells.one c {w} {bytes} s h p) (Spells.one d {w = v} {bytes = rest} t k q) e =
    let a = encoding_read c bytes s in
    let b = encoding_read d rest t in
    let f = ap character_in e in
    let same : d ≡ c = (scalar-tells d (length (encoded d)) c (length (encoded c)) (sym b ∙ f ∙ a)).0 in
    let left : rest ≡ bytes =
    sym (drop-append_seam (encoded d) rest) ∙ ap₂ (λ (x : ℕ) (l : List ℕ). drop (length (encoded x)) l) same e ∙ drop-append_seam (encoded c) bytes in
    ap₂ (λ (x : ℕ) (l : List ℕ). letter_of x ∷ l) same (spells_one p q left)

-- A line of a text holds something, so that its word is good.

not-empty : (l : List ℕ) → passed_over l ≡ false → 0 < length l
not-empty [] e = absurd (true≢false e)
not-empty (c ∷ l) e = omega arith

pub held-some : (text : List ℕ) (l : Line) → Memᴰ l (held_lines text) → 0 < length l.text
unfolding held_lines
held-some text l m =
    let H = (held-are 1 (lines_in (drop (mark_size text) text)) l).0 m in
    subst (λ (t : List ℕ). 0 < length t) (sym H.text-is) (not-empty (trimmed H.line) H.holds)

pub held-good : (text : List ℕ) (l : Line) → Memᴰ l (held_lines text) → IsWord l (word_of l) → good_word (word_of l) ≡ true
held-good text l m h = whole-good l.text (held-some text l m) (word-ends l (word_of l) h)
