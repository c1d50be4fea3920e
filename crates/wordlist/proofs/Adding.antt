-- A line's word in its place: what the code has in hand at each way that this ends.
use Prim.Native.Nat.{ℕ, ◌+◌, ◌≤◌, ◌<◌}
use native.Mathlib.Omega.{arith}
use mathlib.Core.Path.{◌≡◌, sym, ap, subst, ◌∙◌}
use mathlib.Core.Logic.{◌⊎◌, inl, inr, ⊎_elim}
use Rattle.std.specs.Prelude.{Some, None, Result, Ok, Err, is_ok}
use mathlib.Core.Bool.{Bool, true, false}
use mathlib.Core.List.{List}
use lib.Dec.{leb}
use lib.ListN.{length, take}
use borrow.Author.Tests.{le-leb, lt-leb, leb-true, leb-false}
use Rattle.lexicon.specs.Check.{listing}
use Rattle.lexicon.specs.Words.{Word, list_holds}
use Rattle.lexicon.specs.Beginnings.{beginnings}
use Rattle.lexicon.specs.Lexicon.{most_states, words, turned_down, lexicon}
use Rattle.lexicon.specs.Lexicon as lexicon
use Rattle.lexicon.specs.FirstBad.{Kept}
use Rattle.refusal.specs.declared.InputCause.{InputCause}
use Rattle.wordlist_spelling.specs.declared.FaultKind.{FaultKind}
use Rattle.wordlist_spelling.specs.declared.FaultKind.TheVariants.{NoLetter, TooLong}
use Rattle.wordlist_spelling.specs.declared.Fault.{Fault}
use Rattle.wordlist_spelling.specs.Spelled.{most_letters, spelled, SpelledIs}
use Rattle.wordlist_spelling.proofs.Headlines.{letters-few, whole-good, word-front, told-whole, told-fault}
use Rattle.wordlist_sorted.specs.Sorted.{inserted}
use Rattle.wordlist_sorted.specs.Placed.{list_bytes, Holds}
use Rattle.wordlist_sorted.proofs.Headlines.{inserted-holds, never_30_31, list_bytes_lem}
use Rattle.wordlist_sorted.proofs.Storing.{used_words}

-- The check of a list that earns neither 30 nor 31 tells whether it has few enough states.

module _ (ws : List Word) (l : List ℕ) (r : Result ℕ InputCause) (is : r ≡ listing (lexicon.lexicon l)) (e : l ≡ lexicon.spelled ws) (h : list_holds ws ≡ true) where
  told : (f : lexicon.Lexicon) → lexicon.lexicon (lexicon.spelled ws) ≡ f → r ≡ listing f
  told f q = is ∙ ap (λ (x : List ℕ). listing (lexicon.lexicon x)) e ∙ ap listing q

  pub states-told : is_ok r ≡ leb (length (beginnings ws)) most_states
  states-told =
      ⊎_elim (λ F. ap is_ok (told _ F.1) ∙ sym (le-leb _ _ F.0)) (λ F. ap is_ok (told _ F.1) ∙ sym (lt-leb _ _ F.0)) (never_30_31 ws h)

-- A line that is no word.

pub fault_ends : (line : List ℕ) (fault : Fault) (word₀ word : List ℕ) → SpelledIs line (Err fault) word₀ word
    → ((spelled line).ending ≡ Some NoLetter) ⊎ ((spelled line).ending ≡ Some TooLong)
fault_ends line fault word₀ word S = go fault.kind (told-fault line fault word₀ word S).0
  where
    go : (k : FaultKind) → (spelled line).ending ≡ Some k → ((spelled line).ending ≡ Some NoLetter) ⊎ ((spelled line).ending ≡ Some TooLong)
    go NoLetter e = inl e
    go TooLong e = inr e

-- A word that the code spelled, after words that are kept.

module _ (line : List ℕ) (n : ℕ) (word₀ word : List ℕ) (S : SpelledIs line (Ok n) word₀ word) (room : length word₀ ≡ most_letters) where
  pub word-inside : n ≤ length word
  word-inside = let F = word-front line (Ok n) word₀ word S room in omega (arith, F.1, (told-whole line n word₀ word S).1, letters-few line)

  pub word-is : take n word ≡ (spelled line).letters
  word-is = (word-front line (Ok n) word₀ word S room).0

  pub word-length : n ≡ length (take n word)
  word-length = (told-whole line n word₀ word S).1 ∙ sym (ap length word-is)

  pub ends : (spelled line).ending ≡ None
  ends = (told-whole line n word₀ word S).0

  -- it has room in the list
  pub fits_in : (bytes : ℕ) (ws : List Word) → Kept ws → bytes ≡ length (lexicon.spelled ws)
      → (bytes + 1 + length (take n word) ≤ list_bytes) × (length (take n word) ≤ 64)
  fits_in bytes ws K e =
      let size : length (take n word) ≤ 64 = subst (λ (l : List ℕ). length l ≤ 64) (sym word-is) (letters-few line) in (omega (arith, list_bytes_lem ws K), size)

  module _ (some : 0 < length line) (before : List ℕ) (ws : List Word) (K : Kept ws) (list : List ℕ) (grown : ℕ)
      (I : (grown ≡ length (lexicon.spelled (inserted (take n word) ws))) × Holds (inserted (take n word) ws) before list)
      (fits : Bool) (F : (vs : List Word) → take grown list ≡ lexicon.spelled vs → list_holds vs ≡ true → fits ≡ leb (length (beginnings vs)) most_states) where
    abbrev w : Word
    w = (spelled line).letters

    same : inserted (take n word) ws ≡ inserted w ws
    same = ap (λ (v : Word). inserted v ws) word-is

    pub holds_then : Holds (inserted w ws) before list
    holds_then = subst (λ (vs : List Word). Holds vs before list) same I.1

    pub size-then : grown ≡ length (lexicon.spelled (inserted w ws))
    size-then = I.0 ∙ ap (λ (vs : List Word). length (lexicon.spelled vs)) same

    tested : fits ≡ leb (length (beginnings (inserted w ws))) most_states
    tested = F (inserted w ws) (used_words (inserted w ws) before list holds_then grown size-then) (inserted-holds w ws (whole-good line some ends) K.holds)

    pub few-then : fits ≡ true → length (beginnings (inserted w ws)) ≤ most_states
    few-then t = leb-true _ _ (sym tested ∙ t)

    pub many_then : fits ≡ false → most_states < length (beginnings (inserted w ws))
    many_then t = leb-false _ _ (sym tested ∙ t)
