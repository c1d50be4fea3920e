-- Document 02, word lists: "A bad word gives 30, a repeat or a fall in the order 31, more than 256 states 32, at the earliest such word and in that
-- order". The same as in Lexicon, as facts: which lists are taken, and which bytes earn a refusal.
use Rattle.std.specs.Prelude.{ℕ, ◌≤◌, ◌<◌, ◌≡◌, true, false, List, [], ◌∷◌, ◌++◌, length}
use Rattle.refusal.specs.declared.InputCause.{InputCause}
use Rattle.refusal.specs.declared.InputCause.TheVariants.{ListedWord, WordOrder, StateLimit}
use Rattle.lexicon.specs.Words.{Word, good_word, follows, list_holds}
use Rattle.lexicon.specs.Beginnings.{beginnings}
use Rattle.lexicon.specs.Lexicon.{spelled, most_states}

-- a list that earns no refusal
pub record Kept (ws : List Word) : Type 0 where
  pub holds : list_holds ws ≡ true
  pub few : length (beginnings ws) ≤ most_states

-- bytes whose first word is bad, after words that are kept
pub data Bad (before : List Word) : List ℕ → InputCause → Type 0 where
  -- 30: cut short, or not of 1 to 64 letters from 1 to 62
  cut_short : (n : ℕ) (bytes : List ℕ) → length bytes < n → Bad before (n ∷ bytes) ListedWord
  faulty : (w : Word) (bytes : List ℕ) → good_word w ≡ false → Bad before (length w ∷ (w ++ bytes)) ListedWord
  -- 31: not above the word before it
  falls : (w : Word) (bytes : List ℕ) → good_word w ≡ true → follows before w ≡ false → Bad before (length w ∷ (w ++ bytes)) WordOrder
  -- 32: with it there are more than 256 states
  crowds : (w : Word) (bytes : List ℕ) → good_word w ≡ true → follows before w ≡ true → most_states < length (beginnings (before ++ (w ∷ [])))
      → Bad before (length w ∷ (w ++ bytes)) StateLimit

-- the earliest bad word of a list's bytes
pub record FirstBad (bytes : List ℕ) (cause : InputCause) : Type 0 where
  pub before : List Word
  pub kept : Kept before
  pub rest : List ℕ
  pub cut : bytes ≡ spelled before ++ rest
  pub bad : Bad before rest cause
