-- Document 02, word lists: the bytes of a list, "each as a length byte and its letters, one cut short is bad". "A bad word gives 30, a repeat or a
-- fall in the order 31, more than 256 states 32, at the earliest such word and in that order".
use Rattle.std.specs.Prelude.{ℕ, zero, suc, ◌≡◌, ◌<◌, cond, List, [], ◌∷◌, ◌++◌, leb, length, take, drop, Option, Some, None}
use denote.Ref.{Bor}
use Rattle.refusal.specs.declared.InputCause.{InputCause}
use Rattle.refusal.specs.declared.InputCause.TheVariants.{ListedWord, WordOrder, StateLimit}
use Rattle.lexicon.specs.Words.{Word, good_word, follows}
use Rattle.lexicon.specs.Beginnings.{beginnings}

-- the bytes of a list of words
abbrev pub spelled : List Word → List ℕ
spelled [] = []
spelled (w ∷ ws) = length w ∷ (w ++ spelled ws)

-- what stands at a length byte: a word with all its letters, or one cut short
pub data Item : Type 0 where
  whole : Word → Item
  short : Item

-- the items of bytes, at most f: each takes a byte or more, so that as many as there are bytes are all
abbrev pub items_in : ℕ → List ℕ → List Item
items_in zero bytes = []
items_in (suc f) [] = []
items_in (suc f) (n ∷ bytes) = cond (leb n (length bytes)) (whole (take n bytes) ∷ items_in f (drop n bytes)) (short ∷ [])

-- what a call for the next word does to the bytes that are left: it takes a word, or it leaves them where none is whole at their front
pub data IsCut : List ℕ → Type 0 where
  at_end : IsCut []
  at_short : (n : ℕ) (bytes : List ℕ) → length bytes < n → IsCut (n ∷ bytes)

abbrev pub NextWord : {S : Type 0} → (S → List ℕ) → S → Option (Bor Word) → S → Type 0
NextWord bytes s None t = (bytes t ≡ bytes s) × IsCut (bytes s)
NextWord bytes s (Some w) t = bytes s ≡ length w.now ∷ (w.now ++ bytes t)

-- the most states of a table
abbrev pub most_states : ℕ
most_states = 256

-- a list's words, or its refusal
pub data Lexicon : Type 0 where
  words : List Word → Lexicon
  turned_down : InputCause → Lexicon

-- a word after those before it: 30, 31, 32, or what the rest comes to
abbrev pub judged : List Word → Word → Lexicon → Lexicon
judged before w rest =
    cond (good_word w)
    (cond (follows before w) (cond (leb (length (beginnings (before ++ (w ∷ [])))) most_states) rest (turned_down StateLimit)) (turned_down WordOrder))
    (turned_down ListedWord)

-- the items after some words
unfoldable pub lexicon_from : List Word → List Item → Lexicon
lexicon_from before [] = words before
lexicon_from before (short ∷ is) = turned_down ListedWord
lexicon_from before (whole w ∷ is) = judged before w (lexicon_from (before ++ (w ∷ [])) is)

-- what the bytes of a list come to
unfoldable pub lexicon : List ℕ → Lexicon
lexicon bytes = lexicon_from [] (items_in (length bytes) bytes)

-- bytes that are not turned down, and their words
abbrev pub TakenAs : List ℕ → List Word → Type 0
TakenAs bytes ws = lexicon bytes ≡ words ws
