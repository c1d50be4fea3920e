-- The theorems about what a text of words comes to, stated together. What each one means is in specs/; how it is shown is in the files that it names.
use Prim.Native.Nat.{ℕ, ◌≤◌}
use mathlib.Core.Path.{◌≡◌, refl, sym}
use mathlib.Core.Logic.{◌↔◌}
use mathlib.Core.List.{List, Memᴰ}
use lib.ListN.{length}
use Rattle.graph.specs.Lists.{Distinct}
use Rattle.lexicon.specs.Words.{Word}
use Rattle.lexicon.specs.Beginnings.{beginnings, RisingWords}
use Rattle.lexicon.specs.Lexicon.{spelled, TakenAs}
use Rattle.lexicon.specs.FirstBad.{Kept}
use Rattle.lexicon.proofs.Lexicon.{lexicon-complete}
use Rattle.wordlist_lines.specs.Lines.{Line, held_lines}
use Rattle.wordlist_spelling.specs.Facts.{Spells}
use Rattle.wordlist.specs.Gathered.{Fate, taken, bad_word, too_many, fate}
use Rattle.wordlist.specs.Facts.{TakenLines, NoWord, Crowds, FirstFault, ComesTo}
use Rattle.wordlist.proofs.Facts.{comes-to}
use Rattle.wordlist.proofs.Taken as lists

-- What a text comes to is computed line by line, and is what the facts say of its lines:
pub fate-is : (text : List ℕ) (f : Fate) → (fate text ≡ f) ↔ ComesTo (held_lines text) f
unfolding fate
fate-is text f = comes-to (held_lines text) f

-- a list exactly where every line is a word, the list is these words sorted, and its letter tree has at most 256 states;
pub taken_is : (text : List ℕ) (ws : List Word) → (fate text ≡ taken ws) ↔ TakenLines (held_lines text) ws
taken_is text ws = fate-is text (taken ws)

-- a bad word exactly where the lines before it make a list and it is no word;
pub bad_word-is : (text : List ℕ) (l : Line) (ws : List Word) → (fate text ≡ bad_word l ws) ↔ FirstFault NoWord (held_lines text) l ws
bad_word-is text l ws = fate-is text (bad_word l ws)

-- a list that is too long exactly where the lines before one make a list, the words that fit, and with its word there are more than 256 states.
pub too_many-is : (text : List ℕ) (l : Line) (ws : List Word) → (fate text ≡ too_many l ws) ↔ FirstFault Crowds (held_lines text) l ws
too_many-is text l ws = fate-is text (too_many l ws)

-- Every text comes to one of these, and to no other.
pub one-fate : (text : List ℕ) → ComesTo (held_lines text) (fate text) × ((f : Fate) → ComesTo (held_lines text) f → f ≡ fate text)
one-fate text = ((fate-is text (fate text)).0 refl, λ f h. sym ((fate-is text f).1 h))

-- Of a text that is taken:
module _ (text : List ℕ) (ws : List Word) (e : fate text ≡ taken ws) where
  -- the list has the words that its lines spell, and no others,
  pub list-words : (w : Word) → Memᴰ w ws ↔ ((l : Line) × Memᴰ l (held_lines text) × Spells w l.text)
  list-words = lists.list-words text ws ((taken_is text ws).0 e)

  -- in rising dictionary order,
  pub list-rises : RisingWords ws
  list-rises = lists.list-rises text ws ((taken_is text ws).0 e)

  -- each once,
  pub list-once : Distinct ws
  list-once = lists.list-once text ws ((taken_is text ws).0 e)

  -- of at most 256 states;
  pub list-few : length (beginnings ws) ≤ 256
  list-few = ((taken_is text ws).0 e).few

  -- it earns none of 30, 31 and 32,
  pub list-kept : Kept ws
  list-kept = lists.list-kept text ws ((taken_is text ws).0 e)

  -- so that its bytes are taken as these words for the letter tree.
  pub list-taken : TakenAs (spelled ws) ws
  list-taken = lexicon-complete ws list-kept
