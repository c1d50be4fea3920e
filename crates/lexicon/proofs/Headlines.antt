-- The theorems about lists of words, stated together. What each one means is in specs/; how it is shown is in the files that it names.
use Prim.Native.Nat.{ℕ, ◌≤◌}
use mathlib.Core.Path.{◌≡◌}
use mathlib.Core.Logic.{◌↔◌, ◌⊎◌}
use mathlib.Core.Bool.{true, false}
use mathlib.Core.List.{List, Memᴰ}
use lib.ListN.{length}
use Rattle.table_format.proofs.All.{All}
use Rattle.graph.specs.Lists.{Before}
use Rattle.refusal.specs.declared.InputCause.{InputCause}
use Rattle.lexicon.specs.Words.{Word, good_word, rises, list_holds}
use Rattle.lexicon.specs.Beginnings.{beginnings, Begins, RisingWords}
use Rattle.lexicon.specs.Lexicon.{spelled, words, turned_down, lexicon}
use Rattle.lexicon.specs.FirstBad.{Kept, FirstBad}
use Rattle.lexicon.proofs.Facts.{ListedLetter}
use Rattle.lexicon.proofs.Facts as facts
use Rattle.lexicon.proofs.Lexicon as lists
use Rattle.lexicon.proofs.Beginnings as tree

-- "1 to 64 letters from 1 to 62",
pub word-is : (w : Word) → (good_word w ≡ true) ↔ ((1 ≤ length w) × (length w ≤ 64) × All ListedLetter w)
word-is = facts.word-is

-- "in rising dictionary order": that of the order of words,
pub rises-is : (u v : Word) → (rises u v ≡ true) ↔ Before u v
rises-is = facts.rises-is

-- "a repeat or a fall in the order",
pub not-above : (v w : Word) → rises v w ≡ false → (w ≡ v) ⊎ Before w v
not-above = facts.not-above

-- so that a list earns neither 30 nor 31 exactly where its words are good and each stands before all later ones.
pub list-is : (ws : List Word) → (list_holds ws ≡ true) ↔ (((w : Word) → Memᴰ w ws → good_word w ≡ true) × RisingWords ws)
list-is = facts.list-is

-- "words (1 to 64 letters from 1 to 62, in rising dictionary order; each as a length byte and its letters ..)": bytes give a list exactly where it
-- earns no refusal and they are its bytes.
pub taken : (bytes : List ℕ) (ws : List Word) → (lexicon bytes ≡ words ws) ↔ (Kept ws × (bytes ≡ spelled ws))
taken = lists.taken

-- "A bad word gives 30, a repeat or a fall in the order 31, more than 256 states 32, at the earliest such word and in that order": bytes earn a
-- refusal exactly where it is the earliest bad word's,
pub turned_down_lem : (bytes : List ℕ) (cause : InputCause) → (lexicon bytes ≡ turned_down cause) ↔ FirstBad bytes cause
turned_down_lem = lists.turned_down_lem

-- and that is one refusal.
pub one_cause : (bytes : List ℕ) (c d : InputCause) → FirstBad bytes c → FirstBad bytes d → c ≡ d
one_cause bytes c d F G = let e = (turned_down_lem bytes c).1 F in let f = (turned_down_lem bytes d).1 G in cc

-- "One state per common beginning": the beginnings of listed words and no others,
pub beginnings-are : (ws : List Word) (c : Word) → Memᴰ c (beginnings ws) ↔ Begins ws c
beginnings-are = tree.beginnings-are

-- "numbered in dictionary order": each before all later ones, so that none stands there twice.
pub beginnings-rise : (ws : List Word) → list_holds ws ≡ true → RisingWords (beginnings ws)
beginnings-rise = tree.beginnings-rise

-- No other list is so: these two say what the beginnings are.
pub beginnings-only : (ws : List Word) → list_holds ws ≡ true → (bs : List Word) → RisingWords bs → ((c : Word) → Memᴰ c bs ↔ Begins ws c) → bs ≡ beginnings ws
beginnings-only = tree.beginnings-only
