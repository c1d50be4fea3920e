-- The theorems about sorted lists of words, stated together. What each one means is in specs/; how it is shown is in the files that it names.
use Prim.Native.Nat.{◌+◌, ◌≤◌, ◌<◌}
use mathlib.Core.Path.{◌≡◌}
use mathlib.Core.Logic.{◌↔◌, ◌⊎◌}
use mathlib.Core.Bool.{true}
use mathlib.Core.List.{List, Memᴰ}
use lib.ListN.{length}
use Rattle.refusal.specs.declared.InputCause.TheVariants.{StateLimit}
use Rattle.graph.specs.Lists.{Distinct}
use Rattle.lexicon.specs.Words.{Word, good_word, list_holds}
use Rattle.lexicon.specs.Beginnings.{beginnings, RisingWords}
use Rattle.lexicon.specs.Lexicon.{spelled, most_states, words, turned_down, lexicon}
use Rattle.lexicon.specs.FirstBad.{Kept}
use Rattle.wordlist_sorted.specs.Sorted.{inserted, sorted, GoodWords}
use Rattle.wordlist_sorted.proofs.Sorted as laws
use Rattle.wordlist_sorted.proofs.Growth as growth
use Rattle.wordlist_sorted.proofs.Kept as lists

-- A word put in its place: the words are those of the list and this one,
pub inserted-members : (w v : Word) (ws : List Word) → Memᴰ v (inserted w ws) ↔ ((v ≡ w) ⊎ Memᴰ v ws)
inserted-members = laws.inserted-members

-- they still rise,
pub inserted-rises : (w : Word) (ws : List Word) → RisingWords ws → RisingWords (inserted w ws)
inserted-rises = laws.inserted-rises

-- and with a good word a list still earns neither 30 nor 31.
pub inserted-holds : (w : Word) (ws : List Word) → good_word w ≡ true → list_holds ws ≡ true → list_holds (inserted w ws) ≡ true
inserted-holds = laws.inserted-holds

-- It is there already and nothing changes, or there is one word more, in its length byte and its letters.
pub inserted-grows : (w : Word) (ws : List Word)
    → (inserted w ws ≡ ws) ⊎ ((length (inserted w ws) ≡ length ws + 1) × (length (spelled (inserted w ws)) ≡ length (spelled ws) + 1 + length w))
inserted-grows = laws.inserted-grows

-- The letter tree has no fewer states then.
pub inserted-more : (w : Word) (ws : List Word) → length (beginnings ws) ≤ length (beginnings (inserted w ws))
inserted-more = growth.inserted-more

-- Words sorted: they rise in dictionary order,
pub sorted_rises : (vs : List Word) → RisingWords (sorted vs)
sorted_rises = laws.sorted_rises

-- they are the same words,
pub sorted-members : (w : Word) (vs : List Word) → Memᴰ w (sorted vs) ↔ Memᴰ w vs
sorted-members = laws.sorted-members

-- each once.
pub sorted-once : (vs : List Word) → Distinct (sorted vs)
sorted-once = laws.sorted-once

-- No other list is so: rising and the same words say what the sorted list is.
pub sorted-only : (vs us : List Word) → RisingWords us → ((w : Word) → Memᴰ w us ↔ Memᴰ w vs) → us ≡ sorted vs
sorted-only = laws.sorted-only

-- Good words, sorted, earn neither 30 nor 31 as a list:
pub sorted-holds : (vs : List Word) → GoodWords vs → list_holds (sorted vs) ≡ true
sorted-holds = laws.sorted-holds

-- the bytes of such a list are taken as its words where there are at most 256 states, and else earn 32.
pub never_30_31 : (ws : List Word) → list_holds ws ≡ true
    → ((length (beginnings ws) ≤ most_states) × (lexicon (spelled ws) ≡ words ws)) ⊎ ((most_states < length (beginnings ws)) × (lexicon (spelled ws) ≡ turned_down StateLimit))
never_30_31 = lists.never_30_31

-- A list that is taken has fewer words than a table has states,
pub words-few : (ws : List Word) → Kept ws → length ws < most_states
words-few = lists.words-few

-- so that its bytes, at most 65 for a word, leave room for a further word.
pub list_bytes_lem : (ws : List Word) → Kept ws → length (spelled ws) ≤ 16575
list_bytes_lem = lists.list_bytes_lem
