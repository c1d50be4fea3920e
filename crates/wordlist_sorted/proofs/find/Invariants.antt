-- At every turn the words so far are below the word, so that it goes among the others.
use Rattle.std.proofs.Common.{List, ◌≡◌}
use Rattle.lexicon.specs.Words.{Word}
use Rattle.lexicon.specs.Lexicon.{spelled}
use Rattle.wordlist_sorted.proofs.Finding.{Gone}
use Rattle.wordlist_sorted.proofs.find.Given as goal

abbrev pub invariant-loop-listed : goal.invariant-loop-listed
invariant-loop-listed l = (ws : List Word) → l.list ≡ spelled ws → Gone l.word ws l.at l.listed-iterator.0.now
