-- With 1 to 64 letters these decide.
use mathlib.Core.Path.{◌∙◌}
use lib.ListN.{length}
use Prim.Native.Nat.{◌≤◌}
use Rattle.std.proofs.Common.{rules}
use borrow.Author.Tests.{tests}
use Rattle.std.proofs.lemmas.Iterator.{YieldsList-from_slice}
use Rattle.std.proofs.lemmas.Iterator.Search.{all_from_yields_List}
use Rattle.lexicon.specs.Words.{letter_holds}
use Rattle.lexicon.proofs.Comparing.{letters-all, word-letters}
use Rattle.lexicon.proofs.word_holds.Goals as goal

pub returns-then-contains : goal.returns-then-contains
returns-then-contains c =
    let word = c.args.word.now in
    let low : 1 ≤ length word = search rules in
    let high : length word ≤ 64 = search rules in
    all_from_yields_List letter_holds _ _ c.all.result c.all.ensures.ran (YieldsList-from_slice word cc) (λ x b q k. search (rules, tests))
    ∙ letters-all word ∙ word-letters word low high
