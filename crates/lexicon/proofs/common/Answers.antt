-- The letters that are the same at the front of both, as far as the shorter one goes.
use Rattle.std.proofs.Common.{rules, arith}
use borrow.Author.Tests.{tests}
use mathlib.Core.Path.{◌∙◌}
use lib.ListN.{take}
use Rattle.std.proofs.lemmas.Iterator.{YieldsList-from_slice, YieldsList-from_zip}
use Rattle.std.proofs.lemmas.Iterator.Consumers.{count_from_yields_List}
use Rattle.std.proofs.lemmas.Iterator.Search.{YieldsList-from_take_while}
use Rattle.lexicon.proofs.Comparing.{same_letters, common-zip, common-first, common-second, common-cut}
use Rattle.lexicon.proofs.common.Goals as goal

pub returns : goal.returns
returns c =
    let p = c.args.before.now in
    let w = c.args.word.now in
    let most = c.min-most.result in
    count_from_yields_List _ _ c.count.ensures.ran
    (YieldsList-from_take_while _ same_letters
    (YieldsList-from_zip (YieldsList-from_slice (take most p) cc) (YieldsList-from_slice (take most w) cc))
    c.take_while.ensures.closure c.take_while.ensures.done (λ x b q k. search (rules, tests)))
    ∙ common-zip (take most p) (take most w)
    ∙ common-cut p w most (omega (arith, common-first p w, common-second p w))
