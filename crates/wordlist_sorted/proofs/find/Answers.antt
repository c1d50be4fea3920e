-- At every turn the words so far are below the word, so that it goes among the others.
use Rattle.std.proofs.Common.{arith, length, ap, refl, sym, ◌∙◌}
use Rattle.wordlist_sorted.proofs.Finding.{gone_none, next-within, gone_all, gone_more, gone_here, gone_listed}
use Rattle.wordlist_sorted.proofs.find.Goals as goal

pub loop-listed-init : goal.loop-listed-init
loop-listed-init c = λ ws e. rw c.into_iter-listed-iterator.ensures.into_iter_gives (gone_none c.args.word.now ws c.args.list.now e)

pub returns-then-rises : goal.returns-then-rises
returns-then-rises c = λ ws e.
    gone_here c.args.word.now ws c.loop-listed.at c.loop-listed.listed-iterator.0.now (c.loop-listed.invariant ws e) c.in-Some.listed.now c.next.new.self.0.now c.in-Some.ensures.steps
    (sym c.rises.ensures ∙ c.if-not-rises.true) (sym c.rises-then-not-rises.ensures ∙ c.if-rises.true)

pub returns-else-rises : goal.returns-else-rises
returns-else-rises c = λ ws e.
    gone_listed c.args.word.now ws c.loop-listed.at c.loop-listed.listed-iterator.0.now (c.loop-listed.invariant ws e) c.in-Some.listed.now c.next.new.self.0.now c.in-Some.ensures.steps
    (sym c.rises.ensures ∙ c.if-not-rises.true) (sym c.rises-then-not-rises.ensures ∙ c.if-rises.false)

pub overflow_add-at-in-loop-listed : goal.overflow_add-at-in-loop-listed
overflow_add-at-in-loop-listed c =
    let pre = c.requires in
    omega (
      arith,
      next-within c.args.word.now pre.0 c.loop-listed.at c.loop-listed.listed-iterator.0.now (c.loop-listed.invariant pre.0 pre.1) c.in-Some.listed.now c.next.new.self.0.now c.in-Some.ensures.steps,
      ap length pre.1,
    )

pub loop-listed-preserved : goal.loop-listed-preserved
loop-listed-preserved c = λ ws e.
    gone_more c.args.word.now ws c.loop-listed.at c.loop-listed.listed-iterator.0.now (c.loop-listed.invariant ws e) c.in-Some.listed.now c.next.new.self.0.now c.in-Some.ensures.steps
    (sym c.rises.ensures ∙ c.if-not-rises.false) _ refl

pub returns : goal.returns
returns c = λ ws e.
    gone_all c.args.word.now ws c.loop-listed.at c.loop-listed.listed-iterator.0.now (c.loop-listed.invariant ws e) c.in-None.ensures.steps.1
