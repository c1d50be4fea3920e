-- At every turn the letters so far stand at the front of the word.
use Rattle.std.proofs.Common.{arith, ap, refl, sym, ◌∙◌, ◌≡◌, ◌<◌}
use Rattle.alphabet.specs.Letters.{letter_of}
use Rattle.wordlist_spelling.proofs.Told.{so_none, told-whole, told-broken, told-other, told-long, inside, so_more}
use Rattle.wordlist_spelling.proofs.spell.Goals as goal

pub loop-at-init : goal.loop-at-init
loop-at-init c = so_none c.args.line.now c.args.word.now

pub returns-in_default : goal.returns-in_default
returns-in_default c = told-broken c.loop-at.invariant c.loop-at-test.true (sym c.decode.ensures ∙ c.in_default.is) refl

pub returns-in_default-letter_of : goal.returns-in_default-letter_of
returns-in_default-letter_of c =
    let code = c.in-Some.field-0.code in
    let none : letter_of code ≡ 0 = ap letter_of (sym c.from.ensures) ∙ c.in_default-letter_of.ensures in
    told-other c.loop-at.invariant c.loop-at-test.true code c.in-Some.field-0.size (sym c.decode.ensures ∙ c.in-Some.is) none refl

pub returns-then-letters-eq-WORD_LETTERS : goal.returns-then-letters-eq-WORD_LETTERS
returns-then-letters-eq-WORD_LETTERS c =
    let code = c.in-Some.field-0.code in
    let is : c.in-Some-letter_of.letter ≡ letter_of code = c.in-Some-letter_of.ensures.1 ∙ ap letter_of c.from.ensures in
    let some : 0 < letter_of code = omega (arith, c.in-Some-letter_of.ensures.0) in
    told-long c.loop-at.invariant c.loop-at-test.true code c.in-Some.field-0.size (sym c.decode.ensures ∙ c.in-Some.is) some c.if-letters-eq-WORD_LETTERS.true refl

pub overflow_add-at : goal.overflow_add-at
overflow_add-at c = omega (arith, (inside c.loop-at.invariant c.loop-at-test.true c.in-Some.field-0.code c.in-Some.field-0.size (sym c.decode.ensures ∙ c.in-Some.is)).1)

pub loop-at-smaller : goal.loop-at-smaller
loop-at-smaller c = omega (arith, (inside c.loop-at.invariant c.loop-at-test.true c.in-Some.field-0.code c.in-Some.field-0.size (sym c.decode.ensures ∙ c.in-Some.is)).0)

pub loop-at-preserved : goal.loop-at-preserved
loop-at-preserved c =
    let code = c.in-Some.field-0.code in
    let is : c.in-Some-letter_of.letter ≡ letter_of code = c.in-Some-letter_of.ensures.1 ∙ ap letter_of c.from.ensures in
    so_more c.loop-at.invariant c.loop-at-test.true code c.in-Some.field-0.size (sym c.decode.ensures ∙ c.in-Some.is)
    c.in-Some-letter_of.letter is c.in-Some-letter_of.ensures.0 (omega (arith, c.loop-at.invariant.few))

pub returns : goal.returns
returns c = told-whole c.loop-at.invariant c.loop-at-test.false refl
