-- At every turn the lines so far are passed over.
use native.Mathlib.Omega.{arith}
use Prim.Native.Nat.{◌+◌, ◌≤◌}
use mathlib.Core.Path.{sym, ◌∙◌}
use lib.ListN.{length}
use Rattle.wordlist_lines.proofs.Turns.{part-most, part-some, turn_is, passing-none, passing-done, turn-passed, turn-found}
use Rattle.wordlist_lines.proofs.next_line.Goals as goal
use Rattle.wordlist_lines.proofs.next_line.Goals.{After-line_size, After-back, After-front}

-- the line ends within the text, what is left without the blanks at its end within the line, and the blanks at the front within that
end-within : (c : goal.After-line_size) → c.loop-from.from + c.line_size.result ≤ length c.args.text.now
end-within c = part-most c.args.text.now c.loop-from.from (length c.args.text.now) c.line_size.result (omega arith) c.line_size.ensures.0

last_within : (c : goal.After-back) → c.loop-from.from + c.back.result ≤ c.loop-from.from + c.line_size.result
last_within c = part-most c.args.text.now c.loop-from.from _ c.back.result (omega arith) c.back.ensures.0

first-within : (c : goal.After-front) → c.loop-from.from + c.front.result ≤ c.loop-from.from + c.back.result
first-within c = part-most c.args.text.now c.loop-from.from _ c.front.result (omega arith) c.front.ensures.0

pub loop-from-init : goal.loop-from-init
loop-from-init c = passing-none c.args.text.now c.args.at

pub line_size-requires : goal.line_size-requires
line_size-requires c = part-some c.args.text.now c.loop-from.from c.loop-from-test.true

pub overflow_add-end : goal.overflow_add-end
overflow_add-end c = omega (arith, end-within c)

pub slice_bounds-back-count : goal.slice_bounds-back-count
slice_bounds-back-count c = omega (arith, end-within c)

pub overflow_add-last : goal.overflow_add-last
overflow_add-last c = omega (arith, end-within (goal.at.overflow_add-last c).After-line_size, last_within c)

pub slice_bounds-front-count : goal.slice_bounds-front-count
slice_bounds-front-count c = omega (arith, end-within (goal.at.slice_bounds-front-count c).After-line_size, last_within c)

pub overflow_add-first : goal.overflow_add-first
overflow_add-first c = omega (arith, end-within (goal.at.overflow_add-first c).After-line_size, last_within (goal.at.overflow_add-first c).After-back, first-within c)

pub slice_bounds-passed_over-count : goal.slice_bounds-passed_over-count
slice_bounds-passed_over-count c = first-within (goal.at.slice_bounds-passed_over-count c).After-front

pub returns-then-not-passed_over : goal.returns-then-not-passed_over
returns-then-not-passed_over c = turn-found c.args.text.now c.args.at c.loop-from.passed _ _ _ _ c.loop-from.invariant (turn_is c.args.text.now c.loop-from.from c.line_size.result c.back.result c.front.result c.min-next.result c.loop-from-test.true
    c.line_size.ensures.0 c.line_size.ensures.1 c.back.ensures.0 c.back.ensures.1 c.front.ensures.0 c.front.ensures.1 c.min-next.ensures) (sym c.passed_over.ensures ∙ c.if-not-passed_over.true)

pub overflow_add-passed : goal.overflow_add-passed
overflow_add-passed c = omega (arith, c.loop-from.invariant.moves, c.loop-from-test.true)

pub loop-from-smaller : goal.loop-from-smaller
loop-from-smaller c = omega (
  arith,
  (turn_is c.args.text.now c.loop-from.from c.line_size.result c.back.result c.front.result c.min-next.result c.loop-from-test.true
      c.line_size.ensures.0 c.line_size.ensures.1 c.back.ensures.0 c.back.ensures.1 c.front.ensures.0 c.front.ensures.1 c.min-next.ensures).moves,
  (turn_is c.args.text.now c.loop-from.from c.line_size.result c.back.result c.front.result c.min-next.result c.loop-from-test.true
      c.line_size.ensures.0 c.line_size.ensures.1 c.back.ensures.0 c.back.ensures.1 c.front.ensures.0 c.front.ensures.1 c.min-next.ensures).within,
)

pub loop-from-preserved : goal.loop-from-preserved
loop-from-preserved c = turn-passed c.args.text.now c.args.at c.loop-from.passed _ _ _ _ c.loop-from.invariant (turn_is c.args.text.now c.loop-from.from c.line_size.result c.back.result c.front.result c.min-next.result c.loop-from-test.true
    c.line_size.ensures.0 c.line_size.ensures.1 c.back.ensures.0 c.back.ensures.1 c.front.ensures.0 c.front.ensures.1 c.min-next.ensures) (sym c.passed_over.ensures ∙ c.if-not-passed_over.false)

pub returns : goal.returns
returns c = passing-done c.args.text.now c.args.at c.loop-from.passed c.loop-from.from c.loop-from.invariant c.loop-from-test.false
