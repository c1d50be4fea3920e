-- At every turn what is passed and what is left through the line that is looked for add up to the table's text.
use Rattle.std.proofs.Common.{rules, ◌≡◌, ◌+◌, ◌<◌, length, drop, nat_eq, sym, ap, arith, ◌∙◌, length-drop}
use Rattle.std.proofs.lemmas.Fn.{always_returns_same}
use Rattle.session_query.specs.Parts.{begins05}
use Rattle.session_query.proofs.Parts.{starts05, end_at, part-rest, part-is, counted_stop, counted-more, counted-end}
use Rattle.session_query.proofs.splitter.table_end.Goals as goal
use Rattle.session_query.proofs.splitter.table_end.Goals.{In-Some}

-- more is left, and the part that is split off it
more : (c : In-Some) → c.loop-line.end < length c.args.text.now
more c = let s = c.in-Some.ensures.steps in omega (arith, s.2, ap length c.loop-line.invariant.rest, length-drop c.loop-line.end c.args.text.now)

part : (c : In-Some) → (c.loop-line.end + length c.in-Some.line.now ≡ end_at c.args.text.now c.loop-line.end) × (starts05 c.in-Some.line.now ≡ begins05 (drop c.loop-line.end c.args.text.now))
part c =
    let s = c.in-Some.ensures.steps in
    let first = (s.1.2 (λ x. nat_eq x 10) (always_returns_same _ _ _ (λ a r f q. search rules))).1 in
    part-is c.args.text.now c.loop-line.end s.1.0 _ c.in-Some.line.now _ c.loop-line.invariant.rest s.0 s.1.1 first

pub returns-in-None : goal.returns-in-None
returns-in-None c =
    let s = c.in-None.ensures.steps in
    let i = c.loop-line.invariant in
    counted-end c.args.text.now c.loop-line.end (omega (arith, s.0, ap length i.rest, length-drop c.loop-line.end c.args.text.now)) i.counted

pub returns-then-starts_with : goal.returns-then-starts_with
returns-then-starts_with c =
    let x = (goal.at.returns-then-starts_with c).In-Some in
    (part x).0 ∙ counted_stop c.args.text.now c.loop-line.end (more x) c.loop-line.invariant.counted (sym (part x).1 ∙ sym c.if-starts_with.ensures.value)

pub loop-line-preserved : goal.loop-line-preserved
loop-line-preserved c =
    let x = (goal.at.loop-line-preserved c).In-Some in
    let m = counted-more c.args.text.now c.loop-line.end _ (more x) c.loop-line.invariant.counted (sym (part x).1 ∙ sym c.if-starts_with.ensures.value) (part x).0 in
    record {
      callable = c.loop-line.invariant.callable;
      finite = c.loop-line.invariant.finite;
      rest = part-rest c.args.text.now c.loop-line.end _ c.in-Some.line.now _ c.loop-line.invariant.rest c.in-Some.ensures.steps.0;
      counted = m.0;
    }
