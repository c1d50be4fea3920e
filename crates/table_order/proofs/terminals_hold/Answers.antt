use native.Mathlib.Omega.{arith}
use mathlib.Core.Path.{sym, ap, ◌∙◌}
use mathlib.Core.Bool.{Bool, ◌&&◌, and-true, and-false}
use lib.ListN.{take}
use lib.Seq.{take_all}
use borrow.Author.Tests.{lt-ltb, le-ltb}
use Rattle.table_order.proofs.Terminals.{terminals_rise, rise_one, rise-turn, fall_breaks, rise-keeps, keeps-none}
use Rattle.table_order.proofs.terminals_hold.Goals as goal
use Rattle.table_order.proofs.terminals_hold.Goals.{else-list-k, then-list-k}

pub loop-k-init : goal.loop-k-init
loop-k-init c = sym (rise_one c.args.list.now)

pub loop-k-preserved : goal.loop-k-preserved
loop-k-preserved c =
    let list = c.args.list.now in
    let k = c.loop-k.k in
    let told = c.loop-k.invariant in
    let turn = rise-turn list k (omega arith) (omega arith) in
    elim c.if-list-k.branch [ then-list-k w ↦ w.rise-is ∙ sym (turn ∙ ap (λ (b : Bool). terminals_rise (take k list) && b) (le-ltb _ _ w.if-list-k.true) ∙ and-false (terminals_rise (take k list))) | else-list-k w ↦ w.rise-is ∙ told ∙ sym (turn ∙ ap (λ (b : Bool). terminals_rise (take k list) && b) (lt-ltb _ _ w.if-list-k.false) ∙ and-true (terminals_rise (take k list))) ]

pub returns-in_default : goal.returns-in_default
returns-in_default c = sym (keeps-none c.args.list.now c.args.states c.in_default.ensures.value)

pub returns-then-rise : goal.returns-then-rise
returns-then-rise c =
    let list = c.args.list.now in
    rise-keeps list c.args.states (ap terminals_rise (sym (take_all c.loop-k.k list (omega arith))) ∙ sym c.loop-k.invariant ∙ c.if-rise.true) c.in-Some.last.now c.in-Some.ensures.value

pub returns-else-rise : goal.returns-else-rise
returns-else-rise c =
    let list = c.args.list.now in
    c.if-rise.false ∙ sym (fall_breaks list c.args.states (ap terminals_rise (sym (take_all c.loop-k.k list (omega arith))) ∙ sym c.loop-k.invariant ∙ c.if-rise.false))
