use lib.Dec.{ltb}
use borrow.Author.Tests.{lt-ltb, le-ltb}
use mathlib.Core.Path.{sym, ◌∙◌}
use Rattle.table_rules.proofs.Faults.{last_got, last_missing, terminal-out, terminal_rises_lem, terminal-falls}
use Rattle.table_rules.proofs.terminal_fault.Goals as goal

pub returns-then-states-state : goal.returns-then-states-state
returns-then-states-state c = sym (terminal-out _ _ _ c.if-states-state.true)

pub returns-in-Some : goal.returns-in-Some
returns-in-Some c = sym (terminal-falls _ _ _ c.if-states-state.false (last_got (λ r. ltb r c.args.state) c.args.before.now c.in-Some.last.now (sym c.in-Some.ensures.value) ∙ le-ltb _ _ c.if-state-last.true))

pub returns-in_default : goal.returns-in_default
returns-in_default c = sym (terminal_rises_lem _ _ _ c.if-states-state.false (last_got (λ r. ltb r c.args.state) c.args.before.now c.in-Some.last.now (sym c.in-Some.ensures.value) ∙ lt-ltb _ _ c.if-state-last.false))

pub returns-in_default-2 : goal.returns-in_default-2
returns-in_default-2 c = sym (terminal_rises_lem _ _ _ c.if-states-state.false (last_missing (λ r. ltb r c.args.state) c.args.before.now (sym (rw c.in_default.is at c.last.ensures.value))))
