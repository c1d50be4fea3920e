use native.Mathlib.Omega.{arith}
use mathlib.Core.Path.{sym, ◌∙◌}
use Rattle.table_rules.proofs.Faults.{new-state, initial-out, initial-new, initial-old}
use Rattle.table_rules.proofs.initial_fault.Goals as goal
use Rattle.table_rules.proofs.initial_fault.Goals.{else-state_key-top-via-then-state_key-top+else-contains, else-state_key-top-via-else-state_key-top}

pub returns-then-states-state : goal.returns-then-states-state
returns-then-states-state c = sym (initial-out _ _ _ c.if-states-state.true)

pub returns-then-contains : goal.returns-then-contains
returns-then-contains c = sym (initial-old _ _ _ c.if-states-state.false (sym c.contains.ensures.value ∙ c.if-contains.true))

pub returns : goal.returns
returns c =
    elim c.else-state_key-top.branch [
      | else-state_key-top-via-then-state_key-top+else-contains w ↦ sym (initial-new _ _ _ c.if-states-state.false (sym w.contains.ensures.value ∙ w.if-contains.false))
      | else-state_key-top-via-else-state_key-top w ↦ sym (initial-new _ _ _ c.if-states-state.false (new-state _ _ c.args.top c.requires (omega (arith, c.state_key.ensures))))
    ]
