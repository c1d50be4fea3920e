use native.Mathlib.Omega.{arith}
use mathlib.Core.Path.{sym, ap, ◌∙◌}
use Rattle.table_items.specs.Draft.{kind_said}
use Rattle.table_items.proofs.LineKinds.{one-some}
use Rattle.table_items.proofs.Judged.{end_right, end_wrong, judged_class, judged-initial, judged-terminal, judged-arc, drafted-bounds, drafted-initials, drafted-terminals, drafted-arcs}
use Rattle.table_items.proofs.Draft.item_fault.Goals as goal

pub class_fault-requires : goal.class_fault-requires
class_fault-requires c = let w = drafted-bounds c.requires in omega arith

pub slice_bounds-before-count : goal.slice_bounds-before-count
slice_bounds-before-count c = let w = drafted-bounds c.requires in omega arith

pub slice_bounds-before-start : goal.slice_bounds-before-start
slice_bounds-before-start c = let w = drafted-bounds c.requires in omega arith

pub slice_bounds-before-end : goal.slice_bounds-before-end
slice_bounds-before-end c = let w = drafted-bounds c.requires in omega arith

pub bounds-cells-0 : goal.bounds-cells-0
bounds-cells-0 c = let w = drafted-bounds c.requires in omega arith

pub initial_fault-requires : goal.initial_fault-requires
initial_fault-requires c = drafted-initials c.requires (ap kind_said c.in-Initial.is)

pub bounds-cells-1 : goal.bounds-cells-1
bounds-cells-1 c = let w = drafted-bounds c.requires in omega arith

pub slice_bounds-terminal_fault-count : goal.slice_bounds-terminal_fault-count
slice_bounds-terminal_fault-count c = let v = drafted-terminals c.requires (ap kind_said c.in-Terminal.is) in omega arith

pub slice_bounds-terminal_fault-start : goal.slice_bounds-terminal_fault-start
slice_bounds-terminal_fault-start c =
    let w = drafted-bounds c.requires in
    let v = drafted-terminals c.requires (ap kind_said c.in-Terminal.is) in
    omega arith

pub slice_bounds-terminal_fault-end : goal.slice_bounds-terminal_fault-end
slice_bounds-terminal_fault-end c = let w = drafted-bounds c.requires in omega arith

pub bounds-cells-0-in-Terminal : goal.bounds-cells-0-in-Terminal
bounds-cells-0-in-Terminal c = let w = drafted-bounds c.requires in omega arith

pub arc_fault-requires : goal.arc_fault-requires
arc_fault-requires c = drafted-arcs c.requires (ap kind_said c.in-Arc.is)

pub returns-in-Class : goal.returns-in-Class
returns-in-Class c = λ d t b T e p q. c.class_fault.ensures b p q ∙ judged_class T b (sym (ap kind_said c.in-Class.is) ∙ e)

pub returns-in_ok-state-in-Initial : goal.returns-in_ok-state-in-Initial
returns-in_ok-state-in-Initial c =
    λ d t b T e p q.
    let one = one-some _ b (c.number.ensures b p q) (c.in_ok-state-in-Initial.was) in
    c.initial_fault.ensures ∙ judged-initial T b _ (sym (ap kind_said c.in-Initial.is) ∙ e) one.0 one.1

pub returns-in_ok-state-in-Terminal : goal.returns-in_ok-state-in-Terminal
returns-in_ok-state-in-Terminal c =
    λ d t b T e p q.
    let one = one-some _ b (c.number-in-Terminal.ensures b p q) (c.in_ok-state-in-Terminal.was) in
    c.terminal_fault.ensures ∙ judged-terminal T b _ _ (omega arith) (sym (ap kind_said c.in-Terminal.is) ∙ e) one.0 one.1

pub returns-in-Arc : goal.returns-in-Arc
returns-in-Arc c = λ d t b T e p q. c.arc_fault.ensures b p q ∙ judged-arc T b (sym (ap kind_said c.in-Arc.is) ∙ e)

pub returns-then-from-self : goal.returns-then-from-self
returns-then-from-self c =
    λ d t b T e p q.
    let one = one-some _ b (c.number-in-End.ensures b p q) (c.in_ok-lines-in-End.was) in
    sym (end_wrong T b (sym e ∙ ap kind_said c.in-End.is) one.0 (λ z. c.if-from-self.true (c.from.ensures ∙ one.1 ∙ z)))

pub returns-else-from-self : goal.returns-else-from-self
returns-else-from-self c =
    λ d t b T e p q.
    let one = one-some _ b (c.number-in-End.ensures b p q) (c.in_ok-lines-in-End.was) in
    sym (end_right T b (sym e ∙ ap kind_said c.in-End.is) one.0 (sym one.1 ∙ sym c.from.ensures ∙ c.if-from-self.false))
