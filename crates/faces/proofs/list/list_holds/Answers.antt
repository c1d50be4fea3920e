-- At every turn the readings so far hold, and the bytes that are left decide.
use Prim.Native.Nat.{ℕ}
use mathlib.Core.Path.{sym, ap, ◌∙◌}
use lib.Dec.{eqb}
use lib.ListN.{length}
use mathlib.Core.List.{List}
use Rattle.faces.proofs.Lent.{held_none, held-done, held_many, held-letters, held_more}
use Rattle.faces.proofs.list.list_holds.Goals as goal
use Rattle.faces.proofs.list.list_holds.Goals.{then-count-eq-MOST_READINGS-via-then-count-eq-MOST_READINGS, then-count-eq-MOST_READINGS-via-else-count-eq-MOST_READINGS+then-not-letters_hold}

pub loop-reading-init : goal.loop-reading-init
loop-reading-init c = held_none c.args.bytes.now

pub returns-then-count-eq-MOST_READINGS : goal.returns-then-count-eq-MOST_READINGS
returns-then-count-eq-MOST_READINGS c =
    let H = c.loop-reading.invariant in
    let step = c.in-Some.ensures.steps in
    elim c.then-count-eq-MOST_READINGS.branch [
      | then-count-eq-MOST_READINGS-via-then-count-eq-MOST_READINGS w ↦ sym (held_many _ _ _ H _ _ step w.if-count-eq-MOST_READINGS.true)
      | then-count-eq-MOST_READINGS-via-else-count-eq-MOST_READINGS+then-not-letters_hold w ↦
          sym (held-letters _ _ _ H _ _ step (sym w.letters_hold.ensures ∙ w.if-not-letters_hold.true))
    ]

pub loop-reading-preserved : goal.loop-reading-preserved
loop-reading-preserved c =
    held_more _ _ _ c.loop-reading.invariant _ _ c.in-Some.ensures.steps (sym c.letters_hold.ensures ∙ c.if-not-letters_hold.false) c.if-count-eq-MOST_READINGS.false

pub returns : goal.returns
returns c =
    let left = c.in_default.ensures.steps in
    held-done _ _ _ c.loop-reading.invariant left.1 c.is_empty.result (c.is_empty.ensures ∙ ap (λ (l : List ℕ). eqb (length l) 0) left.0)
