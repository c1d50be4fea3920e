-- At every turn the bytes so far stand at the front of the array, as far as it has room.
use Prim.Native.Nat.{ℕ, ◌+◌}
use mathlib.Core.Path.{sym, subst, ◌∙◌}
use mathlib.Core.List.{List}
use lib.Seq.{set_out}
use Rattle.table_scanner.proofs.Scanning.{Scanning, scanning_none, scanning_more, out-end, out_half, out-invalid, out-empty, out_line}
use Rattle.table_scanner.proofs.scan.Goals.{then-count-bytes, else-count-bytes}
use Rattle.table_scanner.proofs.scan.Goals as goal

pub loop-at-init : goal.loop-at-init
loop-at-init c = scanning_none c.args.text.now c.args.start c.args.bytes.now

pub returns-then-count-eq0 : goal.returns-then-count-eq0
returns-then-count-eq0 c = out-empty c.loop-at.invariant c.loop-at-test.true c.if-high-eq10.true c.if-count-eq0.true

pub returns-then-high-eq10 : goal.returns-then-high-eq10
returns-then-high-eq10 c = out_line c.loop-at.invariant c.loop-at-test.true c.if-high-eq10.true c.if-count-eq0.false

pub returns-then-text-at : goal.returns-then-text-at
returns-then-text-at c = out_half c.loop-at.invariant c.loop-at-test.true c.if-text-at.true c.if-high-eq10.false

pub returns-in_default : goal.returns-in_default
returns-in_default c = out-invalid c.loop-at.invariant c.if-text-at.false c.if-high-eq10.false (sym c.decode.ensures ∙ c.in_default.is)

pub loop-at-preserved : goal.loop-at-preserved
loop-at-preserved c =
    let v : ℕ = c.in-Some.b in
    let more = scanning_more c.loop-at.invariant v c.if-text-at.false (sym c.decode.ensures ∙ c.in-Some.is) in
    elim c.if-count-bytes.branch [
      | then-count-bytes w ↦ subst (λ (l : List ℕ). Scanning c.args.text.now c.args.start c.args.bytes.now l (c.loop-at.count + 1) (c.loop-at.at + 2)) (sym w.bytes-is) more
      | else-count-bytes w ↦ subst (λ (l : List ℕ). Scanning c.args.text.now c.args.start c.args.bytes.now l (c.loop-at.count + 1) (c.loop-at.at + 2)) (sym (w.bytes-is ∙ sym (set_out c.loop-at.bytes c.loop-at.count v w.if-count-bytes.false))) more
    ]

pub returns : goal.returns
returns c = out-end c.loop-at.invariant c.loop-at-test.false
