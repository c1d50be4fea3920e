use Prim.Native.Nat.{ℕ}
use native.Mathlib.Omega.{arith}
use mathlib.Core.Path.{◌≡◌, sym, ◌∙◌}
use mathlib.Core.Bool.{true}
use mathlib.Core.List.{List}
use lib.ListN.{length}
use Rattle.table_format.specs.Rules.{class_holds}
use Rattle.table_format.specs.Loaded.{classes_in}
use Rattle.table_format.specs.Parse.{class, class_from, letters_from, is_of}
use Rattle.table_scanner.specs.Scan.{padded}
use Rattle.table_scanner.proofs.Padded.{byte_at}
use Rattle.table_items.proofs.LineKinds.{misplaced, placed, class_is, class_other, class_short, class_long}
use Rattle.table_items.proofs.Rows.{class_told}
use Rattle.table_items.proofs.Judged.{class_judged}
use Rattle.table_items.proofs.ItemLine.class_fault.Goals as goal
use Rattle.table_items.proofs.ItemLine.class_fault.Goals.{After-class_holds, then-self-ne-CLASS_KIND-via-then-self-ne-CLASS_KIND, then-self-ne-CLASS_KIND-via-else-self-ne-CLASS_KIND+then-self-lt-CLASS_BYTES, then-self-ne-CLASS_KIND-via-else-self-ne-CLASS_KIND+else-self-lt-CLASS_BYTES+then-self-gt-LINE_BYTES}

module _ (c : After-class_holds) (b : List ℕ) (p : c.args.self.bytes ≡ padded b) (q : c.args.self.count ≡ length b) where
  told : c.class_holds.result ≡ class_holds (classes_in c.args.cells.now) (class_from b) (letters_from b)
  told = c.class_holds.ensures ∙ class_told c.args.self.bytes b p (omega (arith, c.if-self-gt-LINE_BYTES.false)) c.args.cells.now c.args.self.count q (omega (arith, c.if-self-lt-CLASS_BYTES.false))

  is : is_of class b ≡ true
  is = class_is b (sym (byte_at c.args.self.bytes b p 0 (omega arith)) ∙ c.if-self-ne-CLASS_KIND.false) (omega (arith, c.if-self-lt-CLASS_BYTES.false)) (omega (arith, c.if-self-gt-LINE_BYTES.false))

pub returns-then-self-ne-CLASS_KIND : goal.returns-then-self-ne-CLASS_KIND
returns-then-self-ne-CLASS_KIND c =
    λ b p q.
    elim c.then-self-ne-CLASS_KIND.branch [
      | then-self-ne-CLASS_KIND-via-then-self-ne-CLASS_KIND w ↦ sym (misplaced _ (class_other b (λ z. w.if-self-ne-CLASS_KIND.true (byte_at c.args.self.bytes b p 0 (omega arith) ∙ z))))
      | then-self-ne-CLASS_KIND-via-else-self-ne-CLASS_KIND+then-self-lt-CLASS_BYTES w ↦ sym (misplaced _ (class_short b (omega (arith, w.if-self-lt-CLASS_BYTES.true))))
      | then-self-ne-CLASS_KIND-via-else-self-ne-CLASS_KIND+else-self-lt-CLASS_BYTES+then-self-gt-LINE_BYTES w ↦ sym (misplaced _ (class_long b (omega (arith, w.if-self-gt-LINE_BYTES.true))))
    ]

pub returns-then-not-class_holds : goal.returns-then-not-class_holds
returns-then-not-class_holds c = λ b p q. let h = (goal.at.returns-then-not-class_holds c).After-class_holds in sym (placed _ (is h b p q) ∙ class_judged _ _ _ (sym (told h b p q) ∙ c.if-not-class_holds.true))

pub returns : goal.returns
returns c = λ b p q. let h = (goal.at.returns c).After-class_holds in sym (placed _ (is h b p q) ∙ class_judged _ _ _ (sym (told h b p q) ∙ c.if-not-class_holds.false))
