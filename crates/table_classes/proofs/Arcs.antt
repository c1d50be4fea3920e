-- Laws of 34 on an arc: by its upper letter, and by the cell that shows whether its class is defined.
use Prim.Native.Nat.{ℕ, ◌*◌, ◌≤◌, ◌<◌}
use native.Mathlib.Omega.{arith}
use mathlib.Core.Path.{◌≡◌, refl, ap, ◌∙◌}
use mathlib.Core.Bool.{Bool, true, false, not, ◌&&◌}
use mathlib.Core.List.{List, []}
use lib.Dec.{eqb, ltb}
use lib.ListN.{get_or, get_or-eq_default}
use borrow.Author.Tests.{lt-ltb, le-ltb, eqb-true, eqb-false, eq-eqb, ne_eqb, ltb-false}
use Rattle.table_format.specs.Table.{Arc}
use Rattle.table_format.specs.Classes.{class_count, row_width, first_class, is_defined, row_of}
use Rattle.table_format.specs.Rules.{arc_class_holds}
use Rattle.table_format.specs.Loaded.{rows_in}
use Rattle.table_format.proofs.Classes.{length-rows_in}
use Rattle.table_classes.proofs.ClassRows.{defined_at}

-- a number above 0 is another one
positive : (x : ℕ) → ltb 0 x ≡ not (eqb x 0)
positive x = go (eqb x 0) refl
  where
    go : (b : Bool) → eqb x 0 ≡ b → ltb 0 x ≡ not b
    go true e = le-ltb 0 x (omega (arith, eqb-true x 0 e))
    go false e = lt-ltb 0 x (let n = eqb-false x 0 e in omega arith)

module _ (cells : List ℕ) (c : ℕ) where
  -- the first cell of a class's row shows whether it is defined
  pub defined_cell : c < class_count → is_defined (get_or (rows_in class_count cells) c []) ≡ not (eqb (get_or cells (row_width * c) 0) 0)
  defined_cell h = defined_at cells c h ∙ positive (get_or cells (row_width * c) 0)

  -- there is none from 8 on
  pub defined_none : class_count ≤ c → is_defined (get_or (rows_in class_count cells) c []) ≡ false
  defined_none h = ap (λ (row : List ℕ). is_defined row) (get_or-eq_default (rows_in class_count cells) [] {n = c} (omega (arith, length-rows_in class_count cells)))

module _ (rows : List (List ℕ)) (a : Arc) where
  -- without a class above, an arc has none below either
  pub plain-above : a.upper < first_class → arc_class_holds rows a ≡ ltb a.lower first_class
  unfolding arc_class_holds
  plain-above h = go (ltb a.lower first_class) refl
    where
      go : (b : Bool) → ltb a.lower first_class ≡ b → arc_class_holds rows a ≡ b
      go true e = simp (lt-ltb a.upper first_class h, e)
      go false e = simp (lt-ltb a.upper first_class h, e, ne_eqb a.upper a.lower (λ s. omega (arith, ltb-false a.lower first_class e)))

  -- with one above, the same stands below and is defined
  pub class_above : first_class ≤ a.upper → arc_class_holds rows a ≡ (eqb a.upper a.lower && is_defined (row_of rows a.upper))
  unfolding arc_class_holds
  class_above h = simp (le-ltb a.upper first_class h)

  pub class_unlike : first_class ≤ a.upper → (a.upper ≡ a.lower → ⊥) → arc_class_holds rows a ≡ false
  class_unlike h n = class_above h ∙ ap (λ (b : Bool). b && is_defined (row_of rows a.upper)) (ne_eqb a.upper a.lower n)

  pub class_alike : first_class ≤ a.upper → a.upper ≡ a.lower → arc_class_holds rows a ≡ is_defined (row_of rows a.upper)
  class_alike h e = class_above h ∙ ap (λ (b : Bool). b && is_defined (row_of rows a.upper)) (eq-eqb a.upper a.lower e)
