-- A loaded table's parts and index.
use Prim.Native.Nat.{ℕ, ◌≤◌}
use native.Mathlib.Omega.{arith}
use mathlib.Core.Path.{◌≡◌, refl, ap}
use mathlib.Core.Bool.{Bool, true, false, ◌&&◌, cond}
use mathlib.Core.Option.{none, some}
use mathlib.Core.List.{List}
use lib.Dec.{leb}
use lib.ListN.{length}
use borrow.Author.Tests.{leb-true}
use Rattle.table_check.specs.declared.Layout.{Layout}
use Rattle.table_format.specs.Table.{Table}
use Rattle.table_format.specs.Rules.{keeps_rules}
use Rattle.table_format.specs.Loaded.{counts_in, extent, table_in, loaded}
use Rattle.table_check.specs.Check.{layout_of, LaidOut}
use Rattle.table_check.proofs.Parts.{laid_out}

-- cells that hold a table hold it whole
pub loaded-whole : (cells : List ℕ) (t : Table) → loaded cells ≡ some t → extent (counts_in cells) ≤ length cells
unfolding loaded
loaded-whole cells t e = go (leb (extent (counts_in cells)) (length cells)) refl e
  where
    go : (b : Bool) → leb (extent (counts_in cells)) (length cells) ≡ b → cond (b && keeps_rules (table_in cells)) (some (table_in cells)) none ≡ some t → extent (counts_in cells) ≤ length cells
    go true z w = leb-true _ _ z
    go false z w = absurd (let y : ◌≡◌ {A = ℕ} 0 1 = cc in omega arith)

pub loaded-laid : (cells : List ℕ) (t : Table) (l : Layout) → loaded cells ≡ some t → l ≡ layout_of (counts_in cells) → LaidOut cells l
loaded-laid cells t l e i = laid_out cells l i (let w = loaded-whole cells t e in omega (arith, ap (λ (x : Layout). x.end) i))
