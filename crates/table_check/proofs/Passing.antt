-- What the table check tells: cells that pass it hold their table, others hold none.
use Prim.Native.Nat.{ℕ}
use mathlib.Core.Path.{◌≡◌, refl, ap}
use mathlib.Core.Bool.{Bool, true, false, cond, ◌&&◌}
use mathlib.Core.Logic.{◌↔◌}
use mathlib.Core.Option as maybe
use mathlib.Core.List.{List}
use lib.Dec.{leb}
use lib.ListN.{length}
use Rattle.std.specs.Prelude.{Ok, Err}
use Rattle.std.specs.Result.{IsOk}
use Rattle.table_check.specs.declared.Checked.{Checked}
use Rattle.table_format.specs.Table.{Table}
use Rattle.table_format.specs.Rules.{keeps_rules}
use Rattle.table_format.specs.Loaded.{counts_in, extent, table_in, loaded}
use Rattle.table_format.specs.Index.{first_arcs}
use Rattle.table_check.specs.Check.{layout_of, checked_as, checked}

-- the table or none, by the outcome
abbrev decided : List ℕ → Bool → maybe.Option Table
decided cells b = cond b (maybe.some (table_in cells)) maybe.none

abbrev passes : List ℕ → Bool
passes cells = leb (extent (counts_in cells)) (length cells) && keeps_rules (table_in cells)

module _ (cells : List ℕ) (r : Checked) (is : Ok r ≡ checked cells) where
  -- the parts stand where the counts say, and the index is the table's
  pub told : r ≡ record { layout = layout_of (counts_in cells); first = first_arcs (table_in cells) }
  unfolding checked loaded
  told = go (passes cells) is
    where
      go : (b : Bool) → Ok r ≡ checked_as (layout_of (counts_in cells)) (decided cells b) → r ≡ record { layout = layout_of (counts_in cells); first = first_arcs (table_in cells) }
      go true e = cc
      go false e = cc

  pub laid : r.layout ≡ layout_of (counts_in cells)
  laid = ap (λ (x : Checked). x.layout) told

  pub indexed : r.first ≡ first_arcs (table_in cells)
  indexed = ap (λ (x : Checked). x.first) told

  pub passed : loaded cells ≡ maybe.some (table_in cells)
  unfolding checked loaded
  passed = go (passes cells) is
    where
      go : (b : Bool) → Ok r ≡ checked_as (layout_of (counts_in cells)) (decided cells b) → decided cells b ≡ maybe.some (table_in cells)
      go true e = refl
      go false e = cc

pub failed : (cells : List ℕ) (r : Checked) → Err r ≡ checked cells → loaded cells ≡ maybe.none
unfolding checked loaded
failed cells r is = go (passes cells) is
  where
    go : (b : Bool) → Err r ≡ checked_as (layout_of (counts_in cells)) (decided cells b) → decided cells b ≡ maybe.none
    go true e = cc
    go false e = refl

-- it passes exactly the cells that hold a table
pub check_is : (c : List ℕ) → IsOk (checked c) ↔ ((t : Table) × (loaded c ≡ maybe.some t))
unfolding checked
check_is c = (λ e. to (loaded c) refl e, λ h. back (loaded c) h.0 h.1)
  where
    to : (p : maybe.Option Table) → loaded c ≡ p → IsOk (checked_as (layout_of (counts_in c)) p) → (t : Table) × (loaded c ≡ maybe.some t)
    to (maybe.some t) h e = (t, h)
    to maybe.none h e = cc

    back : (p : maybe.Option Table) (t : Table) → p ≡ maybe.some t → IsOk (checked_as (layout_of (counts_in c)) p)
    back (maybe.some u) t h = refl
    back maybe.none t h = cc
