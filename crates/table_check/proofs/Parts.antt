-- The parts of cells that hold a table whole are the table's lists; with them the rules are those of the table.
use Prim.Native.Nat.{ℕ, zero, suc, ◌+◌, ◌-◌, ◌*◌, ◌≤◌, ◌<◌}
use native.Mathlib.Omega.{arith}
use mathlib.Core.Path.{◌≡◌, refl, sym, ap, ap₂, ◌∙◌}
use mathlib.Core.Bool.{Bool, true, false, cond, ◌&&◌, and_assoc}
use mathlib.Core.Option.{none, some}
use mathlib.Core.List.{List, [], ◌∷◌}
use lib.Dec.{leb}
use lib.ListN.{length, get_or, take, drop, length-drop}
use lib.Seq.{length-take-le, take-nil, take-take}
use borrow.Author.Tests.{le-leb, lt-leb}
use Rattle.table_check.specs.declared.Layout.{Layout}
use Rattle.table_format.specs.Table.{Arc, counts_of}
use Rattle.table_format.specs.Classes.{class_count, row_width}
use Rattle.table_format.specs.Rules.{counts_hold, classes_keep, initials_keep, terminals_keep, arcs_keep, penalties_keep, keeps_rules}
use Rattle.table_format.specs.Loaded.{arc_width, classes_at, initials_at, counts_in, arcs_in, rows_in, extent, table_in, loaded}
use Rattle.table_format.specs.Index.{first_index, first_arcs}
use Rattle.table_format.specs.Cells.{counts_as, arc_count, arcs_as}
use Rattle.table_check.specs.Check.{LaidOut, layout_of, initials_part, terminals_part, arcs_part}
use Rattle.table_format.proofs.Arcs.{at_equal, arcs-take}
use Rattle.table_format.proofs.Rules.{header_clear, keeps-parts, counts-bounded}
use Rattle.table_format.proofs.Loaded.{counts_of_lem}

-- a part from the front, less its own front
drop-take : (k n : ℕ) (cells : List ℕ) → drop k (take (k + n) cells) ≡ take n (drop k cells)
drop-take zero n cells = at_equal (λ m. take m cells) (0 + n) n (omega arith)
drop-take (suc k) n [] = ap (drop (suc k)) (take-nil (suc k + n)) ∙ sym (take-nil n)
drop-take (suc k) n (x ∷ cells) = at_equal (λ m. drop (suc k) (take m (x ∷ cells))) (suc k + n) (suc (k + n)) (omega arith) ∙ drop-take k n cells

-- the rows of a part from the front are the first ones
rows_take : (n : ℕ) (cells : List ℕ) → rows_in n (take (row_width * n) cells) ≡ rows_in n cells
unfolding rows_in
rows_take zero cells = refl
rows_take (suc n) cells =
    at_equal (λ m. rows_in (suc n) (take m cells)) (row_width * suc n) (row_width + row_width * n) (omega arith)
    ∙ ap₂ (λ (row rest : List ℕ). row ∷ rows_in n rest) (take-take row_width (row_width + row_width * n) cells (omega arith)) (drop-take row_width (row_width * n) cells)
    ∙ ap (λ (rows : List (List ℕ)). take row_width cells ∷ rows) (rows_take n (drop row_width cells))

-- the cells of the classes
abbrev pub classes_part : List ℕ → List ℕ
classes_part cells = take (initials_at - classes_at) (drop classes_at cells)

-- their rows are the table's
pub classes_part_lem : (cells : List ℕ) → rows_in class_count (classes_part cells) ≡ (table_in cells).classes
unfolding table_in
classes_part_lem cells = rows_take class_count (drop classes_at cells)

module _ (cells : List ℕ) (l : Layout) (L : LaidOut cells l) where
  pub initials_part_lem : initials_part cells l ≡ (table_in cells).initials
  unfolding table_in
  initials_part_lem =
      at_equal (λ n. take n (drop l.initials cells)) (l.terminals - l.initials) (get_or cells 1 0) (omega arith)
      ∙ ap (λ (n : ℕ). take (get_or cells 1 0) (drop n cells)) L.initials-is

  pub terminals_part_lem : terminals_part cells l ≡ (table_in cells).terminals
  unfolding table_in
  terminals_part_lem =
      at_equal (λ n. take n (drop l.terminals cells)) (l.arcs - l.terminals) (get_or cells 2 0) (omega arith)
      ∙ ap (λ (n : ℕ). take (get_or cells 2 0) (drop n cells)) L.terminals-is

  pub arcs-length : length (arcs_part cells l) ≡ arc_width * get_or cells 3 0
  arcs-length = length-take-le (l.end - l.arcs) (drop l.arcs cells) (simp length-drop (omega arith)) ∙ omega arith

  pub arcs_part_lem : arcs_as (arcs_part cells l) ≡ (table_in cells).arcs
  unfolding table_in
  arcs_part_lem =
      at_equal (λ n. arcs_in n (arcs_part cells l)) (arc_count (arcs_part cells l)) (get_or cells 3 0) (let e = arcs-length in omega arith)
      ∙ arcs-take (get_or cells 3 0) (l.end - l.arcs) (drop l.arcs cells) (omega arith) (simp length-drop (omega arith))
      ∙ ap (λ (n : ℕ). arcs_in (get_or cells 3 0) (drop n cells)) L.arcs-is

  states-part : (table_in cells).states ≡ l.states
  unfolding table_in
  states-part = sym L.states-is

  -- the rules, part by part
  pub rules-parts : keeps_rules (table_in cells)
      ≡ ((((counts_hold (counts_as l.states (get_or cells 1 0) (get_or cells 2 0) (get_or cells 3 0)) && classes_keep (rows_in class_count (classes_part cells)))
      && initials_keep l.states (initials_part cells l))
      && terminals_keep l.states (terminals_part cells l))
      && (arcs_keep l.states (rows_in class_count (classes_part cells)) (arcs_as (arcs_part cells l)) && penalties_keep (arcs_as (arcs_part cells l))))
  unfolding keeps_rules
  rules-parts =
      ap₂ ◌&&◌ (header_clear (counts_of (table_in cells)) ∙ ap counts_hold (counts_of_lem cells L.whole ∙ ap (λ (n : ℕ). counts_as n (get_or cells 1 0) (get_or cells 2 0) (get_or cells 3 0)) (sym L.states-is)))
      (ap₂ ◌&&◌ (ap classes_keep (sym (classes_part_lem cells)))
      (ap₂ ◌&&◌ (ap₂ initials_keep states-part (sym initials_part_lem))
      (ap₂ ◌&&◌ (ap₂ terminals_keep states-part (sym terminals_part_lem)) (λ i. arcs_keep (states-part i) (sym (classes_part_lem cells) i) (sym arcs_part_lem i) && penalties_keep (sym arcs_part_lem i)))))
      ∙ simp (← and_assoc)

  -- what the index asks, where the rules are kept, and what it is of
  pub index-ready : keeps_rules (table_in cells) ≡ true
      → ((arc_count (arcs_part cells l) ≤ 1024) × (l.states ≤ 256)) × ((rows : List (List ℕ)) × (arcs_keep l.states rows (arcs_as (arcs_part cells l)) ≡ true))
  index-ready e =
      let k = (keeps-parts (table_in cells)).0 e in
      let b = counts-bounded (counts_in cells) (sym (ap counts_hold (counts_of_lem cells L.whole)) ∙ k.counts) in
      ((omega (arith, arcs-length, b.arcs), omega (arith, b.states, L.states-is)), ((table_in cells).classes, ap₂ (λ (n : ℕ) (arcs : List Arc). arcs_keep n (table_in cells).classes arcs) (sym states-part) arcs_part_lem ∙ k.arcs))

  pub index-part : first_index l.states (arcs_as (arcs_part cells l)) ≡ first_arcs (table_in cells)
  index-part = ap₂ first_index (sym states-part) arcs_part_lem

pub laid_out : (cells : List ℕ) (l : Layout) → l ≡ layout_of (counts_in cells) → l.end ≤ length cells → LaidOut cells l
laid_out cells l e h =
    record {
      states-is = ap (λ (x : Layout). x.states) e;
      initials-is = ap (λ (x : Layout). x.initials) e;
      terminals-is = ap (λ (x : Layout). x.terminals) e;
      arcs-is = ap (λ (x : Layout). x.arcs) e;
      end_is = ap (λ (x : Layout). x.end) e;
      whole = omega (arith, ap (λ (x : Layout). x.end) e);
    }

-- 20, decided

pub loaded-kept : (cells : List ℕ) → extent (counts_in cells) ≤ length cells → keeps_rules (table_in cells) ≡ true → loaded cells ≡ some (table_in cells)
unfolding loaded
loaded-kept cells h e = simp (le-leb (extent (counts_in cells)) (length cells) h, e)

pub loaded-broken : (cells : List ℕ) → keeps_rules (table_in cells) ≡ false → loaded cells ≡ none
unfolding loaded
loaded-broken cells e = go (leb (extent (counts_in cells)) (length cells))
  where
    go : (b : Bool) → cond (b && keeps_rules (table_in cells)) (some (table_in cells)) none ≡ none
    go true = simp e
    go false = refl

pub loaded-short : (cells : List ℕ) → length cells < extent (counts_in cells) → loaded cells ≡ none
unfolding loaded
loaded-short cells h = simp (lt-leb (extent (counts_in cells)) (length cells) h)
