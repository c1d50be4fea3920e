-- Loaded cells and tables that keep the rules determine each other.
use Prim.Native.Nat.{ℕ, zero, suc, ◌+◌, ◌*◌, ◌≤◌}
use native.Mathlib.Omega.{arith}
use native.Mathlib.Nat.{add_assoc}
use mathlib.Core.Path.{◌≡◌, refl, sym, ap, ap₂, subst, ◌∙◌}
use mathlib.Core.Bool.{Bool, true, false}
use mathlib.Core.Logic.{◌↔◌}
use mathlib.Core.Option.{some}
use mathlib.Core.List.{List, [], ◌∷◌, ◌++◌, append_assoc}
use lib.Dec.{leb}
use lib.ListN.{length, get_or, take, drop, length-append, length-drop, take-append-drop}
use lib.Seq.{take-append_seam, drop-append_seam, drop-append-add, take-add, length-take-le}
use borrow.Author.Tests.{leb-true, le-leb}
use Rattle.table_format.specs.Table.{Arc, Table, Counts, counts_of}
use Rattle.table_format.specs.Classes.{class_count, row_width}
use Rattle.table_format.specs.Rules.{classes_keep, keeps_rules}
use Rattle.table_format.specs.Loaded.{arc_width, classes_at, class_cells, initials_at, count_cells, arcs_cells, rows_cells, cells_of, counts_in, arcs_in, rows_in, classes_in, terminals_at, arcs_at, extent, table_in, loaded}
use Rattle.table_format.proofs.Classes.{keep-shaped, rows_in_lem, length-rows_cells, rows_of}
use Rattle.table_format.proofs.Rules.{keeps-parts}
use Rattle.table_format.proofs.Arcs.{length-arcs}

-- Classes and their cells.

pub classes-length : (rows : List (List ℕ)) → classes_keep rows ≡ true → length (rows_cells rows) ≡ class_cells
classes-length rows keep =
    let s = keep-shaped rows keep in length-rows_cells rows s.1 ∙ ap (λ (n : ℕ). row_width * n) s.0

pub classes_in_lem : (rows : List (List ℕ)) → classes_keep rows ≡ true → (rest : List ℕ) → rows_in class_count (rows_cells rows ++ rest) ≡ rows
classes_in_lem rows keep rest = let s = keep-shaped rows keep in ap (λ (n : ℕ). rows_in n (rows_cells rows ++ rest)) (sym s.0) ∙ rows_in_lem rows rest s.1

-- Arcs and their cells.

pub arcs_in_lem : (arcs : List Arc) (rest : List ℕ) → arcs_in (length arcs) (arcs_cells arcs ++ rest) ≡ arcs
unfolding arcs_in arcs_cells
arcs_in_lem [] rest = refl
arcs_in_lem (a ∷ arcs) rest = ap (λ (l : List Arc). a ∷ l) (arcs_in_lem arcs rest)

pub length-arcs_cells : (arcs : List Arc) → length (arcs_cells arcs) ≡ arc_width * length arcs
unfolding arcs_cells
length-arcs_cells [] = refl
length-arcs_cells (a ∷ arcs) = let e : length (arcs_cells arcs) ≡ arc_width * length arcs = length-arcs_cells arcs in omega arith

-- four cells are those that are looked at
pub four : (cells : List ℕ) → 4 ≤ length cells → get_or cells 0 0 ∷ get_or cells 1 0 ∷ get_or cells 2 0 ∷ get_or cells 3 0 ∷ [] ≡ take 4 cells
four [] h = absurd (omega arith)
four (a ∷ []) h = absurd (omega arith)
four (a ∷ b ∷ []) h = absurd (omega arith)
four (a ∷ b ∷ c ∷ []) h = absurd (omega arith)
four (a ∷ b ∷ c ∷ d ∷ cells) h = refl

-- and five
five : (cells : List ℕ) → 5 ≤ length cells → get_or cells 0 0 ∷ get_or cells 1 0 ∷ get_or cells 2 0 ∷ get_or cells 3 0 ∷ get_or cells 4 0 ∷ [] ≡ take 5 cells
five [] h = absurd (omega arith)
five (a ∷ cells) h = ap (λ (l : List ℕ). a ∷ l) (four cells (omega arith))

arcs_of_lem : (n : ℕ) (cells : List ℕ) → arc_width * n ≤ length cells → arcs_cells (arcs_in n cells) ≡ take (arc_width * n) cells
unfolding arcs_in arcs_cells
arcs_of_lem zero cells h = refl
arcs_of_lem (suc n) cells h =
    ap₂ (λ (x y : List ℕ). x ++ y) (five cells (omega arith)) (arcs_of_lem n (drop arc_width cells) (simp length-drop (omega arith)))
    ∙ sym (take-add arc_width (arc_width * n) cells)
    ∙ ap (λ (k : ℕ). take k cells) step
  where
    step : arc_width + arc_width * n ≡ arc_width * suc n
    step = omega arith

-- A table's cells hold the table.

module _ (t : Table) (keep : classes_keep t.classes ≡ true) (rest : List ℕ) where
  abbrev after : List ℕ
  after = t.terminals ++ (arcs_cells t.arcs ++ rest)

  abbrev items : List ℕ
  items = t.initials ++ after

  -- the cells before the initial states
  abbrev before : List ℕ
  before = count_cells (counts_of t) ++ rows_cells t.classes

  -- the cells with what follows them
  abbrev laid : List ℕ
  laid = count_cells (counts_of t) ++ (rows_cells t.classes ++ items)

  before-length : length before ≡ initials_at
  before-length = let e : length (rows_cells t.classes) ≡ class_cells = classes-length t.classes keep in omega arith

  laid-before : laid ≡ before ++ items
  laid-before = sym (append_assoc (count_cells (counts_of t)) (rows_cells t.classes) items)

  items-laid : (n : ℕ) → drop (initials_at + n) laid ≡ drop n items
  items-laid n = ap₂ (λ (k : ℕ) (l : List ℕ). drop (k + n) l) (sym before-length) laid-before ∙ drop-append-add before items n

  laid_cells : cells_of t ++ rest ≡ laid
  unfolding cells_of
  laid_cells = simp append_assoc

  terminals-laid : drop (initials_at + length t.initials) laid ≡ after
  terminals-laid = items-laid (length t.initials) ∙ drop-append_seam t.initials after

  arcs-laid : drop (initials_at + length t.initials + length t.terminals) laid ≡ arcs_cells t.arcs ++ rest
  arcs-laid =
      ap (λ (k : ℕ). drop k laid) (add_assoc initials_at (length t.initials) (length t.terminals))
      ∙ items-laid (length t.initials + length t.terminals)
      ∙ drop-append-add t.initials after (length t.terminals)
      ∙ drop-append_seam t.terminals (arcs_cells t.arcs ++ rest)

  table-laid : table_in laid ≡ t
  unfolding table_in
  table-laid =
      λ i.
      record {
        states = t.states;
        classes = classes_in_lem t.classes keep items i;
        initials = (ap (take (length t.initials)) (items-laid 0) ∙ take-append_seam t.initials after) i;
        terminals = (ap (take (length t.terminals)) terminals-laid ∙ take-append_seam t.terminals (arcs_cells t.arcs ++ rest)) i;
        arcs = (ap (arcs_in (length t.arcs)) arcs-laid ∙ arcs_in_lem t.arcs rest) i;
      }

  pub table_in_lem : table_in (cells_of t ++ rest) ≡ t
  table_in_lem = ap table_in laid_cells ∙ table-laid

  pub counts_in_lem : counts_in (cells_of t ++ rest) ≡ counts_of t
  counts_in_lem = ap counts_in laid_cells

pub length-cells : (t : Table) → classes_keep t.classes ≡ true → length (cells_of t) ≡ extent (counts_of t)
unfolding cells_of
length-cells t keep = simp (length-append, length-arcs_cells, classes-length t.classes keep) (omega arith)

pub loaded-cells : (t : Table) (rest : List ℕ) → keeps_rules t ≡ true → loaded (cells_of t ++ rest) ≡ some t
unfolding loaded
loaded-cells t rest keeps = simp (whole, table_in_lem t keep rest, keeps)
  where
    keep : classes_keep t.classes ≡ true
    keep = ((keeps-parts t).0 keeps).classes

    fits : extent (counts_of t) ≤ length (cells_of t ++ rest)
    fits = simp (length-append, length-cells t keep) (omega arith)

    whole : leb (extent (counts_in (cells_of t ++ rest))) (length (cells_of t ++ rest)) ≡ true
    whole = ap (λ (c : Counts). leb (extent c) (length (cells_of t ++ rest))) (counts_in_lem t keep rest) ∙ le-leb _ _ fits

-- Cells that hold a table whole begin with its cells.

module _ (cells : List ℕ) (fits : extent (counts_in cells) ≤ length cells) where
  pub counts_of_lem : counts_of (table_in cells) ≡ counts_in cells
  unfolding table_in
  counts_of_lem =
      λ i.
      record {
        states = get_or cells 0 0;
        initials = length-take-le (get_or cells 1 0) (drop initials_at cells) (simp length-drop (omega arith)) i;
        terminals = length-take-le (get_or cells 2 0) (drop (terminals_at (counts_in cells)) cells) (simp length-drop (omega arith)) i;
        arcs = length-arcs (get_or cells 3 0) (drop (arcs_at (counts_in cells)) cells) i;
      }

  parts : List ℕ
  parts = rows_cells (table_in cells).classes ++ ((table_in cells).initials ++ ((table_in cells).terminals ++ arcs_cells (table_in cells).arcs))

  cells-split : take (extent (counts_in cells)) cells ≡ count_cells (counts_in cells) ++ parts
  unfolding table_in parts
  cells-split = take-add (initials_at + i + m) (arc_width * a) cells ∙ ap₂ ◌++◌ to-arcs (sym arcs) ∙ simp append_assoc
    where
      i : ℕ
      i = get_or cells 1 0

      m : ℕ
      m = get_or cells 2 0

      a : ℕ
      a = get_or cells 3 0

      -- the counts and the classes
      front : List ℕ
      front = count_cells (counts_in cells) ++ rows_cells (classes_in cells)

      to-initials : take initials_at cells ≡ front
      to-initials =
          take-add classes_at class_cells cells
          ∙ ap₂ ◌++◌ (sym (four cells (omega arith))) (sym (rows_of class_count (drop classes_at cells) (simp length-drop (omega arith))))

      to-terminals : take (initials_at + i) cells ≡ front ++ take i (drop initials_at cells)
      to-terminals = take-add initials_at i cells ∙ ap (λ (l : List ℕ). l ++ take i (drop initials_at cells)) to-initials

      to-arcs : take (initials_at + i + m) cells ≡ front ++ take i (drop initials_at cells) ++ take m (drop (initials_at + i) cells)
      to-arcs = take-add (initials_at + i) m cells ∙ ap (λ (l : List ℕ). l ++ take m (drop (initials_at + i) cells)) to-terminals

      arcs : arcs_cells (arcs_in a (drop (initials_at + i + m) cells)) ≡ take (arc_width * a) (drop (initials_at + i + m) cells)
      arcs = arcs_of_lem a (drop (initials_at + i + m) cells) (simp length-drop (omega arith))

  cells_of_lem : cells_of (table_in cells) ≡ take (extent (counts_in cells)) cells
  unfolding cells_of parts
  cells_of_lem = ap (λ (c : Counts). count_cells c ++ parts) counts_of_lem ∙ sym cells-split

  pub cells-begin : cells ≡ cells_of (table_in cells) ++ drop (length (cells_of (table_in cells))) cells
  cells-begin = sym (take-append-drop n cells) ∙ ap₂ (λ (x : List ℕ) (k : ℕ). x ++ drop k cells) (sym cells_of_lem) (sym size)
    where
      n : ℕ
      n = extent (counts_in cells)

      size : length (cells_of (table_in cells)) ≡ n
      size = ap length cells_of_lem ∙ length-take-le n cells fits

pub cells-loaded : (cells : List ℕ) (t : Table) → loaded cells ≡ some t
    → (keeps_rules t ≡ true) × (cells ≡ cells_of t ++ drop (length (cells_of t)) cells)
unfolding loaded
cells-loaded cells t e = go (leb (extent (counts_in cells)) (length cells)) (keeps_rules (table_in cells)) refl refl
  where
    go : (a b : Bool) → leb (extent (counts_in cells)) (length cells) ≡ a → keeps_rules (table_in cells) ≡ b
        → (keeps_rules t ≡ true) × (cells ≡ cells_of t ++ drop (length (cells_of t)) cells)
    go true true p q =
        let same : table_in cells ≡ t = cc in (
          ap keeps_rules (sym same) ∙ q,
          subst (λ (u : Table). cells ≡ cells_of u ++ drop (length (cells_of u)) cells) same (cells-begin cells (leb-true _ _ p)),
        )
    go true false p q = let z : ◌≡◌ {A = ℕ} 0 1 = cc in absurd (omega arith)
    go false b p q = let z : ◌≡◌ {A = ℕ} 0 1 = cc in absurd (omega arith)

-- Both together.
pub loads : (cells : List ℕ) (t : Table)
    → (loaded cells ≡ some t) ↔ ((keeps_rules t ≡ true) × (cells ≡ cells_of t ++ drop (length (cells_of t)) cells))
loads cells t = (cells-loaded cells t, λ h. ap loaded h.1 ∙ loaded-cells t (drop (length (cells_of t)) cells) h.0)
