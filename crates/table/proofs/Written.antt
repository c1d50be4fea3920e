-- What the writer leaves: the lines of the table that the cells hold, stored one after the other, are the table's text.
use Prim.Native.Nat.{ℕ, zero, suc, ◌+◌, ◌*◌, ◌<◌, ◌≤◌}
use native.Mathlib.Omega.{arith}
use mathlib.Core.Path.{◌≡◌, refl, sym, ap, ap₂, subst, ◌∙◌}
use mathlib.Core.Option.{some}
use mathlib.Core.List.{List, [], ◌∷◌, ◌++◌, map}
use lib.ListN.{length, get_or, drop, length-drop}
use lib.Seq.{sets, sets-eq, length-take-le}
use Rattle.table_check.specs.declared.Layout.{Layout}
use Rattle.table_format.specs.Table.{Arc, Table, Counts, counts_of}
use Rattle.table_format.specs.Classes.{class_count}
use Rattle.table_format.specs.Loaded.{arc_width, classes_at, class_cells, counts_in, arc_in, arcs_in, rows_in, classes_in, table_in, loaded}
use Rattle.table_format.specs.Line.{chars_of, line_text, characters_of}
use Rattle.table_format.specs.Text.{header_bytes, initial_bytes, terminal_bytes, arc_bytes, end_bytes, line_bytes, class_lines, lines_before, join_lines, text_of}
use Rattle.table_format.specs.Parse.{initial, terminal, width_of, header_line, state_line, penalty_width}
use Rattle.table_format.specs.Cells.{arc_count, arcs_as}
use Rattle.table_check.specs.Check.{layout_of, LaidOut, arcs_part}
use Rattle.table_format.proofs.All.{All, all_get_d}
use Rattle.table_format.proofs.Rules.{keeps-parts, ArcBounded, arcs-bounded, penalties-bounded}
use Rattle.table_format.proofs.Classes.{cells-small, rows_of}
use Rattle.table_format.proofs.Loaded.{counts_of_lem}
use Rattle.table_check.proofs.Parts.{classes_part, classes_part_lem, arcs_part_lem, arcs-length, laid_out}
use Rattle.table_check.proofs.Holding.{Holding, holding}
use Rattle.table_format.proofs.Line.{IsByte}
use Rattle.table_format.proofs.Text.{text-parts, classes-few, classes-size, length-lines, length-text}
use Rattle.table_format.proofs.Stores.{then}
use Rattle.table_printer.proofs.Lines.{length-line, arcs-most}

-- the lines of the classes in cells
abbrev pub lines_in : List ℕ → List (List ℕ)
lines_in cells = class_lines 0 (rows_in class_count (classes_part cells))

lines_in_lem : (cells : List ℕ) → lines_in cells ≡ class_lines 0 (table_in cells).classes
lines_in_lem cells = ap (class_lines 0) (classes_part_lem cells)

-- the letters of classes that keep the rules are bytes
classes-bytes : (cells : List ℕ) → Holding cells → (i : ℕ) → get_or (classes_part cells) i 0 < 256
unfolding table_in
classes-bytes cells h i =
    let keep = ((keeps-parts (table_in cells)).0 h.keeps).classes in
    let same = rows_of class_count (drop classes_at cells) (simp length-drop (omega arith)) in
    omega (arith, cells-small (classes_in cells) keep i, ap (λ (l : List ℕ). get_or l i 0) same)

-- what cells that hold a table say of its text
pub record HeldText (cells : List ℕ) : Type 0 where
  pub holds : Holding cells
  pub classes-length : length (classes_part cells) ≡ class_cells
  pub letters : (i : ℕ) → get_or (classes_part cells) i 0 < 256
  pub few-classes : length (lines_in cells) ≤ class_count
  pub classes-size : length (join_lines (lines_in cells)) ≤ class_count * characters_of line_bytes
  pub arcs-size : length (join_lines (map arc_bytes (table_in cells).arcs)) ≤ characters_of penalty_width * get_or cells 3 0
  pub size : length (text_of (table_in cells))
      ≡ header_line + length (join_lines (lines_in cells)) + state_line * get_or cells 1 0 + state_line * get_or cells 2 0 + length (join_lines (map arc_bytes (table_in cells).arcs)) + state_line

pub held-text : (cells : List ℕ) → loaded cells ≡ some (table_in cells) → HeldText cells
held-text cells l =
    let h = holding cells l in
    let e = counts_of_lem cells h.whole in
    let i = ap (λ (c : Counts). c.initials) e in
    let m = ap (λ (c : Counts). c.terminals) e in
    let a = ap (λ (c : Counts). c.arcs) e in
    let z = length-text (table_in cells) in
    let few = ap length (lines_in_lem cells) in
    let characters = ap (λ (ls : List (List ℕ)). length (join_lines ls)) (lines_in_lem cells) in
    record {
      holds = h;
      classes-length = length-take-le class_cells (drop classes_at cells) (simp length-drop (omega arith));
      letters = classes-bytes cells h;
      few-classes = omega (arith, classes-few (table_in cells) h.keeps);
      classes-size = omega (arith, classes-size (table_in cells) h.keeps);
      arcs-size = omega (arith, arcs-most (table_in cells).arcs);
      size = omega arith;
    }

-- every cell of arcs between at most 256 states, with penalties of at most 255, is a byte
arcs-bytes : (states n : ℕ) (cells : List ℕ) → states ≤ 256 → length cells ≡ arc_width * n → All (ArcBounded states) (arcs_in n cells)
    → All (λ a. a.penalty ≤ 255) (arcs_in n cells) → All IsByte cells
unfolding arcs_in
arcs-bytes states n [] s e p q = tt
arcs-bytes states zero (x ∷ cells) s e p q = absurd (omega arith)
arcs-bytes states (suc n) (x ∷ []) s e p q = absurd (omega arith)
arcs-bytes states (suc n) (x ∷ y ∷ []) s e p q = absurd (omega arith)
arcs-bytes states (suc n) (x ∷ y ∷ z ∷ []) s e p q = absurd (omega arith)
arcs-bytes states (suc n) (x ∷ y ∷ z ∷ w ∷ []) s e p q = absurd (omega arith)
arcs-bytes states (suc n) (x ∷ y ∷ z ∷ w ∷ v ∷ cells) s e p q =
    let b : ArcBounded states (arc_in (x ∷ y ∷ z ∷ w ∷ v ∷ cells)) = p.0 in
    (omega arith, (omega arith, (omega arith, (omega arith, (omega (arith, q.0), arcs-bytes states n cells s (omega arith) p.1 q.1)))))

-- the layout by the counts is that of cells that hold a table
pub laid_at : (cells : List ℕ) (l : Layout) → l ≡ layout_of (counts_in cells) → loaded cells ≡ some (table_in cells) → LaidOut cells l
laid_at cells l e holds = let h = held-text cells holds in let at = ap (λ (x : Layout). x.end) e in laid_out cells l e (omega arith)

-- the arcs' cells, of which each is a byte
module _ (cells zs : List ℕ) (l : Layout) (laid : LaidOut cells l) (h : HeldText cells) (e : zs ≡ arcs_part cells l) where
  pub arcs_count : length zs ≡ arc_width * get_or cells 3 0
  arcs_count = ap length e ∙ arcs-length cells l laid

  pub arcs_bytes : (i : ℕ) → get_or zs i 0 < 256
  arcs_bytes =
      let c = counts_of_lem cells h.holds.whole in
      let states = ap (λ (x : Counts). x.states) c in
      let n = arcs_count in
      let b = h.holds.bounds in
      let same = ap arcs_as e ∙ arcs_part_lem cells l laid in
      λ i.
      all_get_d IsByte zs i 0 (omega arith)
      (arcs-bytes (table_in cells).states (arc_count zs) zs (omega arith) (omega arith)
      (subst (All (ArcBounded (table_in cells).states)) (sym same) (arcs-bounded (table_in cells) h.holds.keeps))
      (subst (All (λ a. a.penalty ≤ 255)) (sym same) (penalties-bounded (table_in cells) h.holds.keeps)))

-- how many there are of each
pub initials_count : (cells : List ℕ) → HeldText cells → (xs : List ℕ) → xs ≡ (table_in cells).initials → length xs ≡ get_or cells 1 0
initials_count cells h xs e = ap length e ∙ ap (λ (c : Counts). c.initials) (counts_of_lem cells h.holds.whole)

pub terminals_count : (cells : List ℕ) → HeldText cells → (xs : List ℕ) → xs ≡ (table_in cells).terminals → length xs ≡ get_or cells 2 0
terminals_count cells h xs e = ap length e ∙ ap (λ (c : Counts). c.terminals) (counts_of_lem cells h.holds.whole)

pub arcs_characters : (cells zs : List ℕ) → arcs_as zs ≡ (table_in cells).arcs → length (join_lines (map arc_bytes (arcs_as zs))) ≡ length (join_lines (map arc_bytes (table_in cells).arcs))
arcs_characters cells zs e = ap (λ (l : List Arc). length (join_lines (map arc_bytes l))) e

-- the lists of the table that cells hold
module _ (cells : List ℕ) (h : HeldText cells) (xs ys zs : List ℕ) (e₁ : xs ≡ (table_in cells).initials) (e₂ : ys ≡ (table_in cells).terminals) (e₃ : arcs_as zs ≡ (table_in cells).arcs) where
  -- where the arcs' lines begin, a text of n characters that has room for all lines has room for the rest
  module _ (n m p₂ p₃ p₄ : ℕ) (room : length (text_of (table_in cells)) ≤ m) (same : n ≡ m)
      (q₂ : p₂ ≡ header_line + length (join_lines (lines_in cells))) (q₃ : p₃ ≡ p₂ + state_line * length xs) (q₄ : p₄ ≡ p₃ + state_line * length ys) where
    pub arcs_fit : p₄ + length (join_lines (map arc_bytes (arcs_as zs))) ≤ n
    arcs_fit = let i = initials_count cells h xs e₁ in let c = terminals_count cells h ys e₂ in let a = arcs_characters cells zs e₃ in omega arith

    pub end_fits : (p₅ : ℕ) → p₅ ≡ p₄ + length (join_lines (map arc_bytes (arcs_as zs))) → p₅ + state_line ≤ n
    end_fits p₅ q₅ = let i = initials_count cells h xs e₁ in let c = terminals_count cells h ys e₂ in let a = arcs_characters cells zs e₃ in omega arith

  -- the lines of a table, one run after the other, are its text, with what stood after it
  pub written : (d m₁ m₂ m₃ m₄ m₅ m₆ : List ℕ) (n p₂ p₃ p₄ p₅ : ℕ) → length (text_of (table_in cells)) ≤ length d
      → n ≡ length (lines_in cells)
      → m₁ ≡ sets d 0 (line_text (header_bytes (counts_in cells)))
      → (p₂ ≡ header_line + length (join_lines (lines_in cells))) × (m₂ ≡ sets m₁ header_line (join_lines (lines_in cells)))
      → (p₃ ≡ p₂ + state_line * length xs) × (m₃ ≡ sets m₂ p₂ (join_lines (map initial_bytes xs)))
      → (p₄ ≡ p₃ + state_line * length ys) × (m₄ ≡ sets m₃ p₃ (join_lines (map terminal_bytes ys)))
      → (p₅ ≡ p₄ + length (join_lines (map arc_bytes (arcs_as zs)))) × (m₅ ≡ sets m₄ p₄ (join_lines (map arc_bytes (arcs_as zs))))
      → m₆ ≡ sets m₅ p₅ (line_text (end_bytes (1 + n + get_or cells 1 0 + get_or cells 2 0 + get_or cells 3 0)))
      → m₆ ≡ text_of (table_in cells) ++ drop (length (text_of (table_in cells))) d
  unfolding chars_of
  written d m₁ m₂ m₃ m₄ m₅ m₆ n p₂ p₃ p₄ p₅ room q₀ q₁ q₂ q₃ q₄ q₅ q₆ =
      let t : Table = table_in cells in
      let e : counts_in cells ≡ counts_of t = sym (counts_of_lem cells h.holds.whole) in
      let f : lines_in cells ≡ class_lines 0 t.classes = lines_in_lem cells in
      let c₁ = length-lines initial_bytes (width_of initial) (λ s. refl) t.initials in
      let c₂ = length-lines terminal_bytes (width_of terminal) (λ s. refl) t.terminals in
      let k = ap (λ (ls : List (List ℕ)). length (join_lines ls)) f in
      let i = ap length e₁ in
      let m = ap length e₂ in
      let j = arcs_characters cells zs e₃ in
      let a = ap (λ (c : Counts). c.arcs) e in
      let r₁ = q₁ ∙ ap (λ (c : Counts). sets d 0 (line_text (header_bytes c))) e in
      let r₂ = q₂.1 ∙ ap (λ (ls : List (List ℕ)). sets m₁ header_line (join_lines ls)) f in
      let r₃ = q₃.1 ∙ ap (λ (xs : List ℕ). sets m₂ p₂ (join_lines (map initial_bytes xs))) e₁ in
      let r₄ = q₄.1 ∙ ap (λ (xs : List ℕ). sets m₃ p₃ (join_lines (map terminal_bytes xs))) e₂ in
      let r₅ = q₅.1 ∙ ap (λ (xs : List Arc). sets m₄ p₄ (join_lines (map arc_bytes xs))) e₃ in
      let r₆ = q₆ ∙ ap₂ (λ (x : ℕ) (c : Counts). sets m₅ p₅ (line_text (end_bytes (1 + x + c.initials + c.terminals + c.arcs)))) (q₀ ∙ ap length f) e in
      let w₅ : List ℕ = join_lines (map arc_bytes t.arcs) ++ line_text (end_bytes (lines_before t)) in
      let w₄ : List ℕ = join_lines (map terminal_bytes t.terminals) ++ w₅ in
      let w₃ : List ℕ = join_lines (map initial_bytes t.initials) ++ w₄ in
      let w₂ : List ℕ = join_lines (class_lines 0 t.classes) ++ w₃ in
      let s₅ = then m₄ m₅ m₆ p₄ p₅ (join_lines (map arc_bytes t.arcs)) (line_text (end_bytes (lines_before t))) r₅ (omega arith) r₆ in
      let s₄ = then m₃ m₄ m₆ p₃ p₄ (join_lines (map terminal_bytes t.terminals)) w₅ r₄ (omega arith) s₅ in
      let s₃ = then m₂ m₃ m₆ p₂ p₃ (join_lines (map initial_bytes t.initials)) w₄ r₃ (omega arith) s₄ in
      let s₂ = then m₁ m₂ m₆ header_line p₂ (join_lines (class_lines 0 t.classes)) w₃ r₂ (omega arith) s₃ in
      let s₁ = then d m₁ m₆ 0 header_line (line_text (header_bytes (counts_of t))) w₂ r₁ (omega (arith, length-line (header_bytes (counts_of t)))) s₂ in
      let same : 0 + length (text_of t) ≡ length (text_of t) = omega arith in
      s₁ ∙ ap (sets d 0) (sym (text-parts t)) ∙ sets-eq (text_of t) d 0 (omega arith) ∙ ap (λ (k : ℕ). text_of t ++ drop k d) same
