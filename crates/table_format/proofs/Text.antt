-- Numbers of two bytes, the bytes of each kind of line and what they say, and the length of a table's text.
use Prim.Native.Nat.{ℕ, zero, suc, ◌+◌, ◌*◌, ◌/◌, ◌%◌, ◌<◌, ◌≤◌}
use native.Mathlib.Omega.{arith}
use mathlib.Core.Path.{◌≡◌, refl, sym, ap, ap₂, subst, ◌∙◌}
use mathlib.Core.Bool.{Bool, true, false, cond, not, and-eq-true_iff}
use mathlib.Core.Logic.{◌⊎◌, inl, inr}
use mathlib.Core.List.{List, [], ◌∷◌, ◌++◌, map, append_assoc, append-nil}
use lib.ListN.{length, get_or, length-append}
use lib.Dec.{eqb}
use borrow.Author.Tests.{eqb-true, eq-eqb, le-leb, not-true}
use Rattle.table_format.specs.Table.{Arc, Table, no_arc, Counts, counts_of}
use Rattle.table_format.specs.Classes.{class_count}
use Rattle.table_format.specs.Rules.{penalty_holds, penalties_keep, keeps_rules}
use Rattle.table_format.specs.Index.{tabulate}
use Rattle.table_format.specs.Line.{line_text, characters_of}
use Rattle.table_format.specs.Text.{number, header_bytes, initial_bytes, terminal_bytes, field_bytes, arc_bytes, end_bytes, header_width, line_bytes, class_lines, lines_before, item_lines, join_lines, text_of}
use Rattle.table_format.specs.Parse.{has_form, header_kind, is_header, initial, terminal, arc, end, number_at, counts_from, arc_from, code_of, width_of, penalty_kind, penalty_width, is_penalised, is_of, header_line, state_line}
use Rattle.table_format.specs.Cells.{arc_with}
use Rattle.table_format.proofs.Tests.{or_cases}
use Rattle.table_format.proofs.All.{All, all_append, all_map, all_get_d, all-at, all-mem, all_from}
use Rattle.table_format.proofs.Each.{each_from}
use Rattle.table_format.proofs.Rules.{keeps-parts, Bounded, ArcBounded, table-bounded, initials-below, terminals-below, arcs-bounded, penalties-bounded}
use Rattle.table_format.proofs.Classes.{rows_hold_lem}
use Rattle.table_format.proofs.Line.{IsByte, Bytes, length-chars}
use Rattle.table_format.proofs.ClassLines.{RowKeeps, few-lines, class_lines-bytes, class_lines-size}

-- Numbers of two bytes.

pub number_value : (n : ℕ) → n / 256 * 256 + n % 256 ≡ n
number_value n = omega arith

pub number_exact : (h l : ℕ) → l < 256 → number (h * 256 + l) ≡ h ∷ l ∷ []
number_exact h l k = ap₂ (λ (x y : ℕ). x ∷ y ∷ []) q r
  where
    q : (h * 256 + l) / 256 ≡ h
    q = omega arith

    r : (h * 256 + l) % 256 ≡ l
    r = omega arith

-- A list is the elements that are looked at.

tabulate-shift : (f : ℕ → ℕ) (i n : ℕ) → tabulate f (suc i) n ≡ tabulate (λ j. f (suc j)) i n
tabulate-shift f i zero = refl
tabulate-shift f i (suc n) = ap (λ (l : List ℕ). f (suc i) ∷ l) (tabulate-shift f (suc i) n)

pub tabulated : (b : List ℕ) → b ≡ tabulate (λ i. get_or b i 0) 0 (length b)
tabulated [] = refl
tabulated (x ∷ b) = ap (λ (l : List ℕ). x ∷ l) (tabulated b ∙ sym (tabulate-shift (λ i. get_or (x ∷ b) i 0) 0 (length b)))

-- What the bytes of a line say; bytes of a kind are those of what they say.

-- a line has its kind's first byte and length
form_parts : (code width : ℕ) (b : List ℕ) → has_form code width b ≡ true → (get_or b 0 0 ≡ code) × (b ≡ tabulate (λ i. get_or b i 0) 0 width)
form_parts code width b e =
    let h = (and-eq-true_iff _ _).0 e in
    (eqb-true _ _ h.0, tabulated b ∙ ap (tabulate (λ i. get_or b i 0) 0) (eqb-true (length b) width h.1))

pub header_says : (c : Counts) → counts_from (header_bytes c) ≡ c
header_says c =
    λ i.
    record {
      states = number_value c.states i;
      initials = number_value c.initials i;
      terminals = number_value c.terminals i;
      arcs = number_value c.arcs i;
    }

pub arc-says : (a : Arc) → arc_from (arc_bytes a) ≡ a
arc-says a = go (eqb a.penalty 0) refl
  where
    says : (p : ℕ) → p ≡ a.penalty → arc_with (number_at (0 ∷ number a.source) 1) a.upper a.lower (number_at (0 ∷ number a.target) 1) p ≡ a
    says p e = λ i. record { source = number_value a.source i; upper = a.upper; lower = a.lower; target = number_value a.target i; penalty = e i }

    go : (b : Bool) → eqb a.penalty 0 ≡ b → arc_from (cond b (code_of arc ∷ field_bytes a) (penalty_kind ∷ (field_bytes a ++ (a.penalty ∷ [])))) ≡ a
    go true e = says 0 (sym (eqb-true a.penalty 0 e))
    go false e = says a.penalty refl

module _ (b : List ℕ) (small : All IsByte b) where
  number-here : (i : ℕ) → number (number_at b i) ≡ get_or b i 0 ∷ get_or b (i + 1) 0 ∷ []
  number-here i = number_exact (get_or b i 0) (get_or b (i + 1) 0) (all_get_d IsByte b (i + 1) 0 (omega arith) small)

  pub header_only : is_header b ≡ true → b ≡ header_bytes (counts_from b)
  header_only e =
      let p = form_parts header_kind header_width b e in
      p.1 ∙ sym (λ i. sym p.0 i ∷ (number-here 1 i ++ (number-here 3 i ++ (number-here 5 i ++ number-here 7 i))))

  -- the bytes of an arc line, by whether it has a penalty
  arc-by : (c : Bool) → eqb (arc_from b).penalty 0 ≡ c
      → arc_bytes (arc_from b) ≡ cond c (code_of arc ∷ field_bytes (arc_from b)) (penalty_kind ∷ (field_bytes (arc_from b) ++ ((arc_from b).penalty ∷ [])))
  arc-by c e = ap (λ (x : Bool). cond x (code_of arc ∷ field_bytes (arc_from b)) (penalty_kind ∷ (field_bytes (arc_from b) ++ ((arc_from b).penalty ∷ [])))) e

  pub arc-only : is_of arc b ≡ true → b ≡ arc_bytes (arc_from b)
  arc-only e = go (or_cases (has_form (code_of arc) (width_of arc) b) (is_penalised b) e)
    where
      plain : has_form (code_of arc) (width_of arc) b ≡ true → b ≡ arc_bytes (arc_from b)
      plain h =
          let p = form_parts (code_of arc) (width_of arc) b h in
          p.1 ∙ sym (λ i. sym p.0 i ∷ (number-here 1 i ++ (get_or b 3 0 ∷ get_or b 4 0 ∷ number-here 5 i)))
          ∙ sym (arc-by true (eq-eqb (get_or b 7 0) 0 (ap (λ (l : List ℕ). get_or l 7 0) p.1)))

      penalised : is_penalised b ≡ true → b ≡ arc_bytes (arc_from b)
      penalised h =
          let k = (and-eq-true_iff (has_form penalty_kind penalty_width b) (not (eqb (arc_from b).penalty 0))).0 h in
          let p = form_parts penalty_kind penalty_width b k.0 in
          p.1 ∙ sym (λ i. sym p.0 i ∷ (number-here 1 i ++ (get_or b 3 0 ∷ get_or b 4 0 ∷ number-here 5 i) ++ (get_or b 7 0 ∷ [])))
          ∙ sym (arc-by false (not-true (eqb (arc_from b).penalty 0) k.1))

      go : (has_form (code_of arc) (width_of arc) b ≡ true) ⊎ (is_penalised b ≡ true) → b ≡ arc_bytes (arc_from b)
      go (inl h) = plain h
      go (inr h) = penalised h

  -- a line of one number
  short-only : (code : ℕ) → has_form code (width_of initial) b ≡ true → b ≡ code ∷ number (number_at b 1)
  short-only code e = let p = form_parts code (width_of initial) b e in p.1 ∙ sym (λ i. sym p.0 i ∷ number-here 1 i)

  pub initial-only : is_of initial b ≡ true → b ≡ initial_bytes (number_at b 1)
  initial-only = short-only (code_of initial)

  pub terminal-only : is_of terminal b ≡ true → b ≡ terminal_bytes (number_at b 1)
  terminal-only = short-only (code_of terminal)

  pub end-only : is_of end b ≡ true → b ≡ end_bytes (number_at b 1)
  end-only = short-only (code_of end)

-- arcs whose lines say bytes have penalties within their limit
pub bytes-penalties : (arcs : List Arc) (rest : List (List ℕ)) → All (All IsByte) (map arc_bytes arcs ++ rest) → penalties_keep arcs ≡ true
bytes-penalties arcs rest small =
    each_from (λ before a. penalty_holds a) no_arc arcs
    (λ k h. let p : (get_or arcs k no_arc).penalty < 256 = all-at (λ (a : Arc). a.penalty < 256) arcs k no_arc (go arcs small) h in le-leb (get_or arcs k no_arc).penalty 255 (omega arith))
  where
    go : (bs : List Arc) → All (All IsByte) (map arc_bytes bs ++ rest) → All (λ a. a.penalty < 256) bs
    go [] h = tt
    go (a ∷ bs) h = (subst (λ (b : Arc). b.penalty < 256) (arc-says a) (all_get_d IsByte (arc_bytes a) 7 0 (omega arith) h.0), go bs h.1)

-- a line of an arc is one
pub arc-is : (a : Arc) → is_of arc (arc_bytes a) ≡ true
arc-is a = go (eqb a.penalty 0) refl
  where
    go : (b : Bool) → eqb a.penalty 0 ≡ b → is_of arc (cond b (code_of arc ∷ field_bytes a) (penalty_kind ∷ (field_bytes a ++ (a.penalty ∷ [])))) ≡ true
    go true e = refl
    go false e = ap not e

-- The lines of a table that keeps the rules say bytes.

module _ (t : Table) (keeps : keeps_rules t ≡ true) where
  bounds : Bounded (counts_of t)
  bounds = table-bounded t keeps

  header_bytes_lem : Bytes (header_bytes (counts_of t))
  header_bytes_lem = let b = bounds in record { some = refl; small = omega arith }

  -- lines of one state each
  states-bytes : (f : ℕ → List ℕ) → ((s : ℕ) → s < 256 → Bytes (f s)) → (xs : List ℕ) → All (λ s. s < t.states) xs → All Bytes (map f xs)
  states-bytes f law xs p = let b = bounds in all_map (λ (s : ℕ). s < t.states) Bytes f (λ s h. law s (omega arith)) xs p

  initials-bytes : All Bytes (map initial_bytes t.initials)
  initials-bytes = states-bytes initial_bytes (λ s h. record { some = refl; small = omega arith }) t.initials (initials-below t keeps)

  terminals-bytes : All Bytes (map terminal_bytes t.terminals)
  terminals-bytes = states-bytes terminal_bytes (λ s h. record { some = refl; small = omega arith }) t.terminals (terminals-below t keeps)

  arcs-bytes : All Bytes (map arc_bytes t.arcs)
  arcs-bytes =
      let b = bounds in
      all_map (λ (a : Arc). ArcBounded t.states a × (a.penalty ≤ 255)) Bytes arc_bytes (λ a h. one a h.0 h.1) t.arcs
      (all_from _ t.arcs (λ a m. (all-mem (ArcBounded t.states) t.arcs (arcs-bounded t keeps) a m, all-mem (λ c. c.penalty ≤ 255) t.arcs (penalties-bounded t keeps) a m)))
    where
      one : (a : Arc) → ArcBounded t.states a → a.penalty ≤ 255 → Bytes (arc_bytes a)
      one a h p = go (eqb a.penalty 0)
        where
          go : (c : Bool) → Bytes (cond c (code_of arc ∷ field_bytes a) (penalty_kind ∷ (field_bytes a ++ (a.penalty ∷ []))))
          go true = let b = bounds in record { some = refl; small = omega arith }
          go false = let b = bounds in record { some = refl; small = omega arith }

  rows-keep : (length t.classes ≡ class_count) × All RowKeeps t.classes
  rows-keep = (rows_hold_lem t.classes).0 ((keeps-parts t).0 keeps).classes

  classes-bytes : All Bytes (class_lines 0 t.classes)
  classes-bytes = let h : length t.classes ≡ class_count = rows-keep.0 in class_lines-bytes 0 t.classes (omega arith) rows-keep.1

  pub lines-below : lines_before t < 65536
  lines-below = let b = bounds in let h : length t.classes ≡ class_count = rows-keep.0 in omega (arith, few-lines 0 t.classes)

  -- "there are 0 to 8"
  pub classes-few : length (class_lines 0 t.classes) ≤ class_count
  classes-few = let h : length t.classes ≡ class_count = rows-keep.0 in omega (arith, few-lines 0 t.classes)

  -- the characters of the class lines
  pub classes-size : length (join_lines (class_lines 0 t.classes)) ≤ class_count * characters_of line_bytes
  classes-size = let h : length t.classes ≡ class_count = rows-keep.0 in omega (arith, class_lines-size 0 t.classes rows-keep.1)

  end_bytes_lem : Bytes (end_bytes (lines_before t))
  end_bytes_lem = let h : lines_before t < 65536 = lines-below in record { some = refl; small = omega arith }

  pub lines-bytes : All Bytes (header_bytes (counts_of t) ∷ item_lines t)
  unfolding item_lines
  lines-bytes = (
    header_bytes_lem,
    all_append Bytes (class_lines 0 t.classes) _ classes-bytes
        (all_append Bytes (map initial_bytes t.initials) _ initials-bytes
        (all_append Bytes (map terminal_bytes t.terminals) _ terminals-bytes
        (all_append Bytes (map arc_bytes t.arcs) (end_bytes (lines_before t) ∷ []) arcs-bytes (end_bytes_lem, tt)))),
  )

-- The parts of a table's text, and its length.

join_append : (bs cs : List (List ℕ)) → join_lines (bs ++ cs) ≡ join_lines bs ++ join_lines cs
unfolding join_lines
join_append [] cs = refl
join_append (b ∷ bs) cs = ap (λ (l : List ℕ). line_text b ++ l) (join_append bs cs) ∙ sym (append_assoc (line_text b) (join_lines bs) (join_lines cs))

pub text-parts : (t : Table)
    → text_of t
    ≡ line_text (header_bytes (counts_of t))
    ++ (join_lines (class_lines 0 t.classes)
    ++ (join_lines (map initial_bytes t.initials)
    ++ (join_lines (map terminal_bytes t.terminals) ++ (join_lines (map arc_bytes t.arcs) ++ line_text (end_bytes (lines_before t))))))
unfolding text_of item_lines join_lines
text-parts t =
    ap (λ (l : List ℕ). line_text (header_bytes (counts_of t)) ++ l)
    (join_append (class_lines 0 t.classes) _
    ∙ ap (λ (l : List ℕ). join_lines (class_lines 0 t.classes) ++ l)
    (join_append (map initial_bytes t.initials) _
    ∙ ap (λ (l : List ℕ). join_lines (map initial_bytes t.initials) ++ l)
    (join_append (map terminal_bytes t.terminals) _
    ∙ ap (λ (l : List ℕ). join_lines (map terminal_bytes t.terminals) ++ l)
    (join_append (map arc_bytes t.arcs) _
    ∙ ap (λ (l : List ℕ). join_lines (map arc_bytes t.arcs) ++ l) (append-nil (line_text (end_bytes (lines_before t))))))))

pub length-lines : {A : Type 0} (f : A → List ℕ) (w : ℕ) → ((x : A) → length (f x) ≡ w) → (xs : List A)
    → length (join_lines (map f xs)) ≡ characters_of w * length xs
unfolding join_lines
length-lines f w law [] = omega arith
length-lines f w law (x ∷ xs) = simp (length-append, length-chars, law, length-lines f w law xs) (omega arith)

pub length-text : (t : Table) → length (text_of t) ≡ header_line + length (join_lines (class_lines 0 t.classes)) + state_line * length t.initials + state_line * length t.terminals + length (join_lines (map arc_bytes t.arcs)) + state_line
length-text t =
    let is : length (join_lines (map initial_bytes t.initials)) ≡ state_line * length t.initials = length-lines initial_bytes (width_of initial) (λ s. refl) t.initials in
    let ts : length (join_lines (map terminal_bytes t.terminals)) ≡ state_line * length t.terminals = length-lines terminal_bytes (width_of terminal) (λ s. refl) t.terminals in
    ap length (text-parts t) ∙ simp (length-append, length-chars, is, ts) (omega arith)
