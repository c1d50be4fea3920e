-- Runs of stored characters: byte after byte, the line that they make, and line after line.
use Prim.Native.Nat.{ℕ, suc, ◌+◌, ◌*◌, ◌/◌, ◌%◌, ◌<◌, ◌≤◌}
use native.Mathlib.Omega.{arith}
use native.Mathlib.Numerals.{add-one}
use mathlib.Core.Path.{◌≡◌, refl, sym, ap, ◌∙◌}
use mathlib.Core.Bool.{Bool, true, false}
use mathlib.Core.List.{List, [], ◌∷◌, ◌++◌, map}
use lib.Dec.{eqb, ltb}
use lib.ListN.{length, get_or, take, drop, set, length-append, drop_of_length-le, get_or-eq_default}
use lib.Seq.{sets, drop-cons, take-suc, take-suc-set}
use borrow.Author.Tests.{ltb-true, ltb-false, eqb-true, eqb-false}
use Rattle.std.specs.Int.{w16, to_be_bytes}
use Rattle.hexadecimal.specs.Hex.{encoded}
use Rattle.table_format.specs.Table.{Arc, no_arc}
use Rattle.table_format.specs.Classes.{class_count, row_width, letters_in}
use Rattle.table_format.specs.Loaded.{class_cells}
use Rattle.table_format.specs.Line.{chars_of, line_text, characters_of}
use Rattle.table_format.specs.Text.{class_bytes, arc_bytes, join_lines}
use Rattle.table_format.specs.Parse.{arc_line, penalty_width}
use Rattle.table_format.specs.Cells.{arc_count, arc_of, arcs_as}
use Rattle.table_format.proofs.Arcs.{length-arcs, get_d_arcs}
use Rattle.table_format.proofs.Line.{length-chars}
use Rattle.table_format.proofs.Penalties.{line-without, line_with_lem}
use Rattle.table_format.proofs.Stores.{then, byte-stored}
use Rattle.table_classes.proofs.Letters.{letters_open, row_from, lines_from, row-long, row-cell, lines_defined, lines_undefined, lines_none}

-- The two bytes of a number, high byte first.

pub high_byte : (bytes : List ℕ) (n : ℕ) → n < 65536 → bytes ≡ to_be_bytes w16 n → get_or bytes 0 0 ≡ n / 256
high_byte bytes n h e = ap (λ (l : List ℕ). get_or l 0 0) e ∙ omega arith

pub low_byte : (bytes : List ℕ) (n : ℕ) → bytes ≡ to_be_bytes w16 n → get_or bytes 1 0 ≡ n % 256
low_byte bytes n e = ap (λ (l : List ℕ). get_or l 1 0) e ∙ omega arith

-- The elements left of a list: the one looked at, and those after it.

left : {A : Type 0} (d : A) (list : List A) (k : ℕ) → k < length list → drop k list ≡ get_or list k d ∷ drop (k + 1) list
left d list k h = drop-cons list k d h ∙ ap (λ (i : ℕ). get_or list k d ∷ drop i list) (sym (add-one k))

-- Where the first of the bytes left is stored, storing the others is storing them all.

pub bytes-turn : (text : List ℕ) (to next : ℕ) (bytes : List ℕ) (k : ℕ) {d : List ℕ} → k < length bytes → next ≡ to + 2 → d ≡ encoded (get_or bytes k 0)
    → sets (set (set text to (get_or d 0 0)) (to + 1) (get_or d 1 0)) next (chars_of (drop (k + 1) bytes)) ≡ sets text to (chars_of (drop k bytes))
unfolding chars_of encoded
bytes-turn text to next bytes k h n e =
    let b : ℕ = get_or bytes k 0 in
    let digits = ap (λ (l : List ℕ). get_or l 0 0 ∷ get_or l 1 0 ∷ []) e in
    then text _ _ to next (chars_of (b ∷ [])) (chars_of (drop (k + 1) bytes)) (byte-stored text to b _ _ digits) n refl
    ∙ ap (λ (l : List ℕ). sets text to (chars_of l)) (sym (left 0 bytes k h))

pub bytes-end : (text : List ℕ) (to : ℕ) (bytes : List ℕ) (k : ℕ) → length bytes ≤ k → sets text to (chars_of (drop k bytes)) ≡ text
unfolding chars_of
bytes-end text to bytes k h = ap (λ (l : List ℕ). sets text to (chars_of l)) (drop_of_length-le bytes h)

-- the line feed after the bytes
pub line-stored : (text m bytes : List ℕ) (at : ℕ) → m ≡ sets text at (chars_of bytes) → set m (at + 2 * length bytes) 10 ≡ sets text at (line_text bytes)
line-stored text m bytes at p =
    then text m _ at (at + 2 * length bytes) (chars_of bytes) (10 ∷ []) p (omega (arith, length-chars bytes)) refl

-- the same line by equal bytes
pub line_as : (text m b d : List ℕ) (at : ℕ) → b ≡ d → m ≡ sets text at (line_text b) → m ≡ sets text at (line_text d)
line_as text m b d at e p = p ∙ ap (λ (x : List ℕ). sets text at (line_text x)) e

-- how many characters a line has
pub length-line : (b : List ℕ) → length (line_text b) ≡ characters_of (length b)
length-line b = length-append (chars_of b) (10 ∷ []) ∙ omega (arith, length-chars b)

-- and the place after it
pub line_told_lem : (text m b d : List ℕ) (at after : ℕ) → b ≡ d → (after ≡ at + characters_of (length b)) × (m ≡ sets text at (line_text b))
    → (after ≡ at + length (line_text d)) × (m ≡ sets text at (line_text d))
line_told_lem text m b d at after e p = (p.0 ∙ ap (λ (x : List ℕ). at + characters_of (length x)) e ∙ ap (λ (n : ℕ). at + n) (sym (length-line d)), line_as text m b d at e p.1)

-- A turn of a loop that writes lines: where the first of the lines left is stored, storing the others is storing them all.

turn : (l m : List ℕ) (at to : ℕ) (b : List ℕ) (bs : List (List ℕ)) → m ≡ sets l at (line_text b) → to ≡ at + length (line_text b)
    → sets m to (join_lines bs) ≡ sets l at (join_lines (b ∷ bs))
unfolding join_lines
turn l m at to b bs p e = then l m _ at to (line_text b) (join_lines bs) p e refl

module _ {A : Type 0} (f : A → List ℕ) (d : A) where
  pub lines-turn : (l m : List ℕ) (at to : ℕ) (list : List A) (k : ℕ) → k < length list → m ≡ sets l at (line_text (f (get_or list k d)))
      → to ≡ at + length (line_text (f (get_or list k d))) → sets m to (join_lines (map f (drop (k + 1) list))) ≡ sets l at (join_lines (map f (drop k list)))
  lines-turn l m at to list k h p e =
      turn l m at to (f (get_or list k d)) (map f (drop (k + 1) list)) p e ∙ ap (λ (xs : List A). sets l at (join_lines (map f xs))) (sym (left d list k h))

  -- so many characters more
  pub lines-size : (list : List A) (k : ℕ) → k < length list
      → length (join_lines (map f (drop k list))) ≡ length (line_text (f (get_or list k d))) + length (join_lines (map f (drop (k + 1) list)))
  unfolding join_lines
  lines-size list k h =
      ap (λ (xs : List A). length (join_lines (map f xs))) (left d list k h)
      ∙ length-append (line_text (f (get_or list k d))) (join_lines (map f (drop (k + 1) list)))

  -- no line is left
  pub lines_end : (list : List A) (k : ℕ) → length list ≤ k → join_lines (map f (drop k list)) ≡ []
  unfolding join_lines
  lines_end list k h = ap (λ (xs : List A). join_lines (map f xs)) (drop_of_length-le list h)

-- The lines of arcs.

-- how many characters the line of an arc has, by its penalty
pub plain_size : (a : Arc) → a.penalty ≡ 0 → length (line_text (arc_bytes a)) ≡ arc_line
plain_size a e = length-line (arc_bytes a) ∙ ap (λ (b : List ℕ). characters_of (length b)) (line-without a e)

pub penalised-size : (a : Arc) → (a.penalty ≡ 0 → ⊥) → length (line_text (arc_bytes a)) ≡ characters_of penalty_width
penalised-size a h = length-line (arc_bytes a) ∙ ap (λ (b : List ℕ). characters_of (length b)) (line_with_lem a h)

-- at most so many
arc-most : (a : Arc) → length (line_text (arc_bytes a)) ≤ characters_of penalty_width
arc-most a = go (eqb a.penalty 0) refl
  where
    go : (b : Bool) → eqb a.penalty 0 ≡ b → length (line_text (arc_bytes a)) ≤ characters_of penalty_width
    go true e = omega (arith, plain_size a (eqb-true a.penalty 0 e))
    go false e = omega (arith, penalised-size a (eqb-false a.penalty 0 e))

pub arcs-most : (arcs : List Arc) → length (join_lines (map arc_bytes arcs)) ≤ characters_of penalty_width * length arcs
unfolding join_lines
arcs-most [] = omega arith
arcs-most (a ∷ arcs) = omega (arith, length-append (line_text (arc_bytes a)) (join_lines (map arc_bytes arcs)), arc-most a, arcs-most arcs)

module _ (cells : List ℕ) (n : ℕ) (h : n < arc_count cells) where
  arc-left : n < length (arcs_as cells)
  arc-left = omega (arith, length-arcs (arc_count cells) cells)

  arc-there : get_or (arcs_as cells) n no_arc ≡ arc_of cells n
  arc-there = get_d_arcs (arc_count cells) cells n no_arc h

  -- the line of the arc of number n is the first of those left
  pub arcs-turn : (l m : List ℕ) (at to : ℕ) → m ≡ sets l at (line_text (arc_bytes (arc_of cells n))) → to ≡ at + length (line_text (arc_bytes (arc_of cells n)))
      → sets m to (join_lines (map arc_bytes (drop (n + 1) (arcs_as cells)))) ≡ sets l at (join_lines (map arc_bytes (drop n (arcs_as cells))))
  arcs-turn l m at to p e =
      lines-turn arc_bytes no_arc l m at to (arcs_as cells) n arc-left (p ∙ ap (λ (a : Arc). sets l at (line_text (arc_bytes a))) (sym arc-there))
      (e ∙ ap (λ (a : Arc). at + length (line_text (arc_bytes a))) (sym arc-there))

  pub arcs-size : length (join_lines (map arc_bytes (drop n (arcs_as cells))))
      ≡ length (line_text (arc_bytes (arc_of cells n))) + length (join_lines (map arc_bytes (drop (n + 1) (arcs_as cells))))
  arcs-size =
      lines-size arc_bytes no_arc (arcs_as cells) n arc-left
      ∙ ap (λ (a : Arc). length (line_text (arc_bytes a)) + length (join_lines (map arc_bytes (drop (n + 1) (arcs_as cells))))) arc-there

pub arcs-end : (cells : List ℕ) (n : ℕ) → arc_count cells ≤ n → join_lines (map arc_bytes (drop n (arcs_as cells))) ≡ []
arcs-end cells n h = lines_end arc_bytes no_arc (arcs_as cells) n (omega (arith, length-arcs (arc_count cells) cells))

-- The lines of classes.

-- bytes that begin with the kind, the class and the first letters of a row: one letter more, and all of them
module _ (class : ℕ) (row bytes : List ℕ) (k : ℕ) (front : take (k + 2) bytes ≡ 6 ∷ class ∷ take k row) where
  pub letter-put : k < length row → k + 2 < length bytes → take (k + 1 + 2) (set bytes (k + 2) (get_or row k 0)) ≡ 6 ∷ class ∷ take (k + 1) row
  letter-put h i =
      ap (λ (n : ℕ). take n (set bytes (k + 2) (get_or row k 0))) {x = k + 1 + 2} {y = suc (k + 2)} (omega arith)
      ∙ take-suc-set bytes (k + 2) (get_or row k 0) i
      ∙ ap (λ (l : List ℕ). l ++ (get_or row k 0 ∷ [])) front
      ∙ ap (λ (l : List ℕ). 6 ∷ class ∷ l) (sym (take-suc row k 0 h) ∙ ap (λ (n : ℕ). take n row) (sym (add-one k)))

  pub letters-put : (count : ℕ) → count ≡ k → k ≡ length (letters_in row) → take (count + 2) bytes ≡ class_bytes class row
  letters-put count e a =
      ap (λ (n : ℕ). take (n + 2) bytes) e ∙ front ∙ ap (λ (l : List ℕ). 6 ∷ class ∷ l) (ap (λ (n : ℕ). take n row) a ∙ letters_open row)

module _ (cells : List ℕ) (c : ℕ) where
  -- the letters of a row of bytes are bytes
  pub row-bytes : length cells ≡ class_cells → c < class_count → ((i : ℕ) → get_or cells i 0 < 256) → (i : ℕ) → get_or (row_from c cells) i 0 < 256
  row-bytes e h f i = go (ltb i row_width) refl
    where
      go : (b : Bool) → ltb i row_width ≡ b → get_or (row_from c cells) i 0 < 256
      go true p = omega (arith, row-cell cells c i (ltb-true i row_width p), f (row_width * c + i))
      go false p = omega (arith, get_or-eq_default (row_from c cells) 0 {n = i} (omega (arith, ltb-false i row_width p, row-long cells c e h)))

  -- where class c is defined, its line is the first of those left
  pub class_turn : (l m : List ℕ) (at to : ℕ) → c < class_count → (get_or cells (row_width * c) 0 ≡ 0 → ⊥) → m ≡ sets l at (line_text (class_bytes c (row_from c cells)))
      → to ≡ at + length (line_text (class_bytes c (row_from c cells))) → sets m to (join_lines (lines_from (c + 1) cells)) ≡ sets l at (join_lines (lines_from c cells))
  class_turn l m at to h n p e =
      turn l m at to (class_bytes c (row_from c cells)) (lines_from (c + 1) cells) p e ∙ ap (λ (bs : List (List ℕ)). sets l at (join_lines bs)) (sym (lines_defined cells c h n))

  -- so many characters more
  pub class_size_lem : c < class_count → (get_or cells (row_width * c) 0 ≡ 0 → ⊥)
      → length (join_lines (lines_from c cells)) ≡ length (line_text (class_bytes c (row_from c cells))) + length (join_lines (lines_from (c + 1) cells))
  unfolding join_lines
  class_size_lem h n =
      ap (λ (bs : List (List ℕ)). length (join_lines bs)) (lines_defined cells c h n)
      ∙ length-append (line_text (class_bytes c (row_from c cells))) (join_lines (lines_from (c + 1) cells))

  -- where it is not, those left are the same
  pub class_skip : c < class_count → get_or cells (row_width * c) 0 ≡ 0 → join_lines (lines_from c cells) ≡ join_lines (lines_from (c + 1) cells)
  class_skip h e = ap join_lines (lines_undefined cells c h e)

  -- no line is left
  pub classes-end : class_count ≤ c → join_lines (lines_from c cells) ≡ []
  unfolding join_lines
  classes-end h = ap join_lines (lines_none cells c h)
