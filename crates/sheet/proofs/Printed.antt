-- The 72 characters of every line are blanks or printable, 32 to 126: the only line feeds are those at the lines' ends.
use Prim.Native.Nat.{ℕ, suc, ◌+◌, ◌-◌, ◌/◌, ◌%◌, ◌<◌, ◌≤◌}
use native.Mathlib.Omega.{arith}
use mathlib.Core.Path.{◌≡◌, refl, sym, ap, subst, ◌∙◌}
use mathlib.Core.Bool.{Bool, true, false, cond}
use mathlib.Core.List.{List, [], ◌∷◌, ◌++◌, map, append_assoc}
use lib.Dec.{ltb}
use lib.ListN.{length, get_or, take, drop, replicate, length-append, length-replicate}
use lib.Seq.{take_at, get_or-take, length-take-le}
use borrow.Author.Tests.{ltb-true, ltb-false}
use Rattle.table_format.proofs.All.{All, all_append, all_map, all-at}
use Rattle.faces.specs.Faces.{faces_hold, face_of}
use Rattle.faces.specs.Lent.{readings_hold}
use Rattle.faces.proofs.Lent.{IsLetter}
use Rattle.faces.proofs.Faces.{face_printable}
use Rattle.sheet_lines.specs.Lines.{columns, lead_columns, row_letters, filled, digit_at, ordinal_columns, rows_of, first_line, next_line, reading_lines}
use Rattle.sheet_lines.specs.Laid.{IsLine}
use Rattle.sheet.specs.Sheet.{opening_word, last_word, list_lines, sheet_lines}
use Rattle.sheet_lines.proofs.Lists.{all_replicate, take-most, all_take, all_drop}
use Rattle.sheet_lines.proofs.Lines.{Row, rows_short, rows_all}
use Rattle.faces.proofs.Facts.{readings-are}

abbrev pub Printable : ℕ → Type 0
Printable c = (32 ≤ c) × (c ≤ 126)

abbrev pub Printed : List ℕ → Type 0
Printed l = All Printable (take columns l)

blanks_printable : (n : ℕ) → All Printable (replicate n 32)
blanks_printable n = all_replicate Printable n 32 (omega arith)

filled_printed : (cs : List ℕ) → length cs ≤ columns → All Printable cs → Printed (filled cs)
unfolding filled
filled_printed cs h p =
    subst (All Printable) (sym whole) (all_append Printable cs (replicate (columns - length cs) 32) p (blanks_printable (columns - length cs)))
  where
    whole : take columns (cs ++ (replicate (columns - length cs) 32 ++ (10 ∷ []))) ≡ cs ++ replicate (columns - length cs) 32
    whole =
        ap (take columns) (sym (append_assoc cs (replicate (columns - length cs) 32) (10 ∷ [])))
        ∙ take_at (cs ++ replicate (columns - length cs) 32) (10 ∷ []) columns (simp (length-append, length-replicate) (omega arith))

digit_printable : (n place : ℕ) → Printable (digit_at n place)
digit_printable n place = go (ltb n place)
  where
    go : (b : Bool) → Printable (cond b 32 (48 + n / place % 10))
    go true = omega arith
    go false = omega arith

first_printed : (n : ℕ) (cs : List ℕ) → All Printable cs → Printed (first_line n cs)
unfolding first_line
first_printed n cs p =
    filled_printed (ordinal_columns n ++ (32 ∷ take row_letters cs)) (let k = take-most row_letters cs in omega arith)
    (all_append Printable (ordinal_columns n) (32 ∷ take row_letters cs)
    (digit_printable n 10000, (digit_printable n 1000, (digit_printable n 100, (digit_printable n 10, (omega arith, tt))))) (omega arith, all_take Printable row_letters cs p))

next_printed : (r : List ℕ) → Row r → All Printable r → Printed (next_line r)
unfolding next_line
next_printed r h p =
    filled_printed (replicate lead_columns 32 ++ r) (simp length-append (omega arith))
    (all_append Printable (replicate lead_columns 32) r (blanks_printable lead_columns) p)

rows_printed : (rs : List (List ℕ)) → All Row rs → All (All Printable) rs → All Printed (map next_line rs)
rows_printed [] h p = tt
rows_printed (r ∷ rs) h p = (next_printed r h.0 p.0, rows_printed rs h.1 p.1)

reading_printed : (n : ℕ) (cs : List ℕ) → All Printable cs → All Printed (reading_lines n cs)
unfolding reading_lines
reading_printed n cs p =
    let rest = drop row_letters cs in
    (first_printed n cs p, rows_printed (rows_of rest) (rows_short rest) (rows_all Printable rest (all_drop Printable row_letters cs p)))

last_printed : (ended : Bool) → Printed (filled (last_word ended))
last_printed true = filled_printed (last_word true) (omega arith) (omega arith)
last_printed false = filled_printed (last_word false) (omega arith) (omega arith)

module _ (faces : List ℕ) (holds : faces_hold faces ≡ true) where
  list_printed : (n : ℕ) (ws : List (List ℕ)) → All (All IsLetter) ws → All Printed (list_lines faces n ws)
  list_printed n [] v = tt
  list_printed n (w ∷ ws) v =
      let cs = map (face_of faces) w in
      let printable = all_map IsLetter Printable (face_of faces) (λ x l. let p = face_printable faces holds x l in omega arith) w v.0 in
      all_append Printed (reading_lines n cs) _ (reading_printed n cs printable) (list_printed (suc n) ws v.1)

  pub line_printed : (ws : List (List ℕ)) (ended : Bool) → readings_hold ws ≡ true → All Printed (sheet_lines faces ws ended)
  line_printed ws ended h = (
    filled_printed opening_word (omega arith) (omega arith),
    all_append Printed (list_lines faces 1 ws) _ (list_printed 1 ws ((readings-are ws).0 h).1) (last_printed ended, tt),
  )

-- a line feed is the last character of its line
pub feed-last : (l : List ℕ) → IsLine l → Printed l → (i : ℕ) → i < length l → get_or l i 0 ≡ 10 → i ≡ columns
feed-last l line p i h e = go (ltb i columns) refl
  where
    go : (b : Bool) → ltb i columns ≡ b → i ≡ columns
    go true t =
        let less : i < columns = ltb-true _ _ t in
        let q = all-at Printable (take columns l) i 0 p (omega (arith, length-take-le columns l (omega (arith, line.size)))) in
        let same : get_or (take columns l) i 0 ≡ 10 = get_or-take columns l i 0 less ∙ e in
        absurd (omega arith)
    go false t = omega (arith, line.size, ltb-false i columns t)
