-- Every line of a sheet has 72 characters and a line feed; how many characters a sheet has; which ordinal a reading has.
use Prim.Native.Nat.{ℕ, suc, ◌+◌, ◌*◌, ◌<◌, ◌≤◌}
use native.Mathlib.Omega.{arith}
use native.Mathlib.Nat.{add-zero}
use mathlib.Core.Path.{◌≡◌, refl, sym, ap, ◌∙◌}
use mathlib.Core.Bool.{Bool, true, false}
use mathlib.Core.List.{List, [], ◌∷◌, ◌++◌, map, append_assoc}
use lib.ListN.{length, length-append, length-map}
use Rattle.table_format.proofs.All.{All, all_append}
use Rattle.faces.specs.Faces.{face_of}
use Rattle.faces.specs.Lent.{most_readings}
use Rattle.faces.proofs.Lent.{Short}
use Rattle.sheet_lines.specs.Lines.{line_size, filled, reading_lines, lines_for, joined}
use Rattle.sheet_lines.specs.Laid.{IsLine}
use Rattle.sheet_lines.proofs.Lines.{filled-line, reading_lines_lem, reading-count, joined_length}
use Rattle.sheet.specs.Sheet.{opening_word, last_word, list_lines, sheet_lines, sheet_of, lines_taken, sheet_size}

list_lines_lem : (faces : List ℕ) (n : ℕ) (ws : List (List ℕ)) → All IsLine (list_lines faces n ws)
list_lines_lem faces n [] = tt
list_lines_lem faces n (w ∷ ws) =
    all_append IsLine (reading_lines n (map (face_of faces) w)) _ (reading_lines_lem n (map (face_of faces) w)) (list_lines_lem faces (suc n) ws)

pub opening-line : IsLine (filled opening_word)
opening-line = filled-line opening_word (omega arith)

pub last_line_lem : (ended : Bool) → IsLine (filled (last_word ended))
last_line_lem true = filled-line (last_word true) (omega arith)
last_line_lem false = filled-line (last_word false) (omega arith)

pub line_72 : (faces : List ℕ) (ws : List (List ℕ)) (ended : Bool) → All IsLine (sheet_lines faces ws ended)
line_72 faces ws ended = (opening-line, all_append IsLine (list_lines faces 1 ws) _ (list_lines_lem faces 1 ws) (last_line_lem ended, tt))

-- How many there are.

list_count : (faces : List ℕ) (n : ℕ) (ws : List (List ℕ)) → length (list_lines faces n ws) ≡ lines_taken ws
list_count faces n [] = refl
list_count faces n (w ∷ ws) =
    let first : length (reading_lines n (map (face_of faces) w)) ≡ lines_for (length w) = reading-count n (map (face_of faces) w) ∙ ap lines_for (length-map w (face_of faces)) in
    let more = list_count faces (suc n) ws in
    simp length-append (omega arith)

pub list-size : (faces : List ℕ) (n : ℕ) (ws : List (List ℕ)) → length (joined (list_lines faces n ws)) ≡ line_size * lines_taken ws
list-size faces n ws = joined_length (list_lines faces n ws) (list_lines_lem faces n ws) ∙ ap (λ (k : ℕ). line_size * k) (list_count faces n ws)

pub sheet_size_lem : (faces : List ℕ) (ws : List (List ℕ)) (ended : Bool) → length (sheet_of faces ws ended) ≡ sheet_size ws
unfolding sheet_of
sheet_size_lem faces ws ended = joined_length (sheet_lines faces ws ended) (line_72 faces ws ended) ∙ omega (arith, count)
  where
    count : length (list_lines faces 1 ws ++ (filled (last_word ended) ∷ [])) ≡ lines_taken ws + 1
    count = simp length-append (omega (arith, list_count faces 1 ws))

-- at most 1,000 readings of 65,535 letters: 993 lines each, one line before them and one after
taken-most : (ws : List (List ℕ)) → All Short ws → lines_taken ws ≤ 993 * length ws
taken-most [] h = omega arith
taken-most (w ∷ ws) h = let s : length w < 65536 = h.0 in let k = taken-most ws h.1 in omega arith

pub sheet-most : (ws : List (List ℕ)) → length ws ≤ most_readings → All Short ws → sheet_size ws ≤ 72489146
sheet-most ws h s = let k = taken-most ws s in omega arith

-- the lines of readings after others: their ordinals go on
list-after : (faces : List ℕ) (n : ℕ) (a b : List (List ℕ)) → list_lines faces n (a ++ b) ≡ list_lines faces n a ++ list_lines faces (n + length a) b
list-after faces n [] b = ap (λ (k : ℕ). list_lines faces k b) (sym (add-zero n))
list-after faces n (w ∷ a) b =
    let same : suc n + length a ≡ n + suc (length a) = omega arith in
    ap (λ (l : List (List ℕ)). reading_lines n (map (face_of faces) w) ++ l)
    (list-after faces (suc n) a b ∙ ap (λ (k : ℕ). list_lines faces (suc n) a ++ list_lines faces k b) same)
    ∙ sym (append_assoc (reading_lines n (map (face_of faces) w)) (list_lines faces (suc n) a) (list_lines faces (n + suc (length a)) b))

-- "Each reading has its ordinal": the one after k others has k + 1
pub ordinal_place : (faces : List ℕ) (a : List (List ℕ)) (w : List ℕ) (b : List (List ℕ))
    → list_lines faces 1 (a ++ (w ∷ b)) ≡ list_lines faces 1 a ++ (reading_lines (1 + length a) (map (face_of faces) w) ++ list_lines faces (suc (1 + length a)) b)
ordinal_place faces a w b = list-after faces 1 a (w ∷ b)
