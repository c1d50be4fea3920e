-- What the sheet and the call that writes it come to, by their contracts, stated together: `write_answer` and `write_sheet` are what the call answers
-- and leaves, for any bytes, faces and destination; `opens_with` and `last_word_in` are what is read of a text. How it is shown is in the files named.
use Prim.Native.Nat.{ℕ, suc, ◌+◌, ◌≤◌, ◌<◌}
use mathlib.Core.Path.{◌≡◌}
use mathlib.Core.Logic.{◌↔◌}
use mathlib.Core.Bool.{Bool, true, false, cond}
use mathlib.Core.Option.{some}
use mathlib.Core.List.{List, ◌∷◌, ◌++◌, map}
use lib.ListN.{length, get_or, take, drop}
use Rattle.refusal.specs.declared.InputCause.TheVariants.{SheetFault}
use Rattle.refusal.specs.declared.StateCause.TheVariants.{DestinationShort}
use Rattle.refusal.specs.declared.Refusal.{Refusal}
use Rattle.refusal.specs.declared.Refusal.TheVariants.{Input, State}
use Rattle.std.specs.Prelude.{Some, Ok, Err}
use Rattle.table_format.specs.Ruled.{Differ}
use Rattle.table_format.proofs.All.{All}
use Rattle.table_format.proofs.Line.{IsByte}
use Rattle.faces.specs.Faces.{face_count, faces_hold, face_of}
use Rattle.faces.specs.Lent.{lent_bytes, lent_in, most_readings, readings_hold, list_of}
use Rattle.faces.proofs.Lent.{IsLetter, Short}
use Rattle.faces.proofs.Lent as lent
use Rattle.sheet.specs.declared.LastWord.TheVariants.{End, More}
use Rattle.sheet_lines.specs.Lines.{columns, line_size, filled, ordinal_columns, reading_lines}
use Rattle.sheet_lines.specs.Laid.{IsLine, Aligned, columns_say, Laid}
use Rattle.sheet.specs.Sheet.{opening_word, last_word, list_lines, sheet_lines, sheet_of, sheet_size}
use Rattle.sheet.specs.Read.{opens_with, last_line, last_word_in}
use Rattle.sheet.specs.Calls.{sheet_holds, write_answer, write_sheet}
use Rattle.sheet.proofs.Sheet as lines
use Rattle.sheet_lines.proofs.Ordinal as ordinals
use Rattle.sheet_lines.proofs.Laid as layout
use Rattle.faces.proofs.Facts.{IsFace}
use Rattle.faces.proofs.Facts as facts
use Rattle.sheet.proofs.Printed.{Printed}
use Rattle.sheet.proofs.Printed as printed
use Rattle.sheet.proofs.Back as reading
use Rattle.sheet.proofs.Read as ends
use Rattle.sheet.proofs.Calls as calls

-- THE SHEET, of any readings over any faces.

-- "Lay the readings out on lines of exactly 72 characters plus a line feed."
pub line_72 : (faces : List ℕ) (ws : List (List ℕ)) (ended : Bool) → All IsLine (sheet_lines faces ws ended)
line_72 = lines.line_72

-- and these are printable characters and blanks, 32 to 126, where faces and readings hold: line feeds are nowhere else
pub line_printed : (faces : List ℕ) → faces_hold faces ≡ true → (ws : List (List ℕ)) (ended : Bool) → readings_hold ws ≡ true → All Printed (sheet_lines faces ws ended)
line_printed = printed.line_printed

pub feed-last : (l : List ℕ) → IsLine l → Printed l → (i : ℕ) → i < length l → get_or l i 0 ≡ 10 → i ≡ columns
feed-last = printed.feed-last

-- "An empty reading takes one line", a longer one another for each further 66 letters begun (`lines_for`); no sheet of 1,000 readings is longer than 72,489,146 characters
pub sheet_size_lem : (faces : List ℕ) (ws : List (List ℕ)) (ended : Bool) → length (sheet_of faces ws ended) ≡ sheet_size ws
sheet_size_lem = lines.sheet_size_lem

pub sheet-most : (ws : List (List ℕ)) → length ws ≤ most_readings → All Short ws → sheet_size ws ≤ 72489146
sheet-most = lines.sheet-most

-- "Each reading has its ordinal": the one after k others has k + 1
pub ordinal_place : (faces : List ℕ) (a : List (List ℕ)) (w : List ℕ) (b : List (List ℕ))
    → list_lines faces 1 (a ++ (w ∷ b)) ≡ list_lines faces 1 a ++ (reading_lines (1 + length a) (map (face_of faces) w) ++ list_lines faces (suc (1 + length a)) b)
ordinal_place = lines.ordinal_place

-- "right-aligned in 5 columns": these columns and no others
pub ordinal_says : (n : ℕ) → n < 100000 → columns_say (ordinal_columns n) ≡ n
ordinal_says = ordinals.ordinal_says

pub ordinal_aligned : (n : ℕ) → 0 < n → n < 100000 → Aligned (ordinal_columns n)
ordinal_aligned = ordinals.ordinal_aligned

pub aligned-only : (cs : List ℕ) (n : ℕ) → length cs ≡ 5 → Aligned cs → columns_say cs ≡ n → cs ≡ ordinal_columns n
aligned-only = ordinals.aligned-only

-- "Each reading has its ordinal .., a blank, and 66 columns for letters; longer readings go on in lines that begin with 6 blanks. An empty
-- reading takes one line.": a reading's lines are laid so, as `Laid` says in facts, and no others are
pub reading-laid : (n : ℕ) (cs : List ℕ) → 0 < n → n < 100000 → Laid n cs (reading_lines n cs)
reading-laid = layout.reading-laid

pub laid-only : (n : ℕ) (cs : List ℕ) (ls : List (List ℕ)) → Laid n cs ls → ls ≡ reading_lines n cs
laid-only = layout.laid-only

-- "Two sheets over the same faces are equal only if their lists and their last words are."
pub sheet_injective : (faces : List ℕ) → faces_hold faces ≡ true → (a b : List (List ℕ)) (e g : Bool) → readings_hold a ≡ true → readings_hold b ≡ true
    → sheet_of faces a e ≡ sheet_of faces b g → (a ≡ b) × (e ≡ g)
sheet_injective = reading.sheet_injective

-- WHAT IS LENT: "each as its length (two bytes, high first) and its letters". A list and the bytes that lend it determine each other.

pub spelled-lent : (ws : List (List ℕ)) → lent_in (lent_bytes ws) ≡ some ws
spelled-lent = lent.spelled-lent

pub lent-spelled : (bytes : List ℕ) (ws : List (List ℕ)) → All IsByte bytes → lent_in bytes ≡ some ws → bytes ≡ lent_bytes ws
lent-spelled = lent.lent-spelled

-- "A face table gives each letter 1 to 63 one printable character, 33 to 126 in ASCII", none of them twice
pub faces-are : (faces : List ℕ) → (faces_hold faces ≡ true) ↔ ((length faces ≡ face_count) × All IsFace faces × Differ faces)
faces-are = facts.faces-are

-- what holds: such faces, and no reading cut short, at most 1,000 of them, and letters 1 to 63
pub holds-is : (bytes faces : List ℕ) → (sheet_holds bytes faces ≡ true)
    ↔ ((length faces ≡ face_count) × All IsFace faces × Differ faces × ((ws : List (List ℕ)) × (lent_in bytes ≡ some ws) × (length ws ≤ most_readings) × All (All IsLetter) ws))
holds-is = calls.holds-is

-- THE CALL, on any bytes, faces and destination.
module _ (bytes faces : List ℕ) (ended : Bool) (d : List ℕ) where
  -- done, exactly where these hold and there is room for the sheet, whose size is told
  pub write_is : (n : ℕ) → (write_answer bytes faces ended d ≡ Ok n) ↔ ((sheet_holds bytes faces ≡ true) × (n ≡ sheet_size (list_of bytes)) × (n ≤ length d))
  write_is = calls.write_is bytes faces ended d

  -- "A longer one is untouched beyond that."
  pub write_leaves : sheet_holds bytes faces ≡ true → sheet_size (list_of bytes) ≤ length d
      → write_sheet bytes faces ended d ≡ sheet_of faces (list_of bytes) ended ++ drop (sheet_size (list_of bytes)) d
  write_leaves = calls.write_leaves bytes faces ended d

  -- "Faces that repeat or leave that range, over 1,000 readings, one cut short or a letter outside 1 to 63 give 33, looked for first."
  pub write_fault : (write_answer bytes faces ended d ≡ Err (Input SheetFault)) ↔ (sheet_holds bytes faces ≡ false)
  write_fault = calls.write_fault bytes faces ended d

  -- "A short destination gives 24."
  pub write_short : (write_answer bytes faces ended d ≡ Err (State DestinationShort)) ↔ ((sheet_holds bytes faces ≡ true) × (length d < sheet_size (list_of bytes)))
  write_short = calls.write_short bytes faces ended d

  -- "every lent buffer holds what it held before"
  pub write_refused : (r : Refusal) → write_answer bytes faces ended d ≡ Err r → write_sheet bytes faces ended d ≡ d
  write_refused = calls.write_refused bytes faces ended d

  -- no call writes more
  pub written-most : (n : ℕ) → All IsByte bytes → write_answer bytes faces ended d ≡ Ok n → n ≤ 72489146
  written-most = calls.written-most bytes faces ended d

-- Two calls over the same faces that left equal sheets were lent equal lists, and so the same bytes, and equal last words.
module _ (faces x y : List ℕ) (e g : Bool) (d c : List ℕ) (n m : ℕ) (p : write_answer x faces e d ≡ Ok n) (q : write_answer y faces g c ≡ Ok m)
    (same : take n (write_sheet x faces e d) ≡ take m (write_sheet y faces g c)) where
  pub written_one : (lent_in x ≡ lent_in y) × (e ≡ g)
  written_one = calls.written_one faces x y e g d c n m p q same

  pub written-bytes : All IsByte x → All IsByte y → x ≡ y
  written-bytes = calls.written-bytes faces x y e g d c n m p q same

-- READ BACK: "Every sheet opens with the line `READINGS`", "The last line is `END` if the run ended, else `MORE`".

pub opens_told : (faces : List ℕ) (ws : List (List ℕ)) (ended : Bool) → opens_with (sheet_of faces ws ended) ≡ true
opens_told = ends.opens_told

pub last-told : (faces : List ℕ) (ws : List (List ℕ)) (ended : Bool) → last_word_in (sheet_of faces ws ended) ≡ Some (cond ended End More)
last-told = ends.last-told

-- "written and compared exactly": of any text
pub opens_is : (text : List ℕ) → (opens_with text ≡ true) ↔ (take line_size text ≡ filled opening_word)
opens_is = ends.opens_is

pub last_is_lem : (text : List ℕ) (ended : Bool) → (last_word_in text ≡ Some (cond ended End More)) ↔ (last_line text ≡ filled (last_word ended))
last_is_lem = ends.last_is_lem
