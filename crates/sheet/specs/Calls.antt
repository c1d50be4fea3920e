-- What the call answers, and what it leaves in the destination that it is lent.
use Rattle.std.specs.Prelude.{ℕ, Bool, cond, ◌&&◌, List, Result, Err}
use Rattle.refusal.specs.declared.InputCause.TheVariants.{SheetFault}
use Rattle.refusal.specs.declared.Refusal.{Refusal}
use Rattle.refusal.specs.declared.Refusal.TheVariants.{Input}
use Rattle.destination.specs.Stored.{stored_answer, stored_cells}
use Rattle.faces.specs.Faces.{faces_hold}
use Rattle.faces.specs.Lent.{list_holds, list_of}
use Rattle.sheet.specs.Sheet.{sheet_of}

-- "Faces that repeat or leave that range, over 1,000 readings, one cut short or a letter outside 1 to 63 give 33, looked for first."
abbrev pub sheet_holds : List ℕ → List ℕ → Bool
sheet_holds bytes faces = faces_hold faces && list_holds bytes

-- "A short destination gives 24."
unfoldable pub write_answer : List ℕ → List ℕ → Bool → List ℕ → Result ℕ Refusal
write_answer bytes faces ended destination =
    cond (sheet_holds bytes faces) (stored_answer (sheet_of faces (list_of bytes) ended) destination) (Err (Input SheetFault))

unfoldable pub write_sheet : List ℕ → List ℕ → Bool → List ℕ → List ℕ
write_sheet bytes faces ended destination =
    cond (sheet_holds bytes faces) (stored_cells (sheet_of faces (list_of bytes) ended) destination) destination
