-- What the call answers, and what it leaves in the destination: the answer sheet of the key's readings, with `END` where the run ended, else `MORE`.
use Rattle.std.specs.Prelude.{ℕ, List, Result, Err}
use Rattle.refusal.specs.declared.Refusal.{Refusal}
use Rattle.faces.specs.Lent.{lent_bytes}
use Rattle.sheet.specs.Calls.{write_answer, write_sheet}
use Rattle.key_sheet.specs.Key.{Key, key, refused, key_of}

abbrev pub answer_for : Key → (faces destination : List ℕ) → Result ℕ Refusal
answer_for (key rs ended) faces destination = write_answer (lent_bytes rs) faces ended destination
answer_for (refused r) faces destination = Err r

abbrev pub sheet_for : Key → (faces destination : List ℕ) → List ℕ
sheet_for (key rs ended) faces destination = write_sheet (lent_bytes rs) faces ended destination
sheet_for (refused r) faces destination = destination

unfoldable pub key_answer : (cells word faces destination : List ℕ) → Result ℕ Refusal
key_answer cells word faces destination = answer_for (key_of cells word) faces destination

unfoldable pub key_sheet : (cells word faces destination : List ℕ) → List ℕ
key_sheet cells word faces destination = sheet_for (key_of cells word) faces destination
