-- What a key's sheet tells: that of a run that ended shows exactly the ways to cut the word, each once, in order, each on its lines.
use Rattle.std.specs.Prelude.{ℕ, ◌+◌, ◌≡◌, ◌↔◌, true, length, take, drop}
use mathlib.Core.List.{List, ◌∷◌, ◌++◌, map, Memᴰ}
use Rattle.std.specs.Prelude.{Ok}
use Rattle.graph.specs.Lists.{Distinct}
use Rattle.faces.specs.Faces.{face_of}
use Rattle.sheet_lines.specs.Lines as lines
use Rattle.sheet_lines.specs.Laid.{Laid}
use Rattle.sheet.specs.Sheet.{sheet_of}
use Rattle.lexicon.specs.Words.{Word}
use Rattle.segmentation.specs.Ways.{joined, Falling}
use Rattle.key_sheet.specs.Calls.{key_answer, key_sheet}

-- the call is done, with this sheet at the front of the destination and the rest untouched
pub record KeyWritten (cells word faces destination sheet : List ℕ) : Type 0 where
  pub answer-is : key_answer cells word faces destination ≡ Ok (length sheet)
  pub first-is : take (length sheet) (key_sheet cells word faces destination) ≡ sheet
  pub rest-is : drop (length sheet) (key_sheet cells word faces destination) ≡ drop (length sheet) destination

-- a reading stands on lines of a sheet, laid out with ordinal n
pub record OnLines (faces sheet : List ℕ) (n : ℕ) (reading : List ℕ) : Type 0 where
  pub before : List (List ℕ)
  pub own : List (List ℕ)
  pub after : List (List ℕ)
  pub is : sheet ≡ lines.joined (before ++ (own ++ after))
  pub laid : Laid n (map (face_of faces) reading) own

-- what a sheet that ends with END tells, where the ways are those that are cut so
pub record KeyTold (cut : List Word → Type 0) (faces sheet : List ℕ) : Type 0 where
  pub ways : List (List Word)
  -- exactly these, each once, at the first difference the longer word first
  pub are : (z : List Word) → Memᴰ z ways ↔ cut z
  pub once : Distinct ways
  pub in_order : Falling ways
  -- the sheet shows them and nothing else: each, with 63 between its words, on its lines, with its place as the ordinal
  pub sheet-is : sheet ≡ sheet_of faces (map joined ways) true
  pub shown : (a : List (List Word)) (z : List Word) (b : List (List Word)) → ways ≡ a ++ (z ∷ b) → OnLines faces sheet (1 + length a) (joined z)
