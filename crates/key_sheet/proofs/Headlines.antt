-- What the call comes to, by its contract, stated together: `key_answer` and `key_sheet` are what it answers and leaves, for any cells, word, faces
-- and destination. How it is shown is in Calls.
use Prim.Native.Nat.{ℕ, ◌≤◌}
use mathlib.Core.Path.{◌≡◌}
use mathlib.Core.Logic.{◌↔◌}
use mathlib.Core.Bool.{Bool, true, ◌&&◌}
use mathlib.Core.List.{List, ◌++◌}
use lib.ListN.{length, take, drop}
use Rattle.refusal.specs.declared.Refusal.{Refusal}
use Rattle.std.specs.Prelude.{Result, Ok, Err}
use Rattle.destination.specs.Told.{stored_told}
use Rattle.destination.proofs.Told.{stored_told-one}
use Rattle.faces.specs.Faces.{faces_hold}
use Rattle.faces.specs.Lent.{lent_bytes, readings_hold}
use Rattle.sheet.specs.Sheet.{sheet_of, sheet_size}
use Rattle.sheet.specs.Calls.{sheet_holds}
use Rattle.key_sheet.specs.Key.{key, key_of}
use Rattle.key_sheet.specs.Calls.{key_answer, key_sheet}
use Rattle.key_sheet.proofs.Calls as calls

module _ (cells word faces destination : List ℕ) where
  -- a result that tells what the answer tells is the answer: the contract leaves nothing open
  pub answer-one : (r : Result ℕ Refusal) → stored_told r ≡ stored_told (key_answer cells word faces destination) → r ≡ key_answer cells word faces destination
  answer-one r e = stored_told-one r (key_answer cells word faces destination) e

  -- done, exactly where there is a key, its readings and the faces hold, and there is room for the sheet, whose size is told
  pub key-done : (n : ℕ) → (key_answer cells word faces destination ≡ Ok n)
      ↔ ((rs : List (List ℕ)) × (ended : Bool) × (key_of cells word ≡ key rs ended) × (sheet_holds (lent_bytes rs) faces ≡ true) × (n ≡ sheet_size rs) × (n ≤ length destination))
  key-done = calls.key-done cells word faces destination

  -- then the destination has the sheet of these readings, with `END` where the run ended, else `MORE`, and beyond it what stood there
  pub key-leaves : {rs : List (List ℕ)} {ended : Bool} → key_of cells word ≡ key rs ended → (n : ℕ) → key_answer cells word faces destination ≡ Ok n
      → key_sheet cells word faces destination ≡ sheet_of faces rs ended ++ drop n destination
  key-leaves = calls.leaves_by cells word faces destination

  -- a refusal leaves every cell of the destination as it was
  pub key-refused : (r : Refusal) → key_answer cells word faces destination ≡ Err r → key_sheet cells word faces destination ≡ destination
  key-refused = calls.key-refused cells word faces destination

-- what holds: faces that do, and at most 1,000 readings of letters 1 to 63
pub key-holds : (rs : List (List ℕ)) (faces : List ℕ) → sheet_holds (lent_bytes rs) faces ≡ (faces_hold faces && readings_hold rs)
key-holds = calls.holds_by

-- equal sheets over the same faces are those of equal keys
pub key_one : (faces cells₁ word₁ cells₂ word₂ d₁ d₂ : List ℕ) (n m : ℕ) → key_answer cells₁ word₁ faces d₁ ≡ Ok n → key_answer cells₂ word₂ faces d₂ ≡ Ok m
    → take n (key_sheet cells₁ word₁ faces d₁) ≡ take m (key_sheet cells₂ word₂ faces d₂) → key_of cells₁ word₁ ≡ key_of cells₂ word₂
key_one = calls.key_one
