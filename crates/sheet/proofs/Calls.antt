-- What the call tells and leaves: 33, then 24; sheets that were written are equal only if what was lent and the last words are.
use Prim.Native.Nat.{ℕ, ◌≤◌, ◌<◌}
use native.Mathlib.Omega.{arith}
use mathlib.Core.Path.{◌≡◌, refl, sym, ap, ◌∙◌}
use mathlib.Core.Logic.{◌↔◌}
use mathlib.Core.Bool.{Bool, true, false, cond}
use mathlib.Core.Option.{some}
use mathlib.Core.List.{List, ◌++◌}
use lib.ListN.{length, take, drop}
use lib.Seq.{take_at}
use Rattle.refusal.specs.declared.InputCause.TheVariants.{SheetFault}
use Rattle.refusal.specs.declared.StateCause.TheVariants.{DestinationShort}
use Rattle.refusal.specs.declared.Refusal.{Refusal}
use Rattle.refusal.specs.declared.Refusal.TheVariants.{Input, State}
use Rattle.std.specs.Prelude.{Ok, Err}
use Rattle.destination.specs.Stored.{stored_answer, stored_cells}
use Rattle.destination.proofs.Stored.{Stored, stored-done, stored-fits, stored_short, stored_refused}
use Rattle.table_format.specs.Ruled.{Differ}
use Rattle.table_format.proofs.All.{All}
use Rattle.table_format.proofs.Line.{IsByte}
use Rattle.table_format.proofs.Tests.{and_left, and_right, and_both}
use Rattle.faces.specs.Faces.{face_count, faces_hold}
use Rattle.faces.specs.Lent.{lent_in, most_readings, list_holds, list_of}
use Rattle.faces.proofs.Lent.{IsLetter, list-lent, list_holds_lem, lent-spelled}
use Rattle.faces.proofs.Facts.{IsFace, faces-are, list-are}
use Rattle.sheet.specs.Sheet.{sheet_of, sheet_size}
use Rattle.sheet.specs.Calls.{sheet_holds, write_answer, write_sheet}
use Rattle.sheet.proofs.Sheet.{sheet_size_lem}
use Rattle.sheet.proofs.Stored.{size-most}
use Rattle.sheet.proofs.Back.{sheet_injective}

-- what holds, as facts
pub holds-is : (bytes faces : List ℕ) → (sheet_holds bytes faces ≡ true)
    ↔ ((length faces ≡ face_count) × All IsFace faces × Differ faces × ((ws : List (List ℕ)) × (lent_in bytes ≡ some ws) × (length ws ≤ most_readings) × All (All IsLetter) ws))
holds-is bytes faces = (
  λ h. let f = (faces-are faces).0 (and_left _ _ h) in (f.0, f.1, f.2, (list-are bytes).0 (and_right (faces_hold faces) _ h)),
  λ h. and_both ((faces-are faces).1 (h.0, h.1, h.2)) ((list-are bytes).1 h.3),
)

module _ (bytes faces : List ℕ) (ended : Bool) (destination : List ℕ) where
  abbrev sheet : List ℕ
  sheet = sheet_of faces (list_of bytes) ended

  size : length sheet ≡ sheet_size (list_of bytes)
  size = sheet_size_lem faces (list_of bytes) ended

  -- what a call that is done was lent, and has written
  pub write_done : (n : ℕ) → write_answer bytes faces ended destination ≡ Ok n
      → (sheet_holds bytes faces ≡ true) × Stored sheet destination n (write_sheet bytes faces ended destination)
  unfolding write_answer write_sheet
  write_done n e = go (sheet_holds bytes faces) refl e
    where
      go : (b : Bool) → sheet_holds bytes faces ≡ b → cond b (stored_answer sheet destination) (Err (Input SheetFault)) ≡ Ok n
          → (sheet_holds bytes faces ≡ true) × Stored sheet destination n (cond b (stored_cells sheet destination) destination)
      go true h k = (h, stored-done sheet destination n k)
      go false h k = cc

  module _ (holds : sheet_holds bytes faces ≡ true) where
    answer-held : write_answer bytes faces ended destination ≡ stored_answer sheet destination
    unfolding write_answer
    answer-held = ap (λ (b : Bool). cond b (stored_answer sheet destination) (Err (Input SheetFault))) holds

    pub write_leaves : sheet_size (list_of bytes) ≤ length destination → write_sheet bytes faces ended destination ≡ sheet ++ drop (sheet_size (list_of bytes)) destination
    unfolding write_sheet
    write_leaves room =
        ap (λ (b : Bool). cond b (stored_cells sheet destination) destination) holds
        ∙ (stored-fits sheet destination (omega (arith, size))).1
        ∙ ap (λ (n : ℕ). sheet ++ drop n destination) size

  -- done, exactly where faces and readings hold and the sheet has room
  pub write_is : (n : ℕ) → (write_answer bytes faces ended destination ≡ Ok n)
      ↔ ((sheet_holds bytes faces ≡ true) × (n ≡ sheet_size (list_of bytes)) × (n ≤ length destination))
  write_is n = (
    λ a. let s = write_done n a in (s.0, s.1.size ∙ size, s.1.room),
    λ h.
        let told : n ≡ sheet_size (list_of bytes) = h.1 in
        let room : n ≤ length destination = h.2 in
        answer-held h.0 ∙ (stored-fits sheet destination (omega (arith, size))).0 ∙ ap Ok (size ∙ sym told),
  )

  -- 33 comes first
  pub write_fault : (write_answer bytes faces ended destination ≡ Err (Input SheetFault)) ↔ (sheet_holds bytes faces ≡ false)
  unfolding write_answer
  write_fault = (λ e. to (sheet_holds bytes faces) e, λ h. ap (λ (b : Bool). cond b (stored_answer sheet destination) (Err (Input SheetFault))) h)
    where
      to : (b : Bool) → cond b (stored_answer sheet destination) (Err (Input SheetFault)) ≡ Err (Input SheetFault) → b ≡ false
      to true e = let s = stored_refused sheet destination (Input SheetFault) e in cc
      to false e = refl

  -- 24 comes where they hold, and the destination is too short for the sheet
  pub write_short : (write_answer bytes faces ended destination ≡ Err (State DestinationShort))
      ↔ ((sheet_holds bytes faces ≡ true) × (length destination < sheet_size (list_of bytes)))
  unfolding write_answer
  write_short = (λ e. to (sheet_holds bytes faces) refl e, λ h. answer-held h.0 ∙ (stored_short sheet destination).1 (less h.1))
    where
      less : length destination < sheet_size (list_of bytes) → length destination < length sheet
      less k = omega (arith, size)

      to : (b : Bool) → sheet_holds bytes faces ≡ b → cond b (stored_answer sheet destination) (Err (Input SheetFault)) ≡ Err (State DestinationShort)
          → (sheet_holds bytes faces ≡ true) × (length destination < sheet_size (list_of bytes))
      to true h k = (h, omega (arith, size, (stored_short sheet destination).0 k))
      to false h k = cc

  -- a refusal leaves the destination as it was
  pub write_refused : (r : Refusal) → write_answer bytes faces ended destination ≡ Err r → write_sheet bytes faces ended destination ≡ destination
  unfolding write_answer write_sheet
  write_refused r e = go (sheet_holds bytes faces) e
    where
      go : (b : Bool) → cond b (stored_answer sheet destination) (Err (Input SheetFault)) ≡ Err r
          → cond b (stored_cells sheet destination) destination ≡ destination
      go true k = (stored_refused sheet destination r k).1
      go false k = refl

  -- the sheet, where the call is done
  written-sheet : (n : ℕ) → write_answer bytes faces ended destination ≡ Ok n → take n (write_sheet bytes faces ended destination) ≡ sheet
  written-sheet n e = let s = (write_done n e).1 in ap (take n) s.left_is ∙ take_at sheet (drop n destination) n (sym s.size)

  -- two bytes of length: no sheet is longer
  pub written-most : (n : ℕ) → All IsByte bytes → write_answer bytes faces ended destination ≡ Ok n → n ≤ 72489146
  written-most n b e =
      let h = and_right (faces_hold faces) _ (write_done n e).0 in
      let told : n ≡ sheet_size (list_of bytes) = ((write_is n).0 e).1 in
      omega (arith, size-most bytes b h)

-- two calls over the same faces that left equal sheets
module _ (faces x y : List ℕ) (e g : Bool) (d c : List ℕ) (n m : ℕ) (p : write_answer x faces e d ≡ Ok n) (q : write_answer y faces g c ≡ Ok m)
    (same : take n (write_sheet x faces e d) ≡ take m (write_sheet y faces g c)) where
  holds : faces_hold faces ≡ true
  holds = and_left _ _ (write_done x faces e d n p).0

  hx : list_holds x ≡ true
  hx = and_right (faces_hold faces) _ (write_done x faces e d n p).0

  hy : list_holds y ≡ true
  hy = and_right (faces_hold faces) _ (write_done y faces g c m q).0

  one : (list_of x ≡ list_of y) × (e ≡ g)
  one =
      sheet_injective faces holds (list_of x) (list_of y) e g (list_holds_lem x hx) (list_holds_lem y hy)
      (sym (written-sheet x faces e d n p) ∙ same ∙ written-sheet y faces g c m q)

  lent : lent_in x ≡ some (list_of y)
  lent = list-lent x hx ∙ ap some one.0

  pub written_one : (lent_in x ≡ lent_in y) × (e ≡ g)
  written_one = (lent ∙ sym (list-lent y hy), one.1)

  -- bytes have one spelling
  pub written-bytes : All IsByte x → All IsByte y → x ≡ y
  written-bytes a b = lent-spelled x (list_of y) a lent ∙ sym (lent-spelled y (list_of y) b (list-lent y hy))
