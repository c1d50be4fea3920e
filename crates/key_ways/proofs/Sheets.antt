-- The sheet of a key that shows the ways to cut a word.
use Prim.Native.Nat.{ℕ, ◌*◌, ◌≤◌}
use native.Mathlib.Omega.{arith}
use mathlib.Core.Path.{◌≡◌, refl, sym, ap, ap₂, subst, ◌∙◌}
use mathlib.Core.Logic.{◌↔◌}
use mathlib.Core.Bool.{Bool, true}
use mathlib.Core.List.Memᴰ
use mathlib.Core.List.{List, [], ◌∷◌, ◌++◌, Memᴰ}
use lib.ListN.{length, take, drop}
use lib.Seq.{take-append_seam, drop-append_seam}
use borrow.Author.Tests.{le-leb}
use Rattle.std.specs.Prelude.{Ok}
use Rattle.table_format.proofs.All.{All, all_from}
use Rattle.table_format.proofs.Tests.{and_left, and_both}
use Rattle.faces.specs.Faces.{faces_hold}
use Rattle.faces.specs.Lent.{lent_bytes, every, is_letter, readings_hold, held_as, list_holds, list_as, list_of}
use Rattle.faces.proofs.Lent.{spelled-lent}
use Rattle.sheet.specs.Sheet.{sheet_of, lines_taken, sheet_size}
use Rattle.sheet.specs.Calls.{sheet_holds}
use Rattle.sheet.proofs.Headlines as sheets
use Rattle.lexicon.specs.Words.{Word}
use Rattle.lexicon.specs.Words as words
use Rattle.key_sheet.specs.Key.{Key}
use Rattle.key_sheet.specs.Calls.{answer_for, sheet_for}
use Rattle.key_ways.specs.Shows.{KeyShows}
use Rattle.key_ways.proofs.Ways.{Reads, reads, reads-length, reads-letters}

every-mem : {A : Type 0} (test : A → Bool) (xs : List A) → ((x : A) → Memᴰ x xs → test x ≡ true) → every test xs ≡ true
every-mem test [] h = refl
every-mem test (x ∷ xs) h = and_both (h x (Memᴰ.head refl)) (every-mem test xs (λ y m. h y (Memᴰ.tail m)))

-- two lines at most for each reading of at most 127 letters
few-lines : (rs : List (List ℕ)) → All (λ r. length r ≤ 127) rs → lines_taken rs ≤ 2 * length rs
few-lines [] h = omega arith
few-lines (r ∷ rs) h = let k : length r ≤ 127 = h.0 in omega (arith, few-lines rs h.1)

-- readings and the bytes that lend them
lent-list : (rs : List (List ℕ)) → list_of (lent_bytes rs) ≡ rs
unfolding list_of
lent-list rs = ap list_as (spelled-lent rs)

lent-holds : (rs : List (List ℕ)) → readings_hold rs ≡ true → list_holds (lent_bytes rs) ≡ true
unfolding list_holds
lent-holds rs h = ap held_as (spelled-lent rs) ∙ h

module _ (ws : List Word) (holds : words.list_holds ws ≡ true) (w : Word) (k : Key) (S : KeyShows ws w k) where
  -- each reading shows a way
  pub shows-way : (r : List ℕ) → Memᴰ r S.readings → Reads ws holds w r
  shows-way r m = reads ws holds w r (subst (λ (l : List (List ℕ)). Memᴰ r l) S.first-ways (Memᴰ.append_left S.more m))

  pub readings_hold_lem : readings_hold S.readings ≡ true
  unfolding readings_hold
  readings_hold_lem = and_both (le-leb _ _ S.few) (every-mem (every is_letter) S.readings (λ r m. reads-letters ws holds w r (shows-way r m)))

  -- 73 × (2 + 1,000 × 2)
  pub sheet-room : length w ≤ 64 → sheet_size S.readings ≤ 146146
  sheet-room h =
      omega (arith, S.few, few-lines S.readings (all_from (λ r. length r ≤ 127) S.readings (λ r m. omega (arith, reads-length ws holds w r (shows-way r m)))))

  module _ (faces d : List ℕ) where
    abbrev sheet : List ℕ
    sheet = sheet_of faces S.readings S.ended

    pub sheet-length : length sheet ≡ sheet_size S.readings
    sheet-length = sheets.sheet_size_lem faces S.readings S.ended

    abbrev bytes : List ℕ
    bytes = lent_bytes S.readings

    size : sheet_size (list_of bytes) ≡ length sheet
    size = ap sheet_size (lent-list S.readings) ∙ sym sheet-length

    holding : faces_hold faces ≡ true → sheet_holds bytes faces ≡ true
    holding h = and_both h (lent-holds S.readings readings_hold_lem)

    -- done exactly where the faces hold and there is room
    pub answer-done : (n : ℕ) → (answer_for k faces d ≡ Ok n) ↔ ((faces_hold faces ≡ true) × (n ≡ length sheet) × (n ≤ length d))
    answer-done n =
        let same = ap (λ (y : Key). answer_for y faces d) S.is in
        let W = sheets.write_is bytes faces S.ended d n in (
          λ e. let R = W.0 (sym same ∙ e) in (and_left _ _ R.0, R.1 ∙ size, R.2),
          λ R. same ∙ W.1 (holding R.0, R.1 ∙ sym size, R.2),
        )

    sheet-left : faces_hold faces ≡ true → length sheet ≤ length d → sheet_for k faces d ≡ sheet ++ drop (length sheet) d
    sheet-left h room =
        ap (λ (y : Key). sheet_for y faces d) S.is
        ∙ sheets.write_leaves bytes faces S.ended d (holding h) (omega (arith, size))
        ∙ ap₂ (λ (l : List (List ℕ)) (n : ℕ). sheet_of faces l S.ended ++ drop n d) (lent-list S.readings) size

    pub sheet-first : faces_hold faces ≡ true → length sheet ≤ length d → take (length sheet) (sheet_for k faces d) ≡ sheet
    sheet-first h room = ap (take (length sheet)) (sheet-left h room) ∙ take-append_seam sheet (drop (length sheet) d)

    pub sheet-rest : faces_hold faces ≡ true → length sheet ≤ length d → drop (length sheet) (sheet_for k faces d) ≡ drop (length sheet) d
    sheet-rest h room = ap (drop (length sheet)) (sheet-left h room) ∙ drop-append_seam sheet (drop (length sheet) d)
