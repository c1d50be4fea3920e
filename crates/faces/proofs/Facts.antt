-- Faces and readings that hold, as facts.
use Prim.Native.Nat.{ℕ, ◌<◌, ◌≤◌}
use mathlib.Core.Path.{◌≡◌, refl, ap, ◌∙◌}
use mathlib.Core.Logic.{◌↔◌}
use mathlib.Core.Bool.{Bool, true, not}
use mathlib.Core.Option.{some}
use mathlib.Core.List.{List, [], ◌∷◌}
use lib.Dec.{eqb, leb}
use lib.ListN.{length, get_or, take}
use borrow.Author.Tests.{leb-true, le-leb, eqb-true, eq-eqb}
use Rattle.table_format.proofs.All.{All, all-each, all-at}
use Rattle.table_format.specs.Ruled.{Differ}
use Rattle.table_format.proofs.Ruled.{differ_new}
use Rattle.table_format.proofs.Each.{each_from}
use Rattle.table_format.proofs.Tests.{and_left, and_right, and_both}
use Rattle.faces.specs.Faces.{face_count, face_holds, faces_hold}
use Rattle.faces.specs.Lent.{lent_in, every, is_letter, most_readings, readings_hold, held_as, list_holds, list_of}
use Rattle.faces.proofs.Lent.{IsLetter, is_letter_lem, all-every, list-lent, list_holds_lem}
use Rattle.faces.proofs.Faces.{face_count_lem, faces-differ}

-- "one printable character, 33 to 126 in ASCII"
abbrev pub IsFace : ℕ → Type 0
IsFace c = (33 ≤ c) × (c ≤ 126)

pub faces-are : (faces : List ℕ) → (faces_hold faces ≡ true) ↔ ((length faces ≡ face_count) × All IsFace faces × Differ faces)
unfolding faces_hold
faces-are faces = (to, from)
  where
    to : faces_hold faces ≡ true → (length faces ≡ face_count) × All IsFace faces × Differ faces
    to holds =
        let size : length faces ≡ face_count = face_count_lem faces holds in (
          size,
          all-each IsFace face_holds (λ before c e. (leb-true _ _ (and_left _ _ e), leb-true _ _ (and_left _ _ (and_right (leb 33 c) _ e)))) [] faces
              (and_right (eqb (length faces) face_count) _ holds),
          faces-differ faces holds,
        )

    from : (length faces ≡ face_count) × All IsFace faces × Differ faces → faces_hold faces ≡ true
    from (size, printable, differ) = and_both (eq-eqb _ _ size) (each_from face_holds 0 faces face)
      where
        face : (k : ℕ) → k < length faces → face_holds (take k faces) (get_or faces k 0) ≡ true
        face k h =
            let c = get_or faces k 0 in
            let p = all-at IsFace faces k 0 printable h in
            and_both (le-leb 33 c p.0) (and_both (le-leb c 126 p.1) (ap not (differ_new (λ c. c) eqb eqb-true faces differ 0 k h)))

every-all : {A : Type 0} (P : A → Type 0) (test : A → Bool) → ((x : A) → P x → test x ≡ true) → (xs : List A) → All P xs → every test xs ≡ true
every-all P test law [] h = refl
every-all P test law (x ∷ xs) h = and_both (law x h.0) (every-all P test law xs h.1)

pub readings-are : (ws : List (List ℕ)) → (readings_hold ws ≡ true) ↔ ((length ws ≤ most_readings) × All (All IsLetter) ws)
unfolding readings_hold
readings-are ws = (
  λ e. (
    leb-true _ _ (and_left _ _ e),
    all-every (All IsLetter) (every is_letter) (all-every IsLetter is_letter is_letter_lem) ws (and_right (leb (length ws) most_readings) _ e),
  ),
  λ h. and_both (le-leb _ _ h.0)
      (every-all (All IsLetter) (every is_letter) (every-all IsLetter is_letter (λ x l. and_both (le-leb 1 x l.0) (le-leb x 63 l.1))) ws h.1),
)

pub list-are : (bytes : List ℕ) → (list_holds bytes ≡ true) ↔ ((ws : List (List ℕ)) × (lent_in bytes ≡ some ws) × (length ws ≤ most_readings) × All (All IsLetter) ws)
unfolding list_holds
list-are bytes = (
  λ h. let r = (readings-are (list_of bytes)).0 (list_holds_lem bytes h) in (list_of bytes, list-lent bytes h, r.0, r.1),
  λ h. ap held_as h.1 ∙ (readings-are h.0).1 (h.2, h.3),
)
