-- Items stored one after another.
use Prim.Native.Nat.{ℕ, suc, ◌+◌, ◌<◌, ◌≤◌, ◌-◌}
use native.Mathlib.Omega.{arith}
use native.Mathlib.Nat.{zero-add}
use native.Mathlib.Numerals.{add-one}
use mathlib.Core.Path.{◌≡◌, refl, sym, ap, ap₂, ◌∙◌}
use mathlib.Core.List.{List, ◌∷◌, ◌++◌}
use lib.ListN.{length, get_or, take, drop, set}
use lib.Seq.{sets, drop-cons}
use borrow.Rule.Slice.PartMut.{put_mid}
use Rattle.std.proofs.lemmas.List.Edits.{sets-eq, paste_all}
use Rattle.std.proofs.lemmas.Slice.{put_mid-paste}
use Rattle.std.proofs.Common.{append_assoc}

module _ {A : Type 0} (d : List A) where
  -- what a copy over a part of a destination leaves
  pub sets-part : (at : ℕ) (xs ys : List A) → at + length xs ≤ length d → ys ≡ xs → put_mid at (at + length xs - at) d ys ≡ sets d at xs
  sets-part at xs ys h e =
      let n : at + length xs - at ≡ length xs = omega arith in
      put_mid-paste at (at + length xs - at) d ys xs (length xs) e (sym n) refl
      ∙ paste_all d at xs (length xs) refl
      ∙ sym (append_assoc (take at d) xs (drop (at + length xs) d))
      ∙ sym (sets-eq xs d at h)

  -- what is stored from the front on
  pub sets-front : (xs : List A) → length xs ≤ length d → sets d 0 xs ≡ xs ++ drop (length xs) d
  sets-front xs h = sets-eq xs d 0 (omega arith) ∙ ap (λ (n : ℕ). xs ++ drop n d) (zero-add (length xs))

-- Where the first of those left is stored, storing the others is storing them all.

pub next-stored : (s : List ℕ) (at : ℕ) (xs : List ℕ) (k x : ℕ) → k < length xs → x ≡ get_or xs k 0
    → sets (set s (at + k) x) (at + (k + 1)) (drop (k + 1) xs) ≡ sets s (at + k) (drop k xs)
next-stored s at xs k x h e =
    let step : at + (k + 1) ≡ suc (at + k) = omega arith in
    ap₂ (λ (i j : ℕ). sets (set s (at + k) x) i (drop j xs)) step (add-one k)
    ∙ ap (λ (y : ℕ). sets s (at + k) (y ∷ drop (suc k) xs)) e
    ∙ ap (sets s (at + k)) (sym (drop-cons xs k 0 h))
