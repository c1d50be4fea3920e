-- How an arc is followed: a plain one by the rules of the sides, one of a class on both sides or not at all.
use Prim.Native.Nat.{ℕ, zero, suc}
use native.Mathlib.Omega.{arith}
use mathlib.Core.Path.{◌≡◌, refl, sym, ap, ap₂, ◌∙◌}
use mathlib.Core.Bool.{Bool, true, false, cond, ◌&&◌, ◌||◌, and-false}
use mathlib.Core.Option.{Option, none, some}
use mathlib.Core.List.{List}
use lib.Dec.{eqb}
use lib.ListN.{get_or}
use borrow.Author.Tests.{eq-eqb}
use Rattle.table_format.specs.Table.{Arc}
use Rattle.table_format.specs.Classes.{is_plain, row_of, with_letter}
use Rattle.machine.specs.Machine.{bind, somewhen}
use Rattle.machine.specs.Transducer.{side_follow, Passed, both, next_letter, in_row, class_arc}
use Rattle.engine_frames.specs.declared.Setup.{Setup}
use Rattle.engine_frames.specs.Sides.{passed_of, follow_by, follow_in, class_fits}

-- What an arc of a class comes to.

module _ (upper lower row : List ℕ) (a : Arc) (u l : ℕ) where
  -- what an arc of the class comes to, by whether it fits
  abbrev passes : Bool → Option Passed
  passes b = cond b (some (passed_of (suc u) (suc l))) none

  -- whether x and y, the next letters, fit
  abbrev fits : Bool → Bool → ℕ → ℕ → Bool
  fits up low x y = cond up (cond low (eqb y x) true && in_row x row) (in_row y row)

  -- followed with the letter x
  abbrev narrowed_by : Bool → Bool → ℕ → Option Passed
  narrowed_by up low x = bind (class_arc row a x) (λ b. both (side_follow up upper b.upper u) (side_follow low lower b.lower l))

  -- followed where x is in the row or not
  abbrev after : Bool → Bool → Bool → ℕ → Option Passed
  after up low here x = bind (cond here (some (with_letter a x)) none) (λ b. both (side_follow up upper b.upper u) (side_follow low lower b.lower l))

  -- both words are read
  recognised : (x y : ℕ) → get_or upper u 0 ≡ x → get_or lower l 0 ≡ y → narrowed_by true true x ≡ passes (eqb y x && in_row x row)
  recognised zero y e f = ap passes (sym (and-false (eqb y zero)))
  recognised (suc x) y e f = go (in_row (suc x) row)
    where
      ends : (b : Bool) → both (some (suc u)) (somewhen b (suc l)) ≡ passes (b && true)
      ends true = refl
      ends false = refl

      go : (here : Bool) → after true true here (suc x) ≡ passes (eqb y (suc x) && here)
      go true =
          ap₂ (λ (b c : Bool). both (somewhen b (suc u)) (somewhen c (suc l))) (eq-eqb (get_or upper u 0) (suc x) e) (ap (λ (z : ℕ). eqb z (suc x)) f)
          ∙ ends (eqb y (suc x))
      go false = ap passes (sym (and-false (eqb y (suc x))))

  -- the upper word is read, the lower one written
  synthesised : (x : ℕ) → get_or upper u 0 ≡ x → narrowed_by true false x ≡ passes (in_row x row)
  synthesised zero e = refl
  synthesised (suc x) e = go (in_row (suc x) row)
    where
      go : (here : Bool) → after true false here (suc x) ≡ passes here
      go true = ap (λ (b : Bool). both (somewhen b (suc u)) (some (suc l))) (eq-eqb (get_or upper u 0) (suc x) e)
      go false = refl

  -- the other way round
  analysed : (y : ℕ) → get_or lower l 0 ≡ y → narrowed_by false true y ≡ passes (in_row y row)
  analysed zero e = refl
  analysed (suc y) e = go (in_row (suc y) row)
    where
      go : (here : Bool) → after false true here (suc y) ≡ passes here
      go true = ap (λ (b : Bool). both (some (suc u)) (somewhen b (suc l))) (eq-eqb (get_or lower l 0) (suc y) e)
      go false = refl

  narrowed-fits : (up low : Bool) → (up || low) ≡ true
      → narrowed_by up low (cond up (get_or upper u 0) (get_or lower l 0)) ≡ passes (fits up low (get_or upper u 0) (get_or lower l 0))
  narrowed-fits true true r = recognised (get_or upper u 0) (get_or lower l 0) refl refl
  narrowed-fits true false r = synthesised (get_or upper u 0) refl
  narrowed-fits false true r = analysed (get_or lower l 0) refl
  narrowed-fits false false r = absurd (let z : ◌≡◌ {A = ℕ} 0 1 = cc in omega arith)

module _ (s : Setup) (classes : List (List ℕ)) (upper lower : List ℕ) (a : Arc) (d : Passed) where
  -- an arc after the test whether it is plain
  abbrev tested : Bool → Option Passed
  tested plain = bind (cond plain (some a) (class_arc (row_of classes a.upper) a (next_letter s.up upper lower d))) (λ b. follow_by s upper lower b d)

  pub plain-followed : is_plain a ≡ true → follow_in s classes upper lower a d ≡ follow_by s upper lower a d
  plain-followed p = ap tested p

  pub class_followed : (s.up || s.low) ≡ true → is_plain a ≡ false
      → follow_in s classes upper lower a d
      ≡ cond (class_fits s classes a.upper (get_or upper d.up 0) (get_or lower d.low 0)) (some (passed_of (suc d.up) (suc d.low))) none
  class_followed r p = ap tested p ∙ narrowed-fits upper lower (row_of classes a.upper) a d.up d.low s.up s.low r
