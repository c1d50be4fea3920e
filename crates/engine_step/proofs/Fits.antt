-- No letter of a word means a class, so that an arc of a class never fits by the rules of the sides.
use Prim.Native.Nat.{ℕ, zero, suc, ◌<◌, ◌≤◌}
use native.Mathlib.Omega.{arith}
use mathlib.Core.Path.{◌≡◌, refl, sym, ap, ◌∙◌}
use mathlib.Core.Bool.{Bool, true, false, ◌&&◌, ◌||◌, and_self}
use mathlib.Core.Option.{Option, none, some}
use mathlib.Core.List.{List}
use lib.ListN.{get_or}
use lib.Dec.{ltb}
use borrow.Author.Tests.{ltb-false, ne_eqb}
use Rattle.table_format.specs.Table.{Arc}
use Rattle.table_format.specs.Classes.{first_class, is_plain}
use Rattle.machine.specs.Query.{Side, upper_side, lower_side, letter}
use Rattle.machine.specs.Machine.{somewhen}
use Rattle.machine.specs.Transducer.{side_follow, Passed, both}
use Rattle.engine_frames.specs.declared.Setup.{Setup}
use Rattle.engine_frames.specs.Sides.{follow_by}
use Rattle.engine_step.specs.Setting.{SmallWords, Alike}

-- an arc that has a class on both sides or on none is plain where either letter is
pub plain-on : (a : Arc) → Alike a → (side : Side) → is_plain a ≡ ltb (letter side a) first_class
plain-on a h upper_side = ap (λ (b : Bool). ltb a.upper first_class && b) (sym h) ∙ and_self (ltb a.upper first_class)
plain-on a h lower_side = ap (λ (b : Bool). b && ltb a.lower first_class) h ∙ and_self (ltb a.lower first_class)

side_stuck : (w : List ℕ) (x n : ℕ) → first_class ≤ x → get_or w n 0 < first_class → side_follow true w x n ≡ none
side_stuck w zero n h k = absurd (omega arith)
side_stuck w (suc x) n h k = ap (λ (b : Bool). somewhen b (suc n)) (ne_eqb (get_or w n 0) (suc x) (λ e. omega arith))

both-none : (o : Option ℕ) → both o none ≡ none
both-none none = refl
both-none (some n) = refl

module _ (s : Setup) (classes : List (List ℕ)) (upper lower : List ℕ) (a : Arc) (d : Passed) (A : Alike a) (W : SmallWords upper lower) (r : (s.up || s.low) ≡ true) where
  pub class_stuck : is_plain a ≡ false → follow_by s upper lower a d ≡ none
  class_stuck p = go s.up s.low r
    where
      high : (side : Side) → first_class ≤ letter side a
      high side = ltb-false _ _ (sym (plain-on a A side) ∙ p)

      go : (u l : Bool) → (u || l) ≡ true → both (side_follow u upper a.upper d.up) (side_follow l lower a.lower d.low) ≡ none
      go true l r =
          ap (λ (o : Option ℕ). both o (side_follow l lower a.lower d.low)) (side_stuck upper a.upper d.up (high upper_side) (W.upper-small d.up))
      go false true r =
          ap (both (side_follow false upper a.upper d.up)) (side_stuck lower a.lower d.low (high lower_side) (W.lower-small d.low))
          ∙ both-none (side_follow false upper a.upper d.up)
      go false false r = absurd (let z : ◌≡◌ {A = ℕ} 0 1 = cc in omega arith)
