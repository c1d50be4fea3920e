-- The parts of a partial step that is made.
use Prim.Native.Nat.{ℕ}
use native.Mathlib.Omega.{arith}
use mathlib.Core.Path.{◌≡◌, refl}
use mathlib.Core.Bool.{Bool, true, false}
use mathlib.Core.Option.{Option, none, some}
use Rattle.machine.specs.Machine.{bind, somewhen}

pub bind-parts : {A B : Type 0} (o : Option A) (f : A → Option B) (b : B) → bind o f ≡ some b → (a : A) × (o ≡ some a) × (f a ≡ some b)
bind-parts none f b e = absurd (let z : ◌≡◌ {A = ℕ} 0 1 = cc in omega arith)
bind-parts (some a) f b e = (a, refl, e)

pub somewhen-parts : {A : Type 0} (b : Bool) (x y : A) → somewhen b x ≡ some y → (b ≡ true) × (x ≡ y)
somewhen-parts true x y e = (refl, cc)
somewhen-parts false x y e = absurd (let z : ◌≡◌ {A = ℕ} 0 1 = cc in omega arith)
