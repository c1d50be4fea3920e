-- An answer's numbers and values tell it.
use Prim.Native.Nat.{ℕ}
use native.Mathlib.Omega.{arith}
use mathlib.Core.Path.{◌≡◌, refl, ap, ap₂}
use Rattle.refusal.specs.Told.{Told}
use Rattle.refusal.proofs.Numbers.{number-one}
use Rattle.machine.specs.declared.Answer.{Answer}
use Rattle.machine.specs.declared.Answer.TheVariants.{Found, Paused, Ended, Refused}
use Rattle.machine.specs.declared.StartAnswer.{StartAnswer}
use Rattle.machine.specs.declared.StartAnswer.TheVariants as S
use Rattle.machine.specs.Answer.{told, start_told}

-- equal parts, one by one
record Same (d f : Told) : Type 0 where
  kind-is : d.kind ≡ f.kind
  number_is : d.number ≡ f.number
  steps-is : d.steps ≡ f.steps
  length-is : d.length ≡ f.length

same : {d f : Told} → d ≡ f → Same d f
same e =
    record {
      kind-is = ap (λ (x : Told). x.kind) e;
      number_is = ap (λ (x : Told). x.number) e;
      steps-is = ap (λ (x : Told). x.steps) e;
      length-is = ap (λ (x : Told). x.length) e;
    }

pub told-one : (a b : Answer) → told a ≡ told b → a ≡ b
told-one a b e = go a b (same e)
  where
    go : (a b : Answer) → Same (told a) (told b) → a ≡ b
    go (Found n l) (Found m k) E = ap₂ Found E.steps-is E.length-is
    go (Found n l) (Paused m) E = absurd (omega arith)
    go (Found n l) (Ended m) E = absurd (omega arith)
    go (Found n l) (Refused m r) E = absurd (omega arith)
    go (Paused n) (Found m k) E = absurd (omega arith)
    go (Paused n) (Paused m) E = ap Paused E.steps-is
    go (Paused n) (Ended m) E = absurd (omega arith)
    go (Paused n) (Refused m r) E = absurd (omega arith)
    go (Ended n) (Found m k) E = absurd (omega arith)
    go (Ended n) (Paused m) E = absurd (omega arith)
    go (Ended n) (Ended m) E = ap Ended E.steps-is
    go (Ended n) (Refused m r) E = absurd (omega arith)
    go (Refused n c) (Found m k) E = absurd (omega arith)
    go (Refused n c) (Paused m) E = absurd (omega arith)
    go (Refused n c) (Ended m) E = absurd (omega arith)
    go (Refused n c) (Refused m r) E = ap₂ Refused E.steps-is (number-one c r E.number_is)

pub start_told-one : (a b : StartAnswer) (m n : ℕ) → start_told a m ≡ start_told b n → a ≡ b
start_told-one a b m n e = go a b (same e)
  where
    go : (a b : StartAnswer) → Same (start_told a m) (start_told b n) → a ≡ b
    go S.Ready S.Ready E = refl
    go S.Ready (S.Refused r) E = absurd (omega arith)
    go (S.Refused c) S.Ready E = absurd (omega arith)
    go (S.Refused c) (S.Refused r) E = ap S.Refused (number-one c r E.number_is)
