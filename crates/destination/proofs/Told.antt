-- What an answer tells is told by no other answer.
use Prim.Native.Nat.{ℕ}
use native.Mathlib.Omega.{arith}
use mathlib.Core.Path.{◌≡◌, ap}
use Rattle.refusal.specs.Told.{Told}
use Rattle.refusal.proofs.Numbers.{number-one}
use Rattle.refusal.specs.declared.Refusal.{Refusal}
use Rattle.std.specs.Prelude.{Result, Ok, Err}
use Rattle.destination.specs.Told.{stored_told}

pub stored_told-one : (a b : Result ℕ Refusal) → stored_told a ≡ stored_told b → a ≡ b
stored_told-one (Ok m) (Ok n) e = ap Ok (ap (λ (t : Told). t.length) e)
stored_told-one (Ok m) (Err r) e = let z : ◌≡◌ {A = ℕ} 0 4 = ap (λ (t : Told). t.kind) e in absurd (omega arith)
stored_told-one (Err r) (Ok n) e = let z : ◌≡◌ {A = ℕ} 4 0 = ap (λ (t : Told). t.kind) e in absurd (omega arith)
stored_told-one (Err r) (Err s) e = ap Err (number-one r s (ap (λ (t : Told). t.number) e))
