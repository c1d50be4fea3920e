-- What an opening tells tells it.
use Prim.Native.Nat.{ℕ}
use native.Mathlib.Omega.{arith}
use mathlib.Core.Path.{◌≡◌, ap}
use mathlib.Core.Option.{Option, none, some}
use Rattle.std.specs.Prelude.{Result, Ok, Err}
use Rattle.refusal.specs.declared.Refusal.{Refusal}
use Rattle.refusal.proofs.Numbers.{number-one}
use Rattle.session_opening.specs.declared.SessionState.{SessionState}
use Rattle.session_opening.specs.Outcome.{OpeningTold, opening_told}

abbrev state_in : OpeningTold → Option SessionState
state_in x = x.state

pub opening-one : (a b : Result SessionState Refusal) → opening_told a ≡ opening_told b → a ≡ b
opening-one (Ok s) (Ok t) e = let same : some s ≡ some t = ap state_in e in let q : s ≡ t = cc in ap Ok q
opening-one (Ok s) (Err r) e = let same : some s ≡ none = ap state_in e in absurd (let z : ◌≡◌ {A = ℕ} 0 1 = cc in omega arith)
opening-one (Err r) (Ok t) e = let same : none ≡ some t = ap state_in e in absurd (let z : ◌≡◌ {A = ℕ} 0 1 = cc in omega arith)
opening-one (Err r) (Err c) e = ap Err (number-one r c (ap (λ (x : OpeningTold). x.answer.number) e))
