-- What a line's result tells tells it.
use Prim.Native.Nat.{ℕ}
use native.Mathlib.Omega.{arith}
use mathlib.Core.Path.{◌≡◌, refl, ap}
use mathlib.Core.Option.{Option}
use Rattle.std.specs.Prelude.{None, Some}
use Rattle.std.specs.Prelude.{Option as Maybe}
use Rattle.session_opening.specs.declared.SessionState.{SessionState}
use Rattle.session.specs.declared.Line.{Line}
use Rattle.session.specs.Next.{LineTold, next_told, line_told}

abbrev length_in : LineTold → ℕ
length_in x = x.length

abbrev after_in : LineTold → Option SessionState
after_in x = x.after

next-one : (a b : Maybe SessionState) → next_told a ≡ next_told b → a ≡ b
next-one (Some s) (Some t) e = let same : s ≡ t = cc in ap Some same
next-one (Some s) None e = absurd (let z : ◌≡◌ {A = ℕ} 0 1 = cc in omega arith)
next-one None (Some t) e = absurd (let z : ◌≡◌ {A = ℕ} 0 1 = cc in omega arith)
next-one None None e = refl

pub line-one : (a b : Line) → line_told a ≡ line_told b → a ≡ b
line-one a b e =
    let length : a.length ≡ b.length = ap length_in e in
    let next : a.next ≡ b.next = next-one a.next b.next (ap after_in e) in
    λ i. record { length = length i; next = next i }
