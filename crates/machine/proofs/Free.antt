-- Where every penalty is 0 a ceiling changes nothing: tour, accepting paths and readings are those of the machine without it.
use Prim.Native.Nat.{ℕ, ◌+◌}
use native.Mathlib.Omega.{arith}
use mathlib.Core.Path.{◌≡◌, refl, ap, ◌∙◌}
use mathlib.Core.Bool.{Bool}
use mathlib.Core.Option.{Option, none, some, map}
use lib.Dec.{leb}
use borrow.Author.Tests.{le-leb}
use Rattle.machine.specs.Machine.{Machine, bind, somewhen}
use Rattle.machine.specs.Tour.{tour, paths_in, readings}
use Rattle.machine.specs.Order.{accepting}
use Rattle.machine.specs.Ceiling.{ceiled}
use Rattle.machine.proofs.Morphism.{Morphism, tour-same, accepting-same, readings-same}

module _ (M : Machine) (penalty : ℕ → ℕ) (free : (n : ℕ) → penalty n ≡ 0) (c : ℕ) where
  abbrev N : Machine
  N = ceiled M penalty c

  -- every datum has the sum 0
  abbrev with_zero : M.D → M.D × ℕ
  with_zero d = (d, 0)

  step_free : (n : ℕ) (o : Option M.D) → bind o (λ e. somewhen (leb (0 + penalty n) c) (e, 0 + penalty n)) ≡ map with_zero o
  step_free n none = refl
  step_free n (some e) =
      let z : 0 + penalty n ≡ 0 = omega (arith, free n) in
      ap (λ (x : ℕ). somewhen (leb x c) (e, x)) z ∙ ap (λ (b : Bool). somewhen b (e, 0)) (le-leb 0 c (omega arith))

  sum_free : Morphism M N
  sum_free =
      record {
        to = with_zero;
        initials-are = refl;
        first-is = λ s. refl;
        arity-is = λ s. refl;
        target_is = λ n. refl;
        terminal-is = λ s. refl;
        limit_is = refl;
        d₀_is = refl;
        follow-is = λ n d. step_free n (M.follow n d);
        writes-is = λ n d. refl;
        done-is = λ d. refl;
      }

  pub tour_free : tour N ≡ tour M
  tour_free = tour-same M N sum_free

  pub accepting_free : accepting N (paths_in (tour N)) ≡ accepting M (paths_in (tour M))
  accepting_free = accepting-same M N sum_free

  pub readings_free : readings N (tour N) ≡ readings M (tour M)
  readings_free = readings-same M N sum_free
