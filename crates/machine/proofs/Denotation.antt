-- The readings of the tour, by recursion on states.
use Prim.Native.Nat.{ℕ, zero, suc}
use native.Mathlib.Omega.{arith}
use mathlib.Core.Path.{◌≡◌, refl, sym, ap, ap₂, ◌∙◌}
use mathlib.Core.Bool.{◌&&◌}
use mathlib.Core.Option.{Option, none, some}
use mathlib.Core.List.{List, [], ◌∷◌, ◌++◌, append-nil}
use lib.ListN.{length, drop}
use Rattle.machine.specs.Machine.{Machine, Path, start, more, final, datum, bind, listed, tested, output}
use Rattle.machine.specs.Tour.{branch, trail, following, tour_from, tour, reading, reading_if, readings}
use Rattle.machine.specs.Denotation.{if_fits, arcs_tell, state_tells, initials_tell}
use Rattle.machine.proofs.Tour.{tour-is}
use Rattle.machine.proofs.Call.{readings-append}
use Rattle.machine.proofs.Traces.{drop_head, drop_tail}

module _ (M : Machine) where
  -- what a path tells by itself
  self : (p : Path) (d : M.D) → datum M p ≡ some d → reading M (some p) ≡ reading_if M (M.terminal (final M p) && M.done d) (output M p)
  self p d e = ap (λ (o : Option M.D). reading_if M (M.terminal (final M p) && tested o M.done) (output M p)) e

  -- a path with what follows it, to c arcs more, tells what its last state does
  abbrev PathTells : ℕ → Path → Type 0
  PathTells c p = (d : M.D) → datum M p ≡ some d → readings M (some p ∷ following M c p) ≡ state_tells M c (final M p) d (output M p)

  trail-tells : (c : ℕ) (p : Path) (d : M.D) → datum M p ≡ some d → ((n : ℕ) → PathTells c (more p n)) → (n k : ℕ) → readings M (trail M (λ r. following M c r) p n k) ≡ arcs_tell M (λ r e w. state_tells M c r e w) d (output M p) n k
  unfolding readings
  trail-tells c p d e G n zero = refl
  trail-tells c p d e G n (suc k) = go (M.follow n d) refl (trail-tells c p d e G (suc n) k)
    where
      -- the datum and the output of the longer path
      here : datum M (more p n) ≡ M.follow n d
      here = ap (λ (o : Option M.D). bind o (M.follow n)) e

      written : output M (more p n) ≡ output M p ++ M.writes n d
      written = ap (λ (o : Option M.D). output M p ++ listed o (M.writes n)) e

      go : (x : Option M.D) → M.follow n d ≡ x → readings M (trail M (λ r. following M c r) p (suc n) k) ≡ arcs_tell M (λ r e w. state_tells M c r e w) d (output M p) (suc n) k
          → readings M (branch (datum M (more p n)) (λ r. following M c r) (more p n) (trail M (λ r. following M c r) p (suc n) k))
          ≡ if_fits (M.follow n d) (λ f. state_tells M c (M.target n) f (output M p ++ M.writes n d)) ++ arcs_tell M (λ r e w. state_tells M c r e w) d (output M p) (suc n) k
      go none f r =
          ap (λ (o : Option M.D). readings M (branch o (λ r. following M c r) (more p n) (trail M (λ r. following M c r) p (suc n) k))) (here ∙ f)
          ∙ r
          ∙ ap (λ (o : Option M.D). if_fits o (λ f. state_tells M c (M.target n) f (output M p ++ M.writes n d)) ++ arcs_tell M (λ r e w. state_tells M c r e w) d (output M p) (suc n) k) (sym f)
      go (some y) f r =
          ap (λ (o : Option M.D). readings M (branch o (λ r. following M c r) (more p n) (trail M (λ r. following M c r) p (suc n) k))) (here ∙ f)
          ∙ readings-append M (some (more p n) ∷ following M c (more p n)) (trail M (λ r. following M c r) p (suc n) k)
          ∙ ap₂ (λ (a b : List (List ℕ)). a ++ b) (G n y (here ∙ f) ∙ ap (λ (w : List ℕ). state_tells M c (M.target n) y w) written) r
          ∙ ap (λ (o : Option M.D). if_fits o (λ f. state_tells M c (M.target n) f (output M p ++ M.writes n d)) ++ arcs_tell M (λ r e w. state_tells M c r e w) d (output M p) (suc n) k) (sym f)

  path-tells : (c : ℕ) (p : Path) → PathTells c p
  unfolding readings following state_tells
  path-tells zero p d e = append-nil (reading M (some p)) ∙ self p d e
  path-tells (suc c) p d e = ap₂ (λ (a b : List (List ℕ)). a ++ b) (self p d e) (trail-tells c p d e (λ n. path-tells c (more p n)) (M.first (final M p)) (M.arity (final M p)))

  initials_tell_lem : (l : List ℕ) (i k : ℕ) → l ≡ drop i M.initials → k ≡ length l → readings M (tour_from M (following M M.limit) i k) ≡ initials_tell M l
  unfolding readings
  initials_tell_lem [] i zero e f = refl
  initials_tell_lem [] i (suc k) e f = absurd (omega arith)
  initials_tell_lem (s ∷ l) i zero e f = absurd (omega arith)
  initials_tell_lem (s ∷ l) i (suc k) e f =
      readings-append M (some (start i) ∷ following M M.limit (start i)) (tour_from M (following M M.limit) (suc i) k)
      ∙ ap₂ (λ (a b : List (List ℕ)). a ++ b) (path-tells M.limit (start i) M.d₀ refl ∙ ap (λ (x : ℕ). state_tells M M.limit x M.d₀ []) (drop_head M.initials i s l (sym e)))
      (initials_tell_lem l (suc i) k (sym (drop_tail M.initials i s l (sym e))) (omega arith))

  -- the tour's readings
  pub tour-tells : readings M (tour M) ≡ initials_tell M M.initials
  tour-tells = ap (readings M) (tour-is M) ∙ initials_tell_lem M.initials 0 (length M.initials) refl refl
