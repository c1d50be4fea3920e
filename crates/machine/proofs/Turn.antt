-- The loop of a call, turn by turn: k steps are made, and advance says how it goes on.
use Prim.Native.Nat.{ℕ, zero, suc, ◌+◌}
use native.Mathlib.Omega.{arith}
use mathlib.Core.Path.{◌≡◌, refl, ap, ◌∙◌}
use mathlib.Core.List.{List}
use Rattle.refusal.specs.declared.Refusal.{Refusal}
use Rattle.machine.specs.Machine.{Machine}
use Rattle.machine.specs.Frames.{Frame, Store, Held}
use Rattle.machine.specs.Step.{Move, over, drops, begins, skips, pushes, Stepped, moves, finds, refuses, move, made, step}
use Rattle.machine.specs.Call.{found, paused, ended, refused, Replied, still, one_more, tell, spent, advance}

-- what is told where k steps were made before
abbrev pub plus : {C : Type 0} → ℕ → Replied C → Replied C
plus k r = record { reply = r.reply; steps = k + r.steps; after = r.after }

pub plus_one : {C : Type 0} (k : ℕ) (r : Replied C) → plus k (one_more r) ≡ plus (suc k) r
plus_one k r = ap (λ (n : ℕ). record { reply = r.reply; steps = n; after = r.after }) (let e : k + suc r.steps ≡ suc k + r.steps = omega arith in e)

pub plus_none : {C : Type 0} (r : Replied C) → plus 0 r ≡ r
plus_none r = ap (λ (n : ℕ). record { reply = r.reply; steps = n; after = r.after }) (let e : 0 + r.steps ≡ r.steps = omega arith in e)

module _ (M : Machine) (S : Store (Frame M.D)) (l : ℕ) (h : Held S.Cells) where
  -- the end is looked for first
  pub ended-turn : (n : ℕ) → move M S h ≡ over → advance M S l n h ≡ still ended h
  unfolding advance step
  ended-turn zero e = ap (λ (m : Move (Frame M.D)). still (spent m) h) e
  ended-turn (suc n) e = ap (λ (m : Move (Frame M.D)). tell h (made M S l h m) (λ d. advance M S l n d)) e

  -- then the allowance
  pub paused-turn : (move M S h ≡ over → ⊥) → advance M S l 0 h ≡ still paused h
  unfolding advance
  paused-turn f = go (move M S h) f
    where
      go : (m : Move (Frame M.D)) → (m ≡ over → ⊥) → still (spent m) h ≡ still paused h
      go over f = absurd (f refl)
      go drops f = refl
      go (begins g) f = refl
      go (skips g) f = refl
      go (pushes g e) f = refl

  -- then the step
  module _ (n : ℕ) where
    pub step-turn : (s : Stepped S.Cells) → step M S l h ≡ s → advance M S l (suc n) h ≡ tell h s (λ d. advance M S l n d)
    unfolding advance
    step-turn s e = ap (λ (x : Stepped S.Cells). tell h x (λ d. advance M S l n d)) e

    pub moved-turn : (k : ℕ) (d : Held S.Cells) → step M S l h ≡ moves d → plus k (advance M S l (suc n) h) ≡ plus (suc k) (advance M S l n d)
    moved-turn k d e = ap (plus k) (step-turn (moves d) e) ∙ plus_one k (advance M S l n d)

    pub found_turn : (d : Held S.Cells) (o : List ℕ) → step M S l h ≡ finds d o → advance M S l (suc n) h ≡ record { reply = found o; steps = 1; after = d }
    found_turn d o e = step-turn (finds d o) e

    pub refused-turn : (r : Refusal) → step M S l h ≡ refuses r → advance M S l (suc n) h ≡ still (refused r) h
    refused-turn r e = step-turn (refuses r) e
