-- Document 01, "One step": a call is steps under an allowance. "It goes on until the end, until a push makes an accepting path, until
-- the allowance is used, or until a refusal; the end is looked for before the allowance, the allowance before the next step and its
-- refusals."
use Rattle.std.specs.Prelude.{ℕ, zero, suc, ◌≤◌, ◌<◌, Bool, true, false, List, ◌≡◌, length}
use Rattle.refusal.specs.declared.Refusal.{Refusal}
use Rattle.refusal.specs.declared.Refusal.TheVariants.{State}
use Rattle.refusal.specs.declared.StateCause.TheVariants.{Place}
use Rattle.machine.specs.Machine.{Machine}
use Rattle.machine.specs.Frames.{Frame, Store, Held, place_holds}
use Rattle.machine.specs.Step.{Move, over, drops, begins, skips, pushes, Stepped, ends, moves, finds, refuses, move, step}

-- "Found (output ..), Paused, Ended, or Refused"; found has the output
pub data Reply : Type 0 where
  found : List ℕ → Reply
  paused ended : Reply
  refused : Refusal → Reply

-- a call's reply, the number of steps made in it, and the run with its cells after it
pub record Replied (C : Type 0) : Type 0 where
  pub reply : Reply
  pub steps : ℕ
  pub after : Held C

-- a reply before any step
abbrev pub still : {C : Type 0} → Reply → Held C → Replied C
still a h = record { reply = a; steps = 0; after = h }

-- the same after one step more
abbrev pub one_more : {C : Type 0} → Replied C → Replied C
one_more r = record { reply = r.reply; steps = suc r.steps; after = r.after }

-- a step's outcome; k says how the call goes on. A step that is refused leaves the run and the cells as they were.
abbrev pub tell : {C : Type 0} → Held C → Stepped C → (Held C → Replied C) → Replied C
tell h ends k = still ended h
tell h (moves d) k = one_more (k d)
tell h (finds d o) k = record { reply = found o; steps = 1; after = d }
tell h (refuses r) k = still (refused r) h

-- the reply where the allowance is used
abbrev pub spent : {F : Type 0} → Move F → Reply
spent over = ended
spent drops = paused
spent (begins g) = paused
spent (skips f) = paused
spent (pushes f g) = paused

module _ (M : Machine) (S : Store (Frame M.D)) where
  -- at most n steps, with an output buffer of l letters
  unfoldable pub advance : ℕ → ℕ → Held S.Cells → Replied S.Cells
  advance l zero h = still (spent (move M S h)) h
  advance l (suc n) h = tell h (step M S l h) (λ d. advance l n d)

  -- 21, then the steps
  abbrev pub entered : Bool → ℕ → ℕ → Held S.Cells → Replied S.Cells
  entered false n l h = still (refused (State Place)) h
  entered true n l h = advance l n h

  -- a call with n steps allowed and an output buffer of l letters
  unfoldable pub call : ℕ → ℕ → Held S.Cells → Replied S.Cells
  call n l h = entered (place_holds M S h) n l h

  -- What a call does, without the loop: the steps it makes, and where it stops.

  -- k steps of the step rule, none of which finds, lead from h to d
  pub data Steps (l : ℕ) : ℕ → Held S.Cells → Held S.Cells → Type 0 where
    here : {h : Held S.Cells} → Steps l 0 h h
    moved : {k : ℕ} {h e d : Held S.Cells} → step M S l h ≡ moves e → Steps l k e d → Steps l (suc k) h d

  -- "Depth 0 with no initial state left is the end."
  abbrev pub AtEnd : Held S.Cells → Type 0
  AtEnd h = (h.depth ≡ 0) × (length M.initials ≤ h.started)

  -- from h, with n steps allowed and an output buffer of l letters: "It goes on until the end, until a push makes an accepting path, until the
  -- allowance is used, or until a refusal". The four exclude each other (stops-one).
  pub data Stops (l n : ℕ) (h : Held S.Cells) : Replied S.Cells → Type 0 where
    -- Ended: "the end is looked for before the allowance"
    at_end_lem : {k : ℕ} {d : Held S.Cells} → Steps l k h d → k ≤ n → AtEnd d → Stops l n h (record { reply = ended; steps = k; after = d })
    -- Found, "even when its step was the last allowed"
    at-reading : {k : ℕ} {e d : Held S.Cells} (o : List ℕ) → Steps l k h e → k < n → step M S l e ≡ finds d o → Stops l n h (record { reply = found o; steps = suc k; after = d })
    -- Paused: the allowance is used, and it is not the end
    at-allowance : {d : Held S.Cells} → Steps l n h d → (AtEnd d → ⊥) → Stops l n h (record { reply = paused; steps = n; after = d })
    -- Refused: "the allowance before the next step and its refusals"; "Steps before a refused one stand"
    at-refusal : {k : ℕ} {d : Held S.Cells} (c : Refusal) → Steps l k h d → k < n → step M S l d ≡ refuses c → Stops l n h (record { reply = refused c; steps = k; after = d })
