-- After 23: as many letters as frames are in use are enough for the refused step.
use Prim.Native.Nat.{ℕ, suc, pred, ◌≤◌, ◌<◌}
use native.Mathlib.Omega.{arith}
use mathlib.Core.Path.{◌≡◌, refl, sym, ap, subst, ◌∙◌}
use mathlib.Core.Logic.{⊎_elim}
use mathlib.Core.Bool.{Bool, true, false}
use mathlib.Core.List.{List, tail}
use lib.ListN.{length}
use lib.Dec.{ltb}
use borrow.Author.Tests.{ltb-true, le-ltb}
use Rattle.table_format.specs.Table.{Table}
use Rattle.refusal.specs.Refusal.{number_of}
use Rattle.refusal.specs.declared.Refusal.{Refusal}
use Rattle.refusal.specs.declared.Refusal.TheVariants.{State}
use Rattle.refusal.specs.declared.StateCause.TheVariants.{StackFull, OutputFull}
use Rattle.machine.specs.declared.Run.{Run}
use Rattle.machine.specs.declared.Answer.TheVariants.{Found}
use Rattle.machine.specs.Query.{Query}
use Rattle.machine.specs.Machine.{Machine, size, accepts, output}
use Rattle.machine.specs.Frames.{Frame, Held, frames_of, walk_to, path_of}
use Rattle.machine.specs.Place.{Good, InSearch}
use Rattle.machine.specs.Step.{Move, over, drops, begins, skips, pushes, finds, refuses, move, effect, offered, arrived, pushed, made, step}
use Rattle.machine.specs.Call.{found, Replied, advance, at_end_lem, at-reading, at-allowance, at-refusal}
use Rattle.machine.specs.Transducer.{Passed, machine}
use Rattle.machine.specs.Stack.{room_in, store}
use Rattle.machine.specs.Asked.{Asked, runs, asked}
use Rattle.machine.specs.Reading.{Outcome, told_by, outcome_as, outcome_of, outcome, CallBy, no_place, goes_on}
use Rattle.machine.proofs.Frames.{frames-length, walk-size}
use Rattle.machine.proofs.Held.{RoomFor, allowed_at, move-good}
use Rattle.machine.proofs.Stops.{step-full, steps-good}
use Rattle.machine.proofs.Turn.{found_turn}
use Rattle.machine.proofs.Stack.{store_laws}
use Rattle.machine.proofs.Call.{in_place-call}
use Rattle.machine.proofs.Reading.{search_place, call_by}
use Rattle.machine.proofs.Live.{output-size}

module _ (t : Table) (q : Query) where
  abbrev M : Machine
  M = machine t q

  -- the path of d + 1 frames has d arcs, and writes at most as many letters
  few-letters : (N d : ℕ) (e : Held (List ℕ)) → e.depth ≡ suc d → Good M store N e → length (output M (path_of M store e)) ≤ d
  few-letters N d e z G =
      omega (
        arith,
        output-size t q (path_of M store e) (allowed_at M store store_laws e.started e.depth e.cells (omega arith) G.placed),
        ap (λ (k : ℕ). size (walk_to e.started (tail (frames_of store e.cells k)))) z,
        walk-size M e.started (frames_of store e.cells d),
        frames-length store e.cells d,
      )

  module _ (l m : ℕ) where
    -- a push that is refused for a buffer of l letters finds with m, where they are enough
    finds-later : (b : Bool) (e : Held (List ℕ)) → (b ≡ true → length (output M (path_of M store e)) ≤ m) → pushed M store b l e ≡ refuses (State OutputFull)
        → (o : List ℕ) × (pushed M store b m e ≡ finds e o)
    finds-later false e k z = absurd (let y : ◌≡◌ {A = Refusal} (State StackFull) (State OutputFull) = cc in let n : 22 ≡ 23 = ap number_of y in omega arith)
    finds-later true e k z = go (accepts M (path_of M store e)) z
      where
        go : (v : Bool) → arrived M store v l e ≡ refuses (State OutputFull) → (o : List ℕ) × (arrived M store v m e ≡ finds e o)
        go false z = absurd (let y : ◌≡◌ {A = ℕ} 0 1 = cc in omega arith)
        go true z = (output M (path_of M store e), ap (λ (v : Bool). offered M store v (output M (path_of M store e)) e) (le-ltb m (length (output M (path_of M store e))) (k refl)))

    finding : (N : ℕ) (d : Held (List ℕ)) → Good M store N d → d.depth ≤ m → step M store l d ≡ refuses (State OutputFull) → (e : Held (List ℕ)) × (o : List ℕ) × (step M store m d ≡ finds e o)
    unfolding step
    finding N d G k z = go (move M store d) refl z
      where
        after : (b : Move (Frame (Passed × ℕ))) → move M store d ≡ b → RoomFor N d.depth b → Good M store N (effect M store b d)
        after b e r = subst (λ (w : Move (Frame (Passed × ℕ))). RoomFor N d.depth w → Good M store N (effect M store w d)) e (move-good M store store_laws N d G) r

        room : ltb d.depth (room_in d.cells) ≡ true → d.depth < N
        room b = omega (arith, ltb-true d.depth (room_in d.cells) b, G.room)

        go : (b : Move (Frame (Passed × ℕ))) → move M store d ≡ b → made M store l d b ≡ refuses (State OutputFull) → (e : Held (List ℕ)) × (o : List ℕ) × (made M store m d b ≡ finds e o)
        go over e z = absurd (let y : ◌≡◌ {A = ℕ} 0 1 = cc in omega arith)
        go drops e z = absurd (let y : ◌≡◌ {A = ℕ} 0 1 = cc in omega arith)
        go (begins g) e z =
            let F = finds-later (ltb d.depth (room_in d.cells)) (effect M store (begins g) d) (λ b. omega (arith, few-letters N 0 (effect M store (begins g) d) refl (after (begins g) e (room b)))) z in
            (effect M store (begins g) d, F.0, F.1)
        go (skips f) e z = absurd (let y : ◌≡◌ {A = ℕ} 0 1 = cc in omega arith)
        go (pushes f g) e z =
            let F = finds-later (ltb d.depth (room_in d.cells)) (effect M store (pushes f g) d) (λ b. omega (arith, few-letters N d.depth (effect M store (pushes f g) d) refl (after (pushes f g) e (room b)))) z in
            (effect M store (pushes f g) d, F.0, F.1)

  enough-by : (run : Run) (stack : List ℕ) (n : ℕ) (buffer : List ℕ) {o : Outcome} → CallBy t q run stack n buffer o → (told_by o).number ≡ 23
      → (b : List ℕ) (m : ℕ) → o.called.run.depth ≤ length b → 0 < m → (k : ℕ) × ((outcome_of (runs t q) o.called.run o.stack m b).called.answer ≡ Found 1 k)
  enough-by run stack n buffer (no_place f) e b m k a = absurd (omega arith)
  enough-by run stack n buffer (goes_on I (at_end_lem s j z)) e b m k a = absurd (omega arith)
  enough-by run stack n buffer (goes_on I (at-reading w s j z)) e b m k a = absurd (omega arith)
  enough-by run stack n buffer (goes_on I (at-allowance s z)) e b m k a = absurd (omega arith)
  enough-by run stack n buffer (goes_on I (at-refusal {d = d} c s j z)) e b m k a =
      (length F.1, ap (λ (r : Replied (List ℕ)). (outcome_as run b r).called.answer) (in_place-call M store m (length b) d (search_place t q after d.cells J) ∙ turn))
    where
      full : c ≡ State OutputFull
      full = ⊎_elim (λ x. absurd (let y : ◌≡◌ {A = ℕ} 22 23 = ap number_of (sym x) ∙ e in omega arith)) (λ x. x) (step-full M store (length buffer) d c z)

      G : Good M store (room_in stack) d
      G = steps-good M store (length buffer) store_laws (room_in stack) s (record { placed = I.placed; deep = omega (arith, I.in_stack, I.in_limit); room = refl })

      F : (e : Held (List ℕ)) × (o : List ℕ) × (step M store (length b) d ≡ finds e o)
      F = finding (length buffer) (length b) (room_in stack) d G k (z ∙ ap refuses full)

      after : Run
      after = record { task = run.task; started = d.started; depth = d.depth; ceiling = run.ceiling }

      J : InSearch t q after d.cells
      J = record { in_stack = omega (arith, G.deep, G.room); in_limit = omega (arith, G.deep, G.room); placed = G.placed }

      turn : advance M store (length b) m d ≡ record { reply = found F.1; steps = 1; after = F.0 }
      turn = ap (λ (j : ℕ). advance M store (length b) j d) (let y : m ≡ suc (pred m) = omega arith in y) ∙ found_turn M store (length b) d (pred m) F.0 F.1 F.2

pub after_23 : (cells upper lower : List ℕ) (run : Run) (stack : List ℕ) (n : ℕ) (buffer : List ℕ) (t : Table) (q : Query) → asked cells run.task upper lower run.ceiling ≡ runs t q
    → (told_by (outcome cells upper lower run stack n buffer)).number ≡ 23
    → (b : List ℕ) (m : ℕ) → (outcome cells upper lower run stack n buffer).called.run.depth ≤ length b → 0 < m
    → (k : ℕ) × ((outcome cells upper lower (outcome cells upper lower run stack n buffer).called.run (outcome cells upper lower run stack n buffer).stack m b).called.answer ≡ Found 1 k)
unfolding outcome
after_23 cells upper lower run stack n buffer t q a e b m k p = subst Enough (sym a) there e k
  where
    Enough : Asked → Type 0
    Enough w =
        let o = outcome_of w run stack n buffer in
        (told_by o).number ≡ 23 → o.called.run.depth ≤ length b → (k : ℕ) × ((outcome_of (asked cells o.called.run.task upper lower o.called.run.ceiling) o.called.run o.stack m b).called.answer ≡ Found 1 k)

    there : Enough (runs t q)
    there e k =
        let o = outcome_of (runs t q) run stack n buffer in
        subst (λ (v : Asked). (k : ℕ) × ((outcome_of v o.called.run o.stack m b).called.answer ≡ Found 1 k)) (sym a) (enough-by t q run stack n buffer (call_by t q run stack n buffer) e b m k p)
