-- What demand 3 asks of a list of calls can be met: any allowances, stack lengths and buffer lengths, lent one after another.
use Prim.Native.Nat.{ℕ, ◌+◌, ◌*◌, ◌≤◌, ◌<◌}
use native.Mathlib.Omega.{arith}
use mathlib.Core.Path.{◌≡◌, refl, sym, ap, ◌∙◌}
use mathlib.Core.Bool.{Bool, true, false, cond}
use mathlib.Core.List.{List, [], ◌∷◌, ◌++◌}
use lib.ListN.{length, take, replicate, length-append, length-replicate}
use lib.Seq.{length-take-le, take-take, take_at}
use lib.Dec.{leb}
use borrow.Author.Tests.{leb-true, leb-false}
use Rattle.table_format.specs.Table.{Table}
use Rattle.machine.specs.declared.Run.{Run}
use Rattle.machine.specs.Query.{Query}
use Rattle.machine.specs.Machine.{Bounded}
use Rattle.machine.specs.Place.{Good}
use Rattle.machine.specs.Transducer.{letters_to_read, machine}
use Rattle.machine.specs.Stack.{frame_width, frames_in, room_in, store}
use Rattle.machine.specs.Asked.{Asked, turned, runs, asked}
use Rattle.machine.specs.Reading.{Outcome, outcome_of, outcome, CallBy, no_place, goes_on}
use Rattle.machine.specs.Demand.{Lent, AmpleCalls, none, ample, used_of, call_on, run_after, used_after, Handed}
use Rattle.machine.specs.Cases.{Ask, lent_for, lent_all, AsksAmple}
use Rattle.machine.proofs.Stack.{store_laws}
use Rattle.machine.proofs.Stops.{stops-good}
use Rattle.machine.proofs.Reading.{call_by}
use Rattle.machine.proofs.Live.{ample-by_size}

-- a stack that has the used frames before a call has them after it, and a shorter one leaves the depth
pub record StackLaw (run : Run) (stack : List ℕ) (o : Outcome) : Type 0 where
  pub long : run.depth ≤ frames_in stack → o.called.run.depth ≤ frames_in o.stack
  pub short : frames_in stack < run.depth → o.called.run.depth ≡ run.depth

stack-by : (t : Table) (q : Query) (run : Run) (stack : List ℕ) (n : ℕ) (buffer : List ℕ) {o : Outcome} → CallBy t q run stack n buffer o → StackLaw run stack o
stack-by t q run stack n buffer (no_place f) = record { long = λ k. k; short = λ k. refl }
stack-by t q run stack n buffer (goes_on {c = c} I s) = record { long = λ k. omega (arith, G.deep, G.room); short = λ k. absurd (omega (arith, I.in_stack)) }
  where
    G : Good (machine t q) store (room_in stack) c.after
    G = stops-good (machine t q) store (length buffer) store_laws (room_in stack) s (record { placed = I.placed; deep = omega (arith, I.in_stack, I.in_limit); room = refl })

stack_law : (cells upper lower : List ℕ) (run : Run) (stack : List ℕ) (n : ℕ) (buffer : List ℕ) → StackLaw run stack (outcome cells upper lower run stack n buffer)
unfolding outcome
stack_law cells upper lower run stack n buffer = go (asked cells run.task upper lower run.ceiling)
  where
    go : (w : Asked) → StackLaw run stack (outcome_of w run stack n buffer)
    go (turned r) = record { long = λ k. k; short = λ k. refl }
    go (runs t q) = stack-by t q run stack n buffer (call_by t q run stack n buffer)

-- a stack as lent_for makes it
module _ (used : List ℕ) (f : ℕ) where
  abbrev filled : List ℕ
  filled = take (f * frame_width) (used ++ replicate (f * frame_width) 7)

  filled-length : length filled ≡ f * frame_width
  filled-length = length-take-le (f * frame_width) (used ++ replicate (f * frame_width) 7) (omega (arith, length-append used (replicate (f * frame_width) 7), length-replicate {A = ℕ} (f * frame_width) 7))

  filled_used : (d : ℕ) → length used ≡ d * frame_width → d ≤ frames_in filled → used_of d filled ≡ used
  filled_used d e h =
      let k : d ≤ f = omega (arith, filled-length) in
      take-take (d * frame_width) (f * frame_width) (used ++ replicate (f * frame_width) 7) (omega arith) ∙ take_at used (replicate (f * frame_width) 7) (d * frame_width) e

module _ (cells upper lower : List ℕ) where
  used_length : (r : Run) (used : List ℕ) (x : Lent) → length used ≡ r.depth * frame_width → length (used_after upper lower r used x) ≡ (run_after upper lower r x).depth * frame_width
  used_length r used x e = go (leb r.depth (frames_in x.stack)) refl
    where
      L : StackLaw r x.stack (call_on upper lower r x)
      L = stack_law x.table upper lower r x.stack x.allowance x.buffer

      go : (b : Bool) → leb r.depth (frames_in x.stack) ≡ b → length (cond b (used_of (run_after upper lower r x).depth (call_on upper lower r x).stack) used) ≡ (run_after upper lower r x).depth * frame_width
      go true z =
          let k : (run_after upper lower r x).depth ≤ frames_in (call_on upper lower r x).stack = L.long (leb-true _ _ z) in
          length-take-le ((run_after upper lower r x).depth * frame_width) (call_on upper lower r x).stack (omega arith)
      go false z = e ∙ ap (λ (d : ℕ). d * frame_width) (sym (L.short (leb-false _ _ z)))

  -- from any run whose used frames are used
  pub handed-there : (asks : List Ask) (r : Run) (used : List ℕ) → length used ≡ r.depth * frame_width → Handed upper lower cells r used (lent_all cells upper lower r used asks)
  handed-there [] r used e = tt
  handed-there (a ∷ asks) r used e =
      let x = lent_for cells a used in
      (refl, filled_used used a.frames r.depth e, handed-there asks (run_after upper lower r x) (used_after upper lower r used x) (used_length r used x e))

-- What is lent for asks that have room enough.

module _ (t : Table) (q : Query) (B : Bounded (machine t q)) (cells upper lower : List ℕ) where
  pub asks-ample : (asks : List Ask) (r : Run) (used : List ℕ) → AsksAmple ((letters_to_read q + 1) * t.states) asks → AmpleCalls t q (length asks) (lent_all cells upper lower r used asks)
  asks-ample [] r used A = none
  asks-ample (a ∷ asks) r used A =
      let x = lent_for cells a used in
      ample (ample-by_size t q B x (omega (arith, filled-length used a.frames, A.0.0)) A.0.1 (omega (arith, length-replicate {A = ℕ} a.letters 9, A.0.2)))
      (asks-ample asks (run_after upper lower r x) (used_after upper lower r used x) A.1)
