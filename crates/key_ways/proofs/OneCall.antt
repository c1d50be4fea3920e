-- What one call keeps, for any run, stack, allowance and buffer: the frames that can be used, the buffer's length; and a paused call makes all its steps.
use Prim.Native.Nat.{ℕ, ◌≤◌, ◌<◌}
use native.Mathlib.Omega.{arith}
use mathlib.Core.Path.{◌≡◌, refl, subst}
use mathlib.Core.List.{List}
use lib.ListN.{length, drop, length-append, length-drop}
use Rattle.table_format.specs.Table.{Table}
use Rattle.refusal.specs.Told.{paused_kind}
use Rattle.machine.specs.declared.Run.{Run}
use Rattle.machine.specs.Query.{Query}
use Rattle.machine.specs.Answer.{told}
use Rattle.machine.specs.Place.{Good, InSearch}
use Rattle.machine.specs.Call as R
use Rattle.machine.specs.Transducer.{machine}
use Rattle.machine.specs.Stack.{frames_in, room_in, store}
use Rattle.machine.specs.Asked.{Asked, turned, runs, asked}
use Rattle.machine.specs.Reading.{Outcome, told_by, held_of, answer_as, output_as, outcome_as, outcome_of, outcome, CallBy, no_place, goes_on}
use Rattle.machine.proofs.Held.{GoodStep, step-good}
use Rattle.machine.proofs.Stack.{store_laws}
use Rattle.machine.proofs.Stops.{steps-good, stops-good}
use Rattle.machine.proofs.Reading.{call_by}

pub record OneCall (run : Run) (stack : List ℕ) (n : ℕ) (buffer : List ℕ) (o : Outcome) : Type 0 where
  pub same-room : room_in o.stack ≡ room_in stack
  pub same-letters : length o.output ≡ length buffer
  -- a stack that is too short for the used frames is so after it
  pub short : frames_in stack < run.depth → frames_in o.stack < o.called.run.depth
  pub paused : (told_by o).kind ≡ paused_kind → (told_by o).steps ≡ n

module _ (t : Table) (q : Query) (run : Run) (stack : List ℕ) (n : ℕ) (buffer : List ℕ) where
  begin : InSearch t q run stack → Good (machine t q) store (room_in stack) (held_of run stack)
  begin I = record { placed = I.placed; deep = omega (arith, I.in_stack, I.in_limit); room = refl }

  -- a call that was begun keeps them, whatever it stops at
  begun : {c : R.Replied (List ℕ)} → InSearch t q run stack → R.Stops (machine t q) store (length buffer) n (held_of run stack) c
      → length (output_as c.reply buffer) ≡ length buffer → ((told (answer_as c.reply c.steps)).kind ≡ paused_kind → (told (answer_as c.reply c.steps)).steps ≡ n)
      → OneCall run stack n buffer (outcome_as run buffer c)
  begun I s letters pauses =
      record {
        same-room = (stops-good (machine t q) store (length buffer) store_laws (room_in stack) s (begin I)).room;
        same-letters = letters;
        short = λ h. absurd (omega (arith, I.in_stack));
        paused = pauses;
      }

  one-by : {o : Outcome} → CallBy t q run stack n buffer o → OneCall run stack n buffer o
  one-by (no_place f) = record { same-room = refl; same-letters = refl; short = λ k. k; paused = λ e. absurd (omega arith) }
  one-by (goes_on I (R.at_end_lem s k z)) = begun I (R.at_end_lem s k z) refl (λ e. absurd (omega arith))
  one-by (goes_on I (R.at-reading {e = e} o s k z)) =
      let G = steps-good (machine t q) store (length buffer) store_laws (room_in stack) s (begin I) in
      let fits : length o ≤ length buffer = (subst (GoodStep (machine t q) store store_laws (room_in stack) (length buffer)) z (step-good (machine t q) store store_laws (room_in stack) (length buffer) e G)).3 in
      begun I (R.at-reading o s k z) (omega (arith, length-append o (drop (length o) buffer), length-drop (length o) buffer)) (λ y. absurd (omega arith))
  one-by (goes_on I (R.at-allowance s z)) = begun I (R.at-allowance s z) refl (λ e. refl)
  one-by (goes_on I (R.at-refusal c s k z)) = begun I (R.at-refusal c s k z) refl (λ e. absurd (omega arith))

pub one-call : (cells upper lower : List ℕ) (run : Run) (stack : List ℕ) (n : ℕ) (buffer : List ℕ) → OneCall run stack n buffer (outcome cells upper lower run stack n buffer)
unfolding outcome
one-call cells upper lower run stack n buffer = go (asked cells run.task upper lower run.ceiling)
  where
    go : (w : Asked) → OneCall run stack n buffer (outcome_of w run stack n buffer)
    go (turned r) = record { same-room = refl; same-letters = refl; short = λ k. k; paused = λ e. absurd (omega arith) }
    go (runs t q) = one-by t q run stack n buffer (call_by t q run stack n buffer)
