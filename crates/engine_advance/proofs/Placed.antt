-- 21, then the steps: what a call answers, by whether the run is a place in a search.
use Prim.Native.Nat.{ℕ}
use mathlib.Core.Path.{◌≡◌, refl, sym, ap, subst, ◌∙◌}
use mathlib.Core.Bool.{Bool, true, false}
use mathlib.Core.List.{List, []}
use lib.ListN.{length}
use Rattle.refusal.specs.declared.Refusal.TheVariants.{State}
use Rattle.refusal.specs.declared.StateCause.TheVariants.{Place}
use Rattle.machine.specs.declared.Run.{Run}
use Rattle.machine.specs.declared.Called.{Called}
use Rattle.machine.specs.declared.Answer.TheVariants.{Refused}
use Rattle.machine.specs.Machine.{Machine}
use Rattle.machine.specs.Frames.{Held, place_holds}
use Rattle.machine.specs.Call.{Replied, advance, entered, call}
use Rattle.machine.specs.Reading.{held_of}
use Rattle.machine.specs.Stack.{room_in, store}
use Rattle.machine.proofs.Frames.{place-placed}
use Rattle.machine.specs.Place.{Good}
use Rattle.machine.proofs.Stack.{same-is}
use Rattle.engine_frames.specs.declared.Setup.{Setup}
use Rattle.engine_step.specs.Setting.{query_by, table_by, machine_by}
use Rattle.engine_search.specs.Searching.{called_with, SearchIs}

module _ (s : Setup) (classes : List (List ℕ)) (initials terminals arcs upper lower : List ℕ) (run : Run) (stack : List ℕ) (n : ℕ) (buffer : List ℕ) where
  abbrev M : Machine
  M = machine_by s classes initials terminals arcs upper lower

  abbrev h : Held (List ℕ)
  h = held_of run stack

  -- the terminal states play no part
  abbrev placed : Bool
  placed = place_holds (machine_by s classes initials [] arcs upper lower) store h

  same_place : placed ≡ place_holds M store h
  unfolding place_holds
  same_place = refl

  call_by : (b : Bool) → placed ≡ b → entered M store b n (length buffer) h ≡ call M store n (length buffer) h
  unfolding call
  call_by b e = ap (λ (x : Bool). entered M store x n (length buffer) h) (sym e ∙ same_place)

  pub place_refused_lem : placed ≡ false → (r : Called) → r ≡ called_with (Refused 0 (State Place)) run
      → SearchIs run buffer (call M store n (length buffer) h) r stack buffer
  place_refused_lem e r k = subst (λ (x : Replied (List ℕ)). SearchIs run buffer x r stack buffer) (call_by false e) (k, refl, refl)

  module _ (e : placed ≡ true) where
    pub place-good : Good M store (room_in stack) h
    place-good =
        let W = place-placed M (same-is (table_by s classes initials terminals arcs) (query_by s upper lower)) store h (sym same_place ∙ e) in
        record { placed = W.1; deep = W.0; room = refl }

    pub place_searched : (r : Called) (c o : List ℕ) → SearchIs run buffer (advance M store (length buffer) n h) r c o
        → SearchIs run buffer (call M store n (length buffer) h) r c o
    place_searched r c o S = subst (λ (x : Replied (List ℕ)). SearchIs run buffer x r c o) (call_by true e) S
