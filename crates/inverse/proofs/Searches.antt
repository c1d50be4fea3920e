-- One search: what it received, by demand 3; and after a start without a refusal there are calls that come to their end.
use Prim.Native.Nat.{ℕ, zero, suc, ◌+◌, ◌*◌}
use native.Mathlib.Omega.{arith}
use mathlib.Core.Path.{◌≡◌, ap}
use mathlib.Core.List.{List, []}
use lib.ListN.{take, replicate, length-replicate}
use Rattle.table_format.specs.Table.{Table}
use Rattle.machine.specs.declared.Run.{Run}
use Rattle.machine.specs.declared.Started.{Started}
use Rattle.machine.specs.declared.StartAnswer.TheVariants.{Ready}
use Rattle.machine.specs.Query.{Query}
use Rattle.machine.specs.Tour.{tour, readings, tree_size}
use Rattle.machine.specs.Transducer.{letters_to_read, machine}
use Rattle.machine.specs.Asked.{runs, asked}
use Rattle.machine.specs.Start.{started}
use Rattle.machine.specs.Cases.{Ask, lent_all, AsksAmple, ask}
use Rattle.machine.proofs.Start.{ready-facts}
use Rattle.machine.proofs.Headlines as machines
use Rattle.inverse.specs.Readings.{readings_of}
use Rattle.inverse.specs.Search.{Search, received_by, steps, Ended}
use Rattle.inverse.proofs.Starts.{itself}

-- calls of one step, each with room enough
enough : (w n : ℕ) → AsksAmple w (replicate n (ask 1 w w))
enough w zero = tt
enough w (suc n) = ((omega arith, omega arith, omega arith), enough w n)

module _ (c : List ℕ) (task : ℕ) (u l : List ℕ) (ceiling : ℕ) (ready : (started c task u l ceiling).answer ≡ Ready) where
  abbrev this : Started
  this = started c task u l ceiling

  pub search_there : (X : Search c task u l ceiling) × Ended X
  search_there =
      let E = machines.end-comes c u l task ceiling this (itself this) ready in
      let room = (letters_to_read E.1 + 1) * E.0.states in
      let n = suc (tree_size (machine E.0 E.1)) in
      let asks : List Ask = replicate n (ask 1 room room) in
      let run : Run = this.run in (
        record {
          start = this;
          start_is = itself this;
          ready = ready;
          calls = lent_all c u l run [] asks;
          handed = machines.handed-there c u l asks run (ap (λ (r : Run). r.depth) (ready-facts c task u l ceiling this (itself this) ready).run_is);
        },
        (E.2.asks-end asks (enough room n) (omega (arith, length-replicate {A = Ask} n (ask 1 room room)))).0,
      )

pub search_told : (c : List ℕ) (task : ℕ) (u l : List ℕ) (ceiling : ℕ) (X : Search c task u l ceiling)
    → (t : Table) × (q : Query) × (asked c task u l ceiling ≡ runs t q) × (received_by X ≡ readings (machine t q) (take (steps X) (tour (machine t q)))) × (Ended X → received_by X ≡ readings_of t q)
search_told c task u l ceiling X =
    let E = machines.demand-three c task u l ceiling X.start X.start_is X.ready in
    let D = E.3 X.calls X.handed in
    (E.0, E.1, E.2, D.same-readings, machines.ended-whole u l E.0 E.1 X.start.run X.calls D)
