-- What holds of the machine without a ceiling, lifted to the machine under one.
use Prim.Native.Nat.{ℕ, ◌≤◌}
use mathlib.Core.Path.{◌≡◌, ap, ◌∙◌}
use mathlib.Core.Option.{some}
use lib.ListN.{length}
use Rattle.table_format.specs.Table.{Table}
use Rattle.table_format.proofs.Ruled.{Ruled}
use Rattle.machine.specs.Query.{Side, Query}
use Rattle.machine.specs.Machine.{Path, size, datum, output, Allowed, Bounded}
use Rattle.machine.specs.Ceiling.{sum_of}
use Rattle.machine.specs.Transducer.{Passed, passed, written_by, plain_machine, penalty_at, machine}
use Rattle.machine.specs.Idle.{NoIdleCycle}
use Rattle.machine.proofs.Ceiling as ceiling
use Rattle.machine.proofs.Transducer as plain
use Rattle.machine.proofs.Bound as bound

module _ (t : Table) (q : Query) where
  -- what a path has passed, and its sum
  pub datum-plain : (p : Path) (d : Passed × ℕ) → datum (machine t q) p ≡ some d → datum (plain_machine t q) p ≡ some d.0
  datum-plain p d e = (ceiling.datum-to (plain_machine t q) (penalty_at t) q.ceiling p d e).0

  pub datum-sum : (p : Path) (d : Passed × ℕ) → datum (machine t q) p ≡ some d → (d.1 ≡ sum_of (penalty_at t) p) × (sum_of (penalty_at t) p ≤ q.ceiling)
  datum-sum p d e = let D = ceiling.datum-to (plain_machine t q) (penalty_at t) q.ceiling p d e in (D.1, D.2)

  pub allowed-plain : (p : Path) → Allowed (machine t q) p → Allowed (plain_machine t q) p
  allowed-plain p A = (ceiling.allowed-to (plain_machine t q) (penalty_at t) q.ceiling p A).0

  pub has-datum : (p : Path) → Allowed (machine t q) p → (d : Passed × ℕ) × (datum (machine t q) p ≡ some d)
  has-datum p A = ceiling.has-datum (plain_machine t q) (penalty_at t) (machine t q) p A

  pub output-plain : (p : Path) → Allowed (machine t q) p → output (machine t q) p ≡ output (plain_machine t q) p
  output-plain p A = ceiling.output-same (plain_machine t q) (penalty_at t) q.ceiling p A

  -- the output's length is what was passed on the written side, and no count is above the arcs of the path
  pub written-length : (p : Path) (d : Passed × ℕ) → datum (machine t q) p ≡ some d → length (output (machine t q) p) ≡ written_by q d.0
  written-length p d e = ap length (ceiling.output-at (plain_machine t q) (penalty_at t) q.ceiling p d e) ∙ plain.written-length t q p d.0 (datum-plain p d e)

  pub passed-size : (p : Path) (d : Passed × ℕ) → datum (machine t q) p ≡ some d → (s : Side) → passed d.0 s ≤ size p
  passed-size p d e = plain.passed-size t q p d.0 (datum-plain p d e)

  pub bounded : NoIdleCycle t q.task → Ruled t → Bounded (machine t q)
  bounded none U = ceiling.ceiled-bounded (plain_machine t q) (penalty_at t) q.ceiling (bound.bounded t q none U)
