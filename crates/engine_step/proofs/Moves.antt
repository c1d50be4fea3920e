-- The move that the code computes from the cells.
use Prim.Native.Nat.{ℕ, zero, suc, pred, ◌+◌, ◌-◌, ◌<◌, ◌≤◌}
use native.Mathlib.Omega.{arith}
use mathlib.Core.Path.{◌≡◌, refl, sym, ap, ap₂, ◌∙◌}
use mathlib.Core.Bool.{Bool, true, false, ◌||◌}
use mathlib.Core.Option.{Option, none, some}
use mathlib.Core.List.{List, []}
use lib.Dec.{leb}
use lib.ListN.{length, get_or}
use Rattle.table_format.specs.declared.Arc as Held
use Rattle.table_format.specs.Table.{Arc, Table, no_arc}
use Rattle.table_format.specs.Index.{below}
use Rattle.table_format.specs.Cells.{arc_count, arc_held, arc_of, arcs_as, arc_said}
use Rattle.table_format.proofs.Arcs.{get_d_arcs}
use Rattle.machine.specs.Query.{Side, upper_side, lower_side, reads}
use Rattle.machine.specs.Machine.{Machine, bind, somewhen}
use Rattle.machine.specs.Frames as F
use Rattle.machine.specs.Frames.{untried}
use Rattle.machine.specs.Step.{try_arc, move_top, move_start, move}
use Rattle.machine.specs.Transducer.{side_follow, Passed, passed, both, next_letter, plain_by, follow_at}
use Rattle.machine.specs.Stack.{look_at, store}
use Rattle.machine.proofs.Held.{move_start_lem, move_top_lem}
use Rattle.machine.proofs.Range.{below-rises}
use Rattle.engine_frames.specs.declared.Setup.{Setup}
use Rattle.std.specs.Prelude as Code
use Rattle.std.specs.Prelude.{Some, None}
use Rattle.engine_frames.specs.declared.Passed as Counts
use Rattle.engine_frames.specs.declared.Frame.{Frame}
use Rattle.engine_frames.specs.Frames.{frame_of}
use Rattle.engine_frames.specs.Sides.{fit_of, passed_in, setup_reads, by_side, follow_in, summed}
use Rattle.engine_push.specs.declared.NewFrame.{NewFrame}
use Rattle.engine_push.proofs.Cells.{pred_suc}
use Rattle.engine_step.specs.declared.Move.TheVariants.{Drops, Skips, Pushes}
use Rattle.engine_step.specs.Setting.{task_by, query_by, table_by, machine_by, held, InBounds, Top}
use Rattle.engine_step.specs.Stepping.{push_if, push_along, move_as}

-- The sides that a task by its flags reads.

pub reads-is : (s : Setup) → (s.up || s.low) ≡ true → (side : Side) → reads (task_by s.up s.low) side ≡ setup_reads s side
reads-is s h side = go s.up s.low side h
  where
    go : (a b : Bool) (side : Side) → (a || b) ≡ true → reads (task_by a b) side ≡ by_side a b side
    go true true upper_side h = refl
    go true true lower_side h = refl
    go true false upper_side h = refl
    go true false lower_side h = refl
    go false true upper_side h = refl
    go false true lower_side h = refl
    go false false side h = absurd (let z : ◌≡◌ {A = ℕ} 0 1 = cc in omega arith)

pub follow-is : (s : Setup) → (s.up || s.low) ≡ true → (t : Table) (upper lower : List ℕ) (a : Arc) (d : Passed)
    → follow_at t (query_by s upper lower) a d ≡ follow_in s t.classes upper lower a d
follow-is s h t upper lower a d =
    ap₂ (λ (p r : Bool). bind (plain_by t.classes a (next_letter p upper lower d)) (λ b. both (side_follow p upper b.upper d.up) (side_follow r lower b.lower d.low))) (reads-is s h upper_side) (reads-is s h lower_side)

-- a frame to push, by its numbers
abbrev new_frame : ℕ → ℕ → ℕ → ℕ → ℕ → ℕ → NewFrame
new_frame n d state up low sum = record { started = n; depth = d; state = state; passed = record { up = up; low = low }; sum = sum }

-- what an arc makes of what was passed and of a sum, where its penalty is p
abbrev under : ℕ → ℕ → ℕ → Option Passed → Option (Passed × ℕ)
under ceiling sum p o = bind o (λ e. somewhen (leb (sum + p) ceiling) (e, sum + p))

-- The move.

module _ (s : Setup) (classes : List (List ℕ)) (initials arcs upper lower : List ℕ) (n : ℕ) (c : List ℕ) where
  abbrev t : Table
  t = table_by s classes initials [] arcs

  abbrev M : Machine
  M = machine_by s classes initials [] arcs upper lower

  pub begins-is : (d : ℕ) → d ≡ 0 → n < length initials → Pushes (new_frame (n + 1) 1 (get_or initials n 0) 0 0 0) ≡ move_as n d (move M store (held n d c))
  begins-is d e h = go (length initials - n) (let z : 0 < length initials - n = omega arith in z) ∙ ap (move_as n d) (sym (move_start_lem M store (held n d c) e))
    where
      go : (k : ℕ) → 0 < k → Pushes (new_frame (n + 1) 1 (get_or initials n 0) 0 0 0) ≡ move_as n d (move_start M n k)
      go zero z = absurd (omega arith)
      go (suc k) z = ap (λ (j : ℕ). Pushes (new_frame (n + 1) (suc j) (get_or initials n 0) 0 0 0)) (sym e)

  untried-is : (f : F.Frame (Passed × ℕ)) → untried M f ≡ below (suc f.state) (arcs_as arcs) - f.next
  untried-is f = let h = below-rises f.state (arcs_as arcs) in let z : (below f.state (arcs_as arcs) + (below (suc f.state) (arcs_as arcs) - below f.state (arcs_as arcs))) - f.next ≡ below (suc f.state) (arcs_as arcs) - f.next = omega arith in z

  module _ (d k : ℕ) (e : d ≡ suc k) where
    abbrev f : F.Frame (Passed × ℕ)
    f = look_at c k

    abbrev end : ℕ
    end = below (suc f.state) (arcs_as arcs)

    at_top : (j : ℕ) → untried M f ≡ j → move M store (held n d c) ≡ move_top M f j
    at_top j u = move_top_lem M store (held n d c) k e ∙ ap (move_top M f) u

    drops_is : end ≤ f.next → Drops ≡ move_as n d (move M store (held n d c))
    drops_is h = ap (move_as n d) (sym (at_top 0 (untried-is f ∙ (let z : end - f.next ≡ 0 = omega arith in z))))

    module _ (h : f.next < end) (w : f.next < arc_count arcs) (r : (s.up || s.low) ≡ true) where
      abbrev a : Arc
      a = arc_of arcs f.next

      abbrev o : Option Passed
      o = follow_in s classes upper lower a f.datum.0

      arc-is : get_or (arcs_as arcs) f.next no_arc ≡ a
      arc-is = get_d_arcs (arc_count arcs) arcs f.next no_arc w

      tries : move M store (held n d c) ≡ try_arc M f (under s.ceiling f.datum.1 a.penalty o)
      tries = at_top (suc (pred (end - f.next))) (untried-is f ∙ (let z : end - f.next ≡ suc (pred (end - f.next)) = omega arith in z))
          ∙ ap (try_arc M f) (ap (λ (x : Arc). under s.ceiling f.datum.1 x.penalty (follow_at t (query_by s upper lower) x f.datum.0)) arc-is ∙ ap (under s.ceiling f.datum.1 a.penalty) (follow-is s r t upper lower a f.datum.0))

      skips_is : None ≡ fit_of o → Skips ≡ move_as n d (move M store (held n d c))
      skips_is z = go o z ∙ ap (move_as n d) (sym tries)
        where
          go : (x : Option Passed) → None ≡ fit_of x → Skips ≡ move_as n d (try_arc M f (under s.ceiling f.datum.1 a.penalty x))
          go none z = refl
          go (some v) z = absurd (let y : ◌≡◌ {A = ℕ} 0 1 = cc in omega arith)

      -- the sum after the arc
      abbrev sum : ℕ
      sum = f.datum.1 + a.penalty

      pushes-is : (e : Counts.Passed) → Some e ≡ fit_of o → push_if n (suc d) a.target (passed_in e) (summed s.ceiling f.datum.1 a.penalty) ≡ move_as n d (move M store (held n d c))
      pushes-is e z = go o z ∙ ap (move_as n d) (sym tries)
        where
          by-sum : (v : Passed) → e.up ≡ v.up → e.low ≡ v.low → (b : Bool) → push_if n (suc d) a.target (passed_in e) (somewhen b sum) ≡ move_as n d (try_arc M f (somewhen b (v, sum)))
          by-sum v p q false = refl
          by-sum v p q true =
              ap (λ (x : Arc). Pushes (new_frame n (suc d) x.target e.up e.low sum)) (sym arc-is)
              ∙ ap₂ (λ (x y : ℕ). Pushes (new_frame n (suc d) (get_or (arcs_as arcs) f.next no_arc).target x y sum)) p q

          same : (v : Passed) → Some e ≡ fit_of (some v) → e ≡ record { up = v.up; low = v.low }
          same v z = cc

          go : (x : Option Passed) → Some e ≡ fit_of x
              → push_if n (suc d) a.target (passed_in e) (summed s.ceiling f.datum.1 a.penalty) ≡ move_as n d (try_arc M f (under s.ceiling f.datum.1 a.penalty x))
          go none z = absurd (let y : ◌≡◌ {A = ℕ} 0 1 = cc in omega arith)
          go (some v) z = by-sum v (ap (λ (k : Counts.Passed). k.up) (same v z)) (ap (λ (k : Counts.Passed). k.low) (same v z)) (leb sum s.ceiling)

  -- the same by the frame that the code looked at
  module _ (first : List ℕ) (d : ℕ) (T : Top first initials arcs n d c) (z : d ≡ 0 → ⊥) (g : Frame) (E : g ≡ frame_of (look_at c (d - 1))) where
    top-is : d ≡ suc (d - 1)
    top-is = pred_suc d z

    bounds : InBounds first arcs c (d - 1)
    bounds = T.top_in (d - 1) top-is

    state-is : g.state ≡ (look_at c (d - 1)).state
    state-is = ap (λ (x : Frame). x.state) E

    next-is : g.next ≡ (look_at c (d - 1)).next
    next-is = ap (λ (x : Frame). x.next) E

    end_is : get_or first (g.state + 1) 0 ≡ below (suc (look_at c (d - 1)).state) (arcs_as arcs)
    end_is = ap (λ (k : ℕ). get_or first (k + 1) 0) state-is ∙ bounds.to_is

    pub drops_by : get_or first (g.state + 1) 0 ≤ g.next → Drops ≡ move_as n d (move M store (held n d c))
    drops_by h = drops_is d (d - 1) top-is (omega (arith, next-is, end_is))

    pub count_small : (side : Side) → passed (passed_in g.passed) side < 4294967295
    count_small side = omega (arith, ap (λ (x : Frame). passed (passed_in x.passed) side) E, bounds.counts-small side)

    module _ (h : g.next < get_or first (g.state + 1) 0) where
      untried-arc : (look_at c (d - 1)).next < below (suc (look_at c (d - 1)).state) (arcs_as arcs)
      untried-arc = omega (arith, next-is, end_is)

      pub next_in : (look_at c (d - 1)).next < arc_count arcs
      next_in = bounds.next_in untried-arc

      -- and by the arc
      module _ (r : (s.up || s.low) ≡ true) (a : Held.Arc) (A : a ≡ arc_held (arc_of arcs g.next)) where
        abbrev fitted : Code.Option Counts.Passed
        fitted = fit_of (follow_in s classes upper lower (arc_said a) (passed_in g.passed))

        arc-was : arc_said a ≡ arc_of arcs (look_at c (d - 1)).next
        arc-was = ap arc_said A ∙ ap (arc_of arcs) next-is

        fit_is : fitted ≡ fit_of (follow_in s classes upper lower (arc_of arcs (look_at c (d - 1)).next) (look_at c (d - 1)).datum.0)
        fit_is = ap₂ (λ (x : Arc) (y : Passed). fit_of (follow_in s classes upper lower x y)) arc-was (ap (λ (x : Frame). passed_in x.passed) E)

        pub skips_by : None ≡ fitted → Skips ≡ move_as n d (move M store (held n d c))
        skips_by y = skips_is d (d - 1) top-is untried-arc (bounds.next_in untried-arc) r (y ∙ fit_is)

        pub pushes-by : (e : Counts.Passed) → Some e ≡ fitted
            → push_along n d s.ceiling (arc_of arcs (look_at c (d - 1)).next) (passed_in e) (look_at c (d - 1)).datum.1 ≡ move_as n d (move M store (held n d c))
        pushes-by e y = pushes-is d (d - 1) top-is untried-arc (bounds.next_in untried-arc) r e (y ∙ fit_is)
