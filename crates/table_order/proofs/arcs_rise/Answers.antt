use Prim.Native.Nat.{ℕ, ◌+◌, ◌*◌, ◌-◌}
use native.Mathlib.Omega.{arith}
use mathlib.Core.Path.{◌≡◌, refl, sym, ap, ap₂, ◌∙◌}
use mathlib.Core.Bool.{Bool, true, false, ◌&&◌, and-true}
use mathlib.Core.List.{reverse}
use lib.Bits.{bit_or}
use lib.Dec.{leb}
use borrow.Author.Tests.{le-leb, lt-leb}
use Rattle.table_format.specs.declared.Arc as Held
use Rattle.table_format.specs.Classes.{class_count}
use Rattle.table_format.specs.Rules.{each, penalties_keep}
use Rattle.table_format.specs.Loaded.{arc_width, rows_in, arcs_in}
use Rattle.table_format.specs.Cells.{arc_of, arc_said, arcs_as}
use Rattle.table_order.specs.Order.{joined_letters, joined_plain, key_by, order_key, is_below, keys_fall, arc_classes_hold, arcs_rise}
use Rattle.table_format.proofs.Arcs.{at_equal}
use Rattle.table_order.proofs.Rising.{fall_turn, plain_turn, penalty-turn}
use Rattle.table_order.proofs.arcs_rise.Goals as goal
use Rattle.table_order.proofs.arcs_rise.Goals.{After-is_below, After-loop-n}

-- the key of an arc, of the arc in its cells
key-is : (c : After-is_below)
    → c.order_key-key.result ≡ order_key (arc_of c.args.cells.now (c.loop-n.n - 1))
key-is c =
    c.order_key-key.ensures ∙ ap (key_by c.arc_at-arc.result.source) c.letters-both.ensures
    ∙ ap (λ (a : Held.Arc). order_key (arc_said a)) c.arc_at-arc.ensures

-- one arc less, as its test tells
turn : (c : After-is_below) (b : Bool) → c.is_below.result ≡ b
    → (keys_fall c.args.states (c.args.states * 4294967296) (reverse (arcs_as c.args.cells.now)))
    ≡ (b && keys_fall c.args.states c.order_key-key.result (reverse (arcs_in (c.loop-n.n - 1) c.args.cells.now)))
turn c b e =
    c.loop-n.invariant.0
    ∙ fall_turn c.args.cells.now c.loop-n.n (omega arith) c.args.states c.loop-n.bound b
    (ap₂ (λ (a : Held.Arc) (k : ℕ). is_below c.args.states c.loop-n.bound a.target k) (sym c.arc_at-arc.ensures) (sym (key-is c))
    ∙ sym c.is_below.ensures ∙ e)
    ∙ ap (λ (k : ℕ). b && keys_fall c.args.states k (reverse (arcs_in (c.loop-n.n - 1) c.args.cells.now))) (sym (key-is c))

-- at the end the joined penalties and the classes tell
ends : (c : After-loop-n) (b : Bool) → leb c.loop-n.penalties 255 ≡ b
    → arcs_rise c.args.states (rows_in class_count c.args.rows.now) (arcs_as c.args.cells.now) ≡ (b && arc_classes_hold (rows_in class_count c.args.rows.now) (arcs_as c.args.cells.now))
unfolding arcs_rise keys_fall each arcs_in
ends c b e =
    ap₂ (λ (x y : Bool). x && (y && arc_classes_hold (rows_in class_count c.args.rows.now) (arcs_as c.args.cells.now)))
    (c.loop-n.invariant.0 ∙ at_equal (λ n. keys_fall c.args.states c.loop-n.bound (reverse (arcs_in n c.args.cells.now))) c.loop-n.n 0 (omega arith))
    (c.loop-n.invariant.2 ∙ at_equal (λ n. leb c.loop-n.penalties 255 && penalties_keep (arcs_in n c.args.cells.now)) c.loop-n.n 0 (omega arith) ∙ ap (λ (x : Bool). x && true) e ∙ and-true b)

pub loop-n-init : goal.loop-n-init
loop-n-init c = (ap (λ (n : ℕ). keys_fall c.args.states (n * 4294967296) (reverse (arcs_as c.args.cells.now))) (sym c.from-bound.ensures), λ h. refl, refl)

pub loop-n-preserved : goal.loop-n-preserved
loop-n-preserved c =
    let arc = c.arc_at-arc.ensures in
    let letters = c.letters-both.ensures ∙ ap (λ (x : Held.Arc). joined_letters (arc_said x)) arc in (
      turn (goal.at.loop-n-preserved c).After-is_below true c.if-not-is_below.false,
      λ h.
          plain_turn c.args.cells.now c.loop-n.n (omega arith) (rows_in class_count c.args.rows.now) c.loop-n.joined (arc_classes_hold (rows_in class_count c.args.rows.now) (arcs_as c.args.cells.now)) c.loop-n.invariant.1
          (omega (arith, c.type_inv.cells (arc_width * (c.loop-n.n - 1) + 1)))
          (ap (λ (m : ℕ). joined_plain (bit_or c.loop-n.joined m)) (sym letters) ∙ h),
      c.loop-n.invariant.2 ∙ penalty-turn c.args.cells.now c.loop-n.n (omega arith) c.loop-n.penalties
          ∙ ap (λ (x : Held.Arc). leb (bit_or c.loop-n.penalties x.penalty) 255 && penalties_keep (arcs_in (c.loop-n.n - 1) c.args.cells.now)) (sym arc),
    )

pub returns-then-not-is_below : goal.returns-then-not-is_below
unfolding arcs_rise
returns-then-not-is_below c =
    sym (ap (λ (x : Bool). x && (penalties_keep (arcs_as c.args.cells.now) && arc_classes_hold (rows_in class_count c.args.rows.now) (arcs_as c.args.cells.now))) (turn (goal.at.returns-then-not-is_below c).After-is_below false c.if-not-is_below.true))

pub returns-then-penalties-gt-MOST_PENALTY : goal.returns-then-penalties-gt-MOST_PENALTY
returns-then-penalties-gt-MOST_PENALTY c = sym (ends (goal.at.returns-then-penalties-gt-MOST_PENALTY c).After-loop-n false (lt-leb c.loop-n.penalties 255 (omega arith)))

pub returns-then-joined_plain : goal.returns-then-joined_plain
unfolding each arcs_in
returns-then-joined_plain c =
    c.if-joined_plain.true
    ∙ sym
    (ends (goal.at.returns-then-joined_plain c).After-loop-n true (le-leb c.loop-n.penalties 255 (omega arith)) ∙ c.loop-n.invariant.1 (sym c.joined_plain.ensures ∙ c.if-joined_plain.true)
    ∙ at_equal (λ n. arc_classes_hold (rows_in class_count c.args.rows.now) (arcs_in n c.args.cells.now)) c.loop-n.n 0 (omega arith))

pub returns-else-joined_plain : goal.returns-else-joined_plain
returns-else-joined_plain c = c.arc_classes_hold.ensures ∙ sym (ends (goal.at.returns-else-joined_plain c).After-loop-n true (le-leb c.loop-n.penalties 255 (omega arith)))
