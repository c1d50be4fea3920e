-- What the code may rely on at a place in a search: indices, small numbers, and the output of the frames.
use Prim.Native.Nat.{ℕ, zero, suc, pred, ◌+◌, ◌-◌, ◌<◌, ◌≤◌}
use native.Mathlib.Omega.{arith}
use mathlib.Core.Path.{◌≡◌, refl, ap, ap₂, subst, ◌∙◌}
use mathlib.Core.Bool.{Bool, true, false, cond, ◌&&◌, ◌||◌}
use mathlib.Core.Option.{some}
use mathlib.Core.List.{List, [], ◌∷◌, ◌++◌, append-nil}
use lib.ListN.{length, get_or}
use lib.Dec.{ltb}
use borrow.Author.Tests.{ltb-true}
use Rattle.table_format.specs.Table.{Arc, Table, no_arc}
use Rattle.table_format.specs.Classes.{first_class, is_plain}
use Rattle.table_format.specs.Index.{below}
use Rattle.table_format.specs.Cells.{arc_count, arc_of, arcs_as}
use Rattle.table_format.proofs.All.{at_mem}
use Rattle.table_format.proofs.Arcs.{length-arcs, get_d_arcs}
use Rattle.table_format.proofs.Index.{length-index, index_at}
use Rattle.table_format.proofs.Ruled.{Ruled, ruled}
use Rattle.machine.specs.Query.{Query, upper_side, lower_side, reads, letter}
use Rattle.machine.specs.Machine.{output}
use Rattle.machine.specs.Frames as F
use Rattle.machine.specs.Frames.{frames_of, walk_to}
use Rattle.machine.specs.Transducer.{arc_at, side_writes, plain_at, writes_at, next_letter, side_done, side_written, written_by, Passed, plain_machine, machine}
use Rattle.machine.specs.Stack.{most_frames, frames_in, room_in, look_at, store}
use Rattle.machine.proofs.Frames.{frames-length, output-top}
use Rattle.machine.specs.Place.{Placed, Good}
use Rattle.machine.proofs.Range.{in_range, InRange, below_length, tried-plain}
use Rattle.machine.proofs.Classes.{letter_at_lem, writes_as}
use Rattle.engine_frames.specs.declared.Setup.{Setup}
use Rattle.engine_frames.specs.Sides.{done_by, written_of}
use Rattle.engine_frames.specs.Output.{letter_in, side_by, written_letter, letter_at, letters_up_to, Tried, letters_by}
use Rattle.engine_step.specs.Setting.{SmallWords, Alike, query_by, table_by, held, Prepared, InBounds, Top}
use Rattle.engine_step.proofs.Moves.{reads-is}
use Rattle.engine_step.proofs.Fits.{plain-on}

-- The counts and words by the flags.

pub done-is : (s : Setup) → (s.up || s.low) ≡ true → (t : Table) (upper lower : List ℕ) (x : Passed) → (plain_machine t (query_by s upper lower)).done x ≡ done_by s upper lower x
done-is s h t upper lower x =
    ap₂ (λ (a b : Bool). side_done a upper x.up && side_done b lower x.low) (reads-is s h upper_side) (reads-is s h lower_side)

pub written_is : (s : Setup) → (s.up || s.low) ≡ true → (upper lower : List ℕ) (x : Passed) → written_by (query_by s upper lower) x ≡ written_of s x
written_is s h upper lower x = ap₂ (λ (a b : Bool). side_written a x.up + side_written b x.low) (reads-is s h upper_side) (reads-is s h lower_side)

-- What an arc writes, by the flags.

written_letter_lem : (x : ℕ) → side_writes false x ≡ letter_in x
written_letter_lem zero = refl
written_letter_lem (suc x) = refl

-- the letter x, unless both sides are read
abbrev letter_by : Bool → Bool → ℕ → List ℕ
letter_by a b x = cond (a && b) [] (letter_in x)

writes-by : (a b : Bool) → (a || b) ≡ true → (x : Arc) → side_writes a x.upper ++ side_writes b x.lower ≡ letter_by a b (letter (cond a lower_side upper_side) x)
writes-by true true h x = refl
writes-by true false h x = written_letter_lem x.lower
writes-by false true h x = ap (λ (l : List ℕ). l ++ []) (written_letter_lem x.upper) ∙ append-nil (letter_in x.upper)
writes-by false false h x = absurd (let z : ◌≡◌ {A = ℕ} 0 1 = cc in omega arith)

-- the letter that an arc writes, where no letter of a word means a class
written_small : (s : Setup) (upper lower : List ℕ) → SmallWords upper lower → (a : Arc) (d : Passed) → written_letter s upper lower a d < 256
written_small s upper lower W a d = go (ltb (letter (side_by s) a) first_class) refl
  where
    next : (b : Bool) → next_letter b upper lower d < first_class
    next true = W.upper-small d.up
    next false = W.lower-small d.low

    go : (b : Bool) → ltb (letter (side_by s) a) first_class ≡ b → cond b (letter (side_by s) a) (next_letter s.up upper lower d) < 256
    go true e = omega (arith, ltb-true (letter (side_by s) a) first_class e)
    go false e = omega (arith, next s.up)

-- sides that are alike where one has a class
alike_of : (a : Arc) → (is_plain a ≡ false → a.upper ≡ a.lower) → Alike a
alike_of a h = go (ltb a.upper first_class) (ltb a.lower first_class) (λ e. ap (λ (x : ℕ). ltb x first_class) (h e))
  where
    go : (b c : Bool) → ((b && c) ≡ false → b ≡ c) → b ≡ c
    go true true h = refl
    go true false h = h refl
    go false c h = h refl

module _ {s : Setup} {classes : List (List ℕ)} {first initials terminals arcs upper lower : List ℕ} (R : Prepared s classes first initials terminals arcs upper lower) where
  abbrev t : Table
  t = table_by s classes initials terminals arcs

  abbrev q : Query
  q = query_by s upper lower

  pub rules : Ruled t
  rules = ruled t R.keeps

  pub arcs-count : length (arcs_as arcs) ≡ arc_count arcs
  arcs-count = length-arcs (arc_count arcs) arcs

  pub arc-is : (m : ℕ) → m < arc_count arcs → arc_at t m ≡ arc_of arcs m
  arc-is m h = get_d_arcs (arc_count arcs) arcs m no_arc h

  pub first-length : length first ≡ 257
  first-length = ap length R.index ∙ length-index s.states (arcs_as arcs) rules.few-states

  pub first-at : (k : ℕ) → k ≤ s.states → get_or first k 0 ≡ below k (arcs_as arcs)
  first-at k h = ap (λ (l : List ℕ). get_or l k 0) R.index ∙ index_at s.states (arcs_as arcs) k h

  pub arc-alike : (m : ℕ) → m < arc_count arcs → Alike (arc_of arcs m)
  arc-alike m h = subst Alike (arc-is m h) (alike_of (arc_at t m) (rules.class_alike (arc_at t m) (at_mem (arcs_as arcs) m no_arc (omega (arith, arcs-count)))))

  -- what a path's arc writes is one letter, or none where both sides are read
  writes-is : (m : ℕ) → m < arc_count arcs → (d : Passed) (b : Arc) → plain_at t q (arc_at t m) d ≡ some b → writes_at t q (arc_at t m) d ≡ letter_by s.up s.low (written_letter s upper lower (arc_of arcs m) d)
  writes-is m h d b e =
      writes_as t q (arc_at t m) d b e
      ∙ ap₂ (λ (x y : Bool). side_writes x b.upper ++ side_writes y b.lower) (reads-is s R.reads-some upper_side) (reads-is s R.reads-some lower_side)
      ∙ writes-by s.up s.low R.reads-some b
      ∙ ap (letter_by s.up s.low) (letter_at_lem classes (arc_at t m) (next_letter (reads q.task upper_side) upper lower d) b e (side_by s) ∙ as_written)
    where
      as_written : cond (is_plain (arc_at t m)) (letter (side_by s) (arc_at t m)) (next_letter (reads q.task upper_side) upper lower d) ≡ written_letter s upper lower (arc_of arcs m) d
      as_written =
          ap₂ (λ (x : Arc) (v : Bool). cond (is_plain x) (letter (side_by s) x) (next_letter v upper lower d)) (arc-is m h) (reads-is s R.reads-some upper_side)
          ∙ ap (λ (v : Bool). cond v (letter (side_by s) (arc_of arcs m)) (next_letter s.up upper lower d)) (plain-on (arc_of arcs m) (arc-alike m h) (side_by s))

  module _ (n : ℕ) (c : List ℕ) where
    -- a frame of a place in a search
    pub bounds_of : (k : ℕ) → k < most_frames → Placed (machine t q) n (frames_of store c (suc k)) → InBounds first arcs c k
    bounds_of k h P =
        let I : InRange t q rules (length (frames_of store c k)) (look_at c k) = in_range t q rules n (look_at c k) (frames_of store c k) P in
        let f = look_at c k in
        let m = frames-length store c k in
        let few = rules.few-states in
        record {
          indexed = omega (arith, first-length, I.state_in_lem);
          from_is = first-at f.state (omega (arith, I.state_in_lem));
          to_is = first-at (f.state + 1) (omega (arith, I.state_in_lem)) ∙ ap (λ (j : ℕ). below j (arcs_as arcs)) (let z : f.state + 1 ≡ suc f.state = omega arith in z);
          next_in = λ z. omega (arith, below_length (suc f.state) (arcs_as arcs), arcs-count);
          next-most = omega (arith, I.next_in, arcs-count);
          next_small = omega (arith, I.next_in, rules.few-arcs);
          next-alike = λ z. arc-alike f.next z;
          counts-small = λ side. omega (arith, I.passed_in_lem side);
          sum-small = omega (arith, I.sum_in, R.ceiling-small);
        }

    -- the frames below another have tried an arc
    lower-tried : (k : ℕ) (f : F.Frame (Passed × ℕ)) → Placed (machine t q) n (f ∷ frames_of store c k) → (i : ℕ) → i < k → (0 < (look_at c i).next) × ((look_at c i).next ≤ length (arcs_as arcs))
    lower-tried zero f P i h = absurd (omega arith)
    lower-tried (suc k) f P i h = go (k - i) refl (λ j. lower-tried k (look_at c k) P.below i j)
      where
        go : (j : ℕ) → k - i ≡ j → (i < k → (0 < (look_at c i).next) × ((look_at c i).next ≤ length (arcs_as arcs))) → (0 < (look_at c i).next) × ((look_at c i).next ≤ length (arcs_as arcs))
        go zero e r =
            let x : k ≡ i = omega arith in
            subst (λ (j : ℕ). (0 < (look_at c j).next) × ((look_at c j).next ≤ length (arcs_as arcs))) x (omega (arith, P.link), (in_range t q rules n (look_at c k) (frames_of store c k) P.below).next_in)
        go (suc j) e r = r (omega arith)

    letters-more : (k : ℕ) → letters_by s arcs upper lower c k ++ letter_by s.up s.low (letter_at s arcs upper lower c k) ≡ letters_by s arcs upper lower c (suc k)
    unfolding letters_up_to
    letters-more k = go (s.up && s.low)
      where
        go : (b : Bool) → cond b [] (letters_up_to s arcs upper lower c k) ++ cond b [] (letter_in (letter_at s arcs upper lower c k)) ≡ cond b [] (letters_up_to s arcs upper lower c k ++ letter_in (letter_at s arcs upper lower c k))
        go true = refl
        go false = refl

    -- the output of the path of a frame that stands on k frames
    pub output_letters_lem : (k : ℕ) (f : F.Frame (Passed × ℕ)) → Placed (machine t q) n (f ∷ frames_of store c k) → output (machine t q) (walk_to n (frames_of store c k)) ≡ letters_by s arcs upper lower c k
    unfolding letters_up_to
    output_letters_lem zero f P = go (s.up && s.low)
      where
        go : (b : Bool) → ◌≡◌ {A = List ℕ} [] (cond b [] [])
        go true = refl
        go false = refl
    output_letters_lem (suc k) f P =
        let T = lower-tried (suc k) f P k (omega arith) in
        let N = tried-plain t q rules n f (look_at c k) (frames_of store c k) P in
        output-top (machine t q) n (look_at c k) (frames_of store c k) P.below
        ∙ ap₂ (λ (x y : List ℕ). x ++ y) (output_letters_lem k (look_at c k) P.below) (writes-is (pred (look_at c k).next) (omega (arith, T.0, T.1, arcs-count)) (look_at c k).datum.0 N.0 N.1)
        ∙ letters-more k

    pub tried_of_lem : (k : ℕ) (f : F.Frame (Passed × ℕ)) → k ≤ frames_in c → Placed (machine t q) n (f ∷ frames_of store c k) → Tried s arcs upper lower c k
    tried_of_lem k f h P =
        record {
          on_stack = h;
          tried-one = λ i z. let T = lower-tried k f P i z in (T.0, omega (arith, T.1, arcs-count), written_small s upper lower R.words_small (arc_of arcs (pred (look_at c i).next)) (look_at c i).datum.0);
        }

  -- what a step may look at
  pub top_of : (n d : ℕ) (c : List ℕ) → Good (machine t q) store (room_in c) (held n d c) → (d ≡ 0 → n < length initials) → Top first initials arcs n d c
  top_of n d c G h =
      record {
        on_stack = omega (arith, G.deep);
        few-frames = omega (arith, G.deep);
        some_left = h;
        few-initials = omega (arith, rules.few-initials, rules.few-states);
        top_in = λ k e. bounds_of n c k (omega (arith, G.deep)) (subst (λ (j : ℕ). Placed (machine t q) n (frames_of store c j)) e G.placed);
      }
