-- Five cells a frame are a store; the used frames are told by the first cells; and the test of two data.
use Prim.Native.Nat.{ℕ, zero, suc, ◌+◌, ◌*◌, ◌<◌, ◌≤◌}
use native.Mathlib.Omega.{arith}
use mathlib.Core.Path.{◌≡◌, refl, sym, ap, ap₂, ◌∙◌}
use mathlib.Core.Bool.{true, ◌&&◌}
use mathlib.Core.List.{List, ◌∷◌}
use lib.ListN.{length, get_or, set, take, length-set}
use lib.Seq.{get_or-set_same, get_or-set_other, get_or-take, set-get_or}
use lib.Dec.{eqb}
use borrow.Author.Tests.{eqb-true, eq-eqb}
use Rattle.table_format.specs.Table.{Table}
use Rattle.table_format.proofs.Tests.{and_left, and_right, and_both}
use Rattle.machine.specs.Query.{Query}
use Rattle.machine.specs.Frames.{Frame, frames_of}
use Rattle.machine.specs.Step.{tried_of}
use Rattle.machine.specs.Transducer.{Passed, plain_machine, penalty_at, machine}
use Rattle.machine.specs.Stack.{frame_width, room_in, look_at, put_at, store}
use Rattle.machine.proofs.Frames.{SameIs, StoreLaws}
use Rattle.machine.proofs.Ceiling.{ceiled-same}

frame_ext : (f g : Frame (Passed × ℕ)) → f.state ≡ g.state → f.next ≡ g.next → f.datum.0.up ≡ g.datum.0.up → f.datum.0.low ≡ g.datum.0.low → f.datum.1 ≡ g.datum.1 → f ≡ g
frame_ext f g a b c d e = λ i. record { state = a i; next = b i; datum = (record { up = c i; low = d i }, e i) }

-- a cell of five that are put at k, and any other cell
module _ (c : List ℕ) (k a b x y z : ℕ) where
  abbrev one : List ℕ
  one = set c k a

  abbrev two : List ℕ
  two = set one (k + 1) b

  abbrev three : List ℕ
  three = set two (k + 2) x

  abbrev four : List ℕ
  four = set three (k + 3) y

  abbrev five : List ℕ
  five = set four (k + 4) z

  five-other : (j : ℕ) → (j ≡ k → ⊥) → (j ≡ k + 1 → ⊥) → (j ≡ k + 2 → ⊥) → (j ≡ k + 3 → ⊥) → (j ≡ k + 4 → ⊥) → get_or five j 0 ≡ get_or c j 0
  five-other j p q r s v =
      get_or-set_other four (k + 4) j z 0 v ∙ get_or-set_other three (k + 3) j y 0 s ∙ get_or-set_other two (k + 2) j x 0 r ∙ get_or-set_other one (k + 1) j b 0 q
      ∙ get_or-set_other c k j a 0 p

  module _ (h : k + 4 < length c) where
    five_0 : get_or five k 0 ≡ a
    five_0 =
        get_or-set_other four (k + 4) k z 0 (λ e. omega arith) ∙ get_or-set_other three (k + 3) k y 0 (λ e. omega arith) ∙ get_or-set_other two (k + 2) k x 0 (λ e. omega arith)
        ∙ get_or-set_other one (k + 1) k b 0 (λ e. omega arith)
        ∙ get_or-set_same c k a 0 (omega arith)

    five_1 : get_or five (k + 1) 0 ≡ b
    five_1 =
        get_or-set_other four (k + 4) (k + 1) z 0 (λ e. omega arith) ∙ get_or-set_other three (k + 3) (k + 1) y 0 (λ e. omega arith) ∙ get_or-set_other two (k + 2) (k + 1) x 0 (λ e. omega arith)
        ∙ get_or-set_same one (k + 1) b 0 (simp length-set (omega arith))

    five_2 : get_or five (k + 2) 0 ≡ x
    five_2 =
        get_or-set_other four (k + 4) (k + 2) z 0 (λ e. omega arith) ∙ get_or-set_other three (k + 3) (k + 2) y 0 (λ e. omega arith)
        ∙ get_or-set_same two (k + 2) x 0 (simp length-set (omega arith))

    five_3 : get_or five (k + 3) 0 ≡ y
    five_3 = get_or-set_other four (k + 4) (k + 3) z 0 (λ e. omega arith) ∙ get_or-set_same three (k + 3) y 0 (simp length-set (omega arith))

    five_4 : get_or five (k + 4) 0 ≡ z
    five_4 = get_or-set_same four (k + 4) z 0 (simp length-set (omega arith))

pub length-put : (c : List ℕ) (i : ℕ) (f : Frame (Passed × ℕ)) → length (put_at c i f) ≡ length c
length-put c i f = rw (length-set, length-set, length-set, length-set, length-set)

pub store_laws : StoreLaws store
store_laws = record { room-put = λ c i f. rw (length-set, length-set, length-set, length-set, length-set); look-same = same; look-other = other }
  where
    same : (c : List ℕ) (i : ℕ) (f : Frame (Passed × ℕ)) → i < room_in c → look_at (put_at c i f) i ≡ f
    same c i f h =
        let k : i * frame_width + 4 < length c = omega arith in
        frame_ext (look_at (put_at c i f) i) f (five_0 c (i * frame_width) f.state f.next f.datum.0.up f.datum.0.low f.datum.1 k)
        (five_1 c (i * frame_width) f.state f.next f.datum.0.up f.datum.0.low f.datum.1 k)
        (five_2 c (i * frame_width) f.state f.next f.datum.0.up f.datum.0.low f.datum.1 k)
        (five_3 c (i * frame_width) f.state f.next f.datum.0.up f.datum.0.low f.datum.1 k)
        (five_4 c (i * frame_width) f.state f.next f.datum.0.up f.datum.0.low f.datum.1 k)

    other : (c : List ℕ) (i j : ℕ) (f : Frame (Passed × ℕ)) → (i ≡ j → ⊥) → look_at (put_at c i f) j ≡ look_at c j
    other c i j f d =
        frame_ext (look_at (put_at c i f) j) (look_at c j) (at (j * frame_width) 0 (omega arith) (omega arith)) (at (j * frame_width + 1) 1 (omega arith) (omega arith))
        (at (j * frame_width + 2) 2 (omega arith) (omega arith)) (at (j * frame_width + 3) 3 (omega arith) (omega arith)) (at (j * frame_width + 4) 4 (omega arith) (omega arith))
      where
        at : (k m : ℕ) → k ≡ j * frame_width + m → m < frame_width → get_or (put_at c i f) k 0 ≡ get_or c k 0
        at k m e h =
            five-other c (i * frame_width) f.state f.next f.datum.0.up f.datum.0.low f.datum.1 k (λ x. d (omega arith)) (λ x. d (omega arith)) (λ x. d (omega arith))
            (λ x. d (omega arith)) (λ x. d (omega arith))

-- to count an arc as tried sets one cell
pub put-tried : (c : List ℕ) (i : ℕ) → put_at c i (tried_of (look_at c i)) ≡ set c (i * frame_width + 1) (suc (get_or c (i * frame_width + 1) 0))
put-tried c i =
    ap (λ (l : List ℕ). set (set (set (set l (k + 1) n) (k + 2) (get_or c (k + 2) 0)) (k + 3) (get_or c (k + 3) 0)) (k + 4) (get_or c (k + 4) 0)) (set-get_or c k 0)
    ∙ ap (λ (l : List ℕ). set (set l (k + 3) (get_or c (k + 3) 0)) (k + 4) (get_or c (k + 4) 0)) (again (k + 2) (λ e. omega arith))
    ∙ ap (λ (l : List ℕ). set l (k + 4) (get_or c (k + 4) 0)) (again (k + 3) (λ e. omega arith))
    ∙ again (k + 4) (λ e. omega arith)
  where
    k : ℕ
    k = i * frame_width

    n : ℕ
    n = suc (get_or c (k + 1) 0)

    -- another cell is set to what it holds
    again : (j : ℕ) → (j ≡ k + 1 → ⊥) → set (set c (k + 1) n) j (get_or c j 0) ≡ set c (k + 1) n
    again j h = ap (λ (v : ℕ). set (set c (k + 1) n) j v) (sym (get_or-set_other c (k + 1) j n 0 h)) ∙ set-get_or (set c (k + 1) n) j 0

-- the used frames are told by the first five cells for each
pub frames-take : (a b : List ℕ) (d n : ℕ) → d ≤ n → take (n * frame_width) a ≡ take (n * frame_width) b → frames_of store a d ≡ frames_of store b d
frames-take a b zero n h e = refl
frames-take a b (suc d) n h e =
    ap₂ (λ (f : Frame (Passed × ℕ)) (fs : List (Frame (Passed × ℕ))). f ∷ fs) (frame_ext (look_at a d) (look_at b d) (at (d * frame_width) (omega arith)) (at (d * frame_width + 1) (omega arith)) (at (d * frame_width + 2) (omega arith)) (at (d * frame_width + 3) (omega arith)) (at (d * frame_width + 4) (omega arith)))
    (frames-take a b d n (omega arith) e)
  where
    at : (i : ℕ) → i < n * frame_width → get_or a i 0 ≡ get_or b i 0
    at i k = sym (get_or-take (n * frame_width) a i 0 k) ∙ ap (λ (l : List ℕ). get_or l i 0) e ∙ get_or-take (n * frame_width) b i 0 k

plain-same : (t : Table) (q : Query) → SameIs (plain_machine t q)
plain-same t q = record { same-eq = eq; same_refl = λ d. and_both (eq-eqb d.up d.up refl) (eq-eqb d.low d.low refl) }
  where
    eq : (d e : Passed) → eqb d.up e.up && eqb d.low e.low ≡ true → d ≡ e
    eq d e h = λ i. record { up = eqb-true d.up e.up (and_left _ _ h) i; low = eqb-true d.low e.low (and_right (eqb d.up e.up) _ h) i }

pub same-is : (t : Table) (q : Query) → SameIs (machine t q)
same-is t q = ceiled-same (plain_machine t q) (penalty_at t) q.ceiling (plain-same t q)
