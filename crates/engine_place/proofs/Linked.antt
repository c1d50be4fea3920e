-- Frames that are linked by the rules of the sides, on others that hold.
use Prim.Native.Nat.{ℕ, zero, suc, ◌+◌, ◌-◌, ◌<◌, ◌≤◌}
use native.Mathlib.Omega.{arith}
use mathlib.Core.Path.{◌≡◌, refl, sym, ap, subst, ◌∙◌}
use mathlib.Core.Bool.{Bool, true}
use mathlib.Core.List.{List}
use lib.ListN.{length, get_or}
use borrow.Author.Tests.{le-leb}
use Rattle.table_format.proofs.Tests.{and_both, or_left}
use Rattle.machine.specs.Stack.{room_in, look_at}
use Rattle.engine_frames.specs.declared.Setup.{Setup}
use Rattle.engine_frames.specs.declared.Frame.{Frame}
use Rattle.engine_frames.specs.Frames.{frame_of}
use Rattle.engine_step.specs.Setting.{Prepared}
use Rattle.engine_place.specs.Place.{next_by, link_by, Linkable, linked_at, Standing, FirstUnlinked}
use Rattle.engine_place.proofs.Placing.{chain, linkable, below-indexed, up-indexed, linked-all}

module _ {s : Setup} {first arcs upper lower c : List ℕ} {from : ℕ} (S : Standing s first arcs upper lower c from) (depth : ℕ) (room : depth ≤ room_in c) where
  -- the frames up to i, which are so linked
  module _ (i : ℕ) (on : from ≤ i) (within : i ≤ depth) (linked : (j : ℕ) → from ≤ j → j < i → linked_at s first arcs upper lower c j ≡ true) where
    so_far_lem : chain S.prepared S.started c S.some-started S.few-started (i - 1) ≡ true
    so_far_lem =
        ap (chain S.prepared S.started c S.some-started S.few-started) (let z : i - 1 ≡ (from + (i - from)) - 1 = omega arith in z)
        ∙ linked-all S.prepared S.started c S.some-started S.few-started from (i - from) S.some_below (omega arith) S.below-hold (λ j a b. linked j a (omega arith))

    some_below : 0 < i
    some_below = omega (arith, S.some_below)

    -- the frame g below it, as the code looked at it
    module _ (g : Frame) (Eg : g ≡ frame_of (look_at c (i - 1))) where
      pub may_link : Linkable arcs g
      may_link =
          linkable S.prepared S.started c S.some-started S.few-started i some_below (omega (arith, some_below)) so_far_lem g (frame_of (look_at c i)) Eg refl

      pub lower-indexed : g.state + 1 < length first
      lower-indexed =
          below-indexed S.prepared S.started c S.some-started S.few-started i some_below (omega (arith, some_below)) so_far_lem g (frame_of (look_at c i)) Eg refl

      -- and where its state's arcs begin
      module _ (n : ℕ) (En : n ≡ get_or first g.state 0) where
        abbrev by : Frame → Bool
        by f = link_by s n arcs upper lower g f

        abbrev link : Bool
        link = link_by s (get_or first (look_at c (i - 1)).state 0) arcs upper lower (frame_of (look_at c (i - 1))) (frame_of (look_at c i))

        link-was : by (frame_of (look_at c i)) ≡ link
        link-was =
            ap (λ (m : ℕ). link_by s m arcs upper lower g (frame_of (look_at c i))) En
            ∙ ap (λ (x : Frame). link_by s (get_or first x.state 0) arcs upper lower x (frame_of (look_at c i))) Eg

        -- and the frame f at i
        module _ (f : Frame) (Ef : f ≡ frame_of (look_at c i)) where
          next-was : next_by first f.state f.next ≡ next_by first (look_at c i).state (look_at c i).next
          next-was = ap (λ (x : Frame). next_by first x.state x.next) Ef

          module _ (e : by (frame_of (look_at c i)) ≡ true) where
            pub linked-indexed : f.state + 1 < length first
            linked-indexed =
                up-indexed S.prepared S.started c S.some-started S.few-started i some_below (omega (arith, some_below)) so_far_lem g f Eg Ef
                (or_left (link_by s (get_or first g.state 0) arcs upper lower g f) _ (ap (λ (m : ℕ). link_by s m arcs upper lower g f) (sym En) ∙ ap by Ef ∙ e))

            pub linked_on : get_or first f.state 0 ≤ f.next → f.next ≤ get_or first (f.state + 1) 0
                → (j : ℕ) → from ≤ j → j < i + 1 → linked_at s first arcs upper lower c j ≡ true
            linked_on x y j a b = go (i - j) refl
              where
                next_in : next_by first f.state f.next ≡ true
                next_in = and_both (le-leb (get_or first f.state 0) f.next x) (le-leb f.next (get_or first (f.state + 1) 0) y)

                go : (k : ℕ) → i - j ≡ k → linked_at s first arcs upper lower c j ≡ true
                go zero z =
                    let w : i ≡ j = omega arith in
                    subst (λ (k : ℕ). linked_at s first arcs upper lower c k ≡ true) w (and_both (sym link-was ∙ e) (sym next-was ∙ next_in))
                go (suc k) z = linked j a (omega arith)

module _ {s : Setup} {classes : List (List ℕ)} {first initials terminals arcs upper lower : List ℕ} (R : Prepared s classes first initials terminals arcs upper lower) (n : ℕ) (c : List ℕ) (some-started : 0 < n) (few-started : n ≤ length initials) (i : ℕ) (some : 0 < i) (e : chain R n c some-started few-started (i - 1) ≡ true) where
  pub standing : Standing s first arcs upper lower c i
  standing =
      record {
        classes = classes;
        initials = initials;
        terminals = terminals;
        started = n;
        prepared = R;
        some-started = some-started;
        few-started = few-started;
        some_below = some;
        below-hold = e;
      }

  pub unlinked-holds : (depth r : ℕ) → depth ≤ room_in c → FirstUnlinked s first arcs upper lower c i depth r → chain R n c some-started few-started (r - 1) ≡ true
  unfolding standing
  unlinked-holds depth r room U = so_far_lem standing depth room r U.on U.within U.linked
