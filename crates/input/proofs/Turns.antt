-- What two turns consume, one after the other, stands at the front of the room.
use Rattle.std.proofs.Common.{◌≡◌, ℕ, ◌+◌, ◌≤◌, List, ◌++◌, Option, None, Some, length, take, drop, sym, ap, ◌∙◌, subst, le_refl, drop_at, length-take-le, append_assoc}
use Rattle.std.proofs.lemmas.Slice.{take-put_mid_below}
use Rattle.std.specs.Io.KnownBytes.{Consumes}
use borrow.Rule.Slice.PartMut.{put_mid, post_of}
use lib.Seq.{take-add, take-append-le}

pub Consumes-trans : (a b c : Option (List ℕ)) (bs cs : List ℕ) → Consumes a b bs → Consumes b c cs → Consumes a c (bs ++ cs)
Consumes-trans None b c bs cs p q = tt
Consumes-trans (Some x) None c bs cs p q = absurd p
Consumes-trans (Some x) (Some y) None bs cs p q = absurd q
Consumes-trans (Some x) (Some y) (Some z) bs cs p q = p ∙ ap (λ l. bs ++ l) q ∙ sym (append_assoc bs cs z)

-- n more bytes that were put from a place on, behind those before it
pub joined : (a k n : ℕ) (room part : List ℕ) → a ≤ length room → n ≤ length part → take a room ++ take n part ≡ take (a + n) (put_mid a k room part)
joined a k n room part within fits =
    let all = put_mid a k room part in
    let front : take a all ≡ take a room = take-put_mid_below _ _ _ _ _ (le_refl _) within in
    let rest : take n (drop a all) ≡ take n part =
    ap (take n) (drop_at (take a room) (part ++ post_of a k room) a (length-take-le a room within)) ∙ take-append-le n part (post_of a k room) fits in
    sym (take-add a n all ∙ ap (λ l. l ++ take n (drop a all)) front ∙ ap (λ l. take a room ++ l) rest)

pub Consumes-more : (old mid new : Option (List ℕ)) (a k n : ℕ) (room part : List ℕ) → a ≤ length room → n ≤ length part
    → Consumes old mid (take a room) → Consumes mid new (take n part) → Consumes old new (take (a + n) (put_mid a k room part))
Consumes-more old mid new a k n room part within fits first second =
    subst (Consumes old new) (joined a k n room part within fits) (Consumes-trans old mid new _ _ first second)
