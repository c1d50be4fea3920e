-- Slip 6: the plain arc that an arc is after what was passed; what an arc of a class does; no arc of a class is idle.
use Prim.Native.Nat.{ℕ, zero, suc, ◌≤◌, ◌<◌}
use native.Mathlib.Omega.{arith}
use mathlib.Core.Path.{◌≡◌, refl, sym, ap, ap₂, subst, ◌∙◌}
use mathlib.Core.Bool.{Bool, true, false, cond, ◌&&◌}
use mathlib.Core.Logic.{◌↔◌}
use mathlib.Core.Option.{Option, none, some}
use mathlib.Core.List.{List, [], ◌∷◌, ◌++◌, Memᴰ}
use lib.ListN.{get_or}
use lib.Dec.{eqb, ltb}
use borrow.Author.Tests.{eqb-true, eq-eqb, ltb-true, ltb-false}
use Rattle.table_format.specs.Table.{Arc, Table}
use Rattle.table_format.specs.Classes.{first_class, is_defined, is_plain, row_of, with_letter}
use Rattle.table_format.specs.Rules.{classes_keep}
use Rattle.table_format.specs.Ruled.{Ruled}
use Rattle.table_format.proofs.Classes.{classes-are, row_small}
use Rattle.table_format.proofs.ClassFaults.{plain-is}
use Rattle.table_format.proofs.All.{All, all_append, all-mem}
use Rattle.graph.proofs.Lists.{member-mem, mem-member}
use Rattle.machine.specs.Query.{Task, recognition, synthesis, analysis, Side, upper_side, lower_side, reads, letter, Query, word}
use Rattle.machine.specs.Machine.{Path, start, more, output, datum, bind, somewhen, listed}
use Rattle.machine.specs.Transducer.{member, side_follow, side_writes, Passed, passed, both, follow_arc, writes_arc, next_letter, class_arc, plain_by, plain_at, follow_at, writes_on, writes_at, arc_at, machine}
use Rattle.machine.specs.Idle.{side_idle, idle}
use Rattle.machine.specs.Classes.{Fits, one_more, letter_written}
use Rattle.machine.proofs.Options.{bind-parts, somewhen-parts}
use Rattle.machine.proofs.Transducer.{follow-parts}

-- What plain arc an arc is, where x is the next letter.

-- itself, or for a class the one of the letter that is next
pub data PlainOf (rows : List (List ℕ)) (a : Arc) (x : ℕ) (b : Arc) : Type 0 where
  itself : is_plain a ≡ true → a ≡ b → PlainOf rows a x b
  by_letter : (y : ℕ) → is_plain a ≡ false → x ≡ suc y → Memᴰ (suc y) (row_of rows a.upper) → with_letter a (suc y) ≡ b → PlainOf rows a x b

module _ (rows : List (List ℕ)) (a : Arc) where
  pub plain_by_lem : (x : ℕ) → is_plain a ≡ true → plain_by rows a x ≡ some a
  plain_by_lem x e = ap (λ (c : Bool). cond c (some a) (class_arc (row_of rows a.upper) a x)) e

  pub class_by : (x y : ℕ) → is_plain a ≡ false → x ≡ suc y → Memᴰ (suc y) (row_of rows a.upper) → plain_by rows a x ≡ some (with_letter a (suc y))
  class_by x y e f m =
      ap (λ (c : Bool). cond c (some a) (class_arc (row_of rows a.upper) a x)) e
      ∙ ap (class_arc (row_of rows a.upper) a) f
      ∙ ap (λ (c : Bool). cond c (some (with_letter a (suc y))) none) (mem-member (suc y) (row_of rows a.upper) m)

  pub plain-parts : (x : ℕ) (b : Arc) → plain_by rows a x ≡ some b → PlainOf rows a x b
  plain-parts x b e = go (is_plain a) refl e
    where
      by : (x : ℕ) → is_plain a ≡ false → class_arc (row_of rows a.upper) a x ≡ some b → PlainOf rows a x b
      by zero p h = absurd (let z : ◌≡◌ {A = ℕ} 0 1 = cc in omega arith)
      by (suc y) p h = test (member (suc y) (row_of rows a.upper)) refl h
        where
          test : (c : Bool) → member (suc y) (row_of rows a.upper) ≡ c → cond c (some (with_letter a (suc y))) none ≡ some b → PlainOf rows a (suc y) b
          test true m h = by_letter y p refl (member-mem (suc y) (row_of rows a.upper) m) (cc)
          test false m h = absurd (let z : ◌≡◌ {A = ℕ} 0 1 = cc in omega arith)

      go : (c : Bool) → is_plain a ≡ c → cond c (some a) (class_arc (row_of rows a.upper) a x) ≡ some b → PlainOf rows a x b
      go true p h = itself p (cc)
      go false p h = by x p h

  -- its letter on a side is the arc's own, or for a class the next letter
  pub letter_at_lem : (x : ℕ) (b : Arc) → plain_by rows a x ≡ some b → (s : Side) → letter s b ≡ cond (is_plain a) (letter s a) x
  letter_at_lem x b e s = go (plain-parts x b e)
    where
      both-sides : (s : Side) (y : ℕ) → letter s (with_letter a y) ≡ y
      both-sides upper_side y = refl
      both-sides lower_side y = refl

      go : PlainOf rows a x b → letter s b ≡ cond (is_plain a) (letter s a) x
      go (itself p e) = ap (letter s) (sym e) ∙ ap (λ (c : Bool). cond c (letter s a) x) (sym p)
      go (by_letter y p n m e) = ap (letter s) (sym e) ∙ both-sides s (suc y) ∙ sym n ∙ ap (λ (c : Bool). cond c (letter s a) x) (sym p)

  -- and it is at most 63, where the rows keep the rules
  pub plain-small : classes_keep rows ≡ true → (x : ℕ) (b : Arc) → PlainOf rows a x b → (s : Side) → letter s b ≤ 63
  plain-small keep x b (itself p e) s = subst (λ (c : Arc). letter s c ≤ 63) e (plain s)
    where
      plain : (s : Side) → letter s a ≤ 63
      plain upper_side = omega (arith, ((plain-is a).0 p).0)
      plain lower_side = omega (arith, ((plain-is a).0 p).1)
  plain-small keep x b (by_letter y p n m e) s = subst (λ (c : Arc). letter s c ≤ 63) e (lettered s (row_small rows keep a.upper (suc y) m))
    where
      lettered : (s : Side) → suc y ≤ 63 → letter s (with_letter a (suc y)) ≤ 63
      lettered upper_side h = h
      lettered lower_side h = h

  pub small-letters : classes_keep rows ≡ true → (x : ℕ) (b : Arc) → plain_by rows a x ≡ some b → (s : Side) → letter s b ≤ 63
  small-letters keep x b e = plain-small keep x b (plain-parts x b e)

-- the rows of a table that keeps the rules keep them
pub rows-keep : (t : Table) → Ruled t → classes_keep t.classes ≡ true
rows-keep t U = (classes-are t.classes).1 (U.eight-rows, U.row_in)

-- What is written are letters.

abbrev IsLetter : ℕ → Type 0
IsLetter x = (1 ≤ x) × (x ≤ 63)

side-letters : (r : Bool) (x : ℕ) → x ≤ 63 → All IsLetter (side_writes r x)
side-letters true x h = tt
side-letters false zero h = tt
side-letters false (suc x) h = ((omega arith, h), tt)

written-letters : (t : Table) → Ruled t → (q : Query) (a : Arc) (d : Passed) → All IsLetter (writes_at t q a d)
written-letters t U q a d = go (plain_at t q a d) refl
  where
    go : (o : Option Arc) → plain_at t q a d ≡ o → All IsLetter (listed o (writes_arc q))
    go none e = tt
    go (some b) e = all_append IsLetter (writes_on q upper_side b) (writes_on q lower_side b) (side upper_side) (side lower_side)
      where
        side : (s : Side) → All IsLetter (writes_on q s b)
        side s =
            side-letters (reads q.task s) (letter s b)
            (small-letters t.classes a (rows-keep t U) (next_letter (reads q.task upper_side) q.upper_word q.lower_word d) b e s)

output_letters_lem : (t : Table) → Ruled t → (q : Query) (p : Path) → All IsLetter (output (machine t q) p)
output_letters_lem t U q (start i) = tt
output_letters_lem t U q (more p n) = all_append IsLetter (output (machine t q) p) _ (output_letters_lem t U q p) (go (datum (machine t q) p))
  where
    go : (o : Option (Passed × ℕ)) → All IsLetter (listed o ((machine t q).writes n))
    go none = tt
    go (some d) = written-letters t U q (arc_at t n) d.0

pub reading-letters : (t : Table) → Ruled t → (q : Query) (p : Path) (x : ℕ) → Memᴰ x (output (machine t q) p) → (1 ≤ x) × (x ≤ 63)
reading-letters t U q p = all-mem IsLetter (output (machine t q) p) (output_letters_lem t U q p)

-- Idle arcs.

side-not : (x : ℕ) → 1 ≤ x → side_idle true x ≡ false
side-not zero h = absurd (omega arith)
side-not (suc x) h = refl

not-idle : (k : Task) (a : Arc) → 1 ≤ a.upper → 1 ≤ a.lower → idle k a ≡ false
not-idle recognition a h g = ap (λ (b : Bool). b && side_idle true a.lower) (side-not a.upper h)
not-idle synthesis a h g = ap (λ (b : Bool). b && true) (side-not a.upper h)
not-idle analysis a h g = side-not a.lower g

high : (a : Arc) → a.upper ≡ a.lower → is_plain a ≡ false → first_class ≤ a.upper
high a e p = go (ltb a.upper first_class) (ltb a.lower first_class) refl refl p
  where
    go : (b c : Bool) → ltb a.upper first_class ≡ b → ltb a.lower first_class ≡ c → (b && c) ≡ false → first_class ≤ a.upper
    go true true f g h = absurd (let z : ◌≡◌ {A = ℕ} 0 1 = cc in omega arith)
    go true false f g h = let z : first_class ≤ a.lower = ltb-false _ _ g in omega arith
    go false c f g h = ltb-false _ _ f

module _ (t : Table) (U : Ruled t) (a : Arc) (listed : Memᴰ a t.arcs) where
  -- every arc is a plain one where some letter is next
  pub some-plain : (x : ℕ) × (b : Arc) × PlainOf t.classes a x b
  some-plain = go (is_plain a) refl
    where
      by : (row : List ℕ) → row_of t.classes a.upper ≡ row → is_defined row ≡ true → is_plain a ≡ false → (x : ℕ) × (b : Arc) × PlainOf t.classes a x b
      by [] r e p = absurd (let z : 0 < 0 = ltb-true 0 0 e in omega arith)
      by (zero ∷ row) r e p = absurd (let z : 0 < 0 = ltb-true 0 0 e in omega arith)
      by (suc y ∷ row) r e p = (suc y, with_letter a (suc y), by_letter y p refl (subst (λ (l : List ℕ). Memᴰ (suc y) l) (sym r) (Memᴰ.head refl)) refl)

      go : (c : Bool) → is_plain a ≡ c → (x : ℕ) × (b : Arc) × PlainOf t.classes a x b
      go true p = (0, a, itself p refl)
      go false p = by (row_of t.classes a.upper) refl (U.class_defined a listed p) p

  -- "A class arc is never idle."
  pub class_not-idle : (k : Task) → is_plain a ≡ false → idle k a ≡ false
  class_not-idle k p =
      let e : a.upper ≡ a.lower = U.class_alike a listed p in
      let h : first_class ≤ a.upper = high a e p in
      not-idle k a (omega arith) (omega arith)

  pub idle-plain : (k : Task) → idle k a ≡ true → is_plain a ≡ true
  idle-plain k i = go (is_plain a) refl
    where
      go : (c : Bool) → is_plain a ≡ c → c ≡ true
      go true p = refl
      go false p = absurd (let w : ◌≡◌ {A = Bool} true false = sym i ∙ class_not-idle k p in let z : ◌≡◌ {A = ℕ} 0 1 = cc in omega arith)

-- the plain arc is not idle where the arc is not
pub narrow_idle : (rows : List (List ℕ)) (a : Arc) (x : ℕ) (b : Arc) → plain_by rows a x ≡ some b → (k : Task) → idle k a ≡ false → idle k b ≡ false
narrow_idle rows a x b e k i = go (plain-parts rows a x b e)
  where
    go : PlainOf rows a x b → idle k b ≡ false
    go (itself p h) = subst (λ (c : Arc). idle k c ≡ false) h i
    go (by_letter y p n m h) = subst (λ (c : Arc). idle k c ≡ false) h (not-idle k (with_letter a (suc y)) (omega arith) (omega arith))

-- What an arc does.

-- the next letter, which narrows a class
abbrev pub next_of : Query → Passed → ℕ
next_of q d = next_letter (reads q.task upper_side) q.upper_word q.lower_word d

side-fits : (r : Bool) (w : List ℕ) (x n : ℕ) → (r ≡ true → get_or w n 0 ≡ suc x) → side_follow r w (suc x) n ≡ some (suc n)
side-fits true w x n h = ap (λ (c : Bool). somewhen c (suc n)) (eq-eqb (get_or w n 0) (suc x) (h refl))
side-fits false w x n h = refl

side-next : (r : Bool) (w : List ℕ) (x n m : ℕ) → side_follow r w (suc x) n ≡ some m → (r ≡ true → get_or w n 0 ≡ suc x) × (suc n ≡ m)
side-next true w x n m e = let P = somewhen-parts (eqb (get_or w n 0) (suc x)) (suc n) m e in (λ z. eqb-true _ _ P.0, P.1)
side-next false w x n m e = (λ z. absurd (let y : ◌≡◌ {A = ℕ} 0 1 = cc in omega arith), cc)

letter_written_lem : (k : Task) (x : ℕ) → side_writes (reads k upper_side) (suc x) ++ side_writes (reads k lower_side) (suc x) ≡ letter_written k (suc x)
letter_written_lem recognition x = refl
letter_written_lem synthesis x = refl
letter_written_lem analysis x = refl

letter-next : (q : Query) (d : Passed) (row : List ℕ) (x : ℕ) → Fits row q d x → next_of q d ≡ x
letter-next q d row x F = go q.task (λ s. F.is_next_lem s)
  where
    go : (k : Task) → ((s : Side) → reads k s ≡ true → get_or (word s q) (passed d s) 0 ≡ x) → next_letter (reads k upper_side) q.upper_word q.lower_word d ≡ x
    go recognition g = g upper_side refl
    go synthesis g = g upper_side refl
    go analysis g = g lower_side refl

module _ (t : Table) (q : Query) (a : Arc) (d : Passed) where
  -- an arc fits and writes as the plain arc that it is
  pub follows-parts : (e : Passed) → follow_at t q a d ≡ some e → (b : Arc) × (plain_at t q a d ≡ some b) × (follow_arc q b d ≡ some e)
  follows-parts e h = bind-parts (plain_at t q a d) (λ b. follow_arc q b d) e h

  pub writes_as : (b : Arc) → plain_at t q a d ≡ some b → writes_at t q a d ≡ writes_arc q b
  writes_as b h = ap (λ (o : Option Arc). listed o (writes_arc q)) h

  -- a plain arc does what its letters say
  pub plain_follows : is_plain a ≡ true → follow_at t q a d ≡ follow_arc q a d
  plain_follows p = ap (λ (o : Option Arc). bind o (λ b. follow_arc q b d)) (plain_by_lem t.classes a (next_of q d) p)

  pub plain-writes : is_plain a ≡ true → writes_at t q a d ≡ writes_arc q a
  plain-writes p = writes_as a (plain_by_lem t.classes a (next_of q d) p)

  module _ (class : is_plain a ≡ false) where
    -- the letters of its class that are next
    abbrev FitsHere : ℕ → Type 0
    FitsHere = Fits (row_of t.classes a.upper) q d

    here : (x : ℕ) → FitsHere (suc x) → plain_at t q a d ≡ some (with_letter a (suc x))
    here x F = class_by t.classes a (next_of q d) x class (letter-next q d _ (suc x) F) F.in_class_lem

    fits-from : (x : ℕ) → FitsHere x → follow_at t q a d ≡ some (one_more d)
    fits-from zero F = absurd (let h : 1 ≤ 0 = F.is_letter_lem in omega arith)
    fits-from (suc x) F =
        ap (λ (o : Option Arc). bind o (λ b. follow_arc q b d)) (here x F)
        ∙ ap₂ both (side-fits (reads q.task upper_side) q.upper_word x d.up (F.is_next_lem upper_side)) (side-fits (reads q.task lower_side) q.lower_word x d.low (F.is_next_lem lower_side))

    fits-to : (e : Passed) → follow_at t q a d ≡ some e → ((x : ℕ) × FitsHere x) × (one_more d ≡ e)
    fits-to e h =
        let N = follows-parts e h in
        go N.0 (plain-parts t.classes a (next_of q d) N.0 N.1) N.2
      where
        by : (x : ℕ) → Memᴰ (suc x) (row_of t.classes a.upper) → follow_arc q (with_letter a (suc x)) d ≡ some e → ((x : ℕ) × FitsHere x) × (one_more d ≡ e)
        by x m f = ((suc x, record { is_letter_lem = omega arith; in_class_lem = m; is_next_lem = next }), λ i. record { up = u.1 i; low = l.1 i })
          where
            u : (reads q.task upper_side ≡ true → get_or q.upper_word d.up 0 ≡ suc x) × (suc d.up ≡ e.up)
            u = side-next (reads q.task upper_side) q.upper_word x d.up e.up (follow-parts q (with_letter a (suc x)) d e f upper_side)

            l : (reads q.task lower_side ≡ true → get_or q.lower_word d.low 0 ≡ suc x) × (suc d.low ≡ e.low)
            l = side-next (reads q.task lower_side) q.lower_word x d.low e.low (follow-parts q (with_letter a (suc x)) d e f lower_side)

            next : (s : Side) → reads q.task s ≡ true → get_or (word s q) (passed d s) 0 ≡ suc x
            next upper_side r = u.0 r
            next lower_side r = l.0 r

        go : (b : Arc) → PlainOf t.classes a (next_of q d) b → follow_arc q b d ≡ some e → ((x : ℕ) × FitsHere x) × (one_more d ≡ e)
        go b (itself p h) f = absurd (let w : ◌≡◌ {A = Bool} true false = sym p ∙ class in let z : ◌≡◌ {A = ℕ} 0 1 = cc in omega arith)
        go b (by_letter y p n m h) f = by y m (subst (λ (c : Arc). follow_arc q c d ≡ some e) (sym h) f)

    -- an arc of a class fits exactly where a letter of the class is next,
    pub class_fits_lem : ((e : Passed) × (follow_at t q a d ≡ some e)) ↔ ((x : ℕ) × FitsHere x)
    class_fits_lem = (λ h. (fits-to h.0 h.1).0, λ h. (one_more d, fits-from h.0 h.1))

    -- passes one letter more on both sides,
    pub class_passes : (e : Passed) → follow_at t q a d ≡ some e → one_more d ≡ e
    class_passes e h = (fits-to e h).1

    -- and writes that letter
    pub class_writes : (x : ℕ) → FitsHere x → writes_at t q a d ≡ letter_written q.task x
    class_writes zero F = absurd (let h : 1 ≤ 0 = F.is_letter_lem in omega arith)
    class_writes (suc x) F = writes_as (with_letter a (suc x)) (here x F) ∙ letter_written_lem q.task x
