-- A table with classes solves what the table with a plain arc for each letter of a class solves.
use Prim.Native.Nat.{ℕ, zero, suc, ◌≤◌}
use native.Mathlib.Omega.{arith}
use mathlib.Core.Path.{◌≡◌, refl, sym, ap, subst, ◌∙◌}
use mathlib.Core.Bool.{Bool, true, false, cond}
use mathlib.Core.Logic.{◌↔◌, ⊎_elim}
use mathlib.Core.List.Memᴰ
use mathlib.Core.List.{List, [], ◌∷◌, Memᴰ}
use Rattle.table_format.specs.Table.{Arc, Table}
use Rattle.table_format.specs.Classes.{is_plain, row_of, with_letter}
use Rattle.table_format.specs.Ruled.{Ruled}
use Rattle.table_format.proofs.ClassFaults.{plain-is}
use Rattle.machine.specs.Query.{Task, Side, upper_side, lower_side, letter}
use Rattle.machine.specs.Report.{Kernel, KernelPath, empty_path, longer_path, label, Word, adds, kernel_under, Input, Output, Solves}
use Rattle.machine.specs.Expand.{for_each, plain_arcs, all_plain, expanded}
use Rattle.machine.proofs.Members.{mem-left, mem_right, mem_either}
use Rattle.machine.proofs.Classes.{PlainOf, itself, by_letter, plain-small, rows-keep}
use Rattle.machine.proofs.Traces.{relation-plain, relation-from, relation-parts}

-- The plain arcs of a row, of an arc, and of all arcs.

each-mem : (a : Arc) (x : ℕ) (l : List ℕ) → Memᴰ (suc x) l → Memᴰ (with_letter a (suc x)) (for_each a l)
each-mem a x [] m = absurd (Memᴰ.not-nil m)
each-mem a x (zero ∷ l) m = ⊎_elim (λ w. absurd (omega arith)) (λ w. each-mem a x l w) (Memᴰ.cases_cons m)
each-mem a x (suc y ∷ l) m = ⊎_elim (λ w. Memᴰ.head (ap (with_letter a) w)) (λ w. Memᴰ.tail (each-mem a x l w)) (Memᴰ.cases_cons m)

mem-each : (a b : Arc) (l : List ℕ) → Memᴰ b (for_each a l) → (x : ℕ) × Memᴰ (suc x) l × (with_letter a (suc x) ≡ b)
mem-each a b [] m = absurd (Memᴰ.not-nil m)
mem-each a b (zero ∷ l) m = let R = mem-each a b l m in (R.0, Memᴰ.tail R.1, R.2)
mem-each a b (suc y ∷ l) m =
    ⊎_elim (λ w. (y, Memᴰ.head refl, sym w)) (λ w. let R = mem-each a b l w in (R.0, Memᴰ.tail R.1, R.2)) (Memᴰ.cases_cons m)

module _ (rows : List (List ℕ)) where
  plain-mem : (a : Arc) (x : ℕ) (b : Arc) → PlainOf rows a x b → Memᴰ b (plain_arcs rows a)
  plain-mem a x b (itself p e) = subst (λ (c : Bool). Memᴰ b (cond c (a ∷ []) (for_each a (row_of rows a.upper)))) (sym p) (Memᴰ.head (sym e))
  plain-mem a x b (by_letter y p n m e) =
      subst (λ (c : Bool). Memᴰ b (cond c (a ∷ []) (for_each a (row_of rows a.upper)))) (sym p)
      (subst (λ (c : Arc). Memᴰ c (for_each a (row_of rows a.upper))) e (each-mem a y (row_of rows a.upper) m))

  mem-plain : (a b : Arc) → Memᴰ b (plain_arcs rows a) → (x : ℕ) × PlainOf rows a x b
  mem-plain a b m = go (is_plain a) refl m
    where
      go : (c : Bool) → is_plain a ≡ c → Memᴰ b (cond c (a ∷ []) (for_each a (row_of rows a.upper))) → (x : ℕ) × PlainOf rows a x b
      go true p i = (0, itself p (⊎_elim (λ u. sym u) (λ u. absurd (Memᴰ.not-nil u)) (Memᴰ.cases_cons i)))
      go false p i = let R = mem-each a b (row_of rows a.upper) i in (suc R.0, by_letter R.0 p refl R.1 R.2)

  all-mem : (a b : Arc) (l : List Arc) → Memᴰ a l → Memᴰ b (plain_arcs rows a) → Memᴰ b (all_plain rows l)
  all-mem a b [] m n = absurd (Memᴰ.not-nil m)
  all-mem a b (c ∷ l) m n =
      ⊎_elim (λ w. mem-left b (plain_arcs rows c) (all_plain rows l) (subst (λ (z : Arc). Memᴰ b (plain_arcs rows z)) w n))
      (λ w. mem_right b (plain_arcs rows c) (all_plain rows l) (all-mem a b l w n)) (Memᴰ.cases_cons m)

  mem-all : (b : Arc) (l : List Arc) → Memᴰ b (all_plain rows l) → (a : Arc) × Memᴰ a l × Memᴰ b (plain_arcs rows a)
  mem-all b [] m = absurd (Memᴰ.not-nil m)
  mem-all b (c ∷ l) m =
      ⊎_elim (λ w. (c, Memᴰ.head refl, w)) (λ w. let R = mem-all b l w in (R.0, Memᴰ.tail R.1, R.2)) (mem_either b (plain_arcs rows c) (all_plain rows l) m)

module _ (t : Table) (U : Ruled t) where
  abbrev t' : Table
  t' = expanded t

  plain_of : (a : Arc) (x : ℕ) (b : Arc) → PlainOf t.classes a x b → is_plain b ≡ true
  plain_of a x b B =
      let S : (s : Side) → letter s b ≤ 63 = plain-small t.classes a (rows-keep t U) x b B in
      (plain-is b).1 (omega (arith, S upper_side), omega (arith, S lower_side))

  -- every arc of the expanded table is plain
  pub expanded-plain : (b : Arc) → Memᴰ b t'.arcs → is_plain b ≡ true
  expanded-plain b m = let R = mem-all t.classes b t.arcs m in let B = mem-plain t.classes R.0 b R.2 in plain_of R.0 B.0 b B.1

  same_ends : (rows : List (List ℕ)) (a : Arc) (x : ℕ) (b : Arc) → PlainOf rows a x b → (b.source ≡ a.source) × (b.target ≡ a.target) × (b.penalty ≡ a.penalty)
  same_ends rows a x b (itself p e) = (ap (λ (z : Arc). z.source) (sym e), ap (λ (z : Arc). z.target) (sym e), ap (λ (z : Arc). z.penalty) (sym e))
  same_ends rows a x b (by_letter y p n m e) = (ap (λ (z : Arc). z.source) (sym e), ap (λ (z : Arc). z.target) (sym e), ap (λ (z : Arc). z.penalty) (sym e))

  module _ (k : Task) (c : ℕ) where
    abbrev K : Table → Kernel
    K u = kernel_under u k c

    -- an arc's relation, by one of its plain arcs, which has its penalty
    arc-to : (a : Arc) → Memᴰ a t.arcs → (d e : (Word × Word) × ℕ) → (K t).relation a d e
        → (b : Arc) × Memᴰ b t'.arcs × (b.source ≡ a.source) × (b.target ≡ a.target) × (K t').relation b d e
    arc-to a m d e h =
        let R = relation-parts t.classes k a d.0 e.0 h.0 in
        let S = same_ends t.classes a R.0 R.1 R.2 in (
          R.1,
          all-mem t.classes a R.1 t.arcs m (plain-mem t.classes a R.0 R.1 R.2),
          S.0,
          S.1,
          ((relation-plain t'.classes k R.1 d.0 e.0 (plain_of a R.0 R.1 R.2)).1 R.3, subst (λ (p : ℕ). adds c p d.1 e.1) (sym S.2) h.1),
        )

    arc_from_lem : (b : Arc) → Memᴰ b t'.arcs → (d e : (Word × Word) × ℕ) → (K t').relation b d e
        → (a : Arc) × Memᴰ a t.arcs × (a.source ≡ b.source) × (a.target ≡ b.target) × (K t).relation a d e
    arc_from_lem b m d e h =
        let R = mem-all t.classes b t.arcs m in
        let B = mem-plain t.classes R.0 b R.2 in
        let S = same_ends t.classes R.0 B.0 b B.1 in (
          R.0,
          R.1,
          sym S.0,
          sym S.1,
          (
            relation-from t.classes k R.0 d.0 e.0 B.0 b B.1 ((relation-plain t'.classes k b d.0 e.0 (expanded-plain b m)).0 h.0),
            subst (λ (p : ℕ). adds c p d.1 e.1) S.2 h.1,
          ),
        )

    path-to : {q r : ℕ} (w : KernelPath (K t) q r) (d e : (Word × Word) × ℕ) → label (K t) w d e → (v : KernelPath (K t') q r) × label (K t') v d e
    path-to empty_path d e l = (empty_path, l)
    path-to (longer_path w a m f g) d e l =
        let R = path-to w d l.0 l.1 in
        let B = arc-to a m l.0 e l.2 in
        (longer_path R.0 B.0 B.1 (B.2 ∙ f) (B.3 ∙ g), (l.0, R.1, B.4))

    path-from : {q r : ℕ} (w : KernelPath (K t') q r) (d e : (Word × Word) × ℕ) → label (K t') w d e → (v : KernelPath (K t) q r) × label (K t) v d e
    path-from empty_path d e l = (empty_path, l)
    path-from (longer_path w a m f g) d e l =
        let R = path-from w d l.0 l.1 in
        let B = arc_from_lem a m l.0 e l.2 in
        (longer_path R.0 B.0 B.1 (B.2 ∙ f) (B.3 ∙ g), (l.0, R.1, B.4))

    -- both tables solve the same
    pub expands : (x : Input k) (y : Output k) → Solves t k c x y ↔ Solves t' k c x y
    expands x y = (
      λ S. let C = S.1.2 in let W = path-to C.4.0 S.1.0 S.0 C.4.1 in (S.0, (S.1.0, S.1.1, (C.0, C.1, C.2, C.3, W)), S.2),
      λ S. let C = S.1.2 in let W = path-from C.4.0 S.1.0 S.0 C.4.1 in (S.0, (S.1.0, S.1.1, (C.0, C.1, C.2, C.3, W)), S.2),
    )
