-- The machine of a table and a question, and that of the inverse and the question with its sides exchanged: a morphism, which exchanges what was passed.
use Prim.Native.Nat.{ℕ, suc, ◌+◌, ◌-◌, ◌*◌}
use native.Mathlib.Omega.{arith}
use mathlib.Core.Path.{◌≡◌, refl, sym, ap, ap₂, subst, ◌∙◌}
use mathlib.Core.Bool.{Bool, true, false, cond}
use mathlib.Core.Option
use mathlib.Core.Option.{Option, none, some}
use mathlib.Core.List.{List, [], ◌∷◌, map}
use lib.ListN.{get_or}
use lib.Dec.{ltb}
use Rattle.table_format.specs.Table.{Arc, Table}
use Rattle.table_format.specs.Classes.{is_plain, row_of, with_letter}
use Rattle.table_format.specs.Index.{below}
use Rattle.machine.specs.Query.{Task, recognition, synthesis, analysis, Query, recognition_of}
use Rattle.machine.specs.Machine.{listed}
use Rattle.machine.specs.Transducer.{arc_at, Passed, writes_arc, in_row, plain_by, plain_at, follow_at, writes_at, plain_machine, penalty_at, machine}
use Rattle.machine.specs.Classes.{Fits}
use Rattle.machine.proofs.Classes.{plain_follows, class_fits_lem, class_passes}
use Rattle.machine.proofs.Morphism.{Morphism, ceiled_morphism}
use Rattle.inverse.specs.Inverse.{inverse_arc, inverse, inverse_query}
use Rattle.inverse.proofs.Table.{ClassesAlike, arc_at_lem, plain-same, alike_at}
use Rattle.inverse.proofs.Sides.{exchanged, letters-same, done-same, follow-same, writes-same, fits-other, fits-back}

-- an option is another's under f, where each has a value exactly when the other has
held_by_lem : {A B : Type 0} (f : A → B) (o : Option A) (r : Option B) → ((a : A) → o ≡ some a → r ≡ some (f a)) → ((b : B) → r ≡ some b → (a : A) × (o ≡ some a)) → r ≡ Option.map f o
held_by_lem f (some a) r to from = to a refl
held_by_lem f none none to from = refl
held_by_lem f none (some b) to from = absurd (let P = from b refl in let e : none ≡ some P.0 = P.1 in let z : ◌≡◌ {A = ℕ} 0 1 = cc in omega arith)

below-same : (s : ℕ) (l : List Arc) → below s (map inverse_arc l) ≡ below s l
below-same s [] = refl
below-same s (a ∷ l) = ap (λ (n : ℕ). cond (ltb a.source s) (suc n) n) (below-same s l)

module _ (t : Table) (q : Query) (a : Arc) (alike : is_plain a ≡ false → a.upper ≡ a.lower) (d : Passed) where
  -- an arc of a class fits where a letter of the class is next, whatever the sides are called
  class_follows : is_plain a ≡ false → follow_at (inverse t) (inverse_query q) (inverse_arc a) (exchanged d) ≡ Option.map exchanged (follow_at t q a d)
  class_follows class = held_by_lem exchanged (follow_at t q a d) (follow_at (inverse t) (inverse_query q) (inverse_arc a) (exchanged d)) to from
    where
      class' : is_plain (inverse_arc a) ≡ false
      class' = plain-same a ∙ class

      to : (e : Passed) → follow_at t q a d ≡ some e → follow_at (inverse t) (inverse_query q) (inverse_arc a) (exchanged d) ≡ some (exchanged e)
      to e h =
          let F = (class_fits_lem t q a d class).0 (e, h) in
          let G = (class_fits_lem (inverse t) (inverse_query q) (inverse_arc a) (exchanged d) class').1 (F.0, fits-other (row_of t.classes a.lower) q d F.0 (subst (λ (x : ℕ). Fits (row_of t.classes x) q d F.0) (alike class) F.1)) in
          G.1 ∙ sym (ap (λ (x : Passed). some x) (class_passes (inverse t) (inverse_query q) (inverse_arc a) (exchanged d) class' G.0 G.1)) ∙ ap (λ (x : Passed). some (exchanged x)) (class_passes t q a d class e h)

      from : (e : Passed) → follow_at (inverse t) (inverse_query q) (inverse_arc a) (exchanged d) ≡ some e → (x : Passed) × (follow_at t q a d ≡ some x)
      from e h =
          let F = (class_fits_lem (inverse t) (inverse_query q) (inverse_arc a) (exchanged d) class').0 (e, h) in
          (class_fits_lem t q a d class).1 (F.0, subst (λ (x : ℕ). Fits (row_of t.classes x) q d F.0) (sym (alike class)) (fits-back (row_of t.classes a.lower) q d F.0 F.1))

  arc-follows : follow_at (inverse t) (inverse_query q) (inverse_arc a) (exchanged d) ≡ Option.map exchanged (follow_at t q a d)
  arc-follows = go (is_plain a) refl
    where
      go : (b : Bool) → is_plain a ≡ b → follow_at (inverse t) (inverse_query q) (inverse_arc a) (exchanged d) ≡ Option.map exchanged (follow_at t q a d)
      go true p = plain_follows (inverse t) (inverse_query q) (inverse_arc a) (exchanged d) (plain-same a ∙ p) ∙ follow-same q a d ∙ sym (ap (Option.map exchanged) (plain_follows t q a d p))
      go false p = class_follows p

  -- the plain arc that an arc is where x is the next letter
  plain_by-same : (x : ℕ) → plain_by t.classes (inverse_arc a) x ≡ Option.map inverse_arc (plain_by t.classes a x)
  plain_by-same x = ap (λ (b : Bool). cond b (some (inverse_arc a)) (classed a.lower)) (plain-same a) ∙ go (is_plain a) refl
    where
      classed : ℕ → Option Arc
      classed y = cond (in_row x (row_of t.classes y)) (some (with_letter a x)) none

      letter : (b : Bool) → cond b (some (with_letter a x)) none ≡ Option.map inverse_arc (cond b (some (with_letter a x)) none)
      letter true = refl
      letter false = refl

      go : (b : Bool) → is_plain a ≡ b → cond b (some (inverse_arc a)) (classed a.lower) ≡ Option.map inverse_arc (cond b (some a) (classed a.upper))
      go true p = refl
      go false p = ap classed (sym (alike p)) ∙ letter (in_row x (row_of t.classes a.upper))

  -- what it writes: nothing in recognition; else what its plain arc does, where the letter read is the same
  arc-writes : writes_at (inverse t) (inverse_query q) (inverse_arc a) (exchanged d) ≡ writes_at t q a d
  arc-writes = go q.task
    where
      asked : Task → Query
      asked k = record { task = k; upper_word = q.upper_word; lower_word = q.lower_word; ceiling = q.ceiling }

      none_written : (u l : List ℕ) (c : ℕ) (o : Option Arc) → listed o (writes_arc (recognition_of u l c)) ≡ []
      none_written u l c none = refl
      none_written u l c (some b) = refl

      by_letter_lem : (k : Task) (x : ℕ) → listed (plain_by t.classes (inverse_arc a) x) (writes_arc (inverse_query (asked k))) ≡ listed (plain_by t.classes a x) (writes_arc (asked k))
      by_letter_lem k x = ap (λ (o : Option Arc). listed o (writes_arc (inverse_query (asked k)))) (plain_by-same x) ∙ each (plain_by t.classes a x)
        where
          each : (o : Option Arc) → listed (Option.map inverse_arc o) (writes_arc (inverse_query (asked k))) ≡ listed o (writes_arc (asked k))
          each none = refl
          each (some b) = writes-same (asked k) b

      go : (k : Task) → writes_at (inverse t) (inverse_query (asked k)) (inverse_arc a) (exchanged d) ≡ writes_at t (asked k) a d
      go recognition =
          none_written q.lower_word q.upper_word q.ceiling (plain_at (inverse t) (inverse_query (asked recognition)) (inverse_arc a) (exchanged d))
          ∙ sym (none_written q.upper_word q.lower_word q.ceiling (plain_at t (asked recognition) a d))
      go synthesis = by_letter_lem synthesis (get_or q.upper_word d.up 0)
      go analysis = by_letter_lem analysis (get_or q.lower_word d.low 0)

module _ (t : Table) (alike : ClassesAlike t) (q : Query) where
  plain_morphism : Morphism (plain_machine t q) (plain_machine (inverse t) (inverse_query q))
  plain_morphism =
      record {
        to = exchanged;
        initials-are = refl;
        first-is = λ s. below-same s t.arcs;
        arity-is = λ s. ap₂ (λ (m n : ℕ). m - n) (below-same (suc s) t.arcs) (below-same s t.arcs);
        target_is = λ n. ap (λ (a : Arc). a.target) (arc_at_lem t n);
        terminal-is = λ s. refl;
        limit_is = ap (λ (n : ℕ). (n + 1) * t.states) (letters-same q);
        d₀_is = refl;
        follow-is = λ n d. ap (λ (a : Arc). follow_at (inverse t) (inverse_query q) a (exchanged d)) (arc_at_lem t n) ∙ arc-follows t q (arc_at t n) (alike_at t alike n) d;
        writes-is = λ n d. ap (λ (a : Arc). writes_at (inverse t) (inverse_query q) a (exchanged d)) (arc_at_lem t n) ∙ arc-writes t q (arc_at t n) (alike_at t alike n) d;
        done-is = done-same q;
      }

  pub inverse_morphism : Morphism (machine t q) (machine (inverse t) (inverse_query q))
  inverse_morphism =
      ceiled_morphism (plain_machine t q) (plain_machine (inverse t) (inverse_query q)) plain_morphism (penalty_at t) (penalty_at (inverse t)) (λ n. ap (λ (a : Arc). a.penalty) (arc_at_lem t n)) q.ceiling
