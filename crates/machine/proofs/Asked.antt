-- What holds where 20, 11, 10 and 39 are not given; the limit 33,024 is enough there.
use Prim.Native.Nat.{ℕ, ◌+◌, ◌*◌, ◌≤◌}
use native.Mathlib.Omega.{arith}
use native.Mathlib.Nat.{mul-le-mul_right}
use mathlib.Core.Path.{◌≡◌, refl, sym, ap, subst, ◌∙◌}
use mathlib.Core.Logic.{◌⊎◌, inl, inr}
use mathlib.Core.Bool.{Bool, true, false, cond, ◌&&◌}
use mathlib.Core.Option.{Option, none, some}
use mathlib.Core.List.{List}
use lib.ListN.{length}
use lib.Dec.{leb}
use borrow.Author.Tests.{leb-true}
use Rattle.refusal.specs.declared.Refusal.{Refusal}
use Rattle.refusal.specs.declared.Refusal.TheVariants.{Input}
use Rattle.refusal.specs.declared.InputCause.TheVariants.{WordFault, TaskFault, CeilingLimit}
use Rattle.table_format.specs.Table.{Table}
use Rattle.refusal.specs.Refusal.{number_of}
use Rattle.table_format.specs.Rules.{keeps_rules}
use Rattle.table_format.specs.Loaded.{counts_in, extent, table_in, loaded}
use Rattle.table_format.proofs.Tests.{and_left, and_right}
use Rattle.table_format.proofs.Ruled.{Ruled}
use Rattle.machine.specs.Query.{Task, Side, upper_side, lower_side, reads, task_of, Query, word, word_holds, words_hold, sides_hold, ceiling_holds, with_ceiling}
use Rattle.machine.specs.Transducer.{side_to_read, to_read_on, letters_to_read}
use Rattle.machine.specs.Stack.{most_frames}
use Rattle.machine.specs.Asked.{Asked, turned, runs, asked_words, asked_task, asked_table, asked}

pub record AskedFacts (cells : List ℕ) (t : Table) (q : Query) (task : ℕ) (upper lower : List ℕ) (ceiling : ℕ) : Type 0 where
  pub table_is : loaded cells ≡ some t
  pub keeps_rules_lem : keeps_rules t ≡ true
  pub task-is : task_of task ≡ some q.task
  pub upper_is : q.upper_word ≡ upper
  pub lower-is : q.lower_word ≡ lower
  pub words_hold_lem : words_hold q ≡ true
  pub ceiling_holds_lem : ceiling_holds q ≡ true
  pub ceiling-is : q.ceiling ≡ ceiling

-- two askings that run
runs-table : (s t : Table) (p q : Query) → runs s p ≡ runs t q → s ≡ t
runs-table s t p q e = cc

runs-query : (s t : Table) (p q : Query) → runs s p ≡ runs t q → p ≡ q
runs-query s t p q e = cc

turned-runs : (r : Refusal) (t : Table) (q : Query) → turned r ≡ runs t q → ⊥
turned-runs r t q e = let z : ◌≡◌ {A = ℕ} 0 1 = cc in omega arith

-- what a loaded table keeps
pub loaded-rules : (cells : List ℕ) (t : Table) → loaded cells ≡ some t → keeps_rules t ≡ true
unfolding loaded
loaded-rules cells t e = go (leb (extent (counts_in cells)) (length cells)) (keeps_rules (table_in cells)) refl e
  where
    go : (a b : Bool) → keeps_rules (table_in cells) ≡ b → cond (a && b) (some (table_in cells)) none ≡ some t → keeps_rules t ≡ true
    go true true k x = let z : table_in cells ≡ t = cc in subst (λ (s : Table). keeps_rules s ≡ true) z k
    go true false k x = absurd (let z : ◌≡◌ {A = ℕ} 0 1 = cc in omega arith)
    go false b k x = absurd (let z : ◌≡◌ {A = ℕ} 0 1 = cc in omega arith)

pub words-facts : (s t : Table) (p q : Query) → asked_words s p ≡ runs t q → (s ≡ t) × (p ≡ q) × (sides_hold p ≡ true) × (words_hold p ≡ true) × (ceiling_holds p ≡ true)
words-facts s t p q e = go (sides_hold p) (words_hold p) (ceiling_holds p) e
  where
    go : (a b c : Bool) → cond a (cond b (cond c (runs s p) (turned (Input CeilingLimit))) (turned (Input WordFault))) (turned (Input TaskFault)) ≡ runs t q
        → (s ≡ t) × (p ≡ q) × (a ≡ true) × (b ≡ true) × (c ≡ true)
    go true true true x = (runs-table s t p q x, runs-query s t p q x, refl, refl, refl)
    go true true false x = absurd (turned-runs (Input CeilingLimit) t q x)
    go true false c x = absurd (turned-runs (Input WordFault) t q x)
    go false b c x = absurd (turned-runs (Input TaskFault) t q x)

pub asked-facts : (cells : List ℕ) (task : ℕ) (upper lower : List ℕ) (ceiling : ℕ) (t : Table) (q : Query) → asked cells task upper lower ceiling ≡ runs t q → AskedFacts cells t q task upper lower ceiling
unfolding asked
asked-facts cells task upper lower ceiling t q e = by-table (loaded cells) refl e
  where
    by-task : (s : Table) → loaded cells ≡ some s → (o : Option Task) → task_of task ≡ o → asked_task s o upper lower ceiling ≡ runs t q → AskedFacts cells t q task upper lower ceiling
    by-task s k none w x = absurd (turned-runs (Input TaskFault) t q x)
    by-task s k (some a) w x =
        let p : Query = record { task = a; upper_word = upper; lower_word = lower; ceiling = ceiling } in
        let F = words-facts s t p q x in
        let T : loaded cells ≡ some t = k ∙ ap (λ (z : Table). some z) F.0 in
        record {
          table_is = T;
          keeps_rules_lem = loaded-rules cells t T;
          task-is = w ∙ ap (λ (z : Query). some z.task) F.1;
          upper_is = sym (ap (λ (z : Query). z.upper_word) F.1);
          lower-is = sym (ap (λ (z : Query). z.lower_word) F.1);
          words_hold_lem = subst (λ (z : Query). words_hold z ≡ true) F.1 F.3;
          ceiling_holds_lem = subst (λ (z : Query). ceiling_holds z ≡ true) F.1 F.4;
          ceiling-is = sym (ap (λ (z : Query). z.ceiling) F.1);
        }

    by-table : (o : Option Table) → loaded cells ≡ o → asked_table o task upper lower ceiling ≡ runs t q → AskedFacts cells t q task upper lower ceiling
    by-table none w x = absurd (turned-runs _ t q x)
    by-table (some s) w x = by-task s w (task_of task) refl x

-- what is turned down before anything runs has the numbers 20, 11, 10 and 39
abbrev pub TurnedBy : Asked → Type 0
TurnedBy (turned r) = (number_of r ≡ 20) ⊎ ((number_of r ≡ 11) ⊎ ((number_of r ≡ 10) ⊎ (number_of r ≡ 39)))
TurnedBy (runs t q) = Unit {0}

-- of the cells, the loaded table alone counts
pub same_asked : (c d : List ℕ) → loaded c ≡ loaded d → (task : ℕ) (upper lower : List ℕ) (ceiling : ℕ) → asked c task upper lower ceiling ≡ asked d task upper lower ceiling
unfolding asked
same_asked c d e task upper lower ceiling = ap (λ (o : Option Table). asked_table o task upper lower ceiling) e

pub turned_by : (cells : List ℕ) (task : ℕ) (upper lower : List ℕ) (ceiling : ℕ) → TurnedBy (asked cells task upper lower ceiling)
unfolding asked
turned_by cells task upper lower ceiling = by-table (loaded cells)
  where
    by_tests_lem : (t : Table) (q : Query) (a b c : Bool) → TurnedBy (cond a (cond b (cond c (runs t q) (turned (Input CeilingLimit))) (turned (Input WordFault))) (turned (Input TaskFault)))
    by_tests_lem t q true true true = tt
    by_tests_lem t q true true false = inr (inr (inr refl))
    by_tests_lem t q true false c = inr (inr (inl refl))
    by_tests_lem t q false b c = inr (inl refl)

    by-task : (t : Table) (o : Option Task) → TurnedBy (asked_task t o upper lower ceiling)
    by-task t none = inr (inl refl)
    by-task t (some k) = let q : Query = record { task = k; upper_word = upper; lower_word = lower; ceiling = ceiling } in by_tests_lem t q (sides_hold q) (words_hold q) (ceiling_holds q)

    by-table : (o : Option Table) → TurnedBy (asked_table o task upper lower ceiling)
    by-table none = inl refl
    by-table (some t) = by-task t (task_of task)

-- "129 × 256": a stack of 33,024 frames holds every search that starts
module _ (t : Table) (q : Query) (U : Ruled t) (W : words_hold q ≡ true) where
  word-short : (s : Side) → length (word s q) ≤ 64
  word-short upper_side = leb-true _ _ (and_left _ _ (and_left (word_holds q.upper_word) (word_holds q.lower_word) W))
  word-short lower_side = leb-true _ _ (and_left _ _ (and_right (word_holds q.upper_word) (word_holds q.lower_word) W))

  few-letters : (s : Side) → to_read_on q s ≤ 64
  few-letters s = go (reads q.task s)
    where
      go : (r : Bool) → side_to_read r (word s q) ≤ 64
      go true = word-short s
      go false = omega arith

  pub enough-frames : (letters_to_read q + 1) * t.states ≤ most_frames
  enough-frames =
      let h : letters_to_read q + 1 ≤ 129 = omega (arith, few-letters upper_side, few-letters lower_side) in
      omega (arith, mul-le-mul_right t.states h, U.few-states)

-- askings that differ in their ceilings alone
pub same-query : (cells : List ℕ) (task : ℕ) (upper lower : List ℕ) (c d : ℕ) (t u : Table) (q r : Query) → asked cells task upper lower c ≡ runs t q → asked cells task upper lower d ≡ runs u r → (t ≡ u) × (with_ceiling r c ≡ q)
same-query cells task upper lower c d t u q r a b = (
  table,
  λ i. record { task = task-same i; upper_word = (G.upper_is ∙ sym F.upper_is) i; lower_word = (G.lower-is ∙ sym F.lower-is) i; ceiling = sym F.ceiling-is i },
)
  where
    F : AskedFacts cells t q task upper lower c
    F = asked-facts cells task upper lower c t q a

    G : AskedFacts cells u r task upper lower d
    G = asked-facts cells task upper lower d u r b

    table : t ≡ u
    table = let e : some t ≡ some u = sym F.table_is ∙ G.table_is in cc

    task-same : r.task ≡ q.task
    task-same = let e : some r.task ≡ some q.task = sym G.task-is ∙ F.task-is in cc
