-- What a start answers on the inverse, with the sides of the question exchanged: the same, 12 with the same cycle. And where recognition starts.
use Prim.Native.Nat.{ℕ}
use native.Mathlib.Omega.{arith}
use mathlib.Core.Path.{◌≡◌, refl, sym, ap, ap₂, subst, ◌∙◌}
use mathlib.Core.Bool.{Bool, true, false, cond, ◌&&◌, ◌||◌, and_comm}
use mathlib.Core.Option.{Option, none, some, map}
use mathlib.Core.List.{List}
use lib.Dec.{eqb, leb}
use borrow.Author.Tests.{eqb-true}
use Rattle.refusal.specs.declared.Refusal.TheVariants.{Input}
use Rattle.refusal.specs.declared.InputCause.TheVariants.{WordFault, TaskFault, CeilingLimit, IdleCycle}
use Rattle.table_format.specs.Table.{Table}
use Rattle.table_format.specs.Rules.{is_empty}
use Rattle.table_format.specs.Loaded.{loaded}
use Rattle.table_format.proofs.Tests.{and_both}
use Rattle.machine.specs.declared.Started.{Started}
use Rattle.machine.specs.declared.StartAnswer.TheVariants.{Ready, Refused}
use Rattle.machine.specs.Query.{Task, recognition, synthesis, analysis, task_of, upper_side, lower_side, Query, word_holds, side_holds, words_hold, sides_hold, ceiling_holds, most_ceiling, recognition_of}
use Rattle.machine.specs.Idle.{has_idle_cycle, shown_idle}
use Rattle.machine.specs.Asked.{Asked, turned, runs, asked_words, asked_task, asked_table, asked}
use Rattle.machine.specs.Start.{first_run, no_run, started_with, by_test, started_as, started, StartedIs}
use Rattle.machine.proofs.Idle.{recognition_none, cycle-made, shown-made}
use Rattle.machine.proofs.Asked.{AskedFacts, asked-facts}
use Rattle.machine.proofs.Headlines.{ready-is}
use Rattle.inverse.specs.Inverse.{inverse_arc, inverse, inverse_task, inverse_number, inverse_query, inverse_started}
use Rattle.inverse.proofs.Sides.{reads_other, idle-same}

pub same-cycle : (t : Table) (k : Task) → has_idle_cycle (inverse t) (inverse_task k) ≡ has_idle_cycle t k
same-cycle t k = cycle-made t inverse_arc (inverse_task k) k (λ a. refl) (λ a. refl) (idle-same k)

pub same-shown : (t : Table) (k : Task) → shown_idle (inverse t) (inverse_task k) ≡ shown_idle t k
same-shown t k = shown-made t inverse_arc (inverse_task k) k (λ a. refl) (λ a. refl) (idle-same k)

-- what is asked of a table and a question, exchanged
abbrev pub inverse_asked : Asked → Asked
inverse_asked (turned r) = turned r
inverse_asked (runs t q) = runs (inverse t) (inverse_query q)

task_number_lem : (n : ℕ) → task_of (inverse_number n) ≡ map inverse_task (task_of n)
task_number_lem n = go (eqb n 2) (eqb n 3) refl refl
  where
    other : (a b c : Bool) → b ≡ false → c ≡ false → cond a (some recognition) (cond b (some synthesis) (cond c (some analysis) none)) ≡ map inverse_task (cond a (some recognition) (cond b (some synthesis) (cond c (some analysis) none)))
    other true b c e f = refl
    other false true c e f = absurd (let z : ◌≡◌ {A = ℕ} 0 1 = cc in omega arith)
    other false false true e f = absurd (let z : ◌≡◌ {A = ℕ} 0 1 = cc in omega arith)
    other false false false e f = refl

    go : (b c : Bool) → eqb n 2 ≡ b → eqb n 3 ≡ c → task_of (cond b 3 (cond c 2 n)) ≡ map inverse_task (task_of n)
    go true c e f = subst (λ (m : ℕ). some analysis ≡ map inverse_task (task_of m)) (sym (eqb-true n 2 e)) refl
    go false true e f = subst (λ (m : ℕ). some synthesis ≡ map inverse_task (task_of m)) (sym (eqb-true n 3 f)) refl
    go false false e f = other (eqb n 1) (eqb n 2) (eqb n 3) e f

sides-same : (q : Query) → sides_hold (inverse_query q) ≡ sides_hold q
sides-same q =
    ap₂ (λ (b c : Bool). (b || is_empty q.lower_word) && (c || is_empty q.upper_word)) (reads_other q.task upper_side) (reads_other q.task lower_side)
    ∙ and_comm (side_holds lower_side q) (side_holds upper_side q)

words_same : (t : Table) (q : Query) → asked_words (inverse t) (inverse_query q) ≡ inverse_asked (asked_words t q)
words_same t q =
    ap₂ (λ (a b : Bool). cond a (cond b (cond (ceiling_holds q) (runs (inverse t) (inverse_query q)) (turned (Input CeilingLimit))) (turned (Input WordFault))) (turned (Input TaskFault)))
    (sides-same q) (and_comm (word_holds q.lower_word) (word_holds q.upper_word))
    ∙ go (sides_hold q) (words_hold q) (ceiling_holds q)
  where
    go : (a b c : Bool) → cond a (cond b (cond c (runs (inverse t) (inverse_query q)) (turned (Input CeilingLimit))) (turned (Input WordFault))) (turned (Input TaskFault))
        ≡ inverse_asked (cond a (cond b (cond c (runs t q) (turned (Input CeilingLimit))) (turned (Input WordFault))) (turned (Input TaskFault)))
    go true true true = refl
    go true true false = refl
    go true false c = refl
    go false b c = refl

module _ (c d : List ℕ) (inverted : loaded d ≡ map inverse (loaded c)) (task : ℕ) (upper lower : List ℕ) (ceiling : ℕ) where
  pub same_asked : asked d (inverse_number task) lower upper ceiling ≡ inverse_asked (asked c task upper lower ceiling)
  unfolding asked
  same_asked = ap (λ (o : Option Table). asked_table o (inverse_number task) lower upper ceiling) inverted ∙ by-table (loaded c)
    where
      by-task : (t : Table) (o : Option Task) → asked_task (inverse t) (map inverse_task o) lower upper ceiling ≡ inverse_asked (asked_task t o upper lower ceiling)
      by-task t none = refl
      by-task t (some k) = words_same t (record { task = k; upper_word = upper; lower_word = lower; ceiling = ceiling })

      by-table : (o : Option Table) → asked_table (map inverse o) (inverse_number task) lower upper ceiling ≡ inverse_asked (asked_table o task upper lower ceiling)
      by-table none = refl
      by-table (some t) = ap (λ (o : Option Task). asked_task (inverse t) o lower upper ceiling) (task_number_lem task) ∙ by-task t (task_of task)

  pub same-started : started d (inverse_number task) lower upper ceiling ≡ inverse_started (started c task upper lower ceiling)
  unfolding started
  same-started = ap (λ (w : Asked). started_as w (first_run (inverse_number task) ceiling)) same_asked ∙ go (asked c task upper lower ceiling)
    where
      by_test_lem : (t : Table) (q : Query) (b : Bool) → by_test (inverse t) (inverse_query q) (first_run (inverse_number task) ceiling) b ≡ inverse_started (by_test t q (first_run task ceiling) b)
      by_test_lem t q true = ap (λ (l : List ℕ). started_with (Refused (Input IdleCycle)) no_run l) (same-shown t q.task)
      by_test_lem t q false = refl

      go : (w : Asked) → started_as (inverse_asked w) (first_run (inverse_number task) ceiling) ≡ inverse_started (started_as w (first_run task ceiling))
      go (turned r) = refl
      go (runs t q) = ap (by_test (inverse t) (inverse_query q) (first_run (inverse_number task) ceiling)) (same-cycle t q.task) ∙ by_test_lem t q (has_idle_cycle t q.task)

-- Where any task starts on a table, recognition of any two words that hold does.

-- what is started is as it is
pub itself : (s : Started) → StartedIs s s
itself s = (refl, refl, refl, refl)

pub recognition_ready : (c : List ℕ) (task : ℕ) (v w : List ℕ) (ceiling : ℕ) → (started c task v w ceiling).answer ≡ Ready
    → (u l : List ℕ) → word_holds u ≡ true → word_holds l ≡ true → (started c 1 u l ceiling).answer ≡ Ready
unfolding asked
recognition_ready c task v w ceiling ready u l good fine =
    let R = (ready-is c task v w ceiling (started c task v w ceiling) (itself (started c task v w ceiling))).0 ready in
    (ready-is c 1 u l ceiling (started c 1 u l ceiling) (itself (started c 1 u l ceiling))).1
    (R.0, recognition_of u l ceiling, asked_is R.0 R.1 (asked-facts c task v w ceiling R.0 R.1 R.2), recognition_none R.0 R.1.task R.3)
  where
    asked_is : (t : Table) (q : Query) → AskedFacts c t q task v w ceiling → asked c 1 u l ceiling ≡ runs t (recognition_of u l ceiling)
    asked_is t q F =
        ap (λ (o : Option Table). asked_table o 1 u l ceiling) F.table_is
        ∙ ap₂ (λ (a b : Bool). cond a (cond b (runs t (recognition_of u l ceiling)) (turned (Input CeilingLimit))) (turned (Input WordFault))) (and_both good fine)
        (ap (λ (n : ℕ). leb n most_ceiling) (sym F.ceiling-is) ∙ F.ceiling_holds_lem)
