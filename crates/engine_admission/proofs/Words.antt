-- Laws of the refusals 20, 11, 10 and 39: letters by their places, the sides that a task's number reads, and each refusal in its turn.
use Prim.Native.Nat.{ℕ, zero, suc, ◌+◌, ◌<◌, ◌≤◌}
use native.Mathlib.Omega.{arith}
use native.Mathlib.Numerals.{add-one}
use mathlib.Core.Path.{◌≡◌, refl, sym, ap, ◌∙◌}
use mathlib.Core.Bool.{Bool, true, false, cond, ◌&&◌, ◌||◌, and-true, and_assoc}
use mathlib.Core.Option.{Option, none, some}
use mathlib.Core.List.{List, [], ◌∷◌}
use lib.Dec.{eqb, leb}
use lib.ListN.{length, get_or, take}
use borrow.Author.Tests.{eqb-true, leb-true, le-leb}
use Rattle.refusal.specs.declared.Refusal.{Refusal}
use Rattle.refusal.specs.declared.Refusal.TheVariants.{Input, State}
use Rattle.refusal.specs.declared.InputCause.{InputCause}
use Rattle.refusal.specs.declared.InputCause.TheVariants.{WordFault, TaskFault, CeilingLimit}
use Rattle.refusal.specs.declared.StateCause.TheVariants.{LoadedTable}
use Rattle.table_format.specs.Table.{Table}
use Rattle.table_format.specs.Rules.{is_empty}
use Rattle.table_format.specs.Loaded.{table_in, loaded}
use Rattle.machine.specs.Query.{Task, recognition, synthesis, analysis, Side, upper_side, lower_side, task_of, reads, Query, letters_within, word_holds, sides_hold, words_hold, most_ceiling, ceiling_holds}
use Rattle.machine.specs.Asked.{Asked, turned, runs, asked_task, asked_table, asked}
use Rattle.std.specs.Prelude.{Result, Ok, Err}
use Rattle.engine_admission.specs.Admission.{task_reads, reads_at, task_holds, admission_of, as_refusal}

-- Letters.

-- one letter more
pub letters-more : (w : List ℕ) (k : ℕ) → k < length w → letters_within (take (suc k) w) ≡ (letters_within (take k w) && (leb 1 (get_or w k 0) && leb (get_or w k 0) 63))
letters-more [] k h = absurd (omega arith)
letters-more (x ∷ xs) zero h = and-true (leb 1 x && leb x 63)
letters-more (x ∷ xs) (suc k) h =
    ap (λ (b : Bool). (leb 1 x && leb x 63) && b) (letters-more xs k (omega arith))
    ∙ sym (and_assoc (leb 1 x && leb x 63) (letters_within (take k xs)) (leb 1 (get_or xs k 0) && leb (get_or xs k 0) 63))

pub letters_next : (w : List ℕ) (k : ℕ) → k < length w → letters_within (take (k + 1) w) ≡ (letters_within (take k w) && (leb 1 (get_or w k 0) && leb (get_or w k 0) 63))
letters_next w k h = ap (λ (n : ℕ). letters_within (take n w)) (add-one k) ∙ letters-more w k h

-- Tasks.

abbrev pub task_number : Task → ℕ
task_number recognition = 1
task_number synthesis = 2
task_number analysis = 3

pub task_number_lem : (n : ℕ) (k : Task) → task_of n ≡ some k → n ≡ task_number k
task_number_lem n k = go (eqb n 1) (eqb n 2) (eqb n 3) refl refl refl
  where
    go : (a b c : Bool) → eqb n 1 ≡ a → eqb n 2 ≡ b → eqb n 3 ≡ c → cond a (some recognition) (cond b (some synthesis) (cond c (some analysis) none)) ≡ some k → n ≡ task_number k
    go true b c p q r e = let z : recognition ≡ k = cc in eqb-true n 1 p ∙ ap task_number z
    go false true c p q r e = let z : synthesis ≡ k = cc in eqb-true n 2 q ∙ ap task_number z
    go false false true p q r e = let z : analysis ≡ k = cc in eqb-true n 3 r ∙ ap task_number z
    go false false false p q r e = absurd (let z : ◌≡◌ {A = ℕ} 0 1 = cc in omega arith)

task_within : (k : Task) → (1 ≤ task_number k) × (task_number k ≤ 3)
task_within recognition = (omega arith, omega arith)
task_within synthesis = (omega arith, omega arith)
task_within analysis = (omega arith, omega arith)

pub task-there : (n : ℕ) → 1 ≤ n → n ≤ 3 → (k : Task) × (task_of n ≡ some k)
task-there zero h g = absurd (omega arith)
task-there (suc zero) h g = (recognition, refl)
task-there (suc (suc zero)) h g = (synthesis, refl)
task-there (suc (suc (suc zero))) h g = (analysis, refl)
task-there (suc (suc (suc (suc n)))) h g = absurd (omega arith)

-- The sides that a number reads.

pub reads_of : (n : ℕ) (k : Task) → task_of n ≡ some k → (s : Side) → reads_at n s ≡ reads k s
unfolding reads_at
reads_of n k e s = ap (λ (o : Option Task). task_reads o s) e

-- 11, by the task of the number.
module _ (n : ℕ) (upper lower : List ℕ) where
  pub task_holds-none : task_of n ≡ none → task_holds n upper lower ≡ false
  task_holds-none e = go (leb 1 n) (leb n 3) refl refl
    where
      go : (a b : Bool) → leb 1 n ≡ a → leb n 3 ≡ b → task_holds n upper lower ≡ false
      go false b p q = ap (λ (x : Bool). (x && leb n 3) && ((reads_at n upper_side || is_empty upper) && (reads_at n lower_side || is_empty lower))) p
      go true false p q = (λ i. (p i && q i) && ((reads_at n upper_side || is_empty upper) && (reads_at n lower_side || is_empty lower)))
      go true true p q = let K = task-there n (leb-true 1 n p) (leb-true n 3 q) in absurd (let z : some K.0 ≡ none = sym K.1 ∙ e in cc)

  pub task_holds-some : (k : Task) → task_of n ≡ some k → task_holds n upper lower ≡ ((reads k upper_side || is_empty upper) && (reads k lower_side || is_empty lower))
  task_holds-some k e =
      let m = task_number_lem n k e in
      let w = task_within k in
      (λ i. (le-leb 1 n (omega arith) i && le-leb n 3 (omega arith) i) && ((reads_of n k e upper_side i || is_empty upper) && (reads_of n k e lower_side i || is_empty lower)))

-- Each refusal in its turn.

-- 20
module _ (cells : List ℕ) (task : ℕ) (upper lower : List ℕ) (ceiling : ℕ) where
  pub asking_table : loaded cells ≡ none → asked cells task upper lower ceiling ≡ turned (State LoadedTable)
  unfolding asked
  asking_table e = ap (λ (x : Option Table). asked_table x task upper lower ceiling) e

-- the others, of a table that keeps the rules
module _ (task : ℕ) (upper lower : List ℕ) (ceiling : ℕ) (cells : List ℕ) (loads : loaded cells ≡ some (table_in cells)) where
  abbrev query_of : Task → Query
  query_of k = record { task = k; upper_word = upper; lower_word = lower; ceiling = ceiling }

  by-task : (o : Option Task) → task_of task ≡ o → asked cells task upper lower ceiling ≡ asked_task (table_in cells) o upper lower ceiling
  unfolding asked
  by-task o e = ap (λ (x : Option Table). asked_table x task upper lower ceiling) loads ∙ ap (λ (x : Option Task). asked_task (table_in cells) x upper lower ceiling) e

  -- by whether the task, the words and the ceiling hold
  abbrev held : Bool → Bool → Bool → Result (Unit {0}) InputCause
  held t w c = cond t (cond w (cond c (Ok tt) (Err CeilingLimit)) (Err WordFault)) (Err TaskFault)

  pub admitted_by : (t w c : Bool) → t ≡ task_holds task upper lower → w ≡ (word_holds upper && word_holds lower) → c ≡ leb ceiling most_ceiling → as_refusal (held t w c) ≡ admission_of (asked cells task upper lower ceiling)
  admitted_by t w c T W C = go (task_of task) refl
    where
      last : (k : Task) (x y z : Bool) → as_refusal (held x y z) ≡ admission_of (cond x (cond y (cond z (runs (table_in cells) (query_of k)) (turned (Input CeilingLimit))) (turned (Input WordFault))) (turned (Input TaskFault)))
      last k true true true = refl
      last k true true false = refl
      last k true false z = refl
      last k false y z = refl

      go : (o : Option Task) → task_of task ≡ o → as_refusal (held t w c) ≡ admission_of (asked cells task upper lower ceiling)
      go none e = ap (λ (b : Bool). as_refusal (held b w c)) (T ∙ task_holds-none task upper lower e) ∙ sym (ap admission_of (by-task none e))
      go (some k) e =
          (λ i. as_refusal (held ((T ∙ task_holds-some task upper lower k e) i) (W i) (C i)))
          ∙ last k (sides_hold (query_of k)) (words_hold (query_of k)) (ceiling_holds (query_of k))
          ∙ sym (ap admission_of (by-task (some k) e))

-- What the caller learns.

passes-refused : (r : Refusal) → ◌≡◌ {A = Result (Unit {0}) Refusal} (Ok tt) (Err r) → ⊥
passes-refused r e = cc

pub asking_turned : (w : Asked) (r : Refusal) → Err r ≡ admission_of w → w ≡ turned r
asking_turned (turned s) r e = let z : s ≡ r = cc in ap turned z
asking_turned (runs t q) r e = cc

-- a search that may run: its table is the one that the cells hold
pub record Asks (cells : List ℕ) (task : ℕ) (upper lower : List ℕ) (ceiling : ℕ) : Type 0 where
  pub asks : Task
  pub task-is : task_of task ≡ some asks
  pub loads : loaded cells ≡ some (table_in cells)
  pub runs-is : asked cells task upper lower ceiling ≡ runs (table_in cells) (record { task = asks; upper_word = upper; lower_word = lower; ceiling = ceiling })

pub asking_passes : (task : ℕ) (upper lower : List ℕ) (ceiling : ℕ) (cells : List ℕ) → loaded cells ≡ some (table_in cells) → Ok tt ≡ admission_of (asked cells task upper lower ceiling) → Asks cells task upper lower ceiling
asking_passes task upper lower ceiling cells loads p = by_number (task_of task) refl
  where
    query : Task → Query
    query k = query_of task upper lower ceiling cells loads k

    by-words : (k : Task) → (a b d : Bool) → cond a (cond b (cond d (runs (table_in cells) (query k)) (turned (Input CeilingLimit))) (turned (Input WordFault))) (turned (Input TaskFault)) ≡ asked cells task upper lower ceiling
        → runs (table_in cells) (query k) ≡ asked cells task upper lower ceiling
    by-words k true true true w = w
    by-words k true true false w = absurd (passes-refused (Input CeilingLimit) (p ∙ ap admission_of (sym w)))
    by-words k true false d w = absurd (passes-refused (Input WordFault) (p ∙ ap admission_of (sym w)))
    by-words k false b d w = absurd (passes-refused (Input TaskFault) (p ∙ ap admission_of (sym w)))

    by_number : (o : Option Task) → task_of task ≡ o → Asks cells task upper lower ceiling
    by_number none w = absurd (passes-refused (Input TaskFault) (p ∙ ap admission_of (by-task task upper lower ceiling cells loads none w)))
    by_number (some k) w =
        record {
          asks = k;
          task-is = w;
          loads = loads;
          runs-is = sym (by-words k (sides_hold (query k)) (words_hold (query k)) (ceiling_holds (query k)) (sym (by-task task upper lower ceiling cells loads (some k) w)));
        }
