-- What a task reads, passes and writes with the sides exchanged.
use Prim.Native.Nat.{ℕ, ◌+◌}
use native.Mathlib.Omega.{arith}
use mathlib.Core.Path.{◌≡◌, refl, sym, ap₂, subst, ◌∙◌}
use mathlib.Core.Bool.{Bool, true, false, ◌&&◌, and_comm}
use mathlib.Core.Option.{Option, none, some, map}
use mathlib.Core.List.{List, ◌++◌, append-nil}
use lib.ListN.{get_or}
use Rattle.table_format.specs.Table.{Arc}
use Rattle.machine.specs.Query.{Task, recognition, synthesis, analysis, Side, upper_side, lower_side, reads, Query, word}
use Rattle.machine.specs.Transducer.{side_follow, side_writes, side_done, side_to_read, Passed, passed, both, follow_arc, writes_arc, done_on, letters_to_read}
use Rattle.machine.specs.Idle.{side_idle, idle}
use Rattle.machine.specs.Classes.{Fits}
use Rattle.inverse.specs.Inverse.{inverse_arc, inverse_task, inverse_query}

-- the other side
abbrev other : Side → Side
other upper_side = lower_side
other lower_side = upper_side

-- what was passed, with the sides exchanged
abbrev pub exchanged : Passed → Passed
exchanged d = record { up = d.low; low = d.up }

pub reads_other : (k : Task) (s : Side) → reads (inverse_task k) s ≡ reads k (other s)
reads_other recognition s = refl
reads_other synthesis upper_side = refl
reads_other synthesis lower_side = refl
reads_other analysis upper_side = refl
reads_other analysis lower_side = refl

pub task-twice : (k : Task) → inverse_task (inverse_task k) ≡ k
task-twice recognition = refl
task-twice synthesis = refl
task-twice analysis = refl

pub idle-same : (k : Task) (a : Arc) → idle (inverse_task k) (inverse_arc a) ≡ idle k a
idle-same k a =
    ap₂ (λ (b c : Bool). side_idle b a.lower && side_idle c a.upper) (reads_other k upper_side) (reads_other k lower_side)
    ∙ and_comm (side_idle (reads k lower_side) a.lower) (side_idle (reads k upper_side) a.upper)

module _ (q : Query) where
  pub query-twice : inverse_query (inverse_query q) ≡ q
  query-twice = λ i. record { task = task-twice q.task i; upper_word = q.upper_word; lower_word = q.lower_word; ceiling = q.ceiling }

  pub letters-same : letters_to_read (inverse_query q) ≡ letters_to_read q
  letters-same =
      ap₂ (λ (b c : Bool). side_to_read b q.lower_word + side_to_read c q.upper_word) (reads_other q.task upper_side) (reads_other q.task lower_side)
      ∙ omega arith

  pub done-same : (d : Passed) → (done_on (inverse_query q) upper_side (exchanged d) && done_on (inverse_query q) lower_side (exchanged d)) ≡ (done_on q upper_side d && done_on q lower_side d)
  done-same d =
      ap₂ (λ (b c : Bool). side_done b q.lower_word d.low && side_done c q.upper_word d.up) (reads_other q.task upper_side) (reads_other q.task lower_side)
      ∙ and_comm (done_on q lower_side d) (done_on q upper_side d)

  -- A plain arc.

  pub follow-same : (a : Arc) (d : Passed) → follow_arc (inverse_query q) (inverse_arc a) (exchanged d) ≡ map exchanged (follow_arc q a d)
  follow-same a d =
      ap₂ (λ (b c : Bool). both (side_follow b q.lower_word a.lower d.low) (side_follow c q.upper_word a.upper d.up)) (reads_other q.task upper_side) (reads_other q.task lower_side)
      ∙ go (side_follow (reads q.task upper_side) q.upper_word a.upper d.up) (side_follow (reads q.task lower_side) q.lower_word a.lower d.low)
    where
      go : (u l : Option ℕ) → both l u ≡ map exchanged (both u l)
      go none none = refl
      go none (some l) = refl
      go (some u) none = refl
      go (some u) (some l) = refl

  pub writes-same : (a : Arc) → writes_arc (inverse_query q) (inverse_arc a) ≡ writes_arc q a
  writes-same a = go q.task
    where
      go : (k : Task) → side_writes (reads (inverse_task k) upper_side) a.lower ++ side_writes (reads (inverse_task k) lower_side) a.upper ≡ side_writes (reads k upper_side) a.upper ++ side_writes (reads k lower_side) a.lower
      go recognition = refl
      go synthesis = append-nil (side_writes false a.lower)
      go analysis = sym (append-nil (side_writes false a.upper))

-- A class: a letter that is next stays the next.

pub fits-other : (row : List ℕ) (q : Query) (d : Passed) (x : ℕ) → Fits row q d x → Fits row (inverse_query q) (exchanged d) x
fits-other row q d x F = record { is_letter_lem = F.is_letter_lem; in_class_lem = F.in_class_lem; is_next_lem = next }
  where
    next : (s : Side) → reads (inverse_task q.task) s ≡ true → get_or (word s (inverse_query q)) (passed (exchanged d) s) 0 ≡ x
    next upper_side r = F.is_next_lem lower_side (sym (reads_other q.task upper_side) ∙ r)
    next lower_side r = F.is_next_lem upper_side (sym (reads_other q.task lower_side) ∙ r)

pub fits-back : (row : List ℕ) (q : Query) (d : Passed) (x : ℕ) → Fits row (inverse_query q) (exchanged d) x → Fits row q d x
fits-back row q d x F = subst (λ (r : Query). Fits row r d x) (query-twice q) (fits-other row (inverse_query q) (exchanged d) x F)
