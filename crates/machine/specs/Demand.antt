-- Document 01, "Tour and demand 3": "a single claim about a start and the list of calls after it, of any length".
use Rattle.std.specs.Prelude.{ℕ, suc, ◌+◌, ◌*◌, ◌≤◌, ◌<◌, ◌≡◌, ◌↔◌, ◌⊎◌, true, cond, List, [], ◌∷◌, ◌++◌, length, take, eqb, leb}
use Rattle.table_format.specs.Table.{Table}
use Rattle.table_format.specs.Loaded.{loaded}
use Rattle.machine.specs.declared.Run.{Run}
use Rattle.machine.specs.Query.{Query}
use Rattle.machine.specs.Tour.{tour, readings, tree_size}
use Rattle.machine.specs.Machine.{Path, accepts, output, Allowed}
use Rattle.machine.specs.Transducer.{letters_to_read, machine}
use Rattle.machine.specs.Stack.{frame_width, frames_in}
use Rattle.refusal.specs.Told.{ended_kind, refused_kind}
use Rattle.machine.specs.Answer.{output_told}
use Rattle.machine.specs.Reading.{Outcome, told_by, outcome, CallBy}

-- what a caller lends to one call: the cells of the table, any stack, any allowance and any output buffer
pub record Lent : Type 0 where
  pub table : List ℕ
  pub stack : List ℕ
  pub allowance : ℕ
  pub buffer : List ℕ

-- "The used frames are the first depth cells of a stack": the cells of the first d frames
abbrev pub used_of : ℕ → List ℕ → List ℕ
used_of d stack = take (d * frame_width) stack

module _ (t : Table) (q : Query) where
  -- one call's outcome o, where n steps were told before
  pub record CallTells (n : ℕ) (r : Run) (x : Lent) (o : Outcome) : Type 0 where
    -- it is the call of the step rule: Found, Paused, Ended, 21, 22 and 23 exactly where that says, with the run, the stack and the buffer as it
    -- leaves them
    pub by-steps : CallBy t q r x.stack x.allowance x.buffer o
    -- Ended exactly when the steps told add up to the tree's size
    pub ended_is : ((told_by o).kind ≡ ended_kind) ↔ (n + (told_by o).steps ≡ tree_size (machine t q))
    -- "A shorter stack gives 21 whatever it holds", and nothing else does; no refusal but 21, 22 and 23
    pub short-is : ((told_by o).number ≡ 21) ↔ (frames_in x.stack < r.depth)
    pub refusals : (told_by o).kind ≡ refused_kind → ((told_by o).number ≡ 21) ⊎ (((told_by o).number ≡ 22) ⊎ ((told_by o).number ≡ 23))
    -- "Never too short": (letters to read + 1) × states frames
    pub never-short : (letters_to_read q + 1) * t.states ≤ frames_in x.stack → ((told_by o).number ≡ 21 → ⊥) × ((told_by o).number ≡ 22 → ⊥)
    -- and 23 only where some reading is longer than the buffer
    pub never-full : ((p : Path) → Allowed (machine t q) p → accepts (machine t q) p ≡ true → length (output (machine t q) p) ≤ length x.buffer) → (told_by o).number ≡ 23 → ⊥

  -- a call with room enough: as many frames as are never too short, a step allowed, and a buffer that no reading is longer than
  pub record Ample (x : Lent) : Type 0 where
    pub frames : (letters_to_read q + 1) * t.states ≤ frames_in x.stack
    pub steps : 0 < x.allowance
    pub letters : (p : Path) → Allowed (machine t q) p → accepts (machine t q) p ≡ true → length (output (machine t q) p) ≤ length x.buffer

  -- n of the calls have, whatever stands between them: calls with shorter stacks or buffers, that are refused, or are allowed no step
  pub data AmpleCalls : ℕ → List Lent → Type 0 where
    none : AmpleCalls 0 []
    ample : {n : ℕ} {x : Lent} {xs : List Lent} → Ample x → AmpleCalls n xs → AmpleCalls (suc n) (x ∷ xs)
    other : {n : ℕ} {x : Lent} {xs : List Lent} → AmpleCalls n xs → AmpleCalls n (x ∷ xs)

-- by the kind of an answer: 0 for Ended, 1 for any other
abbrev pub one_unless_ended : ℕ → ℕ
one_unless_ended kind = cond (eqb kind ended_kind) 0 1

-- "Every call gets the start's .. words."
module _ (upper lower : List ℕ) where
  -- one call
  abbrev pub call_on : Run → Lent → Outcome
  call_on r x = outcome x.table upper lower r x.stack x.allowance x.buffer

  -- the steps that it tells
  abbrev pub steps_on : Run → Lent → ℕ
  steps_on r x = (told_by (call_on r x)).steps

  -- the run as it leaves it
  abbrev pub run_after : Run → Lent → Run
  run_after r x = (call_on r x).called.run

  -- the used frames as the last call left them whose stack had them all
  abbrev pub used_after : Run → List ℕ → Lent → List ℕ
  used_after r used x = cond (leb r.depth (frames_in x.stack)) (used_of (run_after r x).depth (call_on r x).stack) used

  -- "Every call gets the start's table", here the one that cells hold; what stands behind it may be anything. "The first gets the run as the
  -- start left it, every other as the call before left it, refused or not"; "a call whose stack has that many gets them as the last such call
  -- left them".
  abbrev pub Handed : List ℕ → Run → List ℕ → List Lent → Type 0
  Handed cells r used [] = Unit {0}
  Handed cells r used (x ∷ xs) =
      (loaded x.table ≡ loaded cells)
      × (r.depth ≤ frames_in x.stack → used_of r.depth x.stack ≡ used)
      × Handed cells (run_after r x) (used_after r used x) xs

  -- "The readings received are the outputs of the calls that answered Found, each as its call left it, in the order of the calls."
  abbrev pub received : Run → List Lent → List (List ℕ)
  received r [] = []
  received r (x ∷ xs) = output_told (told_by (call_on r x)) (call_on r x).output ++ received (run_after r x) xs

  -- "The steps told are the numbers in the answers, refusals among them."
  abbrev pub steps_told : Run → List Lent → ℕ
  steps_told r [] = 0
  steps_told r (x ∷ xs) = steps_on r x + steps_told (run_after r x) xs

  -- how many calls do not answer Ended
  abbrev pub unended : Run → List Lent → ℕ
  unended r [] = 0
  unended r (x ∷ xs) = one_unless_ended (told_by (call_on r x)).kind + unended (run_after r x) xs

  -- the last call answers Ended
  abbrev pub LastEnds : Run → List Lent → Type 0
  LastEnds r [] = ⊥
  LastEnds r (x ∷ []) = (told_by (call_on r x)).kind ≡ ended_kind
  LastEnds r (x ∷ y ∷ ys) = LastEnds (run_after r x) (y ∷ ys)

  module _ (t : Table) (q : Query) where
    -- every call, where n steps were told before
    abbrev pub Tells : ℕ → Run → List Lent → Type 0
    Tells n r [] = Unit {0}
    Tells n r (x ∷ xs) = CallTells t q n r x (call_on r x) × Tells (n + steps_on r x) (run_after r x) xs

    -- the readings received are those of the accepting paths among the first entries of the tour, as many as the steps told
    pub record Demand3 (r : Run) (xs : List Lent) : Type 0 where
      pub same-readings : received r xs ≡ readings (machine t q) (take (steps_told r xs) (tour (machine t q)))
      pub inside-tree : steps_told r xs ≤ tree_size (machine t q)
      pub tells : Tells 0 r xs
