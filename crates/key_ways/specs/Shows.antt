-- What stands behind a key and what it shows: the calls whose readings it has, and, over the letter tree of a word list, the ways to cut the word.
use Rattle.std.specs.Prelude.{ℕ, ◌+◌, ◌*◌, ◌≤◌, ◌≡◌, ◌⊎◌, Bool, true, false, List, [], ◌∷◌, ◌++◌, map, length}
use Rattle.refusal.specs.declared.Refusal.{Refusal}
use Rattle.faces.specs.Lent.{most_readings}
use Rattle.machine.specs.declared.Run.{Run}
use Rattle.machine.specs.declared.Answer.TheVariants.{Refused}
use Rattle.machine.specs.Query.{Query, most_ceiling, synthesis_of}
use Rattle.machine.specs.Machine.{Machine}
use Rattle.machine.specs.Tour.{tree_size}
use Rattle.machine.specs.Demand.{Lent, call_on, run_after, Handed, received, steps_told, unended, LastEnds}
use Rattle.session_calls.specs.Calls.{call_steps, most_calls}
use Rattle.lexicon.specs.Words.{Word}
use Rattle.table_format.specs.Loaded.{cells_of}
use Rattle.trie_format.specs.Trie.{trie_table}
use Rattle.segmentation.specs.Ways.{ways_to_cut, joined}
use Rattle.segmentation.specs.Readings.{tree_machine}
use Rattle.key_sheet.specs.Key.{Key, key, refused, first_stack, first_output}

-- THE CALLS BEHIND A KEY, over any loaded table's cells.

-- what a call is lent: the cells, 1,000 steps, a stack and an output buffer
abbrev pub lent_with : (cells stack output : List ℕ) → Lent
lent_with cells stack output = record { table = cells; stack = stack; allowance = call_steps; buffer = output }

module _ (w : List ℕ) where
  -- the last call is refused with r
  abbrev pub LastRefused : Run → List Lent → Refusal → Type 0
  LastRefused run [] r = ⊥
  LastRefused run (x ∷ []) r = (steps : ℕ) × ((call_on w [] run x).called.answer ≡ Refused steps r)
  LastRefused run (x ∷ y ∷ ys) r = LastRefused (run_after w [] run x) (y ∷ ys) r

  -- the readings that calls bring, where at most n readings and c calls are asked for
  pub record CallsShow (n c : ℕ) (run : Run) (calls : List Lent) (rs : List (List ℕ)) (ended : Bool) : Type 0 where
    -- the readings are those that the calls found, each as its call left it, in order
    pub same : received w [] run calls ≡ rs
    pub few-readings : length rs ≤ n
    -- the end: the last call answers Ended
    pub end_is : ended ≡ true → LastEnds w [] run calls
    -- else as many readings, or as many calls, as are asked for, and no call answers Ended
    pub more-is : ended ≡ false → (length rs ≡ n) ⊎ (length calls ≡ c)
    pub none-ended : ended ≡ false → unended w [] run calls ≡ length calls
    -- and each call but those that found a reading makes all its steps
    pub steps-made : ended ≡ false → call_steps * length calls ≤ steps_told w [] run calls + call_steps * length rs

  -- calls come to a key: they bring its readings, or the last is refused as it says
  abbrev pub CallsTell : ℕ → ℕ → Run → List Lent → Key → Type 0
  CallsTell n c run calls (key rs ended) = CallsShow n c run calls rs ended
  CallsTell n c run calls (refused r) = LastRefused run calls r

module _ (cells w : List ℕ) where
  -- one call after another: each is lent the stack and the output buffer as the one before left them
  abbrev pub Lending : Run → List ℕ → List ℕ → List Lent → Type 0
  Lending run stack output [] = Unit {0}
  Lending run stack output (x ∷ xs) = (x ≡ lent_with cells stack output) × Lending (run_after w [] run x) (call_on w [] run x).stack (call_on w [] run x).output xs

  -- calls that come to a key, from a run with its used frames, a stack and an output buffer on
  pub record CallsBehind (n c : ℕ) (run : Run) (used stack output : List ℕ) (k : Key) : Type 0 where
    pub calls : List Lent
    pub lending : Lending run stack output calls
    -- so they are handed on as demand 3 says
    pub handed : Handed w [] cells run used calls
    pub few : length calls ≤ c
    pub tell : CallsTell w n c run calls k

  -- At most 1,000 readings and 65,536 calls of 1,000 steps: the calls after a start that left run
  abbrev pub KeyCalls : Run → Key → Type 0
  KeyCalls run k = CallsBehind most_readings most_calls run [] first_stack first_output k

-- THE WAYS that a key shows.

-- the steps at least of 65,536 calls that find fewer than 1,000 readings: (65,536 − 999) × 1,000
abbrev pub spent_steps : ℕ
spent_steps = 64537000

-- cells that begin with those of a list's table
abbrev pub tree_cells : List Word → List ℕ → List ℕ
tree_cells ws rest = cells_of (trie_table ws) ++ rest

-- what a key's run asks of the list's table, and the machine of its search
abbrev pub key_query : Word → Query
key_query w = synthesis_of w most_ceiling

abbrev pub key_machine : List Word → Word → Machine
key_machine ws w = tree_machine ws w most_ceiling

-- what a key shows of a word over the letter tree of the list ws: readings, and no refusal
pub record KeyShows (ws : List Word) (w : Word) (k : Key) : Type 0 where
  pub readings : List (List ℕ)
  pub ended : Bool
  pub is : k ≡ key readings ended
  pub few : length readings ≤ most_readings
  -- the first of the ways to cut it, in order,
  pub more : List (List ℕ)
  pub first-ways : readings ++ more ≡ map joined (ways_to_cut ws w)
  -- and all of them where it ended
  pub all_ways : ended ≡ true → readings ≡ map joined (ways_to_cut ws w)
  -- else there are 1,000 readings, or the search tree's size is at least 64,537,000
  pub limit : ended ≡ false → (length readings ≡ most_readings) ⊎ (spent_steps ≤ tree_size (key_machine ws w))
