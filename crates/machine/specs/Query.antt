-- Document 01, "Table and paths", and document 02, slip 10: the three tasks, the two sides, and what is asked of a table.
use Rattle.std.specs.Prelude.{ℕ, Bool, true, false, cond, ◌&&◌, ◌||◌, List, [], ◌∷◌, eqb, leb, length}
use Rattle.std.proofs.Math.Option.{Option, none, some}
use Rattle.table_format.specs.Table.{Arc}
use Rattle.table_format.specs.Rules.{is_empty}

-- "Recognition .. Synthesis .. Analysis"
pub data Task : Type 0 where
  recognition synthesis analysis : Task

-- the task of a number, if it is one: "Recognition (task 1)", "Synthesis (task 2)", "Analysis (task 3)"
abbrev pub task_of : ℕ → Option Task
task_of n = cond (eqb n 1) (some recognition) (cond (eqb n 2) (some synthesis) (cond (eqb n 3) (some analysis) none))

-- the upper and the lower side
pub data Side : Type 0 where
  upper_side lower_side : Side

-- the sides that a task reads: "Recognition (..) has an upper and a lower word"; "Synthesis (..) has an upper word"; "Analysis (..) is the
-- same with upper and lower exchanged". A side that is not read is written.
abbrev pub reads : Task → Side → Bool
reads recognition s = true
reads synthesis upper_side = true
reads synthesis lower_side = false
reads analysis upper_side = false
reads analysis lower_side = true

-- the letter of an arc on a side
abbrev pub letter : Side → Arc → ℕ
letter upper_side a = a.upper
letter lower_side a = a.lower

-- a task with its words, and the ceiling for penalties; where 11 is not given, the word of a side that is not read is empty
pub record Query : Type 0 where
  pub task : Task
  pub upper_word : List ℕ
  pub lower_word : List ℕ
  pub ceiling : ℕ

-- the word of a side
abbrev pub word : Side → Query → List ℕ
word upper_side q = q.upper_word
word lower_side q = q.lower_word

-- whether two words are the same
abbrev pub same_word : List ℕ → List ℕ → Bool
same_word [] [] = true
same_word [] (y ∷ ys) = false
same_word (x ∷ xs) [] = false
same_word (x ∷ xs) (y ∷ ys) = eqb x y && same_word xs ys

-- 10: "A word has more than 64 letters, or a letter 0 or over 63"; what holds where it does not
abbrev pub letters_within : List ℕ → Bool
letters_within [] = true
letters_within (x ∷ xs) = (leb 1 x && leb x 63) && letters_within xs

-- 10, of one word
abbrev pub word_holds : List ℕ → Bool
word_holds w = leb (length w) 64 && letters_within w

-- 10, of both words
abbrev pub words_hold : Query → Bool
words_hold q = word_holds q.upper_word && word_holds q.lower_word

-- 11: "a word of one or more letters on a side that the task does not read"; what holds where there is none
abbrev pub side_holds : Side → Query → Bool
side_holds s q = reads q.task s || is_empty (word s q)

-- 11, of both sides
abbrev pub sides_hold : Query → Bool
sides_hold q = side_holds upper_side q && side_holds lower_side q

-- 39: "A ceiling over 100,000 is refused"; what holds where it is not
abbrev pub most_ceiling : ℕ
most_ceiling = 100000

abbrev pub ceiling_holds : Query → Bool
ceiling_holds q = leb q.ceiling most_ceiling

-- the same question under another ceiling
abbrev pub with_ceiling : Query → ℕ → Query
with_ceiling q c = record { task = q.task; upper_word = q.upper_word; lower_word = q.lower_word; ceiling = c }

-- what each task is asked: recognition of two words, synthesis of an upper one, analysis of a lower one
abbrev pub recognition_of : List ℕ → List ℕ → ℕ → Query
recognition_of upper lower ceiling = record { task = recognition; upper_word = upper; lower_word = lower; ceiling = ceiling }

abbrev pub synthesis_of : List ℕ → ℕ → Query
synthesis_of w ceiling = record { task = synthesis; upper_word = w; lower_word = []; ceiling = ceiling }

abbrev pub analysis_of : List ℕ → ℕ → Query
analysis_of w ceiling = record { task = analysis; upper_word = []; lower_word = w; ceiling = ceiling }
