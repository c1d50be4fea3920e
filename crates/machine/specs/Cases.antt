-- Document 01, "Cases on table K", the starred ones, and cases of document 02, as rows of one table. A row is right where the definitions of
-- the start, of the call for a reading and of the search tree, run on a loaded table's cells, give what it says.
use Rattle.std.specs.Prelude.{ℕ, ◌+◌, ◌*◌, ◌≤◌, ◌<◌, Bool, true, false, ◌&&◌, List, [], ◌∷◌, ◌++◌, replicate, take, eqb}
use Prim.Native.Char.{code}
use Prim.Native.String.{String, [] as []ᶜ, ◌∷◌ as ◌∷ᶜ◌}
use Rattle.table_format.specs.Table.{Arc, Table}
use Rattle.table_format.specs.Classes.{row_with, no_classes}
use Rattle.table_format.specs.Loaded.{cells_of}
use Rattle.table_format.specs.Cells.{arc_with, arc_as}
use Rattle.machine.specs.declared.Run.{Run}
use Rattle.machine.specs.declared.Started.{Started}
use Rattle.machine.specs.Query.{same_word, most_ceiling}
use Rattle.machine.specs.Tour.{tree_size}
use Rattle.machine.specs.Transducer.{machine}
use Rattle.machine.specs.Stack.{frame_width}
use Rattle.refusal.specs.Told.{done_kind, found_kind, paused_kind, ended_kind, refused_kind}
use Rattle.machine.specs.Asked.{Asked, turned, runs, asked}
use Rattle.machine.specs.Start.{started, start_told_by}
use Rattle.machine.specs.Reading.{Outcome, told_by}
use Rattle.machine.specs.Demand.{Lent, call_on, run_after, used_after}

-- What a row says.

-- a call's allowance, and the lengths of its stack and of its buffer
pub record Ask : Type 0 where
  pub allowance : ℕ
  pub frames : ℕ
  pub letters : ℕ

-- what is told: Found with its steps and its output, Paused and Ended with their steps, Refused with its steps and number
pub data Says : Type 0 where
  says_found : ℕ → List ℕ → Says
  says_paused : ℕ → Says
  says_ended : ℕ → Says
  says_refused : ℕ → ℕ → Says

-- a start that is refused with a number and the states of a cycle; or one that is not, calls after it with what they tell, and the tree's size;
-- or one call, with what it tells, on a run of any starts and depth, with any used frames
pub data Course : Type 0 where
  refused_with : ℕ → List ℕ → Course
  goes : List Ask → List Says → ℕ → Course
  called : ℕ → ℕ → List ℕ → Ask → Says → Course

-- a table, what is asked of it, and what is to be told
pub record Row : Type 0 where
  pub table : Table
  pub task : ℕ
  pub upper : List ℕ
  pub lower : List ℕ
  pub ceiling : ℕ
  pub course : Course

-- What the definitions give.

-- what a start tells in this paper's numbers, with the states of the cycle, as a word
abbrev pub start_spelled : Started → List ℕ
start_spelled s = (start_told_by s).kind ∷ (start_told_by s).number ∷ take (start_told_by s).length s.cycle

-- what a call tells in this paper's numbers, with the output as it left it, as a word
abbrev pub spelled_by : Outcome → List ℕ
spelled_by o = (told_by o).kind ∷ (told_by o).number ∷ (told_by o).steps ∷ take (told_by o).length o.output

-- a stack that holds the used frames, as far as they go in, and 7 in its other cells; a buffer of 9s
abbrev pub lent_for : List ℕ → Ask → List ℕ → Lent
lent_for cells a used = record { table = cells; stack = take (a.frames * frame_width) (used ++ replicate (a.frames * frame_width) 7); allowance = a.allowance; buffer = replicate a.letters 9 }

-- what is lent to calls, one after another, each with the used frames as demand 3 hands them on (`handed-there`)
abbrev pub lent_all : List ℕ → List ℕ → List ℕ → Run → List ℕ → List Ask → List Lent
lent_all cells upper lower r used [] = []
lent_all cells upper lower r used (a ∷ asks) =
    let x = lent_for cells a used in x ∷ lent_all cells upper lower (run_after upper lower r x) (used_after upper lower r used x) asks

-- every ask has w frames and w - 1 letters or more, and a step allowed
abbrev pub AsksAmple : ℕ → List Ask → Type 0
AsksAmple w [] = Unit {0}
AsksAmple w (a ∷ asks) = ((w ≤ a.frames) × (0 < a.allowance) × (w ≤ a.letters + 1)) × AsksAmple w asks

-- what calls tell, one after another, each with the run and the used frames as demand 3 hands them on
abbrev pub calls_give : List ℕ → List ℕ → List ℕ → Run → List ℕ → List Ask → List (List ℕ)
calls_give cells upper lower r used [] = []
calls_give cells upper lower r used (a ∷ asks) =
    let x = lent_for cells a used in
    spelled_by (call_on upper lower r x) ∷ calls_give cells upper lower (run_after upper lower r x) (used_after upper lower r used x) asks

-- the size of the search tree
abbrev pub tree_of : Asked → ℕ
tree_of (turned r) = 0
tree_of (runs t q) = tree_size (machine t q)

-- Whether they agree.

-- what a row says, as the same word
abbrev pub spelled : Says → List ℕ
spelled (says_found n o) = found_kind ∷ 0 ∷ n ∷ o
spelled (says_paused n) = paused_kind ∷ 0 ∷ n ∷ []
spelled (says_ended n) = ended_kind ∷ 0 ∷ n ∷ []
spelled (says_refused n m) = refused_kind ∷ m ∷ n ∷ []

-- whether the same is told, call by call
abbrev pub same_says : List (List ℕ) → List Says → Bool
same_says [] [] = true
same_says [] (y ∷ ys) = false
same_says (x ∷ xs) [] = false
same_says (x ∷ xs) (y ∷ ys) = same_word x (spelled y) && same_says xs ys

module _ (r : Row) where
  -- its table, loaded
  abbrev pub cells_for : List ℕ
  cells_for = cells_of r.table

  -- what a start gives
  abbrev pub start_of : Started
  start_of = started cells_for r.task r.upper r.lower r.ceiling

  -- what calls give, on a run with its used frames
  abbrev pub calls_from : Run → List ℕ → List Ask → List (List ℕ)
  calls_from run used asks = calls_give cells_for r.upper r.lower run used asks

  -- whether all goes as the row says
  abbrev pub course_holds : Course → Bool
  course_holds (refused_with n states) = same_word (start_spelled start_of) (refused_kind ∷ n ∷ states)
  course_holds (goes asks says tree) =
      eqb (start_told_by start_of).kind done_kind
      && (same_says (calls_from start_of.run [] asks) says && eqb (tree_of (asked cells_for r.task r.upper r.lower r.ceiling)) tree)
  course_holds (called starts depth used ask says) =
      same_says (calls_from (record { task = r.task; started = starts; depth = depth; ceiling = r.ceiling }) used (ask ∷ [])) (says ∷ [])

-- a row is right
abbrev pub row_holds : Row → Bool
row_holds r = course_holds r r.course

-- all rows are right
abbrev pub rows_hold : List Row → Bool
rows_hold [] = true
rows_hold (r ∷ rs) = row_holds r && rows_hold rs

-- The rows.

-- table K with further arcs of state 0 in front
abbrev pub table_k : List Arc → Table
table_k more =
    record {
      states = 3;
      classes = no_classes;
      initials = 0 ∷ [];
      terminals = 1 ∷ 2 ∷ [];
      arcs = more ++ (arc_as 0 1 1 1 ∷ arc_as 0 2 2 2 ∷ arc_as 1 2 2 2 ∷ arc_as 1 0 3 0 ∷ arc_as 2 0 3 0 ∷ []);
    }

-- the characters of a text, by their numbers in ASCII
abbrev chars_in : String → List ℕ
chars_in []ᶜ = []
chars_in (c ∷ᶜ s) = code c ∷ chars_in s

-- "Table K", as document 01 prints it (`text_k_lem`)
abbrev pub text_k : List ℕ
text_k =
    chars_in "010003000100020005\n020000\n030001\n030002\n04000001010001\n04000002020002\n04000102020002\n04000100030000\n04000200030000\n050009\n"

-- a row on table K
abbrev row : ℕ → List ℕ → List ℕ → Course → Row
row k u l c = record { table = table_k []; task = k; upper = u; lower = l; ceiling = most_ceiling; course = c }

-- the same with an arc that stands there twice, so that the loaded table breaks a rule
abbrev twice : ℕ → List ℕ → Course → Row
twice k u c = record { table = table_k (arc_as 0 1 1 1 ∷ []); task = k; upper = u; lower = []; ceiling = most_ceiling; course = c }

-- empty words, and state 0 with one arc more, to itself
abbrev loop : ℕ → ℕ → ℕ → Course → Row
loop u l k c = record { table = table_k (arc_as 0 u l 0 ∷ []); task = k; upper = []; lower = []; ceiling = most_ceiling; course = c }

-- empty words, and a table of one state with one arc, to itself
abbrev lone : ℕ → ℕ → ℕ → Course → Row
lone u l k c =
    record {
      table = record { states = 1; classes = no_classes; initials = 0 ∷ []; terminals = []; arcs = arc_as 0 u l 0 ∷ [] };
      task = k;
      upper = [];
      lower = [];
      ceiling = most_ceiling;
      course = c;
    }

-- table K with two loops of idle arcs, over states 3 and 4 and at state 5, and before their arcs further ones of state 2
abbrev corner_k : List Arc → Table
corner_k more =
    record {
      states = 6;
      classes = no_classes;
      initials = 0 ∷ [];
      terminals = 1 ∷ 2 ∷ [];
      arcs = (table_k []).arcs ++ (more ++ (arc_as 3 0 0 4 ∷ arc_as 4 0 0 3 ∷ arc_as 5 0 0 5 ∷ []));
    }

-- an arc from there into the second loop, with letters that the words do not have
abbrev connected : List Arc
connected = arc_as 2 7 8 5 ∷ []

-- a row on that table
abbrev corner : List Arc → ℕ → List ℕ → List ℕ → Course → Row
corner more k u l c = record { table = corner_k more; task = k; upper = u; lower = l; ceiling = most_ceiling; course = c }

-- so many states, of which one is initial, and arcs with a loop that synthesis refuses, with the states told
abbrev loops : ℕ → ℕ → List Arc → List ℕ → Row
loops n s arcs states =
    record {
      table = record { states = n; classes = no_classes; initials = s ∷ []; terminals = []; arcs = arcs };
      task = 2;
      upper = [];
      lower = [];
      ceiling = most_ceiling;
      course = refused_with 12 states;
    }

-- two initial states, 1 before 0, each with one arc to state 2 that reads 1; synthesis of 01
abbrev pair : ℕ → ℕ → Course → Row
pair x y c =
    record {
      table = record { states = 3; classes = no_classes; initials = 1 ∷ 0 ∷ []; terminals = 2 ∷ []; arcs = arc_as 0 1 x 2 ∷ arc_as 1 1 y 2 ∷ [] };
      task = 2;
      upper = 1 ∷ [];
      lower = [];
      ceiling = most_ceiling;
      course = c;
    }

-- two states: an idle arc from 0 to 1, and one back that reads 1; synthesis of 01 has a path of three arcs, and all (1 + 1) × 2 frames are used
abbrev round : Course → Row
round c =
    record {
      table = record { states = 2; classes = no_classes; initials = 0 ∷ []; terminals = 1 ∷ []; arcs = arc_as 0 0 5 1 ∷ arc_as 1 1 6 0 ∷ [] };
      task = 2;
      upper = 1 ∷ [];
      lower = [];
      ceiling = most_ceiling;
      course = c;
    }

-- class 0 is letters 1, 5 and 9, class 1 is 2 and 5. State 0 reads 7 and writes 8, or goes to state 1, which is terminal, by a letter of either
-- class; further arcs of state 1
abbrev classed : List Arc → ℕ → List ℕ → List ℕ → Course → Row
classed more k u l c =
    record {
      table =
          record {
            states = 2;
            classes = row_with (1 ∷ 5 ∷ 9 ∷ []) ∷ row_with (2 ∷ 5 ∷ []) ∷ replicate 6 (row_with []);
            initials = 0 ∷ [];
            terminals = 1 ∷ [];
            arcs = arc_as 0 7 8 0 ∷ arc_as 0 64 64 1 ∷ arc_as 0 65 65 1 ∷ more;
          };
      task = k;
      upper = u;
      lower = l;
      ceiling = most_ceiling;
      course = c;
    }

-- a call by its allowance, frames and letters
abbrev pub ask : ℕ → ℕ → ℕ → Ask
ask n f l = record { allowance = n; frames = f; letters = l }

-- a call with room enough
abbrev pub big : Ask
big = ask 4294967295 64 64

-- from state 0 to 1 two arcs that read 1, of penalty 2 and 3, then one to 2 that reads 2, of penalty 4; before them further arcs of state 0, and a
-- ceiling
abbrev weighted : List Arc → ℕ → ℕ → List ℕ → Course → Row
weighted more ceiling k u c =
    record {
      table =
          record {
            states = 3;
            classes = no_classes;
            initials = 0 ∷ [];
            terminals = 2 ∷ [];
            arcs = more ++ (arc_with 0 1 5 1 2 ∷ arc_with 0 1 6 1 3 ∷ arc_with 1 2 7 2 4 ∷ []);
          };
      task = k;
      upper = u;
      lower = [];
      ceiling = ceiling;
      course = c;
    }

-- one call in synthesis of 01 02 on that table, where the first arc was followed and the frame of state 1 has some sum
abbrev resumed : ℕ → ℕ → Says → Row
resumed ceiling sum says = weighted [] ceiling 2 (1 ∷ 2 ∷ []) (called 1 2 (0 ∷ 1 ∷ 0 ∷ 0 ∷ 0 ∷ 1 ∷ 2 ∷ 1 ∷ 1 ∷ sum ∷ []) big says)

-- one state, initial and terminal, without arcs; synthesis of the empty word
abbrev bare : Course → Row
bare c = record { table = record { states = 1; classes = no_classes; initials = 0 ∷ []; terminals = 0 ∷ []; arcs = [] }; task = 2; upper = []; lower = []; ceiling = most_ceiling; course = c }

-- the starred cases, and a few more
unfoldable pub rows : List Row
rows =
    -- "Synthesis of 01 02: Found 01 02 after 3 steps, Found 01 03 02 after 8 more, Ended after 9 more; tree size 20." "After the end: Ended, 0."
    row 2 (1 ∷ 2 ∷ []) [] (goes (big ∷ big ∷ big ∷ big ∷ ask 0 64 64 ∷ []) (says_found 3 (1 ∷ 2 ∷ []) ∷ says_found 8 (1 ∷ 3 ∷ 2 ∷ []) ∷ says_ended 9 ∷ says_ended 0 ∷ says_ended 0 ∷ []) 20)
    -- "Empty word, synthesis: Ended after 4."
    ∷ row 2 [] [] (goes (big ∷ []) (says_ended 4 ∷ []) 4)
    -- "Analysis of 01 03 02: Found 01 02 after 6, Ended after 6."
    ∷ row 3 [] (1 ∷ 3 ∷ 2 ∷ []) (goes (big ∷ big ∷ []) (says_found 6 (1 ∷ 2 ∷ []) ∷ says_ended 6 ∷ []) 12)
    -- "Recognition of 01 02 with 01 03 02: Found after 6."
    ∷ row 1 (1 ∷ 2 ∷ []) (1 ∷ 3 ∷ 2 ∷ []) (goes (big ∷ big ∷ []) (says_found 6 [] ∷ says_ended 6 ∷ []) 12)
    -- "Synthesis of 01 02, 3 frames: first reading, then 22 after 0 steps; with 9 frames the same run goes on to the second reading after 8."
    ∷ row 2 (1 ∷ 2 ∷ []) [] (goes (ask 1000 3 64 ∷ ask 1000 3 64 ∷ ask 1000 9 64 ∷ []) (says_found 3 (1 ∷ 2 ∷ []) ∷ says_refused 0 22 ∷ says_found 8 (1 ∷ 3 ∷ 2 ∷ []) ∷ []) 20)
    -- the same with a stack too short for the used frames between
    ∷ row 2 (1 ∷ 2 ∷ []) [] (goes (ask 1000 3 64 ∷ ask 1000 2 64 ∷ ask 1000 9 64 ∷ []) (says_found 3 (1 ∷ 2 ∷ []) ∷ says_refused 0 21 ∷ says_found 8 (1 ∷ 3 ∷ 2 ∷ []) ∷ []) 20)
    -- "Output of 2 letters: second call gives 23 after 7 steps."
    ∷ row 2 (1 ∷ 2 ∷ []) [] (goes (ask 1000 9 2 ∷ ask 1000 9 2 ∷ []) (says_found 3 (1 ∷ 2 ∷ []) ∷ says_refused 7 23 ∷ []) 20)
    -- "Allowance 0 at a start: Paused, 0."
    ∷ row 2 (1 ∷ 2 ∷ []) [] (goes (ask 0 9 2 ∷ []) (says_paused 0 ∷ []) 20)
    -- "State 0 with the arc 0, 0, 0, 0: 12 in all tasks."
    ∷ loop 0 0 1 (refused_with 12 (0 ∷ []))
    ∷ loop 0 0 2 (refused_with 12 (0 ∷ []))
    ∷ loop 0 0 3 (refused_with 12 (0 ∷ []))
    ∷ lone 0 0 1 (refused_with 12 (0 ∷ []))
    ∷ lone 0 0 2 (refused_with 12 (0 ∷ []))
    ∷ lone 0 0 3 (refused_with 12 (0 ∷ []))
    -- "With 0, 1, 0, 0: 12 in analysis only."
    ∷ loop 1 0 1 (goes (big ∷ []) (says_ended 5 ∷ []) 5)
    ∷ loop 1 0 2 (goes (big ∷ []) (says_ended 5 ∷ []) 5)
    ∷ loop 1 0 3 (refused_with 12 (0 ∷ []))
    ∷ lone 1 0 1 (goes (big ∷ []) (says_ended 3 ∷ []) 3)
    ∷ lone 1 0 2 (goes (big ∷ []) (says_ended 3 ∷ []) 3)
    ∷ lone 1 0 3 (refused_with 12 (0 ∷ []))
    -- Document 02, slip 2: loops that no arcs reach change nothing; one that arcs reach is refused, whatever their letters and the words, and it
    -- is the one that is told
    ∷ corner [] 1 (1 ∷ 2 ∷ []) (1 ∷ 3 ∷ 2 ∷ []) (goes (big ∷ big ∷ []) (says_found 6 [] ∷ says_ended 6 ∷ []) 12)
    ∷ corner [] 2 (1 ∷ 2 ∷ []) [] (goes (big ∷ big ∷ big ∷ []) (says_found 3 (1 ∷ 2 ∷ []) ∷ says_found 8 (1 ∷ 3 ∷ 2 ∷ []) ∷ says_ended 9 ∷ []) 20)
    ∷ corner [] 3 [] (1 ∷ 3 ∷ 2 ∷ []) (goes (big ∷ big ∷ []) (says_found 6 (1 ∷ 2 ∷ []) ∷ says_ended 6 ∷ []) 12)
    ∷ corner connected 1 (1 ∷ 2 ∷ []) (1 ∷ 3 ∷ 2 ∷ []) (refused_with 12 (5 ∷ []))
    ∷ corner connected 2 (1 ∷ 2 ∷ []) [] (refused_with 12 (5 ∷ []))
    ∷ corner connected 3 [] (1 ∷ 3 ∷ 2 ∷ []) (refused_with 12 (5 ∷ []))
    -- Slip 8: "From the lowest state on an idle cycle", though a higher one, which is reached first, has a shorter one
    ∷ loops 3 2 (arc_as 0 0 0 1 ∷ arc_as 1 0 0 0 ∷ arc_as 2 0 0 0 ∷ arc_as 2 0 0 2 ∷ []) (0 ∷ 1 ∷ [])
    -- and though a lower one leads to it, on no cycle itself
    ∷ loops 3 0 (arc_as 0 0 0 2 ∷ arc_as 1 0 0 2 ∷ arc_as 2 0 0 1 ∷ []) (1 ∷ 2 ∷ [])
    -- "show a shortest cycle through it", though a lower next state leads back too, and a still shorter one reads a letter
    ∷ loops 4 0 (arc_as 0 0 0 1 ∷ arc_as 0 0 0 3 ∷ arc_as 0 1 0 0 ∷ arc_as 1 0 0 2 ∷ arc_as 2 0 0 0 ∷ arc_as 3 0 0 0 ∷ []) (0 ∷ 3 ∷ [])
    -- "among those the one whose state numbers come first, compared one by one"; in any order of the arcs
    ∷ loops 5 0 (arc_as 0 0 0 1 ∷ arc_as 0 0 0 2 ∷ arc_as 1 0 0 4 ∷ arc_as 2 0 0 3 ∷ arc_as 3 0 0 0 ∷ arc_as 4 0 0 0 ∷ []) (0 ∷ 1 ∷ 4 ∷ [])
    ∷ loops 5 0 (arc_as 0 0 0 2 ∷ arc_as 0 0 0 1 ∷ arc_as 1 0 0 4 ∷ arc_as 2 0 0 3 ∷ arc_as 3 0 0 0 ∷ arc_as 4 0 0 0 ∷ []) (0 ∷ 1 ∷ 4 ∷ [])
    -- Slip 6: "It fits if the next letter is in the class", which 5 is of both; "in synthesis or analysis the letter read is written"
    ∷ classed [] 2 (7 ∷ 5 ∷ []) [] (goes (big ∷ big ∷ big ∷ []) (says_found 4 (8 ∷ 5 ∷ []) ∷ says_found 2 (8 ∷ 5 ∷ []) ∷ says_ended 5 ∷ []) 11)
    -- and is told from the frames that earlier calls left
    ∷ classed [] 3 [] (8 ∷ 9 ∷ []) (goes (ask 1000 2 2 ∷ ask 1 3 2 ∷ ask 3 3 2 ∷ big ∷ []) (says_refused 3 22 ∷ says_found 1 (7 ∷ 9 ∷ []) ∷ says_paused 3 ∷ says_ended 3 ∷ []) 10)
    -- a letter of no class, and the end of the word
    ∷ classed [] 2 (3 ∷ []) [] (goes (big ∷ []) (says_ended 5 ∷ []) 5)
    ∷ classed [] 2 [] [] (goes (big ∷ []) (says_ended 5 ∷ []) 5)
    -- "in recognition both words must have that same letter next"
    ∷ classed [] 1 (9 ∷ []) (9 ∷ []) (goes (big ∷ big ∷ []) (says_found 3 [] ∷ says_ended 3 ∷ []) 6)
    ∷ classed [] 1 (1 ∷ []) (9 ∷ []) (goes (big ∷ []) (says_ended 5 ∷ []) 5)
    -- "A class arc is never idle": one from state 1 to itself
    ∷ classed (arc_as 1 65 65 1 ∷ []) 2 (1 ∷ 2 ∷ []) [] (goes (big ∷ big ∷ []) (says_found 4 (1 ∷ 2 ∷ []) ∷ says_ended 5 ∷ []) 9)
    -- "an undefined class or unlike sides": "in a loaded table such faults give 20"
    ∷ classed (arc_as 1 66 66 1 ∷ []) 2 [] [] (refused_with 20 [])
    ∷ classed (arc_as 1 64 65 1 ∷ []) 2 [] [] (refused_with 20 [])
    -- Slip 10: "An arc that would lift the sum over the ceiling does not fit": the paths' sums are 6 and 7, which the last arc brings them to
    ∷ weighted [] 0 2 (1 ∷ 2 ∷ []) (goes (big ∷ []) (says_ended 4 ∷ []) 4)
    ∷ weighted [] 5 2 (1 ∷ 2 ∷ []) (goes (big ∷ []) (says_ended 8 ∷ []) 8)
    ∷ weighted [] 6 2 (1 ∷ 2 ∷ []) (goes (big ∷ big ∷ []) (says_found 3 (5 ∷ 7 ∷ []) ∷ says_ended 6 ∷ []) 9)
    ∷ weighted [] 7 2 (1 ∷ 2 ∷ []) (goes (big ∷ big ∷ big ∷ []) (says_found 3 (5 ∷ 7 ∷ []) ∷ says_found 4 (6 ∷ 7 ∷ []) ∷ says_ended 3 ∷ []) 10)
    -- the sum is kept from call to call, after refused ones too
    ∷ weighted [] 6 2 (1 ∷ 2 ∷ []) (goes (ask 1000 2 2 ∷ ask 1 3 2 ∷ ask 3 3 2 ∷ ask 0 2 2 ∷ big ∷ []) (says_refused 2 22 ∷ says_found 1 (5 ∷ 7 ∷ []) ∷ says_paused 3 ∷ says_paused 0 ∷ says_ended 3 ∷ []) 9)
    -- a run handed back with another ceiling; "Every frame carries the sum of penalties on its path": 21 where it is another
    ∷ resumed 7 2 (says_found 1 (5 ∷ 7 ∷ []))
    ∷ resumed 2 2 (says_ended 4)
    ∷ resumed 1 2 (says_refused 0 21)
    ∷ resumed 7 0 (says_refused 0 21)
    -- the five cells of a frame: on table K, after 01 was read and 01 03 were written
    ∷ row 2 (1 ∷ 2 ∷ []) [] (called 1 3 (0 ∷ 1 ∷ 0 ∷ 0 ∷ 0 ∷ 1 ∷ 4 ∷ 1 ∷ 1 ∷ 0 ∷ 0 ∷ 0 ∷ 1 ∷ 2 ∷ 0 ∷ []) big (says_found 2 (1 ∷ 3 ∷ 2 ∷ [])))
    -- "A ceiling over 100,000 is refused at a start or call with 39, after 10 and before 12 or 21"
    ∷ weighted [] 100000 2 (1 ∷ 2 ∷ []) (goes (big ∷ []) (says_found 3 (5 ∷ 7 ∷ []) ∷ []) 10)
    ∷ weighted [] 100001 2 (1 ∷ 2 ∷ []) (refused_with 39 [])
    ∷ weighted [] 100001 2 (0 ∷ []) (refused_with 10 [])
    ∷ weighted (arc_with 0 0 0 0 255 ∷ []) 100001 2 [] (refused_with 39 [])
    ∷ weighted [] 100001 2 (0 ∷ []) (called 0 1 [] big (says_refused 0 10))
    ∷ weighted [] 100001 2 [] (called 0 1 [] big (says_refused 0 39))
    -- "the refusal for loops ignores penalties"
    ∷ weighted (arc_with 0 0 0 0 255 ∷ []) 0 2 [] (refused_with 12 (0 ∷ []))
    -- "a penalty of 0 to 255"; "Arcs are still compared for equality without it"
    ∷ weighted (arc_with 0 0 0 1 255 ∷ []) 0 2 [] (goes (big ∷ []) (says_ended 5 ∷ []) 5)
    ∷ weighted (arc_with 0 0 0 1 256 ∷ []) 0 2 [] (refused_with 20 [])
    ∷ weighted (arc_with 0 1 5 1 9 ∷ []) 0 2 [] (refused_with 20 [])
    -- "Here the first listed goes first."
    ∷ pair 5 6 (goes (big ∷ big ∷ big ∷ []) (says_found 2 (6 ∷ []) ∷ says_found 4 (5 ∷ []) ∷ says_ended 2 ∷ []) 8)
    -- "two paths with the same output give it twice"
    ∷ pair 5 5 (goes (big ∷ big ∷ big ∷ []) (says_found 2 (5 ∷ []) ∷ says_found 4 (5 ∷ []) ∷ says_ended 2 ∷ []) 8)
    -- "The path of no arcs counts": the push of an initial state accepts
    ∷ bare (goes (ask 0 1 0 ∷ ask 1 0 0 ∷ ask 1 1 0 ∷ ask 9 1 0 ∷ ask 0 0 0 ∷ []) (says_paused 0 ∷ says_refused 0 22 ∷ says_found 1 [] ∷ says_ended 1 ∷ says_ended 0 ∷ []) 2)
    -- "then in a step 22, 23"
    ∷ row 2 (1 ∷ 2 ∷ []) [] (goes (ask 1000 2 0 ∷ ask 1000 3 0 ∷ ask 1000 3 1 ∷ ask 1000 3 2 ∷ []) (says_refused 2 22 ∷ says_refused 0 23 ∷ says_refused 0 23 ∷ says_found 1 (1 ∷ 2 ∷ []) ∷ []) 20)
    -- "Never too short": (letters to read + 1) × states frames, and one less can be
    ∷ round (goes (ask 1000 3 3 ∷ ask 1000 4 3 ∷ ask 1000 4 3 ∷ []) (says_refused 3 22 ∷ says_found 1 (5 ∷ 6 ∷ 5 ∷ []) ∷ says_ended 5 ∷ []) 9)
    -- "Word of 64 starts, 65 gives 10."
    ∷ row 2 (replicate 64 63) [] (goes (big ∷ []) (says_ended 4 ∷ []) 4)
    ∷ row 2 (replicate 65 63) [] (refused_with 10 [])
    ∷ row 3 [] (replicate 64 63) (goes (big ∷ []) (says_ended 4 ∷ []) 4)
    ∷ row 3 [] (replicate 65 63) (refused_with 10 [])
    -- letter 63 is a letter, 64 is none
    ∷ row 2 (63 ∷ []) [] (goes (big ∷ []) (says_ended 4 ∷ []) 4)
    ∷ row 2 (64 ∷ []) [] (refused_with 10 [])
    -- "Unknown task"
    ∷ row 0 [] [] (refused_with 11 [])
    ∷ row 4 [] [] (refused_with 11 [])
    -- "Start: 20, 11, 10, 12."
    ∷ twice 4 (0 ∷ []) (refused_with 20 [])
    ∷ twice 2 [] (refused_with 20 [])
    ∷ row 4 (1 ∷ []) (0 ∷ []) (refused_with 11 [])
    ∷ row 2 (0 ∷ []) (1 ∷ []) (refused_with 11 [])
    ∷ row 3 (1 ∷ []) (0 ∷ []) (refused_with 11 [])
    ∷ row 2 (0 ∷ []) [] (refused_with 10 [])
    -- "Call: 20, 11, 10, 21": depth 1 with no start is no place in a search
    ∷ twice 4 (0 ∷ []) (called 0 1 [] big (says_refused 0 20))
    ∷ row 4 (0 ∷ []) [] (called 0 1 [] big (says_refused 0 11))
    ∷ row 2 (0 ∷ []) [] (called 0 1 [] big (says_refused 0 10))
    ∷ row 2 (1 ∷ []) [] (called 0 1 [] big (says_refused 0 21))
    ∷ []
