-- The theorems about keys, stated together. What each one means is in specs/; how it is shown is in the files that it names.
use Prim.Native.Nat.{ℕ, ◌≤◌, ◌<◌}
use native.Mathlib.Omega.{arith}
use mathlib.Core.Path.{◌≡◌, refl, sym, ap, ap₂, subst, ◌∙◌}
use mathlib.Core.Logic.{◌↔◌, ◌⊎◌, ⊎_elim, ⊎_map}
use mathlib.Core.Bool.{Bool, true, false, cond}
use mathlib.Core.List.{List, [], ◌∷◌, ◌++◌, map, Memᴰ}
use lib.ListN.{length, take, drop}
use borrow.Author.Tests.{leb-true}
use Rattle.refusal.specs.declared.Refusal.{Refusal}
use Rattle.std.specs.Prelude.{Ok, Some}
use Rattle.table_format.specs.Loaded.{cells_of}
use Rattle.table_format.proofs.All.{All}
use Rattle.table_format.proofs.Tests.{and_left}
use Rattle.machine.specs.declared.Started.{Started}
use Rattle.machine.specs.declared.StartAnswer.TheVariants.{Ready}
use Rattle.machine.specs.Query as query
use Rattle.machine.specs.Tour.{tree_size}
use Rattle.machine.specs.Start.{StartedIs}
use Rattle.utf8.specs.Utf8.{encoded}
use Rattle.alphabet.specs.Letters.{small_of}
use Rattle.alphabet.specs.Shown.{face_table, shown_as, shown}
use Rattle.alphabet.proofs.Headlines.{faces_hold_lem, shown_injective}
use Rattle.faces.specs.Faces.{faces_hold, face_of}
use Rattle.sheet.specs.declared.LastWord.TheVariants.{End, More}
use Rattle.sheet.specs.Sheet.{sheet_of}
use Rattle.sheet.specs.Read.{last_word_in}
use Rattle.sheet.proofs.Headlines as sheets
use Rattle.lexicon.specs.Words.{Word}
use Rattle.lexicon.specs.Lexicon.{spelled, TakenAs}
use Rattle.lexicon.specs.FirstBad.{Kept}
use Rattle.lexicon.proofs.Headlines as lists
use Rattle.trie_format.specs.Trie.{cut_letter, trie_table}
use Rattle.trie_format.proofs.Headlines.{trie_cells}
use Rattle.trie.specs.Calls.{build_answer, build_cells}
use Rattle.trie.proofs.Headlines as tries
use Rattle.segmentation.specs.Ways.{ways_to_cut, joined, Way}
use Rattle.segmentation.proofs.Headlines as cutting
use Rattle.wordlist_lines.specs.Facts.{Unfed}
use Rattle.wordlist_spelling.specs.Facts.{Spells}
use Rattle.wordlist.specs.Gathered.{taken, fate}
use Rattle.wordlist.proofs.Headlines as wordlists
use Rattle.key_sheet.specs.Key.{refused, start_of, key_of}
use Rattle.key_sheet.specs.Calls.{key_answer, key_sheet}
use Rattle.key_ways.specs.Shows.{KeyCalls, tree_cells, key_machine, KeyShows}
use Rattle.key_ways.specs.Told.{KeyWritten, KeyTold}
use Rattle.key_ways.specs.Printed.{printed_for, KeyPrinted, word_text, way_text, PrintTold, LineWay}
use Rattle.key_ways.proofs.KeyCalls as calls
use Rattle.key_ways.proofs.Shows as showing
use Rattle.key_ways.proofs.Sheets as writing
use Rattle.key_ways.proofs.Told as telling
use Rattle.alphabet.specs.Letters.{Known}
use Rattle.key_ways.proofs.InPrint as in_print
use Rattle.alphabet.specs.Shown.{Ascii}
use Rattle.key_ways.proofs.ShownLines as in_lines
use Rattle.key_ways.proofs.Printing as printing

-- THE CALLS behind a key, over any cells: after a start without a refusal they are handed on as demand 3 says, and bring the key's readings, and its
-- end or its refusal.
pub key-calls : (cells w : List ℕ) (s : Started) → StartedIs (start_of cells w) s → s.answer ≡ Ready → KeyCalls cells w s.run (key_of cells w)
key-calls = calls.key-calls

-- OVER A WORD LIST: bytes that are taken for a list, cells that begin with its table's, and a word of 1 to 64 letters from 1 to 63.
module _ (bytes : List ℕ) (ws : List Word) (taken : TakenAs bytes ws) where
  kept : Kept ws
  kept = ((lists.taken bytes ws).0 taken).0

  module _ (rest : List ℕ) (x : ℕ) (v : Word) (good : query.word_holds (x ∷ v) ≡ true) where
    abbrev cells : List ℕ
    cells = tree_cells ws rest

    abbrev w : Word
    w = x ∷ v

    -- No start and no call of a key is refused,
    pub never-refused : (r : Refusal) → key_of cells w ≡ refused r → ⊥
    never-refused = showing.never-refused ws kept rest x v good

    -- and it shows the first of the ways to cut the word, all of them where it ended.
    pub key-shows : KeyShows ws w (key_of cells w)
    key-shows = showing.key-shows ws kept rest x v good

    -- A word of fewer than 1,000 ways, whose search tree's size is below 64,537,000, has a key that ends.
    pub end-comes : length (ways_to_cut ws w) < 1000 → tree_size (key_machine ws w) < 64537000 → key-shows.ended ≡ true
    end-comes few small = showing.end-comes ws w (key_of cells w) key-shows few small

    sheet-room : (faces : List ℕ) → length (sheet_of faces key-shows.readings key-shows.ended) ≤ 146146
    sheet-room faces =
        let k = key_of cells w in
        let holds = kept.holds in
        omega (arith, writing.sheet-length ws holds w k key-shows faces [], writing.sheet-room ws holds w k key-shows (leb-true _ _ (and_left _ _ good)))

    -- ITS SHEET is written wherever the faces hold and there are 146,146 bytes for it.
    pub key-written : (faces d : List ℕ) → faces_hold faces ≡ true → 146146 ≤ length d → KeyWritten cells w faces d (sheet_of faces key-shows.readings key-shows.ended)
    unfolding key_answer key_sheet
    key-written faces d F room =
        let k = key_of cells w in
        let holds = kept.holds in
        let fits : length (sheet_of faces key-shows.readings key-shows.ended) ≤ length d = omega (arith, sheet-room faces) in
        record {
          answer-is = (writing.answer-done ws holds w k key-shows faces d _).1 (F, refl, fits);
          first-is = writing.sheet-first ws holds w k key-shows faces d F fits;
          rest-is = writing.sheet-rest ws holds w k key-shows faces d F fits;
        }

    -- Whatever the faces and the destination, a sheet that was written is the key's.
    pub key-done : (faces d : List ℕ) (n : ℕ) → key_answer cells w faces d ≡ Ok n
        → (faces_hold faces ≡ true) × (take n (key_sheet cells w faces d) ≡ sheet_of faces key-shows.readings key-shows.ended)
    unfolding key_answer key_sheet
    key-done faces d n e =
        let D = (writing.answer-done ws kept.holds w (key_of cells w) key-shows faces d n).0 e in (
          D.0,
          ap (λ (m : ℕ). take m (key_sheet cells w faces d)) D.1
              ∙ writing.sheet-first ws kept.holds w (key_of cells w) key-shows faces d D.0 (subst (λ (m : ℕ). m ≤ length d) D.1 D.2),
        )

    -- A KEY THAT ENDS with END shows exactly the ways to cut the word into listed words, each once, in order, each on its lines.
    pub key-ends : (faces d : List ℕ) (n : ℕ) → key_answer cells w faces d ≡ Ok n → last_word_in (take n (key_sheet cells w faces d)) ≡ Some End
        → KeyTold (Way ws w) faces (take n (key_sheet cells w faces d))
    key-ends faces d n e l =
        let s = (key-done faces d n e).1 in
        subst (KeyTold (Way ws w) faces) (sym s)
        (telling.key-told ws kept.holds w (key_of cells w) key-shows faces (telling.ended_by faces key-shows.readings key-shows.ended (sym (ap last_word_in s) ∙ l)))

    -- ITS PRINT is made wherever there are 146,146 bytes for the sheet and 292,292 for what it is shown as.
    pub print_done : (d t : List ℕ) → 146146 ≤ length d → 292292 ≤ length t → KeyPrinted cells w d t (shown (sheet_of face_table key-shows.readings key-shows.ended))
    print_done d t room more = printing.written_printed cells w d t _ (key-written face_table d faces_hold_lem room) (omega (arith, sheet-room face_table))

    -- Whatever the destinations:
    module _ (d t text : List ℕ) (P : KeyPrinted cells w d t text) where
      -- a print that was made is the key's,
      pub print_is : text ≡ shown (sheet_of face_table key-shows.readings key-shows.ended)
      print_is = printing.text_of cells w d t text P ∙ ap shown (key-done face_table d P.size P.written).1

      -- so that with the word before it and a line feed after it, it is what is to be printed,
      pub print_for : (line : List ℕ) → line ++ (10 ∷ (text ++ (10 ∷ []))) ≡ printed_for line (sheet_of face_table key-shows.readings key-shows.ended)
      print_for line = ap (λ (l : List ℕ). line ++ (10 ∷ (l ++ (10 ∷ [])))) print_is

      -- its last line is the sheet's,
      pub print_last : last_word_in text ≡ last_word_in (take P.size (key_sheet cells w face_table d))
      print_last = ap last_word_in print_is ∙ in_lines.last_in_print face_table key-shows.readings key-shows.ended ∙ sym (ap last_word_in (key-done face_table d P.size P.written).1)

      -- it ends with END for a word of fewer than 1,000 ways, whose search tree's size is below 64,537,000,
      pub print_comes : length (ways_to_cut ws w) < 1000 → tree_size (key_machine ws w) < 64537000 → last_word_in text ≡ Some End
      print_comes ways small =
          ap last_word_in print_is
          ∙ in_lines.last_in_print face_table key-shows.readings key-shows.ended
          ∙ sheets.last-told face_table key-shows.readings key-shows.ended
          ∙ ap (λ (e : Bool). Some (cond e End More)) (end-comes ways small)

      -- and one that ends with END tells exactly the ways to cut the word, where its letters are some of the alphabet.
      pub print_ends : All Known w → last_word_in text ≡ Some End → PrintTold (Way ws w) text
      print_ends known l =
          printing.print_told (Way ws w) w (λ z W. W.whole) known (take P.size (key_sheet cells w face_table d))
          (key-ends face_table d P.size P.written (sym print_last ∙ l)) text (printing.text_of cells w d t text P)

  -- TWO KEYS over one list and the same faces, of any two words.
  module _ (rest other : List ℕ) (x y : ℕ) (v u : Word) (good : query.word_holds (x ∷ v) ≡ true) (also : query.word_holds (y ∷ u) ≡ true)
      (faces d c : List ℕ) (n m : ℕ) (p : key_answer (tree_cells ws rest) (x ∷ v) faces d ≡ Ok n) (q : key_answer (tree_cells ws other) (y ∷ u) faces c ≡ Ok m) where
    abbrev sheet : List ℕ
    sheet = take n (key_sheet (tree_cells ws rest) (x ∷ v) faces d)

    abbrev against : List ℕ
    against = take m (key_sheet (tree_cells ws other) (y ∷ u) faces c)

    -- Keys are equal only if the ways are, or both say MORE and show no reading.
    pub keys_differ : sheet ≡ against → (ways_to_cut ws (x ∷ v) ≡ ways_to_cut ws (y ∷ u)) ⊎ (sheet ≡ sheet_of faces [] false)
    keys_differ same =
        let K = key-shows rest x v good in
        let D = key-done rest x v good faces d n p in
        ⊎_map (λ e. e) (λ e. D.1 ∙ ap₂ (sheet_of faces) e.0 e.1)
        (telling.same-ways ws kept.holds (x ∷ v) (y ∷ u) (key_of (tree_cells ws rest) (x ∷ v)) (key_of (tree_cells ws other) (y ∷ u)) K (key-shows other y u also) faces D.0
        (sym D.1 ∙ same ∙ (key-done other y u also faces c m q).1))

    -- So where one of them ends with END, and a way of one word is none of the other, the keys are different.
    pub keys_apart : (last_word_in sheet ≡ Some End) ⊎ (last_word_in against ≡ Some End) → (z : List Word) → Way ws (x ∷ v) z → (Way ws (y ∷ u) z → ⊥) → sheet ≡ against → ⊥
    keys_apart ends z W none same =
        ⊎_elim (λ e. none ((cutting.ways-are ws kept.holds (y ∷ u) z).0 (subst (λ (l : List (List Word)). Memᴰ z l) e ((cutting.ways-are ws kept.holds (x ∷ v) z).1 W))))
        (λ e. more-not_end e (⊎_elim (λ l. l) (λ l. ap last_word_in same ∙ l) ends))
        (keys_differ same)
      where
        more-not_end : sheet ≡ sheet_of faces [] false → last_word_in sheet ≡ Some End → ⊥
        more-not_end e l = let b = telling.ended_by faces [] false (sym (ap last_word_in e) ∙ l) in let y : ◌≡◌ {A = ℕ} 0 1 = cc in omega arith

  -- TWO PRINTS over one list, of any two words.
  module _ (rest other : List ℕ) (x y : ℕ) (v u : Word) (good : query.word_holds (x ∷ v) ≡ true) (also : query.word_holds (y ∷ u) ≡ true)
      (d t c s text against : List ℕ) (P : KeyPrinted (tree_cells ws rest) (x ∷ v) d t text) (Q : KeyPrinted (tree_cells ws other) (y ∷ u) c s against) where
    same_sheets : text ≡ against → take P.size (key_sheet (tree_cells ws rest) (x ∷ v) face_table d) ≡ take Q.size (key_sheet (tree_cells ws other) (y ∷ u) face_table c)
    same_sheets e =
        let K = key-shows rest x v good in
        let J = key-shows other y u also in
        (key-done rest x v good face_table d P.size P.written).1
        ∙ shown_injective _ _ (in_lines.sheet_ascii face_table _ K.ended faces_hold_lem (writing.readings_hold_lem ws kept.holds (x ∷ v) _ K))
        (in_lines.sheet_ascii face_table _ J.ended faces_hold_lem (writing.readings_hold_lem ws kept.holds (y ∷ u) _ J))
        (sym (print_is rest x v good d t text P) ∙ e ∙ print_is other y u also c s against Q)
        ∙ sym (key-done other y u also face_table c Q.size Q.written).1

    -- Prints are equal only if the ways are, or both say MORE and show no reading.
    pub prints_differ : text ≡ against → (ways_to_cut ws (x ∷ v) ≡ ways_to_cut ws (y ∷ u)) ⊎ (text ≡ shown (sheet_of face_table [] false))
    prints_differ e =
        ⊎_map (λ same. same) (λ none. printing.text_of (tree_cells ws rest) (x ∷ v) d t text P ∙ ap shown none)
        (keys_differ rest other x y v u good also face_table d c P.size Q.size P.written Q.written (same_sheets e))

    -- So where one of them ends with END, and a way of one word is none of the other, the prints are different.
    pub prints_apart : (last_word_in text ≡ Some End) ⊎ (last_word_in against ≡ Some End) → (z : List Word) → Way ws (x ∷ v) z → (Way ws (y ∷ u) z → ⊥) → text ≡ against → ⊥
    prints_apart ends z W none e =
        keys_apart rest other x y v u good also face_table d c P.size Q.size P.written Q.written
        (⊎_map (λ l. sym (print_last rest x v good d t text P) ∙ l) (λ l. sym (print_last other y u also c s against Q) ∙ l) ends) z W none (same_sheets e)

-- IN PRINT the face of each of the alphabet's letters is its small form in UTF-8, and that of the cut is `|`,
pub letter-shown : (l : ℕ) → Known l → shown_as (face_of face_table l) ≡ encoded (small_of l)
letter-shown = in_print.letter-shown

pub cut-shown : shown_as (face_of face_table cut_letter) ≡ 124 ∷ []
cut-shown = in_print.cut-shown

-- so that a reading is shown as its words' small letters with `|` between,
pub way-shown : (z : List Word) → All (All Known) z → shown (map (face_of face_table) (joined z)) ≡ way_text z
way-shown = in_print.way-shown

-- which spell the words again.
pub text-spells : (u : Word) → All Known u → Spells u (word_text u)
text-spells = in_print.text-spells

-- What is printed for a line without line feeds tells the line and the sheet.
pub printed_one : (line other sheet against : List ℕ) → Unfed line → Unfed other → All Ascii sheet → All Ascii against
    → printed_for line sheet ≡ printed_for other against → (line ≡ other) × (sheet ≡ against)
printed_one = printing.printed_one

-- FROM THE LIST'S TEXT TO THE PRINT: a text that is taken, whose table is built in 2,938 cells or more, and lines of an exam.
module _ (list : List ℕ) (ws : List Word) (gathered : fate list ≡ taken ws) (b : List ℕ) (room : 2938 ≤ length b) where
  bytes-taken : TakenAs (spelled ws) ws
  bytes-taken = wordlists.list-taken list ws gathered

  cells_fit : length (cells_of (trie_table ws)) ≤ length b
  cells_fit = omega (arith, trie_cells ws (wordlists.list-kept list ws gathered))

  -- The table is built,
  pub table-built : build_answer (spelled ws) b ≡ Ok (length (cells_of (trie_table ws)))
  table-built = (tries.build_is (spelled ws) b _).1 (ws, bytes-taken, refl, cells_fit)

  abbrev built : List ℕ
  built = build_cells (spelled ws) b

  abbrev behind : List ℕ
  behind = drop (length (cells_of (trie_table ws))) b

  built-is : built ≡ tree_cells ws behind
  built-is = tries.build_leaves (spelled ws) b ws bytes-taken cells_fit

  over-tree : (w d t text : List ℕ) → KeyPrinted built w d t text → KeyPrinted (tree_cells ws behind) w d t text
  over-tree w d t text = subst (λ (c : List ℕ). KeyPrinted c w d t text) built-is

  -- and the ways to cut a word into listed words are those to cut it into words of the text's lines.
  pub line-ways : (w : Word) (z : List Word) → Way ws w z ↔ LineWay list w z
  line-ways = printing.ways-same list ws (wordlists.list-words list ws gathered)

  -- A LINE of an exam, whose characters spell a word of 1 to 64 letters:
  module _ (line : List ℕ) (x : ℕ) (v : Word) (spells : Spells (x ∷ v) line) (few : length (x ∷ v) ≤ 64) where
    -- its key is printed,
    pub printed_done : (d t : List ℕ) → 146146 ≤ length d → 292292 ≤ length t → (text : List ℕ) × KeyPrinted built (x ∷ v) d t text
    printed_done d t h k =
        subst (λ (c : List ℕ). (text : List ℕ) × KeyPrinted c (x ∷ v) d t text) (sym built-is)
        (_, print_done (spelled ws) ws bytes-taken behind x v (printing.line-good spells few) d t h k)

    -- the print ends with END where the word has fewer than 1,000 ways and the search tree's size is below 64,537,000,
    pub printed_comes : (d t text : List ℕ) → KeyPrinted built (x ∷ v) d t text → length (ways_to_cut ws (x ∷ v)) < 1000 → tree_size (key_machine ws (x ∷ v)) < 64537000
        → last_word_in text ≡ Some End
    printed_comes d t text P = print_comes (spelled ws) ws bytes-taken behind x v (printing.line-good spells few) d t text (over-tree (x ∷ v) d t text P)

    -- and a print that ends with END shows exactly the ways to cut the word into words of the list's lines, each once, in order, on its lines and in its
    -- letters.
    pub printed_ends : (d t text : List ℕ) → KeyPrinted built (x ∷ v) d t text → last_word_in text ≡ Some End → PrintTold (LineWay list (x ∷ v)) text
    printed_ends d t text P l =
        printing.told_as (Way ws (x ∷ v)) (LineWay list (x ∷ v)) (line-ways (x ∷ v)) text
        (print_ends (spelled ws) ws bytes-taken behind x v (printing.line-good spells few) d t text (over-tree (x ∷ v) d t text P) (printing.line_known spells) l)

  -- TWO LINES of exams:
  module _ (line other : List ℕ) (x y : ℕ) (v u : Word) (spells : Spells (x ∷ v) line) (few : length (x ∷ v) ≤ 64) (also : Spells (y ∷ u) other)
      (fewer : length (y ∷ u) ≤ 64) (d t c s text against : List ℕ) (P : KeyPrinted built (x ∷ v) d t text) (Q : KeyPrinted built (y ∷ u) c s against) where
    -- their prints are equal only if the ways are, or both say MORE and show no reading,
    pub printed_differ : text ≡ against → (ways_to_cut ws (x ∷ v) ≡ ways_to_cut ws (y ∷ u)) ⊎ (text ≡ shown (sheet_of face_table [] false))
    printed_differ =
        prints_differ (spelled ws) ws bytes-taken behind behind x y v u (printing.line-good spells few) (printing.line-good also fewer) d t c s text against
        (over-tree (x ∷ v) d t text P) (over-tree (y ∷ u) c s against Q)

    -- so where one of them ends with END, and a way of one word is none of the other, they are different.
    pub printed_apart : (last_word_in text ≡ Some End) ⊎ (last_word_in against ≡ Some End) → (z : List Word) → LineWay list (x ∷ v) z → (LineWay list (y ∷ u) z → ⊥) → text ≡ against → ⊥
    printed_apart ends z W none =
        prints_apart (spelled ws) ws bytes-taken behind behind x y v u (printing.line-good spells few) (printing.line-good also fewer) d t c s text against
        (over-tree (x ∷ v) d t text P) (over-tree (y ∷ u) c s against Q) ends z ((line-ways (x ∷ v) z).1 W) (λ Y. none ((line-ways (y ∷ u) z).0 Y))
