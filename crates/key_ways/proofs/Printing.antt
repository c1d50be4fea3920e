-- What the calls for a word's key print, and what the print tells.
use Prim.Native.Nat.{ℕ, ◌+◌, ◌*◌, ◌≤◌}
use native.Mathlib.Omega.{arith}
use mathlib.Core.Path.{◌≡◌, refl, sym, ap, subst, ◌∙◌}
use mathlib.Core.Logic.{◌↔◌}
use mathlib.Core.Bool.{true}
use mathlib.Core.List.Memᴰ
use mathlib.Core.List.{List, [], ◌∷◌, ◌++◌, head-eq_of_cons-eq, tail-eq_of_cons-eq, append_cancel_left, append_cancel_right, Memᴰ}
use lib.ListN.{length, take, drop, replicate}
use lib.Seq.{take_at, take-append_seam}
use borrow.Author.Tests.{le-leb}
use Rattle.destination.specs.Stored.{stored_answer, stored_cells}
use Rattle.destination.proofs.Stored.{stored-done, stored-fits}
use Rattle.table_format.proofs.All.{All}
use Rattle.table_format.proofs.Tests.{and_both}
use Rattle.machine.specs.Query.{letters_within, word_holds}
use Rattle.alphabet.specs.Shown.{face_table, shown}
use Rattle.alphabet.proofs.Headlines.{letter-most, shown-most, shown_injective}
use Rattle.lexicon.specs.Words.{Word}
use Rattle.segmentation.specs.Ways.{together, Way}
use Rattle.wordlist_lines.specs.Lines.{lines_in}
use Rattle.wordlist_lines.specs.Facts.{Unfed}
use Rattle.wordlist_lines.proofs.Lines.{line-fed}
use Rattle.wordlist_spelling.specs.Spelled.{most_letters}
use Rattle.wordlist_spelling.specs.Facts.{Spells}
use Rattle.wordlist_spelling.proofs.Facts.{spells-each}
use Rattle.key_sheet.specs.Calls.{key_sheet}
use Rattle.key_ways.specs.Told.{KeyWritten, KeyTold}
use Rattle.key_ways.specs.Printed.{printed_for, KeyPrinted, WayPrinted, PrintTold, LineWord, LineWay}
use Rattle.alphabet.specs.Letters.{Known}
use Rattle.key_ways.proofs.InPrint.{way-shown, words-letters}
use Rattle.alphabet.specs.Shown.{Ascii}
use Rattle.key_ways.proofs.ShownLines.{line-shown, lead_same, letters-shown}

-- The calls.

module _ (cells w d t : List ℕ) where
  -- what is printed is the sheet, as it is shown
  pub text_of : (text : List ℕ) (P : KeyPrinted cells w d t text) → text ≡ shown (take P.size (key_sheet cells w face_table d))
  text_of text P =
      let out = shown (take P.size (key_sheet cells w face_table d)) in
      let S = stored-done out t P.bytes P.done in
      sym P.is ∙ ap (take P.bytes) S.left_is ∙ take_at out (drop P.bytes t) P.bytes (sym S.size)

  -- a sheet that was written is printed where there is room for twice its characters
  pub written_printed : (sheet : List ℕ) → KeyWritten cells w face_table d sheet → 2 * length sheet ≤ length t → KeyPrinted cells w d t (shown sheet)
  written_printed sheet K room =
      let S = stored-fits (shown sheet) t (omega (arith, shown-most sheet)) in
      record {
        size = length sheet;
        written = K.answer-is;
        bytes = length (shown sheet);
        done = ap (λ (s : List ℕ). stored_answer (shown s) t) K.first-is ∙ S.0;
        is = ap (λ (s : List ℕ). take (length (shown sheet)) (stored_cells (shown s) t)) K.first-is ∙ ap (take (length (shown sheet))) S.1 ∙ take-append_seam (shown sheet) _;
      }

-- The print for a line without line feeds tells the line and the sheet.
pub printed_one : (line other sheet against : List ℕ) → Unfed line → Unfed other → All Ascii sheet → All Ascii against
    → printed_for line sheet ≡ printed_for other against → (line ≡ other) × (sheet ≡ against)
printed_one line other sheet against u v a b e =
    let same : line ≡ other = head-eq_of_cons-eq (sym (line-fed line _ u) ∙ ap lines_in e ∙ line-fed other _ v) in
    let rest = append_cancel_left other _ _ (subst (λ (l : List ℕ). printed_for l sheet ≡ printed_for other against) same e) in
    (same, shown_injective sheet against a b (append_cancel_right (shown sheet) (shown against) (10 ∷ []) (tail-eq_of_cons-eq rest)))

-- What a print tells, where the ways that are cut so make a word of known letters.

module _ (cut : List Word → Type 0) (w : Word) (whole : (z : List Word) → cut z → together z ≡ w) (known : All Known w) (sheet : List ℕ) (T : KeyTold cut face_table sheet) where
  in_print : (a : List (List Word)) (z : List Word) (b : List (List Word)) → T.ways ≡ a ++ (z ∷ b) → WayPrinted sheet (1 + length a) z
  in_print a z b e =
      let on = T.shown a z b e in
      let makes = whole z ((T.are z).0 (subst (λ (l : List (List Word)). Memᴰ z l) (sym e) (Memᴰ.append_right a (Memᴰ.head refl)))) in
      record {
        on = on;
        line-is = λ l m. line-shown l (on.laid.lines l m) (lead_same _ _ on.own on.laid l m);
        letters-are =
            letters-shown _ _ on.own on.laid
            ∙ ap (λ (s : List ℕ). s ++ replicate on.laid.blanks 32) (way-shown z (words-letters Known z (subst (All Known) (sym makes) known)));
      }

  pub print_told : (text : List ℕ) → text ≡ shown sheet → PrintTold cut text
  print_told text e = record { sheet = sheet; text-is = e; told = T; in_print = in_print }

-- the same ways, said otherwise
pub told_as : (cut other : List Word → Type 0) → ((z : List Word) → cut z ↔ other z) → (text : List ℕ) → PrintTold cut text → PrintTold other text
told_as cut other same text P =
    let T = P.told in
    record {
      sheet = P.sheet;
      text-is = P.text-is;
      told = record {
        ways = T.ways;
        are = λ z. (λ m. (same z).0 ((T.are z).0 m), λ c. (T.are z).1 ((same z).1 c));
        once = T.once;
        in_order = T.in_order;
        sheet-is = T.sheet-is;
        shown = T.shown;
      };
      in_print = P.in_print;
    }

-- Ways of listed words, where these are the words of a text's lines.
pub ways-same : (list : List ℕ) (ws : List Word) → ((u : Word) → Memᴰ u ws ↔ LineWord list u) → (w : Word) (z : List Word) → Way ws w z ↔ LineWay list w z
ways-same list ws same w z = (
  λ W. record { from-lines = λ u m. (same u).0 (W.from_list u m); whole = W.whole },
  λ W. record { from_list = λ u m. (same u).1 (W.from-lines u m); whole = W.whole },
)

-- The word of a line.

pub line_known : {w line : List ℕ} → Spells w line → All Known w
line_known = spells-each Known (λ c h. (h, letter-most c))

known_within : (w : Word) → All Known w → letters_within w ≡ true
known_within [] k = refl
known_within (x ∷ w) k = and_both (and_both (le-leb 1 x k.0.0) (le-leb x 63 (let h = k.0 in omega arith))) (known_within w k.1)

pub line-good : {w line : List ℕ} → Spells w line → length w ≤ most_letters → word_holds w ≡ true
line-good {w} S few = and_both (le-leb (length w) 64 few) (known_within w (line_known S))
