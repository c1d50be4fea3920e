-- A turn of the search for the next line that holds a word: a line, where the next begins, and its word.
use Prim.Native.Nat.{ℕ, zero, suc, min, ◌+◌, ◌-◌, ◌≤◌, ◌<◌}
use native.Mathlib.Omega.{arith}
use mathlib.Core.Path.{◌≡◌, refl, sym, ap, ap₂, ◌∙◌}
use mathlib.Core.Bool.{Bool, true, false, cond}
use mathlib.Core.List.{List, [], ◌∷◌, ◌++◌, append_assoc}
use lib.Dec.{ltb}
use lib.ListN.{length, take, drop, length-append, length-take, length-drop, drop_of_length-le}
use lib.Seq.{take_all, take-nil, take-take, drop-drop}
use borrow.Author.Tests.{ltb-true, ltb-false}
use Rattle.wordlist_lines.specs.Lines.{lines_in, unled, untrailed, trimmed, passed_over, held_from}
use Rattle.wordlist_lines.specs.Facts.{fed}
use Rattle.wordlist_lines.specs.Next.{part, FoundIs}

drop-take : (k n : ℕ) (l : List ℕ) → drop k (take n l) ≡ take (n - k) (drop k l)
drop-take zero n l = let e : n ≡ n - 0 = omega arith in ap (λ (m : ℕ). take m l) e
drop-take (suc k) zero l = let e : 0 ≡ 0 - suc k = omega arith in ap (λ (m : ℕ). take m (drop (suc k) l)) e
drop-take (suc k) (suc n) [] = sym (take-nil (suc n - suc k))
drop-take (suc k) (suc n) (x ∷ l) = let e : n - k ≡ suc n - suc k = omega arith in drop-take k n l ∙ ap (λ (m : ℕ). take m (drop k l)) e

-- so many characters of a part end with it or before
pub part-most : (text : List ℕ) (from end n : ℕ) → from ≤ end → n ≤ length (part text from end) → from + n ≤ end
part-most text from end n h m = omega (arith, length-take (end - from) (drop from text))

pub part-some : (text : List ℕ) (from : ℕ) → from < length text → 0 < length (part text from (length text))
part-some text from h = simp (length-take, length-drop) (omega arith)

-- the line that begins at a place: its word from one place to another, and where the line after it begins
pub record Turn (text : List ℕ) (from first last next : ℕ) : Type 0 where
  pub leads : from ≤ first
  pub ordered : first ≤ last
  pub inside : last ≤ next
  pub within : next ≤ length text
  pub moves : from < next
  pub line : List ℕ
  pub lines : lines_in (drop from text) ≡ line ∷ lines_in (drop next text)
  pub word : trimmed line ≡ part text first last
  pub last_is_lem : last ≡ from + length (untrailed line)
  pub next-is : next ≡ min (suc (from + length line)) (length text)

-- so many characters before its line feed, so many without the blanks at the end, and of these so many blanks at the front
module _ (text : List ℕ) (from size kept led next : ℕ) (h : from < length text) where
  pub turn_is : size ≤ length (part text from (length text))
      → lines_in (part text from (length text)) ≡ take size (part text from (length text)) ∷ lines_in (drop (suc size) (part text from (length text)))
      → kept ≤ length (part text from (from + size)) → take kept (part text from (from + size)) ≡ untrailed (part text from (from + size))
      → led ≤ length (part text from (from + kept)) → drop led (part text from (from + kept)) ≡ unled (part text from (from + kept))
      → next ≡ min (from + size + 1) (length text)
      → Turn text from (from + led) (from + kept) next
  turn_is s line k back l front n =
      let rest = drop from text in
      let rests : length rest ≡ length text - from = length-drop from text in
      let all : part text from (length text) ≡ rest = take_all (length text - from) rest (omega arith) in
      let of : (m : ℕ) → part text from (from + m) ≡ take m rest = λ m. (let e : from + m - from ≡ m = omega arith in ap (λ (i : ℕ). take i rest) e) in
      let s : from + size ≤ length text = part-most text from (length text) size (omega arith) s in
      let k : kept ≤ size = omega (arith, part-most text from (from + size) kept (omega arith) k) in
      let l : led ≤ kept = omega (arith, part-most text from (from + kept) led (omega arith) l) in
      record {
        leads = omega arith;
        ordered = omega arith;
        inside = omega arith;
        within = omega arith;
        moves = omega arith;
        line = take size rest;
        lines =
            sym (ap lines_in all)
            ∙ line
            ∙ ap₂ (λ (a b : List ℕ). take size a ∷ lines_in (drop (suc size) b)) all all
            ∙ ap (λ (r : List ℕ). take size rest ∷ lines_in r) (drop-drop (suc size) from text ∙ goes_on s);
        word =
            ap unled
            (ap untrailed (sym (of size)) ∙ sym back ∙ ap (take kept) (of size) ∙ take-take kept size rest k ∙ sym (of kept))
            ∙ sym front
            ∙ ap (drop led) (of kept)
            ∙ drop-take led kept rest
            ∙ ap₂ take (let e : kept - led ≡ from + kept - (from + led) = omega arith in e) (drop-drop led from text);
        last_is_lem =
            omega (arith, ap length (ap (take kept) (sym (of size)) ∙ back ∙ ap untrailed (of size)), length-take kept (take size rest), length-take size rest);
        next-is = omega (arith, length-take size rest);
      }
    where
      goes_on : from + size ≤ length text → drop (from + suc size) text ≡ drop next text
      goes_on s = go (ltb (from + size) (length text)) refl
        where
          go : (b : Bool) → ltb (from + size) (length text) ≡ b → drop (from + suc size) text ≡ drop next text
          go true b = let l : from + size < length text = ltb-true _ _ b in let e : from + suc size ≡ next = omega arith in ap (λ (i : ℕ). drop i text) e
          go false b = let l : length text ≤ from + size = ltb-false _ _ b in drop_of_length-le text {i = from + suc size} (omega arith) ∙ sym (drop_of_length-le text {i = next} (omega arith))

fed-snoc : (ls : List (List ℕ)) (l : List ℕ) → length (fed (ls ++ (l ∷ []))) ≡ length (fed ls) + suc (length l)
fed-snoc [] l = omega (arith, length-append l (10 ∷ []))
fed-snoc (x ∷ ls) l = omega (arith, length-append x (10 ∷ fed (ls ++ (l ∷ []))), length-append x (10 ∷ fed ls), fed-snoc ls l)

-- lines passed over between two places at which lines begin; the last of them may lack its line feed where the text ends
pub record Passing (text : List ℕ) (at passed from : ℕ) : Type 0 where
  pub moves : at + passed ≤ from
  pub held : (n : ℕ) → held_from n (lines_in (drop at text)) ≡ held_from (n + passed) (lines_in (drop from text))
  pub before : List (List ℕ)
  pub lines : lines_in (drop at text) ≡ before ++ lines_in (drop from text)
  pub passed-are : length before ≡ passed
  pub starts : from < length text → at + length (fed before) ≡ from

pub passing-none : (text : List ℕ) (at : ℕ) → Passing text at 0 at
passing-none text at = record {
  moves = omega arith;
  held = λ n. (let e : n ≡ n + 0 = omega arith in ap (λ (m : ℕ). held_from m (lines_in (drop at text))) e);
  before = [];
  lines = refl;
  passed-are = refl;
  starts = λ h. omega arith;
}

pub passing-done : (text : List ℕ) (at passed from : ℕ) → Passing text at passed from → length text ≤ from → (n : ℕ) → held_from n (lines_in (drop at text)) ≡ []
passing-done text at passed from P h n = P.held n ∙ ap (λ (t : List ℕ). held_from (n + passed) (lines_in t)) (drop_of_length-le text h)

module _ (text : List ℕ) (at passed from first last next : ℕ) (P : Passing text at passed from) (T : Turn text from first last next) where
  starts-here : at + length (fed P.before) ≡ from
  starts-here = P.starts (omega (arith, T.moves, T.within))

  lines_on_lem : lines_in (drop at text) ≡ P.before ++ (T.line ∷ lines_in (drop next text))
  lines_on_lem = P.lines ∙ ap (λ (ls : List (List ℕ)). P.before ++ ls) T.lines

  turn-held : (b : Bool) → passed_over (part text first last) ≡ b → (n : ℕ)
      → held_from n (lines_in (drop at text))
      ≡ cond b (held_from (suc (n + passed)) (lines_in (drop next text))) (record { number = n + passed; text = part text first last } ∷ held_from (suc (n + passed)) (lines_in (drop next text)))
  turn-held b e n =
      P.held n
      ∙ ap (held_from (n + passed)) T.lines
      ∙ ap₂ (λ (t : Bool) (w : List ℕ). cond t (held_from (suc (n + passed)) (lines_in (drop next text))) (record { number = n + passed; text = w } ∷ held_from (suc (n + passed)) (lines_in (drop next text)))) (ap passed_over T.word ∙ e) T.word

  pub turn-passed : passed_over (part text first last) ≡ true → Passing text at (passed + 1) next
  turn-passed e = record {
    moves = omega (arith, P.moves, T.moves);
    held = λ n. turn-held true e n ∙ (let m : suc (n + passed) ≡ n + (passed + 1) = omega arith in ap (λ (i : ℕ). held_from i (lines_in (drop next text))) m);
    before = P.before ++ (T.line ∷ []);
    lines = lines_on_lem ∙ sym (append_assoc P.before (T.line ∷ []) (lines_in (drop next text)));
    passed-are = omega (arith, length-append P.before (T.line ∷ []), P.passed-are);
    starts = λ h. omega (arith, starts-here, T.next-is, fed-snoc P.before T.line);
  }

  pub turn-found : passed_over (part text first last) ≡ false → FoundIs text at first last passed next
  turn-found e = record {
    some = go (ltb first last) refl;
    inside = T.inside;
    within = T.within;
    moves = omega (arith, P.moves, T.moves);
    first = turn-held false e;
    before = P.before;
    line = T.line;
    lines = lines_on_lem;
    passed-are = P.passed-are;
    end_is = omega (arith, starts-here, T.last_is_lem);
    from_is = omega (arith, ap length T.word, length-take (last - first) (drop first text), length-drop first text, T.ordered, T.inside, T.within);
    next-is = omega (arith, starts-here, T.next-is);
  }
    where
      go : (b : Bool) → ltb first last ≡ b → first < last
      go true b = ltb-true _ _ b
      go false b =
          let none : last - first ≡ 0 = omega (arith, ltb-false first last b) in
          let t : passed_over (part text first last) ≡ true = ap (λ (i : ℕ). passed_over (take i (drop first text))) none in
          let z : ◌≡◌ {A = ℕ} 0 1 = cc in
          absurd (omega arith)
