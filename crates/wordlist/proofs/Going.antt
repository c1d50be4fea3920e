-- A text's lines one after another: what is known before each, and what a line adds.
use Prim.Native.Nat.{ℕ, suc, ◌+◌, ◌-◌, ◌≤◌, ◌<◌}
use native.Mathlib.Omega.{arith}
use native.Mathlib.Numerals.{add-one}
use mathlib.Core.Path.{◌≡◌, refl, sym, ap, ◌∙◌}
use mathlib.Core.Logic.{⊎_elim}
use mathlib.Core.Bool.{Bool, true, false, cond}
use mathlib.Core.List.{List, [], ◌∷◌}
use lib.Dec.{leb}
use lib.ListN.{length, drop, length-take, length-drop}
use borrow.Author.Tests.{le-leb, lt-leb}
use Rattle.lexicon.specs.Words.{Word}
use Rattle.lexicon.specs.Beginnings.{beginnings}
use Rattle.lexicon.specs.Lexicon.{most_states}
use Rattle.lexicon.specs.Lexicon as lexicon
use Rattle.lexicon.specs.FirstBad.{Kept}
use Rattle.lexicon.proofs.Lexicon.{kept-none}
use Rattle.wordlist_lines.specs.Lines.{Line, lines_in, held_from, mark_size, held_lines}
use Rattle.wordlist_lines.specs.Next.{part, FoundIs, NextIs}
use Rattle.std.specs.Prelude.{Some, None, Ok, Err}
use Rattle.wordlist_spelling.specs.declared.FaultKind.TheVariants.{NoLetter, TooLong}
use Rattle.wordlist_spelling.specs.Spelled.{Ending, spelled}
use Rattle.wordlist_sorted.specs.Sorted.{inserted}
use Rattle.wordlist_sorted.specs.Placed.{Holds}
use Rattle.wordlist_spelling.proofs.Headlines.{whole-good}
use Rattle.wordlist_sorted.proofs.Headlines.{inserted-holds, inserted-grows, words-few}
use Rattle.wordlist.specs.declared.FaultKind.{FaultKind}
use Rattle.wordlist.specs.declared.FaultKind.TheVariants.{BadWord, TooMany}
use Rattle.wordlist.specs.declared.BadLine.{BadLine}
use Rattle.wordlist.specs.declared.Words.{Words}
use Rattle.wordlist.specs.Gathered.{taken, too_many, fate_by, fate_from, fate, AddedIs, line_at, BadLineIs, FaultIs, GatheredIs}

abbrev so_many : ℕ → ℕ → Words
so_many count bytes = record { count = count; bytes = bytes }

-- before the line at a place: the words so far, and what they come to with the lines that are left
pub record Going (text list₀ : List ℕ) (list : List ℕ) (at before count bytes : ℕ) : Type 0 where
  pub words : List Word
  pub left : fate_from words (held_from (before + 1) (lines_in (drop at text))) ≡ fate text
  pub kept : Kept words
  pub holds : Holds words list₀ list
  pub size : bytes ≡ length (lexicon.spelled words)
  pub counted : count ≡ length words
  -- lines before it are no more than characters
  pub few-lines : before ≤ at

pub begun : (text list : List ℕ) (at : ℕ) → at ≡ mark_size text → Going text list list at 0 0 0
unfolding fate held_lines
begun text list at e =
    record {
      words = [];
      left = ap (λ (i : ℕ). fate_from [] (held_from 1 (lines_in (drop i text)))) e;
      kept = kept-none;
      holds = refl;
      size = refl;
      counted = refl;
      few-lines = omega arith;
    }

module _ {text list₀ list : List ℕ} {at before count bytes : ℕ} (G : Going text list₀ list at before count bytes) where
  -- no line is left
  taken-all : ((n : ℕ) → held_from n (lines_in (drop at text)) ≡ []) → fate text ≡ taken G.words
  unfolding fate_from
  taken-all e = sym G.left ∙ ap (fate_from G.words) (e (before + 1))

  pub none_found : NextIs None text at → GatheredIs (fate text) text (Ok (so_many count bytes)) list₀ list
  none_found e = (G.words, taken-all e, G.counted, G.size, G.holds)

  -- the next line that holds a word
  module _ {from end passed next : ℕ} (F : FoundIs text at from end passed next) where
    abbrev found : Line
    found = line_at text (before + passed + 1) from end

    abbrev others : List Line
    others = held_from (suc (before + passed + 1)) (lines_in (drop next text))

    abbrev word : Word
    word = (spelled (part text from end)).letters

    abbrev grown : List Word
    grown = inserted word G.words

    by-ending : (e : Ending) → (spelled (part text from end)).ending ≡ e → fate text ≡ fate_by e found G.words word (λ vs. fate_from vs others)
    unfolding fate_from
    by-ending e q =
        let number : before + 1 + passed ≡ before + passed + 1 = omega arith in
        sym G.left
        ∙ ap (fate_from G.words) (F.first (before + 1))
        ∙ ap (λ (n : ℕ). fate_from G.words (line_at text n from end ∷ held_from (suc n) (lines_in (drop next text)))) number
        ∙ ap (λ (x : Ending). fate_by x found G.words word (λ vs. fate_from vs others)) q

    by-states : (b : Bool) → (spelled (part text from end)).ending ≡ None → leb (length (beginnings grown)) most_states ≡ b → fate text ≡ cond b (fate_from grown others) (too_many found G.words)
    by-states b q t = by-ending None q ∙ ap (λ (x : Bool). cond x (fate_from grown others) (too_many found G.words)) t

    pub part-some : 0 < length (part text from end)
    part-some = omega (arith, length-take (end - from) (drop from text), length-drop from text, F.some, F.inside, F.within)

    pub line-fits : before + passed + 1 ≤ length text
    line-fits = omega (arith, G.few-lines, F.moves, F.within)

    -- the line as it is told where it cannot be used
    abbrev bad : BadLine
    bad = record { number = before + passed + 1; from = from; end = end; count = count }

    bad-is : BadLineIs text G.words bad found
    bad-is = record { line-is = refl; rises = omega (arith, F.some); inside = omega (arith, F.inside, F.within); counted = G.counted }

    pub fault-told : (list' : List ℕ) (kind : FaultKind) → AddedIs (Err kind) (part text from end) G.words list₀ list' → FaultIs kind (fate text) text bad list₀ list'
    fault-told list' BadWord A = (G.words, found, ⊎_elim (by-ending (Some NoLetter)) (by-ending (Some TooLong)) A.0, bad-is, A.1)
    fault-told list' TooMany A = (G.words, found, by-states false A.0 (lt-leb _ _ A.1), bad-is, A.2)

    goes_on : (list' : List ℕ) (count' bytes' : ℕ) → AddedIs (Ok bytes') (part text from end) G.words list₀ list' → count' ≡ length grown
        → Going text list₀ list' next (before + passed + 1) count' bytes'
    goes_on list' count' bytes' A c =
        record {
          words = grown;
          left =
              ap (λ (n : ℕ). fate_from grown (held_from n (lines_in (drop next text)))) (add-one (before + passed + 1))
              ∙ sym (by-states true A.0 (le-leb _ _ A.1));
          kept = record { holds = inserted-holds word G.words (whole-good (part text from end) part-some A.0) G.kept.holds; few = A.1 };
          holds = A.3;
          size = A.2;
          counted = c;
          few-lines = omega (arith, G.few-lines, F.moves);
        }

    -- a word more in the list, or one that was there
    pub goes_on-more : (list' : List ℕ) (bytes' : ℕ) → AddedIs (Ok bytes') (part text from end) G.words list₀ list' → bytes < bytes'
        → Going text list₀ list' next (before + passed + 1) (count + 1) bytes'
    goes_on-more list' bytes' A h =
        goes_on list' (count + 1) bytes' A
        (⊎_elim (λ e. absurd (omega (arith, A.2, G.size, ap (λ (vs : List Word). length (lexicon.spelled vs)) e))) (λ g. omega (arith, G.counted, g.0)) (inserted-grows word G.words))

    pub goes_on-same : (list' : List ℕ) (bytes' : ℕ) → AddedIs (Ok bytes') (part text from end) G.words list₀ list' → bytes' ≤ bytes
        → Going text list₀ list' next (before + passed + 1) count bytes'
    goes_on-same list' bytes' A h =
        goes_on list' count bytes' A
        (⊎_elim (λ e. G.counted ∙ sym (ap length e)) (λ g. absurd (omega (arith, A.2, G.size, g.1))) (inserted-grows word G.words))

    pub count_fits : count + 1 ≤ most_states
    count_fits = omega (arith, G.counted, words-few G.words G.kept)
