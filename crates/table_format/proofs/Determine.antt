-- Table and text determine each other: reading x gives t exactly when t keeps the rules and x is t's text.
use Prim.Native.Nat.{ℕ, ◌<◌}
use native.Mathlib.Omega.{arith}
use native.Mathlib.Nat.{le_refl, le_of_eq}
use mathlib.Core.Path.{◌≡◌, refl, sym, ap, ap₂, subst, ◌∙◌}
use mathlib.Core.Bool.{true, and-eq-true_iff}
use mathlib.Core.Logic.{◌↔◌}
use mathlib.Core.List.{List, [], ◌∷◌, ◌++◌, map, append_assoc}
use lib.ListN.{length, get_or, length-append, length-map}
use lib.Dec.{eqb}
use borrow.Author.Tests.{eqb-true, eq-eqb}
use Rattle.refusal.specs.declared.InputCause.{InputCause}
use Rattle.table_format.specs.Table.{Table, Counts, counts_of}
use Rattle.table_format.specs.Classes.{no_classes}
use Rattle.table_format.specs.Rules.{counts_hold, keeps_rules}
use Rattle.table_format.specs.Line.{lines_of}
use Rattle.table_format.specs.Text.{header_bytes, initial_bytes, terminal_bytes, arc_bytes, end_bytes, class_lines, lines_before, item_lines, join_lines, text_of}
use Rattle.table_format.specs.Parse.{is_header, end, number_at, counts_from, is_of, Progress, opening, within, table_with, empty_table, Parsed, accepted, turned_down, parse_from, parsed}
use Rattle.table_format.proofs.All.{All}
use Rattle.table_format.proofs.Classes.{no_classes-keep}
use Rattle.table_format.proofs.Rules.{Keeps, keeps-parts, counts-bounded}
use Rattle.table_format.proofs.Line.{IsByte, lines_join, join_lines_lem}
use Rattle.table_format.proofs.Text.{number_value, header_says, header_only, end-only, bytes-penalties, lines-bytes}
use Rattle.table_format.proofs.Parse.{parse_bytes, parse-one, one-parsed, parse-lines, ParsedLines, lines-parsed, no_class, initial_phase, terminal_phase, arc_phase, parse-items, Items, items_parsed_lem, header_line-clear, header_onward, end-clear, end-onward, closed-parsed}
use Rattle.table_format.proofs.ParseClasses.{parse-classes, ClassesRead, classes-parsed, all_lines}

-- The text of a table that keeps the rules is read.

module _ (t : Table) (keeps : Keeps t) where
  abbrev c : Counts
  c = counts_of t

  some : 0 < length t.initials
  some = (counts-bounded c keeps.counts).some-initial

  read_header : (bs : List (List ℕ)) → parse_bytes opening (header_bytes c ∷ bs) ≡ parse_bytes (within c (empty_table t.states)) bs
  read_header bs =
      parse-one opening (header_bytes c) bs (header_line-clear (header_bytes c) ∙ ap counts_hold (header_says c) ∙ keeps.counts)
      ∙ ap (λ (p : Progress). parse_bytes p bs)
      (header_onward (header_bytes c) ∙ ap (λ (d : Counts). within d (empty_table d.states)) (header_says c))

  read-end : parse_bytes (within c t) (end_bytes (lines_before t) ∷ []) ≡ accepted t
  unfolding parse_bytes
  read-end =
      parse-one (within c t) (end_bytes (lines_before t)) [] (end-clear t (end_bytes (lines_before t)) some ∙ eq-eqb _ _ (number_value (lines_before t)))
      ∙ ap (λ (p : Progress). parse_bytes p []) (end-onward t (end_bytes (lines_before t)) some)

  read-items : parse_bytes (within c (empty_table t.states)) (item_lines t) ≡ accepted t
  unfolding item_lines
  read-items =
      parse-classes c t.states t.classes _ keeps.classes
      ∙ parse-items c (initial_phase c t.states t.classes) [] t.initials _ (omega arith) keeps.initials
      ∙ parse-items c (terminal_phase c t.states t.classes t.initials some (le_refl _)) [] t.terminals _ (omega arith) keeps.terminals
      ∙ parse-items c (arc_phase c t.states t.classes t.initials some (le_refl _) t.terminals (le_refl _)) [] t.arcs _ (omega arith) keeps.arcs
      ∙ read-end

pub text-read : (t : Table) → keeps_rules t ≡ true → parsed (text_of t) ≡ accepted t
unfolding parsed text_of
text-read t keeps =
    ap (parse_from opening) (lines_join (header_bytes (counts_of t) ∷ item_lines t))
    ∙ parse-lines opening (header_bytes (counts_of t) ∷ item_lines t) (lines-bytes t keeps)
    ∙ read_header t k (item_lines t)
    ∙ read-items t k
  where
    k : Keeps t
    k = (keeps-parts t).0 keeps

-- A text that is read is that of its table.

-- the end line, after items as many as the counts say
end_read : (u t : Table) (bs : List (List ℕ)) → 0 < length u.initials → All (All IsByte) bs → parse_bytes (within (counts_of u) u) bs ≡ accepted t
    → (u ≡ t) × (bs ≡ end_bytes (lines_before u) ∷ [])
unfolding parse_bytes
end_read u t [] some small e = let z : ◌≡◌ {A = ℕ} 0 1 = cc in absurd (omega arith)
end_read u t (b ∷ bs) some small e =
    let d = one-parsed (within (counts_of u) u) b bs t e in
    let k = (and-eq-true_iff (is_of end b) (eqb (number_at b 1) (lines_before u))).0 (sym (end-clear u b some) ∙ d.0) in
    let r = closed-parsed u t bs (ap (λ (p : Progress). parse_bytes p bs) (sym (end-onward u b some)) ∙ d.1) in
    (r.1, ap₂ (λ (x : List ℕ) (xs : List (List ℕ)). x ∷ xs) (end-only b small.0 k.0 ∙ ap end_bytes (eqb-true _ _ k.1)) r.0)

-- what is known of a header's counts and of the lines after it, once they are read as a table
record Read (c : Counts) (bs : List (List ℕ)) (t : Table) : Type 0 where
  counts : c ≡ counts_of t
  keeps : Keeps t
  lines : bs ≡ item_lines t

module _ (c : Counts) (bs : List (List ℕ)) (t : Table) (hold : counts_hold c ≡ true) where
  abbrev Classes : Type 0
  Classes = ClassesRead c c.states no_classes bs t

  abbrev Initials : Classes → Type 0
  Initials r = Items c (initial_phase c c.states r.classes) [] c.initials r.rest t

  -- there are some
  some_read : (r : Classes) (i : Initials r) → 0 < length i.items
  some_read r i = let n : length i.items ≡ c.initials = i.size in omega (arith, (counts-bounded c hold).some-initial)

  abbrev Terminals : (r : Classes) → Initials r → Type 0
  Terminals r i = Items c (terminal_phase c c.states r.classes i.items (some_read r i) (le_of_eq (sym i.size))) [] c.terminals i.rest t

  abbrev Arcs : (r : Classes) (i : Initials r) → Terminals r i → Type 0
  Arcs r i j =
      Items c (arc_phase c c.states r.classes i.items (some_read r i) (le_of_eq (sym i.size)) j.items (le_of_eq (sym j.size))) [] c.arcs j.rest t

  all_read : (r : Classes) (i : Initials r) (j : Terminals r i) → Arcs r i j → Read c bs t
  unfolding item_lines
  all_read r i j k = subst (Read c bs) close.0 read
    where
      u : Table
      u = table_with c.states r.classes i.items j.items k.items

      same : c ≡ counts_of u
      same = λ z. record { states = c.states; initials = sym i.size z; terminals = sym j.size z; arcs = sym k.size z }

      close : (u ≡ t) × (k.rest ≡ end_bytes (lines_before u) ∷ [])
      close = end_read u t k.rest (some_read r i) k.small (ap (λ (d : Counts). parse_bytes (within d u) k.rest) (sym same) ∙ k.parse)

      read : Read c bs u
      read =
          record {
            counts = same;
            keeps =
                record {
                  counts = ap counts_hold (sym same) ∙ hold;
                  classes = r.keep;
                  initials = i.kept;
                  terminals = j.kept;
                  arcs = k.kept;
                  penalties = bytes-penalties k.items k.rest (subst (All (All IsByte)) k.lines j.small);
                };
            lines =
                all_lines c c.states bs t r
                ∙ ap (λ (l : List (List ℕ)). class_lines 0 r.classes ++ l)
                (i.lines
                ∙ ap (λ (l : List (List ℕ)). map initial_bytes i.items ++ l)
                (j.lines
                ∙ ap (λ (l : List (List ℕ)). map terminal_bytes j.items ++ l)
                (k.lines ∙ ap (λ (l : List (List ℕ)). map arc_bytes k.items ++ l) close.1)));
          }

  items-read : All (All IsByte) bs → parse_bytes (within c (empty_table c.states)) bs ≡ accepted t → Read c bs t
  items-read small e = go₀ (classes-parsed c c.states no_classes bs t no_classes-keep small e)
    where
      go₂ : (r : Classes) (i : Initials r) → Terminals r i → Read c bs t
      go₂ r i j =
          let u = table_with c.states r.classes i.items j.items [] in
          all_read r i j (items_parsed_lem c _ c.arcs [] j.rest t (no_class u (get_or j.rest 0 []) (some_read r i)) (omega arith) j.small j.parse)

      go₁ : (r : Classes) → Initials r → Read c bs t
      go₁ r i =
          let u = table_with c.states r.classes i.items [] [] in
          go₂ r i (items_parsed_lem c _ c.terminals [] i.rest t (no_class u (get_or i.rest 0 []) (some_read r i)) (omega arith) i.small i.parse)

      go₀ : Classes → Read c bs t
      go₀ r = go₁ r (items_parsed_lem c (initial_phase c c.states r.classes) c.initials [] r.rest t r.over (omega arith) r.small r.parse)

-- the header line first
lines-read : (bs : List (List ℕ)) (t : Table) → All (All IsByte) bs → parse_bytes opening bs ≡ accepted t
    → (keeps_rules t ≡ true) × (bs ≡ header_bytes (counts_of t) ∷ item_lines t)
unfolding parse_bytes
lines-read [] t small e = let z : ◌≡◌ {A = ℕ} 0 1 = cc in absurd (omega arith)
lines-read (b ∷ bs) t small e =
    let d = one-parsed opening b bs t e in
    let k = (and-eq-true_iff (is_header b) (counts_hold (counts_from b))).0 (sym (header_line-clear b) ∙ d.0) in
    let r = items-read (counts_from b) bs t k.1 small.1 (ap (λ (p : Progress). parse_bytes p bs) (sym (header_onward b)) ∙ d.1) in
    let first : b ≡ header_bytes (counts_of t) = header_only b small.0 k.0 ∙ ap header_bytes r.counts in
    ((keeps-parts t).1 r.keeps, ap₂ (λ (x : List ℕ) (xs : List (List ℕ)). x ∷ xs) first r.lines)

pub read-text : (x : List ℕ) (t : Table) → parsed x ≡ accepted t → (keeps_rules t ≡ true) × (x ≡ text_of t)
unfolding parsed text_of
read-text x t e = go (lines-parsed opening (lines_of x) t e)
  where
    go : ParsedLines opening (lines_of x) t → (keeps_rules t ≡ true) × (x ≡ text_of t)
    go s =
        let r = lines-read s.bytes t s.small s.parse in
        (r.0, join_lines_lem x s.bytes s.lines ∙ ap join_lines r.1)

-- Both together.

pub determines : (x : List ℕ) (t : Table) → (parsed x ≡ accepted t) ↔ ((keeps_rules t ≡ true) × (x ≡ text_of t))
determines x t = (read-text x t, λ h. ap parsed h.1 ∙ text-read t h.0)

-- no two tables that keep the rules have one text
pub text_injective : (t u : Table) → keeps_rules t ≡ true → keeps_rules u ≡ true → text_of t ≡ text_of u → t ≡ u
text_injective t u k l e = go (sym (text-read t k) ∙ ap parsed e ∙ text-read u l)
  where
    go : accepted t ≡ accepted u → t ≡ u
    go h = cc

-- what is turned down is the text of no table that keeps the rules
pub nobodys_text : (x : List ℕ) → ((c : InputCause) × (parsed x ≡ turned_down c)) ↔ ((t : Table) → keeps_rules t ≡ true → x ≡ text_of t → ⊥)
nobodys_text x = (
  λ h t k e. let a = (determines x t).1 (k, e) in let z : ◌≡◌ {A = ℕ} 0 1 = cc h.1 in omega arith,
  λ none. go none (parsed x) refl,
)
  where
    go : ((t : Table) → keeps_rules t ≡ true → x ≡ text_of t → ⊥) → (p : Parsed) → parsed x ≡ p → (c : InputCause) × (parsed x ≡ turned_down c)
    go none (accepted t) h = let d = (determines x t).0 h in absurd (none t d.0 d.1)
    go none (turned_down c) h = (c, h)

-- The end line tells how many lines stand before it.
pub end-tells : (t : Table) → (ls : List (List ℕ)) × (text_of t ≡ join_lines (ls ++ (end_bytes (length ls) ∷ [])))
unfolding text_of item_lines
end-tells t = (ls, ap join_lines (lines ∙ ap (λ (n : ℕ). ls ++ (end_bytes n ∷ [])) count))
  where
    ls : List (List ℕ)
    ls =
        header_bytes (counts_of t)
        ∷ (class_lines 0 t.classes ++ (map initial_bytes t.initials ++ (map terminal_bytes t.terminals ++ map arc_bytes t.arcs)))

    lines : header_bytes (counts_of t) ∷ item_lines t ≡ ls ++ (end_bytes (lines_before t) ∷ [])
    lines = simp append_assoc

    count : lines_before t ≡ length ls
    count = simp (length-append, length-map) (omega arith)
