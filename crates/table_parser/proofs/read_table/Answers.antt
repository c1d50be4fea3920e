use Prim.Native.Nat.{ℕ, ◌<◌}
use native.Mathlib.Omega.{arith}
use mathlib.Core.Path.{◌≡◌, sym, ap, ◌∙◌}
use mathlib.Core.Bool.{Bool, true, false}
use lib.Dec.{eqb}
use borrow.Author.Tests.{eqb-true, eqb-false}
use lib.ListN.{drop, get_or, replicate}
use mathlib.Core.List.{List}
use Rattle.table_format.specs.Table.{Counts}
use Rattle.table_format.specs.Rules.{counts_hold}
use Rattle.table_format.specs.Loaded.{count_cells, counts_in}
use Rattle.table_format.specs.Line.{bytes_of}
use Rattle.table_format.specs.Parse.{header_kind, is_header, counts_from, parsed, turned_down}
use Rattle.table_format.specs.Text.{header_width, line_bytes}
use Rattle.table_scanner.specs.Scan.{padded}
use Rattle.table_items.specs.Draft.{filled_up}
use Rattle.refusal.specs.declared.InputCause.{InputCause}
use Rattle.table_parser.specs.Gathered.{gathered, items_parsed}
use Rattle.table_scanner.proofs.ScannedLine.{LineRead, line_read, line-bad}
use Rattle.table_scanner.proofs.Padded.{byte_at, counts_as_lem}
use Rattle.table_items.proofs.Filled.{counts-filled}
use Rattle.table_items.proofs.LineKinds.{has_form_lem, not_code, not_wide}
use Rattle.table_parser.proofs.Items.{header_missing, header_bad, header_misplaced, header_limit, header_on, gathered-all, gathered-refused}
use Rattle.table_parser.proofs.read_table.Goals as goal
use Rattle.table_parser.proofs.read_table.Goals.{then-count-ne-HEADER_BYTES-via-then-count-ne-HEADER_BYTES, then-count-ne-HEADER_BYTES-via-else-count-ne-HEADER_BYTES+then-bytes-ne-HEADER_KIND}

-- a text that is not empty
some : (n : ℕ) {r : Bool} → r ≡ eqb n 0 → r ≡ false → 0 < n
some n e f = let z = eqb-false n 0 (sym e ∙ f) in omega arith

-- the first line, its bytes in their array, and that it is a header
module _ {text : List ℕ} {count next : ℕ} {bytes : List ℕ} (L : LineRead text 0 count next (replicate line_bytes 0) bytes) where
  abbrev said : List ℕ
  said = bytes_of L.line.chars

  bytes-are : bytes ≡ padded said
  unfolding padded
  bytes-are = L.bytes-are

  is-header : get_or bytes 0 0 ≡ header_kind → count ≡ header_width → is_header said ≡ true
  is-header k h = has_form_lem header_kind header_width said (sym (byte_at bytes said bytes-are 0 (omega arith)) ∙ k) (sym L.count-is ∙ h)

  -- its counts
  counts-are : {cells : List ℕ} → cells ≡ filled_up (count_cells (counts_from bytes)) → counts_in cells ≡ counts_from said
  counts-are e = ap counts_in e ∙ counts-filled _ ∙ counts_as_lem bytes said bytes-are

  counts-told : {cells : List ℕ} {r : Bool} (b : Bool) → cells ≡ filled_up (count_cells (counts_from bytes)) → r ≡ counts_hold (counts_in cells) → r ≡ b
      → counts_hold (counts_from said) ≡ b
  counts-told b e h t = sym (ap counts_hold (counts-are e)) ∙ sym h ∙ t

pub returns-then-is_empty : goal.returns-then-is_empty
returns-then-is_empty c = c.refused.ensures ∙ ap gathered (sym (header_missing c.args.text.now (eqb-true _ 0 (sym c.is_empty.ensures ∙ c.if-is_empty.true))))

pub returns-in-Err : goal.returns-in-Err
returns-in-Err c =
    let bad = line-bad _ 0 (some _ c.is_empty.ensures c.if-is_empty.false) c.scan.ensures.0 c.in-Err.is in
    c.refused-in-Err.ensures ∙ ap (λ (f : InputCause). gathered (turned_down f)) bad.0 ∙ ap gathered (sym (header_bad _ bad.1))

pub returns-then-count-ne-HEADER_BYTES : goal.returns-then-count-ne-HEADER_BYTES
returns-then-count-ne-HEADER_BYTES c =
    let L = line_read _ 0 (some _ c.is_empty.ensures c.if-is_empty.false) c.scan.ensures.0 c.in-Ok.is c.scan.ensures.1 in
    let b = said L in
    c.refused-then-count-ne-HEADER_BYTES.ensures
    ∙ elim c.then-count-ne-HEADER_BYTES.branch [
      | then-count-ne-HEADER_BYTES-via-then-count-ne-HEADER_BYTES w ↦
          ap gathered (sym (header_misplaced L (not_wide header_kind header_width b (λ z. w.if-count-ne-HEADER_BYTES.true (L.count-is ∙ z)))))
      | then-count-ne-HEADER_BYTES-via-else-count-ne-HEADER_BYTES+then-bytes-ne-HEADER_KIND w ↦
          ap gathered (sym (header_misplaced L (not_code header_kind header_width b (λ z. w.if-bytes-ne-HEADER_KIND.true (byte_at _ b (bytes-are L) 0 (omega arith) ∙ z)))))
    ]

pub returns-then-not-counts_hold : goal.returns-then-not-counts_hold
returns-then-not-counts_hold c =
    let L = line_read _ 0 (some _ c.is_empty.ensures c.if-is_empty.false) c.scan.ensures.0 c.in-Ok.is c.scan.ensures.1 in
    c.refused-then-not-counts_hold.ensures
    ∙ ap gathered
    (sym (header_limit L (is-header L c.if-bytes-ne-HEADER_KIND.false c.if-count-ne-HEADER_BYTES.false) (counts-told L false c.counted-cells.ensures c.counts_hold.ensures c.if-not-counts_hold.true)))

pub read_items-requires : goal.read_items-requires
read_items-requires c =
    let L = line_read _ 0 (some _ c.is_empty.ensures c.if-is_empty.false) c.scan.ensures.0 c.in-Ok.is c.scan.ensures.1 in (
      L.next-inside,
      sym c.counts_hold.ensures ∙ c.if-not-counts_hold.false,
      c.counted-cells.ensures ∙ ap (λ (x : Counts). filled_up (count_cells x)) (sym (ap counts_in c.counted-cells.ensures ∙ counts-filled _)),
    )

-- the parse goes on after the header line
goes-on : {text : List ℕ} {count next : ℕ} {bytes cells : List ℕ} {r : Bool} (L : LineRead text 0 count next (replicate line_bytes 0) bytes) → get_or bytes 0 0 ≡ header_kind
    → count ≡ header_width → cells ≡ filled_up (count_cells (counts_from bytes)) → r ≡ counts_hold (counts_in cells) → r ≡ true
    → items_parsed (counts_in cells) (drop next text) ≡ parsed text
goes-on {text = text} {next = next} L k w e h t =
    ap (λ (x : Counts). items_parsed x (drop next text)) (counts-are L e) ∙ sym (header_on L (is-header L k w) (counts-told L true e h t))

pub returns-in-Ok-read_items : goal.returns-in-Ok-read_items
returns-in-Ok-read_items c =
    let L = line_read _ 0 (some _ c.is_empty.ensures c.if-is_empty.false) c.scan.ensures.0 c.in-Ok.is c.scan.ensures.1 in
    gathered-all _ c.read_items.ensures c.in-Ok-read_items.is
    ∙ ap gathered (goes-on L c.if-bytes-ne-HEADER_KIND.false c.if-count-ne-HEADER_BYTES.false c.counted-cells.ensures c.counts_hold.ensures c.if-not-counts_hold.false)

pub returns-in-Err-read_items : goal.returns-in-Err-read_items
returns-in-Err-read_items c =
    let L = line_read _ 0 (some _ c.is_empty.ensures c.if-is_empty.false) c.scan.ensures.0 c.in-Ok.is c.scan.ensures.1 in
    c.refused-in-Err-read_items.ensures
    ∙ gathered-refused _ _ c.read_items.ensures c.in-Err-read_items.is
    ∙ ap gathered (goes-on L c.if-bytes-ne-HEADER_KIND.false c.if-count-ne-HEADER_BYTES.false c.counted-cells.ensures c.counts_hold.ensures c.if-not-counts_hold.false)
