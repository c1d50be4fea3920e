use Rattle.std.specs.Prelude.{Result, Err}
use Rattle.std.proofs.lemmas.Result.{err_from_is_err_and}
use Prim.Native.Nat.{ℕ, ◌≤◌}
use native.Mathlib.Omega.{arith}
use mathlib.Core.Path.{◌≡◌, refl, sym, ap, subst, ◌∙◌}
use mathlib.Core.List.{List}
use lib.ListN.{length, get_or, replicate}
use lib.Seq.{sets}
use Rattle.table_format.specs.Table.{Table, Counts}
use Rattle.table_format.specs.Loaded.{counts_in}
use Rattle.table_format.specs.Line.{bytes_of}
use Rattle.table_format.specs.Text.{line_bytes}
use Rattle.table_rules.specs.Judge.{judged}
use Rattle.table_format.specs.Parse.{LineKind, due, kind_faults}
use Rattle.refusal.specs.declared.InputCause.{InputCause}
use Rattle.table_scanner.specs.Scan.{padded}
use Rattle.table_items.specs.Draft.{kind_after, IsItem, filled_after, place_of, item_cells, item_key, Tracks}
use Rattle.table_scanner.proofs.ScannedLine.{LineRead, line_read, line-bad}
use Rattle.table_scanner.proofs.Padded.{byte_at}
use Rattle.table_parser.proofs.Items.{is_end, is_no_end, ReadingOn, reading-start, long, due-code, few_bytes, class_below, drafted, item-is, out-refused, out_missing, out-bad, out-broken, out-end, out-after, room, lines-few, reading-more}
use Rattle.table_parser.proofs.read_items.Goals as goal

-- the line that was scanned in a turn, and its bytes in their array
module _ {n : Counts} {text : List ℕ} {start at lines filled top : ℕ} {cells : List ℕ} (R : ReadingOn n text start at lines filled top cells)
    {count next : ℕ} {bytes : List ℕ} (L : LineRead text at count next (replicate line_bytes 0) bytes) where
  abbrev said : List ℕ
  said = bytes_of L.line.chars

  bytes-are : bytes ≡ padded said
  unfolding padded
  bytes-are = L.bytes-are

  -- its kind
  abbrev kind : LineKind
  kind = due n R.table said

  kind-is : {k : LineKind} → k ≡ kind_after (counts_in cells) filled (get_or bytes 0 0) → k ≡ kind
  kind-is e = e ∙ ap (kind_after (counts_in cells) filled) (byte_at bytes said bytes-are 0 (omega arith)) ∙ due-code R said

  -- what it earns
  earns : {k : LineKind} {r : Result (Unit {0}) InputCause} → k ≡ kind
      → ((d : Counts) (t : Table) (b : List ℕ) → Tracks d t lines filled top cells → k ≡ due d t b → bytes ≡ padded b → count ≡ length b
      → r ≡ judged (kind_faults (due d t b) t b))
      → judged (kind_faults kind R.table said) ≡ r
  earns e f = sym (f n R.table said R.tracks e bytes-are L.count-is)

pub loop-at-init : goal.loop-at-init
loop-at-init c = reading-start c.args.text.now c.args.start c.args.cells.now c.requires.0 c.requires.1 c.requires.2

pub returns-in_err-count : goal.returns-in_err-count
returns-in_err-count c =
    let p = err_from_is_err_and c.from_residual.result c.from_residual.ensures.1 in
    let bad = line-bad _ _ c.loop-at-test.true c.scan.ensures.0 c.in_err-count.was in
    out-refused c.loop-at.invariant (out-bad c.loop-at.invariant bad.1) (p.1 ∙ ap Err (p.2 ∙ bad.0))

pub item_fault-requires : goal.item_fault-requires
item_fault-requires c =
    let R = c.loop-at.invariant in
    let L = line_read _ _ c.loop-at-test.true c.scan.ensures.0 c.in_ok-count.was c.scan.ensures.1 in
    drafted R (said R L) (kind-is R L c.kind_due-kind.ensures)

pub returns-in_err-item_fault : goal.returns-in_err-item_fault
returns-in_err-item_fault c =
    let R = c.loop-at.invariant in
    let L = line_read _ _ c.loop-at-test.true c.scan.ensures.0 c.in_ok-count.was c.scan.ensures.1 in
    let k = kind-is R L c.kind_due-kind.ensures in
    let p = err_from_is_err_and c.from_residual-in_err-item_fault.result c.from_residual-in_err-item_fault.ensures.1 in
    out-refused R (out-broken R L _ (earns R L k c.item_fault.ensures ∙ c.in_err-item_fault.was)) (p.1 ∙ ap Err p.2)

pub returns-then-next-text : goal.returns-then-next-text
returns-then-next-text c =
    let R = c.loop-at.invariant in
    let L = line_read _ _ c.loop-at-test.true c.scan.ensures.0 c.in_ok-count.was c.scan.ensures.1 in
    let k = kind-is R L c.kind_due-kind.ensures in
    let kept = earns R L k c.item_fault.ensures ∙ c.in_ok-item_fault.was in
    let at_end = sym k ∙ is_end _ (sym c.eq.ensures ∙ c.if-eq.true) in
    out-refused R (out-after R L kept at_end c.if-next-text.true) (ap Err c.after_end.ensures)

pub returns-then-eq : goal.returns-then-eq
returns-then-eq c =
    let R = c.loop-at.invariant in
    let L = line_read _ _ c.loop-at-test.true c.scan.ensures.0 c.in_ok-count.was c.scan.ensures.1 in
    let k = kind-is R L c.kind_due-kind.ensures in
    let kept = earns R L k c.item_fault.ensures ∙ c.in_ok-item_fault.was in
    let at_end = sym k ∙ is_end _ (sym c.eq.ensures ∙ c.if-eq.true) in
    out-end R L kept at_end c.if-next-text.false

pub overflow_add-draft : goal.overflow_add-draft
overflow_add-draft c = omega (arith, lines-few c.loop-at.invariant)

pub append-requires : goal.append-requires
append-requires c =
    let R = c.loop-at.invariant in
    let L = line_read _ _ c.loop-at-test.true c.scan.ensures.0 c.in_ok-count.was c.scan.ensures.1 in
    let k = kind-is R L c.kind_due-kind.ensures in
    let kept = earns R L k c.item_fault.ensures ∙ c.in_ok-item_fault.was in
    let other = is_no_end _ (sym c.eq.ensures ∙ c.if-eq.false) in
    let room-left = room R (said R L) (λ z. other (k ∙ z)) in
    record {
      arc_width_in_bounds = (omega (arith, long R), omega (arith, long R));
      bytes_bound = λ f.
          let below = class_below R L kept k f in
          omega (arith, byte_at _ (said R L) (bytes-are R L) 1 (omega arith));
    }

pub loop-at-smaller : goal.loop-at-smaller
loop-at-smaller c =
    let L = line_read _ _ c.loop-at-test.true c.scan.ensures.0 c.in_ok-count.was c.scan.ensures.1 in
    omega (arith, L.next-after, L.next-inside)

pub loop-at-preserved : goal.loop-at-preserved
loop-at-preserved c =
    let R = c.loop-at.invariant in
    let L = line_read _ _ c.loop-at-test.true c.scan.ensures.0 c.in_ok-count.was c.scan.ensures.1 in
    let k = kind-is R L c.kind_due-kind.ensures in
    let kept = earns R L k c.item_fault.ensures ∙ c.in_ok-item_fault.was in
    let other = is_no_end _ (sym c.eq.ensures ∙ c.if-eq.false) in
    let b = said R L in
    let e = bytes-are R L in
    let i = item-is R b k other in
    let coded = subst IsItem (sym k) i in
    let cells = c.loop-at.cells in
    let filled = c.loop-at.draft.filled in
    let new : item_key (kind R L) b ≤ c.key.result = subst (λ (j : LineKind). item_key j b ≤ c.key.result) k (c.key.ensures b coded e) in
    let told = c.append.ensures b coded e (few_bytes R L kept) in
    reading-more R L kept _ _ _ i (omega arith) (omega (arith, new))
    (told.0 ∙ ap (λ (j : LineKind). filled_after j b filled) k, told.1 ∙ ap (λ (j : LineKind). sets cells (place_of j b filled) (item_cells j b)) k)

pub returns : goal.returns
returns c = out-refused c.loop-at.invariant (out_missing c.loop-at.invariant c.loop-at-test.false) refl
