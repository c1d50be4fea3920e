-- No line, a malformed one, and whether a line is alone, not too long and a query's.
use Rattle.std.proofs.Common.{◌<◌, replicate, length, sym, ◌∙◌}
use borrow.Author.Tests.{eqb-true}
use Rattle.session_query.specs.Query.{query_bytes}
use Rattle.table_scanner.proofs.ScannedLine.{LineRead, line_read, line-bad}
use Rattle.session_query.proofs.Queries.{some-text, asks_none, asks-bad, asks-followed, asks-long, asks-other, asks-query}
use Rattle.session_query.proofs.asker.query.Goals as goal
use Rattle.session_query.proofs.asker.query.Goals.{In-Ok, else-next-text-via-then-next-text+then-count-le-QUERY_BYTES+else-is_query, else-next-text-via-then-next-text+else-count-le-QUERY_BYTES, else-next-text-via-else-next-text}

-- the line, well formed
line : (c : In-Ok) → LineRead c.args.text.now 0 c.in-Ok.line.count c.in-Ok.line.next (replicate query_bytes 0) c.scan.new.bytes
line c = line_read _ 0 (some-text c.args.text.now c.if-is_empty.ensures) c.scan.ensures.0 c.in-Ok.is c.scan.ensures.1

pub returns-then-is_empty : goal.returns-then-is_empty
returns-then-is_empty c = asks_none c.args.text.now (eqb-true (length c.args.text.now) 0 (sym c.if-is_empty.ensures)) c.none.result c.none.ensures

pub returns-in-Err : goal.returns-in-Err
returns-in-Err c =
    let some : 0 < length c.args.text.now = some-text c.args.text.now c.if-is_empty.ensures in
    let bad = line-bad _ 0 some c.scan.ensures.0 c.in-Err.is in
    asks-bad c.args.text.now bad.1 c.none-in-Err.result (rw (sym bad.0) c.none-in-Err.ensures)

pub returns-then-is_query : goal.returns-then-is_query
returns-then-is_query c = asks-query _ (line (goal.at.returns-then-is_query c).In-Ok) c.if-count-le-QUERY_BYTES.true c.if-next-text.true (sym c.if-is_query.true ∙ c.is_query.ensures)

pub returns-else-next-text : goal.returns-else-next-text
returns-else-next-text c =
    let l = line (goal.at.returns-else-next-text c).In-Ok in
    let r = c.none-else-next-text.result in
    let k = c.none-else-next-text.ensures in
    elim c.else-next-text.branch [
      | else-next-text-via-then-next-text+then-count-le-QUERY_BYTES+else-is_query w ↦ asks-other _ l w.if-count-le-QUERY_BYTES.true (sym w.if-is_query.false ∙ w.is_query.ensures) r k
      | else-next-text-via-then-next-text+else-count-le-QUERY_BYTES w ↦ asks-long _ l r k w.if-count-le-QUERY_BYTES.false
      | else-next-text-via-else-next-text w ↦ asks-followed _ l r k w.if-next-text.false
    ]
