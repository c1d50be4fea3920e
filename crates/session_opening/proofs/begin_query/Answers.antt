-- The query's faults, the start's, then what is stored.
use Rattle.std.proofs.Common.{◌≡◌, ◌++◌, length, drop, ap}
use borrow.Rule.Slice.PartMut.{post_of}
use Rattle.table_format.specs.Line.{lines_of}
use Rattle.session_opening.proofs.Outcome.{start-refused, start-ready}
use Rattle.session_opening.proofs.begin_query.Goals as goal

pub returns-in-Refused : goal.returns-in-Refused
returns-in-Refused c =
    start-refused c.args.cells.now (lines_of c.args.text.now) c.query-question.result c.query-question.ensures c.in_ok-question.was c.task.result c.task.ensures _ _ c.upper.ensures c.lower.ensures
    c.start-started.result c.start-started.ensures c.args.table.now c.args.query.now.bytes _ c.in-Refused.is

pub returns : goal.returns
returns c =
    let copied : c.copy_from_slice.new.self ++ post_of 0 (length c.args.cells.now) c.args.table.now ≡ c.args.cells.now ++ drop (length c.args.cells.now) c.args.table.now =
    ap (λ l. l ++ drop (length c.args.cells.now) c.args.table.now) c.copy_from_slice.ensures.after in
    start-ready c.args.cells.now (lines_of c.args.text.now) c.query-question.result c.query-question.ensures c.in_ok-question.was c.task.result c.task.ensures _ _ c.upper.ensures c.lower.ensures
    c.start-started.result c.start-started.ensures c.args.table.now c.args.query.now.bytes c.in_default.is _ _ c.first.ensures copied
