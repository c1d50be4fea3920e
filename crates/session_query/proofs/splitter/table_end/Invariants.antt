-- At every turn what is passed and what is left through the line that is looked for add up to the table's text.
use Rattle.std.proofs.Common.{◌≡◌, drop}
use Rattle.std.specs.Slice.Iter.{split_inclusive_rest}
use Rattle.session_query.proofs.Parts.{Counted}
use Rattle.session_query.proofs.splitter.table_end.Given as goal

abbrev pub invariant-loop-line : goal.invariant-loop-line
invariant-loop-line l = record {
  callable : (goal.iterator-loop-line).can_next l.line-iterator;
  finite : (goal.iterator-loop-line).is_finite l.line-iterator;
  rest : split_inclusive_rest l.line-iterator ≡ drop l.end l.text;
  counted : Counted l.text l.end;
}
