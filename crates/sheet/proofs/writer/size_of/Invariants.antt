-- At every turn, the lines counted and those of the readings that are left are the lines of the sheet.
use Rattle.sheet.proofs.Stored.{Counting}
use Rattle.sheet.proofs.writer.size_of.Given as goal

abbrev pub invariant-loop-reading : goal.invariant-loop-reading
invariant-loop-reading l = Counting l.readings l.reading-iterator.0.now l.lines
