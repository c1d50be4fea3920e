-- Each literal is its line, character by character.
use mathlib.Core.Path.{sym, ap}
use mathlib.Core.Bool.{Bool}
use Rattle.sheet_lines.specs.Lines.{filled}
use Rattle.sheet.specs.Sheet.{last_word}
use Rattle.sheet.proofs.ends.last_line.Goals as goal

pub returns-then-ended : goal.returns-then-ended
unfolding filled
returns-then-ended c = sym (ap (λ (b : Bool). filled (last_word b)) c.if-ended.true)

pub returns-else-ended : goal.returns-else-ended
unfolding filled
returns-else-ended c = sym (ap (λ (b : Bool). filled (last_word b)) c.if-ended.false)
