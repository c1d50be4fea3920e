-- The literal is the line, character by character.
use mathlib.Core.Path.{refl}
use Rattle.sheet_lines.specs.Lines.{filled}
use Rattle.sheet.proofs.ends.opening_line.Goals as goal

pub returns : goal.returns
unfolding filled
returns c = refl
