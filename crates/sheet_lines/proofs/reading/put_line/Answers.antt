-- What stands before the letters, their faces, then blanks and the line feed.
use native.Mathlib.Omega.{arith}
use Rattle.faces.specs.Faces.{face_of}
use Rattle.sheet_lines.proofs.Stores.{line-stored}
use Rattle.sheet_lines.proofs.reading.put_line.Goals as goal

pub returns : goal.returns
returns c =
    let args = c.args in
    line-stored _ _ _ _ args.at (face_of args.faces.now) args.lead.now args.letters.now (omega arith) c.requires.letters_len_bound.0 c.put.ensures c.put_faces.ensures c.put_end.ensures
