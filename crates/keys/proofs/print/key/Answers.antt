-- What is written is within its destination.
use Rattle.std.proofs.Common.{sym, length-take-le}
use Rattle.keys.proofs.Bounds.{key-within}
use Rattle.keys.proofs.print.key.Goals as goal

pub slice_bounds-sheet-end : goal.slice_bounds-sheet-end
slice_bounds-sheet-end g c =
    key-within c.sheet_room-sheet.result c.write.new.sheet c.write.auto.sheet _ _ c.in_ok-size.was c.args.table.now c.args.word.now c.face_table-faces.result c.write.ensures.0

pub slice_bounds-lines-end : goal.slice_bounds-lines-end
slice_bounds-lines-end g c =
    sym (length-take-le _ _ (key-within c.sheet_room-sheet.result c.write.new.sheet c.write.auto.sheet _ _ c.in_ok-size.was c.args.table.now c.args.word.now c.face_table-faces.result c.write.ensures.0))
