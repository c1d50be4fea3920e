use mathlib.Core.Path.{sym}
use lib.Seq.{length-take-le}
use Rattle.table.proofs.Finish.{left-fault, read-room, left-stored}
use Rattle.table.proofs.reader.read.Goals as goal

-- the array has room for as many cells as are told
pub slice_bounds-cells-end : goal.slice_bounds-cells-end
slice_bounds-cells-end c = read-room c.args.text.now c.args.destination.now c.read_table-read.result c.read_table-read.ensures _ c.in-Ok.is

pub slice_bounds-store-end : goal.slice_bounds-store-end
slice_bounds-store-end c = sym (length-take-le _ _ (read-room c.args.text.now c.args.destination.now c.read_table-read.result c.read_table-read.ensures _ c.in-Ok.is))

pub returns-in-Ok : goal.returns-in-Ok
returns-in-Ok c =
    left-stored c.args.text.now c.args.destination.now c.read_table-read.result c.read_table-read.ensures _ c.in-Ok.is _ _ c.store.ensures.answer c.store.ensures.left

pub returns-in-Err : goal.returns-in-Err
returns-in-Err c = left-fault c.args.text.now c.args.destination.now c.read_table-read.result c.read_table-read.ensures _ c.in-Err.is
