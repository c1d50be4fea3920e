-- A word that is listed stays where it is; for another one the bytes from its place on are moved, and it is stored there.
use Rattle.std.proofs.Common.{arith, sym, length-take-le}
use Rattle.wordlist_sorted.proofs.Storing.{used_words, used_within, listed_kept, place-within, word-stored}
use Rattle.wordlist_sorted.proofs.insert.Goals as goal

pub slice_bounds-find-end : goal.slice_bounds-find-end
slice_bounds-find-end c =
    let args = c.args in
    let pre = c.requires in
    sym (length-take-le _ _ (used_within pre.0.1 pre.0.0 args.list.now pre.0.2 args.used pre.0.3))

pub find-requires : goal.find-requires
find-requires c =
    let pre = c.requires in
    (pre.0.1, used_words pre.0.1 pre.0.0 c.args.list.now pre.0.2 c.args.used pre.0.3)

pub returns-in_default : goal.returns-in_default
returns-in_default c = λ before ws H u. listed_kept ws before c.args.list.now H c.args.used u c.args.word.now c.find.result c.find.ensures c.in_default.is

pub overflow_add-first : goal.overflow_add-first
overflow_add-first c =
    let pre = c.requires in
    omega (arith, place-within pre.0.1 pre.0.0 c.args.list.now pre.0.2 c.args.used pre.0.3 c.args.word.now c.find.result c.find.ensures c.in-Some.at c.in-Some.is)

pub overflow_add-end : goal.overflow_add-end
overflow_add-end c =
    let pre = c.requires in
    omega (arith, place-within pre.0.1 pre.0.0 c.args.list.now pre.0.2 c.args.used pre.0.3 c.args.word.now c.find.result c.find.ensures c.in-Some.at c.in-Some.is)

pub copy_within-requires-clause-start_le_end : goal.copy_within-requires-clause-start_le_end
copy_within-requires-clause-start_le_end c =
    let pre = c.requires in
    place-within pre.0.1 pre.0.0 c.args.list.now pre.0.2 c.args.used pre.0.3 c.args.word.now c.find.result c.find.ensures c.in-Some.at c.in-Some.is

pub copy_within-requires-clause-dest_in_bounds : goal.copy_within-requires-clause-dest_in_bounds
copy_within-requires-clause-dest_in_bounds c =
    let pre = c.requires in
    omega (arith, place-within pre.0.1 pre.0.0 c.args.list.now pre.0.2 c.args.used pre.0.3 c.args.word.now c.find.result c.find.ensures c.in-Some.at c.in-Some.is)

pub bounds-list-at : goal.bounds-list-at
bounds-list-at c =
    let pre = c.requires in
    omega (arith, place-within pre.0.1 pre.0.0 c.args.list.now pre.0.2 c.args.used pre.0.3 c.args.word.now c.find.result c.find.ensures c.in-Some.at c.in-Some.is)

pub put-requires : goal.put-requires
put-requires c =
    let pre = c.requires in
    omega (arith, place-within pre.0.1 pre.0.0 c.args.list.now pre.0.2 c.args.used pre.0.3 c.args.word.now c.find.result c.find.ensures c.in-Some.at c.in-Some.is)

pub returns : goal.returns
returns c = λ before ws H u.
    word-stored ws before c.args.list.now H c.args.used u c.args.word.now c.find.result c.find.ensures c.in-Some.at c.in-Some.is
    c.copy_within.new.self c.put.new.destination (omega arith) c.copy_within.ensures.after c.put.ensures
