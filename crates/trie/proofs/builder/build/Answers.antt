-- The check, then the cells, then the destination.
use mathlib.Core.Path.{◌≡◌, refl, sym, ap, ◌∙◌}
use lib.Seq.{length-take-le}
use Rattle.std.proofs.Common.{rules, Err}
use Rattle.refusal.specs.declared.Refusal.TheVariants.{Input}
use Rattle.destination.specs.Told.{stored_told}
use Rattle.trie.proofs.Calls.{check_fault, check_states, made-room, made-stored}
use Rattle.trie.proofs.builder.build.Goals as goal

pub returns-in_err-states : goal.returns-in_err-states
returns-in_err-states c =
    let e : c.from_residual.result ≡ Err (Input c.in_err-states.field-0.0) = search rules in
    let told = check_fault c.args.words.now c.args.table.now _ (sym c.check.ensures ∙ c.in_err-states.was) in
    (ap stored_told (e ∙ sym told.0), sym told.1)

pub fill-end-requires : goal.fill-end-requires
fill-end-requires c = record { taken_as = check_states c.args.words.now _ (sym c.check.ensures ∙ c.in_ok-states.was); cells_len = refl }

pub slice_bounds-cells-end : goal.slice_bounds-cells-end
slice_bounds-cells-end c =
    let found = check_states c.args.words.now _ (sym c.check.ensures ∙ c.in_ok-states.was) in
    let filled = c.fill-end.ensures found.0 found.1 in
    made-room c.args.words.now c.args.table.now found.0 found.1 _ _ _ refl filled.0 filled.1

pub slice_bounds-store-end : goal.slice_bounds-store-end
slice_bounds-store-end c =
    let found = check_states c.args.words.now _ (sym c.check.ensures ∙ c.in_ok-states.was) in
    let filled = c.fill-end.ensures found.0 found.1 in
    sym (length-take-le _ _ (made-room c.args.words.now c.args.table.now found.0 found.1 _ _ _ refl filled.0 filled.1))

pub returns : goal.returns
returns c =
    let found = check_states c.args.words.now _ (sym c.check.ensures ∙ c.in_ok-states.was) in
    let filled = c.fill-end.ensures found.0 found.1 in
    let told = made-stored c.args.words.now c.args.table.now found.0 found.1 _ _ _ refl filled.0 filled.1 _ _ c.store.ensures.answer c.store.ensures.left in
    (ap stored_told told.0, told.1)
