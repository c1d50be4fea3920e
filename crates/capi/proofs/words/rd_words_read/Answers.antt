-- What the builder tells, in numbers; the cells are few.
use mathlib.Core.Path.{sym, ◌∙◌}
use Rattle.destination.proofs.Told.{stored_told-one}
use Rattle.capi.proofs.Sizes.{build_small}
use Rattle.capi.proofs.words.rd_words_read.Goals as goal

pub stored_numbers-requires : goal.stored_numbers-requires
stored_numbers-requires c =
    let args = c.args in
    λ n e. build_small args.words.now args.table.now n (sym (stored_told-one _ _ c.build-answer.ensures.0) ∙ e)

pub returns : goal.returns
returns c = let build = c.build-answer.ensures in (c.stored_numbers.ensures ∙ build.0, build.1)
