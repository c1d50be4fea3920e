-- The character, or the bytes of its letter.
use Rattle.std.proofs.Common.{ℕ, ◌+◌, List, length, arith, ap, sym, ◌∙◌}
use Rattle.std.proofs.lemmas.List.Edits.{sets}
use Rattle.alphabet.proofs.Shown.{shown-itself, size-one, size-shown}
use Rattle.alphabet.proofs.show.put_shown.Goals as goal

pub bounds-destination-at : goal.bounds-destination-at
bounds-destination-at c = omega (arith, size-one c.args.character c.in_default.ensures)

pub returns-in_default : goal.returns-in_default
returns-in_default c =
    let args = c.args in
    let itself = shown-itself args.character c.in_default.ensures in
    (ap (λ (l : List ℕ). args.at + length l) (sym itself), ap (sets args.destination.now args.at) (sym itself))

pub put-requires : goal.put-requires
put-requires c =
    let is = c.in-Some.ensures in
    omega (arith, ap length (size-shown c.args.character c.in-Some.letter is.0 is.1 is.2), ap length (c.as_bytes-bytes.ensures.value ∙ c.encode_utf8.ensures.value))

pub returns : goal.returns
returns c =
    let is = c.in-Some.ensures in
    let bytes = c.as_bytes-bytes.ensures.value ∙ c.encode_utf8.ensures.value ∙ size-shown c.args.character c.in-Some.letter is.0 is.1 is.2 in
    (ap (λ (l : List ℕ). c.args.at + length l) bytes, c.put.ensures ∙ ap (sets c.args.destination.now c.args.at) bytes)
