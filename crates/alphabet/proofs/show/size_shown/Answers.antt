-- One byte, or those of a letter.
use Rattle.std.proofs.Common.{ap, sym, length, ◌∙◌}
use Rattle.std.proofs.lemmas.Str.{length-encode}
use Rattle.alphabet.proofs.Shown.{size-one, size-shown}
use Rattle.alphabet.proofs.show.size_shown.Goals as goal

pub returns-in-Some : goal.returns-in-Some
returns-in-Some c =
    let is = c.in-Some.ensures in
    c.len_utf8.ensures.value ∙ sym (length-encode c.in-Some.letter) ∙ ap length (size-shown c.args.character c.in-Some.letter is.0 is.1 is.2)

pub returns-in-None : goal.returns-in-None
returns-in-None c = sym (size-one c.args.character c.in-None.ensures)
