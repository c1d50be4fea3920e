-- The first place.
use Rattle.std.proofs.Common.{rules}
use Rattle.alphabet.proofs.Places.{FirstIs, place_found}
use Rattle.alphabet.proofs.letters.place.Goals as goal

pub returns : goal.returns
returns c = let first : FirstIs c.args.code c.args.row.now c.position.result = search rules in place_found c.args.code c.args.row.now c.position.result first
