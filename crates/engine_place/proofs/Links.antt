-- Tests joined by `&&`.
use mathlib.Core.Path.{◌≡◌, refl, sym, ap, ◌∙◌}
use mathlib.Core.Bool.{Bool, true, false, ◌&&◌}

pub fails-first : (a b : Bool) → a ≡ false → false ≡ (a && b)
fails-first a b e = ap (λ (v : Bool). v && b) (sym e)

pub fails-second : (a b : Bool) → b ≡ false → false ≡ (a && b)
fails-second true b e = sym e
fails-second false b e = refl

pub holds-first : (a b v : Bool) → a ≡ true → v ≡ b → v ≡ (a && b)
holds-first a b v e f = f ∙ ap (λ (w : Bool). w && b) (sym e)
