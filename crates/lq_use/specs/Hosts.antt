-- The columns that a host predicate is asked of, each of which is used.
use Rattle.std.specs.Prelude.{◌∷◌, List, [], ℕ}
use Rattle.lq_host.specs.declared.call.Pick.{Pick}
use Rattle.lq_host.specs.declared.call.Pick.TheVariants as numbers
use Rattle.lq_language.specs.declared.rights.Use.{Use}
use Rattle.lq_language.specs.declared.rights.Use.TheVariants as of

abbrev pub picked_uses : ℕ → Pick → List Use
picked_uses t (numbers.One c) = of.Column t c ∷ []
picked_uses t (numbers.Two c d) = of.Column t c ∷ of.Column t d ∷ []
