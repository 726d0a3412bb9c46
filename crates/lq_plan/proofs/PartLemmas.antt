-- The layers of values, and what is found at places.
use Rattle.std.proofs.lemmas.Option.{slice_get-map}
use Rattle.lq_value.specs.declared.value.Value as of_value

pub ruleset layers = (of_value.the_lemmas)

pub ruleset places = (slice_get-map)
