use Rattle.std.proofs.Common.{◌≡◌, ◌++◌, drop}
use Rattle.lq_value.specs.KeyTests.{key_is}
use Rattle.lq_value.specs.Lookups.{first_places, first_places_from}
use Rattle.lq_lookup.proofs.firsts.distinct.Given as goal

-- the first places so far are found, so that what is left decides the others
abbrev pub invariant-loop-place : goal.invariant-loop-place
invariant-loop-place l = l.firsts.items ++ first_places_from key_is l.seen l.place (drop l.place l.keys) ≡ first_places key_is l.keys
