use Rattle.std.proofs.Common.{◌≡◌, drop, bytes_eq}
use Rattle.std.specs.List.{position_from}
use Rattle.lq_run.proofs.definitions.place_of.Given as goal

-- the definition is looked for among those from here on
abbrev pub invariant-loop-place : goal.invariant-loop-place
invariant-loop-place l =
    position_from (λ d. bytes_eq d.name l.name) l.place (drop l.place l.definitions) ≡ position_from (λ d. bytes_eq d.name l.name) 0 l.definitions
