use Rattle.std.proofs.Common.{◌≡◌, bytes_eq, length, map}
use Rattle.std.specs.List.{list_any}
use Rattle.lq_policyfile.proofs.shape.value.is_among.Given as goal

-- the key is looked for among those that are left
abbrev pub invariant-loop-left : goal.invariant-loop-left
invariant-loop-left l = list_any (bytes_eq l.key) (map (λ known. known.now) l.left) ≡ list_any (bytes_eq l.key) (map (λ known. known.now) l.keys)

abbrev pub decreases-loop-left : goal.decreases-loop-left
decreases-loop-left l = length l.left
