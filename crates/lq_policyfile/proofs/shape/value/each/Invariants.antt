use Rattle.std.proofs.Common.{◌≡◌, length}
use Rattle.toml.specs.View.{items_view}
use Rattle.lq_policyfile.specs.TomlValues.{each}
use Rattle.lq_policyfile.proofs.ShapeLemmas.{put_before}
use Rattle.lq_policyfile.proofs.shape.value.each.Given as goal

-- what is left is read after what was read
abbrev pub invariant-loop-left : goal.invariant-loop-left
invariant-loop-left g l = put_before l.read (each g.T.Shaped.shape (items_view l.left)) ≡ each g.T.Shaped.shape (items_view l.values)

abbrev pub decreases-loop-left : goal.decreases-loop-left
decreases-loop-left g l = length l.left
