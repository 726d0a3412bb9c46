use Rattle.std.proofs.Common.{◌≡◌, map}
use Rattle.lq_tree.specs.Binding.{form_of_field}
use Rattle.lq_bind.proofs.fields.forms_of.Given as goal

-- the forms of the members so far
abbrev pub invariant-loop-field : goal.invariant-loop-field
invariant-loop-field l = l.forms ≡ map form_of_field l.yielded
