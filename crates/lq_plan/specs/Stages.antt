-- Forms that are a stage over a source, and all others, which are the bases of their own items.
use Rattle.std.specs.Prelude.{◌≡◌, Bool, true, false}
use Rattle.lq_tree.specs.declared.tree.Form.{Form, out-Form}
use Rattle.lq_tree.specs.declared.tree.Form.TheOpen.{Form-F}
use Rattle.lq_tree.specs.declared.tree.Form.TheVariants as form
use Rattle.lq_plan.specs.declared.stages.Stage.{Stage}
use Rattle.lq_plan.specs.declared.stages.Stage.TheVariants as stage

-- the form is this stage over this source
abbrev pub IsStageOver : Form → Stage → Form → Type 0
IsStageOver f stage.Plain a = f ≡ form.Sequence a
IsStageOver f (stage.Where c) a = f ≡ form.Where a c.now
IsStageOver f (stage.Select g) a = f ≡ form.Select a g.now

-- no item goes through such a form
abbrev pub is_base_step : Form-F Form → Bool
is_base_step (Form-F.Where a c) = false
is_base_step (Form-F.Select a g) = false
is_base_step (Form-F.Sequence a) = false
is_base_step layer = true

abbrev pub is_base : Form → Bool
is_base f = is_base_step (out-Form f)

-- a base, and a sequence that is made of one
abbrev pub has_no_stage_step : Form-F Form → Bool
has_no_stage_step (Form-F.Where a c) = false
has_no_stage_step (Form-F.Select a g) = false
has_no_stage_step (Form-F.Sequence a) = is_base a
has_no_stage_step layer = true

abbrev pub has_no_stage : Form → Bool
has_no_stage f = has_no_stage_step (out-Form f)
