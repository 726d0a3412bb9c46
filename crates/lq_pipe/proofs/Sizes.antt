-- How deep the forms of stages and pipes are.
use Rattle.std.proofs.Common.{◌≡◌, ◌∙◌, ℕ, max}
use Rattle.std.proofs.Math.Nat.{max-zero}
use Rattle.lq_tree.specs.declared.tree.Form.{Form, size-Form}
use Rattle.lq_plan.specs.declared.pipes.Pipe.{Pipe}
use Rattle.lq_plan.specs.declared.stages.Stage.{Stage}
use Rattle.lq_plan.specs.declared.stages.Stage.TheVariants as stage

abbrev pub stage_size : Stage → ℕ
stage_size stage.Plain = 0
stage_size (stage.Where f) = size-Form f.now
stage_size (stage.Select f) = size-Form f.now

abbrev pub pipe_size : Pipe → ℕ
pipe_size pipe = max (size-Form pipe.source.now) (stage_size pipe.stage)

pub plain_size : (pipe : Pipe) (f : Form) → pipe.stage ≡ stage.Plain → pipe.source.now ≡ f → pipe_size pipe ≡ size-Form f
plain_size pipe f plain is = (λ i. max (size-Form (is i)) (stage_size (plain i))) ∙ max-zero (size-Form f)

pub staged_size : (pipe : Pipe) (st : Stage) (f : Form) → pipe.stage ≡ st → pipe.source.now ≡ f → pipe_size pipe ≡ max (size-Form f) (stage_size st)
staged_size pipe st f staged is = λ i. max (size-Form (is i)) (stage_size (staged i))

pub ruleset pipe_sizes = (plain_size, staged_size)
