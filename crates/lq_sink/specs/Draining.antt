-- Streams that are given item by item to what takes them, until it stops.
use Rattle.std.specs.Prelude.{◌≡◌, ◌∷◌, List, []}
use Rattle.lq_value.specs.declared.value.End.{End}
use Rattle.lq_value.specs.declared.value.End.TheVariants as end
use Rattle.lq_sink.specs.declared.sinks.Flow.{Flow}
use Rattle.lq_sink.specs.declared.sinks.Flow.TheVariants as flow

-- the one where more is taken, and the other where no more is
abbrev pub OnFlow : Flow → Type 0 → Type 0 → Type 0
OnFlow flow.Go goes stops = goes
OnFlow flow.Stop goes stops = stops

-- Items are taken one after the other, none after a stop. The answer is how they end, or after a stop that they are done.
abbrev pub Drains : {K A : Type 0} → (K → A → Flow → K → Type 0) → List A → End → K → End → K → Type 0
Drains takes [] e old answer new = (answer ≡ e) × (new ≡ old)
Drains {K} takes (x ∷ xs) e old answer new =
    (said : Flow) × (middle : K) × takes old x said middle × OnFlow said (Drains takes xs e middle answer new) ((answer ≡ end.Done) × (new ≡ middle))
