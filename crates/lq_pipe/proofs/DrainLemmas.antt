-- Streams that are given to what takes items: what is left of them, and the whole.
use Rattle.std.proofs.Common.{◌≡◌, [], refl, subst, sym}
use Rattle.lq_value.specs.declared.value.End.{End}
use Rattle.lq_value.specs.declared.value.End.TheVariants as end
use Rattle.lq_language.specs.Enumerable.{in_front}
use Rattle.lq_language.specs.Stream.{Stream}
use Rattle.lq_sink.specs.Draining.{Drains}
use Rattle.lq_sink.specs.declared.sinks.Flow.{Flow}
use Rattle.lq_sink.specs.declared.sinks.Flow.TheVariants as flow

module _ {K A : Type 0} (takes : K → A → Flow → K → Type 0) where
  -- a stream is given from a sink to a sink
  abbrev pub Drained : Stream A → K → End → K → Type 0
  Drained s old answer new = Drains takes s.0 s.1 old answer new

  -- whatever is left comes to, the whole comes to
  abbrev pub Remains : Stream A → K → Stream A → K → Type 0
  Remains whole start left now = (answer : End) (new : K) → Drained left now answer new → Drained whole start answer new

  pub remains_at_first : (whole left : Stream A) (k : K) → left ≡ whole → Remains whole k left k
  remains_at_first whole left k is answer new drained = subst (λ (s : Stream A). Drained s k answer new) is drained

  -- one more is taken
  pub remains_on : (whole : Stream A) (start : K) (left : Stream A) (now : K) (x : A) (further : Stream A) (next : K) → Remains whole start left now
      → left ≡ in_front x further → takes now x flow.Go next → Remains whole start further next
  remains_on whole start left now x further next remains is taken answer new drained =
      remains answer new (subst (λ (s : Stream A). Drained s now answer new) (sym is) (flow.Go, next, taken, drained))

  -- no more is taken
  pub remains_stopped : (whole : Stream A) (start : K) (left : Stream A) (now : K) (x : A) (further : Stream A) (next : K) → Remains whole start left now
      → left ≡ in_front x further → takes now x flow.Stop next → Drained whole start end.Done next
  remains_stopped whole start left now x further next remains is taken =
      remains end.Done next (subst (λ (s : Stream A). Drained s now end.Done next) (sym is) (flow.Stop, next, taken, (refl, refl)))

  -- none is left
  pub remains_ended : (whole : Stream A) (start : K) (left : Stream A) (now : K) (e : End) → Remains whole start left now → left ≡ ([], e)
      → Drained whole start e now
  remains_ended whole start left now e remains is = remains e now (subst (λ (s : Stream A). Drained s now e now) (sym is) (refl, refl))

pub ruleset remains = (remains_at_first, remains_on, remains_stopped, remains_ended)
