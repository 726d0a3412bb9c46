-- A step through a stream.
use Rattle.std.specs.Prelude.{◌≡◌, ◌∷◌, [], Result, Ok, Err}
use Rattle.lq_value.specs.declared.value.End.{End}
use Rattle.lq_value.specs.declared.value.End.TheVariants as end
use Rattle.lq_language.specs.Enumerable.{in_front}
use Rattle.lq_language.specs.Stream.{Stream}

-- from what was left of a stream to what is left then: what comes first, or how it ends
abbrev pub Steps : {A : Type 0} → Stream A → Result A End → Stream A → Type 0
Steps s (Ok x) t = s ≡ in_front x t
Steps s (Err e) t = s ≡ ([], e)

-- what comes of one item is the item that the step gives, or the fault that ends it
abbrev pub GivesStep : {A : Type 0} → Stream A → Result A End → Type 0
GivesStep s (Ok x) = s ≡ (x ∷ [], end.Done)
GivesStep s (Err (end.Fault f)) = s ≡ ([], end.Fault f)
GivesStep s (Err end.Done) = ⊥
