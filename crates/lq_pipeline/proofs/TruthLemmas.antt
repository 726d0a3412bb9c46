-- What is decided of items one by one, at an item and at the end.
use Rattle.std.proofs.Common.{◌≡◌, if◌then◌else◌, [], Bool, true, false, Result, Ok, Err, ap, ◌∙◌, sym}
use Rattle.lq_value.specs.declared.value.End.{End}
use Rattle.lq_value.specs.declared.value.Fault.{Fault}
use Rattle.lq_language.specs.Enumerable.{all, at_end, contains, in_front}
use Rattle.lq_language.specs.Operations.{on_ok}
use Rattle.lq_language.specs.Stream.{Stream}
use Rattle.lq_pipeline.specs.Truths.{is_not_true}

module _ {A : Type 0} (same : A → A → Bool) (v : A) where
  -- where the items end, nothing was found
  pub contains_ended : (old : Stream A) (e : End) (whole : Result Bool Fault) → old ≡ ([], e) → contains same v old.0 old.1 ≡ whole → at_end e (Ok false) ≡ whole
  contains_ended old e whole is goes = ap (λ (s : Stream A). contains same v s.0 s.1) (sym is) ∙ goes

module _ {A : Type 0} (holds : A → Result Bool Fault) where
  abbrev All : Stream A → Result Bool Fault
  All s = all holds s.0 s.1

  at_item : (old new : Stream A) (x : A) (truth : Result Bool Fault) → old ≡ in_front x new → truth ≡ holds x
      → All old ≡ on_ok truth (λ b. if b then All new else Ok false)
  at_item old new x truth is gives = ap All is ∙ ap (λ (r : Result Bool Fault). on_ok r (λ b. if b then All new else Ok false)) (sym gives)

  pub all_on : (old new : Stream A) (x : A) (whole : Result Bool Fault) → old ≡ in_front x new → Ok true ≡ holds x → All old ≡ whole → All new ≡ whole
  all_on old new x whole is gives goes = sym (at_item old new x (Ok true) is gives) ∙ goes

  pub all_fails : (old new : Stream A) (x : A) (whole : Result Bool Fault) → old ≡ in_front x new → Ok false ≡ holds x → All old ≡ whole → Ok false ≡ whole
  all_fails old new x whole is gives goes = sym (at_item old new x (Ok false) is gives) ∙ goes

  pub all_faults : (old new : Stream A) (x : A) (f : Fault) (whole : Result Bool Fault) → old ≡ in_front x new → Err f ≡ holds x → All old ≡ whole → Err f ≡ whole
  all_faults old new x f whole is gives goes = sym (at_item old new x (Err f) is gives) ∙ goes

  pub all_ended : (old : Stream A) (e : End) (whole : Result Bool Fault) → old ≡ ([], e) → All old ≡ whole → at_end e (Ok true) ≡ whole
  all_ended old e whole is goes = ap All (sym is) ∙ goes

  -- whether an item isn't true
  pub passes_true : (x : A) → Ok true ≡ holds x → is_not_true (holds x) ≡ false
  passes_true x gives = ap is_not_true (sym gives)

  pub passes_false : (x : A) → Ok false ≡ holds x → is_not_true (holds x) ≡ true
  passes_false x gives = ap is_not_true (sym gives)

  pub passes_fault : (x : A) (f : Fault) → Err f ≡ holds x → is_not_true (holds x) ≡ true
  passes_fault x f gives = ap is_not_true (sym gives)
