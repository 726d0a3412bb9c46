use Rattle.std.proofs.Common.{◌≡◌, drop, map}
use Rattle.lq_language.specs.Typing.{is_new}
use Rattle.lq_bind.proofs.fields.is_new.Given as goal

-- the members so far have other names, so that those that are left decide
abbrev pub invariant-loop-field : goal.invariant-loop-field
invariant-loop-field g l =
    is_new l.fn.name (map (λ field. field.name) (drop l.field-index l.fields)) ≡ is_new l.fn.name (map (λ field. field.name) l.fields)
