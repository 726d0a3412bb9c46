-- The sets of roles decide which roles one has, and so whether one of them has the name.
use Rattle.std.proofs.Common.{◌∙◌, Option, ap, sym}
use Rattle.lq_security.specs.Visible.{is_named}
use Rattle.lq_security.specs.declared.policy.Role.{Role}
use Rattle.lq_policy.proofs.NameLemmas.{other_name, own_name, untold_name}
use Rattle.lq_policy.proofs.role_set.has_role_named.Goals as goal

pub returns-in_default : goal.returns-in_default
returns-in_default c =
    sym (untold_name c.args.roles.now c.args.sets.now c.args.role c.args.name.now c.requires (sym c.in_default.ensures))

pub returns-then-is_named : goal.returns-then-is_named
returns-then-is_named c =
    let named = ap (λ (role : Option Role). is_named c.args.name.now role) (sym c.role_of.ensures) ∙ sym c.is_named.ensures ∙ c.if-is_named.true in
    c.if-is_named.true ∙ sym (own_name c.args.roles.now c.args.sets.now c.args.role c.args.name.now c.in-Some.set.now c.requires (sym c.in-Some.ensures) named)

pub returns-else-is_named : goal.returns-else-is_named
returns-else-is_named c =
    let named = ap (λ (role : Option Role). is_named c.args.name.now role) (sym c.role_of.ensures) ∙ sym c.is_named.ensures ∙ c.if-is_named.false in
    sym (other_name c.args.roles.now c.args.sets.now c.args.role c.args.name.now c.in-Some.set.now c.requires (sym c.in-Some.ensures) named
    c.has_named.result c.has_named.ensures)
