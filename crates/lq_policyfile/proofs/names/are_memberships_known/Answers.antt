use Rattle.std.proofs.Common.{rules, arith, ◌≡◌, ◌∙◌, ◌<◌, length, true, sym}
use Rattle.std.specs.List.{list_all}
use Rattle.lq_policyfile.specs.Names.{is_among}
use Rattle.lq_policyfile.proofs.NameLemmas.{memberships_step}
use Rattle.lq_policyfile.proofs.names.are_memberships_known.Goals as goal

pub loop-role-preserved : goal.loop-role-preserved
loop-role-preserved c =
    let within : c.loop-role.role-index < length c.args.roles.now = omega arith in
    let passed : c.in_ok-is_known.field-0 ≡ true = search rules in
    let known : list_all (is_among c.loop-role.earlier) c.role-item.result.member_of ≡ true = sym c.in_ok-is_known.ensures.known ∙ passed in
    memberships_step c.loop-role.earlier c.is_known.new.earlier c.args.roles.now c.loop-role.role-index c.role-item.result within c.role-item.is known
    c.in_ok-is_known.ensures.names
    ∙ c.loop-role.invariant
