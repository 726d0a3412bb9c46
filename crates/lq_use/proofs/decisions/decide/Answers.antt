use Rattle.std.proofs.Common.{arith}
use Rattle.lq_policy.specs.Roles.{number_of}
use Rattle.lq_use.proofs.DecideLemmas.{denied_by, first_denied, found, no_more, none_yet, one_more, unlisted}
use Rattle.lq_use.proofs.decisions.decide.Goals as goal

pub loop-place-init : goal.loop-place-init
loop-place-init c = none_yet c.args.policies.now (number_of c.args.role) c.args.uses.now

pub returns-in-Some : goal.returns-in-Some
returns-in-Some c =
    let at = found c.args.uses.now c.loop-place.place _ (omega arith) in
    record {
      used = _;
      at = at;
      earlier = c.loop-place.invariant.before;
      denied = first_denied c.args.policies.now (number_of c.args.role) c.args.uses.now c.loop-place.place _ c.in-Some.rule.now at
          c.loop-place.invariant (denied_by c.denier.result c.in-Some.rule _ c.in-Some.is c.denier.ensures);
    }

pub loop-place-preserved : goal.loop-place-preserved
loop-place-preserved c =
    one_more c.args.policies.now (number_of c.args.role) c.args.uses.now c.loop-place.place _
    (found c.args.uses.now c.loop-place.place _ (omega arith)) c.loop-place.invariant
    (unlisted c.args.policies.now (number_of c.args.role) _ c.denier.result c.in_default.is c.denier.ensures)

pub returns : goal.returns
returns c = no_more c.args.policies.now (number_of c.args.role) c.args.uses.now c.loop-place.place (omega arith) c.loop-place.invariant
