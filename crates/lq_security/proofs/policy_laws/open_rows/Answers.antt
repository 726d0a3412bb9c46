use Rattle.lq_security.proofs.PolicyLemmas.{is_open_without_security, is_open_to_bypass}
use Rattle.lq_security.proofs.policy_laws.open_rows.Goals as goal

pub returns-clause-unsecured : goal.returns-clause-unsecured
returns-clause-unsecured c = is_open_without_security

pub returns-clause-bypass : goal.returns-clause-bypass
returns-clause-bypass c = is_open_to_bypass
