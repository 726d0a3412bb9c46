use Rattle.std.proofs.Common.{rules, ◌≡◌, Err}
use Rattle.lq_serve.proofs.LoadingLemmas.{Answered-fault, Answered-then}
use Rattle.lq_serve.proofs.StartingLemmas.{GivesPolicies-none}
use Rattle.lq_serve.proofs.starting.load_policies.Goals as goal

pub returns-in_err-bytes-clause-given : goal.returns-in_err-bytes-clause-given
returns-in_err-bytes-clause-given g c =
    let same : c.from_residual.result ≡ Err c.in_err-bytes.field-0.0 = search rules in
    let given = c.in_err-bytes.ensures.given in (
      given.0,
      given.1,
      rw same (Answered-fault _ _ _ _ given.2),
      rw same (GivesPolicies-none _ _ given.0 c.in_err-bytes.field-0.0 given.3),
    )

pub returns-clause-given : goal.returns-clause-given
returns-clause-given g c =
    let given = c.in_ok-bytes.ensures.given in (
      given.0,
      given.1,
      Answered-then c.in_ok-bytes.bytes _ _ _ _ given.2,
      rw given.3 (rw c.deref.ensures.value at c.policies_from_bytes.ensures.policies),
    )
