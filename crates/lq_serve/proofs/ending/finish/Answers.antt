use Rattle.std.proofs.Common.{ap}
use Rattle.std.proofs.lemmas.Result.{IfErr-weaker}
use Rattle.lq_session.specs.States.{hosts_in, state_of}
use Rattle.lq_serve.specs.Devices.{inner_of}
use Rattle.lq_serve.proofs.DeviceLemmas.{Writes-from, Writes-next}
use Rattle.lq_serve.proofs.EndingLemmas.{finished}
use Rattle.lq_serve.proofs.ending.finish.Goals as goal

pub returns : goal.returns
returns g c =
    let served = c.serve-outcome.ensures in
    finished c.serve-outcome.result served.ok served.write
    (IfErr-weaker c.serve-outcome.result _ _ (λ e untouched other.
    let same = untouched other in
    (ap (λ session. state_of session) same.0, ap (λ session. hosts_in session) same.0, ap (λ w. g.W.Write.contents (inner_of w)) same.1)) served.untouched)
    served.too_long served.utf8 served.memory served.read_marked served.write_marked c.report.ensures.status
    (Writes-from _ _ _ _ _ c.requires.errors (Writes-next _ _ _ _ _ _ _ _ c.write_audit.ensures c.report.ensures.line))
