-- The type that a line is served by in any state with the known names is that in the session's.
use Rattle.std.proofs.Common.{◌≡◌}
use Rattle.std.proofs.lemmas.Result.{IfOk-weaker}
use Rattle.lq_machine.specs.ServedTypes.{line_type}
use Rattle.lq_run.specs.States.{HoldsOf}
use Rattle.lq_session.specs.States.{predicates_in, session_state, state_of}
use Rattle.lq_session.proofs.session.Session.served_type.Goals as goal

pub returns : goal.returns
returns g c =
    IfOk-weaker c.type_of_line.result (λ ty. HoldsOf (session_state c.args.self.now) (λ s. ty ≡ line_type s c.args.line.now))
    (λ ty. ty ≡ line_type (state_of c.args.self.now) c.args.line.now) (λ ty holds. holds (predicates_in c.args.self.now) c.args.self.now.known)
    c.type_of_line.ensures
