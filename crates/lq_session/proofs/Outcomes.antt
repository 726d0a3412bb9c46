-- From what the machine answers to what is performed.
use Rattle.std.proofs.Common.{List, ℕ, Result, Ok, Err, refl}
use Rattle.lq_host.specs.Predicates.{Predicate}
use Rattle.lq_machine.specs.Serving.{run_in}
use Rattle.lq_grammar.specs.declared.syntax.Expr.{Expr}
use Rattle.lq_run.specs.States.{SessionState, state_with}
use Rattle.lq_run.specs.Stops.{IsAnswered}
use Rattle.lq_run.specs.declared.stop.Stop.{Stop}
use Rattle.lq_run.specs.declared.stop.Stop.TheVariants as stop
use Rattle.lq_session.specs.Performed.{PerformsWith}

-- the reply to a `run` leaves the state
pub performs_run : (predicates : List Predicate) (s : SessionState) (e : Expr) (result : Result (List ℕ) Stop)
    → IsAnswered (run_in (state_with predicates s) e) result → PerformsWith predicates (run_in (state_with predicates s) e, state_with predicates s) s result s
performs_run predicates s e (Ok line) so = (so, refl)
performs_run predicates s e (Err (stop.Answer line)) so = ((so, refl), refl)
performs_run predicates s e (Err stop.Memory) so = (tt, refl)
