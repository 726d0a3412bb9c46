use Rattle.lq_guard.proofs.GuardedLaws.{means_alike_for_select, means_head_for_action}
use Rattle.lq_guard.proofs.guard_laws.guarded_forms_mean.Goals as goal

pub returns-clause-select : goal.returns-clause-select
returns-clause-select c start = means_alike_for_select

pub returns-clause-head : goal.returns-clause-head
returns-clause-head c start = means_head_for_action
