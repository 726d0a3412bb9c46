-- The boxed tests compute what the predicates of these names are made of.
use Rattle.std.proofs.Common.{refl}
use borrow.Pointer.Called.{made_tells}
use Rattle.lq_host.proofs.MadeClosureLaws.{made_gives}
use Rattle.lq_predicates.specs.ProgramPredicates.{is_leap_year, is_under}
use Rattle.lq_pipeline_examples.proofs.status.OwnLists.{own-1, own-2, at-1-1, at-2-1}
use Rattle.lq_pipeline_examples.proofs.status.Goals as goal

pub host_set-requires-clause-years_computes : goal.host_set-requires-clause-years_computes
host_set-requires-clause-years_computes c = (
  (λ x i r k. made_tells own-1 (own-1.entry at-1-1) at-1-1 refl c.into_dyn_box.ensures.1 (x, tt) r k),
  λ x i. made_gives own-1 (own-1.entry at-1-1) at-1-1 refl c.into_dyn_box.ensures.1 (x, tt) (is_leap_year x) refl,
)

pub host_set-requires-clause-pairs_computes : goal.host_set-requires-clause-pairs_computes
host_set-requires-clause-pairs_computes c = (
  (λ p i r k. made_tells own-2 (own-2.entry at-2-1) at-2-1 refl c.into_dyn_box-in_ok-new-2.ensures.1 (p.0, (p.1, tt)) r k),
  λ p i. made_gives own-2 (own-2.entry at-2-1) at-2-1 refl c.into_dyn_box-in_ok-new-2.ensures.1 (p.0, (p.1, tt)) (is_under p) refl,
)
