-- A test that answers true has the whole range as its accepted set.
use Rattle.std.proofs.Common.{refl, true}
use borrow.Pointer.Called.{made_tells}
use Rattle.lq_host.specs.AcceptedSets.{passing}
use Rattle.lq_host.proofs.AcceptedSetLaws.{answers_by_passing}
use Rattle.lq_host.proofs.MadeClosureLaws.{made_gives}
use Rattle.lq_host_examples.proofs.additions.print_additions.OwnLists.{own-1, at-1-1}
use Rattle.lq_host_examples.proofs.additions.print_additions.Goals as goal

pub add_predicate-requires-clause-accepted : goal.add_predicate-requires-clause-accepted
add_predicate-requires-clause-accepted c = (
  passing (λ x. true) c.addition-letters.result.1,
  answers_by_passing (λ x. true) c.addition-letters.result.1 _
      (λ x i r k. made_tells own-1 (own-1.entry at-1-1) at-1-1 refl c.into_dyn_box.ensures.1 (x, tt) r k)
      (λ x i. made_gives own-1 (own-1.entry at-1-1) at-1-1 refl c.into_dyn_box.ensures.1 (x, tt) true refl),
)
