-- The item is written behind the others, by the shape of their type.
use Rattle.std.proofs.Common.{◌≡◌, [], subst, sym}
use Rattle.lq_machine.specs.States.{schemas_of}
use Rattle.lq_json.specs.Items.{Holds}
use Rattle.lq_json.specs.Pushing.{HasWritten}
use Rattle.lq_json.proofs.PushLemmas.{written_more}
use Rattle.lq_json.proofs.pushing.Items.write.Goals as goal

pub returns-in_ok-push-in-Some-clause-written : goal.returns-in_ok-push-in-Some-clause-written
returns-in_ok-push-in-Some-clause-written g c =
    λ ds has.
    written_more g.R.RowRef.shown (schemas_of c.args.self.now.store.now) c.args.self.now.ty.now c.args.value.now c.in-Some.writing c.push.new.self ds
    (subst (λ w. HasWritten c.args.self.now w ds) c.in-Some.is has) c.in_ok-push-in-Some.ensures.items c.in_ok-push-in-Some.ensures.shape

pub returns-in_ok-push-in-None-clause-written : goal.returns-in_ok-push-in-None-clause-written
returns-in_ok-push-in-None-clause-written g c =
    λ ds has.
    let none : ds ≡ [] = subst (λ w. HasWritten c.args.self.now w ds) c.in-None.is has in
    written_more g.R.RowRef.shown (schemas_of c.args.self.now.store.now) c.args.self.now.ty.now c.args.value.now c.in_ok-writing-in-None.writing
    c.push-in-None.new.self ds
    (subst (λ l. Holds c.in_ok-writing-in-None.writing.line l) (sym none) c.in_ok-writing-in-None.ensures.none, c.in_ok-writing-in-None.ensures.shape)
    c.in_ok-push-in-None.ensures.items c.in_ok-push-in-None.ensures.shape
