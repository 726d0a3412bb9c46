use Rattle.std.proofs.Common.{◌∙◌, refl, true, false, arith}
use Rattle.std.proofs.lemmas.Result.{err_from_is_err_and}
use Rattle.lq_conversation.specs.Conversations.{AnswersTyped}
use Rattle.lq_conversation.specs.Outcomes.{goes_on, has_ended, has_failed}
use Rattle.lq_conversation.proofs.TypedLemmas.{Typed-more, inputs-answered, typed-is}
use Rattle.lq_conversation.proofs.TurnLemmas.{Each-start}
use Rattle.lq_conversation.proofs.WriterLemmas.{marked_by_err, on_err, unmarked_by_ok}
use Rattle.lq_conversation.proofs.conversation.answer_inputs.Goals as goal

pub loop-input-init : goal.loop-input-init
loop-input-init g c = record {
  way = Each-start (AnswersTyped (g.F.Files.holds c.args.files.now)) _ _ _ _ _ _ refl c.requires.open;
  unmarked = c.requires.writer;
  unrefused = c.requires.lines;
  keeps = λ name. refl;
}

pub loop-input-preserved : goal.loop-input-preserved
loop-input-preserved g c = record {
  way = (Typed-more (g.F.Files.holds c.args.files.now) _ c.loop-input.invariant.keeps _ _ _ _ _ _ _ _ _ _ _ _ _ _ c.in-Ok.input goes_on c.loop-input.invariant.way c.in-Ok.ensures.line c.in-Ok.ensures.counted (typed-is _ c.in-Ok.input _ _ _ _ c.in_ok-ends.ends false c.if-ends.false c.in_ok-ends.ensures.ok));
  unmarked = c.in_ok-ends.ensures.unmarked;
  unrefused = unmarked_by_ok _ _ _ c.in-Ok.is (c.next_line.ensures.marked c.loop-input.invariant.unrefused);
  keeps = λ name. c.in_ok-ends.ensures.keeps name ∙ c.loop-input.invariant.keeps name;
}

pub loop-input-smaller : goal.loop-input-smaller
loop-input-smaller g c = omega (arith, c.in-Ok.ensures.counted, c.in-Ok.ensures.few)

pub answer_typed-requires : goal.answer_typed-requires
answer_typed-requires g c = c.loop-input.invariant.unmarked

pub returns-then-ends-clause-ok : goal.returns-then-ends-clause-ok
returns-then-ends-clause-ok g c = inputs-answered _ _ _ _ _ _ _ _ _ _ _ has_ended refl (Typed-more (g.F.Files.holds c.args.files.now) _ c.loop-input.invariant.keeps _ _ _ _ _ _ _ _ _ _ _ _ _ _ c.in-Ok.input has_ended c.loop-input.invariant.way c.in-Ok.ensures.line c.in-Ok.ensures.counted (typed-is _ c.in-Ok.input _ _ _ _ c.in_ok-ends.ends true c.if-ends.true c.in_ok-ends.ensures.ok))

pub returns-then-ends-clause-err : goal.returns-then-ends-clause-err
returns-then-ends-clause-err g c = tt

pub returns-then-ends-clause-unmarked : goal.returns-then-ends-clause-unmarked
returns-then-ends-clause-unmarked g c = c.in_ok-ends.ensures.unmarked

pub returns-then-ends-clause-marked : goal.returns-then-ends-clause-marked
returns-then-ends-clause-marked g c = tt

pub returns-then-ends-clause-refused : goal.returns-then-ends-clause-refused
returns-then-ends-clause-refused g c = unmarked_by_ok _ _ _ c.in-Ok.is (c.next_line.ensures.marked c.loop-input.invariant.unrefused)

pub returns-then-ends-clause-unrefused : goal.returns-then-ends-clause-unrefused
returns-then-ends-clause-unrefused g c = tt

pub returns-in_err-ends-clause-ok : goal.returns-in_err-ends-clause-ok
returns-in_err-ends-clause-ok g c = let p = err_from_is_err_and c.from_residual.result c.from_residual.ensures.1 in rw p.1 tt

pub returns-in_err-ends-clause-err : goal.returns-in_err-ends-clause-err
returns-in_err-ends-clause-err g c = on_err _ (inputs-answered _ _ _ _ _ _ _ _ _ _ _ has_failed refl (Typed-more (g.F.Files.holds c.args.files.now) _ c.loop-input.invariant.keeps _ _ _ _ _ _ _ _ _ _ _ _ _ _ c.in-Ok.input has_failed c.loop-input.invariant.way c.in-Ok.ensures.line c.in-Ok.ensures.counted c.in_err-ends.ensures.err))

pub returns-in_err-ends-clause-unmarked : goal.returns-in_err-ends-clause-unmarked
returns-in_err-ends-clause-unmarked g c = let p = err_from_is_err_and c.from_residual.result c.from_residual.ensures.1 in rw p.1 tt

pub returns-in_err-ends-clause-marked : goal.returns-in_err-ends-clause-marked
returns-in_err-ends-clause-marked g c = on_err _ c.in_err-ends.ensures.marked

pub returns-in_err-ends-clause-refused : goal.returns-in_err-ends-clause-refused
returns-in_err-ends-clause-refused g c = let p = err_from_is_err_and c.from_residual.result c.from_residual.ensures.1 in rw p.1 tt

pub returns-in_err-ends-clause-unrefused : goal.returns-in_err-ends-clause-unrefused
returns-in_err-ends-clause-unrefused g c = on_err _ (unmarked_by_ok _ _ _ c.in-Ok.is (c.next_line.ensures.marked c.loop-input.invariant.unrefused))

pub returns-in_default-clause-ok : goal.returns-in_default-clause-ok
returns-in_default-clause-ok g c = inputs-answered _ _ _ _ _ _ _ _ _ _ _ goes_on c.in_default.ensures.refused c.loop-input.invariant.way

pub returns-in_default-clause-err : goal.returns-in_default-clause-err
returns-in_default-clause-err g c = tt

pub returns-in_default-clause-unmarked : goal.returns-in_default-clause-unmarked
returns-in_default-clause-unmarked g c = c.loop-input.invariant.unmarked

pub returns-in_default-clause-marked : goal.returns-in_default-clause-marked
returns-in_default-clause-marked g c = tt

pub returns-in_default-clause-refused : goal.returns-in_default-clause-refused
returns-in_default-clause-refused g c = marked_by_err _ _ _ c.in_default.is (c.next_line.ensures.marked c.loop-input.invariant.unrefused)

pub returns-in_default-clause-unrefused : goal.returns-in_default-clause-unrefused
returns-in_default-clause-unrefused g c = tt
