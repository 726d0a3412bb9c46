use Rattle.std.proofs.Common.{true, false}
use Rattle.std.proofs.lemmas.Result.{err_from_is_err_and}
use Rattle.lq_conversation.specs.Outcomes.{goes_on, has_ended, has_failed}
use Rattle.lq_conversation.proofs.ScriptLemmas.{UnderWay-more, UnderWay-start, in_script-is, no_lines, script-until, script-whole, some_bytes}
use Rattle.lq_conversation.proofs.WriterLemmas.{on_err}
use Rattle.lq_conversation.proofs.script.answer_script.Goals as goal

pub loop-rest-init : goal.loop-rest-init
loop-rest-init g c = record { way = UnderWay-start _ _ _; unmarked = c.requires }

pub loop-rest-preserved : goal.loop-rest-preserved
loop-rest-preserved g c = record {
  way = (UnderWay-more _ _ _ _ _ _ _ _ _ _ _ goes_on c.loop-rest.invariant.way c.first_line.ensures.lines c.input_of.ensures (in_script-is _ _ _ _ _ c.in_ok-ends.ends false c.if-ends.false c.in_ok-ends.ensures.ok));
  unmarked = c.in_ok-ends.ensures.unmarked;
}

pub loop-rest-smaller : goal.loop-rest-smaller
loop-rest-smaller g c = c.first_line.ensures.shorter

pub first_line-requires : goal.first_line-requires
first_line-requires g c = some_bytes c.loop-rest.rest.now c.is_empty.result c.is_empty.ensures c.loop-rest-test.true

pub answer_in_script-requires : goal.answer_in_script-requires
answer_in_script-requires g c = c.loop-rest.invariant.unmarked

pub returns-then-ends-clause-ok : goal.returns-then-ends-clause-ok
returns-then-ends-clause-ok g c = script-until _ _ _ _ _ _ has_ended (λ e. cc) (UnderWay-more _ _ _ _ _ _ _ _ _ _ _ has_ended c.loop-rest.invariant.way c.first_line.ensures.lines c.input_of.ensures (in_script-is _ _ _ _ _ c.in_ok-ends.ends true c.if-ends.true c.in_ok-ends.ensures.ok))

pub returns-then-ends-clause-err : goal.returns-then-ends-clause-err
returns-then-ends-clause-err g c = tt

pub returns-then-ends-clause-unmarked : goal.returns-then-ends-clause-unmarked
returns-then-ends-clause-unmarked g c = c.in_ok-ends.ensures.unmarked

pub returns-then-ends-clause-marked : goal.returns-then-ends-clause-marked
returns-then-ends-clause-marked g c = tt

pub returns-in_err-ends-clause-ok : goal.returns-in_err-ends-clause-ok
returns-in_err-ends-clause-ok g c = let p = err_from_is_err_and c.from_residual.result c.from_residual.ensures.1 in rw p.1 tt

pub returns-in_err-ends-clause-err : goal.returns-in_err-ends-clause-err
returns-in_err-ends-clause-err g c = on_err _ (script-until _ _ _ _ _ _ has_failed (λ e. cc) (UnderWay-more _ _ _ _ _ _ _ _ _ _ _ has_failed c.loop-rest.invariant.way c.first_line.ensures.lines c.input_of.ensures c.in_err-ends.ensures.err))

pub returns-in_err-ends-clause-unmarked : goal.returns-in_err-ends-clause-unmarked
returns-in_err-ends-clause-unmarked g c = let p = err_from_is_err_and c.from_residual.result c.from_residual.ensures.1 in rw p.1 tt

pub returns-in_err-ends-clause-marked : goal.returns-in_err-ends-clause-marked
returns-in_err-ends-clause-marked g c = on_err _ c.in_err-ends.ensures.marked

pub returns-clause-ok : goal.returns-clause-ok
returns-clause-ok g c = script-whole _ _ _ _ _ _ (no_lines c.loop-rest.rest.now c.is_empty.result c.is_empty.ensures c.loop-rest-test.false) c.loop-rest.invariant.way

pub returns-clause-err : goal.returns-clause-err
returns-clause-err g c = tt

pub returns-clause-unmarked : goal.returns-clause-unmarked
returns-clause-unmarked g c = c.loop-rest.invariant.unmarked

pub returns-clause-marked : goal.returns-clause-marked
returns-clause-marked g c = tt
