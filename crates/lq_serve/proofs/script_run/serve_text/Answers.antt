use Rattle.std.proofs.Common.{rules, ◌≡◌, length, arith}
use Rattle.lq_grammar.proofs.ScriptLaws.{lines_of-none}
use Rattle.lq_serve.proofs.DeviceLemmas.{on_err}
use Rattle.lq_serve.proofs.ScriptRunLemmas.{UnderWay-more, UnderWay-start, UnderWay-stopped, UnderWay-unflushed}
use Rattle.lq_serve.proofs.script_run.serve_text.Goals as goal

pub loop-rest-init : goal.loop-rest-init
loop-rest-init g c = record {
  utf8 = search (rules, c.utf8.text);
  under_way = UnderWay-start _ _ _ _;
  unmarked = c.requires.writer;
  lines = omega arith;
  replies = omega arith;
}

pub loop-rest-preserved : goal.loop-rest-preserved
loop-rest-preserved g c = record {
  utf8 = search rules;
  under_way = UnderWay-more _ _ _ _ _ _ _ _ _ _ _ _ _ _ (rw c.first_line.ensures.lines at c.loop-rest.invariant.under_way) c.in_ok-count.ensures.ok;
  unmarked = search rules;
  lines = omega (arith, c.loop-rest.invariant.lines, c.first_line.ensures.shorter);
  replies = omega (arith, c.loop-rest.invariant.replies, c.in_ok-count.ensures.few);
}

pub returns-in_err-count-clause-err : goal.returns-in_err-count-clause-err
returns-in_err-count-clause-err g c =
    on_err _ (UnderWay-stopped _ _ _ _ _ _ _ _ _ _ _ _ _ (rw c.first_line.ensures.lines at c.loop-rest.invariant.under_way) c.in_err-count.ensures.err)

pub returns-in_err-flush-clause-err : goal.returns-in_err-flush-clause-err
returns-in_err-flush-clause-err g c =
    let none : length c.loop-rest.rest.now ≡ 0 = search rules in
    on_err _ (UnderWay-unflushed _ _ _ _ _ _ _ _ _ (rw (lines_of-none c.loop-rest.rest.now none) at c.loop-rest.invariant.under_way) c.in_err-flush.ensures.bytes)
