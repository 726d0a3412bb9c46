use Rattle.std.proofs.Common.{◌≡◌, ◌≤◌, ◌+◌, false, length}
use denote.Text.{Utf8}
use denote.Shadow.{shadow}
use Rattle.lq_grammar.specs.Script.{lines_of}
use Rattle.lq_session.specs.States.{hosts_in, state_of}
use Rattle.lq_serve.specs.Devices.{inner_of, is_failed}
use Rattle.lq_serve.proofs.ScriptRunLemmas.{UnderWay}
use Rattle.lq_serve.proofs.script_run.serve_text.Given as goal

abbrev pub invariant-loop-rest : goal.invariant-loop-rest
invariant-loop-rest g l = record {
  utf8 : shadow (Utf8 l.rest);
  under_way : UnderWay (lines_of l.text) (lines_of l.rest) (state_of l.fn.session) (state_of l.session)
      (hosts_in l.fn.session) (hosts_in l.session) (g.W.Write.contents (inner_of l.fn.writer)) (g.W.Write.contents (inner_of l.writer)) l.summary;
  unmarked : is_failed l.writer ≡ false;
  lines : l.summary.lines + length l.rest ≤ length l.text;
  replies : l.summary.replies ≤ l.summary.lines;
}

abbrev pub decreases-loop-rest : goal.decreases-loop-rest
decreases-loop-rest g l = length l.rest
