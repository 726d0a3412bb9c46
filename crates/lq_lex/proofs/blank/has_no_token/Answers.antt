use Rattle.std.proofs.Common.{◌≤◌, length, arith, ◌∙◌}
use Rattle.std.specs.Str.{chars}
use Rattle.std.proofs.lemmas.List.{length_push}
use Rattle.std.proofs.lemmas.Iterator.{YieldsList-from_chars}
use Rattle.std.proofs.lemmas.Iterator.Consumers.{YieldsList-turn, YieldsList-end}
use Rattle.lq_lex.proofs.Blanks.{scan_stops, scan_goes, scan_ends}
use Rattle.lq_lex.proofs.blank.has_no_token.Goals as goal

pub returns-in_default : goal.returns-in_default
returns-in_default c =
    let here = YieldsList-turn (YieldsList-from_chars c.args.text.now c.utf8.text cc) c.loop-c.yielded _ c.loop-c.yielded_by _ _ c.in-Some.c c.in-Some.is c.next.ensures.steps in
    scan_stops _ c.loop-c.scan (chars c.args.text.now) (length c.loop-c.yielded) c.in-Some.c here c.loop-c.invariant (cc)

pub loop-c-preserved : goal.loop-c-preserved
loop-c-preserved c =
    let here = YieldsList-turn (YieldsList-from_chars c.args.text.now c.utf8.text cc) c.loop-c.yielded _ c.loop-c.yielded_by _ _ c.in-Some.c c.in-Some.is c.next.ensures.steps in
    scan_goes _ c.loop-c.scan _ (chars c.args.text.now) (length c.loop-c.yielded) _ c.in-Some.c here c.loop-c.invariant (cc) (length_push c.loop-c.yielded c.in-Some.c)

pub returns : goal.returns
returns c =
    let all = YieldsList-end (YieldsList-from_chars c.args.text.now c.utf8.text cc) c.loop-c.yielded _ c.loop-c.yielded_by _ _ c.in-None.is c.next.ensures.steps in
    let end : length (chars c.args.text.now) ≤ length c.loop-c.yielded = omega (arith, all.1) in
    c.is_closed.ensures ∙ scan_ends _ c.loop-c.scan (chars c.args.text.now) (length c.loop-c.yielded) end c.loop-c.invariant
