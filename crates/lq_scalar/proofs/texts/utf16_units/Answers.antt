use Rattle.std.proofs.Common.{◌≤◌, length, arith, ◌∙◌}
use Rattle.std.specs.Str.{chars}
use Rattle.std.proofs.lemmas.List.{length_push}
use Rattle.std.proofs.lemmas.Iterator.{YieldsList-from_chars}
use Rattle.std.proofs.lemmas.Iterator.Consumers.{YieldsList-turn, YieldsList-end}
use Rattle.lq_scalar.proofs.TextLemmas.{units_end, units_go, units_of_char, units_stop}
use Rattle.lq_scalar.proofs.texts.utf16_units.Goals as goal

pub returns-in_default : goal.returns-in_default
returns-in_default c =
    let here = YieldsList-turn (YieldsList-from_chars c.args.text.now c.utf8.text cc) c.loop-c.yielded _ c.loop-c.yielded_by _ _ c.in-Some.c c.in-Some.is c.next.ensures.steps in
    let char = units_of_char c.in-Some.c _ c.len_utf16.ensures.bmp c.len_utf16.ensures.surrogate_pair in
    units_stop _ c.loop-c.units _ (chars c.args.text.now) (length c.loop-c.yielded) c.in-Some.c here c.loop-c.invariant char (c.in_default.ensures)

pub loop-c-preserved : goal.loop-c-preserved
loop-c-preserved c =
    let here = YieldsList-turn (YieldsList-from_chars c.args.text.now c.utf8.text cc) c.loop-c.yielded _ c.loop-c.yielded_by _ _ c.in-Some.c c.in-Some.is c.next.ensures.steps in
    let char = units_of_char c.in-Some.c _ c.len_utf16.ensures.bmp c.len_utf16.ensures.surrogate_pair in
    units_go _ c.loop-c.units _ _ (chars c.args.text.now) (length c.loop-c.yielded) _ c.in-Some.c here c.loop-c.invariant char c.in-Some-checked_add.ensures.1 (length_push c.loop-c.yielded c.in-Some.c)

pub returns : goal.returns
returns c =
    let all = YieldsList-end (YieldsList-from_chars c.args.text.now c.utf8.text cc) c.loop-c.yielded _ c.loop-c.yielded_by _ _ c.in-None.is c.next.ensures.steps in
    let end : length (chars c.args.text.now) ≤ length c.loop-c.yielded = omega (arith, all.1) in
    c.ok.ensures.value ∙ units_end _ c.loop-c.units (chars c.args.text.now) (length c.loop-c.yielded) end c.loop-c.invariant c.try_from.result c.try_from.ensures
