use Rattle.std.proofs.Common.{◌≤◌, length, arith, rules}
use Rattle.std.specs.Str.{chars}
use Rattle.std.proofs.lemmas.List.{length_push}
use Rattle.std.proofs.lemmas.Iterator.{YieldsList-from_chars}
use Rattle.std.proofs.lemmas.Iterator.Consumers.{YieldsList-turn, YieldsList-end}
use Rattle.lq_lex.proofs.Names.{word_stops, word_goes, word_ends}
use Rattle.lq_lex.proofs.words.is_word.Goals as goal

pub returns-then-not-is_name_letter : goal.returns-then-not-is_name_letter
returns-then-not-is_name_letter c =
    let here = YieldsList-turn (YieldsList-from_chars c.args.text.now c.utf8.text cc) c.loop-c.yielded _ c.loop-c.yielded_by _ _ c.in-Some.c c.in-Some.is c.next.ensures.steps in
    word_stops _ c.loop-c.is_first c.is_name_letter.result (chars c.args.text.now) (length c.loop-c.yielded) c.in-Some.c here c.loop-c.invariant c.is_name_letter.ensures (search rules)

pub loop-c-preserved : goal.loop-c-preserved
loop-c-preserved c =
    let here = YieldsList-turn (YieldsList-from_chars c.args.text.now c.utf8.text cc) c.loop-c.yielded _ c.loop-c.yielded_by _ _ c.in-Some.c c.in-Some.is c.next.ensures.steps in
    word_goes _ c.loop-c.is_first c.is_name_letter.result (chars c.args.text.now) (length c.loop-c.yielded) _ c.in-Some.c here c.loop-c.invariant c.is_name_letter.ensures (search rules) (length_push c.loop-c.yielded c.in-Some.c)

pub returns : goal.returns
returns c =
    let all = YieldsList-end (YieldsList-from_chars c.args.text.now c.utf8.text cc) c.loop-c.yielded _ c.loop-c.yielded_by _ _ c.in-None.is c.next.ensures.steps in
    let end : length (chars c.args.text.now) ≤ length c.loop-c.yielded = omega (arith, all.1) in
    word_ends _ c.loop-c.is_first (chars c.args.text.now) (length c.loop-c.yielded) end c.loop-c.invariant
