use Rattle.std.proofs.Common.{SFits, lit<, length, rules, sym, to_z-of_z, w32, ◌∙◌}
use Rattle.std.proofs.lemmas.Iterator.Consumers.{YieldsList-end, YieldsList-turn}
use Rattle.std.proofs.lemmas.Iterator.Splits.{YieldsList-from_str_split}
use Rattle.std.proofs.lemmas.List.{length_push}
use Rattle.std.specs.List.{slice_split}
use Rattle.lq_load.specs.Cells.{int_of}
use Rattle.lq_predicates.specs.WatchLists.{is_comma}
use Rattle.lq_predicates.proofs.ListLemmas.{is_no_number, is_number, next_number, no_number, no_text_left, refused_for}
use Rattle.lq_predicates.proofs.lists.watch_list.Goals as goal

pub returns-in_err-number_in-clause-refused : goal.returns-in_err-number_in-clause-refused
returns-in_err-number_in-clause-refused c =
    let texts = YieldsList-from_str_split 44 c.args.list.now (lit< tt) (cc) (cc) (cc) in
    let text = YieldsList-turn texts c.loop-number.yielded _ c.loop-number.yielded_by _ _ c.in-Some.number c.in-Some.is c.next.ensures.steps in
    let spells = is_no_number (int_of c.in-Some.number.now) _ (sym c.number_in.ensures ∙ c.in_err-number_in.was) in
    let none = no_number (slice_split is_comma c.args.list.now) (length c.loop-number.yielded) c.loop-number.numbers.items c.in-Some.number.now text spells in
    refused_for _ (sym c.loop-number.invariant ∙ none)

pub loop-number-preserved : goal.loop-number-preserved
loop-number-preserved c =
    let fits : SFits w32 c.in_ok-number_in.field-0 = search rules in
    let texts = YieldsList-from_str_split 44 c.args.list.now (lit< tt) (cc) (cc) (cc) in
    let text = YieldsList-turn texts c.loop-number.yielded _ c.loop-number.yielded_by _ _ c.in-Some.number c.in-Some.is c.next.ensures.steps in
    let spells = is_number (int_of c.in-Some.number.now) _ (sym c.number_in.ensures ∙ c.in_ok-number_in.was) in
    let next = next_number (slice_split is_comma c.args.list.now) (length c.loop-number.yielded) c.loop-number.numbers.items c.in-Some.number.now _ text spells in
    rw (length_push c.loop-number.yielded c.in-Some.number, c.in_ok-push.ensures.items, to_z-of_z fits) (next ∙ c.loop-number.invariant)

pub returns-clause-ok : goal.returns-clause-ok
returns-clause-ok c =
    let texts = YieldsList-from_str_split 44 c.args.list.now (lit< tt) (cc) (cc) (cc) in
    let all = YieldsList-end texts c.loop-number.yielded _ c.loop-number.yielded_by _ _ c.in-None.is c.next.ensures.steps in
    let some = no_text_left (slice_split is_comma c.args.list.now) (length c.loop-number.yielded) c.loop-number.numbers.items all.1 in
    sym c.loop-number.invariant ∙ some
