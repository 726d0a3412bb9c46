use Rattle.std.proofs.Common.{◌≡◌, ◌≤◌, length, drop, arith, ◌∙◌, sym, ap, refl}
use Rattle.std.specs.Prelude.{Option, Some, None, option_map, ℕ}
use Rattle.std.specs.Str.{chars}
use Rattle.std.proofs.lemmas.List.{length_push}
use Rattle.std.proofs.lemmas.Iterator.{YieldsList-from_chars}
use Rattle.std.proofs.lemmas.Iterator.Adapters.{YieldsList-from_skip}
use Rattle.std.proofs.lemmas.Iterator.Consumers.{YieldsList-turn, YieldsList-end}
use Rattle.lq_grammar.specs.TextLiterals.{step_inside, text_value}
use Rattle.lq_lex.specs.Literals.{place_of, step_of}
use Rattle.lq_lex.proofs.Spelling.{spelling_stops, spelling_ends, spelling_goes, spelling_grows}
use Rattle.lq_lex.proofs.literals.text_value.Goals as goal

pub loop-c-init : goal.loop-c-init
unfolding text_value
loop-c-init c = rw c.new-text.ensures.bytes refl

pub returns-in_default : goal.returns-in_default
returns-in_default c =
    let items = YieldsList-from_skip 1 (YieldsList-from_chars c.args.literal.now c.utf8.literal cc) cc in
    let here = YieldsList-turn items c.loop-c.yielded _ c.loop-c.yielded_by _ _ c.in-Some.c c.in-Some.is c.next.ensures.steps in
    let ends : step_inside (place_of c.loop-c.place) c.in-Some.c ≡ None = sym c.step_inside.ensures ∙ ap (option_map step_of) c.in_default.is in
    c.from_string.ensures ∙ spelling_stops _ _ (place_of c.loop-c.place) (drop 1 (chars c.args.literal.now)) (length c.loop-c.yielded) c.in-Some.c here c.loop-c.invariant ends

pub loop-c-preserved-in_ok-push : goal.loop-c-preserved-in_ok-push
loop-c-preserved-in_ok-push c =
    let items = YieldsList-from_skip 1 (YieldsList-from_chars c.args.literal.now c.utf8.literal cc) cc in
    let here = YieldsList-turn items c.loop-c.yielded _ c.loop-c.yielded_by _ _ c.in-Some.c c.in-Some.is c.next.ensures.steps in
    let goes : step_inside (place_of c.loop-c.place) c.in-Some.c ≡ Some (place_of c.in-Some-step_inside.next, Some c.in-Some-spelled.character) = sym c.step_inside.ensures ∙ ap (option_map step_of) c.in-Some-step_inside.is ∙ ap (λ (o : Option ℕ). Some (place_of c.in-Some-step_inside.next, o)) c.in-Some-spelled.is in
    spelling_grows _ _ _ (place_of c.loop-c.place) _ (drop 1 (chars c.args.literal.now)) (length c.loop-c.yielded) _ c.in-Some.c _ here c.loop-c.invariant goes
    (length_push c.loop-c.yielded c.in-Some.c) c.in_ok-push.ensures.bytes

pub loop-c-preserved : goal.loop-c-preserved
loop-c-preserved c =
    let items = YieldsList-from_skip 1 (YieldsList-from_chars c.args.literal.now c.utf8.literal cc) cc in
    let here = YieldsList-turn items c.loop-c.yielded _ c.loop-c.yielded_by _ _ c.in-Some.c c.in-Some.is c.next.ensures.steps in
    let goes : step_inside (place_of c.loop-c.place) c.in-Some.c ≡ Some (place_of c.in-Some-step_inside.next, None) = sym c.step_inside.ensures ∙ ap (option_map step_of) c.in-Some-step_inside.is ∙ ap (λ (o : Option ℕ). Some (place_of c.in-Some-step_inside.next, o)) c.in_default-spelled.is in
    spelling_goes _ _ (place_of c.loop-c.place) _ (drop 1 (chars c.args.literal.now)) (length c.loop-c.yielded) _ c.in-Some.c here c.loop-c.invariant goes
    (length_push c.loop-c.yielded c.in-Some.c)

pub returns : goal.returns
returns c =
    let items = YieldsList-from_skip 1 (YieldsList-from_chars c.args.literal.now c.utf8.literal cc) cc in
    let all = YieldsList-end items c.loop-c.yielded _ c.loop-c.yielded_by _ _ c.in-None.is c.next.ensures.steps in
    let end : length (drop 1 (chars c.args.literal.now)) ≤ length c.loop-c.yielded = omega (arith, all.1) in
    c.from_string-2.ensures ∙ spelling_ends _ _ (place_of c.loop-c.place) (drop 1 (chars c.args.literal.now)) (length c.loop-c.yielded) end c.loop-c.invariant
