-- The line of the next call stands behind those of the calls so far.
use Rattle.std.proofs.Common.{◌≡◌, ◌∙◌, ◌++◌, ◌+◌, ◌<◌, List, [], ℕ, ap, flat_map, get_or, length, rules, subst, sym, take}
use Rattle.std.proofs.lemmas.List.{flat_map_more, take_more}
use Rattle.lq_host.specs.Hosts.{hosts_of}
use Rattle.lq_machine.specs.States.{schemas_of}
use Rattle.lq_serve.specs.Audit.{audit_line}
use Rattle.lq_serve.specs.Devices.{WritesUnlessFailed, inner_of, is_failed}
use Rattle.lq_serve.proofs.DeviceLemmas.{Writes-next}
use Rattle.lq_serve.proofs.audit.write_lines.Goals as goal

one_more : {X : Type 0} (line : X → List ℕ) (items calls : List X) (i : ℕ) (d : X) → items ≡ calls → i < length items
    → flat_map line (take i calls) ++ line (get_or items i d) ≡ flat_map line (take (i + 1) calls)
one_more line items calls i d same within =
    subst (λ xs. flat_map line (take i xs) ++ line (get_or items i d) ≡ flat_map line (take (i + 1) xs)) same
    (flat_map_more line [] (take i items) (get_or items i d) ∙ ap (flat_map line) (sym (take_more items i d within)))

pub loop-call-preserved : goal.loop-call-preserved
loop-call-preserved g c =
    let next = rw c.predicates.ensures at c.write_line.ensures in
    subst (λ (text : List ℕ). WritesUnlessFailed (is_failed c.args.errors.now) (g.E.Write.contents (inner_of c.args.errors.now))
    (is_failed c.write_line.new.errors) (g.E.Write.contents (inner_of c.write_line.new.errors)) text)
    (one_more (audit_line (schemas_of c.args.store.now) (hosts_of c.args.hosts.now).predicates) c.calls-call-items.result.now
    (hosts_of c.args.hosts.now).calls c.loop-call.call-index _ c.calls-call-items.ensures (search rules))
    (Writes-next _ _ _ _ _ _ _ _ c.loop-call.invariant next)
