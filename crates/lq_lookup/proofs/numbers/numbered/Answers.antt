use Rattle.std.proofs.Common.{◌∙◌, ◌+◌, List, ℕ, subst, sym}
use Rattle.lq_lookup.proofs.NumberLemmas.{IsNumbering, numbering_more}
use Rattle.lq_lookup.proofs.numbers.numbered.Goals as goal

pub loop-key-preserved : goal.loop-key-preserved
loop-key-preserved c =
    let stored = c.in_ok-number.ensures.stored in
    let more = numbering_more c.in_ok-copy.copy c.key-item.result c.in_ok-number.number stored.0 c.loop-key.invariant c.loop-key-test.true
    (c.in_ok-copy.ensures ∙ c.key-item.is) c.in_ok-number.ensures.keys c.in_ok-number.ensures.unique stored.1 stored.2 in
    subst (λ (ns : List ℕ). IsNumbering c.args.keys.now (c.loop-key.key-index + 1) c.insert_full.new.self.keys ns) (sym c.in_ok-push.ensures.items) more
