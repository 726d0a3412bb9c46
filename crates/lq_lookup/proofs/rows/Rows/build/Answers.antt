use Rattle.std.proofs.Common.{◌<◌, ◌∙◌, List, ℕ, ap, subst, sym}
use Rattle.std.specs.List.{AllByRecursion}
use Rattle.lq_value.specs.KeyTests.{key_is}
use Rattle.lq_value.specs.Lookups.{find_in}
use Rattle.lq_value.specs.declared.key.Key.{Key}
use Rattle.lq_lookup.proofs.BlockLemmas.{built}
use Rattle.lq_lookup.proofs.NumberLemmas.{grouped_find, numbers_below}
use Rattle.lq_lookup.proofs.rows.Rows.build.Goals as goal

pub spread-requires : goal.spread-requires
spread-requires c =
    let are = c.in_ok-firsts.ensures in
    let below = numbers_below c.in_ok-firsts.firsts.keys c.in_ok-firsts.numbers.items c.args.keys.now are.each in
    subst (λ (xs : List ℕ). AllByRecursion (λ n. n < c.len.result) xs) (sym c.as_slice.ensures.value)
    (subst (λ (count : ℕ). AllByRecursion (λ n. n < count) c.in_ok-firsts.numbers.items) (sym c.len.ensures.len) below)

pub invariant_of-result : goal.invariant_of-result
invariant_of-result c =
    ((built c.in_ok-firsts.ensures c.as_slice.ensures.value c.len.ensures.len c.in_ok-bounds.ensures.0 c.in_ok-bounds.ensures.1).1, tt)

pub returns-clause-groups : goal.returns-clause-groups
returns-clause-groups c =
    (built c.in_ok-firsts.ensures c.as_slice.ensures.value c.len.ensures.len c.in_ok-bounds.ensures.0 c.in_ok-bounds.ensures.1).0

pub returns-clause-finds : goal.returns-clause-finds
returns-clause-finds c q =
    let rows = (built c.in_ok-firsts.ensures c.as_slice.ensures.value c.len.ensures.len c.in_ok-bounds.ensures.0 c.in_ok-bounds.ensures.1).0 in
    ap (λ (groups : List (Key × List ℕ)). find_in key_is groups q) rows ∙ grouped_find c.in_ok-firsts.ensures q
