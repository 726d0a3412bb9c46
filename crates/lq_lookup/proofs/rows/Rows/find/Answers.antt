use Rattle.std.proofs.Common.{◌≡◌, List, [], ℕ, Option, Some, None, ap, ◌∙◌, sym, position}
use Rattle.std.specs.Option.{option_map_or}
use Rattle.lq_value.specs.KeyTests.{key_is}
use Rattle.lq_value.specs.Lookups.{find_in}
use Rattle.lq_value.specs.declared.key.Key.{Key}
use Rattle.lq_lookup.specs.Chains.{block}
use Rattle.lq_lookup.specs.Finding.{rows_from}
use Rattle.lq_lookup.proofs.BlockLemmas.{found_block}
use Rattle.lq_lookup.proofs.rows.Rows.find.Goals as goal

pub returns-in-Some : goal.returns-in-Some
returns-in-Some c =
    let bounds = c.self.inside.bounds.items in
    let ps = c.self.inside.places.items in
    let at : Some c.in-Some.number ≡ position (key_is c.args.key.now) c.self.inside.keys.keys = c.in-Some.ensures.index in
    let view : rows_from 0 c.self.inside.keys.keys bounds ps ≡ c.args.self.now = c.self.view_is in
    c.cut_out.ensures ∙ (λ i. block (c.as_slice.ensures.value i) (c.as_slice-in-Some.ensures.value i) c.in-Some.number)
    ∙ ap (λ (o : Option ℕ). option_map_or (block bounds ps) o []) at
    ∙ sym (found_block bounds ps c.args.key.now c.self.inside.keys.keys) ∙ ap (λ (rows : List (Key × List ℕ)). find_in key_is rows c.args.key.now) view

pub returns-in-None : goal.returns-in-None
returns-in-None c =
    let bounds = c.self.inside.bounds.items in
    let ps = c.self.inside.places.items in
    let at : None ≡ position (key_is c.args.key.now) c.self.inside.keys.keys = c.in-None.ensures.index in
    let view : rows_from 0 c.self.inside.keys.keys bounds ps ≡ c.args.self.now = c.self.view_is in
    ap (λ (o : Option ℕ). option_map_or (block bounds ps) o []) at
    ∙ sym (found_block bounds ps c.args.key.now c.self.inside.keys.keys) ∙ ap (λ (rows : List (Key × List ℕ)). find_in key_is rows c.args.key.now) view
