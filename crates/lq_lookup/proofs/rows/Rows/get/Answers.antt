use Rattle.std.proofs.Common.{◌≡◌, List, ℕ, Some, None, ap, ◌∙◌, sym, slice_get}
use Rattle.std.specs.Option.{option_map}
use Rattle.lq_value.specs.declared.key.Key.{Key}
use Rattle.lq_lookup.specs.Chains.{block}
use Rattle.lq_lookup.specs.Finding.{rows_from}
use Rattle.lq_lookup.proofs.BlockLemmas.{row}
use Rattle.lq_lookup.proofs.rows.Rows.get.Goals as goal

pub returns-in-Some : goal.returns-in-Some
returns-in-Some c =
    let bounds = c.self.inside.bounds.items in
    let ps = c.self.inside.places.items in
    let keys = c.self.inside.keys.keys in
    let number = c.args.number in
    let at : Some c.in-Some.key.now ≡ slice_get keys number = c.in-Some.ensures.key in
    let view : rows_from 0 keys bounds ps ≡ c.args.self.now = c.self.view_is in
    let cut = c.cut_out-places.ensures ∙ (λ i. block (c.as_slice.ensures.value i) (c.as_slice-in-Some.ensures.value i) number) in
    ap (λ (xs : List ℕ). Some (c.in-Some.key.now, xs)) cut
    ∙ ap (option_map (λ (k : Key). (k, block bounds ps number))) at
    ∙ sym (row bounds ps keys number) ∙ ap (λ (rows : List (Key × List ℕ)). slice_get rows number) view

pub returns-in-None : goal.returns-in-None
returns-in-None c =
    let bounds = c.self.inside.bounds.items in
    let ps = c.self.inside.places.items in
    let keys = c.self.inside.keys.keys in
    let number = c.args.number in
    let at : None ≡ slice_get keys number = c.in-None.ensures.key in
    let view : rows_from 0 keys bounds ps ≡ c.args.self.now = c.self.view_is in
    ap (option_map (λ (k : Key). (k, block bounds ps number))) at
    ∙ sym (row bounds ps keys number) ∙ ap (λ (rows : List (Key × List ℕ)). slice_get rows number) view
