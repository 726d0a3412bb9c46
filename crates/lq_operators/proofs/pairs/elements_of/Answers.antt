use Rattle.std.proofs.Common.{◌≡◌, map, ap, ◌∙◌}
use Rattle.std.proofs.lemmas.Result.{IfOk-weaker}
use Rattle.lq_value.specs.KeyTests.{key_is}
use Rattle.lq_value.specs.Keys.{key_value}
use Rattle.lq_value.specs.Lookups.{places}
use Rattle.lq_value.specs.declared.key.Key.{Key}
use Rattle.lq_operators.proofs.PairLemmas.{elements_picked}
use Rattle.lq_operators.proofs.pairs.elements_of.Goals as goal

pub returns : goal.returns
returns g c =
    let keys = map key_value c.args.keys.now in
    let at : c.find.result.now ≡ places (key_is (key_value c.args.key.now)) keys = c.find.ensures ∙ c.requires c.in_ok-hashed.hashed
    ∙ ap (λ (k : Key). places (key_is k) keys) c.in_ok-hashed.ensures in
    IfOk-weaker c.picked.result _ _ (λ made is. is ∙ elements_picked c.args.key.now c.args.keys.now c.args.values.now c.find.result.now at) c.picked.ensures
