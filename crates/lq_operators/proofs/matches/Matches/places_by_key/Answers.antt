use Rattle.std.proofs.Common.{◌∙◌, sym}
use Rattle.lq_operators.proofs.MatchLemmas.{items_matched}
use Rattle.lq_operators.proofs.matches.Matches.places_by_key.Goals as goal

pub returns : goal.returns
returns g c =
    let side = c.args.self.now in
    items_matched side c.args.key.now c.in_ok-hashed.hashed c.find.result.now (sym c.is_null.ensures ∙ c.if-is_null.false) c.in_ok-hashed.ensures
    (c.find.ensures ∙ side.finds c.in_ok-hashed.hashed)
