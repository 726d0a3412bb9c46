use Rattle.std.proofs.Common.{◌∙◌}
use Rattle.lq_operators.proofs.MatchLemmas.{scalar_matched}
use Rattle.lq_operators.proofs.matches.Matches.places_of_scalar.Goals as goal

pub returns-in-Some : goal.returns-in-Some
returns-in-Some g c =
    let side = c.args.self.now in
    scalar_matched side c.args.key.now c.in-Some.hashed c.find.result.now c.in-Some.ensures.1 c.in-Some.ensures.0
    (c.find.ensures ∙ side.finds c.in-Some.hashed)
