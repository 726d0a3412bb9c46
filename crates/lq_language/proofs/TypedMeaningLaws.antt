-- The laws of typing and meaning.
use Rattle.std.proofs.Common.{◌∙◌, sym}
use Rattle.std.proofs.lemmas.Option.{same_Some}
use Rattle.lq_language.specs.MeaningLaws.{HasMeaning, HasStream}
use Rattle.lq_language.specs.TypingLaws.{FindsQueryItems, FindsTypes, GivesOneType, HasOneType}
use Rattle.lq_language.specs.Worlds.{names_at}
use Rattle.lq_language.proofs.TypingCompleteness.{items_complete, expression_complete}
use Rattle.lq_language.proofs.KeptMeanings.{expression_means, query_agrees}
use Rattle.lq_language.proofs.TypingSoundness.{items_sound, expression_sound}

pub one_type : HasOneType
one_type names e s t left right = same_Some s t (sym (expression_complete names e s left) ∙ expression_complete names e t right)

pub gives_one_type : GivesOneType
gives_one_type names q s t left right = same_Some s t (sym (items_complete names q s left) ∙ items_complete names q t right)

pub finds_types : FindsTypes
finds_types names e t = (expression_sound e names t, expression_complete names e t)

pub finds_query_items : FindsQueryItems
finds_query_items names q t = (items_sound names q t, items_complete names q t)

pub has_language_meaning : {R : Type 0} → HasMeaning R
has_language_meaning world holds kept scope fits e t typed f g = expression_means world holds kept f g e t scope fits (expression_sound e (names_at world scope) t typed)

pub has_language_stream : {R : Type 0} → HasStream R
has_language_stream world holds kept scope fits q t typed f g = query_agrees world holds kept f g q t scope fits (items_sound (names_at world scope) q t typed)
