-- What std's searches find is what the definitions say.
use Rattle.std.proofs.Common.{◌≡◌, List, ℕ, Bool, None}
use Rattle.std.specs.Bool.{MatchBool, one_answer}
use Rattle.std.specs.Str.Pattern.{FindsText, HasMatch}
use Rattle.std.proofs.lemmas.Str.Pattern.{contains_text, ends_text, starts_text}
use Rattle.lq_language.specs.Operations.{has_in}
use Rattle.lq_language.proofs.OperationLaws.{finds_parts}

pub contains_is : (r : Bool) (needle text : List ℕ) → MatchBool r (HasMatch (FindsText needle) text) (FindsText needle text None) → r ≡ has_in text needle
contains_is r needle text h = one_answer r (has_in text needle) (contains_text r needle text h) (finds_parts text needle)

pub ruleset searches = (starts_text, ends_text, contains_is)
