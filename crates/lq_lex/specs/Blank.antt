-- A scan that decides whether a text has no token.
use Rattle.std.specs.Prelude.{◌==◌, ◌∷◌, List, [], ℕ, Bool, true, false, if◌then◌else◌, Option, Some, None}
use Rattle.std.specs.Option.{option_map_or}
use Rattle.lq_grammar.specs.Tokens.{is_blank}
use Rattle.lq_lex.specs.declared.blank.Scan.{Scan}
use Rattle.lq_lex.specs.declared.blank.Scan.TheVariants as scan

abbrev pub step : Scan → ℕ → Option Scan
step scan.Between c = if is_blank c then Some scan.Between else if c == 47 then Some scan.Slash else None
step scan.Slash c = if c == 47 then Some scan.Comment else None
step scan.Comment c = if c == 10 then Some scan.Between else Some scan.Comment

abbrev pub is_closed : Scan → Bool
is_closed scan.Between = true
is_closed scan.Slash = false
is_closed scan.Comment = true

abbrev pub has_no_token : Scan → List ℕ → Bool
has_no_token at [] = is_closed at
has_no_token at (c ∷ cs) = option_map_or (λ next. has_no_token next cs) (step at c) false
