-- The command line `lq --role R --policy P [--script S] [--watch LIST] [--audit] T.csv ..`, as clap reads it.
use Rattle.std.specs.Prelude.{List, Bool, Option, Some, false, true, codes}
use Rattle.std.specs.Option.{option_map_or}
use Rattle.std.specs.Str.{bytes_eq}
use Rattle.clap.specs.Words.{App, Row, Rule, Text, matches_of, new_app, new_rule, with_rule}
use Rattle.clap.specs.declared.builder.ArgAction.TheVariants.{Append, SetTrue}

abbrev pub role_rule : Rule
role_rule = record (new_rule (codes "role")) { long = Some (codes "role"); value_names = 1; required = true }

abbrev pub policy_rule : Rule
policy_rule = record (new_rule (codes "policy")) { long = Some (codes "policy"); value_names = 1; required = true }

abbrev pub script_rule : Rule
script_rule = record (new_rule (codes "script")) { long = Some (codes "script"); value_names = 1 }

abbrev pub watch_rule : Rule
watch_rule = record (new_rule (codes "watch")) { long = Some (codes "watch"); value_names = 1 }

-- a flag, which takes no value
abbrev pub audit_rule : Rule
audit_rule = record (new_rule (codes "audit")) { long = Some (codes "audit"); action = Some SetTrue }

-- the words that belong to no option, one at least
abbrev pub tables_rule : Rule
tables_rule = record (new_rule (codes "tables")) { action = Some Append; value_names = 1; required = true }

-- the command; clap adds `--help` to it
unfoldable pub lq_app : App
lq_app =
    with_rule (with_rule (with_rule (with_rule (with_rule (with_rule (new_app (codes "lq")) role_rule) policy_rule) script_rule) watch_rule) audit_rule) tables_rule

-- what clap finds among the words, the first of which is the program's name
unfoldable pub lq_rows : List Text → List Row
lq_rows words = matches_of lq_app words

-- whether a flag is given, by its first value: clap gives it one of `true` and `false`
abbrev pub is_given : Option Text → Bool
is_given value = option_map_or (λ text. bytes_eq text (codes "true")) value false
