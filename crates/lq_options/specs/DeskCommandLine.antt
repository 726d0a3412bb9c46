-- The command line `desk --role R --policy P [--watch LIST] T.csv ..`, as clap reads it.
use Rattle.std.specs.Prelude.{List, codes}
use Rattle.clap.specs.Words.{App, Row, Text, matches_of, new_app, with_rule}
use Rattle.lq_options.specs.CommandLine.{policy_rule, role_rule, tables_rule, watch_rule}

-- the command; clap adds `--help` to it
unfoldable pub desk_app : App
desk_app = with_rule (with_rule (with_rule (with_rule (new_app (codes "desk")) role_rule) policy_rule) watch_rule) tables_rule

-- what clap finds among the words, the first of which is the program's name
unfoldable pub desk_rows : List Text → List Row
desk_rows words = matches_of desk_app words
