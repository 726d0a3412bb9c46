-- Whether rows are seen that a host predicate may be asked about.
use Rattle.std.specs.Prelude.{List, Bool}
use Rattle.std.specs.List.{list_all}
use Rattle.lq_language.specs.TableRows.{TableRow}
use Rattle.lq_machine.specs.States.{State}
use Rattle.lq_tree.specs.AllowedCalls.{is_seen}
use Rattle.lq_pull.specs.Views.{row_facts}

-- whether the role sees each of these rows
abbrev pub are_seen : State → List TableRow → Bool
are_seen s rows = list_all (is_seen s row_facts) rows
