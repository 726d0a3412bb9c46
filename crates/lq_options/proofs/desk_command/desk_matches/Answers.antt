use Rattle.std.proofs.Common.{◌∙◌, ap, map, subst}
use Rattle.std.proofs.lemmas.Result.{IfOk-weaker}
use Rattle.std.specs.String.{string_bytes}
use Rattle.clap.specs.Words.{FailsBy, fault_of, is_simple, is_simple_and_free, matches_of}
use Rattle.lq_options.specs.DeskCommandLine.{desk_rows}
use Rattle.lq_options.proofs.CommandFacts.{desk-free, desk-simple}
use Rattle.lq_options.proofs.desk_command.desk_matches.Goals as goal

pub returns-clause-rows : goal.returns-clause-rows
unfolding desk_rows
returns-clause-rows c =
    let parse = c.try_get_matches_from in
    let command = c.in_ok-desk_command.ensures in
    IfOk-weaker parse.result _ _ (λ matches has. (has (ap is_simple command ∙ desk-simple)).0
    ∙ ap (λ app. matches_of app (map string_bytes c.args.words.now)) command) parse.ensures.matches

pub returns-clause-refused : goal.returns-clause-refused
returns-clause-refused c =
    let parse = c.try_get_matches_from in
    let command = c.in_ok-desk_command.ensures in
    subst (λ app. FailsBy (fault_of app (map string_bytes c.args.words.now)) parse.result) command
    (parse.ensures.kinds (ap is_simple_and_free command ∙ desk-free))
