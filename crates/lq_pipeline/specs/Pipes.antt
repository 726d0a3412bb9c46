-- A pipe as its owner sees it: what it is over, where it stands, and how many rows it has handed out.
use Rattle.std.specs.Prelude.{List, ℕ, Option}
use Rattle.lq_host.specs.Predicates.{Predicate}
use Rattle.lq_host.specs.declared.call.Call.{Call}
use Rattle.lq_language.specs.TableRows.{TableRow}
use Rattle.lq_tree.specs.declared.tree.Form.{Form}
use Rattle.lq_pull.specs.Views.{Sight, sight_of, world_seen}
use Rattle.lq_pipeline.specs.Places.{Place}
use Rattle.lq_pipeline.specs.Pulling.{State}
use Rattle.lq_pipeline.specs.Standings.{IsState, handed_by, place_of}
use Rattle.lq_pipeline.specs.declared.pipes.Pipe.{Pipe}

-- the tables, the policies and the role that it is over
abbrev pub sight_of_pipe : Pipe → Sight
sight_of_pipe pipe = sight_of pipe.view

-- and the form
abbrev pub form_of_pipe : Pipe → Form
form_of_pipe pipe = pipe.tree.now.form

-- by what these host predicates answer it stands here; at no place, once a growth was refused
abbrev pub place_in : List Predicate → Pipe → Option (Place TableRow)
place_in predicates pipe = place_of (world_seen (sight_of_pipe pipe) predicates) (form_of_pipe pipe) pipe.opened

abbrev pub handed_of : Pipe → ℕ
handed_of pipe = handed_by pipe.opened.leaf

-- so it is as it was opened, and as each pull leaves it
abbrev pub IsPipe : Pipe → Type 0
IsPipe pipe = IsState (form_of_pipe pipe) pipe.opened

-- by what these host predicates answer, and with these calls
abbrev pub state_in : List Predicate → Pipe → List Call → State
state_in predicates pipe calls = record { place = place_in predicates pipe; handed = handed_of pipe; calls = calls }
