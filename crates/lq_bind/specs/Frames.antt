-- The places that a frame stands for, and what the variables of an item stand for.
use Rattle.std.specs.Prelude.{◌||◌, [], List, ℕ, Bool, Option, Result, Ok, Err}
use Rattle.std.specs.Str.{bytes_eq}
use Rattle.lq_language.specs.Operators.{Pattern, One, With}
use Rattle.lq_language.specs.Types.{is_fresh}
use Rattle.lq_language.specs.declared.host_name.HostName.{HostName}
use Rattle.lq_tree.specs.Binding.{PipelineForm, pipeline_of, tree_of}
use Rattle.lq_tree.specs.Places.{Place, Places, SessionPlace, names_of_places, with_item, with_name}
use Rattle.lq_tree.specs.SessionPlaces.{places_outside}
use Rattle.lq_tree.specs.declared.tree.Tree.{Tree}
use Rattle.lq_bind.specs.Outcomes.{Gives}
use Rattle.lq_bind.specs.declared.error.TermError.{TermError}
use Rattle.lq_bind.specs.declared.frames.Frame.{Frame, fold-Frame}
use Rattle.lq_bind.specs.declared.frames.Frame.TheOpen.{Frame-F}
use Rattle.lq_bind.specs.declared.variables.Variables.{Variables, fold-Variables}
use Rattle.lq_bind.specs.declared.variables.Variables.TheOpen.{Variables-F}
use Rattle.lq_bind.specs.declared.pipelines.Pipeline.{Pipeline}

abbrev pub pattern_step : Variables-F Pattern → Pattern
pattern_step (Variables-F.One n t) = One n t
pattern_step (Variables-F.With p n t) = With p n t

-- what an item with these variables stands for
unfoldable pub pattern_in : Variables → Pattern
pattern_in = fold-Variables Pattern pattern_step

-- whether the name is that of a variable
abbrev pub is_among : List ℕ → Pattern → Bool
is_among name (One n t) = bytes_eq n name
is_among name (With p n t) = bytes_eq n name || is_among name p

abbrev pub frame_step : Frame-F Places → Places
frame_step (Frame-F.Top depth) = places_outside [] [] depth
frame_step (Frame-F.Item outer variables) = with_item outer.now (pattern_in variables.now)
frame_step (Frame-F.Name outer name t) = with_name outer.now name.now t.now

-- the places that a frame stands for, where no host predicate and no name of the session is known
unfoldable pub places_in : Frame → Places
places_in = fold-Frame Places frame_step

-- the same local names, where these host predicates and names of the session are known
abbrev pub within : List HostName → List SessionPlace → Places → Places
within predicates session places = record { predicates = predicates; session = session; locals = places.locals; depth = places.depth }

-- the tree of a name with this place
abbrev pub place_tree : Place → Tree
place_tree place = tree_of place.ty place.form

-- whether a name may be brought in there; tables hide no name
abbrev pub is_fresh_in : Places → List ℕ → Bool
is_fresh_in places name = is_fresh (names_of_places [] places) name

-- the stage that a query has come to
abbrev pub stage_in : Pipeline → PipelineForm
stage_in pipeline = pipeline_of (pattern_in pipeline.variables) pipeline.form

-- what `Gives` says, of the stage that a query comes to
abbrev pub GivesStage : Option PipelineForm → Result Pipeline TermError → Type 0
GivesStage stage (Ok pipeline) = Gives stage (Ok (stage_in pipeline))
GivesStage stage (Err e) = Gives stage (Err e)
