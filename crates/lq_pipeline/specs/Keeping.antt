-- What keeps the items that it takes, until a growth is refused.
use Rattle.std.specs.Prelude.{◌≡◌, ◌∷◌, ◌++◌, [], true}
use Rattle.lq_value.specs.declared.value.Value.{Value}
use Rattle.lq_language.specs.TableRows.{TableRow}
use Rattle.lq_sink.specs.declared.sinks.Flow.{Flow}
use Rattle.lq_sink.specs.declared.sinks.Flow.TheVariants as flow
use Rattle.lq_pipeline.specs.declared.runs.Keeper.{Keeper}

-- an item comes behind the others, or was refused
abbrev pub Keeps : Keeper → Value TableRow → Flow → Keeper → Type 0
Keeps old x flow.Go new = (new.items ≡ old.items ++ x ∷ []) × (new.is_refused ≡ old.is_refused)
Keeps old x flow.Stop new = new.is_refused ≡ true
