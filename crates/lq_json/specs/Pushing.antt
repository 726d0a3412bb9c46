-- Replies whose items are pushed one by one.
use Rattle.std.specs.Prelude.{◌≡◌, ◌∷◌, ◌++◌, List, [], Bool, true, false, Option, Some, None, Result, Ok, Err}
use Rattle.serde_json.specs.Data.{Data}
use Rattle.lq_value.specs.declared.scalar.Scalar.{Scalar}
use Rattle.lq_value.specs.declared.table.Schema.{Schema}
use Rattle.lq_value.specs.declared.ty.Ty.{Ty}
use Rattle.lq_value.specs.declared.value.End.{End}
use Rattle.lq_value.specs.declared.value.End.TheVariants as end
use Rattle.lq_value.specs.declared.value.Fault.{Fault}
use Rattle.lq_value.specs.declared.value.Value.{Value}
use Rattle.lq_machine.specs.Served.{item_data, served_item}
use Rattle.lq_machine.specs.States.{schemas_of}
use Rattle.lq_sink.specs.declared.sinks.Flow.{Flow}
use Rattle.lq_sink.specs.declared.sinks.Flow.TheVariants as flow
use Rattle.lq_json.specs.Items.{Holds}
use Rattle.lq_json.specs.Shapes.{shape_of}
use Rattle.lq_json.specs.declared.pushing.Items.{Items}
use Rattle.lq_json.specs.declared.pushing.Cut.{Cut}
use Rattle.lq_json.specs.declared.pushing.Cut.TheVariants as cut
use Rattle.lq_json.specs.declared.pushing.Writing.{Writing}

-- what is written has these items, by the shape of their type; nothing is where there is none
abbrev pub HasWritten : Items → Option Writing → List Data → Type 0
HasWritten items (Some w) ds = Holds w.line ds × (w.shape ≡ shape_of (schemas_of items.store.now) items.ty.now)
HasWritten items None ds = ds ≡ []

-- the reply has these items so far
abbrev pub HasPushed : Items → List Data → Type 0
HasPushed items ds = HasWritten items items.writing ds

-- what has cut a reply off, if anything has
abbrev pub cut_of : Items → Option Cut
cut_of items = items.cut

-- a reply is of values of this type, with these tables
abbrev pub IsReplyOf : List Schema → Ty → Items → Type 0
IsReplyOf schemas t items = (schemas_of items.store.now ≡ schemas) × (items.ty.now ≡ t)

-- a reply is still one of the same type and tables
abbrev pub IsOfSame : Items → Items → Type 0
IsOfSame old new = (new.ty ≡ old.ty) × (new.store ≡ old.store)

-- how a reply ends that was cut off, or wasn't, where its items end so
abbrev pub ending : Option Cut → End → End
ending (Some (cut.Fault f)) e = end.Fault f
ending (Some cut.Memory) e = e
ending None e = e

-- whether a growth was refused
abbrev pub has_memory : Option Cut → Bool
has_memory (Some cut.Memory) = true
has_memory (Some (cut.Fault f)) = false
has_memory None = false

-- one item more
abbrev pub HasOneMore : Items → Data → Items → Type 0
HasOneMore old d new = (ds : List Data) → HasPushed old ds → HasPushed new (ds ++ d ∷ [])

-- A push, by why the reply had stopped and by what is served of the value: nothing changes after a stop; a fault stops the reply before the value;
-- and else there is one item more, or a growth was refused.
abbrev pub PushesBy : Option Cut → Result Data Fault → Items → Flow → Items → Type 0
PushesBy (Some s) served old said new = (said ≡ flow.Stop) × (new ≡ old)
PushesBy None (Err f) old said new = (said ≡ flow.Stop) × (new.cut ≡ Some (cut.Fault f)) × ((ds : List Data) → HasPushed old ds → HasPushed new ds)
PushesBy None (Ok d) old flow.Go new = (new.cut ≡ None) × HasOneMore old d new
PushesBy None (Ok d) old flow.Stop new = new.cut ≡ Some cut.Memory

module _ {R : Type 0} (cells_of : R → List Scalar) where
  -- an item is written
  abbrev pub Writes : Items → Value R → Items → Type 0
  Writes old v new = HasOneMore old (item_data (schemas_of old.store.now) cells_of old.ty.now v) new

  -- a value is pushed
  abbrev pub Pushes : Items → Value R → Flow → Items → Type 0
  Pushes old v said new = IsOfSame old new × PushesBy old.cut (served_item (schemas_of old.store.now) cells_of old.ty.now v) old said new
