-- Replies as data.
use Rattle.std.specs.Prelude.{◌≡◌, ◌++◌, ◌||◌, List, Ok}
use Rattle.serde_json.specs.Data.{Data, object}
use Rattle.lq_value.specs.declared.scalar.Scalar.{Scalar}
use Rattle.lq_value.specs.declared.value.End.{End}
use Rattle.lq_value.specs.declared.value.Value.{Value}
use Rattle.lq_machine.specs.States.{schemas_of}
use Rattle.lq_machine.specs.Served.{assigned_data, defined_data, deleted_data, denied_data, error_data, fault_data, inserted_data, nested_fault, role_data, stream_data, stream_members, unless_fault, value_data}
use Rattle.lq_language.specs.Stream.{Stream, select_each}
use Rattle.lq_json.specs.Shapes.{data_by}
use Rattle.lq_json.specs.Items.{has_items, text_in}
use Rattle.lq_json.specs.Texts.{has_any, texts}
use Rattle.lq_json.specs.declared.shape.Shape.{Shape}
use Rattle.lq_json.specs.declared.items.ItemsLine.{ItemsLine}
use Rattle.lq_json.specs.declared.reply.Reply.{Reply}
use Rattle.lq_json.specs.declared.reply.Reply.TheVariants as reply

-- a stream of items in JSON
abbrev pub stream_reply : Stream Data → Data
stream_reply s = object (stream_members s.0 s.1)

module _ {R : Type 0} (cells_of : R → List Scalar) where
  -- a reply in JSON
  abbrev pub reply_data : Reply R → Data
  reply_data (reply.Items store t items end) = stream_data (schemas_of store.now) cells_of t.now (items.now, end)
  reply_data (reply.Value store t v) = value_data (schemas_of store.now) cells_of t.now (Ok v.now)
  reply_data (reply.Fault f) = fault_data f
  reply_data (reply.Error word) = error_data word.now
  reply_data (reply.Denied store hosts rule used) = denied_data (schemas_of store.now) hosts.now rule.now used
  reply_data (reply.Defined name) = defined_data name.now
  reply_data (reply.Assigned name) = assigned_data name.now
  reply_data (reply.Role name) = role_data name.now
  reply_data reply.Inserted = inserted_data
  reply_data (reply.Deleted n) = deleted_data n

  -- a stream of values as a shape writes them, up to the first that holds a fault
  abbrev pub served_by : Shape → Stream (Value R) → Stream Data
  served_by shape s = select_each (λ v. unless_fault (nested_fault v) (data_by cells_of shape v)) s

  -- All items are written after the others that are served, and they end as these do.
  pub record ServesAll (shape : Shape) (items : List (Value R)) (end : End) (old new : ItemsLine) (ended : End) : Type 0 where
    pub text : text_in new ≡ text_in old ++ texts (has_items old) (served_by shape (items, end)).0
    pub later : has_items new ≡ (has_items old || has_any (served_by shape (items, end)).0)
    pub ending : ended ≡ (served_by shape (items, end)).1
