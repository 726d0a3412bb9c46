use Rattle.std.proofs.Common.{◌≡◌, ◌++◌, drop, false, map}
use Rattle.serde_json.specs.View.{items_of}
use Rattle.serde_json.specs.Written.{items_text, members_text}
use Rattle.lq_json.specs.Shapes.{data_by, fields_by}
use Rattle.lq_json.proofs.write.+writing.Given as goal

-- the items so far are written
abbrev pub invariant-write_items-loop-item : goal.invariant-write_items-loop-item
invariant-write_items-loop-item g l =
    l.out ++ items_text l.later (items_of (map (data_by g.R.RowRef.shown l.shape) (drop l.item-index l.items)))
    ≡ l.initial.out ++ items_text false (items_of (map (data_by g.R.RowRef.shown l.shape) l.items))

-- the members so far are written
abbrev pub invariant-write_record-loop-name : goal.invariant-write_record-loop-name
invariant-write_record-loop-name g l =
    l.out ++ members_text l.later (fields_by (data_by g.R.RowRef.shown) (drop l.name-index l.fields) l.members)
    ≡ l.initial.out ++ members_text false (fields_by (data_by g.R.RowRef.shown) l.fields l.members)
