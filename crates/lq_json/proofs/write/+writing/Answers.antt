-- A record is written by its fields, and a group by its key and items.
use Rattle.std.proofs.Common.{◌≡◌, ◌∷◌, ◌++◌, ◌+◌, ◌∙◌, [], List, ℕ, OnOk, ap, ap₂, arith, drop, map, refl, slice_get, subst, sym}
use Rattle.std.proofs.lemmas.List.{at_drop_more}
use Rattle.serde_json.specs.Data.{Data, object}
use Rattle.serde_json.specs.Written.{compact_text, members_text}
use Rattle.lq_value.specs.declared.value.Value.TheVariants as value
use Rattle.lq_json.specs.Shapes.{data_by, fields_by, member_data}
use Rattle.lq_json.specs.declared.shape.Shape.{Shape}
use Rattle.lq_json.specs.declared.shape.Shape.TheVariants as shape
use Rattle.lq_json.proofs.Opens.{group_out, record_out}
use Rattle.lq_json.proofs.Written.{group_put, member_put}
use Rattle.lq_json.proofs.write.+writing.Goals as goal

pub write-returns-in-Rec-Rec : goal.write-returns-in-Rec-Rec
write-returns-in-Rec-Rec g t c =
    subst (λ (d : Data). OnOk c.write_record.result (c.write_record.new.out ≡ c.args.out.now ++ compact_text d))
    (ap₂ (λ fs ms. object (fields_by (data_by g.R.RowRef.shown) fs ms)) c.as_slice-in-Rec-Rec.ensures c.as_slice-in-Rec-Rec-2.ensures
    ∙ record_out g.R.RowRef.shown c.args.shape.now c.args.value.now c.in-Rec-Rec.fields c.in-Rec-Rec.members c.in-Rec-Rec.is-0 c.in-Rec-Rec.is-1)
    c.write_record.ensures

pub write-returns-in_ok-write_items-in-Group-Group : goal.write-returns-in_ok-write_items-in-Group-Group
write-returns-in_ok-write_items-in-Group-Group g t c =
    let of_key = c.get.result.now in
    let key = c.get-in-Group-Group.result.now in
    let of_item = c.get-in-Group-Group-2.result.now in
    let items = c.as_slice-in-Group-Group.result.now in
    let shape_is = c.in-Group-Group.is-0 ∙ sym (ap₂ shape.Group c.get.ensures c.get-in-Group-Group-2.ensures) in
    let value_is = c.in-Group-Group.is-1 ∙ sym (ap₂ value.Group c.get-in-Group-Group.ensures c.as_slice-in-Group-Group.ensures) in
    subst (λ (t : List ℕ). OnOk c.put_byte.result (c.put_byte.new.self ≡ t))
    (group_put (data_by g.R.RowRef.shown of_key key) (map (data_by g.R.RowRef.shown of_item) items) c.args.out.now c.put.new.self c.write.new.out c.put-in-Group-Group.new.self c.write_items.new.out
    (c.write_items.new.out ++ 125 ∷ []) c.in_ok-put-in-Group-Group.ensures c.in_ok-write-in-Group-Group.ensures c.in_ok-put-in-Group-Group-2.ensures c.in_ok-write_items-in-Group-Group.ensures refl
    ∙ ap (λ (d : Data). c.args.out.now ++ compact_text d) (group_out g.R.RowRef.shown c.args.shape.now c.args.value.now of_key of_item key items shape_is value_is))
    c.put_byte.ensures

pub write_record-loop-name-preserved : goal.write_record-loop-name-preserved
write_record-loop-name-preserved g t c =
    let f = c.loop-name-item.result in
    let i = c.loop-name.name-index in
    let fields = c.args.fields.now in
    let members = c.args.members.now in
    member_put c.loop-name.later f.0 (member_data (data_by g.R.RowRef.shown f.1.1) (slice_get members f.1.0)) (fields_by (data_by g.R.RowRef.shown) (drop (i + 1) fields) members)
    c.loop-name.out c.write_front.new.out c.write_member.new.out c.in_ok-write_front.ensures c.in_ok-write_member.ensures
    ∙ ap (λ (e : List ℕ × (ℕ × Shape)). c.loop-name.out ++ members_text c.loop-name.later (fields_by (data_by g.R.RowRef.shown) (e ∷ drop (i + 1) fields) members)) c.loop-name-item.is
    ∙ sym (at_drop_more (λ (fs : List (List ℕ × (ℕ × Shape))). c.loop-name.out ++ members_text c.loop-name.later (fields_by (data_by g.R.RowRef.shown) fs members)) fields i f (omega arith))
    ∙ c.loop-name.invariant
