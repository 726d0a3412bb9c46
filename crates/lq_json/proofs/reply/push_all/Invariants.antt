use Rattle.std.proofs.Common.{◌≡◌, ◌++◌, ◌||◌, drop}
use Rattle.lq_json.specs.Items.{has_items, text_in}
use Rattle.lq_json.specs.Replies.{served_by}
use Rattle.lq_json.specs.Texts.{has_any, texts}
use Rattle.lq_json.proofs.reply.push_all.Given as goal

-- the items so far are written, and those to come end as all do
abbrev pub invariant-loop-item : goal.invariant-loop-item
invariant-loop-item g l = record {
  text : text_in l.line ++ texts (has_items l.line) (served_by g.R.RowRef.shown l.shape (drop l.item-index l.items, l.end)).0 ≡ text_in l.initial.line ++ texts (has_items l.initial.line) (served_by g.R.RowRef.shown l.shape (l.items, l.end)).0;
  later : (has_items l.line || has_any (served_by g.R.RowRef.shown l.shape (drop l.item-index l.items, l.end)).0) ≡ (has_items l.initial.line || has_any (served_by g.R.RowRef.shown l.shape (l.items, l.end)).0);
  ending : (served_by g.R.RowRef.shown l.shape (drop l.item-index l.items, l.end)).1 ≡ (served_by g.R.RowRef.shown l.shape (l.items, l.end)).1;
}
