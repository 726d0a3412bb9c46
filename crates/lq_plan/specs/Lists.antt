-- The parts of forms that hold forms, with these as what they mean.
use Rattle.lq_language.specs.Worlds.{World}
use Rattle.lq_grammar.specs.declared.syntax.Field.{Field}
use Rattle.lq_grammar.specs.declared.syntax.SortKey.{SortKey}
use Rattle.lq_tree.specs.FormMeaning.{Means, form_meaning}
use Rattle.lq_tree.specs.declared.tree.Form.{Form}
use Rattle.lq_tree.specs.declared.tree.Joined.{Joined}

module _ {R : Type 0} (world : World R) where
  abbrev pub field_means : Field Form → Field (Means R)
  field_means field = record { name = field.name; value = form_meaning world field.value }

  abbrev pub key_means : SortKey Form → SortKey (Means R)
  key_means key = record { value = form_meaning world key.value; descending = key.descending }

  abbrev pub joined_means : Joined Form → Joined (Means R)
  joined_means j =
      record {
        inner = form_meaning world j.inner;
        outer_key = form_meaning world j.outer_key;
        inner_key = form_meaning world j.inner_key;
        grouped = j.grouped;
        result = form_meaning world j.result;
      }
