use Rattle.std.proofs.Common.{◌∙◌, ◌++◌, List, ap, flat_map}
use Rattle.lq_grammar.specs.declared.syntax.SortKey.{SortKey}
use Rattle.lq_tree.specs.declared.tree.Form.{Form}
use Rattle.lq_tree.specs.declared.tree.Joined.{Joined}
use Rattle.lq_use.specs.FormRights.{form_rights, join_uses}
use Rattle.lq_use.proofs.UseLemmas.{joined_behind, sorted_behind}
use Rattle.lq_use.proofs.trees.+gathering.Goals as goal

pub add_form-returns-in_ok-add_joined-in-Join : goal.add_form-returns-in_ok-add_joined-in-Join
add_form-returns-in_ok-add_joined-in-Join t c =
    joined_behind c.args.uses.now.items c.add_form-in-Join.new.uses.items c.add_joined.new.uses.items c.args.form.now c.in-Join.source c.in-Join.joined c.in-Join.is
    (c.in_ok-add_form-in-Join.ensures ∙ ap (λ (s : Form). c.args.uses.now.items ++ form_rights s) c.get-in-Join.ensures)
    (c.in_ok-add_joined-in-Join.ensures ∙ ap (λ (j : Joined Form). c.add_form-in-Join.new.uses.items ++ join_uses j) c.get-in-Join-2.ensures)

pub add_form-returns-in_ok-add_keys-in-OrderBy : goal.add_form-returns-in_ok-add_keys-in-OrderBy
add_form-returns-in_ok-add_keys-in-OrderBy t c =
    sorted_behind c.args.uses.now.items c.add_form-in-OrderBy.new.uses.items c.add_keys.new.uses.items c.args.form.now c.in-OrderBy.sorted c.in-OrderBy.keys c.in-OrderBy.is
    (c.in_ok-add_form-in-OrderBy.ensures ∙ ap (λ (s : Form). c.args.uses.now.items ++ form_rights s) c.get-in-OrderBy.ensures)
    (c.in_ok-add_keys-in-OrderBy.ensures
    ∙ ap (λ (ks : List (SortKey Form)). c.add_form-in-OrderBy.new.uses.items ++ flat_map (λ (k : SortKey Form). form_rights k.value) ks) c.as_slice-in-OrderBy.ensures)
