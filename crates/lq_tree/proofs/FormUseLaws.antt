-- What a form uses, over the uses of the forms in it.
use Rattle.std.proofs.Common.{◌≡◌, List, map, ℕ, Bool}
use Rattle.lq_value.specs.declared.scalar.Scalar.{Scalar}
use Rattle.lq_value.specs.declared.ty.Ty.{Ty}
use Rattle.lq_host.specs.declared.call.Pick.{Pick}
use Rattle.lq_language.specs.Maps.{map_field, map_key}
use Rattle.lq_language.specs.declared.methods.Given.{Given}
use Rattle.lq_language.specs.declared.methods.Simple.{Simple}
use Rattle.lq_language.specs.declared.operation.Op.{Op}
use Rattle.lq_language.specs.Mentions.{Mention}
use Rattle.lq_grammar.specs.declared.syntax.Field.{Field}
use Rattle.lq_grammar.specs.declared.syntax.SortKey.{SortKey}
use Rattle.lq_tree.specs.UsesOfForms.{form_uses, form_uses_step}
use Rattle.lq_tree.specs.declared.tree.Form.{Form, map-Form, out-Form}
use Rattle.lq_tree.specs.declared.tree.Form.TheOpen.{Form-F}
use Rattle.lq_tree.specs.declared.tree.Form.TheVariants as form
use Rattle.lq_tree.specs.declared.tree.Joined.{Joined}
use Rattle.lq_tree.proofs.FormSteps.{folded_at}

abbrev used : Form → List Mention
used = form_uses

abbrev step : Form-F (List Mention) → List Mention
step = form_uses_step

pub uses_at : (f : Form) {layer : Form-F Form} → out-Form f ≡ layer → used f ≡ step (map-Form Form (List Mention) used layer)
unfolding form_uses
uses_at f is = folded_at step f is

pub of_literal : (s : Scalar) → used (form.Literal s) ≡ step (Form-F.Literal s)
of_literal s = uses_at _ (form.outs-Literal s)

pub of_slot : (n : ℕ) → used (form.Slot n) ≡ step (Form-F.Slot n)
of_slot n = uses_at _ (form.outs-Slot n)

pub of_first : (a : Form) → used (form.First a) ≡ step (Form-F.First (used a))
of_first a = uses_at _ (form.outs-First a)

pub of_second : (a : Form) → used (form.Second a) ≡ step (Form-F.Second (used a))
of_second a = uses_at _ (form.outs-Second a)

pub of_table : (n : ℕ) → used (form.Table n) ≡ step (Form-F.Table n)
of_table n = uses_at _ (form.outs-Table n)

pub of_column : (a : Form) (n c : ℕ) → used (form.Column a n c) ≡ step (Form-F.Column (used a) n c)
of_column a n c = uses_at _ (form.outs-Column a n c)

pub of_host : (p : ℕ) (a : Form) (n : ℕ) (columns : Pick) → used (form.Host p a n columns) ≡ step (Form-F.Host p (used a) n columns)
of_host p a n columns = uses_at _ (form.outs-Host p a n columns)

pub of_member : (a : Form) (n : ℕ) → used (form.Member a n) ≡ step (Form-F.Member (used a) n)
of_member a n = uses_at _ (form.outs-Member a n)

pub of_key : (a : Form) → used (form.Key a) ≡ step (Form-F.Key (used a))
of_key a = uses_at _ (form.outs-Key a)

pub of_unary : (o : Op) (a : Form) → used (form.Unary o a) ≡ step (Form-F.Unary o (used a))
of_unary o a = uses_at _ (form.outs-Unary o a)

pub of_binary : (o : Op) (a b : Form) → used (form.Binary o a b) ≡ step (Form-F.Binary o (used a) (used b))
of_binary o a b = uses_at _ (form.outs-Binary o a b)

pub of_and : (a b : Form) → used (form.And a b) ≡ step (Form-F.And (used a) (used b))
of_and a b = uses_at _ (form.outs-And a b)

pub of_or : (a b : Form) → used (form.Or a b) ≡ step (Form-F.Or (used a) (used b))
of_or a b = uses_at _ (form.outs-Or a b)

pub of_coalesce : (a b : Form) → used (form.Coalesce a b) ≡ step (Form-F.Coalesce (used a) (used b))
of_coalesce a b = uses_at _ (form.outs-Coalesce a b)

pub of_conditional : (c a b : Form) → used (form.Conditional c a b) ≡ step (Form-F.Conditional (used c) (used a) (used b))
of_conditional c a b = uses_at _ (form.outs-Conditional c a b)

pub of_is_null : (wanted : Bool) (a : Form) → used (form.IsNull wanted a) ≡ step (Form-F.IsNull wanted (used a))
of_is_null wanted a = uses_at _ (form.outs-IsNull wanted a)

pub of_record : (fields : List (Field Form)) → used (form.Record fields) ≡ step (Form-F.Record (map (map_field used) fields))
of_record fields = uses_at _ (form.outs-Record fields)

pub of_pair : (a b : Form) → used (form.Pair a b) ≡ step (Form-F.Pair (used a) (used b))
of_pair a b = uses_at _ (form.outs-Pair a b)

pub of_sequence : (a : Form) → used (form.Sequence a) ≡ step (Form-F.Sequence (used a))
of_sequence a = uses_at _ (form.outs-Sequence a)

pub of_simple : (method : Simple) (t : Ty) (a : Form) → used (form.Simple method t a) ≡ step (Form-F.Simple method t (used a))
of_simple method t a = uses_at _ (form.outs-Simple method t a)

pub of_given : (method : Given) (a b : Form) → used (form.Given method a b) ≡ step (Form-F.Given method (used a) (used b))
of_given method a b = uses_at _ (form.outs-Given method a b)

pub of_where : (a f : Form) → used (form.Where a f) ≡ step (Form-F.Where (used a) (used f))
of_where a f = uses_at _ (form.outs-Where a f)

pub of_select : (a f : Form) → used (form.Select a f) ≡ step (Form-F.Select (used a) (used f))
of_select a f = uses_at _ (form.outs-Select a f)

pub of_all : (a f : Form) → used (form.All a f) ≡ step (Form-F.All (used a) (used f))
of_all a f = uses_at _ (form.outs-All a f)

pub of_select_many : (a inner result : Form) → used (form.SelectMany a inner result) ≡ step (Form-F.SelectMany (used a) (used inner) (used result))
of_select_many a inner result = uses_at _ (form.outs-SelectMany a inner result)

abbrev pub join_used : Joined Form → Joined (List Mention)
join_used j = record { inner = used j.inner; outer_key = used j.outer_key; inner_key = used j.inner_key; grouped = j.grouped; result = used j.result }

pub of_join : (a : Form) (j : Joined Form) → used (form.Join a j) ≡ step (Form-F.Join (used a) (join_used j))
of_join a j = uses_at _ (form.outs-Join a j)

pub of_order : (a : Form) (ks : List (SortKey Form)) → used (form.OrderBy a ks) ≡ step (Form-F.OrderBy (used a) (map (map_key used) ks))
of_order a ks = uses_at _ (form.outs-OrderBy a ks)

pub of_group : (a key element : Form) → used (form.GroupBy a key element) ≡ step (Form-F.GroupBy (used a) (used key) (used element))
of_group a key element = uses_at _ (form.outs-GroupBy a key element)
