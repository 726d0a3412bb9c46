-- The `Take` in a form: it has the same items, and uses the same.
use Rattle.std.proofs.Common.{◌≡◌, [], true, true≢false, false, Option, Some, None, Result, Ok, Err, ap, ◌∙◌, sym, refl, subst}
use Rattle.std.proofs.lemmas.Option.{none-some, same_Some}
use Rattle.lq_value.specs.declared.scalar.Scalar.TheVariants as scalar
use Rattle.lq_value.specs.declared.ty.Ty.{Ty}
use Rattle.lq_value.specs.declared.value.Fault.{Fault}
use Rattle.lq_value.specs.declared.value.Value.{Value, out-Value}
use Rattle.lq_value.specs.declared.value.Value.TheOpen.{Value-F}
use Rattle.lq_language.specs.Enumerable.{as_count, take_first}
use Rattle.lq_language.specs.Meaning.{given_meaning, number_of}
use Rattle.lq_language.specs.OperandMeaning.{scalar_of, sequence, stream_of}
use Rattle.lq_language.specs.Operations.{on_ok}
use Rattle.lq_language.specs.Stream.{Stream}
use Rattle.lq_language.specs.TableRows.{TableRow}
use Rattle.lq_language.specs.Worlds.{World}
use Rattle.lq_language.specs.declared.methods.Given.{Given}
use Rattle.lq_language.specs.declared.methods.Given.TheVariants as given
use Rattle.lq_language.specs.declared.methods.Simple.{Simple}
use Rattle.lq_tree.specs.FormMeaning.{form_meaning}
use Rattle.lq_tree.specs.UsesOfForms.{form_uses}
use Rattle.lq_tree.specs.declared.tree.Form.{Form, ind-Form, map-Form, out-Form, para-roll-Form, roll-Form}
use Rattle.lq_tree.specs.declared.tree.Form.TheOpen.{Form-F}
use Rattle.lq_tree.specs.declared.tree.Form.TheVariants as form
use Rattle.lq_tree.specs.declared.tree.Form.TheViews.{out-roll-Form, roll-out-Form}
use Rattle.lq_tree.proofs.FormUseLaws.{uses_at}
use Rattle.lq_plan.proofs.FormLaws.{form_given, form_sequence}
use Rattle.lq_plan.proofs.PullLaws.{stream_sequence}
use Rattle.lq_pipeline.specs.Chains.{items_of_result}
use Rattle.lq_pipeline.specs.Heads.{is_take_layer, sequence_layer, take_in, take_step, unwrapped, unwrapped_by}
use Rattle.lq_pipeline.proofs.ChainLemmas.{of_sequence}

-- ---- what is found

abbrev with_take : Form → Form × Option Form
with_take f = (f, take_in f)

take_roll : (layer : Form-F Form) → take_in (roll-Form layer) ≡ take_step (map-Form Form (Form × Option Form) with_take layer)
unfolding take_in
take_roll layer = para-roll-Form (Option Form) take_step layer

pub take_at : (f : Form) (layer : Form-F Form) → out-Form f ≡ layer → take_in f ≡ take_step (map-Form Form (Form × Option Form) with_take layer)
take_at f layer is = ap take_in (sym (roll-out-Form f)) ∙ take_roll (out-Form f) ∙ ap (λ (l : Form-F Form). take_step (map-Form Form (Form × Option Form) with_take l)) is

pub unwrapped_simple : (method : Simple) (t : Ty) (a : Form) → unwrapped (form.Simple method t a) ≡ form.Simple method t a
unwrapped_simple method t a = ap (unwrapped_by (form.Simple method t a)) (take_at (form.Simple method t a) _ (form.outs-Simple method t a))

pub unwrapped_all : (a c : Form) → unwrapped (form.All a c) ≡ form.All a c
unwrapped_all a c = ap (unwrapped_by (form.All a c)) (take_at (form.All a c) _ (form.outs-All a c))

take_given : (method : Given) (a b : Form) → unwrapped_by (form.Given method a b) (take_step (map-Form Form (Form × Option Form) with_take (Form-F.Given method a b))) ≡ form.Given method a b
take_given given.Take a b = refl
take_given given.Skip a b = refl
take_given given.ElementAt a b = refl
take_given given.Contains a b = refl
take_given given.Concat a b = refl
take_given given.Union a b = refl
take_given given.Intersect a b = refl
take_given given.Except a b = refl

pub unwrapped_given : (method : Given) (a b : Form) → unwrapped (form.Given method a b) ≡ form.Given method a b
unwrapped_given method a b = ap (unwrapped_by (form.Given method a b)) (take_at (form.Given method a b) _ (form.outs-Given method a b)) ∙ take_given method a b

-- a `Take` that says that it is a sequence
pub unwrapped_take : (a b : Form) → unwrapped (form.Sequence (form.Given given.Take a b)) ≡ form.Given given.Take a b
unwrapped_take a b =
    ap (unwrapped_by (form.Sequence (form.Given given.Take a b)))
    (take_at (form.Sequence (form.Given given.Take a b)) _ (form.outs-Sequence (form.Given given.Take a b))
    ∙ take_at (form.Given given.Take a b) _ (form.outs-Given given.Take a b))

-- ---- as it is looked for

pub below_sequence : (f a : Form) → sequence_layer (out-Form f) ≡ Some a → take_in f ≡ take_in a
below_sequence f a is = by (out-Form f) refl is where
  by : (layer : Form-F Form) → out-Form f ≡ layer → sequence_layer layer ≡ Some a → take_in f ≡ take_in a
  by (Form-F.Sequence b) at some = take_at f (Form-F.Sequence b) at ∙ ap take_in (same_Some b a some)
  by layer at some = absurd (none-some a some)

itself_by : (f a b : Form) → out-Form f ≡ Form-F.Given given.Take a b → take_in f ≡ Some f
itself_by f a b at =
    take_at f (Form-F.Given given.Take a b) at
    ∙ ap (λ (g : Form). Some g) (sym (roll-out-Form (form.Given given.Take a b)) ∙ ap roll-Form (form.outs-Given given.Take a b ∙ sym at) ∙ roll-out-Form f)

pub take_itself : (f : Form) → is_take_layer (out-Form f) ≡ true → take_in f ≡ Some f
take_itself f is = by (out-Form f) refl is where
  by : (layer : Form-F Form) → out-Form f ≡ layer → is_take_layer layer ≡ true → take_in f ≡ Some f
  by (Form-F.Given given.Take a b) at h = itself_by f a b at
  by layer at h = absurd (true≢false (sym h))

pub no_take : (f : Form) → sequence_layer (out-Form f) ≡ None → is_take_layer (out-Form f) ≡ false → take_in f ≡ None
no_take f none is = by (out-Form f) refl none is where
  by : (layer : Form-F Form) → out-Form f ≡ layer → sequence_layer layer ≡ None → is_take_layer layer ≡ false → take_in f ≡ None
  by (Form-F.Sequence b) at none h = absurd (none-some b (sym none))
  by (Form-F.Given given.Take a b) at none h = absurd (true≢false h)
  by layer at none h = take_at f layer at

-- ---- its items

module _ (world : World TableRow) where
  -- what enumerates as its items: a sequence, or a fault
  abbrev IsPlain : Result (Value TableRow) Fault → Type 0
  IsPlain m = stream_of world m ≡ items_of_result m

  plain_sequence : (s : Stream (Value TableRow)) → IsPlain (Ok (sequence s))
  plain_sequence s = stream_sequence world [] s ∙ sym (of_sequence s)

  take_layer_plain : (s : Stream (Value TableRow)) (layer : Value-F TableRow (Value TableRow))
      → IsPlain (on_ok (on_ok (scalar_of world layer) (number_of world)) (λ n. Ok (sequence (take_first (as_count n) s.0 s.1))))
  take_layer_plain s (Value-F.Scalar (scalar.Int m)) = plain_sequence (take_first (as_count m) s.0 s.1)
  take_layer_plain s (Value-F.Scalar scalar.Null) = refl
  take_layer_plain s (Value-F.Scalar (scalar.Bool b)) = refl
  take_layer_plain s (Value-F.Scalar (scalar.Text t)) = refl
  take_layer_plain s (Value-F.Row r) = refl
  take_layer_plain s (Value-F.Rec ms) = refl
  take_layer_plain s (Value-F.Group k xs) = refl
  take_layer_plain s (Value-F.Seq xs e) = refl

  take_plain : (argument : Result (Value TableRow) Fault) (s : Stream (Value TableRow)) → IsPlain (given_meaning world given.Take argument s)
  take_plain (Ok v) s = take_layer_plain s (out-Value TableRow v)
  take_plain (Err f) s = refl

  -- a `Take` in a form has the form's items
  record HasItemsOf (f g : Form) : Type 0 where
    plain : IsPlain (form_meaning world f [])
    items : items_of_result (form_meaning world g []) ≡ items_of_result (form_meaning world f [])
    uses : form_uses g ≡ form_uses f

  abbrev Takes : Form → Type 0
  Takes f = (g : Form) → take_in f ≡ Some g → HasItemsOf f g

  abbrev Such : Type 0
  Such = (f : Form) × Takes f

  abbrev plain_of : Form-F Such → Form-F Form
  plain_of layer = map-Form Such Form (λ z. z.0) layer

  in_sequence : (a f : Form) → Takes a → f ≡ form.Sequence a → take_in f ≡ take_in a → form_uses f ≡ form_uses a → Takes f
  in_sequence a f takes is same uses g found =
      let of = takes g (sym same ∙ found) in
      let means : form_meaning world f [] ≡ Ok (sequence (stream_of world (form_meaning world a []))) =
      ap (λ (h : Form). form_meaning world h []) is ∙ form_sequence world a [] in
      record {
        plain = subst IsPlain (sym means) (plain_sequence (stream_of world (form_meaning world a [])));
        items = of.items ∙ sym (ap items_of_result means ∙ of_sequence (stream_of world (form_meaning world a [])) ∙ of.plain);
        uses = of.uses ∙ sym uses;
      }

  itself : (f g : Form) → f ≡ g → IsPlain (form_meaning world f []) → HasItemsOf f g
  itself f g is plain = record { plain = plain; items = ap (λ (h : Form). items_of_result (form_meaning world h [])) (sym is); uses = ap form_uses (sym is) }

  rolled_take : (y : Form-F Such) → Takes (roll-Form (plain_of y))
  rolled_take (Form-F.Sequence a) =
      let f = roll-Form (Form-F.Sequence a.0) in
      in_sequence a.0 f a.1 (ap roll-Form (sym (form.outs-Sequence a.0)) ∙ roll-out-Form (form.Sequence a.0)) (take_roll (Form-F.Sequence a.0)) (uses_at f (out-roll-Form (Form-F.Sequence a.0)))
  rolled_take (Form-F.Given given.Take a b) = λ g found.
      let f = roll-Form (Form-F.Given given.Take a.0 b.0) in
      let is : form.Given given.Take a.0 b.0 ≡ g = same_Some _ g (sym (take_roll (Form-F.Given given.Take a.0 b.0)) ∙ found) in
      let rolled : f ≡ form.Given given.Take a.0 b.0 = ap roll-Form (sym (form.outs-Given given.Take a.0 b.0)) ∙ roll-out-Form (form.Given given.Take a.0 b.0) in
      itself f g (rolled ∙ is) (subst IsPlain (sym (ap (λ (h : Form). form_meaning world h []) rolled ∙ form_given world given.Take a.0 b.0 [])) (take_plain (form_meaning world b.0 []) (stream_of world (form_meaning world a.0 []))))
  rolled_take layer = λ g found. absurd (none-some g (sym (take_roll (plain_of layer)) ∙ found))

  takes : (f : Form) → Takes f
  takes f = ind-Form Takes (λ x y e. subst (λ (d : Form-F Form). Takes (roll-Form d)) e (rolled_take y)) f

  items_by : (f : Form) (o : Option Form) → take_in f ≡ o → items_of_result (form_meaning world (unwrapped_by f o) []) ≡ items_of_result (form_meaning world f [])
  items_by f None is = refl
  items_by f (Some g) is = (takes f g is).items

  pub unwrapped_items : (f : Form) → items_of_result (form_meaning world (unwrapped f) []) ≡ items_of_result (form_meaning world f [])
  unwrapped_items f = items_by f (take_in f) refl

  uses_by : (f : Form) (o : Option Form) → take_in f ≡ o → form_uses (unwrapped_by f o) ≡ form_uses f
  uses_by f None is = refl
  uses_by f (Some g) is = (takes f g is).uses

  pub unwrapped_uses : (f : Form) → form_uses (unwrapped f) ≡ form_uses f
  unwrapped_uses f = uses_by f (take_in f) refl
