-- What a head over a chain means, and where a pipe over it starts.
use Rattle.std.proofs.Common.{◌≡◌, [], ℕ, Some, None, Result, Ok, Err, IfOk, ap, ◌∙◌, sym, slice_get}
use Rattle.std.specs.declared.alloc.AllocError.{AllocError}
use Rattle.lq_value.specs.declared.ty.Ty.{Ty}
use Rattle.lq_value.specs.declared.value.Fault.{Fault}
use Rattle.lq_value.specs.declared.value.Value.{Value}
use Rattle.lq_language.specs.Enumerable.{all}
use Rattle.lq_language.specs.Meaning.{as_truth, given_meaning, simple_meaning}
use Rattle.lq_language.specs.OperandMeaning.{stream_of, table_value}
use Rattle.lq_language.specs.Stream.{Stream}
use Rattle.lq_language.specs.TableRows.{TableRow}
use Rattle.lq_language.specs.Worlds.{World}
use Rattle.lq_language.specs.declared.methods.Given.{Given}
use Rattle.lq_language.specs.declared.methods.Simple.{Simple}
use Rattle.lq_tree.specs.FormMeaning.{form_meaning, is_true, with_item}
use Rattle.lq_tree.specs.declared.tree.Form.{Form}
use Rattle.lq_tree.specs.declared.tree.Form.TheVariants as form
use Rattle.lq_plan.specs.Counts.{read_first}
use Rattle.lq_plan.specs.Pulling.{items_at}
use Rattle.lq_plan.proofs.FormLaws.{form_all, form_given, form_simple}
use Rattle.lq_pipeline.specs.Chains.{items_of_result, leaf_of, rows_at}
use Rattle.lq_pipeline.specs.Heads.{AreItemsOf, one_by_one, unwrapped}
use Rattle.lq_pipeline.specs.Places.{start_of}
use Rattle.lq_pipeline.proofs.HeadLemmas.{needs_plain}
use Rattle.lq_pipeline.proofs.TakeLemmas.{unwrapped_items}

module _ (world : World TableRow) (a : Form) (n : ℕ) (items : AreItemsOf a n) (s : Stream (Value TableRow))
    (opened : s ≡ stream_of world (table_value world (slice_get world.rows n))) where
  -- the items of a chain are what comes of those of its opened table
  pub chain_items : items_at world [] a s ≡ stream_of world (form_meaning world a [])
  chain_items = ap (items_at world [] a) opened ∙ (items world).0

  pub simple_means : (f : Form) (method : Simple) (t : Ty) → unwrapped f ≡ form.Simple method t a
      → simple_meaning method t (items_at world [] a s) ≡ form_meaning world (unwrapped f) []
  simple_means f method t is =
      ap (simple_meaning method t) chain_items ∙ sym (form_simple world method t a []) ∙ ap (λ (g : Form). form_meaning world g []) (sym is)

  pub given_means : (f : Form) (method : Given) (b : Form) → unwrapped f ≡ form.Given method a b
      → given_meaning world method (form_meaning world b []) (items_at world [] a s) ≡ form_meaning world (unwrapped f) []
  given_means f method b is =
      ap (given_meaning world method (form_meaning world b [])) chain_items ∙ sym (form_given world method a b []) ∙ ap (λ (g : Form). form_meaning world g []) (sym is)

  pub all_means : (f c : Form) → unwrapped f ≡ form.All a c
      → as_truth (all (λ v. is_true world (form_meaning world c) (with_item world [] v)) (items_at world [] a s).0 (items_at world [] a s).1) ≡ form_meaning world (unwrapped f) []
  all_means f c is =
      ap (λ (t : Stream (Value TableRow)). as_truth (all (λ v. is_true world (form_meaning world c) (with_item world [] v)) t.0 t.1)) chain_items
      ∙ sym (form_all world a c []) ∙ ap (λ (g : Form). form_meaning world g []) (sym is)

  -- what is found is what is given first
  pub left_is : (f : Form) (m : Result (Value TableRow) Fault) (found : Result (Result (Value TableRow) Fault) AllocError) → m ≡ form_meaning world (unwrapped f) []
      → IfOk found (λ v. v ≡ m) → IfOk found (λ v. (start_of world f).left ≡ items_of_result v)
  left_is f m (Ok v) means is = sym (ap items_of_result (is ∙ means) ∙ unwrapped_items world f)
  left_is f m (Err e) means is = tt

  -- the chain itself: all its items are to come
  pub plain_start : (f : Form) → unwrapped f ≡ a → leaf_of a ≡ Some n
      → (record { left = read_first None (items_at world [] a s); needs = one_by_one world a None (rows_at world n) }) ≡ start_of world f
  plain_start f is leaf =
      let left = chain_items ∙ sym ((items world).1) ∙ ap (λ (g : Form). items_of_result (form_meaning world g [])) (sym is) ∙ unwrapped_items world f in
      let needs = ap (λ (g : Form). one_by_one world g None (rows_at world n)) (sym is) ∙ sym (needs_plain world f n (ap leaf_of is ∙ leaf)) in
      λ i. record { left = left i; needs = needs i }
