-- Heads over chains: which rows they need, what a watch has to cover for them, and what they mean.
use Rattle.std.proofs.Common.{◌≡◌, ◌&&◌, ◌⊎◌, inl, inr, List, [], ℕ, Bool, true, Option, Some, None, ap, ◌∙◌, sym, refl}
use Rattle.std.specs.Cmp.{first_so}
use Rattle.std.proofs.lemmas.Option.{none-some}
use Rattle.lq_value.specs.declared.ty.Ty.{Ty}
use Rattle.lq_value.specs.declared.value.Value.{Value}
use Rattle.lq_value.specs.declared.value.Value.{Value}
use Rattle.lq_language.specs.Worlds.{World}
use Rattle.lq_language.specs.declared.methods.Given.{Given}
use Rattle.lq_language.specs.declared.methods.Simple.{Simple}
use Rattle.lq_tree.specs.FormMeaning.{form_meaning}
use Rattle.lq_tree.specs.Watches.{Watch, is_covered, is_covered_above}
use Rattle.lq_tree.specs.declared.tree.Form.{Form, map-Form, out-Form}
use Rattle.lq_tree.specs.declared.tree.Form.TheOpen.{Form-F}
use Rattle.lq_tree.specs.declared.tree.Form.TheVariants as form
use Rattle.lq_plan.specs.Counts.{simple_limit}
use Rattle.lq_pipeline.specs.Chains.{leaf_of, leaf_step, rows_at}
use Rattle.lq_pipeline.specs.Heads.{IsHeadOver, Needs, at_once, decides_given, fails, given_needs, given_needs_by, leaf_below, leaf_under, needs_layer, needs_of, needs_of_leaf, one_by_one, run_whole, taken_by, unwrapped}
use Rattle.lq_pipeline.specs.Places.{covered_layer, covers_beside}
use Rattle.lq_pipeline.specs.Settling.{reaches}
use Rattle.lq_pipeline.specs.declared.chains.Head.{Head}
use Rattle.lq_pipeline.specs.declared.chains.Head.TheVariants as head
use Rattle.lq_pipeline.proofs.ChainLemmas.{leaf_out}

absurd_leaf : {A : Type 0} {n : ℕ} → None ≡ Some n → A
absurd_leaf {A} {n} is = absurd (none-some n is)

-- ---- a chain is no head

chain_under : (f : Form) (layer : Form-F Form) (n : ℕ) → leaf_step (map-Form Form (Option ℕ) leaf_of layer) ≡ Some n → leaf_under f layer ≡ leaf_of f
chain_under f (Form-F.Simple method t a) n is = absurd_leaf is
chain_under f (Form-F.Given method a b) n is = absurd_leaf is
chain_under f (Form-F.All a c) n is = absurd_leaf is
chain_under f layer n is = refl

pub plain_leaf : (f : Form) (n : ℕ) → leaf_of (unwrapped f) ≡ Some n → leaf_below f ≡ Some n
plain_leaf f n is = chain_under (unwrapped f) (out-Form (unwrapped f)) n (sym (leaf_out (unwrapped f)) ∙ is) ∙ is

module _ {R : Type 0} (world : World R) where
  plain_under : (f : Form) (layer : Form-F Form) (n : ℕ) → leaf_step (map-Form Form (Option ℕ) leaf_of layer) ≡ Some n
      → needs_layer world f layer ≡ needs_of_leaf world (leaf_of f) (one_by_one world f None)
  plain_under f (Form-F.Simple method t a) n is = absurd_leaf is
  plain_under f (Form-F.Given method a b) n is = absurd_leaf is
  plain_under f (Form-F.All a c) n is = absurd_leaf is
  plain_under f layer n is = refl

  pub needs_plain : (f : Form) (n : ℕ) → leaf_of (unwrapped f) ≡ Some n → needs_of world f ≡ one_by_one world (unwrapped f) None (rows_at world n)
  needs_plain f n is =
      plain_under (unwrapped f) (out-Form (unwrapped f)) n (sym (leaf_out (unwrapped f)) ∙ is)
      ∙ ap (λ (o : Option ℕ). needs_of_leaf world o (one_by_one world (unwrapped f) None)) is

  covers_under : (f : Form) (layer : Form-F Form) (n : ℕ) (w : Watch R) → leaf_step (map-Form Form (Option ℕ) leaf_of layer) ≡ Some n
      → covered_layer world w f layer ≡ is_covered_above world w f
  covers_under f (Form-F.Simple method t a) n w is = absurd_leaf is
  covers_under f (Form-F.Given method a b) n w is = absurd_leaf is
  covers_under f (Form-F.All a c) n w is = absurd_leaf is
  covers_under f layer n w is = refl

  pub plain_covers : (f : Form) (n : ℕ) (w : Watch R) → leaf_of (unwrapped f) ≡ Some n → covers_beside world f w ≡ is_covered_above world w (unwrapped f)
  plain_covers f n w is = covers_under (unwrapped f) (out-Form (unwrapped f)) n w (sym (leaf_out (unwrapped f)) ∙ is)

  -- ---- heads

  pub needs_simple : (f : Form) (method : Simple) (t : Ty) (a : Form) (n : ℕ) → unwrapped f ≡ form.Simple method t a → leaf_of a ≡ Some n
      → needs_of world f ≡ at_once world a (reaches (simple_limit method)) (rows_at world n)
  needs_simple f method t a n is leaf =
      ap (needs_layer world (unwrapped f)) (ap out-Form is ∙ form.outs-Simple method t a)
      ∙ ap (λ (o : Option ℕ). needs_of_leaf world o (at_once world a (reaches (simple_limit method)))) leaf

  pub needs_with : (f : Form) (method : Given) (a b : Form) (n : ℕ) → unwrapped f ≡ form.Given method a b → leaf_of a ≡ Some n
      → needs_of world f ≡ given_needs world a method (form_meaning world b []) (rows_at world n)
  needs_with f method a b n is leaf =
      ap (needs_layer world (unwrapped f)) (ap out-Form is ∙ form.outs-Given method a b)
      ∙ ap (λ (o : Option ℕ). needs_of_leaf world o (given_needs world a method (form_meaning world b []))) leaf

  pub needs_all : (f a c : Form) (n : ℕ) → unwrapped f ≡ form.All a c → leaf_of a ≡ Some n → needs_of world f ≡ at_once world a (fails world c) (rows_at world n)
  needs_all f a c n is leaf =
      ap (needs_layer world (unwrapped f)) (ap out-Form is ∙ form.outs-All a c)
      ∙ ap (λ (o : Option ℕ). needs_of_leaf world o (at_once world a (fails world c))) leaf

  pub simple_covers : (f : Form) (method : Simple) (t : Ty) (a : Form) (w : Watch R) → unwrapped f ≡ form.Simple method t a
      → covers_beside world f w ≡ is_covered_above world w a
  simple_covers f method t a w is = ap (covered_layer world w (unwrapped f)) (ap out-Form is ∙ form.outs-Simple method t a)

  pub given_covers : (f : Form) (method : Given) (a b : Form) (w : Watch R) → unwrapped f ≡ form.Given method a b
      → covers_beside world f w ≡ (is_covered_above world w a && is_covered world w b)
  given_covers f method a b w is = ap (covered_layer world w (unwrapped f)) (ap out-Form is ∙ form.outs-Given method a b)

  pub all_covers : (f a c : Form) (w : Watch R) → unwrapped f ≡ form.All a c → covers_beside world f w ≡ (is_covered_above world w a && is_covered world w c)
  all_covers f a c w is = ap (covered_layer world w (unwrapped f)) (ap out-Form is ∙ form.outs-All a c)

  -- a chain is covered with what is above it
  pub chain_covered : (f : Form) (above : Head) (a : Form) (n : ℕ) → IsHeadOver f above a → leaf_of a ≡ Some n → (w : Watch R) → covers_beside world f w ≡ true
      → is_covered_above world w a ≡ true
  chain_covered f head.Plain a n is leaf w h =
      ap (is_covered_above world w) (sym is) ∙ sym (plain_covers f n w (ap leaf_of is ∙ leaf)) ∙ h
  chain_covered f (head.Simple method of) a n is leaf w h = sym (simple_covers f method of.now a w is) ∙ h
  chain_covered f (head.Given method b) a n is leaf w h =
      first_so (is_covered_above world w a) (is_covered world w b.now) (sym (given_covers f method a b.now w is) ∙ h)
  chain_covered f (head.All c) a n is leaf w h =
      first_so (is_covered_above world w a) (is_covered world w c.now) (sym (all_covers f a c.now w is) ∙ h)

-- the table of a head over a chain is that of the chain
pub head_leaf : (f : Form) (above : Head) (a : Form) → IsHeadOver f above a → (n : ℕ) → leaf_of a ≡ Some n → leaf_below f ≡ Some n
head_leaf f head.Plain a is n leaf = plain_leaf f n (ap leaf_of is ∙ leaf)
head_leaf f (head.Simple method of) a is n leaf = ap (leaf_under (unwrapped f)) (ap out-Form is ∙ form.outs-Simple method of.now a) ∙ leaf
head_leaf f (head.Given method b) a is n leaf = ap (leaf_under (unwrapped f)) (ap out-Form is ∙ form.outs-Given method a b.now) ∙ leaf
head_leaf f (head.All c) a is n leaf = ap (leaf_under (unwrapped f)) (ap out-Form is ∙ form.outs-All a c.now) ∙ leaf

-- what isn't a head over a chain hands out no row
module _ {R : Type 0} (world : World R) where
  none_under : (f : Form) (layer : Form-F Form) → leaf_under f layer ≡ None → needs_layer world f layer ≡ run_whole
  none_under f (Form-F.Simple method t a) is = ap (λ (o : Option ℕ). needs_of_leaf world o (at_once world a (reaches (simple_limit method)))) is
  none_under f (Form-F.Given method a b) is = ap (λ (o : Option ℕ). needs_of_leaf world o (given_needs world a method (form_meaning world b []))) is
  none_under f (Form-F.All a c) is = ap (λ (o : Option ℕ). needs_of_leaf world o (at_once world a (fails world c))) is
  none_under f layer is = ap (λ (o : Option ℕ). needs_of_leaf world o (one_by_one world f None)) is

  pub needs_whole : (f : Form) → leaf_below f ≡ None → needs_of world f ≡ run_whole
  needs_whole f is = none_under (unwrapped f) (out-Form (unwrapped f)) is

  -- the first pull may have something run
  given_runs : (a : Form) (taken : Option ℕ) (decide : List (Value R) → Bool) (rows : List R) → (given_needs_by world a taken decide rows).runs 0 ≡ true
  given_runs a (Some k) decide rows = refl
  given_runs a None decide rows = refl

  leaf_runs : (o : Option ℕ) (by : List R → Needs R) → ((rows : List R) → (by rows).runs 0 ≡ true) → (needs_of_leaf world o by).runs 0 ≡ true
  leaf_runs None by runs = refl
  leaf_runs (Some n) by runs = runs (rows_at world n)

  layer_runs : (f : Form) (layer : Form-F Form) → (needs_layer world f layer).runs 0 ≡ true
  layer_runs f (Form-F.Simple method t a) = leaf_runs (leaf_of a) (at_once world a (reaches (simple_limit method))) (λ rows. refl)
  layer_runs f (Form-F.Given method a b) =
      leaf_runs (leaf_of a) (given_needs world a method (form_meaning world b []))
      (given_runs a (taken_by method (form_meaning world b [])) (decides_given method (form_meaning world b [])))
  layer_runs f (Form-F.All a c) = leaf_runs (leaf_of a) (at_once world a (fails world c)) (λ rows. refl)
  layer_runs f layer = leaf_runs (leaf_of f) (one_by_one world f None) (λ rows. refl)

  pub start_runs : (f : Form) → (needs_of world f).runs 0 ≡ true
  start_runs f = layer_runs (unwrapped f) (out-Form (unwrapped f))

-- ---- a chain that is pulled, or one below a method with an argument

abbrev pub IsOneOrGiven : Form → Form → Type 0
IsOneOrGiven f a = (unwrapped f ≡ a) ⊎ ((method : Given) × (b : Form) × (unwrapped f ≡ form.Given method a b))

pub over_leaf : (f a : Form) (n : ℕ) → leaf_of a ≡ Some n → IsOneOrGiven f a → leaf_below f ≡ Some n
over_leaf f a n leaf (inl is) = plain_leaf f n (ap leaf_of is ∙ leaf)
over_leaf f a n leaf (inr (method, b, is)) = ap (leaf_under (unwrapped f)) (ap out-Form is ∙ form.outs-Given method a b) ∙ leaf

pub over_covered : {R : Type 0} (world : World R) (f a : Form) (n : ℕ) → leaf_of a ≡ Some n → IsOneOrGiven f a → (w : Watch R) → covers_beside world f w ≡ true
    → is_covered_above world w a ≡ true
over_covered world f a n leaf (inl is) w h = ap (is_covered_above world w) (sym is) ∙ sym (plain_covers world f n w (ap leaf_of is ∙ leaf)) ∙ h
over_covered world f a n leaf (inr (method, b, is)) w h =
    first_so (is_covered_above world w a) (is_covered world w b) (sym (given_covers world f method a b w is) ∙ h)
