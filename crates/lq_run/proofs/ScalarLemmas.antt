-- The scalar that a tree gives is what the machine evaluates each expression to that is bound to the tree; and so are its faults.
use Rattle.std.proofs.Common.{◌≡◌, ◌∙◌, ◌++◌, List, [], true, Option, Some, None, Result, Ok, Err, ap, sym, refl, subst, codes, true≢false}
use Rattle.std.proofs.lemmas.Option.{none-some, same_Some}
use Rattle.lq_value.specs.declared.scalar.Scalar.{Scalar}
use Rattle.lq_value.specs.declared.ty.Ty.{Ty, out-Ty}
use Rattle.lq_value.specs.declared.ty.Ty.TheOpen.{Ty-F}
use Rattle.lq_value.specs.declared.value.Fault.{Fault}
use Rattle.lq_value.specs.declared.value.Value.{Value, out-Value}
use Rattle.lq_value.specs.declared.value.Value.TheOpen.{Value-F}
use Rattle.lq_value.specs.declared.value.Value.TheVariants.{outs-Scalar}
use Rattle.lq_machine.specs.DefinitionLaws.{AreDefined}
use Rattle.lq_language.specs.ValuesOfTypes.{Every, IsScalarOf}
use Rattle.lq_security.specs.Rights.{Denied, denial}
use Rattle.lq_machine.specs.Served.{error_data, fault_data}
use Rattle.lq_machine.specs.States.{State, host_names, names_in, schemas_of, world_in}
use Rattle.lq_machine.specs.Statements.{Outcome, allowed_by, evaluated, refused, with_scalar, with_value}
use Rattle.lq_language.specs.Mentions.{uses_of}
use Rattle.lq_language.specs.Uses.{expression_uses}
use Rattle.lq_language.specs.TableRows.{TableRow}
use Rattle.lq_language.specs.Meaning.{expression_meaning}
use Rattle.lq_language.specs.declared.rights.Use.{Use}
use Rattle.lq_grammar.specs.declared.syntax.Expr.{Expr}
use Rattle.lq_language.proofs.ValueLaws.{is_plain, plain_value}
use Rattle.lq_tree.specs.FormMeaning.{form_meaning}
use Rattle.lq_tree.specs.declared.tree.Tree.{Tree}
use Rattle.lq_tree.proofs.ScopeLaws.{append_none}
use Rattle.lq_tree.proofs.SessionPlaceLaws.{uses_of_statements}
use Rattle.lq_use.specs.FormRights.{form_rights}
use Rattle.lq_store.specs.Rules.{IsTable}
use Rattle.lq_run.specs.Statements.{EvaluatesTree, HasRights, IsEvaluated, Yields, YieldsTree, is_of_scalars, scalar_in, tree_in}
use Rattle.lq_run.specs.Stops.{Stops, StopsWith}
use Rattle.lq_run.specs.declared.stop.Stop.{Stop}
use Rattle.lq_run.proofs.StopLaws.{same_stop, stops_denied, stops_with}
use Rattle.lq_run.proofs.WorldLemmas.{base, means_read, tree_means, tree_values, world}

-- these types have no other values
scalar_plain : (layer : Ty-F Ty) → is_of_scalars layer ≡ true → is_plain layer ≡ true
scalar_plain Ty-F.Int h = refl
scalar_plain Ty-F.IntN h = refl
scalar_plain Ty-F.Bool h = refl
scalar_plain Ty-F.Str h = refl
scalar_plain Ty-F.Null h = refl
scalar_plain layer h = absurd (true≢false (sym h))

-- the layer of a value that is this scalar
scalar_layer : {R : Type 0} (layer : Value-F R (Value R)) (scalar : Scalar) → Some scalar ≡ scalar_in layer → layer ≡ Value-F.Scalar scalar
scalar_layer (Value-F.Scalar found) scalar is = ap Value-F.Scalar (sym (same_Some scalar found is))
scalar_layer layer scalar is = absurd (none-some scalar (sym is))

module _ (s : State) where
  -- no other value is stored
  other_layer : (next : Scalar → Outcome) (layer : Value-F TableRow (Value TableRow)) → None ≡ scalar_in layer
      → with_scalar s next layer ≡ refused s (codes "type")
  other_layer next (Value-F.Scalar found) is = absurd (none-some found is)
  other_layer next (Value-F.Row r) is = refl
  other_layer next (Value-F.Rec members) is = refl
  other_layer next (Value-F.Group key items) is = refl
  other_layer next (Value-F.Seq items e) is = refl

  module _ (kept : Every IsTable s.tables) (defined : AreDefined (schemas_of s.tables) (host_names s) s.definitions) (tree : Tree) where
    -- what the tree means over the rows that are read, the expression means to the machine
    expression_means : (e : Expr) → tree_in s e ≡ Some tree → (m : Result (Value TableRow) Fault) → form_meaning (base s) tree.form [] ≡ m
        → expression_meaning (world_in s) e [] ≡ m
    expression_means e is m found =
        sym (tree_means s kept defined e tree is) ∙ means_read s tree.form [] ∙ found

    pub yields_fault : (f : Fault) (why : Stop) → form_meaning (base s) tree.form [] ≡ Err f → StopsWith (fault_data f) why
        → YieldsTree s tree (Err why)
    yields_fault f why found so e is next =
        stops_with s (fault_data f) (with_value s next (expression_meaning (world_in s) e [])) why
        (ap (with_value s next) (expression_means e is (Err f) found)) so

    pub yields_other : (v : Value TableRow) (why : Stop) → form_meaning (base s) tree.form [] ≡ Ok v → None ≡ scalar_in (out-Value TableRow v)
        → StopsWith (error_data (codes "type")) why → YieldsTree s tree (Err why)
    yields_other v why found none so e is next =
        stops_with s (error_data (codes "type")) (with_value s next (expression_meaning (world_in s) e [])) why
        (ap (with_value s next) (expression_means e is (Ok v) found) ∙ other_layer next (out-Value TableRow v) none)
        so

    pub yields_scalar : is_of_scalars (out-Ty tree.ty) ≡ true → (v : Value TableRow) (scalar : Scalar) → form_meaning (base s) tree.form [] ≡ Ok v
        → Some scalar ≡ scalar_in (out-Value TableRow v) → YieldsTree s tree (Ok scalar)
    yields_scalar typed v scalar found there e is =
        let layer : out-Value TableRow v ≡ Value-F.Scalar scalar = scalar_layer (out-Value TableRow v) scalar there in
        let means = expression_means e is (Ok v) found in
        let plain =
        plain_value (world s) tree.ty v (scalar_plain (out-Ty tree.ty) typed)
        (tree_values s kept defined e tree is v (tree_means s kept defined e tree is ∙ means)) in
        let other : out-Value TableRow v ≡ Value-F.Scalar plain.0 = ap (out-Value TableRow) plain.1 ∙ outs-Scalar plain.0 in
        let same : plain.0 ≡ scalar = cc in (
          λ next. ap (with_value s next) means ∙ ap (with_scalar s next) layer,
          subst (λ (found : Scalar). IsScalarOf (out-Ty tree.ty) found) same plain.2,
        )

  module _ (defined : AreDefined (schemas_of s.tables) (host_names s) s.definitions) (tree : Tree) (used : List Use)
      (uses : used ≡ form_rights tree.form ++ []) where
    -- what is denied of an expression is what is denied of its tree
    denied_same : (e : Expr) → tree_in s e ≡ Some tree → denial s.policies s.role used ≡ denial s.policies s.role (uses_of (expression_uses e (names_in s)))
    unfolding form_rights
    denied_same e is =
        ap (denial s.policies s.role)
        (uses ∙ append_none (form_rights tree.form) ∙ ap uses_of (uses_of_statements (schemas_of s.tables) (host_names s) s.definitions defined e tree is))

    pub denied_evaluated : (why : Stop) → HasRights s used (Err why) → EvaluatesTree s tree (Err why)
    denied_evaluated why denied e is next =
        subst (λ (o : Option Denied). Stops s (allowed_by s o (with_value s next (expression_meaning (world_in s) e []))) why) (denied_same e is)
        (stops_denied s used why (with_value s next (expression_meaning (world_in s) e [])) denied)

    allowed : (e : Expr) (t : Ty) (found : Result Scalar Stop) → denial s.policies s.role (uses_of (expression_uses e (names_in s))) ≡ None
        → Yields s (expression_meaning (world_in s) e []) t found → IsEvaluated s e t found
    allowed e t (Ok v) none yields = (
      λ next. ap (λ (o : Option Denied). allowed_by s o (with_value s next (expression_meaning (world_in s) e []))) none ∙ yields.0 next,
      yields.1,
    )
    allowed e t (Err why) none yields =
        λ next. same_stop s (evaluated s e next) (with_value s next (expression_meaning (world_in s) e [])) why
        (ap (λ (o : Option Denied). allowed_by s o (with_value s next (expression_meaning (world_in s) e []))) none) (yields next)

    pub allowed_evaluated : (found : Result Scalar Stop) → denial s.policies s.role used ≡ None → YieldsTree s tree found → EvaluatesTree s tree found
    allowed_evaluated found none yields e is = allowed e tree.ty found (sym (denied_same e is) ∙ none) (yields e is)
