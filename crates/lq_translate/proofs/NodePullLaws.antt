-- What a node means, and its type, is a matter of what the expressions in it have and mean: they may be replaced before or after.
use Rattle.std.proofs.Common.{◌≡◌, ◌∷◌, ◌&&◌, if◌then◌else◌, List, [], map, ℕ, Option, Some, None, Result, Ok, ap, ap₂, ◌∙◌, sym, refl, option_and_then, option_map}
use Rattle.lq_value.specs.declared.ty.Ty.{Ty, out-Ty}
use Rattle.lq_value.specs.declared.value.Fault.{Fault}
use Rattle.lq_value.specs.declared.value.Value.{Value}
use Rattle.lq_value.specs.declared.value.Value.TheVariants as value
use Rattle.lq_language.specs.EnumerableCalls.{EnumerableCall, By, Plain, With, enumerable_call}
use Rattle.lq_language.specs.Worlds.{Meaning, Scope, World, names_at, or_null}
use Rattle.lq_language.specs.Members.{is_search, sole_argument}
use Rattle.lq_language.specs.Operations.{on_ok}
use Rattle.lq_language.specs.Types.{element_type}
use Rattle.lq_language.specs.Names.{Names}
use Rattle.lq_language.specs.OperandTypes.{is_text_type, truth_type}
use Rattle.lq_language.specs.Meaning.{argument_meaning, called_meaning, members_meaning, method_meaning, search_meaning, settled, typed, node_meaning}
use Rattle.lq_language.specs.Typing.{argument_type, called_type, method_type}
use Rattle.lq_grammar.specs.declared.syntax.Argument.{Argument}
use Rattle.lq_grammar.specs.declared.syntax.Argument.TheVariants as argument
use Rattle.lq_grammar.specs.declared.syntax.Field.{Field}
use Rattle.lq_grammar.specs.declared.syntax.Node.{Node}
use Rattle.lq_grammar.specs.declared.syntax.Node.TheVariants as node
use Rattle.lq_grammar.specs.declared.syntax.Unary.TheVariants as unary
use Rattle.lq_language.proofs.MethodPullLaws.{call_maps}
use Rattle.lq_language.proofs.StreamLaws.{map_twice}
use Rattle.lq_translate.specs.Maps.{map_argument, map_enumerable, map_field, map_node}

-- ---- two replacements in turn

module _ {X Y Z : Type 0} (g : Y → Z) (f : X → Y) where
  map_fields : (fields : List (Field X)) → map (map_field g) (map (map_field f) fields) ≡ map (map_field (λ x. g (f x))) fields
  map_fields [] = refl
  map_fields (x ∷ xs) = ap (λ ys. record { name = x.name; value = g (f x.value) } ∷ ys) (map_fields xs)

  map_arguments : (xs : List (Argument X)) → map (map_argument g) (map (map_argument f) xs) ≡ map (map_argument (λ x. g (f x))) xs
  map_arguments [] = refl
  map_arguments (argument.Value x ∷ xs) = ap (λ ys. argument.Value (g (f x)) ∷ ys) (map_arguments xs)
  map_arguments (argument.Lambda n x ∷ xs) = ap (λ ys. argument.Lambda n (g (f x)) ∷ ys) (map_arguments xs)

  pub map_nodes : (n : Node X) → map_node g (map_node f n) ≡ map_node (λ x. g (f x)) n
  map_nodes (node.Integer n) = refl
  map_nodes (node.Text t) = refl
  map_nodes (node.Bool b) = refl
  map_nodes node.Null = refl
  map_nodes (node.Name n) = refl
  map_nodes (node.Member x m) = refl
  map_nodes (node.Unary op x) = refl
  map_nodes (node.Binary op x y) = refl
  map_nodes (node.And x y) = refl
  map_nodes (node.Or x y) = refl
  map_nodes (node.Coalesce x y) = refl
  map_nodes (node.Conditional c x y) = refl
  map_nodes (node.Host p x columns) = refl
  map_nodes (node.HostOther p xs) = ap (node.HostOther p) (map_twice f g xs)
  map_nodes (node.New fields) = ap node.New (map_fields fields)
  map_nodes (node.Method x m xs) = ap (node.Method (g (f x)) m) (map_arguments xs)

-- ---- meaning

module _ {R E X : Type 0} (world : World R) (type_of : E → Names → Option Ty) (turned : X → E) (means : X → Meaning R) where
  -- an expression replaced, beside what it means; and left as it is
  abbrev pub replaced : X → E × Meaning R
  replaced x = (turned x, means x)

  abbrev pub kept : X → X × Meaning R
  kept x = (x, means x)

  abbrev turned_type : X → Names → Option Ty
  turned_type x = type_of (turned x)

  abbrev NodePulls : Node X → Type 0
  NodePulls n = (scope : Scope R) → node_meaning world type_of (map_node replaced n) scope ≡ node_meaning world turned_type (map_node kept n) scope

  -- ---- methods

  called_typed : (source : Option Ty) (names : Names) (o : Option (EnumerableCall X))
      → called_type (typed world type_of) source (option_map (map_enumerable replaced) o) names
      ≡ called_type (typed world turned_type) source (option_map (map_enumerable kept) o) names
  called_typed source names None = refl
  called_typed source names (Some (Plain method)) = refl
  called_typed source names (Some (With method x)) = refl
  called_typed source names (Some (By method n x)) = refl

  called_meant : (t : Ty) (source : Result (Value R) Fault) (scope : Scope R) (o : Option (EnumerableCall X))
      → called_meaning world type_of (option_map (map_enumerable replaced) o) t source scope
      ≡ called_meaning world turned_type (option_map (map_enumerable kept) o) t source scope
  called_meant t source scope None = refl
  called_meant t source scope (Some (Plain method)) = refl
  called_meant t source scope (Some (With method x)) = refl
  called_meant t source scope (Some (By method n x)) = refl

  argument_typed : (names : Names) (xs : List (Argument X))
      → argument_type (typed world type_of) names (sole_argument (map (map_argument replaced) xs))
      ≡ argument_type (typed world turned_type) names (sole_argument (map (map_argument kept) xs))
  argument_typed names [] = refl
  argument_typed names (argument.Value x ∷ []) = refl
  argument_typed names (argument.Lambda n x ∷ []) = refl
  argument_typed names (argument.Value x ∷ y ∷ xs) = refl
  argument_typed names (argument.Lambda n x ∷ y ∷ xs) = refl

  argument_meant : (scope : Scope R) (xs : List (Argument X))
      → argument_meaning world type_of scope (sole_argument (map (map_argument replaced) xs))
      ≡ argument_meaning world turned_type scope (sole_argument (map (map_argument kept) xs))
  argument_meant scope [] = refl
  argument_meant scope (argument.Value x ∷ []) = refl
  argument_meant scope (argument.Lambda n x ∷ []) = refl
  argument_meant scope (argument.Value x ∷ y ∷ xs) = refl
  argument_meant scope (argument.Lambda n x ∷ y ∷ xs) = refl

  method_typed : (x : X) (m : List ℕ) (xs : List (Argument X)) (names : Names)
      → method_type (typed world type_of) (replaced x) m (map (map_argument replaced) xs) names
      ≡ method_type (typed world turned_type) (kept x) m (map (map_argument kept) xs) names
  method_typed x m xs names =
      ap₂ (λ (searched called : Option Ty). if is_text_type (turned_type x names) then searched else called)
      (ap (λ (o : Option Ty). truth_type (is_search m && is_text_type o)) (argument_typed names xs))
      (ap (λ (o : Option (EnumerableCall (E × Meaning R))). called_type (typed world type_of) (turned_type x names) o names) (call_maps replaced m xs)
      ∙ called_typed (turned_type x names) names (enumerable_call m xs)
      ∙ ap (λ (o : Option (EnumerableCall (X × Meaning R))). called_type (typed world turned_type) (turned_type x names) o names) (sym (call_maps kept m xs)))

  method_meant : (x : X) (m : List ℕ) (xs : List (Argument X)) (scope : Scope R)
      → method_meaning world type_of (replaced x) m (map (map_argument replaced) xs) scope
      ≡ method_meaning world turned_type (kept x) m (map (map_argument kept) xs) scope
  method_meant x m xs scope =
      let names = names_at world scope in
      let t = or_null (option_and_then (λ u. element_type (out-Ty u)) (turned_type x names)) in
      ap₂ (λ (searched called : Result (Value R) Fault). if is_text_type (turned_type x names) then searched else called)
      (ap (search_meaning world turned_type (means x scope) m) (argument_meant scope xs))
      (ap (λ (o : Option (EnumerableCall (E × Meaning R))). called_meaning world type_of o t (means x scope) scope) (call_maps replaced m xs)
      ∙ called_meant t (means x scope) scope (enumerable_call m xs)
      ∙ ap (λ (o : Option (EnumerableCall (X × Meaning R))). called_meaning world turned_type o t (means x scope) scope) (sym (call_maps kept m xs)))

  method_pull : (x : X) (m : List ℕ) (xs : List (Argument X)) → NodePulls (node.Method x m xs)
  method_pull x m xs scope = ap₂ (settled world) (method_typed x m xs (names_at world scope)) (method_meant x m xs scope)

  -- ---- records

  members_pull : (fields : List (Field X)) (scope : Scope R)
      → members_meaning world type_of (map (map_field replaced) fields) scope ≡ members_meaning world turned_type (map (map_field kept) fields) scope
  members_pull [] scope = refl
  members_pull (field ∷ fields) scope =
      ap (λ (o : Result (List (List ℕ × Value R)) Fault). on_ok (means field.value scope) (λ v. on_ok o (λ members. Ok ((field.name, v) ∷ members))))
      (members_pull fields scope)

  pub node_pull : (n : Node X) → NodePulls n
  node_pull (node.Integer n) scope = refl
  node_pull (node.Text t) scope = refl
  node_pull (node.Bool b) scope = refl
  node_pull node.Null scope = refl
  node_pull (node.Name n) scope = refl
  node_pull (node.Member x m) scope = refl
  node_pull (node.Unary unary.Not x) scope = refl
  node_pull (node.Unary unary.Minus x) scope = refl
  node_pull (node.Binary op x y) scope = refl
  node_pull (node.And x y) scope = refl
  node_pull (node.Or x y) scope = refl
  node_pull (node.Coalesce x y) scope = refl
  node_pull (node.Conditional c x y) scope = refl
  node_pull (node.Host p x columns) scope = refl
  node_pull (node.HostOther p xs) scope = refl
  node_pull (node.New fields) scope = ap (λ (o : Result (List (List ℕ × Value R)) Fault). on_ok o (λ members. Ok (value.Rec members))) (members_pull fields scope)
  node_pull (node.Method x m xs) scope = method_pull x m xs scope
