-- The type of a node is a matter of the types of the expressions in it, and its tree has that type.
use Rattle.std.proofs.Common.{◌≡◌, ◌∷◌, ◌&&◌, if◌then◌else◌, List, [], map, ℕ, Option, Some, None, ap, ap₂, ◌∙◌, sym, refl, option_and_then, option_map}
use Rattle.lq_value.specs.declared.table.Schema.{Schema}
use Rattle.lq_value.specs.declared.ty.Ty.{Ty, out-Ty}
use Rattle.lq_value.specs.declared.ty.Ty.TheVariants as ty
use Rattle.lq_language.specs.EnumerableCalls.{EnumerableCall, By, Plain, With, enumerable_call}
use Rattle.lq_language.specs.Maps.{map_argument, map_enumerable, map_field, map_node}
use Rattle.lq_language.specs.Members.{is_search, sole_argument}
use Rattle.lq_language.specs.Types.{if_placed, when}
use Rattle.lq_language.specs.HostNames.{host_type}
use Rattle.lq_language.specs.Names.{Names}
use Rattle.lq_language.specs.OperandTypes.{coalesced, is_bool, is_number, is_text_type, truth_type}
use Rattle.lq_language.specs.Typing.{argument_type, are_distinct, called_type, if_limited, members_type, method_type, record_type, type_of_member, type_of_operation, node_type, type_of_name}
use Rattle.lq_grammar.specs.declared.syntax.Argument.{Argument}
use Rattle.lq_grammar.specs.declared.syntax.Argument.TheVariants as argument
use Rattle.lq_grammar.specs.declared.syntax.Field.{Field}
use Rattle.lq_grammar.specs.declared.syntax.Node.{Node}
use Rattle.lq_grammar.specs.declared.syntax.Node.TheVariants as node
use Rattle.lq_grammar.specs.declared.syntax.Unary.TheVariants as unary
use Rattle.lq_language.proofs.MethodPullLaws.{call_maps}
use Rattle.lq_tree.specs.Binding.{Binds, and_tree, binary_form, binary_tree, coalesce_tree, member_tree, node_tree, or_tree, unary_tree}
use Rattle.lq_tree.specs.Places.{Places, names_of_places, place_of}
use Rattle.lq_tree.specs.declared.tree.Form.TheVariants as form
use Rattle.lq_tree.specs.declared.tree.Tree.{Tree}
use Rattle.lq_tree.proofs.HostTrees.{host_typed}
use Rattle.lq_tree.proofs.TreePullLaws.{names_kept}
use Rattle.lq_tree.proofs.TypeLaws.{choice_found, local_place, map_then, member_found, method_found, name_found, number_found, record_found_at, truth_found, truths_found, two_found, type_found, typed_found}

-- where expressions are replaced, and what replaces them has their types
module _ {X Y : Type 0} (f : X → Y) (typed : Y → Names → Option Ty) where
  abbrev before : X → Names → Option Ty
  before x = typed (f x)

  called_by : (source : Option Ty) (names : Names) (o : Option (EnumerableCall X))
      → called_type typed source (option_map (map_enumerable f) o) names ≡ called_type before source o names
  called_by source names None = refl
  called_by source names (Some (Plain method)) = refl
  called_by source names (Some (With method x)) = refl
  called_by source names (Some (By method n x)) = refl

  pub sole_by : (xs : List (Argument X)) → sole_argument (map (map_argument f) xs) ≡ option_map f (sole_argument xs)
  sole_by [] = refl
  sole_by (argument.Value x ∷ []) = refl
  sole_by (argument.Lambda n x ∷ []) = refl
  sole_by (argument.Value x ∷ y ∷ xs) = refl
  sole_by (argument.Lambda n x ∷ y ∷ xs) = refl

  argument_by : (names : Names) (o : Option X) → argument_type typed names (option_map f o) ≡ argument_type before names o
  argument_by names None = refl
  argument_by names (Some x) = refl

  pub method_by : (a : X) (m : List ℕ) (xs : List (Argument X)) (names : Names)
      → method_type typed (f a) m (map (map_argument f) xs) names ≡ method_type before a m xs names
  method_by a m xs names =
      ap₂ (λ (searched called : Option Ty). if is_text_type (typed (f a) names) then searched else called)
      (ap (λ (o : Option Ty). truth_type (is_search m && is_text_type o)) (ap (argument_type typed names) (sole_by xs) ∙ argument_by names (sole_argument xs)))
      (ap (λ (o : Option (EnumerableCall Y)). called_type typed (typed (f a) names) o names) (call_maps f m xs)
      ∙ called_by (typed (f a) names) names (enumerable_call m xs))

  members_by : (fields : List (Field X)) (names : Names) → members_type typed (map (map_field f) fields) names ≡ members_type before fields names
  members_by [] names = refl
  members_by (field ∷ fields) names =
      ap (λ (o : Option (List (List ℕ × Ty))). option_and_then (λ t. option_map (λ members. (field.name, t) ∷ members) o)
      (if_placed (typed (f field.value) names))) (members_by fields names)

  record_by : (fields : List (Field X)) (names : Names) → record_type typed (map (map_field f) fields) names ≡ record_type before fields names
  record_by fields names =
      ap₂ (λ (ns : List (List ℕ)) (o : Option (List (List ℕ × Ty))). when (are_distinct ns) (if_limited (option_map ty.Rec o))) (names_kept f fields)
      (members_by fields names)

module _ (schemas : List Schema) {X : Type 0} (tree : X → Binds) (typed : X → Names → Option Ty)
    (alike : (x : X) (places : Places) → type_found (tree x places) ≡ typed x (names_of_places schemas places)) where
  abbrev names : Places → Names
  names places = names_of_places schemas places

  abbrev NodeFound : Node X → Places → Type 0
  NodeFound n places = type_found (node_tree schemas tree n places) ≡ node_type (map_node typed n) (names places)

  unary_by : (places : Places) (a : X) (o : Option Tree) → type_found o ≡ typed a (names places)
      → (type_found (option_and_then (unary_tree unary.Minus) o) ≡ node_type (map_node typed (node.Unary unary.Minus a)) (names places))
  unary_by places a o same = by o ∙ ap (λ (t : Option Ty). node_type (node.Unary unary.Minus (λ ns. t)) (names places)) same where
    by : (p : Option Tree) → type_found (option_and_then (unary_tree unary.Minus) p) ≡ node_type (node.Unary unary.Minus (λ ns. type_found p)) (names places)
    by None = refl
    by (Some x) = number_found x _ (is_number (out-Ty x.ty))

  not_by : (places : Places) (a : X) (o : Option Tree) → type_found o ≡ typed a (names places)
      → (type_found (option_and_then (unary_tree unary.Not) o) ≡ node_type (map_node typed (node.Unary unary.Not a)) (names places))
  not_by places a o same = by o ∙ ap (λ (t : Option Ty). node_type (node.Unary unary.Not (λ ns. t)) (names places)) same where
    by : (p : Option Tree) → type_found (option_and_then (unary_tree unary.Not) p) ≡ node_type (node.Unary unary.Not (λ ns. type_found p)) (names places)
    by None = refl
    by (Some x) = truth_found (is_bool (out-Ty x.ty)) _

  pub node_found : (n : Node X) (places : Places) → NodeFound n places
  node_found (node.Integer n) places = refl
  node_found (node.Text t) places = refl
  node_found (node.Bool b) places = refl
  node_found node.Null places = refl
  node_found (node.Name x) places = name_found schemas places x (place_of x places.locals) ∙ ap (type_of_name (names places) x) (sym (local_place x places.locals))
  node_found (node.Member a m) places =
      map_then (λ found. found.ty) (λ found. found.ty) (member_tree schemas m) (λ t. type_of_member (names places) m (out-Ty t))
      (member_found schemas places m) (tree a places)
      ∙ ap (option_and_then (λ t. type_of_member (names places) m (out-Ty t))) (alike a places)
  node_found (node.Unary unary.Minus a) places = unary_by places a (tree a places) (alike a places)
  node_found (node.Unary unary.Not a) places = not_by places a (tree a places) (alike a places)
  node_found (node.Binary sign a b) places =
      two_found (binary_tree sign) (type_of_operation sign) (λ x y. typed_found (type_of_operation sign (out-Ty x.ty) (out-Ty y.ty))
      (binary_form sign x y)) (tree a places) (tree b places)
      ∙ ap₂ (λ (s t : Option Ty). node_type (node.Binary sign (λ ns. s) (λ ns. t)) (names places)) (alike a places) (alike b places)
  node_found (node.And a b) places =
      truths_found and_tree (λ x y. truth_found (is_bool (out-Ty x.ty) && is_bool (out-Ty y.ty)) (form.And x.form y.form)) (tree a places) (tree b places)
      ∙ ap₂ (λ (s t : Option Ty). node_type (node.And (λ ns. s) (λ ns. t)) (names places)) (alike a places) (alike b places)
  node_found (node.Or a b) places =
      truths_found or_tree (λ x y. truth_found (is_bool (out-Ty x.ty) && is_bool (out-Ty y.ty)) (form.Or x.form y.form)) (tree a places) (tree b places)
      ∙ ap₂ (λ (s t : Option Ty). node_type (node.Or (λ ns. s) (λ ns. t)) (names places)) (alike a places) (alike b places)
  node_found (node.Coalesce a b) places =
      two_found coalesce_tree coalesced (λ x y. typed_found (coalesced (out-Ty x.ty) (out-Ty y.ty)) (form.Coalesce x.form y.form)) (tree a places)
      (tree b places)
      ∙ ap₂ (λ (s t : Option Ty). node_type (node.Coalesce (λ ns. s) (λ ns. t)) (names places)) (alike a places) (alike b places)
  node_found (node.Conditional c a b) places =
      choice_found (tree c places) (tree a places) (tree b places)
      ∙ (λ i. node_type (node.Conditional (λ ns. alike c places i) (λ ns. alike a places i) (λ ns. alike b places i)) (names places))
  node_found (node.Host p row columns) places = host_typed schemas places p columns (tree row places) ∙ ap (host_type (names places) p columns) (alike row places)
  node_found (node.HostOther p xs) places = refl
  node_found (node.New fields) places = record_found_at schemas tree typed alike places fields ∙ sym (record_by typed (λ t. t) fields (names places))
  node_found (node.Method a m arguments) places =
      method_found schemas tree typed alike places m arguments a (tree a places) (alike a places) ∙ sym (method_by typed (λ t. t) a m arguments (names places))
