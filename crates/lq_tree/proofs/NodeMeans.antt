-- The tree of a node means what the node means, and gives values of its type, if the same is so of the expressions in it.
use Rattle.std.proofs.Common.{◌≡◌, ◌∷◌, ◌++◌, if◌then◌else◌, List, [], map, ℕ, Bool, true, false, Option, Some, None, Result, Ok, ap, ◌∙◌, sym, refl, subst, bytes_eq, codes, option_and_then, option_map}
use Rattle.std.proofs.lemmas.Option.{none-some, option_and_then_some, same_Some}
use Rattle.std.specs.Prelude.{is_some}
use Rattle.lq_value.specs.declared.scalar.Scalar.{Scalar}
use Rattle.lq_value.specs.declared.scalar.Scalar.TheVariants as scalar
use Rattle.lq_value.specs.declared.ty.Ty.{Ty, out-Ty}
use Rattle.lq_value.specs.declared.ty.Ty.TheOpen.{Ty-F}
use Rattle.lq_value.specs.declared.ty.Ty.TheVariants as ty
use Rattle.lq_value.specs.declared.ty.Ty.TheVariants.{outs-Bool, outs-Int, outs-Null, outs-Rec, outs-Row, outs-Str}
use Rattle.lq_value.specs.declared.value.End.TheVariants as end
use Rattle.lq_value.specs.declared.value.Fault.{Fault}
use Rattle.lq_value.specs.declared.value.Value.{Value, out-Value}
use Rattle.lq_value.specs.declared.value.Value.TheVariants as value
use Rattle.lq_language.specs.EnumerableCalls.{EnumerableCall, By, Plain, With, enumerable_call}
use Rattle.lq_language.specs.Maps.{map_argument, map_enumerable, map_field, map_node}
use Rattle.lq_language.specs.Worlds.{Binding, Meaning, Scope, World, binding_of, bound, names_at, or_null, SessionValue}
use Rattle.lq_language.specs.OperandMeaning.{as_value, on_scalar, stream_of, table_value}
use Rattle.lq_language.specs.ClauseMeaning.{condition_at, item_type_at}
use Rattle.lq_language.specs.ValuesOfTypes.{Every, HasCells, HoldsRows, IsScalarOf}
use Rattle.lq_language.specs.Members.{search_named, sole_argument}
use Rattle.lq_language.specs.Operations.{of_search, on_ok}
use Rattle.lq_language.specs.Operators.{One}
use Rattle.lq_language.specs.Stream.{Stream}
use Rattle.lq_language.specs.Types.{element_type, is_fresh, is_within}
use Rattle.lq_language.specs.Names.{Names, table_number, with_local, SessionName}
use Rattle.lq_language.specs.declared.host_name.HostName.{HostName}
use Rattle.lq_language.specs.OperandTypes.{is_text, is_text_type}
use Rattle.lq_language.specs.Meaning.{argument_meaning, as_sequence, called_meaning, enumerable_meaning, given_meaning, is_sequence_layer, members_meaning, method_type_at, search_meaning, settled, simple_meaning, through_meaning, node_meaning, value_of_member, global_value, session_value, value_of_name}
use Rattle.lq_language.specs.MeaningLaws.{AreMembers, Fits, IsValueOf, by_record, by_row, no_member, one_member, IsSessionOfValues}
use Rattle.lq_language.specs.Typing.{given_type, simple_type, through_type, node_type}
use Rattle.lq_language.specs.declared.operation.Op.{Op}
use Rattle.lq_grammar.specs.declared.syntax.Argument.{Argument}
use Rattle.lq_grammar.specs.declared.syntax.Field.{Field}
use Rattle.lq_grammar.specs.declared.syntax.Node.{Node}
use Rattle.lq_grammar.specs.declared.syntax.Node.TheVariants as node
use Rattle.lq_grammar.specs.declared.syntax.Unary.TheVariants as unary
use Rattle.lq_language.proofs.AlikeStreamLaws.{Agree, agree_err, agree_ok, on_ok_agree}
use Rattle.lq_language.proofs.ItemLaws.{every_map, table_there, first_of, others_of}
use Rattle.lq_language.proofs.FindingLaws.{map_by, when_by}
use Rattle.lq_language.proofs.MemberLaws.{search_given as search_known}
use Rattle.lq_language.proofs.MethodPullLaws.{call_maps}
use Rattle.lq_language.proofs.ScalarResultLaws.{given_of, search_given}
use Rattle.lq_language.proofs.TypedMethodLaws.{given_agree, given_typed, scalar_after, simple_typed, stream_alike, through_typed, truth_same}
use Rattle.lq_language.proofs.TypingLaws.{is_text_of, is_truth}
use Rattle.lq_language.proofs.ValueLaws.{scalar_is, sequence_is}
use Rattle.lq_tree.specs.Binding.{Binds, and_tree, binary_tree, coalesce_tree, conditional_tree, member_tree, of_two_trees, or_tree, called_tree, enumerable_tree, field_tree, fields_tree, form_of_field, gathered, host_tree, lambda_tree, name_tree, node_tree, placed_tree, record_tree, search_form, search_tree, settled_tree, tree_of, type_of_field, within_tree, global_tree}
use Rattle.lq_tree.specs.FormMeaning.{Slots, form_meaning, is_true, members_of}
use Rattle.lq_tree.specs.Places.{Place, Places, names_of_places, place_of, with_name, SessionPlace, session_place}
use Rattle.lq_tree.specs.declared.tree.Form.{Form}
use Rattle.lq_tree.specs.declared.tree.Form.TheVariants as form
use Rattle.lq_tree.specs.declared.tree.Tree.{Tree}
use Rattle.lq_tree.proofs.FormSteps.{meaning_at}
use Rattle.lq_tree.proofs.HostMeans.{host_means}
use Rattle.lq_tree.proofs.MeansMembers.{member_means, same_agree, settled_goal}
use Rattle.lq_tree.proofs.MeansOperators.{and_means, binary_means, coalesce_means, conditional_means, minus_means, not_means, or_means}
use Rattle.lq_tree.proofs.MethodForms.{method_form_means}
use Rattle.lq_tree.proofs.NodeTypes.{method_by, node_found, sole_by}
use Rattle.lq_tree.proofs.OperandLemmas.{text_plain}
use Rattle.lq_tree.proofs.ScopeLaws.{Found, Stands, append_none, item_stands, name_there, types_at}
use Rattle.lq_tree.proofs.TypeLaws.{search_by, type_found}
use Rattle.lq_tree.proofs.WalkLaws.{gathered_all, traversed}
use Rattle.lq_tree.specs.BindingLaws.{Gives, GivesAll}

module _ {R : Type 0} (world : World R) (holds : HoldsRows world) (fits : IsSessionOfValues world) {X : Type 0} (tree : X → Binds) (typed : X → Names → Option Ty) (meant : X → Meaning R)
    (alike : (x : X) (places : Places) → type_found (tree x places) ≡ typed x (names_of_places world.schemas places))
    (means : (x : X) (slots : Slots R) (places : Places) (scope : Scope R) → Stands world slots places scope → (r : Tree) → tree x places ≡ Some r
    → Agree (IsValueOf world r.ty) (form_meaning world r.form slots) (meant x scope)) where
  abbrev Val : Ty → Value R → Type 0
  Val = IsValueOf world

  abbrev kept : X → X × Meaning R
  kept x = (x, meant x)

  abbrev type_kept : X × Meaning R → Names → Option Ty
  type_kept y = typed y.0

  -- the type that a bound expression has at the place
  pub type_at : (x : X) (slots : Slots R) (places : Places) (scope : Scope R) → Stands world slots places scope → (r : Tree) → tree x places ≡ Some r
      → typed x (names_at world scope) ≡ Some r.ty
  type_at x slots places scope at r h = ap (typed x) (types_at world slots places scope at) ∙ sym (alike x places) ∙ ap type_found h

  node_type_at : (n : Node X) (slots : Slots R) (places : Places) (scope : Scope R) → Stands world slots places scope → (r : Tree)
      → node_tree world.schemas tree n places ≡ Some r
      → node_type (map_node typed n) (names_at world scope) ≡ Some r.ty
  node_type_at n slots places scope at r h =
      ap (node_type (map_node typed n)) (types_at world slots places scope at) ∙ sym (node_found world.schemas tree typed alike n places) ∙ ap type_found h

  module _ (slots : Slots R) (places : Places) (scope : Scope R) (at : Stands world slots places scope) where
    abbrev mean : Form → Result (Value R) Fault
    mean f = form_meaning world f slots

    abbrev As : Result (Value R) Fault → Tree → Type 0
    As n r = Agree (Val r.ty) (mean r.form) n

    here : (x : X) (r : Tree) → tree x places ≡ Some r → As (meant x scope) r
    here x r h = means x slots places scope at r h

    -- ---- literals and names

    literal_means : (t : Ty) (layer : Ty-F Ty) (s : Scalar) → out-Ty t ≡ layer → IsScalarOf layer s → As (Ok (value.Scalar s)) (tree_of t (form.Literal s))
    literal_means t layer s is fits =
        same_agree world slots t _ _ (meaning_at world slots _ (form.outs-Literal s)) (agree_ok (Val t) (value.Scalar s) (scalar_is world t layer s is fits))

    table_means : (x : List ℕ) (n : ℕ) → table_number x world.schemas ≡ Some n → As (value_of_name world x None) (tree_of (ty.Seq (ty.Row n)) (form.Table n))
    table_means x n table =
        let there = table_there x world.schemas n table in
        let rows = holds n there.0 there.1 in
        same_agree world slots (ty.Seq (ty.Row n)) _ _
        (meaning_at world slots _ (form.outs-Table n) ∙ sym (ap (global_value world x) table))
        (subst (λ (o : Option ℕ). Agree (Val (ty.Seq (ty.Row n))) (global_value world x o) (global_value world x o))
        (sym table)
        (subst (λ (o : Option (List R)). Agree (Val (ty.Seq (ty.Row n))) (table_value world o) (table_value world o)) (sym rows.1)
        (agree_ok (Val (ty.Seq (ty.Row n))) (value.Seq (map value.Row rows.0) end.Done)
        (sequence_is world (ty.Row n) (map value.Row rows.0, end.Done)
        (every_map (HasCells world n) (Val (ty.Row n)) value.Row (λ r cells. by_row (ty.Row n) n r (outs-Row n) cells) rows.0 rows.2)))))

    -- a name of the session: what its place gives is the value that is found, which is of its type
    abbrev Given : SessionPlace → Result (Value R) Fault → Type 0
    Given known found = (v : Value R) × (found ≡ Ok v) × (mean (known.form places.depth) ≡ Ok v) × Val known.known.ty v

    session_by : (x : List ℕ) (place : SessionPlace) (s : SessionValue R) (those : List SessionPlace) (others : List (SessionValue R)) (known : SessionPlace)
        → Gives world place s → Val s.known.ty s.value → (session_place x those ≡ Some known → Given known (session_value world x others))
        → (b : Bool) → (if b then Some place else session_place x those) ≡ Some known → Given known (if b then Ok s.value else session_value world x others)
    session_by x place s those others known gives typed later true h =
        subst (λ (k : SessionPlace). Given k (Ok s.value)) (same_Some place known h)
        (s.value, refl, ap (λ (n : ℕ). mean (place.form n)) (sym at.1.0) ∙ gives.1 slots, subst (λ (k : SessionName). Val k.ty s.value) (sym gives.0) typed)
    session_by x place s those others known gives typed later false h = later h

    session_there : (x : List ℕ) (those : List SessionPlace) (session : List (SessionValue R)) (known : SessionPlace) → GivesAll world those session
        → Every (λ s. Val s.known.ty s.value) session → session_place x those ≡ Some known → Given known (session_value world x session)
    session_there x [] [] known gives typed h = absurd (none-some known h)
    session_there x (place ∷ those) (s ∷ others) known gives typed h =
        subst (λ (n : List ℕ). Given known (if bytes_eq n x then Ok s.value else session_value world x others)) (ap (λ (k : SessionName). k.name) gives.0.0)
        (session_by x place s those others known gives.0 (first_of (λ (d : SessionValue R). Val d.known.ty d.value) s others typed)
        (session_there x those others known gives.1 (others_of (λ (d : SessionValue R). Val d.known.ty d.value) s others typed))
        (bytes_eq place.known.name x) h)
    session_there x [] (s ∷ others) known gives typed h = absurd gives
    session_there x (place ∷ places) [] known gives typed h = absurd gives

    global_means : (x : List ℕ) (o : Option ℕ) → table_number x world.schemas ≡ o → (r : Tree) → global_tree world.schemas places x o ≡ Some r
        → As (value_of_name world x None) r
    global_means x (Some n) is r h = subst (As (value_of_name world x None)) (same_Some _ r h) (table_means x n is)
    global_means x None is r h =
        map_by _ (session_place x places.session) r h
        (λ place there is_it.
        let found = session_there x places.session world.session place at.1.2 fits there in
        subst (As (value_of_name world x None)) is_it
        (same_agree world slots place.known.ty _ _ (found.2 ∙ sym (ap (global_value world x) is ∙ found.1))
        (subst (λ (o : Result (Value R) Fault). Agree (Val place.known.ty) o o) (sym (ap (global_value world x) is ∙ found.1))
        (agree_ok (Val place.known.ty) found.0 found.3))))

    name_by : (x : List ℕ) (o : Option Place) (p : Option (Binding R)) → Found world slots o p → (r : Tree) → name_tree world.schemas places x o ≡ Some r
        → As (value_of_name world x p) r
    name_by x (Some place) (Some b) found r h =
        subst (As (Ok b.value)) (same_Some _ r h)
        (same_agree world slots place.ty _ _ (ap (form_meaning world place.form) (sym (append_none slots)) ∙ found.0.2 [])
        (agree_ok (Val place.ty) b.value (subst (λ (t : Ty). Val t b.value) (sym found.0.1) found.1)))
    name_by x None None found r h = global_means x (table_number x world.schemas) refl r h
    name_by x None (Some b) found r h = absurd found
    name_by x (Some place) None found r h = absurd found

    -- ---- methods

    text_scalar : (t : Ty) (x : Scalar) → is_text (out-Ty t) ≡ true → IsScalarOf (out-Ty t) x → IsScalarOf Ty-F.Str x
    text_scalar t x text fits = subst (λ (u : Ty-F Ty). IsScalarOf u x) (ap out-Ty (is_text_of t text) ∙ outs-Str) fits

    searched : (m : List ℕ) (o : Op) → search_named m ≡ Some o → (a b : Tree) → is_text (out-Ty a.ty) ≡ true → is_text (out-Ty b.ty) ≡ true
        → (k l : Result (Value R) Fault) → As k a → As l b
        → As (search_meaning world typed k m l) (tree_of ty.Bool (form.Binary o a.form b.form))
    searched m o named a b a_text b_text k l first second =
        same_agree world slots ty.Bool _ _
        (meaning_at world slots _ (form.outs-Binary o a.form b.form)
        ∙ ap (λ (q : Option Op). on_scalar world (mean a.form) (λ s. on_scalar world (mean b.form) (λ t. as_value (of_search world.unknown q s t))))
        (sym named) ∙ agrees.0)
        (refl, λ v is. agrees.1 v (agrees.0 ∙ is))
      where
        agrees : Agree (Val ty.Bool) (on_scalar world (mean a.form) (λ s. on_scalar world (mean b.form)
            (λ t. as_value (of_search world.unknown (search_named m) s t))))
            (search_meaning world typed k m l)
        agrees =
            scalar_after world world.unknown world.unknown (Agree (Val ty.Bool)) (agree_err (Val ty.Bool)) a.ty (text_plain (out-Ty a.ty) a_text) _ _
            (λ x x_fits. scalar_after world world.unknown world.unknown (Agree (Val ty.Bool)) (agree_err (Val ty.Bool)) b.ty
            (text_plain (out-Ty b.ty) b_text) _ _
            (λ y y_fits. given_agree world world.unknown world.unknown ty.Bool (λ unknown. of_search unknown (search_named m) x y)
            (given_of ty.Bool Ty-F.Bool _ outs-Bool
            (search_given m (search_known m (sym (search_by (bytes_eq m (codes "StartsWith")) (bytes_eq m (codes "EndsWith"))
            (bytes_eq m (codes "Contains"))) ∙ ap is_some named)) x y
            (text_scalar a.ty x a_text x_fits) (text_scalar b.ty y b_text y_fits)))) (mean b.form) l second) (mean a.form) k first

    -- the meaning of a search's argument
    argument_means : (arguments : List (Argument X)) (x : X) → sole_argument arguments ≡ Some x
        → argument_meaning world typed scope (sole_argument (map (map_argument kept) arguments)) ≡ meant x scope
    argument_means arguments x is =
        ap (argument_meaning world typed scope) (sole_by kept type_kept arguments) ∙ ap (λ (o : Option X). argument_meaning world typed scope
        (option_map kept o)) is

    search_means : (m : List ℕ) (arguments : List (Argument X)) (a r : Tree) (k : Result (Value R) Fault) → is_text (out-Ty a.ty) ≡ true → As k a
        → search_tree world.schemas tree m arguments a places ≡ Some r
        → As (search_meaning world typed k m (argument_meaning world typed scope (sole_argument (map (map_argument kept) arguments)))) r
    search_means m arguments a r k a_text first h =
        option_and_then_some _ (search_named m) r h
        (λ o named found. option_and_then_some (search_form o a) (option_and_then (λ x. tree x places) (sole_argument arguments)) r found
        (λ b b_there made. option_and_then_some _ (sole_argument arguments) b b_there
        (λ x x_there b_bound. when_by (is_text (out-Ty b.ty)) _ r made
        (λ b_text is. subst (As _) (same_Some _ r is)
        (subst (λ (l : Result (Value R) Fault). As (search_meaning world typed k m l) (tree_of ty.Bool (form.Binary o a.form b.form)))
        (sym (argument_means arguments x x_there))
        (searched m o named a b a_text b_text k (meant x scope) first (here x b b_bound)))))))

    -- a method of what is enumerated
    enumerated : (a : Tree) (t : Ty) (k : Result (Value R) Fault) → element_type (out-Ty a.ty) ≡ Some t → As k a → (call : EnumerableCall X) (r : Tree)
        → enumerable_tree world.schemas tree places a.form t call ≡ Some r
        → As (enumerable_meaning world typed scope t (map_enumerable kept call) (stream_of world k)) r
    enumerated a t k element agree (Plain method) r h =
        let items = stream_alike world world.unknown world.unknown a.ty t element (mean a.form) k agree in
        map_by _ (simple_type method t) r h
        (λ u gives is. subst (As _) is
        (same_agree world slots u _ _ (meaning_at world slots _ (form.outs-Simple method t a.form) ∙ ap (simple_meaning method t) items.0)
        (refl, simple_typed world method t u (stream_of world k) gives (subst (λ (s : Stream (Value R)). Every (Val t) s.0) items.0 items.1))))
    enumerated a t k element agree (With method x) r h =
        let items = stream_alike world world.unknown world.unknown a.ty t element (mean a.form) k agree in
        option_and_then_some _ (tree x places) r h
        (λ b bound made. map_by _ (given_type method t (Some b.ty)) r made
        (λ u gives is. subst (As _) is
        (subst (λ (o : Result (Value R) Fault). Agree (Val u) o (given_meaning world method (meant x scope) (stream_of world k)))
        (sym (meaning_at world slots _ (form.outs-Given method a.form b.form)))
        (subst (λ (s : Stream (Value R)). Agree (Val u) (given_meaning world method (mean b.form) (stream_of world (mean a.form)))
        (given_meaning world method (meant x scope) s)) items.0
        (given_typed world world.unknown world.unknown method t b.ty u (stream_of world (mean a.form)) gives items.1 (mean b.form) (meant x scope)
        (here x b bound))))))
    enumerated a t k element agree (By method n body) r h =
        let items = stream_alike world world.unknown world.unknown a.ty t element (mean a.form) k agree in
        option_and_then_some _ (lambda_tree world.schemas tree places t n body) r h
        (λ f bound made. map_by _ (through_type method t (Some f.ty)) r made
        (λ u gives is. when_by (is_fresh (names_of_places world.schemas places) n) (tree body (with_name places n t)) f bound
        (λ fresh body_bound. subst (As _) is
        (subst (λ (o : Result (Value R) Fault). Agree (Val u) o (through_meaning world method t
        (or_null (typed body (with_local (names_at world scope) n t))) (in_truth n body) (in_body n body) (stream_of world k)))
        (sym (method_form_means world slots method t f.ty a.form f.form))
        (subst (λ (w : Ty). Agree (Val u)
        (through_meaning world method t f.ty (λ v. is_true world (form_meaning world f.form) (slots ++ v ∷ [])) (λ v. form_meaning world f.form
        (slots ++ v ∷ [])) (stream_of world (mean a.form)))
        (through_meaning world method t w (in_truth n body) (in_body n body) (stream_of world k)))
        (sym (ap or_null (ap (λ (ns : Names). typed body (with_local ns n t)) (types_at world slots places scope at)
        ∙ sym (alike body (with_name places n t)) ∙ ap type_found body_bound)))
        (through_typed world world.unknown world.unknown method t f.ty u _ _ _ _ gives
        (λ truth v fits. truth_same world world.unknown world.unknown (form_meaning world f.form (slots ++ v ∷ [])) (in_body n body v)
        (subst (λ (y : Ty). Agree (Val y) (form_meaning world f.form (slots ++ v ∷ [])) (in_body n body v)) (is_truth f.ty truth)
        (in_lambda n body f body_bound v fits)))
        (λ v fits. in_lambda n body f body_bound v fits) _ _ items))))))
      where
        in_body : List ℕ → X → Value R → Result (Value R) Fault
        in_body n body v = meant body (bound n t scope v)

        in_truth : List ℕ → X → Value R → Result Bool Fault
        in_truth n body v = condition_at world typed meant body (bound n t scope v)

        in_lambda : (n : List ℕ) (body : X) (f : Tree) → tree body (with_name places n t) ≡ Some f → (v : Value R) → Val t v
            → Agree (Val f.ty) (form_meaning world f.form (slots ++ v ∷ [])) (in_body n body v)
        in_lambda n body f body_bound v fits =
            means body (slots ++ v ∷ []) (with_name places n t) (bound n t scope v) (item_stands world slots places scope (One n t) v at fits) f body_bound

    called_means : (a r : Tree) (k : Result (Value R) Fault) (call : Option (EnumerableCall X)) (o : Option Ty) → o ≡ Some r.ty → As k a
        → (u : Ty) → ((t : Ty) → element_type (out-Ty a.ty) ≡ Some t → u ≡ t) → option_map settled_tree (called_tree world.schemas tree call a places) ≡ Some r
        → As (settled world o (called_meaning world typed (option_map (map_enumerable kept) call) u k scope)) r
    called_means a r k call o o_is agree u u_is h =
        map_by settled_tree (called_tree world.schemas tree call a places) r h
        (λ found bound is. option_and_then_some within_tree _ found bound
        (λ made made_bound within. when_by (is_within made.ty) _ found within
        (λ limited same. option_and_then_some _ (element_type (out-Ty a.ty)) made made_bound
        (λ t element given. option_and_then_some (enumerable_tree world.schemas tree places a.form t) call made given
        (λ method there tree_there. subst (λ (x : Tree). o ≡ Some x.ty → As (called_at u) x) is
        (λ found_typed. subst (λ (x : Tree). o ≡ Some x.ty → As (called_at u) (settled_tree x)) (same_Some made found same)
        (λ typed_so. settled_goal world slots made.ty o made.form _ typed_so
        (subst (λ (q : Option (EnumerableCall X)). Agree (Val made.ty) (mean made.form) (called_meaning world typed (option_map (map_enumerable kept) q) u k
        scope)) (sym there)
        (subst (λ (w : Ty). Agree (Val made.ty) (mean made.form) (enumerable_meaning world typed scope w (map_enumerable kept method) (stream_of world k)))
        (sym (u_is t element))
        (enumerated a t k element agree method made tree_there)))) found_typed) o_is)))))
      where
        called_at : Ty → Result (Value R) Fault
        called_at w = settled world o (called_meaning world typed (option_map (map_enumerable kept) call) w k scope)

    settled_truth : (o : Option Ty) (k : Result (Value R) Fault) → o ≡ Some ty.Bool → settled world o k ≡ k
    settled_truth o k is =
        ap (λ (q : Option Ty). settled world q k) is ∙ ap (λ (layer : Ty-F Ty). if is_sequence_layer layer then as_sequence (stream_of world k) else k)
        outs-Bool

    search_type : (m : List ℕ) (arguments : List (Argument X)) (a r : Tree) → search_tree world.schemas tree m arguments a places ≡ Some r → r.ty ≡ ty.Bool
    search_type m arguments a r h =
        option_and_then_some _ (search_named m) r h
        (λ o named found. option_and_then_some (search_form o a) (option_and_then (λ x. tree x places) (sole_argument arguments)) r found
        (λ b b_there made. when_by (is_text (out-Ty b.ty)) _ r made (λ b_text is. ap (λ (x : Tree). x.ty) (sym (same_Some _ r is)))))

    method_by_type : (a : X) (m : List ℕ) (arguments : List (Argument X)) (found r : Tree) → tree a places ≡ Some found → (c : Bool)
        → is_text (out-Ty found.ty) ≡ c
        → (o : Option Ty) → o ≡ Some r.ty
        → (if c then search_tree world.schemas tree m arguments found places else option_map settled_tree (called_tree world.schemas tree
        (enumerable_call m arguments) found places)) ≡ Some r
        → As (settled world o (if c then search_meaning world typed (meant a scope) m (argument_meaning world typed scope
        (sole_argument (map (map_argument kept) arguments)))
        else called_meaning world typed (enumerable_call m (map (map_argument kept) arguments)) (item_type_at world type_kept (λ y. y.1) (kept a) scope)
        (meant a scope) scope)) r
    method_by_type a m arguments found r bound true text o o_is h =
        subst (λ (x : Result (Value R) Fault). As x r) (sym (settled_truth o _ (o_is ∙ ap Some (search_type m arguments found r h))))
        (search_means m arguments found r (meant a scope) text (here a found bound) h)
    method_by_type a m arguments found r bound false text o o_is h =
        subst (λ (q : Option (EnumerableCall (X × Meaning R))). As (settled world o (called_meaning world typed q (item_type_at world type_kept (λ y. y.1)
        (kept a) scope) (meant a scope) scope)) r)
        (sym (call_maps kept m arguments))
        (called_means found r (meant a scope) (enumerable_call m arguments) o o_is (here a found bound) (item_type_at world type_kept (λ y. y.1) (kept a) scope)
        (λ t element. ap (λ (q : Option Ty). or_null (option_and_then (λ s. element_type (out-Ty s)) q)) (type_at a slots places scope at found bound)
        ∙ ap or_null element) h)

    -- ---- records

    fields_mean : (fields : List (Field X)) (ts : List (Field Tree)) → traversed (field_tree world.schemas tree places) fields ≡ Some ts
        → Agree (λ vs. Fits world (AreMembers (map type_of_field ts) vs)) (members_of world (map (map_field (form_meaning world)) (map form_of_field ts)) slots)
        (members_meaning world typed (map (map_field kept) fields) scope)
    fields_mean [] ts h =
        subst (λ (us : List (Field Tree)). Agree (λ vs. Fits world (AreMembers (map type_of_field us) vs))
        (members_of world (map (map_field (form_meaning world)) (map form_of_field us)) slots)
        (members_meaning world typed [] scope)) (same_Some [] ts h) (agree_ok (λ vs. Fits world (AreMembers [] vs)) [] no_member)
    fields_mean (field ∷ fields) ts h =
        option_and_then_some _ (field_tree world.schemas tree places field) ts h
        (λ y y_there made. map_by _ (traversed (field_tree world.schemas tree places) fields) ts made
        (λ us us_there is. subst (λ (ws : List (Field Tree)). FieldsMean (field ∷ fields) ws) is
        (map_by _ (option_and_then placed_tree (tree field.value places)) y y_there
        (λ found found_there same. subst (λ (w : Field Tree). FieldsMean (field ∷ fields) (w ∷ us)) same
        (option_and_then_some placed_tree (tree field.value places) found found_there
        (λ first bound placed. when_by _ _ found placed
        (λ has_place first_is. one_more field fields found us
        (subst (λ (w : Tree). As (meant field.value scope) w) (same_Some first found first_is) (here field.value first bound))
        (fields_mean fields us us_there))))))))
      where
        FieldsMean : List (Field X) → List (Field Tree) → Type 0
        FieldsMean fields ws =
            Agree (λ vs. Fits world (AreMembers (map type_of_field ws) vs)) (members_of world (map (map_field (form_meaning world)) (map form_of_field ws))
            slots)
            (members_meaning world typed (map (map_field kept) fields) scope)

        one_more : (field : Field X) (fields : List (Field X)) (found : Tree) (us : List (Field Tree)) → As (meant field.value scope) found
            → FieldsMean fields us
            → FieldsMean (field ∷ fields) (record { name = field.name; value = found } ∷ us)
        one_more field fields found us first rest =
            on_ok_agree (Val found.ty) (λ vs. Fits world (AreMembers ((field.name, found.ty) ∷ map type_of_field us) vs)) _ _
            (λ v fits. on_ok_agree (λ vs. Fits world (AreMembers (map type_of_field us) vs))
            (λ vs. Fits world (AreMembers ((field.name, found.ty) ∷ map type_of_field us) vs))
            (λ vs. Ok ((field.name, v) ∷ vs)) (λ vs. Ok ((field.name, v) ∷ vs))
            (λ vs more. agree_ok (λ ws. Fits world (AreMembers ((field.name, found.ty) ∷ map type_of_field us) ws)) ((field.name, v) ∷ vs)
            (one_member field.name found.ty v (map type_of_field us) vs fits more)) _ _ rest) _ _ first

    record_means : (fields : List (Field X)) (r : Tree) → record_tree world.schemas tree fields places ≡ Some r
        → As (on_ok (members_meaning world typed (map (map_field kept) fields) scope) (λ members. Ok (value.Rec members))) r
    record_means fields r h =
        when_by _ _ r h
        (λ distinct found. option_and_then_some within_tree _ r found
        (λ made made_there within. when_by (is_within made.ty) _ r within
        (λ limited same. map_by fields_tree (gathered (field_tree world.schemas tree places) fields) made made_there
        (λ ts there is. subst (As _) (is ∙ same_Some made r same)
        (same_agree world slots (ty.Rec (map type_of_field ts)) _ _ (meaning_at world slots _ (form.outs-Record (map form_of_field ts))
        ∙ (made_of ts (fields_mean fields ts (sym (gathered_all (field_tree world.schemas tree places) fields) ∙ there))).0) (
          refl,
          λ v v_is. let all = made_of ts (fields_mean fields ts (sym (gathered_all (field_tree world.schemas tree places) fields) ∙ there)) in all.1 v
              (all.0 ∙ v_is),
        ))))))
      where
        made_of : (ts : List (Field Tree)) → Agree (λ vs. Fits world (AreMembers (map type_of_field ts) vs))
            (members_of world (map (map_field (form_meaning world)) (map form_of_field ts)) slots)
            (members_meaning world typed (map (map_field kept) fields) scope)
            → Agree (Val (ty.Rec (map type_of_field ts))) (on_ok (members_of world (map (map_field (form_meaning world)) (map form_of_field ts)) slots)
            (λ members. Ok (value.Rec members)))
            (on_ok (members_meaning world typed (map (map_field kept) fields) scope) (λ members. Ok (value.Rec members)))
        made_of ts all =
            on_ok_agree (λ vs. Fits world (AreMembers (map type_of_field ts) vs)) (Val (ty.Rec (map type_of_field ts))) _ _
            (λ vs fits. agree_ok (Val (ty.Rec (map type_of_field ts))) (value.Rec vs) (by_record (ty.Rec (map type_of_field ts)) (map type_of_field ts) vs
            (outs-Rec (map type_of_field ts)) fits)) _ _ all

    -- ---- any node

    two_bound : (given : Tree → Tree → Option Tree) (a b : X) (r : Tree) (n : Result (Value R) Fault) → of_two_trees given (tree a places) (tree b places)
        ≡ Some r
        → ((x y : Tree) → tree a places ≡ Some x → tree b places ≡ Some y → given x y ≡ Some r → As n r) → As n r
    two_bound given a b r n h next =
        option_and_then_some _ (tree a places) r h (λ x x_there found. option_and_then_some (given x) (tree b places) r found
        (λ y y_there made. next x y x_there y_there made))

    pub node_means : (n : Node X) (r : Tree) → node_tree world.schemas tree n places ≡ Some r → As (node_meaning world typed (map_node kept n) scope) r
    node_means (node.Integer n) r h = subst (As _) (same_Some _ r h) (literal_means ty.Int Ty-F.Int (scalar.Int n) outs-Int tt)
    node_means (node.Text t) r h = subst (As _) (same_Some _ r h) (literal_means ty.Str Ty-F.Str (scalar.Text t) outs-Str tt)
    node_means (node.Bool b) r h = subst (As _) (same_Some _ r h) (literal_means ty.Bool Ty-F.Bool (scalar.Bool b) outs-Bool tt)
    node_means node.Null r h = subst (As _) (same_Some _ r h) (literal_means ty.Null Ty-F.Null scalar.Null outs-Null tt)
    node_means (node.Name x) r h = name_by x (place_of x places.locals) (binding_of x scope) (name_there world slots x places.locals scope at.1.1 at.0) r h
    node_means (node.Member a m) r h =
        option_and_then_some (member_tree world.schemas m) (tree a places) r h
        (λ found bound made. subst (λ (o : Option Ty). As (settled world (type_here a m) (on_ok (meant a scope) (λ v. value_of_member world o m
        (out-Value R v)))) r)
        (sym (type_at a slots places scope at found bound))
        (member_means world slots m found r (type_here a m) (meant a scope) made (node_type_at (node.Member a m) slots places scope at r h)
        (here a found bound)))
      where
        type_here : X → List ℕ → Option Ty
        type_here a m = node_type (map_node typed (node.Member a m)) (names_at world scope)
    node_means (node.Unary unary.Minus a) r h =
        option_and_then_some _ (tree a places) r h (λ found bound made. minus_means world slots found r (meant a scope) made (here a found bound))
    node_means (node.Unary unary.Not a) r h =
        option_and_then_some _ (tree a places) r h (λ found bound made. not_means world slots found r (meant a scope) made (here a found bound))
    node_means (node.Binary sign a b) r h =
        two_bound (binary_tree sign) a b r _ h
        (λ x y x_there y_there made. binary_means world slots sign x y r (meant a scope) (meant b scope) (typed a (names_at world scope))
        (typed b (names_at world scope)) made
        (type_at a slots places scope at x x_there) (type_at b slots places scope at y y_there) (here a x x_there) (here b y y_there))
    node_means (node.And a b) r h =
        two_bound and_tree a b r _ h (λ x y x_there y_there made. and_means world slots x y r (meant a scope) (meant b scope) made (here a x x_there)
        (here b y y_there))
    node_means (node.Or a b) r h =
        two_bound or_tree a b r _ h (λ x y x_there y_there made. or_means world slots x y r (meant a scope) (meant b scope) made (here a x x_there)
        (here b y y_there))
    node_means (node.Coalesce a b) r h =
        two_bound coalesce_tree a b r _ h (λ x y x_there y_there made. coalesce_means world slots x y r (meant a scope) (meant b scope) made
        (here a x x_there) (here b y y_there))
    node_means (node.Conditional c a b) r h =
        option_and_then_some _ (tree c places) r h
        (λ z z_there found. two_bound (conditional_tree z) a b r _ found
        (λ x y x_there y_there made. conditional_means world slots z x y r (meant c scope) (meant a scope) (meant b scope) made (here c z z_there)
        (here a x x_there) (here b y y_there)))
    node_means (node.Host p row columns) r h =
        option_and_then_some (host_tree world.schemas places.predicates p columns) (tree row places) r h
        (λ found bound made. host_means world slots p columns found r (meant row scope)
        (ap (λ (known : List HostName). host_tree world.schemas known p columns found) (sym at.1.3) ∙ made) (here row found bound))
    node_means (node.HostOther p xs) r h = absurd (none-some r h)
    node_means (node.New fields) r h = record_means fields r h
    node_means (node.Method a m arguments) r h =
        option_and_then_some _ (tree a places) r h
        (λ found bound made. subst (λ (c : Bool). As (settled world (method_type_at world typed (kept a) m (map (map_argument kept) arguments) scope)
        (if c then search_meaning world typed (meant a scope) m (argument_meaning world typed scope (sole_argument (map (map_argument kept) arguments)))
        else called_meaning world typed (enumerable_call m (map (map_argument kept) arguments)) (item_type_at world type_kept (λ y. y.1) (kept a) scope)
        (meant a scope) scope)) r)
        (sym (ap is_text_type (type_at a slots places scope at found bound)))
        (method_by_type a m arguments found r bound (is_text (out-Ty found.ty)) refl (method_type_at world typed (kept a) m
        (map (map_argument kept) arguments) scope)
        (method_by kept type_kept a m arguments (names_at world scope) ∙ sym (method_by typed (λ t. t) a m arguments (names_at world scope))
        ∙ node_type_at (node.Method a m arguments) slots places scope at r h) made))
