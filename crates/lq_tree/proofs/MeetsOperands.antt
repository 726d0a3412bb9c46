-- Wherever a typed form is run, its operands are faults or of the kinds that are asked of them: by induction over the rules, as evaluation
-- keeps what they say.
use Rattle.std.proofs.Common.{◌≡◌, ◌∷◌, ◌++◌, List, [], ℕ, true, Some, Ok, ap, ◌∙◌, refl, slice_get}
use Rattle.lq_value.specs.declared.ty.Ty.{Ty, out-Ty}
use Rattle.lq_value.specs.declared.ty.Ty.TheOpen.{Ty-F}
use Rattle.lq_value.specs.declared.ty.Ty.TheVariants as ty
use Rattle.lq_value.specs.declared.ty.Ty.TheVariants.{outs-Row}
use Rattle.lq_value.specs.declared.value.Value.{Value}
use Rattle.lq_value.specs.declared.value.Value.TheVariants as value
use Rattle.lq_host.specs.declared.call.Pick.{Pick}
use Rattle.lq_grammar.specs.declared.syntax.Picked.{Picked}
use Rattle.lq_language.specs.HostNames.{are_int_columns}
use Rattle.lq_language.specs.Worlds.{World, known_predicates}
use Rattle.lq_language.specs.OperandMeaning.{stream_of}
use Rattle.lq_language.specs.ValuesOfTypes.{HoldsRows}
use Rattle.lq_language.specs.Names.{column_type}
use Rattle.lq_language.specs.OperandTypes.{is_number, is_text}
use Rattle.lq_language.specs.MeaningLaws.{IsValueOf, by_row}
use Rattle.lq_language.specs.declared.operation.Op.TheVariants as op
use Rattle.lq_language.proofs.AlikeStreamLaws.{Pair, agree_ok, both_agree, select_alike}
use Rattle.lq_language.proofs.HostMeaningLaws.{arguments_there}
use Rattle.lq_language.proofs.TypedOperatorLaws.{coalesced_plain}
use Rattle.lq_language.proofs.ValueLaws.{RecordOrNull, RowOrNull, a_record, a_row, group_value, is_plain, no_record, no_row, plain_value, record_value, row_value}
use Rattle.lq_tree.specs.FormMeaning.{Slots, form_meaning, name_of_column}
use Rattle.lq_tree.specs.OperandKinds.{Finds, HasArguments, HasCell, HasMember, IsEnumerable, IsGroup, IsPair, IsScalar, IsScalarThat, MeetsKinds, Runs, RunsFields, RunsKeys, SortAlike, takes_one, takes_two}
use Rattle.lq_tree.specs.OperandKinds as kind
use Rattle.lq_tree.specs.TypedForms.{ArePicked, Both, FormClaim, Gives, Has, IsTyped, Many, Members, Of, Shape, Sorts, matched_items, with_slot}
use Rattle.lq_tree.specs.TypedForms as rule
use Rattle.lq_tree.specs.TypedFormLaws.{AreOfShapes, ConditionsMeetOperands, MeetsOperands, StatementsMeetOperands}
use Rattle.lq_tree.specs.declared.tree.Form.{Form}
use Rattle.lq_tree.proofs.HostMeans.{arguments_same}
use Rattle.lq_tree.proofs.OperandLemmas.{alike_values, argument_taken, beside_taken, both_so, join_kind, pairs_taken, same_kind, two_taken, enumerable_value, item_taken, items_taken, join_keys, key_value, number_value, object_value, scalar_value, search_taken, second_items, sign_taken, suited, text_value, truth_value}
use Rattle.lq_tree.proofs.TypedMeanings.{found_fit, keeps, one_more, placed, slot_there, two_more}
use Rattle.lq_tree.proofs.TypedStatements.{typed_conditions, typed_statements}

module _ {R : Type 0} (world : World R) (holds : HoldsRows world) where
  abbrev Val : Ty → Value R → Type 0
  Val = IsValueOf world

  abbrev Safe : Form → Slots R → Type 0
  Safe f slots = MeetsKinds world (Runs f slots)

  -- ---- kinds

  cell_there : (n c : ℕ) (m : List ℕ) (t u : Ty) → out-Ty t ≡ Ty-F.Row n → name_of_column world.schemas n c ≡ Some m
      → column_type world.schemas n m ≡ Some u → (v : Value R) → Val t v → HasCell world n c v
  cell_there n c m t u is name typed v fits = by (row_value world t n v is fits) where
    by : RowOrNull world n v → HasCell world n c v
    by (a_row r cells same) = let cell = cells.1 m u typed in kind.a_cell r m cell.0 same name cell.1
    by (no_row same) = kind.no_row same

  arguments_found : (n : ℕ) (columns : Pick) (named : Picked) (t : Ty) → out-Ty t ≡ Ty-F.Row n → ArePicked world.schemas n columns named
      → are_int_columns world.schemas n named ≡ true → (v : Value R) → Val t v → HasArguments world n columns v
  arguments_found n columns named t is picked ints v fits = by (row_value world t n v is fits) where
    by : RowOrNull world n v → HasArguments world n columns v
    by (a_row r cells same) =
        let xs = arguments_there world n r cells named ints in kind.an_asked r xs.0 same (arguments_same world n columns named picked r cells.0 ∙ xs.1)
    by (no_row same) = kind.none_asked same

  member_there : (t : Ty) (ms : List (List ℕ × Ty)) (place : ℕ) (m : List ℕ × Ty) → out-Ty t ≡ Ty-F.Rec ms → slice_get ms place ≡ Some m
      → (v : Value R) → Val t v → HasMember place v
  member_there t ms place m is there v fits = by (record_value world t ms v is fits) where
    by : RecordOrNull world ms v → HasMember place v
    by (a_record vs members same) = let found = placed world holds m members place there in kind.a_member vs found.0 same found.1
    by (no_record same) = kind.no_record same

  plain_scalar : (t : Ty) (v : Value R) → is_plain (out-Ty t) ≡ true → Val t v → IsScalar v
  plain_scalar t v plain fits = let found = plain_value world t v plain fits in (found.0, found.1)

  -- ---- the rules

  abbrev Meets : FormClaim → Type 0
  Meets (Has shapes f s) = (slots : Slots R) → AreOfShapes world shapes slots → Safe f slots
  Meets (Gives shapes f s) = (slots : Slots R) → AreOfShapes world shapes slots → Safe f slots × Finds world f slots IsEnumerable
  Meets (Members shapes fields ms) = (slots : Slots R) → AreOfShapes world shapes slots → MeetsKinds world (RunsFields fields slots)
  Meets (Sorts shapes ks) =
      ((slots : Slots R) → AreOfShapes world shapes slots → MeetsKinds world (RunsKeys ks slots))
      × ((slots others : Slots R) → AreOfShapes world shapes slots → AreOfShapes world shapes others → SortAlike world ks slots others)

  pub meets : {claim : FormClaim} → IsTyped world.schemas claim → Meets claim
  meets (rule.by_type shapes f s h) = meets h
  meets (rule.by_items shapes f s h) = λ slots fit. (
    meets h slots fit,
    λ v is. let found = keeps world holds h slots fit v is in kind.a_sequence found.0 found.1 found.2,
  )
  meets (rule.by_elements shapes f t u h element) =
      λ slots fit. (meets h slots fit, λ v is. enumerable_value world t u element v (keeps world holds h slots fit v is))
  meets (rule.of_literal shapes c t fits) = λ slots fit. kind.at_literal c slots
  meets (rule.of_slot shapes n s there) =
      λ slots fit. let found = slot_there world holds shapes slots fit n s there in kind.at_slot n slots found.0 found.1
  meets (rule.of_first shapes a s t h) =
      λ slots fit. kind.at_first a slots (meets h slots fit)
      (λ v is. let found = keeps world holds h slots fit v is in (found.0, found.1, found.2))
  meets (rule.of_second shapes a s t h) =
      λ slots fit. kind.at_second a slots (meets h slots fit)
      (λ v is. let found = keeps world holds h slots fit v is in (found.0, found.1, found.2))
  meets (rule.of_table shapes n schema there) = λ slots fit. let rows = holds n schema there in kind.at_table n slots rows.0 rows.1
  meets (rule.of_column shapes row n c m t u h is name typed) =
      λ slots fit. kind.at_column row n c slots (meets h slots fit)
      (λ v v_is. cell_there n c m t u is name typed v (keeps world holds h slots fit v v_is))
  meets (rule.of_host shapes p row n columns named t h is picked ints) =
      λ slots fit. kind.at_host p row n columns slots (meets h slots fit)
      (λ v v_is. arguments_found n columns named t is picked ints v (keeps world holds h slots fit v v_is))
  meets (rule.of_member shapes a place t ms m h is there) =
      λ slots fit. kind.at_member a place slots (meets h slots fit)
      (λ v v_is. member_there t ms place m is there v (keeps world holds h slots fit v v_is))
  meets (rule.of_key shapes a t k u h is) =
      λ slots fit. kind.at_key a slots (meets h slots fit)
      (λ v v_is. let found = group_value world t k u v is (keeps world holds h slots fit v v_is) in (found.0, found.1, found.2))
  meets (rule.of_minus shapes a t h number) =
      λ slots fit. kind.at_one op.Minus a slots (meets h slots fit) (λ v is. number_value world t v number (keeps world holds h slots fit v is))
  meets (rule.of_not shapes a t h bool) =
      λ slots fit. kind.at_one op.Not a slots (meets h slots fit) (λ v is. truth_value world t v bool (keeps world holds h slots fit v is))
  meets (rule.of_has_value shapes a t h layer) =
      λ slots fit. kind.at_one op.HasValue a slots (meets h slots fit)
      (λ v is. number_value world t v (ap is_number layer) (keeps world holds h slots fit v is))
  meets (rule.of_value shapes a t h layer) =
      λ slots fit. kind.at_one op.Value a slots (meets h slots fit)
      (λ v is. number_value world t v (ap is_number layer) (keeps world holds h slots fit v is))
  meets (rule.of_length shapes a t h layer) =
      λ slots fit. kind.at_one op.Length a slots (meets h slots fit) (λ v is. text_value world t v (ap is_text layer) (keeps world holds h slots fit v is))
  meets (rule.of_search shapes a b m o s t h s_text k t_text named) =
      λ slots fit. kind.at_two o a b slots (meets h slots fit) (meets k slots fit)
      (λ v v_is w w_is.
      let x = text_value world s v s_text (keeps world holds h slots fit v v_is) in
      let y = text_value world t w t_text (keeps world holds k slots fit w w_is) in
      (x.0, y.0, x.1, y.1, search_taken o m named x.0 y.0 (both_so _ _ x.2 y.2)))
      (λ v is. let x = text_value world s v s_text (keeps world holds h slots fit v is) in (x.0, x.1))
  meets (rule.of_sign shapes a b sign s t r h s_no k t_no typed) =
      λ slots fit. let signed = sign_taken sign (out-Ty s) (out-Ty t) r s_no t_no typed in
      kind.at_two _ a b slots (meets h slots fit) (meets k slots fit)
      (λ v v_is w w_is.
      let x = plain_value world s v signed.0 (keeps world holds h slots fit v v_is) in
      let y = plain_value world t w signed.1 (keeps world holds k slots fit w w_is) in
      (x.0, y.0, x.1, y.1, signed.2 x.0 y.0 x.2 y.2))
      (λ v is. plain_scalar s v signed.0 (keeps world holds h slots fit v is))
  meets (rule.of_is_null shapes wanted a t h object) =
      λ slots fit. kind.at_null_test wanted a slots (meets h slots fit) (λ v is. object_value world t object v (keeps world holds h slots fit v is))
  meets (rule.of_and shapes a b s t h s_bool k t_bool) =
      λ slots fit. kind.at_and a b slots (meets h slots fit) (meets k slots fit)
      (λ v is. truth_value world s v s_bool (keeps world holds h slots fit v is)) (λ v is. truth_value world t v t_bool (keeps world holds k slots fit v is))
  meets (rule.of_or shapes a b s t h s_bool k t_bool) =
      λ slots fit. kind.at_or a b slots (meets h slots fit) (meets k slots fit)
      (λ v is. truth_value world s v s_bool (keeps world holds h slots fit v is)) (λ v is. truth_value world t v t_bool (keeps world holds k slots fit v is))
  meets (rule.of_coalesce shapes a b s t r h k typed) =
      λ slots fit. let plain = coalesced_plain (out-Ty s) (out-Ty t) r typed in
      kind.at_default a b slots (meets h slots fit) (meets k slots fit)
      (λ v is. plain_scalar s v plain.0 (keeps world holds h slots fit v is)) (λ v is. plain_scalar t v plain.1 (keeps world holds k slots fit v is))
  meets (rule.of_conditional shapes c a b q s t r g q_bool h k typed) =
      λ slots fit. kind.at_choice c a b slots (meets g slots fit) (meets h slots fit) (meets k slots fit)
      (λ v is. truth_value world q v q_bool (keeps world holds g slots fit v is))
  meets (rule.of_record shapes fields ms h) = λ slots fit. kind.at_record fields slots (meets h slots fit)
  meets (rule.no_field shapes) = λ slots fit. kind.no_field slots
  meets (rule.one_field shapes field fields t ms h k) = λ slots fit. kind.one_field field fields slots (meets h slots fit) (meets k slots fit)
  meets (rule.of_pair shapes a b s t h k) = λ slots fit. kind.at_pair a b slots (meets h slots fit) (meets k slots fit)
  meets (rule.of_sequence shapes a s h) = λ slots fit. let source = meets h slots fit in kind.at_sequence a slots source.0 source.1
  meets (rule.of_simple shapes method t r a h typed) =
      λ slots fit. let source = meets h slots fit in
      kind.at_simple method t a slots source.0 source.1 (λ v there. items_taken world method t r typed v (keeps world holds h slots fit there.0 v there.1))
      (suited method t r typed)
      (λ v w there w_there. two_taken world method t r typed v w (keeps world holds h slots fit there.0 v there.1)
      (keeps world holds h slots fit w_there.0 w w_there.1))
  meets (rule.of_given shapes method t u r a b h k typed) =
      λ slots fit. let source = meets h slots fit in
      kind.at_given method a b slots source.0 source.1 (λ v there. item_taken world method t u r typed v (keeps world holds h slots fit there.0 v there.1))
      (meets k slots fit) (λ v is. argument_taken world method t u r typed v (keeps world holds k slots fit v is))
      (λ v there. second_items world method t u r typed (form_meaning world b slots) (keeps world holds k slots fit) there.0 v there.1)
      (λ w is v there. beside_taken world method t u r typed w v (keeps world holds k slots fit w is) (keeps world holds h slots fit there.0 v there.1))
      (pairs_taken world method t u r typed (form_meaning world b slots) (keeps world holds k slots fit) (stream_of world (form_meaning world a slots)).0 (keeps world holds h slots fit))
  meets (rule.of_where shapes c a f s h k bool) =
      λ slots fit. let source = meets h slots fit in
      kind.at_where a f slots source.0 source.1
      (λ v there. meets k (slots ++ v ∷ []) (one_more world holds shapes slots s v fit (keeps world holds h slots fit there.0 v there.1)))
      (λ v there w is. truth_value world c w bool
      (keeps world holds k (slots ++ v ∷ []) (one_more world holds shapes slots s v fit (keeps world holds h slots fit there.0 v there.1)) w is))
  meets (rule.of_select shapes a f s r h k) =
      λ slots fit. let source = meets h slots fit in
      kind.at_select a f slots source.0 source.1
      (λ v there. meets k (slots ++ v ∷ []) (one_more world holds shapes slots s v fit (keeps world holds h slots fit there.0 v there.1)))
  meets (rule.of_all shapes c a f s h k bool) =
      λ slots fit. let source = meets h slots fit in
      kind.at_all a f slots source.0 source.1
      (λ v there. meets k (slots ++ v ∷ []) (one_more world holds shapes slots s v fit (keeps world holds h slots fit there.0 v there.1)))
      (λ v there w is. truth_value world c w bool
      (keeps world holds k (slots ++ v ∷ []) (one_more world holds shapes slots s v fit (keeps world holds h slots fit there.0 v there.1)) w is))
  meets (rule.of_select_many shapes a inner result s u r h k l) =
      λ slots fit. let source = meets h slots fit in
      kind.at_expansion a inner result slots source.0 source.1
      (λ v there. (meets k (slots ++ v ∷ []) (one_more world holds shapes slots s v fit (keeps world holds h slots fit there.0 v there.1))).0)
      (λ v there. (meets k (slots ++ v ∷ []) (one_more world holds shapes slots s v fit (keeps world holds h slots fit there.0 v there.1))).1)
      (λ v w there w_there. meets l (slots ++ v ∷ w ∷ [])
      (two_more world holds shapes slots s u v w fit (keeps world holds h slots fit there.0 v there.1)
      (keeps world holds k (slots ++ v ∷ []) (one_more world holds shapes slots s v fit (keeps world holds h slots fit there.0 v there.1)) w_there.0 w w_there.1)))
  meets (rule.of_join shapes a j s r u k l h inner outer_key inner_key comparable result) =
      λ slots fit. let source = meets h slots fit in let second = meets inner slots fit in let keys = join_keys world k l comparable in
      kind.at_join a j slots source.0 source.1 second.0 second.1
      (λ v there. meets outer_key (slots ++ v ∷ []) (one_more world holds shapes slots s v fit (keeps world holds h slots fit there.0 v there.1)))
      (λ v there w is. keys.0 w (keeps world holds outer_key (slots ++ v ∷ [])
      (one_more world holds shapes slots s v fit (keeps world holds h slots fit there.0 v there.1)) w is))
      (λ v there. meets inner_key (slots ++ v ∷ []) (one_more world holds shapes slots (Of u) v fit (keeps world holds inner slots fit there.0 v there.1)))
      (λ v there w is. keys.1 w (keeps world holds inner_key (slots ++ v ∷ [])
      (one_more world holds shapes slots (Of u) v fit (keeps world holds inner slots fit there.0 v there.1)) w is))
      (λ v w key there is w_there. meets result (slots ++ v ∷ w ∷ [])
      (two_more world holds shapes slots s (Of (matched_items j.grouped u)) v w fit (keeps world holds h slots fit there.0 v there.1)
      (found_fit world holds j.grouped l u key _
      (select_alike (Val u) (Pair (Val l) (Val u)) _ _
      (λ x p. both_agree (Val l) (Val u) (form_meaning world j.inner_key (slots ++ x ∷ [])) _ (Ok x) _
      (refl, keeps world holds inner_key (slots ++ x ∷ []) (one_more world holds shapes slots (Of u) x fit p)) (agree_ok (Val u) x p))
      (stream_of world (form_meaning world j.inner slots)) (stream_of world (form_meaning world j.inner slots)) (refl, keeps world holds inner slots fit)).1 w_there.0 w w_there.1)))
      (λ v w there w_there x x_is y y_is. join_kind world k l comparable x y
      (keeps world holds outer_key (slots ++ v ∷ []) (one_more world holds shapes slots s v fit (keeps world holds h slots fit there.0 v there.1)) x x_is)
      (keeps world holds inner_key (slots ++ w ∷ [])
      (one_more world holds shapes slots (Of u) w fit (keeps world holds inner slots fit w_there.0 w w_there.1)) y y_is))
  meets (rule.of_order shapes a ks s h k) =
      λ slots fit. let source = meets h slots fit in
      kind.at_order a ks slots source.0 source.1
      (λ v there. (meets k).0 (slots ++ v ∷ []) (one_more world holds shapes slots s v fit (keeps world holds h slots fit there.0 v there.1)))
      (λ v w there w_there. (meets k).1 (slots ++ v ∷ []) (slots ++ w ∷ [])
      (one_more world holds shapes slots s v fit (keeps world holds h slots fit there.0 v there.1))
      (one_more world holds shapes slots s w fit (keeps world holds h slots fit w_there.0 w w_there.1)))
  meets (rule.no_key shapes) = ((λ slots fit. kind.no_key slots), (λ slots others fit more. tt))
  meets (rule.one_key shapes k ks t h sortable others) = (
    λ slots fit. kind.one_key k ks slots (meets h slots fit) (λ v is. scalar_value world t v sortable (keeps world holds h slots fit v is))
        ((meets others).0 slots fit),
    λ slots more fit more_fit. (
      (λ v v_is w w_is. alike_values world t v w sortable (keeps world holds h slots fit v v_is) (keeps world holds h more more_fit w w_is)),
      (meets others).1 slots more fit more_fit,
    ),
  )
  meets (rule.of_group shapes a key element s k e h key_typed is_key element_typed) =
      λ slots fit. let source = meets h slots fit in
      kind.at_grouping a key element slots source.0 source.1
      (λ v there. meets key_typed (slots ++ v ∷ []) (one_more world holds shapes slots s v fit (keeps world holds h slots fit there.0 v there.1)))
      (λ v there w is. key_value world k w is_key (keeps world holds key_typed (slots ++ v ∷ [])
      (one_more world holds shapes slots s v fit (keeps world holds h slots fit there.0 v there.1)) w is))
      (λ v there. meets element_typed (slots ++ v ∷ []) (one_more world holds shapes slots s v fit (keeps world holds h slots fit there.0 v there.1)))
      (λ v w there w_there x x_is y y_is. same_kind world k x y is_key
      (keeps world holds key_typed (slots ++ v ∷ []) (one_more world holds shapes slots s v fit (keeps world holds h slots fit there.0 v there.1)) x x_is)
      (keeps world holds key_typed (slots ++ w ∷ []) (one_more world holds shapes slots s w fit (keeps world holds h slots fit w_there.0 w w_there.1)) y y_is))

pub meets_operands : {R : Type 0} → MeetsOperands R
meets_operands world holds shapes f s typed slots fit = meets world holds typed slots fit

pub statements_meet_operands : {R : Type 0} → StatementsMeetOperands R
statements_meet_operands world definitions holds all e tree bound = meets world holds (typed_statements world.schemas (known_predicates world.predicates) definitions all e tree bound) [] tt

pub conditions_meet_operands : {R : Type 0} → ConditionsMeetOperands R
conditions_meet_operands world definitions holds all x n e tree bound row cells =
    meets world holds (typed_conditions world.schemas (known_predicates world.predicates) definitions all x n e tree bound) (value.Row row ∷ [])
    (by_row (ty.Row n) n row (outs-Row n) cells, tt)
