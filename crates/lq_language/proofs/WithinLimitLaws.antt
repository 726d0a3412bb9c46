-- No typed expression has a type of more than 4,096 parts, where no local name has one.
use Rattle.std.proofs.Common.{◌≡◌, ◌≤◌, ◌==◌, ◌+◌, ◌∷◌, if◌then◌else◌, List, [], map, ℕ, Bool, true, false, Option, Some, None, ap, ◌∙◌, arith, sym, refl, subst, bytes_eq, slice_get, true≢false}
use Rattle.std.proofs.lemmas.Bool.{le-leb, leb-true}
use Rattle.std.proofs.lemmas.Option.{none-some, option_and_then_some, same_Some}
use Rattle.std.specs.Prelude.{nat_le}
use Rattle.lq_value.specs.declared.table.Column.{Column}
use Rattle.lq_value.specs.declared.table.ColumnType.{ColumnType}
use Rattle.lq_value.specs.declared.table.ColumnType.TheVariants as of
use Rattle.lq_value.specs.declared.table.Schema.{Schema}
use Rattle.lq_value.specs.declared.ty.Ty.{Ty, map-Ty, out-Ty}
use Rattle.lq_value.specs.declared.ty.Ty.TheOpen.{Ty-F}
use Rattle.lq_value.specs.declared.ty.Ty.TheVariants as ty
use Rattle.lq_value.specs.declared.ty.Ty.TheVariants.{outs-Bool, outs-Group, outs-Int, outs-IntN, outs-Null, outs-Rec, outs-Row, outs-Seq, outs-Str}
use Rattle.lq_language.specs.Types.{element_type, is_within, parts_of, parts_step, same_types, sum_of_members}
use Rattle.lq_language.specs.Names.{Names, column_named, column_type, local_type, type_of_column, with_local}
use Rattle.lq_language.specs.OperandTypes.{choice_type_of_layers, coalesced, is_number, number_type}
use Rattle.lq_language.specs.TypingRules.{TypeClaim, Has, Gives, Members, Sorts, Leads, LeadAll, Ends, BodyGives, Continues, QueryGives, IsRight}
use Rattle.lq_language.specs.TypingRules as rule
use Rattle.lq_language.specs.Typing.{member_of, type_of_choice}
use Rattle.lq_language.specs.TypingLaws.{AreWithin, LimitsItems, LimitsTypes}
use Rattle.lq_language.proofs.FindingLaws.{map_by, when_by}
use Rattle.lq_language.proofs.TypingLaws.{is_of_layer, type_with}
use Rattle.lq_language.proofs.TypingSoundness.{items_sound, expression_sound}
use Rattle.lq_language.proofs.TypePartLaws.{parts_at, parts_out}

-- ---- parts

within_from : (s t : Ty) → parts_of t ≤ parts_of s → is_within s ≡ true → is_within t ≡ true
within_from s t less within = le-leb (parts_of t) 4096 (let most : parts_of s ≤ 4096 = leb-true (parts_of s) 4096 within in omega (arith, less, most))

-- a type of one part
abbrev pub is_one : Ty-F Ty → Bool
is_one (Ty-F.Rec ms) = false
is_one (Ty-F.Seq t) = false
is_one (Ty-F.Group k t) = false
is_one layer = true

one_part : (layer : Ty-F Ty) → is_one layer ≡ true → parts_step (map-Ty Ty ℕ parts_of layer) ≡ 1
one_part (Ty-F.Rec ms) h = absurd (true≢false (sym h))
one_part (Ty-F.Seq t) h = absurd (true≢false (sym h))
one_part (Ty-F.Group k t) h = absurd (true≢false (sym h))
one_part layer h = refl

pub within_one : (t : Ty) → is_one (out-Ty t) ≡ true → is_within t ≡ true
within_one t h = ap (λ n. nat_le n 4096) (parts_out t ∙ one_part (out-Ty t) h)

at_layer : (t : Ty) (layer : Ty-F Ty) → out-Ty t ≡ layer → is_one layer ≡ true → is_within t ≡ true
at_layer t layer is h = within_one t (ap is_one is ∙ h)

number_one : (layer : Ty-F Ty) → is_number layer ≡ true → is_one layer ≡ true
number_one Ty-F.Int h = refl
number_one Ty-F.IntN h = refl
number_one layer h = absurd (true≢false (sym h))

number_type_within : (k l : Ty-F Ty) → is_within (number_type k l) ≡ true
number_type_within Ty-F.Int Ty-F.Int = at_layer ty.Int Ty-F.Int outs-Int refl
number_type_within k l = at_layer ty.IntN Ty-F.IntN outs-IntN refl

same_within : (s t : Ty) → Some s ≡ Some t → is_within s ≡ true → is_within t ≡ true
same_within s t h = subst (λ (u : Ty). is_within u ≡ true) (same_Some s t h)

coalesced_within : (k l : Ty-F Ty) (r : Ty) → coalesced k l ≡ Some r → is_within r ≡ true
coalesced_within Ty-F.IntN Ty-F.Int r h = same_within ty.Int r h (at_layer ty.Int Ty-F.Int outs-Int refl)
coalesced_within Ty-F.IntN Ty-F.IntN r h = same_within ty.IntN r h (at_layer ty.IntN Ty-F.IntN outs-IntN refl)
coalesced_within Ty-F.IntN Ty-F.Null r h = same_within ty.IntN r h (at_layer ty.IntN Ty-F.IntN outs-IntN refl)
coalesced_within Ty-F.Str Ty-F.Str r h = same_within ty.Str r h (at_layer ty.Str Ty-F.Str outs-Str refl)
coalesced_within Ty-F.Str Ty-F.Null r h = same_within ty.Str r h (at_layer ty.Str Ty-F.Str outs-Str refl)
coalesced_within k l r h = absurd (none-some r h)

row_within : (n : ℕ) (r : Ty) (b : Bool) → (if b then Some (ty.Row n) else None) ≡ Some r → is_within r ≡ true
row_within n r true h = same_within (ty.Row n) r h (at_layer (ty.Row n) (Ty-F.Row n) (outs-Row n) refl)
row_within n r false h = absurd (none-some r h)

chosen_within : (k l : Ty-F Ty) (r : Ty) → choice_type_of_layers k l ≡ Some r → is_within r ≡ true
chosen_within Ty-F.Int Ty-F.Int r h = same_within ty.Int r h (at_layer ty.Int Ty-F.Int outs-Int refl)
chosen_within Ty-F.Int Ty-F.IntN r h = same_within ty.IntN r h (at_layer ty.IntN Ty-F.IntN outs-IntN refl)
chosen_within Ty-F.IntN Ty-F.Int r h = same_within ty.IntN r h (at_layer ty.IntN Ty-F.IntN outs-IntN refl)
chosen_within Ty-F.IntN Ty-F.IntN r h = same_within ty.IntN r h (at_layer ty.IntN Ty-F.IntN outs-IntN refl)
chosen_within Ty-F.IntN Ty-F.Null r h = same_within ty.IntN r h (at_layer ty.IntN Ty-F.IntN outs-IntN refl)
chosen_within Ty-F.Null Ty-F.IntN r h = same_within ty.IntN r h (at_layer ty.IntN Ty-F.IntN outs-IntN refl)
chosen_within Ty-F.Bool Ty-F.Bool r h = same_within ty.Bool r h (at_layer ty.Bool Ty-F.Bool outs-Bool refl)
chosen_within Ty-F.Str Ty-F.Str r h = same_within ty.Str r h (at_layer ty.Str Ty-F.Str outs-Str refl)
chosen_within Ty-F.Str Ty-F.Null r h = same_within ty.Str r h (at_layer ty.Str Ty-F.Str outs-Str refl)
chosen_within Ty-F.Null Ty-F.Str r h = same_within ty.Str r h (at_layer ty.Str Ty-F.Str outs-Str refl)
chosen_within (Ty-F.Row m) (Ty-F.Row n) r h = row_within m r (m == n) h
chosen_within (Ty-F.Row n) Ty-F.Null r h = same_within (ty.Row n) r h (at_layer (ty.Row n) (Ty-F.Row n) (outs-Row n) refl)
chosen_within Ty-F.Null (Ty-F.Row n) r h = same_within (ty.Row n) r h (at_layer (ty.Row n) (Ty-F.Row n) (outs-Row n) refl)
chosen_within k l r h = absurd (none-some r h)

-- what a choice gives is one of its parts' types, or of one part
choice_by : (s t r : Ty) (k l : Ty-F Ty) → out-Ty s ≡ k → out-Ty t ≡ l → type_of_choice k l ≡ Some r → is_within s ≡ true → is_within t ≡ true → is_within r ≡ true
choice_by s t r (Ty-F.Rec ms) (Ty-F.Rec ns) s_is t_is h first second =
    when_by (same_types (ty.Rec ms) (ty.Rec ns)) (Some (ty.Rec ms)) r h
    (λ same is. same_within (ty.Rec ms) r is (subst (λ (u : Ty). is_within u ≡ true) (is_of_layer s ∙ ap type_with s_is) first))
choice_by s t r (Ty-F.Rec ms) Ty-F.Null s_is t_is h first second = same_within (ty.Rec ms) r h (subst (λ (u : Ty). is_within u ≡ true) (is_of_layer s ∙ ap type_with s_is) first)
choice_by s t r Ty-F.Null (Ty-F.Rec ms) s_is t_is h first second = same_within (ty.Rec ms) r h (subst (λ (u : Ty). is_within u ≡ true) (is_of_layer t ∙ ap type_with t_is) second)
choice_by s t r k l s_is t_is h first second = chosen_within k l r h

column_within : (c : ColumnType) → is_within (type_of_column c) ≡ true
column_within of.Int = at_layer ty.Int Ty-F.Int outs-Int refl
column_within of.IntN = at_layer ty.IntN Ty-F.IntN outs-IntN refl
column_within of.Bool = at_layer ty.Bool Ty-F.Bool outs-Bool refl
column_within of.Str = at_layer ty.Str Ty-F.Str outs-Str refl

columns_within : (tables : List Schema) (n : ℕ) (c : List ℕ) (t : Ty) → column_type tables n c ≡ Some t → is_within t ≡ true
columns_within tables n c t h =
    option_and_then_some _ (slice_get tables n) t h (λ schema there found. map_by (λ (column : Column). type_of_column column.ty) (column_named c schema.columns) t found
    (λ column at is. subst (λ (u : Ty). is_within u ≡ true) is (column_within column.ty)))

-- ---- parts of a type

abbrev counted : List (List ℕ × Ty) → List (List ℕ × ℕ)
counted ms = map (λ (m : List ℕ × Ty). (m.0, parts_of m.1)) ms

member_by : (m : List ℕ × Ty) (ms : List (List ℕ × Ty)) (t : Ty) (rest : Option Ty) → (rest ≡ Some t → parts_of t ≤ sum_of_members (counted ms)) → (b : Bool)
    → (if b then Some m.1 else rest) ≡ Some t → parts_of t ≤ parts_of m.1 + sum_of_members (counted ms)
member_by m ms t rest others true h = let same : parts_of m.1 ≡ parts_of t = ap parts_of (same_Some m.1 t h) in omega (arith, same)
member_by m ms t rest others false h = let less = others h in omega (arith, less)

member_parts : (name : List ℕ) (ms : List (List ℕ × Ty)) (t : Ty) → member_of name ms ≡ Some t → parts_of t ≤ sum_of_members (counted ms)
member_parts name [] t h = absurd (none-some t h)
member_parts name (m ∷ ms) t h = member_by m ms t (member_of name ms) (member_parts name ms t) (bytes_eq name m.0) h

member_within : (name : List ℕ) (ms : List (List ℕ × Ty)) (t : Ty) → member_of name ms ≡ Some t → is_within (ty.Rec ms) ≡ true → is_within t ≡ true
member_within name ms t h =
    within_from (ty.Rec ms) t
    (let parts = parts_at (ty.Rec ms) (Ty-F.Rec ms) (outs-Rec ms) in let less = member_parts name ms t h in omega (arith, parts, less))

key_within : (k t : Ty) → is_within (ty.Group k t) ≡ true → is_within k ≡ true
key_within k t = within_from (ty.Group k t) k (let parts = parts_at (ty.Group k t) (Ty-F.Group k t) (outs-Group k t) in omega (arith, parts))

items_within : (t : Ty) → is_within (ty.Seq t) ≡ true → is_within t ≡ true
items_within t = within_from (ty.Seq t) t (let parts = parts_at (ty.Seq t) (Ty-F.Seq t) (outs-Seq t) in omega (arith, parts))

-- the sequence of what a sequence or a group gives
element_within : (s t : Ty) (layer : Ty-F Ty) → out-Ty s ≡ layer → element_type layer ≡ Some t → is_within s ≡ true → is_within (ty.Seq t) ≡ true
element_within s t (Ty-F.Seq u) is h =
    within_from s (ty.Seq t)
    (let whole = parts_at s (Ty-F.Seq u) is in let parts = parts_at (ty.Seq t) (Ty-F.Seq t) (outs-Seq t) in let same : parts_of u ≡ parts_of t = ap parts_of (same_Some u t h) in
    omega (arith, whole, parts, same))
element_within s t (Ty-F.Group k u) is h =
    within_from s (ty.Seq t)
    (let whole = parts_at s (Ty-F.Group k u) is in let parts = parts_at (ty.Seq t) (Ty-F.Seq t) (outs-Seq t) in let same : parts_of u ≡ parts_of t = ap parts_of (same_Some u t h) in
    omega (arith, whole, parts, same))
element_within s t layer is h = absurd (none-some t h)

rows_within : (n : ℕ) → is_within (ty.Seq (ty.Row n)) ≡ true
rows_within n =
    ap (λ k. nat_le k 4096) (parts_at (ty.Seq (ty.Row n)) (Ty-F.Seq (ty.Row n)) (outs-Seq (ty.Row n)) ∙ ap (λ k. 1 + k) (parts_at (ty.Row n) (Ty-F.Row n) (outs-Row n)))

-- ---- names

bound_by : (t u : Ty) (rest : Option Ty) → is_within u ≡ true → (rest ≡ Some t → is_within t ≡ true) → (b : Bool) → (if b then Some u else rest) ≡ Some t → is_within t ≡ true
bound_by t u rest within others true h = same_within u t h within
bound_by t u rest within others false h = others h

bound_within : (names : Names) (n : List ℕ) (u : Ty) → AreWithin names → is_within u ≡ true → AreWithin (with_local names n u)
bound_within names n u all within = record {
  locals = λ x t h. bound_by t u (local_type x names.locals) within (all.locals x t) (bytes_eq n x) h;
  session = all.session;
}

-- ---- by the rules

abbrev IsLimited : TypeClaim → Type 0
IsLimited (Has names e t) = AreWithin names → is_within t ≡ true
IsLimited (Gives names e t) = AreWithin names → is_within (ty.Seq t) ≡ true
IsLimited (Members names fields ms) = Unit {0}
IsLimited (Sorts names ks) = Unit {0}
IsLimited (Leads outer c before behind) = AreWithin outer → AreWithin before → AreWithin behind
IsLimited (LeadAll outer cs before behind) = AreWithin outer → AreWithin before → AreWithin behind
IsLimited (Ends names l t) = Unit {0}
IsLimited (BodyGives outer body names t) = is_within (ty.Seq t) ≡ true
IsLimited (Continues outer rest t r) = is_within (ty.Seq t) ≡ true → is_within (ty.Seq r) ≡ true
IsLimited (QueryGives outer q r) = AreWithin outer → is_within (ty.Seq r) ≡ true

limited : {claim : TypeClaim} → IsRight claim → IsLimited claim
limited (rule.of_integer names e n is) = λ all. at_layer ty.Int Ty-F.Int outs-Int refl
limited (rule.of_text names e x is) = λ all. at_layer ty.Str Ty-F.Str outs-Str refl
limited (rule.of_truth names e b is) = λ all. at_layer ty.Bool Ty-F.Bool outs-Bool refl
limited (rule.of_null names e is) = λ all. at_layer ty.Null Ty-F.Null outs-Null refl
limited (rule.of_local names e x t is local) = λ all. all.locals x t local
limited (rule.of_table names e x n is hidden table) = λ all. rows_within n
limited (rule.of_session names e x known is hidden no_table there) = λ all. all.session x known there
limited (rule.of_column names e row c n t is typed column) = λ all. columns_within names.tables n c t column
limited (rule.of_member names e a m members t is typed member) = λ all. member_within m members t member (limited typed all)
limited (rule.of_key names e a k t is typed) = λ all. key_within k t (limited typed all)
limited (rule.of_has_value names e a is typed) = λ all. at_layer ty.Bool Ty-F.Bool outs-Bool refl
limited (rule.of_value names e a is typed) = λ all. at_layer ty.Int Ty-F.Int outs-Int refl
limited (rule.of_length names e a is typed) = λ all. at_layer ty.Int Ty-F.Int outs-Int refl
limited (rule.of_ordering names e a b op s t is orders a_typed s_number b_typed t_number) = λ all. at_layer ty.Bool Ty-F.Bool outs-Bool refl
limited (rule.of_equality names e a b op s t is same a_typed b_typed compares) = λ all. at_layer ty.Bool Ty-F.Bool outs-Bool refl
limited (rule.of_arithmetic names e a b op s t is computes a_typed s_number b_typed t_number) = λ all. number_type_within (out-Ty s) (out-Ty t)
limited (rule.of_joined names e a b s t is a_typed b_typed joins) = λ all. at_layer ty.Str Ty-F.Str outs-Str refl
limited (rule.of_minus names e a t is typed number) = λ all. within_one t (number_one (out-Ty t) number)
limited (rule.of_not names e a is typed) = λ all. at_layer ty.Bool Ty-F.Bool outs-Bool refl
limited (rule.of_both names e a b is left right) = λ all. at_layer ty.Bool Ty-F.Bool outs-Bool refl
limited (rule.of_either names e a b is left right) = λ all. at_layer ty.Bool Ty-F.Bool outs-Bool refl
limited (rule.of_coalesced names e a b s t r is a_typed b_typed gives) = λ all. coalesced_within (out-Ty s) (out-Ty t) r gives
limited (rule.of_choice names e c a b s t r is c_typed a_typed b_typed chooses) = λ all.
    choice_by s t r (out-Ty s) (out-Ty t) refl refl chooses (limited a_typed all) (limited b_typed all)
limited (rule.of_host names e row p columns k n is known typed ints) = λ all. at_layer ty.Bool Ty-F.Bool outs-Bool refl
limited (rule.of_record names e fields members is distinct typed within) = λ all. within
limited (rule.no_member names) = tt
limited (rule.one_member names field fields t members typed placed others) = tt
limited (rule.of_search names e a b m is looks a_typed b_typed) = λ all. at_layer ty.Bool Ty-F.Bool outs-Bool refl
limited (rule.of_simple names e a m arguments method t r is called source gives within) = λ all. within
limited (rule.of_given names e a b m arguments method t u r is called source typed gives within) = λ all. within
limited (rule.of_lambda names e a b m n arguments method t u r is called source fresh typed gives within) = λ all. within
limited (rule.of_query names e q t is gives) = limited gives
limited (rule.enumerated names e s t typed element) = λ all. element_within s t (out-Ty s) refl element (limited typed all)
limited (rule.by_from outer names c n f t is fresh source) = λ around all. bound_within names n t all (items_within t (limited source all))
limited (rule.by_let outer names c n f t is fresh typed placed) = λ around all. bound_within names n t all (limited typed all)
limited (rule.by_where outer names c f is typed) = λ around all. all
limited (rule.by_join outer names c j t k l is fresh source outer_key inner_key are into) = λ around all. bound_within names j.name t all (items_within t (limited source around))
limited (rule.by_join_into outer names c j g t k l is fresh source outer_key inner_key are into new) = λ around all. bound_within names g (ty.Seq t) all (limited source around)
limited (rule.by_orderby outer names c ks is sorts) = λ around all. all
limited (rule.no_key names) = tt
limited (rule.one_key names k ks t typed scalar others) = tt
limited (rule.by_none outer names) = λ around all. all
limited (rule.by_first outer before between behind c cs first others) = λ around all. limited others around (limited first around all)
limited (rule.by_select names l v t is typed placed) = tt
limited (rule.by_group names l v key k t is key_typed is_one typed placed) = tt
limited (rule.by_body outer names behind body t clauses ends within) = within
limited (rule.at_end outer t) = λ within. within
limited (rule.by_into outer next rest t u r fresh body others) = λ within. limited others (limited body)
limited (rule.by_query outer q t u r source fresh body rest) = λ all. limited rest (limited body)

pub limits_types : LimitsTypes
limits_types names all e t typed = limited (expression_sound e names t typed) all

pub limits_items : LimitsItems
limits_items names all q t typed = limited (items_sound names q t typed) all
