-- The functions of `Typing` find the types that the rules give, so that there is one type at most.
use Rattle.std.proofs.Common.{◌≡◌, ◌∷◌, ◌&&◌, if◌then◌else◌, List, [], ℕ, ℤ, Bool, true, false, Option, Some, None, codes, bytes_eq, ap, ap₂, ◌∙◌, sym, refl, subst, option_and_then, option_map, true≢false}
use Rattle.std.proofs.lemmas.Bool.{and_from, and_parts}
use Rattle.std.proofs.lemmas.Option.{none-some, same_Some}
use Rattle.std.proofs.lemmas.Slice.Eq.{bytes_eq-Decides}
use Rattle.lq_value.specs.declared.ty.Ty.{Ty, ind-Ty, map-Ty, out-Ty, roll-Ty}
use Rattle.lq_value.specs.declared.ty.Ty.TheOpen.{Ty-F}
use Rattle.lq_value.specs.declared.ty.Ty.TheVariants as ty
use Rattle.lq_value.specs.declared.ty.Ty.TheVariants.{outs-Bool, outs-Group, outs-Int, outs-IntN, outs-Null, outs-Rec, outs-Row, outs-Seq, outs-Str, rolls-Bool, rolls-Group, rolls-Int, rolls-IntN, rolls-Null, rolls-Rec, rolls-Row, rolls-Seq, rolls-Str}
use Rattle.lq_language.specs.Members.{is_search, sole_argument}
use Rattle.lq_language.specs.Names.{Names, local_type, table_number}
use Rattle.lq_language.specs.OperandTypes.{are_comparable, are_joined, coalesced, is_comparison, is_equality, is_ordering, is_text, is_text_type, joined_type, member_type, of_operands, operated_type, is_bool, is_bool_type, is_number, item_of, binary_type, choice_type, if_number, number_type, result_type, truth_type}
use Rattle.lq_language.specs.RuleTyping.{of_coalesced, of_equality, of_has_value, of_joined, of_length, of_null, of_ordering, of_search, of_text, of_value, of_integer, of_local, of_table, of_column, of_arithmetic, of_minus, of_choice, of_truth, of_not, of_both, of_either, of_host, HasRuleType, name_type, rule_type}
use Rattle.lq_language.specs.RuleTypingLaws.{HasOneRuleType, FindsRuleTypes}
use Rattle.lq_grammar.specs.declared.syntax.Argument.{Argument}
use Rattle.lq_grammar.specs.declared.syntax.Argument.TheVariants as argument
use Rattle.lq_grammar.specs.declared.syntax.Binary.{Binary}
use Rattle.lq_grammar.specs.declared.syntax.Binary.TheVariants as binary
use Rattle.lq_grammar.specs.declared.syntax.Expr.{Expr, ind-Expr, map-Expr, roll-Expr}
use Rattle.lq_grammar.specs.declared.syntax.Expr.TheOpen.{Expr-F}
use Rattle.lq_grammar.specs.declared.syntax.Expr.TheVariants as expr
use Rattle.lq_grammar.specs.declared.syntax.Expr.TheVariants.{rolls-Node}
use Rattle.lq_grammar.specs.declared.syntax.Node.{Node}
use Rattle.lq_grammar.specs.declared.syntax.Node.TheVariants as node
use Rattle.lq_grammar.specs.declared.syntax.Picked.{Picked}
use Rattle.lq_grammar.specs.declared.syntax.Unary.TheVariants as unary
use Rattle.lq_language.proofs.HostTypeLemmas.{host_by, host_found}
use Rattle.lq_language.proofs.MemberLaws.{search_given, search_told}
use Rattle.lq_language.proofs.FormLaws.{argument_type, layer_type, rolled_type, type_binary, type_both, type_choice, type_coalesce, type_either, type_host, type_integer, type_member, type_method, type_minus, type_name, type_not, type_null, type_text, type_truth}

-- ---- a type, by its layer

abbrev pub type_with : Ty-F Ty → Ty
type_with Ty-F.Int = ty.Int
type_with Ty-F.IntN = ty.IntN
type_with Ty-F.Bool = ty.Bool
type_with Ty-F.Str = ty.Str
type_with Ty-F.Null = ty.Null
type_with (Ty-F.Row n) = ty.Row n
type_with (Ty-F.Rec members) = ty.Rec members
type_with (Ty-F.Seq t) = ty.Seq t
type_with (Ty-F.Group k t) = ty.Group k t

abbrev IsOfLayer : Ty → Type 0
IsOfLayer t = t ≡ type_with (out-Ty t)

abbrev Layered : Type 0
Layered = (t : Ty) × IsOfLayer t

of_layer : (x : Ty-F Ty) (y : Ty-F Layered) → map-Ty Layered Ty (λ t. t.0) y ≡ x → IsOfLayer (roll-Ty x)
of_layer Ty-F.Int y h = subst IsOfLayer (sym rolls-Int) (sym (ap type_with outs-Int))
of_layer Ty-F.IntN y h = subst IsOfLayer (sym rolls-IntN) (sym (ap type_with outs-IntN))
of_layer Ty-F.Bool y h = subst IsOfLayer (sym rolls-Bool) (sym (ap type_with outs-Bool))
of_layer Ty-F.Str y h = subst IsOfLayer (sym rolls-Str) (sym (ap type_with outs-Str))
of_layer Ty-F.Null y h = subst IsOfLayer (sym rolls-Null) (sym (ap type_with outs-Null))
of_layer (Ty-F.Row n) y h = subst IsOfLayer (sym (rolls-Row n)) (sym (ap type_with (outs-Row n)))
of_layer (Ty-F.Rec members) y h = subst IsOfLayer (sym (rolls-Rec members)) (sym (ap type_with (outs-Rec members)))
of_layer (Ty-F.Seq t) y h = subst IsOfLayer (sym (rolls-Seq t)) (sym (ap type_with (outs-Seq t)))
of_layer (Ty-F.Group k t) y h = subst IsOfLayer (sym (rolls-Group k t)) (sym (ap type_with (outs-Group k t)))

pub is_of_layer : (t : Ty) → t ≡ type_with (out-Ty t)
is_of_layer t = ind-Ty IsOfLayer of_layer t

item_layer : (layer : Ty-F Ty) (item : Ty) → item_of layer ≡ Some item → type_with layer ≡ ty.Seq item
item_layer (Ty-F.Seq t) item h = ap ty.Seq (same_Some t item h)
item_layer layer item h = absurd (none-some item h)

bool_layer : (layer : Ty-F Ty) → is_bool layer ≡ true → type_with layer ≡ ty.Bool
bool_layer Ty-F.Bool h = refl
bool_layer layer h = absurd (true≢false (sym h))

text_layer : (layer : Ty-F Ty) → is_text layer ≡ true → type_with layer ≡ ty.Str
text_layer Ty-F.Str h = refl
text_layer layer h = absurd (true≢false (sym h))

is_sequence : (t item : Ty) → item_of (out-Ty t) ≡ Some item → t ≡ ty.Seq item
is_sequence t item h = is_of_layer t ∙ item_layer (out-Ty t) item h

pub is_truth : (t : Ty) → is_bool (out-Ty t) ≡ true → t ≡ ty.Bool
is_truth t h = is_of_layer t ∙ bool_layer (out-Ty t) h

pub is_text_of : (t : Ty) → is_text (out-Ty t) ≡ true → t ≡ ty.Str
is_text_of t h = is_of_layer t ∙ text_layer (out-Ty t) h

-- ---- what the rules give is found

-- an operator asks for the order of its operands, or whether they are the same, or computes

pub orders_alone : (op : Binary) → is_ordering op ≡ true → is_equality op ≡ false
orders_alone binary.Equal h = absurd (true≢false (sym h))
orders_alone binary.NotEqual h = absurd (true≢false (sym h))
orders_alone op h = refl

pub computes_alone : (op : Binary) → is_comparison op ≡ false → (is_equality op ≡ false) × (is_ordering op ≡ false)
computes_alone binary.Equal h = absurd (true≢false h)
computes_alone binary.NotEqual h = absurd (true≢false h)
computes_alone binary.Less h = absurd (true≢false h)
computes_alone binary.Greater h = absurd (true≢false h)
computes_alone binary.LessOrEqual h = absurd (true≢false h)
computes_alone binary.GreaterOrEqual h = absurd (true≢false h)
computes_alone op h = (refl, refl)

pub compares_not : (op : Binary) → is_equality op ≡ false → is_ordering op ≡ false → is_comparison op ≡ false
compares_not binary.Equal same orders = same
compares_not binary.NotEqual same orders = same
compares_not binary.Less same orders = orders
compares_not binary.Greater same orders = orders
compares_not binary.LessOrEqual same orders = orders
compares_not binary.GreaterOrEqual same orders = orders
compares_not op same orders = refl

pub numbers_compute : (op : Binary) (s t : Ty-F Ty) → is_equality op ≡ false → is_number s ≡ true → is_number t ≡ true → operated_type op s t ≡ Some (result_type op s t)
numbers_compute op s t other s_number t_number = rw (other, s_number, t_number) refl

pub joined_found : (s t : Ty-F Ty) → are_joined s t ≡ true → operated_type binary.Add s t ≡ Some ty.Str
joined_found Ty-F.Str Ty-F.Str h = refl
joined_found Ty-F.Str Ty-F.Null h = refl
joined_found Ty-F.Null Ty-F.Str h = refl
joined_found s t h = absurd (true≢false (sym h))

-- the member of what has this type
abbrev type_at_member : Names → List ℕ → Option Ty → Option Ty
type_at_member names m a = option_and_then (λ t. member_type names m (out-Ty t)) a

abbrev expression_type : Names → Expr → Option Ty
expression_type names e = rule_type e names

condition_complete : (names : Names) (x : Expr) → rule_type x names ≡ Some ty.Bool → is_bool_type (rule_type x names) ≡ true
condition_complete names x typed = ap is_bool_type typed ∙ ap is_bool outs-Bool

text_complete : (names : Names) (x : Expr) → rule_type x names ≡ Some ty.Str → is_text_type (rule_type x names) ≡ true
text_complete names x typed = ap is_text_type typed ∙ ap is_text outs-Str

search_complete : (names : Names) (a b : Expr) (m : List ℕ) → is_search m ≡ true → rule_type a names ≡ Some ty.Str → rule_type b names ≡ Some ty.Str
    → (is_search m && is_text_type (rule_type a names) && is_text_type (rule_type b names)) ≡ true
search_complete names a b m looks left right =
    and_from (is_search m && is_text_type (rule_type a names)) _ (and_from (is_search m) _ looks (text_complete names a left)) (text_complete names b right)

-- an operator whose operands have types
binary_complete : (names : Names) (op : Binary) (a b : Expr) (s t : Ty) → rule_type a names ≡ Some s → rule_type b names ≡ Some t
    → rule_type (expr.Node (node.Binary op a b)) names ≡ operated_type op (out-Ty s) (out-Ty t)
binary_complete names op a b s t left right = type_binary op a b names ∙ ap₂ (binary_type op) left right

both_truths : (names : Names) (a b : Expr) → rule_type a names ≡ Some ty.Bool → rule_type b names ≡ Some ty.Bool
    → truth_type (is_bool_type (rule_type a names) && is_bool_type (rule_type b names)) ≡ Some ty.Bool
both_truths names a b left right = ap₂ (λ (x y : Bool). truth_type (x && y)) (condition_complete names a left) (condition_complete names b right)

found : {names : Names} {e : Expr} {t : Ty} → HasRuleType names e t → rule_type e names ≡ Some t
found (of_integer names _ n is) = ap (expression_type names) is ∙ type_integer n names
found (of_local names _ x _ is local) = ap (expression_type names) is ∙ type_name x names ∙ ap (name_type names x) local
found (of_table names _ x n is hidden table) =
    ap (expression_type names) is ∙ type_name x names ∙ ap (name_type names x) hidden ∙ ap (λ (o : Option ℕ). option_map (λ m. ty.Seq (ty.Row m)) o) table
found (of_column names _ row c n _ is row_typed column) =
    ap (expression_type names) is ∙ type_member row c names
    ∙ ap (type_at_member names c) (found row_typed)
    ∙ ap (member_type names c) (outs-Row n)
    ∙ column
found (of_text names _ x is) = ap (expression_type names) is ∙ type_text x names
found (of_null names _ is) = ap (expression_type names) is ∙ type_null names
found (of_has_value names _ a is typed) =
    ap (expression_type names) is ∙ type_member a (codes "HasValue") names
    ∙ ap (type_at_member names (codes "HasValue")) (found typed)
    ∙ ap (member_type names (codes "HasValue")) outs-IntN
found (of_value names _ a is typed) =
    ap (expression_type names) is ∙ type_member a (codes "Value") names
    ∙ ap (type_at_member names (codes "Value")) (found typed)
    ∙ ap (member_type names (codes "Value")) outs-IntN
found (of_length names _ a is typed) =
    ap (expression_type names) is ∙ type_member a (codes "Length") names
    ∙ ap (type_at_member names (codes "Length")) (found typed)
    ∙ ap (member_type names (codes "Length")) outs-Str
found (of_search names _ a b m is looks a_typed b_typed) =
    ap (expression_type names) is ∙ type_method a m (argument.Value b ∷ []) names
    ∙ ap truth_type (search_complete names a b m (search_told looks) (found a_typed) (found b_typed))
found (of_ordering names _ a b op s t is orders a_typed s_number b_typed t_number) =
    ap (expression_type names) is ∙ binary_complete names op a b s t (found a_typed) (found b_typed)
    ∙ numbers_compute op (out-Ty s) (out-Ty t) (orders_alone op orders) s_number t_number
    ∙ ap (λ (c : Bool). Some (if c then ty.Bool else number_type (out-Ty s) (out-Ty t))) orders
found (of_equality names _ a b op s t is compares a_typed b_typed comparable) =
    ap (expression_type names) is ∙ binary_complete names op a b s t (found a_typed) (found b_typed)
    ∙ rw (compares, comparable) refl
found (of_arithmetic names _ a b op s t is computes a_typed s_number b_typed t_number) =
    ap (expression_type names) is ∙ binary_complete names op a b s t (found a_typed) (found b_typed)
    ∙ numbers_compute op (out-Ty s) (out-Ty t) (computes_alone op computes).0 s_number t_number
    ∙ ap (λ (c : Bool). Some (if c then ty.Bool else number_type (out-Ty s) (out-Ty t))) (computes_alone op computes).1
found (of_joined names _ a b s t is a_typed b_typed joins) =
    ap (expression_type names) is ∙ binary_complete names binary.Add a b s t (found a_typed) (found b_typed) ∙ joined_found (out-Ty s) (out-Ty t) joins
found (of_minus names _ a t is typed number) =
    ap (expression_type names) is ∙ type_minus a names ∙ ap if_number (found typed) ∙ ap (λ (c : Bool). if c then Some t else None) number
found (of_truth names _ b is) = ap (expression_type names) is ∙ type_truth b names
found (of_not names _ a is typed) = ap (expression_type names) is ∙ type_not a names ∙ ap truth_type (condition_complete names a (found typed))
found (of_both names _ a b is left right) = ap (expression_type names) is ∙ type_both a b names ∙ both_truths names a b (found left) (found right)
found (of_either names _ a b is left right) = ap (expression_type names) is ∙ type_either a b names ∙ both_truths names a b (found left) (found right)
found (of_coalesced names _ a b s t r is a_typed b_typed gives) =
    ap (expression_type names) is ∙ type_coalesce a b names ∙ ap₂ (of_operands coalesced) (found a_typed) (found b_typed) ∙ gives
found (of_choice names _ c a b s t r is c_typed a_typed b_typed chooses) =
    ap (expression_type names) is ∙ type_choice c a b names
    ∙ (λ i. choice_type (condition_complete names c (found c_typed) i) (found a_typed i) (found b_typed i))
    ∙ chooses
found (of_host names _ row p columns k n is known typed ints) =
    ap (expression_type names) is ∙ type_host p row columns names ∙ host_found names p columns k n (rule_type row names) known (found typed) ints

pub type_complete : (names : Names) {e : Expr} {t : Ty} → HasRuleType names e t → rule_type e names ≡ Some t
type_complete names typed = found typed

-- ---- what is found is what the rules give

abbrev IsSound : Expr → Type 0
IsSound e = (names : Names) (t : Ty) → rule_type e names ≡ Some t → HasRuleType names e t

sound_integer : (n : ℤ) → IsSound (expr.Node (node.Integer n))
sound_integer n names t h =
    subst (HasRuleType names (expr.Node (node.Integer n))) (same_Some ty.Int t (sym (type_integer n names) ∙ h)) (of_integer names (expr.Node (node.Integer n)) n refl)

sound_table : (x : List ℕ) (names : Names) (t : Ty) → local_type x names.locals ≡ None → (o : Option ℕ) → table_number x names.tables ≡ o
    → option_map (λ n. ty.Seq (ty.Row n)) o ≡ Some t → HasRuleType names (expr.Node (node.Name x)) t
sound_table x names t hidden None is h = absurd (none-some t h)
sound_table x names t hidden (Some n) is h =
    subst (HasRuleType names (expr.Node (node.Name x))) (same_Some (ty.Seq (ty.Row n)) t h) (of_table names (expr.Node (node.Name x)) x n refl hidden is)

sound_local : (x : List ℕ) (names : Names) (t : Ty) (o : Option Ty) → local_type x names.locals ≡ o → name_type names x o ≡ Some t → HasRuleType names (expr.Node (node.Name x)) t
sound_local x names t None is h = sound_table x names t is (table_number x names.tables) refl h
sound_local x names t (Some s) is h = of_local names (expr.Node (node.Name x)) x t refl (is ∙ h)

sound_name : (x : List ℕ) → IsSound (expr.Node (node.Name x))
sound_name x names t h = sound_local x names t (local_type x names.locals) refl (sym (type_name x names) ∙ h)

sound_text : (x : List ℕ) → IsSound (expr.Node (node.Text x))
sound_text x names t h =
    subst (HasRuleType names (expr.Node (node.Text x))) (same_Some ty.Str t (sym (type_text x names) ∙ h)) (of_text names (expr.Node (node.Text x)) x refl)

sound_null : IsSound (expr.Node node.Null)
sound_null names t h = subst (HasRuleType names (expr.Node node.Null)) (same_Some ty.Null t (sym (type_null names) ∙ h)) (of_null names (expr.Node node.Null) refl)

-- the same member by another name that is the same
pub named : (a : Expr) (m n : List ℕ) → bytes_eq m n ≡ true → expr.Node (node.Member a m) ≡ expr.Node (node.Member a n)
named a m n same = ap (λ (k : List ℕ). expr.Node (node.Member a k)) ((bytes_eq-Decides m n).0 same)

module _ (names : Names) (a : Expr) (m : List ℕ) (t : Ty) where
  -- a member of an int?
  value_sound_by : HasRuleType names a ty.IntN → (b : Bool) → bytes_eq m (codes "Value") ≡ b → (if b then Some ty.Int else None) ≡ Some t → HasRuleType names (expr.Node (node.Member a m)) t
  value_sound_by typed true same h = subst (HasRuleType names (expr.Node (node.Member a m))) (same_Some ty.Int t h) (of_value names (expr.Node (node.Member a m)) a (named a m (codes "Value") same) typed)
  value_sound_by typed false same h = absurd (none-some t h)

  has_value_sound_by : HasRuleType names a ty.IntN → (b : Bool) → bytes_eq m (codes "HasValue") ≡ b
      → (if b then Some ty.Bool else (if bytes_eq m (codes "Value") then Some ty.Int else None)) ≡ Some t → HasRuleType names (expr.Node (node.Member a m)) t
  has_value_sound_by typed true same h =
      subst (HasRuleType names (expr.Node (node.Member a m))) (same_Some ty.Bool t h) (of_has_value names (expr.Node (node.Member a m)) a (named a m (codes "HasValue") same) typed)
  has_value_sound_by typed false same h = value_sound_by typed (bytes_eq m (codes "Value")) refl h

  -- a member of a text
  length_sound_by : HasRuleType names a ty.Str → (b : Bool) → bytes_eq m (codes "Length") ≡ b → (if b then Some ty.Int else None) ≡ Some t → HasRuleType names (expr.Node (node.Member a m)) t
  length_sound_by typed true same h =
      subst (HasRuleType names (expr.Node (node.Member a m))) (same_Some ty.Int t h) (of_length names (expr.Node (node.Member a m)) a (named a m (codes "Length") same) typed)
  length_sound_by typed false same h = absurd (none-some t h)

  -- by the layer of what it is a member of
  member_sound_by : (layer : Ty-F Ty) → HasRuleType names a (type_with layer) → member_type names m layer ≡ Some t → HasRuleType names (expr.Node (node.Member a m)) t
  member_sound_by (Ty-F.Row n) typed h = of_column names (expr.Node (node.Member a m)) a m n t refl typed h
  member_sound_by Ty-F.IntN typed h = has_value_sound_by typed (bytes_eq m (codes "HasValue")) refl h
  member_sound_by Ty-F.Str typed h = length_sound_by typed (bytes_eq m (codes "Length")) refl h
  member_sound_by layer typed h = absurd (none-some t h)

sound_member_by : (a : Expr) (m : List ℕ) → IsSound a → (names : Names) (t : Ty) (o : Option Ty) → rule_type a names ≡ o
    → type_at_member names m o ≡ Some t → HasRuleType names (expr.Node (node.Member a m)) t
sound_member_by a m sound names t None is h = absurd (none-some t h)
sound_member_by a m sound names t (Some s) is h = member_sound_by names a m t (out-Ty s) (subst (HasRuleType names a) (is_of_layer s) (sound names s is)) h

sound_member : (a : Expr) (m : List ℕ) → IsSound a → IsSound (expr.Node (node.Member a m))
sound_member a m sound names t h = sound_member_by a m sound names t (rule_type a names) refl (sym (type_member a m names) ∙ h)

module _ (op : Binary) (a b : Expr) (names : Names) (r s t : Ty) (a_typed : HasRuleType names a r) (b_typed : HasRuleType names b s) where
  -- the rule for numbers, by whether the operator asks for their order
  sound_result : is_equality op ≡ false → is_number (out-Ty r) ≡ true → is_number (out-Ty s) ≡ true → (c : Bool) → is_ordering op ≡ c
      → HasRuleType names (expr.Node (node.Binary op a b)) (if c then ty.Bool else number_type (out-Ty r) (out-Ty s))
  sound_result other r_is s_is true orders = of_ordering names (expr.Node (node.Binary op a b)) a b op r s refl orders a_typed r_is b_typed s_is
  sound_result other r_is s_is false computes =
      of_arithmetic names (expr.Node (node.Binary op a b)) a b op r s refl (compares_not op other computes) a_typed r_is b_typed s_is

  sound_equality : is_equality op ≡ true → (c : Bool) → are_comparable (out-Ty r) (out-Ty s) ≡ c → truth_type c ≡ Some t → HasRuleType names (expr.Node (node.Binary op a b)) t
  sound_equality same true comparable h =
      subst (HasRuleType names (expr.Node (node.Binary op a b))) (same_Some ty.Bool t h) (of_equality names (expr.Node (node.Binary op a b)) a b op r s refl same a_typed b_typed comparable)
  sound_equality same false comparable h = absurd (none-some t h)

sound_joined_by : (a b : Expr) (names : Names) (r s t : Ty) → HasRuleType names a r → HasRuleType names b s → (c : Bool) → are_joined (out-Ty r) (out-Ty s) ≡ c
    → (if c then Some ty.Str else None) ≡ Some t → HasRuleType names (expr.Node (node.Binary binary.Add a b)) t
sound_joined_by a b names r s t a_typed b_typed true joins h =
    subst (HasRuleType names (expr.Node (node.Binary binary.Add a b))) (same_Some ty.Str t h) (of_joined names (expr.Node (node.Binary binary.Add a b)) a b r s refl a_typed b_typed joins)
sound_joined_by a b names r s t a_typed b_typed false joins h = absurd (none-some t h)

sound_joined : (op : Binary) (a b : Expr) (names : Names) (r s t : Ty) → HasRuleType names a r → HasRuleType names b s → joined_type op (out-Ty r) (out-Ty s) ≡ Some t
    → HasRuleType names (expr.Node (node.Binary op a b)) t
sound_joined binary.Add a b names r s t a_typed b_typed h = sound_joined_by a b names r s t a_typed b_typed (are_joined (out-Ty r) (out-Ty s)) refl h
sound_joined op a b names r s t a_typed b_typed h = absurd (none-some t h)

sound_numbers : (op : Binary) (a b : Expr) (names : Names) (r s t : Ty) → HasRuleType names a r → HasRuleType names b s → is_equality op ≡ false → (n : Bool)
    → (is_number (out-Ty r) && is_number (out-Ty s)) ≡ n
    → (if n then Some (result_type op (out-Ty r) (out-Ty s)) else joined_type op (out-Ty r) (out-Ty s)) ≡ Some t → HasRuleType names (expr.Node (node.Binary op a b)) t
sound_numbers op a b names r s t a_typed b_typed other true numbers h =
    let parts = and_parts (is_number (out-Ty r)) _ numbers in
    subst (HasRuleType names (expr.Node (node.Binary op a b))) (same_Some (result_type op (out-Ty r) (out-Ty s)) t h)
    (sound_result op a b names r s t a_typed b_typed other parts.0 parts.1 (is_ordering op) refl)
sound_numbers op a b names r s t a_typed b_typed other false numbers h = sound_joined op a b names r s t a_typed b_typed h

sound_operated : (op : Binary) (a b : Expr) (names : Names) (r s t : Ty) → HasRuleType names a r → HasRuleType names b s → (e : Bool) → is_equality op ≡ e
    → (if e then truth_type (are_comparable (out-Ty r) (out-Ty s))
    else (if is_number (out-Ty r) && is_number (out-Ty s) then Some (result_type op (out-Ty r) (out-Ty s)) else joined_type op (out-Ty r) (out-Ty s))) ≡ Some t
    → HasRuleType names (expr.Node (node.Binary op a b)) t
sound_operated op a b names r s t a_typed b_typed true same h = sound_equality op a b names r s t a_typed b_typed same (are_comparable (out-Ty r) (out-Ty s)) refl h
sound_operated op a b names r s t a_typed b_typed false other h = sound_numbers op a b names r s t a_typed b_typed other (is_number (out-Ty r) && is_number (out-Ty s)) refl h

sound_binary_by : (op : Binary) (a b : Expr) → IsSound a → IsSound b → (names : Names) (t : Ty) (o p : Option Ty) → rule_type a names ≡ o → rule_type b names ≡ p
    → binary_type op o p ≡ Some t → HasRuleType names (expr.Node (node.Binary op a b)) t
sound_binary_by op a b a_sound b_sound names t None p a_is b_is h = absurd (none-some t h)
sound_binary_by op a b a_sound b_sound names t (Some r) None a_is b_is h = absurd (none-some t h)
sound_binary_by op a b a_sound b_sound names t (Some r) (Some s) a_is b_is h =
    sound_operated op a b names r s t (a_sound names r a_is) (b_sound names s b_is) (is_equality op) refl h

sound_binary : (op : Binary) (a b : Expr) → IsSound a → IsSound b → IsSound (expr.Node (node.Binary op a b))
sound_binary op a b a_sound b_sound names t h =
    sound_binary_by op a b a_sound b_sound names t (rule_type a names) (rule_type b names) refl refl (sym (type_binary op a b names) ∙ h)

sound_coalesced_by : (a b : Expr) → IsSound a → IsSound b → (names : Names) (r : Ty) (o p : Option Ty) → rule_type a names ≡ o → rule_type b names ≡ p
    → of_operands coalesced o p ≡ Some r → HasRuleType names (expr.Node (node.Coalesce a b)) r
sound_coalesced_by a b a_sound b_sound names r (Some s) (Some t) a_is b_is h =
    of_coalesced names (expr.Node (node.Coalesce a b)) a b s t r refl (a_sound names s a_is) (b_sound names t b_is) h
sound_coalesced_by a b a_sound b_sound names r (Some s) None a_is b_is h = absurd (none-some r h)
sound_coalesced_by a b a_sound b_sound names r None p a_is b_is h = absurd (none-some r h)

sound_coalesced : (a b : Expr) → IsSound a → IsSound b → IsSound (expr.Node (node.Coalesce a b))
sound_coalesced a b a_sound b_sound names r h =
    sound_coalesced_by a b a_sound b_sound names r (rule_type a names) (rule_type b names) refl refl (sym (type_coalesce a b names) ∙ h)

sound_negative : (a : Expr) (names : Names) (s t : Ty) → HasRuleType names a s → (b : Bool) → is_number (out-Ty s) ≡ b → (if b then Some s else None) ≡ Some t
    → HasRuleType names (expr.Node (node.Unary unary.Minus a)) t
sound_negative a names s t typed true number h =
    subst (HasRuleType names (expr.Node (node.Unary unary.Minus a))) (same_Some s t h) (of_minus names (expr.Node (node.Unary unary.Minus a)) a s refl typed number)
sound_negative a names s t typed false number h = absurd (none-some t h)

sound_minus_by : (a : Expr) → IsSound a → (names : Names) (t : Ty) (o : Option Ty) → rule_type a names ≡ o → if_number o ≡ Some t → HasRuleType names (expr.Node (node.Unary unary.Minus a)) t
sound_minus_by a sound names t None is h = absurd (none-some t h)
sound_minus_by a sound names t (Some s) is h = sound_negative a names s t (sound names s is) (is_number (out-Ty s)) refl h

sound_minus : (a : Expr) → IsSound a → IsSound (expr.Node (node.Unary unary.Minus a))
sound_minus a sound names t h = sound_minus_by a sound names t (rule_type a names) refl (sym (type_minus a names) ∙ h)

condition_sound_by : (names : Names) (c : Expr) → IsSound c → (o : Option Ty) → rule_type c names ≡ o → is_bool_type o ≡ true → HasRuleType names c ty.Bool
condition_sound_by names c sound None is h = absurd (true≢false (sym h))
condition_sound_by names c sound (Some t) is h = subst (HasRuleType names c) (is_truth t h) (sound names t is)

-- an expression that has the type of truth values where the function finds it
condition_of : (c : Expr) → IsSound c → (names : Names) → is_bool_type (rule_type c names) ≡ true → HasRuleType names c ty.Bool
condition_of c sound names h = condition_sound_by names c sound (rule_type c names) refl h

text_sound_by : (names : Names) (x : Expr) → IsSound x → (o : Option Ty) → rule_type x names ≡ o → is_text_type o ≡ true → HasRuleType names x ty.Str
text_sound_by names x sound None is h = absurd (true≢false (sym h))
text_sound_by names x sound (Some t) is h = subst (HasRuleType names x) (is_text_of t h) (sound names t is)

-- an expression that has the type of texts where the function finds it
text_of : (x : Expr) → IsSound x → (names : Names) → is_text_type (rule_type x names) ≡ true → HasRuleType names x ty.Str
text_of x sound names h = text_sound_by names x sound (rule_type x names) refl h

sound_search : (a b : Expr) (m : List ℕ) → IsSound a → IsSound b → IsSound (expr.Node (node.Method a m (argument.Value b ∷ [])))
sound_search a b m a_sound b_sound names t h = by _ refl (sym (type_method a m (argument.Value b ∷ []) names) ∙ h) where
  by : (c : Bool) → (is_search m && is_text_type (rule_type a names) && is_text_type (rule_type b names)) ≡ c → truth_type c ≡ Some t
      → HasRuleType names (expr.Node (node.Method a m (argument.Value b ∷ []))) t
  by true is found =
      let outer = and_parts (is_search m && is_text_type (rule_type a names)) _ is in
      let inner = and_parts (is_search m) _ outer.0 in
      subst (HasRuleType names (expr.Node (node.Method a m (argument.Value b ∷ [])))) (same_Some ty.Bool t found)
      (of_search names (expr.Node (node.Method a m (argument.Value b ∷ []))) a b m refl (search_given m inner.0) (text_of a a_sound names inner.1) (text_of b b_sound names outer.1))
  by false is found = absurd (none-some t found)

-- a method that takes another number of arguments, or a lambda, by its form
sound_other : (a : Expr) (m : List ℕ) (xs : List (Argument Expr)) → sole_argument xs ≡ None → IsSound (expr.Node (node.Method a m xs))
sound_other a m xs none names t h =
    by _ refl (sym (ap (λ (x : Option Expr). truth_type (is_search m && is_text_type (rule_type a names) && is_text_type (argument_type x names))) none)
    ∙ sym (type_method a m xs names) ∙ h) where
      by : (c : Bool) → (is_search m && is_text_type (rule_type a names)) ≡ c → truth_type (c && false) ≡ Some t → HasRuleType names (expr.Node (node.Method a m xs)) t
      by true is found = absurd (none-some t found)
      by false is found = absurd (none-some t found)

sound_truth : (b : Bool) → IsSound (expr.Node (node.Bool b))
sound_truth b names t h =
    subst (HasRuleType names (expr.Node (node.Bool b))) (same_Some ty.Bool t (sym (type_truth b names) ∙ h)) (of_truth names (expr.Node (node.Bool b)) b refl)

sound_not : (a : Expr) → IsSound a → IsSound (expr.Node (node.Unary unary.Not a))
sound_not a sound names t h = by (is_bool_type (rule_type a names)) refl (sym (type_not a names) ∙ h) where
  by : (c : Bool) → is_bool_type (rule_type a names) ≡ c → truth_type c ≡ Some t → HasRuleType names (expr.Node (node.Unary unary.Not a)) t
  by true is found = subst (HasRuleType names (expr.Node (node.Unary unary.Not a))) (same_Some ty.Bool t found) (of_not names (expr.Node (node.Unary unary.Not a)) a refl (condition_of a sound names is))
  by false is found = absurd (none-some t found)

-- two truth values under an operator
truths_by : (names : Names) (e a b : Expr) (t : Ty) → IsSound a → IsSound b → (HasRuleType names a ty.Bool → HasRuleType names b ty.Bool → HasRuleType names e ty.Bool) → (c d : Bool)
    → is_bool_type (rule_type a names) ≡ c → is_bool_type (rule_type b names) ≡ d → truth_type (c && d) ≡ Some t → HasRuleType names e t
truths_by names e a b t a_sound b_sound rule true true a_is b_is found =
    subst (HasRuleType names e) (same_Some ty.Bool t found) (rule (condition_of a a_sound names a_is) (condition_of b b_sound names b_is))
truths_by names e a b t a_sound b_sound rule true false a_is b_is found = absurd (none-some t found)
truths_by names e a b t a_sound b_sound rule false d a_is b_is found = absurd (none-some t found)

sound_both : (a b : Expr) → IsSound a → IsSound b → IsSound (expr.Node (node.And a b))
sound_both a b a_sound b_sound names t h =
    truths_by names (expr.Node (node.And a b)) a b t a_sound b_sound (of_both names (expr.Node (node.And a b)) a b refl) _ _ refl refl (sym (type_both a b names) ∙ h)

sound_either : (a b : Expr) → IsSound a → IsSound b → IsSound (expr.Node (node.Or a b))
sound_either a b a_sound b_sound names t h =
    truths_by names (expr.Node (node.Or a b)) a b t a_sound b_sound (of_either names (expr.Node (node.Or a b)) a b refl) _ _ refl refl (sym (type_either a b names) ∙ h)

sound_choice_by : (c a b : Expr) → IsSound c → IsSound a → IsSound b → (names : Names) (r : Ty) (x : Bool) (o p : Option Ty) → is_bool_type (rule_type c names) ≡ x
    → rule_type a names ≡ o → rule_type b names ≡ p → choice_type x o p ≡ Some r → HasRuleType names (expr.Node (node.Conditional c a b)) r
sound_choice_by c a b c_sound a_sound b_sound names r true (Some s) (Some t) x_is a_is b_is h =
    of_choice names (expr.Node (node.Conditional c a b)) c a b s t r refl (condition_of c c_sound names x_is) (a_sound names s a_is) (b_sound names t b_is) h
sound_choice_by c a b c_sound a_sound b_sound names r true (Some s) None x_is a_is b_is h = absurd (none-some r h)
sound_choice_by c a b c_sound a_sound b_sound names r true None p x_is a_is b_is h = absurd (none-some r h)
sound_choice_by c a b c_sound a_sound b_sound names r false o p x_is a_is b_is h = absurd (none-some r h)

sound_choice : (c a b : Expr) → IsSound c → IsSound a → IsSound b → IsSound (expr.Node (node.Conditional c a b))
sound_choice c a b c_sound a_sound b_sound names r h =
    sound_choice_by c a b c_sound a_sound b_sound names r (is_bool_type (rule_type c names)) (rule_type a names) (rule_type b names) refl refl refl (sym (type_choice c a b names) ∙ h)

sound_host : (p : List ℕ) (row : Expr) (columns : Picked) → IsSound row → IsSound (expr.Node (node.Host p row columns))
sound_host p row columns sound names t h =
    host_by names p columns (rule_type row names) t (sym (type_host p row columns names) ∙ h)
    (λ k n known typed ints same. subst (HasRuleType names (expr.Node (node.Host p row columns))) same
    (of_host names (expr.Node (node.Host p row columns)) row p columns k n refl known (sound names (ty.Row n) typed) ints))

-- a layer to which no rule gives a type
no_type : (layer : Expr-F Expr) → ((names : Names) → layer_type layer names ≡ None) → IsSound (roll-Expr layer)
no_type layer none names t h =
    absurd (none-some t (sym (none names) ∙ sym (rolled_type layer names) ∙ h))

abbrev Both : Type 0
Both = (e : Expr) × IsSound e

-- a node, as the induction has it
sound_node : (x : Expr-F Expr) (n : Node Expr) → Expr-F.Node n ≡ x → IsSound (expr.Node n) → IsSound (roll-Expr x)
sound_node x n h sound = subst (λ d. IsSound (roll-Expr d)) h (subst IsSound (sym (rolls-Node n)) sound)

sound_layer : (x : Expr-F Expr) (y : Expr-F Both) → map-Expr Both Expr (λ e. e.0) y ≡ x → IsSound (roll-Expr x)
sound_layer x (Expr-F.Node (node.Integer n)) h = sound_node x (node.Integer n) h (sound_integer n)
sound_layer x (Expr-F.Node (node.Name s)) h = sound_node x (node.Name s) h (sound_name s)
sound_layer x (Expr-F.Node (node.Text s)) h = sound_node x (node.Text s) h (sound_text s)
sound_layer x (Expr-F.Node node.Null) h = sound_node x node.Null h sound_null
sound_layer x (Expr-F.Node (node.Member a m)) h = sound_node x (node.Member a.0 m) h (sound_member a.0 m a.1)
sound_layer x (Expr-F.Node (node.Method a m [])) h = sound_node x (node.Method a.0 m []) h (sound_other a.0 m [] refl)
sound_layer x (Expr-F.Node (node.Method a m (argument.Value b ∷ []))) h =
    sound_node x (node.Method a.0 m (argument.Value b.0 ∷ [])) h (sound_search a.0 b.0 m a.1 b.1)
sound_layer x (Expr-F.Node (node.Method a m (argument.Lambda s b ∷ []))) h =
    sound_node x (node.Method a.0 m (argument.Lambda s b.0 ∷ [])) h (sound_other a.0 m (argument.Lambda s b.0 ∷ []) refl)
sound_layer x (Expr-F.Node (node.Method a m (argument.Value b ∷ c ∷ xs))) h = sound_node x (node.Method a.0 m _) h (sound_other a.0 m _ refl)
sound_layer x (Expr-F.Node (node.Method a m (argument.Lambda s b ∷ c ∷ xs))) h = sound_node x (node.Method a.0 m _) h (sound_other a.0 m _ refl)
sound_layer x (Expr-F.Node (node.Binary op a b)) h = sound_node x (node.Binary op a.0 b.0) h (sound_binary op a.0 b.0 a.1 b.1)
sound_layer x (Expr-F.Node (node.Bool b)) h = sound_node x (node.Bool b) h (sound_truth b)
sound_layer x (Expr-F.Node (node.Unary unary.Minus a)) h = sound_node x (node.Unary unary.Minus a.0) h (sound_minus a.0 a.1)
sound_layer x (Expr-F.Node (node.Unary unary.Not a)) h = sound_node x (node.Unary unary.Not a.0) h (sound_not a.0 a.1)
sound_layer x (Expr-F.Node (node.And a b)) h = sound_node x (node.And a.0 b.0) h (sound_both a.0 b.0 a.1 b.1)
sound_layer x (Expr-F.Node (node.Or a b)) h = sound_node x (node.Or a.0 b.0) h (sound_either a.0 b.0 a.1 b.1)
sound_layer x (Expr-F.Node (node.Coalesce a b)) h = sound_node x (node.Coalesce a.0 b.0) h (sound_coalesced a.0 b.0 a.1 b.1)
sound_layer x (Expr-F.Node (node.Conditional c a b)) h = sound_node x (node.Conditional c.0 a.0 b.0) h (sound_choice c.0 a.0 b.0 c.1 a.1 b.1)
sound_layer x (Expr-F.Node (node.Host p row columns)) h = sound_node x (node.Host p row.0 columns) h (sound_host p row.0 columns row.1)
sound_layer x (Expr-F.Node other) h = subst (λ d. IsSound (roll-Expr d)) h (no_type (map-Expr Both Expr (λ e. e.0) (Expr-F.Node other)) (λ names. refl))
sound_layer x (Expr-F.Query q) h = subst (λ d. IsSound (roll-Expr d)) h (no_type (map-Expr Both Expr (λ e. e.0) (Expr-F.Query q)) (λ names. refl))

pub type_sound : (e : Expr) (names : Names) (t : Ty) → rule_type e names ≡ Some t → HasRuleType names e t
type_sound e = ind-Expr IsSound sound_layer e

-- ---- the laws

pub one_expression_type : HasOneRuleType
one_expression_type names e s t left right = same_Some s t (sym (type_complete names left) ∙ type_complete names right)

pub type_found : FindsRuleTypes
type_found names e t = (type_sound e names t, type_complete names)
