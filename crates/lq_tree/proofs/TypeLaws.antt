-- A node has a tree exactly where it has a type, and the tree's type is that, if the same is so of the expressions in it.
use Rattle.std.proofs.Common.{arith, ◌≡◌, ◌∷◌, ◌+◌, ◌&&◌, ◌||◌, if◌then◌else◌, List, [], map, ℕ, suc, Bool, true, false, Option, Some, None, ap, ap₂, ◌∙◌, sym, refl, subst, bytes_eq, codes, option_and_then, option_map, slice_get}
use Rattle.std.proofs.lemmas.Option.{none-some, same_Some}
use Rattle.std.specs.List.{position_from}
use Rattle.std.specs.Prelude.{is_some}
use Rattle.lq_value.specs.declared.table.Column.{Column}
use Rattle.lq_value.specs.declared.table.Schema.{Schema}
use Rattle.lq_value.specs.declared.ty.Ty.{Ty, out-Ty}
use Rattle.lq_value.specs.declared.ty.Ty.TheOpen.{Ty-F}
use Rattle.lq_value.specs.declared.ty.Ty.TheVariants as ty
use Rattle.lq_language.specs.EnumerableCalls.{EnumerableCall, By, Plain, With, enumerable_call}
use Rattle.lq_language.specs.Members.{search_named, sole_argument}
use Rattle.lq_language.specs.ValuesOfTypes.{Every}
use Rattle.lq_language.specs.Types.{element_type, has_place, if_placed, is_fresh, is_key, is_within, when}
use Rattle.lq_language.specs.Names.{Names, column_named, local_type, table_number, type_of_column, session_name, SessionName}
use Rattle.lq_language.specs.OperandTypes.{is_bool, is_bool_type, is_text, is_text_type, of_operands, truth_type}
use Rattle.lq_language.specs.Typing.{argument_type, are_distinct, called_type, enumerable_type, given_type, if_limited, lambda_type, member_of, members_type, method_type, record_type, search_type, simple_type, through_type, type_of_choice, type_of_conditional, type_of_member, global_type, type_of_name}
use Rattle.lq_language.specs.declared.methods.Given.{Given}
use Rattle.lq_language.specs.declared.methods.Given.TheVariants as given
use Rattle.lq_language.specs.declared.methods.Through.{Through}
use Rattle.lq_language.specs.declared.methods.Through.TheVariants as through
use Rattle.lq_language.specs.declared.operation.Op.{Op}
use Rattle.lq_language.specs.declared.operation.Op.TheVariants as op
use Rattle.lq_grammar.specs.declared.syntax.Argument.{Argument}
use Rattle.lq_grammar.specs.declared.syntax.Field.{Field}
use Rattle.lq_language.proofs.ItemLaws.{first_of, others_of}
use Rattle.lq_tree.specs.Binding.{Binds, called_tree, column_tree, conditional_tree, enumerable_tree, field_tree, fields_tree, gathered, lambda_tree, member_layer, member_tree, method_form, method_tree, name_tree, of_three_trees, of_two_trees, placed_tree, record_member_tree, record_tree, search_form, search_tree, settled_tree, tree_of, type_of_field, typed_tree, within_tree, global_tree}
use Rattle.lq_tree.specs.Places.{Place, Places, names_of_places, place_of, with_name, SessionPlace, session_place}
use Rattle.lq_tree.specs.declared.tree.Form.{Form}
use Rattle.lq_tree.specs.declared.tree.Form.TheVariants as form
use Rattle.lq_tree.specs.declared.tree.Tree.{Tree}
use Rattle.lq_tree.proofs.WalkLaws.{gathered_all, traversed}

-- the type of a tree, where there is one
abbrev pub type_found : Option Tree → Option Ty
type_found found = option_map (λ tree. tree.ty) found

-- ---- pieces

pub map_when : {A B : Type 0} (f : A → B) (b : Bool) (o : Option A) → option_map f (when b o) ≡ when b (option_map f o)
map_when f true o = refl
map_when f false o = refl

pub map_then : {A B C D : Type 0} (f : A → B) (g : C → D) (next : C → Option A) (more : D → Option B) → ((x : C) → option_map f (next x) ≡ more (g x))
    → (o : Option C)
    → option_map f (option_and_then next o) ≡ option_and_then more (option_map g o)
map_then f g next more same None = refl
map_then f g next more same (Some x) = same x

pub map_two : {A B C : Type 0} (f : B → C) (g : A → B) (o : Option A) → option_map f (option_map g o) ≡ option_map (λ x. f (g x)) o
map_two f g None = refl
map_two f g (Some x) = refl

pub typed_found : (o : Option Ty) (f : Form) → type_found (typed_tree o f) ≡ o
typed_found None f = refl
typed_found (Some t) f = refl

pub settled_found : (o : Option Tree) → type_found (option_map settled_tree o) ≡ type_found o
settled_found None = refl
settled_found (Some t) = refl

pub within_found : (o : Option Tree) → type_found (option_and_then within_tree o) ≡ if_limited (type_found o)
within_found o = map_then (λ tree. tree.ty) (λ tree. tree.ty) within_tree (λ t. when (is_within t) (Some t)) (λ x. map_when (λ tree. tree.ty)
    (is_within x.ty) (Some x)) o

pub placed_found : (o : Option Tree) → type_found (option_and_then placed_tree o) ≡ if_placed (type_found o)
placed_found o =
    map_then (λ tree. tree.ty) (λ tree. tree.ty) placed_tree (λ t. when (has_place (out-Ty t)) (Some t)) (λ x. map_when (λ tree. tree.ty)
    (has_place (out-Ty x.ty)) (Some x)) o

pub truth_found : (b : Bool) (f : Form) → type_found (when b (Some (tree_of ty.Bool f))) ≡ truth_type b
truth_found true f = refl
truth_found false f = refl

-- ---- operators

pub two_found : (given : Tree → Tree → Option Tree) (types : Ty-F Ty → Ty-F Ty → Option Ty) → ((x y : Tree) → type_found (given x y)
    ≡ types (out-Ty x.ty) (out-Ty y.ty)) → (o p : Option Tree)
    → type_found (of_two_trees given o p) ≡ of_operands types (type_found o) (type_found p)
two_found given types same (Some x) (Some y) = same x y
two_found given types same (Some x) None = refl
two_found given types same None p = refl

pub truth_and : (b : Bool) → truth_type (b && false) ≡ None
truth_and true = refl
truth_and false = refl

pub truths_found : (given : Tree → Tree → Option Tree) → ((x y : Tree) → type_found (given x y)
    ≡ truth_type (is_bool (out-Ty x.ty) && is_bool (out-Ty y.ty))) → (o p : Option Tree)
    → type_found (of_two_trees given o p) ≡ truth_type (is_bool_type (type_found o) && is_bool_type (type_found p))
truths_found given same (Some x) (Some y) = same x y
truths_found given same (Some x) None = sym (truth_and (is_bool (out-Ty x.ty)))
truths_found given same None p = refl

pub number_found : (x : Tree) (f : Form) (b : Bool) → type_found (when b (Some (tree_of x.ty f))) ≡ (if b then Some x.ty else None)
number_found x f true = refl
number_found x f false = refl

choice_none : (b : Bool) (o : Option Ty) → type_of_conditional b o None ≡ None
choice_none true None = refl
choice_none true (Some t) = refl
choice_none false o = refl

choice_first_none : (b : Bool) (o : Option Ty) → type_of_conditional b None o ≡ None
choice_first_none true o = refl
choice_first_none false o = refl

choice_by : (b : Bool) (s t : Ty) (f : Form) → type_found (when b (typed_tree (type_of_choice (out-Ty s) (out-Ty t)) f)) ≡ type_of_conditional b (Some s) (Some t)
choice_by true s t f = typed_found (type_of_choice (out-Ty s) (out-Ty t)) f
choice_by false s t f = refl

pub choice_found : (o p q : Option Tree) → type_found (of_three_trees conditional_tree o p q) ≡ type_of_conditional (is_bool_type (type_found o))
    (type_found p) (type_found q)
choice_found None p q = refl
choice_found (Some c) None q = sym (choice_first_none (is_bool (out-Ty c.ty)) (type_found q))
choice_found (Some c) (Some a) None = sym (choice_none (is_bool (out-Ty c.ty)) (Some a.ty))
choice_found (Some c) (Some a) (Some b) = choice_by (is_bool (out-Ty c.ty)) a.ty b.ty (form.Conditional c.form a.form b.form)

-- ---- what is found by its name

-- the position of the first that passes a test, over a list that begins one later
pub map_if : {A B : Type 0} (f : A → B) (b : Bool) (x : A) (o : Option A) → option_map f (if b then Some x else o) ≡ (if b then Some (f x) else option_map f o)
map_if f true x o = refl
map_if f false x o = refl

then_if : {A B : Type 0} (f : A → Option B) (b : Bool) (x : A) (o : Option A) → option_and_then f (if b then Some x else o)
    ≡ (if b then f x else option_and_then f o)
then_if f true x o = refl
then_if f false x o = refl

pub later : {A : Type 0} (test : A → Bool) (start : ℕ) (xs : List A) → position_from test (start + 1) xs ≡ option_map suc (position_from test start xs)
later test start [] = refl
later test start (x ∷ xs) =
    let next : start + 1 ≡ suc start = omega arith in
    ap₂ (λ (n : ℕ) (o : Option ℕ). if test x then Some n else o) next (later test (start + 1) xs)
    ∙ sym (map_if suc (test x) start (position_from test (start + 1) xs))

-- the first that passes a test
abbrev pub first_with : {A : Type 0} → (A → Bool) → List A → Option A
first_with test [] = None
first_with test (x ∷ xs) = if test x then Some x else first_with test xs

abbrev pub get_at : {A : Type 0} → List A → Option ℕ → Option A
get_at xs o = option_and_then (λ n. slice_get xs n) o

get_later : {A : Type 0} (x : A) (xs : List A) (o : Option ℕ) → get_at (x ∷ xs) (option_map suc o) ≡ get_at xs o
get_later x xs None = refl
get_later x xs (Some n) = refl

pub first_position : {A : Type 0} (test : A → Bool) (xs : List A) → get_at xs (position_from test 0 xs) ≡ first_with test xs
first_position test [] = refl
first_position {A} test (x ∷ xs) =
    then_if (λ n. slice_get (x ∷ xs) n) (test x) 0 (position_from test 1 xs)
    ∙ ap (λ (o : Option A). if test x then Some x else o) (ap (get_at (x ∷ xs)) (later test 0 xs) ∙ get_later x xs (position_from test 0 xs)
    ∙ first_position test xs)

pub column_first : (m : List ℕ) (columns : List Column) → first_with (λ column. bytes_eq column.name m) columns ≡ column_named m columns
column_first m [] = refl
column_first m (column ∷ columns) = ap (λ (o : Option Column). if bytes_eq column.name m then Some column else o) (column_first m columns)

pub member_first : (m : List ℕ) (members : List (List ℕ × Ty)) → option_map (λ member. member.1) (first_with (λ member. bytes_eq m member.0) members)
    ≡ member_of m members
member_first m [] = refl
member_first m (member ∷ members) =
    map_if (λ x. x.1) (bytes_eq m member.0) member (first_with (λ x. bytes_eq m x.0) members)
    ∙ ap (λ (o : Option Ty). if bytes_eq m member.0 then Some member.1 else o) (member_first m members)

-- what is built from the one at a position has a type that doesn't depend on the position
at_position : {A : Type 0} (xs : List A) (type_at : A → Ty) (form_at : ℕ → A → Form) (o : Option ℕ)
    → type_found (option_and_then (λ n. option_map (λ x. tree_of (type_at x) (form_at n x)) (slice_get xs n)) o) ≡ option_map type_at (get_at xs o)
at_position xs type_at form_at None = refl
at_position xs type_at form_at (Some n) = map_two (λ tree. tree.ty) (λ x. tree_of (type_at x) (form_at n x)) (slice_get xs n)

-- what is known of the session's name at a place
pub place_known : (x : List ℕ) (places : List SessionPlace)
    → session_name x (map (λ place. place.known) places) ≡ option_map (λ place. place.known) (session_place x places)
place_known x [] = refl
place_known x (place ∷ places) =
    ap (λ (o : Option SessionName). if bytes_eq place.known.name x then Some place.known else o) (place_known x places)
    ∙ sym (map_if (λ p. p.known) (bytes_eq place.known.name x) place (session_place x places))

pub local_place : (x : List ℕ) (places : List Place) → local_type x (map (λ place. (place.name, place.ty)) places) ≡ option_map (λ place. place.ty)
    (place_of x places)
local_place x [] = refl
local_place x (place ∷ places) =
    ap (λ (o : Option Ty). if bytes_eq place.name x then Some place.ty else o) (local_place x places)
    ∙ sym (map_if (λ y. y.ty) (bytes_eq place.name x) place (place_of x places))

-- what holds of each holds of the one that a search finds
found_holds : {A : Type 0} {P : A → Type 0} (test : A → Bool) (find : List A → Option A) → find [] ≡ None
    → ((x : A) (xs : List A) → find (x ∷ xs) ≡ (if test x then Some x else find xs)) → (xs : List A) → Every P xs → (x : A) → find xs ≡ Some x → P x
found_holds test find none next [] all x h = absurd (none-some x (sym none ∙ h))
found_holds {A} {P} test find none next (y ∷ ys) all x h =
    by (test y) (sym (next y ys) ∙ h) (found_holds {P = P} test find none next ys (others_of P y ys all) x)
  where
    by : (b : Bool) → (if b then Some y else find ys) ≡ Some x → (find ys ≡ Some x → P x) → P x
    by true is rest = subst P (same_Some y x is) (first_of P y ys all)
    by false is rest = rest is

-- so of the place of a name
pub place_holds : {P : Place → Type 0} (x : List ℕ) (places : List Place) → Every P places → (place : Place) → place_of x places ≡ Some place → P place
place_holds {P} x = found_holds {P = P} (λ p. bytes_eq p.name x) (place_of x) refl (λ p ps. refl)

pub session_place_holds : {P : SessionPlace → Type 0} (x : List ℕ) (places : List SessionPlace) → Every P places → (place : SessionPlace)
    → session_place x places ≡ Some place → P place
session_place_holds {P} x = found_holds {P = P} (λ p. bytes_eq p.known.name x) (session_place x) refl (λ p ps. refl)

-- ---- searches

pub search_by : (starts ends has : Bool)
    → is_some (if starts then Some op.StartsWith else (if ends then Some op.EndsWith else (if has then Some op.Contains else None))) ≡ (starts || ends || has)
search_by true ends has = refl
search_by false true has = refl
search_by false false true = refl
search_by false false false = refl

search_found : (x : Tree) (o : Option Op) (q : Option Tree) → type_found (option_and_then (λ o. option_and_then (search_form o x) q) o)
    ≡ truth_type (is_some o && is_text_type (type_found q))
search_found x None q = refl
search_found x (Some o) None = refl
search_found x (Some o) (Some b) = truth_found (is_text (out-Ty b.ty)) (form.Binary o x.form b.form)

-- ---- methods that have no argument's type

if_none : {A : Type 0} (b : Bool) → when {A = A} b None ≡ None
if_none true = refl
if_none false = refl

given_none : (method : Given) (t : Ty) → given_type method t None ≡ None
given_none given.Concat t = refl
given_none given.Union t = if_none (is_key t)
given_none given.Intersect t = if_none (is_key t)
given_none given.Except t = if_none (is_key t)
given_none given.Skip t = refl
given_none given.Take t = refl
given_none given.ElementAt t = refl
given_none given.Contains t = if_none (is_key t)

through_none : (method : Through) (t : Ty) → through_type method t None ≡ None
through_none through.Where t = refl
through_none through.Select t = refl
through_none through.All t = refl
through_none (through.Those method) t = refl
through_none (through.Values method) t = refl

-- ---- members

key_found : (b : Bool) (k : Ty) (f : Form) → type_found (when b (Some (tree_of k f))) ≡ (if b then Some k else None)
key_found true k f = refl
key_found false k f = refl

nullable_by : (b c : Bool) (f g : Form)
    → type_found (if b then Some (tree_of ty.Bool f) else when c (Some (tree_of ty.Int g))) ≡ (if b then Some ty.Bool else (if c then Some ty.Int else None))
nullable_by true c f g = refl
nullable_by false true f g = refl
nullable_by false false f g = refl

module _ (schemas : List Schema) where
  column_found : (m : List ℕ) (n : ℕ) (a : Form) (schema : Schema)
      → type_found (column_tree m n a schema) ≡ option_map (λ column. type_of_column column.ty) (column_named m schema.columns)
  column_found m n a schema =
      at_position schema.columns (λ column. type_of_column column.ty) (λ c column. form.Column a n c)
      (position_from (λ column. bytes_eq column.name m) 0 schema.columns)
      ∙ ap (option_map (λ column. type_of_column column.ty)) (first_position (λ column. bytes_eq column.name m) schema.columns ∙ column_first m schema.columns)

  row_found : (m : List ℕ) (n : ℕ) (a : Form) (o : Option Schema)
      → type_found (option_and_then (column_tree m n a) o) ≡ option_and_then (λ schema. option_map (λ column. type_of_column column.ty)
      (column_named m schema.columns)) o
  row_found m n a None = refl
  row_found m n a (Some schema) = column_found m n a schema

  record_found : (m : List ℕ) (a : Form) (members : List (List ℕ × Ty)) → type_found (record_member_tree m a members) ≡ member_of m members
  record_found m a members =
      at_position members (λ member. member.1) (λ place member. form.Member a place) (position_from (λ member. bytes_eq m member.0) 0 members)
      ∙ ap (option_map (λ member. member.1)) (first_position (λ member. bytes_eq m member.0) members) ∙ member_first m members

  layer_found : (places : Places) (m : List ℕ) (a : Form) (layer : Ty-F Ty)
      → type_found (member_layer schemas m a layer) ≡ type_of_member (names_of_places schemas places) m layer
  layer_found places m a (Ty-F.Row n) = row_found m n a (slice_get schemas n)
  layer_found places m a (Ty-F.Rec members) = record_found m a members
  layer_found places m a (Ty-F.Group k t) = key_found (bytes_eq m (codes "Key")) k (form.Key a)
  layer_found places m a Ty-F.IntN = nullable_by (bytes_eq m (codes "HasValue")) (bytes_eq m (codes "Value")) (form.Unary op.HasValue a) (form.Unary op.Value a)
  layer_found places m a Ty-F.Str = key_found (bytes_eq m (codes "Length")) ty.Int (form.Unary op.Length a)
  layer_found places m a Ty-F.Int = refl
  layer_found places m a Ty-F.Bool = refl
  layer_found places m a Ty-F.Null = refl
  layer_found places m a (Ty-F.Seq t) = refl

  pub member_found : (places : Places) (m : List ℕ) (a : Tree) → type_found (member_tree schemas m a) ≡ type_of_member (names_of_places schemas places) m
      (out-Ty a.ty)
  member_found places m a = settled_found (member_layer schemas m a.form (out-Ty a.ty)) ∙ layer_found places m a.form (out-Ty a.ty)

  global_found : (places : Places) (x : List ℕ) (o : Option ℕ) → type_found (global_tree schemas places x o) ≡ global_type (names_of_places schemas places) x o
  global_found places x (Some n) = refl
  global_found places x None =
      map_two (λ tree. tree.ty) (λ place. tree_of place.known.ty (place.form places.depth)) (session_place x places.session)
      ∙ sym (map_two (λ known. known.ty) (λ place. place.known) (session_place x places.session))
      ∙ ap (option_map (λ known. known.ty)) (sym (place_known x places.session))

  pub name_found : (places : Places) (x : List ℕ) (o : Option Place)
      → type_found (name_tree schemas places x o) ≡ type_of_name (names_of_places schemas places) x (option_map (λ place. place.ty) o)
  name_found places x (Some place) = refl
  name_found places x None = global_found places x (table_number x schemas)

  -- ---- what expressions hold

  module _ {X : Type 0} (tree : X → Binds) (typed : X → Names → Option Ty)
      (alike : (x : X) (places : Places) → type_found (tree x places) ≡ typed x (names_of_places schemas places)) where
    abbrev names : Places → Names
    names places = names_of_places schemas places

    -- methods
    lambda_found : (places : Places) (t : Ty) (n : List ℕ) (body : X) → type_found (lambda_tree schemas tree places t n body)
        ≡ lambda_type typed (names places) t n body
    lambda_found places t n body =
        map_when (λ found. found.ty) (is_fresh (names places) n) (tree body (with_name places n t)) ∙ ap (when (is_fresh (names places) n))
        (alike body (with_name places n t))

    given_by : (method : Given) (t : Ty) (source : Form) (o : Option Tree)
        → type_found (option_and_then (λ b. typed_tree (given_type method t (Some b.ty)) (form.Given method source b.form)) o)
        ≡ given_type method t (type_found o)
    given_by method t source None = sym (given_none method t)
    given_by method t source (Some b) = typed_found (given_type method t (Some b.ty)) (form.Given method source b.form)

    through_by : (method : Through) (t : Ty) (source : Form) (o : Option Tree)
        → type_found (option_and_then (λ f. typed_tree (through_type method t (Some f.ty)) (method_form method t f.ty source f.form)) o)
        ≡ through_type method t (type_found o)
    through_by method t source None = sym (through_none method t)
    through_by method t source (Some f) = typed_found (through_type method t (Some f.ty)) (method_form method t f.ty source f.form)

    enumerable_found : (places : Places) (source : Form) (t : Ty) (call : EnumerableCall X)
        → type_found (enumerable_tree schemas tree places source t call) ≡ enumerable_type typed (names places) t call
    enumerable_found places source t (Plain method) = typed_found (simple_type method t) (form.Simple method t source)
    enumerable_found places source t (With method x) = given_by method t source (tree x places) ∙ ap (given_type method t) (alike x places)
    enumerable_found places source t (By method n body) =
        through_by method t source (lambda_tree schemas tree places t n body) ∙ ap (through_type method t) (lambda_found places t n body)

    call_found : (places : Places) (source : Form) (t : Ty) (call : Option (EnumerableCall X))
        → type_found (option_and_then (enumerable_tree schemas tree places source t) call) ≡ option_and_then (enumerable_type typed (names places) t) call
    call_found places source t None = refl
    call_found places source t (Some call) = enumerable_found places source t call

    element_found : (places : Places) (source : Form) (call : Option (EnumerableCall X)) (o : Option Ty)
        → type_found (option_and_then (λ t. option_and_then (enumerable_tree schemas tree places source t) call) o)
        ≡ option_and_then (λ t. option_and_then (enumerable_type typed (names places) t) call) o
    element_found places source call None = refl
    element_found places source call (Some t) = call_found places source t call

    called_found : (places : Places) (call : Option (EnumerableCall X)) (a : Tree)
        → type_found (called_tree schemas tree call a places) ≡ called_type typed (Some a.ty) call (names places)
    called_found places call a =
        within_found (option_and_then (λ t. option_and_then (enumerable_tree schemas tree places a.form t) call) (element_type (out-Ty a.ty)))
        ∙ ap if_limited (element_found places a.form call (element_type (out-Ty a.ty)))

    argument_found : (places : Places) (o : Option X) → type_found (option_and_then (λ x. tree x places) o) ≡ argument_type typed (names places) o
    argument_found places None = refl
    argument_found places (Some x) = alike x places

    searched_found : (places : Places) (m : List ℕ) (arguments : List (Argument X)) (a : Tree)
        → type_found (search_tree schemas tree m arguments a places) ≡ search_type typed m arguments (names places)
    searched_found places m arguments a =
        search_found a (search_named m) (option_and_then (λ x. tree x places) (sole_argument arguments))
        ∙ ap₂ (λ (b : Bool) (o : Option Ty). truth_type (b && is_text_type o))
        (search_by (bytes_eq m (codes "StartsWith")) (bytes_eq m (codes "EndsWith")) (bytes_eq m (codes "Contains")))
        (argument_found places (sole_argument arguments))

    method_by : (b : Bool) (o p : Option Tree) (q r : Option Ty) → type_found o ≡ q → type_found p ≡ r → type_found (if b then o else p) ≡ (if b then q else r)
    method_by true o p q r h k = h
    method_by false o p q r h k = k

    pub method_found : (places : Places) (m : List ℕ) (arguments : List (Argument X)) (a : X) (o : Option Tree) → type_found o ≡ typed a (names places)
        → type_found (option_and_then (λ found. method_tree schemas tree m arguments found places) o) ≡ method_type typed a m arguments (names places)
    method_found places m arguments a o same =
        by o ∙ ap (λ (t : Option Ty). if is_text_type t then search_type typed m arguments (names places) else called_type typed t
        (enumerable_call m arguments) (names places)) same
      where
        by : (p : Option Tree) → type_found (option_and_then (λ found. method_tree schemas tree m arguments found places) p)
            ≡ (if is_text_type (type_found p) then search_type typed m arguments (names places) else called_type typed (type_found p)
            (enumerable_call m arguments) (names places))
        by None = refl
        by (Some found) =
            method_by (is_text (out-Ty found.ty)) (search_tree schemas tree m arguments found places) _ _ _ (searched_found places m arguments found)
            (settled_found (called_tree schemas tree (enumerable_call m arguments) found places) ∙ called_found places (enumerable_call m arguments) found)

    -- records
    field_by : (name : List ℕ) (t : Ty) (o : Option (List (Field Tree))) (p : Option (List (List ℕ × Ty))) (field : Field Tree) → type_of_field field
        ≡ (name, t)
        → option_map (map type_of_field) o ≡ p → option_map (map type_of_field) (option_map (λ fields. field ∷ fields) o)
        ≡ option_map (λ members. (name, t) ∷ members) p
    field_by name t None p field is same = ap (option_map (λ members. (name, t) ∷ members)) same
    field_by name t (Some fields) p field is same = ap (λ (m : List ℕ × Ty). Some (m ∷ map type_of_field fields)) is
        ∙ ap (option_map (λ members. (name, t) ∷ members)) same

    fields_by : (places : Places) (name : List ℕ) (fields : List (Field X)) (found : Option Tree)
        → option_map (map type_of_field) (traversed (field_tree schemas tree places) fields) ≡ members_type typed fields (names places)
        → option_map (map type_of_field) (option_and_then (λ (y : Field Tree). option_map (λ ys. y ∷ ys) (traversed (field_tree schemas tree places) fields))
        (option_map (λ f. record { name = name; value = f }) found))
        ≡ option_and_then (λ t. option_map (λ members. (name, t) ∷ members) (members_type typed fields (names places))) (type_found found)
    fields_by places name fields None same = refl
    fields_by places name fields (Some found) same = field_by name found.ty (traversed (field_tree schemas tree places) fields) _
        (record { name = name; value = found }) refl same

    fields_found : (places : Places) (fields : List (Field X))
        → option_map (map type_of_field) (traversed (field_tree schemas tree places) fields) ≡ members_type typed fields (names places)
    fields_found places [] = refl
    fields_found places (field ∷ fields) =
        fields_by places field.name fields (option_and_then placed_tree (tree field.value places)) (fields_found places fields)
        ∙ ap (option_and_then (λ t. option_map (λ members. (field.name, t) ∷ members) (members_type typed fields (names places))))
        (placed_found (tree field.value places) ∙ ap if_placed (alike field.value places))

    rec_found : (o : Option (List (Field Tree))) → type_found (option_map fields_tree o) ≡ option_map ty.Rec (option_map (map type_of_field) o)
    rec_found None = refl
    rec_found (Some fields) = refl

    pub record_found_at : (places : Places) (fields : List (Field X)) → type_found (record_tree schemas tree fields places)
        ≡ record_type typed fields (names places)
    record_found_at places fields =
        map_when (λ found. found.ty) (are_distinct (map (λ field. field.name) fields)) (option_and_then within_tree
        (option_map fields_tree (gathered (field_tree schemas tree places) fields)))
        ∙ ap (when (are_distinct (map (λ field. field.name) fields)))
        (within_found (option_map fields_tree (gathered (field_tree schemas tree places) fields))
        ∙ ap if_limited (rec_found (gathered (field_tree schemas tree places) fields)
        ∙ ap (option_map ty.Rec) (ap (option_map (map type_of_field)) (gathered_all (field_tree schemas tree places) fields) ∙ fields_found places fields)))
