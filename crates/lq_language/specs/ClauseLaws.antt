-- Laws of clauses: which names they see and bring in, which types they take, and what is met first.
use Rattle.std.specs.Prelude.{◌≡◌, ◌∷◌, ◌≤◌, ◌<◌, ◌+◌, ◌⊎◌, List, [], ℕ, Bool, true, Option, Some, None, Result, Err}
use Rattle.std.specs.List.{sum_by}
use Rattle.lq_value.specs.declared.scalar.Scalar.{Scalar}
use Rattle.lq_value.specs.declared.scalar.Scalar.TheVariants as scalar
use Rattle.lq_value.specs.SameAndOrder.{same_values}
use Rattle.lq_value.specs.declared.ty.Ty.{Ty, out-Ty}
use Rattle.lq_value.specs.declared.ty.Ty.TheVariants as ty
use Rattle.lq_value.specs.declared.value.End.{End}
use Rattle.lq_value.specs.declared.value.End.TheVariants as end
use Rattle.lq_value.specs.declared.value.Fault.{Fault}
use Rattle.lq_value.specs.declared.value.Value.{Value}
use Rattle.lq_value.specs.declared.value.Value.TheVariants as value
use Rattle.lq_language.specs.Arrangement.{all_of, order_by}
use Rattle.lq_language.specs.ClauseTyping.{expression_type, if_within, join_type, last_type, names_after, sole_name, source_type}
use Rattle.lq_language.specs.Worlds.{Meaning, Scope, World}
use Rattle.lq_language.specs.OperandMeaning.{stream_of}
use Rattle.lq_language.specs.ClauseMeaning.{clause_meaning, extended, item_type_at, matches}
use Rattle.lq_language.specs.Stream.{elements_of, group_by, join_by, select_each, then_stream, with_keys}
use Rattle.lq_language.specs.Types.{are_join_keys, has_place, is_key, parts_of}
use Rattle.lq_language.specs.Names.{Names, local_type, with_local}
use Rattle.lq_grammar.specs.declared.syntax.Clause.TheVariants as clause
use Rattle.lq_grammar.specs.declared.syntax.Expr.TheVariants as expr
use Rattle.lq_grammar.specs.declared.syntax.Join.{Join}
use Rattle.lq_grammar.specs.declared.syntax.Last.TheVariants as last
use Rattle.lq_grammar.specs.declared.syntax.Node.TheVariants as node

-- an int and an int?, in either order
abbrev pub AreIntAndNullable : Ty → Ty → Type 0
AreIntAndNullable s t = ((s ≡ ty.Int) × (t ≡ ty.IntN)) ⊎ ((s ≡ ty.IntN) × (t ≡ ty.Int))

-- ---- names

-- no clause brings in a name that is in scope before it: a `join` neither by its range variable, also where `into` ends it at once, nor by `into`
abbrev pub RepeatsNoName : Type 0 → Type 0
RepeatsNoName X =
    (typed : X → Names → Option Ty) (outer names : Names) (n : List ℕ) (t : Ty) → local_type n names.locals ≡ Some t
    → ((f : X) → names_after typed outer (clause.From n f) names ≡ None)
    × ((f : X) → names_after typed outer (clause.Let n f) names ≡ None)
    × ((f k l : X) (into : Option (List ℕ)) → names_after typed outer (clause.Join (record { name = n; source = f; outer_key = k; inner_key = l; into = into })) names ≡ None)
    × ((m : List ℕ) (f k l : X) → names_after typed outer (clause.Join (record { name = m; source = f; outer_key = k; inner_key = l; into = Some n })) names ≡ None)

-- the inner sequence of a `join` and its second key are typed without the range variables before it, whatever these are
abbrev pub SeesNoRangeVariable : Type 0 → Type 0
SeesNoRangeVariable X =
    (typed other : X → Names → Option Ty) (outer names : Names) (j : Join X) → typed j.source outer ≡ other j.source outer
    → ((t : Ty) → typed j.inner_key (with_local outer j.name t) ≡ other j.inner_key (with_local outer j.name t)) → typed j.outer_key names ≡ other j.outer_key names
    → join_type typed outer j names ≡ join_type other outer j names

-- the range variable of a `join` with `into` is gone after it, so `into` may bring its name in again
abbrev pub ReturnsItsName : Type 0 → Type 0
ReturnsItsName X =
    (typed : X → Names → Option Ty) (outer names : Names) (n : List ℕ) (f k l : X) (t u : Ty) → local_type n names.locals ≡ None
    → source_type typed f outer ≡ Some t → typed k names ≡ Some u → typed l (with_local outer n t) ≡ Some u → is_key u ≡ true
    → names_after typed outer (clause.Join (record { name = n; source = f; outer_key = k; inner_key = l; into = Some n })) names
    ≡ Some (with_local names n (ty.Seq t))

-- a range variable hides a table of its name: where it refers to a row, no clause enumerates it
abbrev pub HidesTables : Type 0
HidesTables =
    (outer names : Names) (n m : List ℕ) (table : ℕ) → local_type n names.locals ≡ Some (ty.Row table)
    → names_after expression_type outer (clause.From m (expr.Node (node.Name n))) names ≡ None

-- after `into x` there is x alone, beside the names around the query, none of which it repeats
abbrev pub SeesItAlone : Type 0 → Type 0
SeesItAlone X =
    (typed : X → Names → Option Ty) (outer : Names) (n : List ℕ) (t : Ty)
    → ((s : Ty) → local_type n outer.locals ≡ Some s → sole_name typed outer n t ≡ None)
    × (local_type n outer.locals ≡ None → sole_name typed outer n t ≡ Some (with_local outer n t))

-- ---- types

-- null alone can't be bound by a `let`, and is neither selected nor grouped
abbrev pub TakesNoNull : Type 0 → Type 0
TakesNoNull X =
    (typed : X → Names → Option Ty) (outer names : Names) (f : X) → typed f names ≡ Some ty.Null
    → ((n : List ℕ) → names_after typed outer (clause.Let n f) names ≡ None)
    × (last_type typed (last.Select f) names ≡ None)
    × ((k : X) → last_type typed (last.Group f k) names ≡ None)

-- any other type is taken by each of them: also that of a sequence, a group or a row
abbrev pub TakesAllElse : Type 0 → Type 0
TakesAllElse X =
    (typed : X → Names → Option Ty) (outer names : Names) (f : X) (t : Ty) → typed f names ≡ Some t → has_place (out-Ty t) ≡ true
    → ((n : List ℕ) → local_type n names.locals ≡ None → names_after typed outer (clause.Let n f) names ≡ Some (with_local names n t))
    × (last_type typed (last.Select f) names ≡ Some t)
    × ((k : X) (s : Ty) → typed k names ≡ Some s → is_key s ≡ true → last_type typed (last.Group f k) names ≡ Some (ty.Group s t))

-- what is enumerated is a sequence or a group
abbrev pub EnumeratesGroups : Type 0 → Type 0
EnumeratesGroups X =
    (typed : X → Names → Option Ty) (f : X) (names : Names) (k t : Ty)
    → (typed f names ≡ Some (ty.Seq t) → source_type typed f names ≡ Some t) × (typed f names ≡ Some (ty.Group k t) → source_type typed f names ≡ Some t)

-- the keys of a `join` have one key type, or one is an int and the other an int?; records are never widened
abbrev pub ComparesOneType : Type 0
ComparesOneType =
    (s t : Ty) → (are_join_keys (Some s) (Some t) ≡ true → ((is_key s ≡ true) × (s ≡ t)) ⊎ AreIntAndNullable s t)
    × (((is_key s ≡ true) × (s ≡ t)) ⊎ AreIntAndNullable s t → are_join_keys (Some s) (Some t) ≡ true)

-- items that give a sequence of more than 4,096 parts have no type, and no others lose theirs
abbrev pub BoundsParts : Type 0 → Type 0
BoundsParts X =
    (typed : X → Names → Option Ty) (t : Ty) → (parts_of (ty.Seq t) ≤ 4096 → if_within typed (Some t) ≡ Some t) × (4096 < parts_of (ty.Seq t) → if_within typed (Some t) ≡ None)

-- the parts of a type are itself and those of the types in it
abbrev pub CountsParts : Type 0
CountsParts =
    ((t : Ty) → parts_of (ty.Seq t) ≡ 1 + parts_of t)
    × ((k t : Ty) → parts_of (ty.Group k t) ≡ 1 + (parts_of k + parts_of t))
    × ((ms : List (List ℕ × Ty)) → parts_of (ty.Rec ms) ≡ 1 + sum_by (λ m. parts_of m.1) ms)
    × ((n : ℕ) → parts_of (ty.Row n) ≡ 1)

-- ---- meaning

-- a second `from` reads its source again for each scope, in that scope
abbrev pub ReadsSourceAnew : Type 0 → Type 0 → Type 0
ReadsSourceAnew R X =
    (world : World R) (typed : X → Names → Option Ty) (meant : X → Meaning R) (outer scope : Scope R) (n : List ℕ) (f : X) (scopes : List (Scope R)) (e : End)
    → clause_meaning world typed meant outer (clause.From n f) (scope ∷ scopes, e)
    ≡ then_stream (select_each (extended world typed meant n (item_type_at world typed meant f scope) scope) (stream_of world (meant f scope)))
    (clause_meaning world typed meant outer (clause.From n f) (scopes, e))

-- a key that is null matches nothing, not even another null
abbrev pub NullMatchesNothing : Type 0 → Type 0
NullMatchesNothing R = (qs : List (Value R × Value R)) → matches (value.Scalar scalar.Null) qs ≡ []

-- a record isn't null, whatever its members are: it matches the records that are the same
abbrev pub RecordsMatch : Type 0 → Type 0
RecordsMatch R =
    (ms : List (List ℕ × Value R)) (qs : List (Value R × Value R)) → matches (value.Rec ms) qs ≡ elements_of same_values (value.Rec ms) qs

-- the key of an inner item is met before the next item, and all of them before the first outer item
abbrev pub MeetsInnerKeysFirst : Type 0 → Type 0
MeetsInnerKeysFirst R =
    (key : Value R → Result (Value R) Fault) (v : Value R) (vs : List (Value R)) (e : End) (f : Fault) → key v ≡ Err f
    → (outer_key : Value R → Result (Value R) Fault) (found : Value R → List (Value R × Value R) → List (Value R)) (result : Value R → Value R → Result (Value R) Fault)
    → (xs : List (Value R)) (d : End) → join_by (with_keys key (v ∷ vs, e)) outer_key found result xs d ≡ ([], end.Fault f)

-- `orderby` meets the fault that ends its source before any key
abbrev pub SortsWhole : Type 0 → Type 0
SortsWhole R =
    (descending : ℕ → Bool) (key : ℕ → Value R → Result Scalar Fault) (ks : List ℕ) (xs : List (Value R)) (f : Fault)
    → order_by descending key ks xs (end.Fault f) ≡ ([], end.Fault f)

-- and `group` the keys and elements of the items that come before that fault
abbrev pub GroupsInTurn : Type 0 → Type 0
GroupsInTurn R =
    (same : Value R → Value R → Bool) (key element : Value R → Result (Value R) Fault) (result : Value R × List (Value R) → Value R)
    → (v : Value R) (xs : List (Value R)) (e : End) (f : Fault) → key v ≡ Err f → group_by same key element result (v ∷ xs) e ≡ ([], end.Fault f)

-- the first keys of all items are met before the next key of any
abbrev pub MeetsFirstKeysFirst : Type 0 → Type 0
MeetsFirstKeysFirst R =
    (descending : ℕ → Bool) (key : ℕ → Value R → Result Scalar Fault) (k : ℕ) (ks : List ℕ) (xs : List (Value R)) (f : Fault) → all_of (key k) xs ≡ Err f
    → order_by descending key (k ∷ ks) xs end.Done ≡ ([], end.Fault f)
