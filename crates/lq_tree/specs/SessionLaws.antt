-- Laws of the places of a session's names: they are those of what is known of the names, their forms give the names' values and use what the names use.
use Rattle.std.specs.Prelude.{◌≡◌, ◌∷◌, List, [], ℕ, Some, Ok, option_map}
use Rattle.lq_value.specs.declared.table.Schema.{Schema}
use Rattle.lq_value.specs.declared.ty.Ty.TheVariants as ty
use Rattle.lq_value.specs.declared.value.Value.TheVariants as value
use Rattle.lq_language.specs.ClauseTyping.{expression_type}
use Rattle.lq_machine.specs.DefinitionLaws.{AreDefined}
use Rattle.lq_machine.specs.Definitions.{defining, known_names, outer_names, with_session}
use Rattle.lq_language.specs.Worlds.{SessionValue, World, bound, known_predicates}
use Rattle.lq_language.specs.OperandMeaning.{sequence}
use Rattle.lq_language.specs.ValuesOfTypes.{HasCells, HoldsRows}
use Rattle.lq_language.specs.Operators.{call_items, call_meaning}
use Rattle.lq_language.specs.Terms.{term_meaning, term_type}
use Rattle.lq_language.specs.Names.{with_local}
use Rattle.lq_language.specs.declared.host_name.HostName.{HostName}
use Rattle.lq_language.specs.Uses.{expression_uses}
use Rattle.lq_language.specs.UsesOfCalls.{call_uses, term_uses}
use Rattle.lq_language.specs.Meaning.{expression_meaning}
use Rattle.lq_language.specs.declared.calls.Call.{Call}
use Rattle.lq_language.specs.declared.calls.Term.{Term}
use Rattle.lq_machine.specs.declared.session.Definition.{Definition}
use Rattle.lq_grammar.specs.declared.syntax.Expr.{Expr}
use Rattle.lq_translate.specs.Translated.{translated}
use Rattle.lq_tree.specs.Binding.{call_tree, term_tree}
use Rattle.lq_tree.specs.BindingLaws.{GivesAll}
use Rattle.lq_tree.specs.FormMeaning.{Slots, form_meaning}
use Rattle.lq_tree.specs.SessionPlaces.{condition_places, known_of, session_places, statement_places}
use Rattle.lq_tree.specs.UsesOfForms.{UseWhatIsKnown, form_uses}
use Rattle.lq_tree.specs.declared.tree.Form.{Form}
use Rattle.lq_tree.specs.declared.tree.Tree.{Tree}

-- what is known of the places is what is known of the definitions
abbrev pub PlacesAreKnown : Type 0
PlacesAreKnown =
    (schemas : List Schema) (predicates : List HostName) (definitions : List Definition)
    → known_of (session_places schemas predicates definitions) ≡ known_names schemas predicates definitions

-- the forms use what is known to be used, where each named query has a type
abbrev pub PlacesUse : Type 0
PlacesUse =
    (schemas : List Schema) (predicates : List HostName) (definitions : List Definition) → AreDefined schemas predicates definitions
    → UseWhatIsKnown (statement_places schemas predicates definitions)

-- where tables have their rows, each form gives the value that its name refers to
abbrev pub PlacesGive : Type 0 → Type 0
PlacesGive R =
    (world : World R) (definitions : List Definition) → HoldsRows world → world.session ≡ []
    → AreDefined world.schemas (known_predicates world.predicates) definitions
    → let after = defining world definitions in GivesAll after (session_places world.schemas (known_predicates world.predicates) definitions) after.session

-- no form asks what a name of the session refers to: whatever they refer to, it means the same
abbrev pub ReadsNoSession : Type 0 → Type 0
ReadsNoSession R =
    (world : World R) (session : List (SessionValue R)) (form : Form) (slots : Slots R)
    → form_meaning (with_session world session) form slots ≡ form_meaning world form slots

-- ---- whole statements

-- at the places of a statement an expression has a tree exactly where it has a type, and the tree's type is that
abbrev pub TypesOfStatements : Type 0
TypesOfStatements =
    (schemas : List Schema) (predicates : List HostName) (definitions : List Definition) (e : Expr)
    → option_map (λ tree. tree.ty) (term_tree schemas (translated e) (statement_places schemas predicates definitions))
    ≡ expression_type e (outer_names schemas predicates (known_names schemas predicates definitions))

-- the tree means, over the tables alone, what the expression means where the names refer to what was defined
abbrev pub MeaningsOfStatements : Type 0 → Type 0
MeaningsOfStatements R =
    (world : World R) (definitions : List Definition) → HoldsRows world → world.session ≡ []
    → AreDefined world.schemas (known_predicates world.predicates) definitions → (e : Expr) (tree : Tree)
    → term_tree world.schemas (translated e) (statement_places world.schemas (known_predicates world.predicates) definitions) ≡ Some tree
    → form_meaning world tree.form [] ≡ expression_meaning (defining world definitions) e []

-- and it uses what the expression uses there
abbrev pub UsesOfStatements : Type 0
UsesOfStatements =
    (schemas : List Schema) (predicates : List HostName) (definitions : List Definition) → AreDefined schemas predicates definitions → (e : Expr) (tree : Tree)
    → term_tree schemas (translated e) (statement_places schemas predicates definitions) ≡ Some tree
    → form_uses tree.form ≡ expression_uses e (outer_names schemas predicates (known_names schemas predicates definitions))

-- ---- conditions on the rows of a table

-- at the places of a condition it has a tree exactly where it has a type under the row's name, and the
-- tree's type is that
abbrev pub TypesOfConditions : Type 0
TypesOfConditions =
    (schemas : List Schema) (predicates : List HostName) (definitions : List Definition) (x : List ℕ) (n : ℕ) (e : Expr)
    → option_map (λ tree. tree.ty) (term_tree schemas (translated e) (condition_places schemas predicates definitions x n))
    ≡ expression_type e (with_local (outer_names schemas predicates (known_names schemas predicates definitions)) x (ty.Row n))

-- over a row in the first slot, which has the table's cells, the tree means what the condition means
-- of the row
abbrev pub MeaningsOfConditions : Type 0 → Type 0
MeaningsOfConditions R =
    (world : World R) (definitions : List Definition) → HoldsRows world → world.session ≡ []
    → AreDefined world.schemas (known_predicates world.predicates) definitions → (x : List ℕ) (n : ℕ) (e : Expr) (tree : Tree)
    → term_tree world.schemas (translated e) (condition_places world.schemas (known_predicates world.predicates) definitions x n) ≡ Some tree
    → (row : R) → HasCells world n row
    → form_meaning world tree.form (value.Row row ∷ [])
    ≡ expression_meaning (defining world definitions) e (bound x (ty.Row n) [] (value.Row row))

-- and it uses what the condition uses under the row's name
abbrev pub UsesOfConditions : Type 0
UsesOfConditions =
    (schemas : List Schema) (predicates : List HostName) (definitions : List Definition) → AreDefined schemas predicates definitions
    → (x : List ℕ) (n : ℕ) (e : Expr) (tree : Tree)
    → term_tree schemas (translated e) (condition_places schemas predicates definitions x n) ≡ Some tree
    → form_uses tree.form ≡ expression_uses e (with_local (outer_names schemas predicates (known_names schemas predicates definitions)) x (ty.Row n))

-- ---- the calls of queries

-- at the places of a statement the calls of a query have a tree exactly where their items have a type;
-- it is of a sequence of these
abbrev pub TypesOfStatementCalls : Type 0
TypesOfStatementCalls =
    (schemas : List Schema) (predicates : List HostName) (definitions : List Definition) (c : Call Term)
    → option_map (λ tree. tree.ty) (call_tree schemas (term_tree schemas) c (statement_places schemas predicates definitions))
    ≡ option_map ty.Seq (call_items term_type c (outer_names schemas predicates (known_names schemas predicates definitions)))

-- the tree means, over the tables alone, the sequence of the calls' stream where the names refer to
-- what was defined
abbrev pub MeaningsOfStatementCalls : Type 0 → Type 0
MeaningsOfStatementCalls R =
    (world : World R) (definitions : List Definition) → HoldsRows world → world.session ≡ []
    → AreDefined world.schemas (known_predicates world.predicates) definitions → (c : Call Term) (tree : Tree)
    → call_tree world.schemas (term_tree world.schemas) c (statement_places world.schemas (known_predicates world.predicates) definitions) ≡ Some tree
    → let after = defining world definitions in
    form_meaning world tree.form [] ≡ Ok (sequence (call_meaning after term_type (term_meaning after) c []))

-- and it uses what the calls use there
abbrev pub UsesOfStatementCalls : Type 0
UsesOfStatementCalls =
    (schemas : List Schema) (predicates : List HostName) (definitions : List Definition) → AreDefined schemas predicates definitions → (c : Call Term) (tree : Tree)
    → call_tree schemas (term_tree schemas) c (statement_places schemas predicates definitions) ≡ Some tree
    → form_uses tree.form ≡ call_uses term_type term_uses c (outer_names schemas predicates (known_names schemas predicates definitions))
