-- Laws of binding: a term has a tree exactly where it has a type, which is the tree's; and the tree means what the term means.
use Rattle.std.specs.Prelude.{◌≡◌, ◌∷◌, ◌++◌, List, [], Some, Ok, length, option_map}
use Rattle.lq_value.specs.declared.table.Schema.{Schema}
use Rattle.lq_value.specs.declared.ty.Ty.{Ty}
use Rattle.lq_value.specs.declared.ty.Ty.TheVariants as ty
use Rattle.lq_value.specs.declared.value.Value.{Value}
use Rattle.lq_language.specs.ClauseTyping.{expression_type, query_items}
use Rattle.lq_language.specs.Worlds.{names_at, Binding, Scope, World, SessionValue, known_predicates}
use Rattle.lq_language.specs.OperandMeaning.{sequence}
use Rattle.lq_language.specs.ValuesOfTypes.{HoldsRows}
use Rattle.lq_language.specs.Operators.{call_items, call_meaning}
use Rattle.lq_language.specs.Terms.{term_meaning, term_type}
use Rattle.lq_language.specs.Uses.{expression_uses}
use Rattle.lq_language.specs.UsesOfCalls.{call_uses, term_uses}
use Rattle.lq_language.specs.Meaning.{expression_meaning, items_meaning}
use Rattle.lq_language.specs.MeaningLaws.{IsScopeOfValues, IsValueOf, IsSessionOfValues}
use Rattle.lq_language.specs.declared.calls.Call.{Call}
use Rattle.lq_language.specs.declared.calls.Term.{Term}
use Rattle.lq_grammar.specs.declared.syntax.Expr.{Expr}
use Rattle.lq_grammar.specs.declared.syntax.Query.{Query}
use Rattle.lq_translate.specs.Translated.{translated, translated_query}
use Rattle.lq_tree.specs.Binding.{call_tree, term_tree, tree_of}
use Rattle.lq_tree.specs.FormMeaning.{Slots, form_meaning}
use Rattle.lq_tree.specs.Places.{Place, Places, names_of_places, SessionPlace}
use Rattle.lq_tree.specs.UsesOfForms.{UseWhatIsKnown, form_uses}
use Rattle.lq_tree.specs.declared.tree.Form.{Form}
use Rattle.lq_tree.specs.declared.tree.Tree.{Tree}

-- a term has a tree exactly where it has a type, and the tree's type is that
abbrev pub TypesOfTrees : Type 0
TypesOfTrees =
    (schemas : List Schema) (t : Term) (places : Places)
    → option_map (λ tree. tree.ty) (term_tree schemas t places) ≡ term_type t (names_of_places schemas places)

-- and so have the calls of a query, whose tree's type is that of a sequence of their items
abbrev pub TypesOfCalls : Type 0
TypesOfCalls =
    (schemas : List Schema) (c : Call Term) (places : Places)
    → option_map (λ tree. tree.ty) (call_tree schemas (term_tree schemas) c places)
    ≡ option_map ty.Seq (call_items term_type c (names_of_places schemas places))

-- ---- meaning

module _ {R : Type 0} (world : World R) where
  -- a place represents a name of the session: its form gives the name's value in any slots
  abbrev pub Gives : SessionPlace → SessionValue R → Type 0
  Gives place s = (place.known ≡ s.known) × ((slots : Slots R) → form_meaning world (place.form (length slots)) slots ≡ Ok s.value)

  abbrev pub GivesAll : List SessionPlace → List (SessionValue R) → Type 0
  GivesAll [] [] = Unit {0}
  GivesAll (place ∷ places) (s ∷ others) = Gives place s × GivesAll places others
  GivesAll places others = ⊥

module _ {R : Type 0} (world : World R) (slots : Slots R) where
  -- a place represents a local name: its form reaches the name's value, whatever is in further slots
  abbrev pub Reaches : Place → Binding R → Type 0
  Reaches place b = (place.name ≡ b.name) × (place.ty ≡ b.ty) × ((more : Slots R) → form_meaning world place.form (slots ++ more) ≡ Ok b.value)

  abbrev pub ReachesAll : List Place → Scope R → Type 0
  ReachesAll [] [] = Unit {0}
  ReachesAll (place ∷ places) (b ∷ scope) = Reaches place b × ReachesAll places scope
  ReachesAll places scope = ⊥

  -- the slots are those of the places, and hold what reaches the values of all local names; the predicates are the same
  abbrev pub Holds : Places → Scope R → Type 0
  Holds places scope =
      (length slots ≡ places.depth) × ReachesAll places.locals scope × GivesAll world places.session world.session
      × (places.predicates ≡ known_predicates world.predicates)

-- where the slots hold the local names of a scope, whose values are of their types, a tree means what its term means; and if that is a
-- value, it is one of the tree's type
abbrev pub MeaningsOfTrees : Type 0 → Type 0
MeaningsOfTrees R =
    (world : World R) → HoldsRows world → IsSessionOfValues world → (t : Term) (places : Places) (slots : Slots R) (scope : Scope R) → IsScopeOfValues world scope
    → Holds world slots places scope → (tree : Tree) → term_tree world.schemas t places ≡ Some tree
    → (form_meaning world tree.form slots ≡ term_meaning world t scope)
    × ((v : Value R) → form_meaning world tree.form slots ≡ Ok v → IsValueOf world tree.ty v)

-- and the tree of the calls of a query is the sequence of their stream
abbrev pub MeaningsOfCalls : Type 0 → Type 0
MeaningsOfCalls R =
    (world : World R) → HoldsRows world → IsSessionOfValues world → (c : Call Term) (places : Places) (slots : Slots R) (scope : Scope R) → IsScopeOfValues world scope
    → Holds world slots places scope → (tree : Tree) → call_tree world.schemas (term_tree world.schemas) c places ≡ Some tree
    → (form_meaning world tree.form slots ≡ Ok (sequence (call_meaning world term_type (term_meaning world) c scope)))
    × ((v : Value R) → form_meaning world tree.form slots ≡ Ok v → IsValueOf world tree.ty v)

-- ---- whole expressions, through the terms that they are translated to

-- an expression that has a type under a scope's names is bound to a tree of that type, which means what the expression means
abbrev pub BindsExpressions : Type 0 → Type 0
BindsExpressions R =
    (world : World R) → HoldsRows world → IsSessionOfValues world → (e : Expr) (places : Places) (slots : Slots R) (scope : Scope R) → IsScopeOfValues world scope
    → Holds world slots places scope → (type : Ty) → expression_type e (names_at world scope) ≡ Some type
    → (form : Form) × (term_tree world.schemas (translated e) places ≡ Some (tree_of type form))
    × (form_meaning world form slots ≡ expression_meaning world e scope)

-- and a query whose items have a type is bound to the sequence of its stream
abbrev pub BindsQueries : Type 0 → Type 0
BindsQueries R =
    (world : World R) → HoldsRows world → IsSessionOfValues world → (q : Query Expr) (places : Places) (slots : Slots R) (scope : Scope R) → IsScopeOfValues world scope
    → Holds world slots places scope → (type : Ty) → query_items expression_type q (names_at world scope) ≡ Some type
    → (form : Form) × (call_tree world.schemas (term_tree world.schemas) (translated_query q) places ≡ Some (tree_of (ty.Seq type) form))
    × (form_meaning world form slots ≡ Ok (sequence (items_meaning world q scope)))

-- ---- uses

-- under local names, which use nothing, and names of the session, a tree uses what its term uses, in the same order
abbrev pub UsesOfTrees : Type 0
UsesOfTrees =
    (schemas : List Schema) (t : Term) (places : Places) → UseWhatIsKnown places → (tree : Tree) → term_tree schemas t places ≡ Some tree
    → form_uses tree.form ≡ term_uses t (names_of_places schemas places)

-- and so does the tree of the calls of a query
abbrev pub UsesOfCalls : Type 0
UsesOfCalls =
    (schemas : List Schema) (c : Call Term) (places : Places) → UseWhatIsKnown places → (tree : Tree) → call_tree schemas (term_tree schemas) c places ≡ Some tree
    → form_uses tree.form ≡ call_uses term_type term_uses c (names_of_places schemas places)

-- and of whole expressions, through the terms that they are translated to
abbrev pub UsesOfExpressions : Type 0
UsesOfExpressions =
    (schemas : List Schema) (e : Expr) (places : Places) → UseWhatIsKnown places → (tree : Tree) → term_tree schemas (translated e) places ≡ Some tree
    → form_uses tree.form ≡ expression_uses e (names_of_places schemas places)
