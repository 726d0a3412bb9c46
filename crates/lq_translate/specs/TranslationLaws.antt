-- Laws of the translation: calls mean what clauses mean, and have the types that they have.
use Rattle.std.specs.Prelude.{◌≡◌, ◌∷◌, List, [], ℕ, Bool, true, Option, Some, Ok}
use Rattle.lq_value.specs.declared.ty.Ty.{Ty}
use Rattle.lq_value.specs.declared.value.Value.{Value}
use Rattle.lq_language.specs.ClauseTyping.{expression_type, query_items}
use Rattle.lq_language.specs.Worlds.{Meaning, Scope, World}
use Rattle.lq_language.specs.ClauseMeaning.{query_meaning}
use Rattle.lq_language.specs.Operators.{call_items, call_meaning}
use Rattle.lq_language.specs.Terms.{term_meaning, term_type}
use Rattle.lq_language.specs.Mentions.{Mention}
use Rattle.lq_language.specs.Names.{Names, with_local}
use Rattle.lq_language.specs.Uses.{expression_uses, query_uses}
use Rattle.lq_language.specs.UsesOfCalls.{call_uses, term_uses}
use Rattle.lq_language.specs.Meaning.{expression_meaning, items_meaning}
use Rattle.lq_grammar.specs.declared.syntax.Expr.{Expr}
use Rattle.lq_grammar.specs.declared.syntax.Query.{Query}
use Rattle.lq_translate.specs.Translated.{translated, translated_query}
use Rattle.lq_translate.specs.Translation.{call_of}

module _ {X : Type 0} (is_name : X → List ℕ → Bool) where
  -- an expression that is a name has the type of what the name refers to
  abbrev pub NamesTyped : (X → Names → Option Ty) → Type 0
  NamesTyped typed = (x : X) (n : List ℕ) → is_name x n ≡ true → (names : Names) (t : Ty) → typed x (with_local names n t) ≡ Some t

  -- and means it
  abbrev pub NamesMean : {R : Type 0} → (X → Meaning R) → Type 0
  NamesMean {R} meant =
      (x : X) (n : List ℕ) → is_name x n ≡ true → (t : Ty) (v : Value R) (scope : Scope R) → meant x (record { name = n; ty = t; value = v } ∷ scope) ≡ Ok v

  -- and uses nothing, being a local name
  abbrev pub NamesUsed : (X → Names → List Mention) → Type 0
  NamesUsed uses = (x : X) (n : List ℕ) → is_name x n ≡ true → (names : Names) (t : Ty) → uses x (with_local names n t) ≡ []

-- at the place of any scope the calls of a query have its stream: items and ending, faults alike
abbrev pub MeansAlike : Type 0 → Type 0 → Type 0
MeansAlike R X =
    (is_name : X → List ℕ → Bool) (world : World R) (typed : X → Names → Option Ty) (meant : X → Meaning R) → NamesTyped is_name typed
    → NamesMean is_name meant → (q : Query X) (outer : Scope R) → call_meaning world typed meant (call_of is_name q) outer ≡ query_meaning world typed meant q outer

-- under any names the calls of a query have the type of its items, and have none where it has none
abbrev pub TypedAlike : Type 0 → Type 0
TypedAlike X =
    (is_name : X → List ℕ → Bool) (typed : X → Names → Option Ty) → NamesTyped is_name typed
    → (q : Query X) (outer : Names) → call_items typed (call_of is_name q) outer ≡ query_items typed q outer

-- and they use what its clauses use, in the same order
abbrev pub UsedAlike : Type 0 → Type 0
UsedAlike X =
    (is_name : X → List ℕ → Bool) (typed : X → Names → Option Ty) (uses : X → Names → List Mention) → NamesTyped is_name typed → NamesUsed is_name uses
    → (q : Query X) (outer : Names) → call_uses typed uses (call_of is_name q) outer ≡ query_uses typed uses q outer

-- ---- whole expressions

-- a translated expression has the type of the expression, and none where it has none
abbrev pub TermsTypedAlike : Type 0
TermsTypedAlike = (e : Expr) (names : Names) → term_type (translated e) names ≡ expression_type e names

-- and means what it means
abbrev pub TermsMeanAlike : Type 0 → Type 0
TermsMeanAlike R = (world : World R) (e : Expr) (scope : Scope R) → term_meaning world (translated e) scope ≡ expression_meaning world e scope

-- the calls of a query have the type of its items, and none where it has none
abbrev pub CallsTypedAlike : Type 0
CallsTypedAlike = (q : Query Expr) (names : Names) → call_items term_type (translated_query q) names ≡ query_items expression_type q names

-- and mean under nested pairs what the query's clauses mean under names: items and ending, faults alike
abbrev pub CallsMeanAlike : Type 0 → Type 0
CallsMeanAlike R =
    (world : World R) (q : Query Expr) (scope : Scope R) → call_meaning world term_type (term_meaning world) (translated_query q) scope ≡ items_meaning world q scope

-- a translated expression uses what the expression uses, in the same order
abbrev pub TermsUsedAlike : Type 0
TermsUsedAlike = (e : Expr) (names : Names) → term_uses (translated e) names ≡ expression_uses e names

-- and so do the calls of a query
abbrev pub CallsUsedAlike : Type 0
CallsUsedAlike =
    (q : Query Expr) (names : Names) → call_uses term_type term_uses (translated_query q) names ≡ query_uses expression_type expression_uses q names
