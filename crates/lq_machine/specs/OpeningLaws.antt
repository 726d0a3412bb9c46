-- Laws of what a statement opens: its size and its rank, by the tokens of its line; and what a named query keeps of them.
use Rattle.std.specs.Prelude.{◌≡◌, ◌≢◌, ◌+◌, ◌≤◌, ◌∷◌, ◌++◌, List, [], ℕ, Some, None, length, slice_get, sum}
use Rattle.std.specs.List.{Contains}
use Rattle.lq_value.specs.declared.ty.Ty.{Ty}
use Rattle.lq_value.specs.declared.ty.Ty.TheVariants as ty
use Rattle.lq_language.specs.ClauseTyping.{expression_type}
use Rattle.lq_machine.specs.Machine.{step}
use Rattle.lq_machine.specs.Opening.{opening_of, rank_limit, size_limit}
use Rattle.lq_machine.specs.Served.{defined_data, line_of}
use Rattle.lq_machine.specs.States.{State, names_in}
use Rattle.lq_grammar.specs.Reading.{Says, reading_of}
use Rattle.lq_grammar.specs.Tokens.{text_of, tokens_of}
use Rattle.lq_machine.specs.declared.session.Defined.TheVariants as of
use Rattle.lq_machine.specs.declared.session.Definition.{Definition}
use Rattle.lq_machine.specs.declared.session.Opened.{Opened}
use Rattle.lq_grammar.specs.declared.syntax.Expr.{Expr}
use Rattle.lq_grammar.specs.declared.syntax.Statement.TheVariants as statement
use Rattle.lq_grammar.specs.declared.token.Kind.TheVariants as k
use Rattle.lq_grammar.specs.declared.token.Token.{Token}

module _ (definitions : List Definition) where
  -- The first definition of this name is a named query, whose statement opens so much.
  pub record IsNamedQuery (name : List ℕ) (opened : Opened) : Type 0 where
    pub front : List Definition
    pub definition : Definition
    pub rest : List Definition
    pub split : definitions ≡ front ++ definition ∷ rest
    pub named : definition.name ≡ name
    pub first : (earlier : Definition) → Contains front earlier → earlier.name ≢ name
    pub query : Expr
    pub stands_for : definition.defined ≡ of.Query query opened

module _ (definitions : List Definition) (line : List ℕ) (tokens : List Token) where
  -- The token at this place opens a named query: it is its name, and doesn't come directly after
  -- a `.`.
  pub record OpensAt (place : ℕ) (opened : Opened) : Type 0 where
    pub token : Token
    pub there : slice_get tokens place ≡ Some token
    pub named : token.kind ≡ k.Name
    pub no_member : (before : ℕ) (other : Token) → place ≡ before + 1
        → slice_get tokens before ≡ Some other → other.kind ≢ k.Dot
    pub of_query : IsNamedQuery definitions (text_of line token) opened

  -- What a token adds to the size of its statement: the size of what it opens, and nothing where it
  -- opens nothing.
  pub data AddsAt (place : ℕ) : ℕ → Type 0 where
    opening : (opened : Opened) → OpensAt place opened → AddsAt place opened.size
    nothing : ((opened : Opened) → OpensAt place opened → ⊥) → AddsAt place 0

  -- The size of a statement is the number of its tokens and the sum of what each of them adds.
  pub record IsSize (size : ℕ) : Type 0 where
    pub added : List ℕ
    pub one_each : length added ≡ length tokens
    pub each : (place n : ℕ) → slice_get added place ≡ Some n → AddsAt place n
    pub whole : size ≡ length tokens + sum added

  -- The rank of a statement is 0 where no token opens anything, and else one more than the greatest
  -- rank among what is opened.
  pub data IsRank : ℕ → Type 0 where
    lowest : ((place : ℕ) (opened : Opened) → OpensAt place opened → ⊥) → IsRank 0
    above : (place : ℕ) (greatest : Opened) → OpensAt place greatest
        → ((other : ℕ) (opened : Opened) → OpensAt other opened → opened.rank ≤ greatest.rank)
        → IsRank (greatest.rank + 1)

-- the size that is found for a statement is its size
abbrev pub FindsSize : Type 0
FindsSize =
    (definitions : List Definition) (line : List ℕ) (tokens : List Token)
    → tokens_of line ≡ Some tokens
    → IsSize definitions line tokens (opening_of definitions line).size

-- the rank that is found for a statement is its rank
abbrev pub FindsRank : Type 0
FindsRank =
    (definitions : List Definition) (line : List ℕ) (tokens : List Token)
    → tokens_of line ≡ Some tokens
    → IsRank definitions line tokens (opening_of definitions line).rank

-- a line that can't be cut into tokens opens nothing
abbrev pub OpensNothing : Type 0
OpensNothing =
    (definitions : List Definition) (line : List ℕ) → tokens_of line ≡ None
    → opening_of definitions line ≡ record { size = 0; rank = 0 }

-- ---- what a named query keeps

-- The statement on a line opens no more than the limits allow.
pub record IsWithinLimits (definitions : List Definition) (line : List ℕ) : Type 0 where
  pub size : (opening_of definitions line).size ≤ size_limit
  pub rank : (opening_of definitions line).rank ≤ rank_limit

-- The state behind a line has one more definition, the newest: this query under this name, with what the line opens.
abbrev pub StoresQuery : State → List ℕ → List ℕ → Expr → State → Type 0
StoresQuery old line name e new =
    new ≡ record old {
      definitions = old.definitions ++ (record { name = name; defined = of.Query e (opening_of old.definitions line) }) ∷ [];
    }

-- a line that says `var`, gives a sequence and is answered as defined stores its expression, and what it opens itself
abbrev pub StoresOpening : Type 0
StoresOpening =
    (old : State) (line name : List ℕ) (e : Expr) (item : Ty)
    → reading_of line ≡ Says (statement.Define name e)
    → expression_type e (names_in old) ≡ Some (ty.Seq item)
    → (step old line).0 ≡ Some (line_of (defined_data name))
    → IsWithinLimits old.definitions line × StoresQuery old line name e (step old line).1
