-- What is read after the first token.
use Rattle.std.proofs.Common.{◌≡◌, ℕ, suc, Bool, true, false, List, [], ◌∷◌, ◌++◌, refl, cond, length, ◌-◌}
use Rattle.std.specs.Prelude.{Option, Some, None, Result, Ok, Err, ◌==◌, slice_get, is_some}
use Rattle.std.proofs.lemmas.Option.{some_pair_parts}
use Rattle.lq_grammar.specs.Parsing.{Parser, ◌>>=◌, after, arguments, begins_with, behind, body, chain, clauses_by, continuations, expect, field, more_fields, name, operations, peek, selections, same_kind, is_least, cell, cell_by, field_by, start, start_by, statement_line, statement_by}
use Rattle.lq_grammar.specs.Grammar.{member_of, operation_of, operator}
use Rattle.lq_grammar.specs.Tokens.{decimal_value, text_of}
use Rattle.lq_grammar.specs.declared.syntax.Argument.{Argument}
use Rattle.lq_grammar.specs.declared.syntax.Body.{Body}
use Rattle.lq_grammar.specs.declared.syntax.Clause.{Clause}
use Rattle.lq_grammar.specs.declared.syntax.Continuation.{Continuation}
use Rattle.lq_grammar.specs.declared.syntax.Expr.{Expr}
use Rattle.lq_grammar.specs.declared.syntax.Expr.TheVariants as expr
use Rattle.lq_grammar.specs.declared.syntax.Field.{Field}
use Rattle.lq_grammar.specs.declared.syntax.Infix.{Infix}
use Rattle.lq_grammar.specs.declared.syntax.Level.{Level}
use Rattle.lq_grammar.specs.declared.syntax.Level.TheVariants as level
use Rattle.lq_grammar.specs.declared.syntax.Node.TheVariants as node
use Rattle.lq_grammar.specs.declared.token.Kind.TheVariants as k
use Rattle.lq_grammar.specs.declared.token.Token.{Token}
use Rattle.lq_syntax.specs.declared.error.ParseError.{ParseError}
use Rattle.lq_syntax.specs.declared.error.ParseError.TheVariants as parse
use Rattle.lq_syntax.specs.Outcome.{Reads}
use Rattle.lq_syntax.specs.Parts.{any_token, field_as, found_or_refuse, named_by, named_last}

pub cell_none : (line : List ℕ) (tokens : List Token) → any_token tokens ≡ None → cell line tokens ≡ None
unfolding cell
cell_none line [] none = refl
cell_none line (token ∷ tokens) none = absurd (cc)

pub cell_some : (line : List ℕ) (tokens behind : List Token) (token : Token) → any_token tokens ≡ Some (token, behind) → cell line tokens ≡ cell_by line token.kind token behind
unfolding cell
cell_some line [] behind token some = absurd (cc)
cell_some line (first ∷ tokens) behind token some =
    let same = some_pair_parts first token tokens behind some in rw (same.0, same.1) refl

abbrev field_of : List ℕ → Expr → Field Expr
field_of name x = record { name = name; value = x }

abbrev pub continuation_of : List ℕ → Body Expr → Continuation Expr
continuation_of x b = record { name = x; body = b }

module _ (line : List ℕ) (inner : Level → Parser Expr) where
  pub start_none : (tokens : List Token) → any_token tokens ≡ None → start line inner tokens ≡ None
  unfolding start
  start_none [] none = refl
  start_none (token ∷ tokens) none = absurd (cc)

  pub start_some : (tokens behind : List Token) (token : Token) → any_token tokens ≡ Some (token, behind) → start line inner tokens ≡ start_by line inner token.kind token behind
  unfolding start
  start_some [] behind token some = absurd (cc)
  start_some (first ∷ tokens) behind token some =
      let same = some_pair_parts first token tokens behind some in rw (same.0, same.1) refl

  pub statement_none : (tokens : List Token) → any_token tokens ≡ None → statement_line line inner tokens ≡ None
  unfolding statement_line
  statement_none [] none = refl
  statement_none (token ∷ tokens) none = absurd (cc)

  pub statement_some : (tokens behind : List Token) (token : Token) → any_token tokens ≡ Some (token, behind)
      → statement_line line inner tokens ≡ statement_by line inner token.kind token behind
  unfolding statement_line
  statement_some [] behind token some = absurd (cc)
  statement_some (first ∷ tokens) behind token some =
      let same = some_pair_parts first token tokens behind some in rw (same.0, same.1) refl

  pub least_none : (tokens : List Token) → tokens ≡ [] → is_least line inner tokens ≡ false
  least_none tokens is = rw is refl

  pub least_some : (tokens behind : List Token) (token : Token) → tokens ≡ token ∷ behind → same_kind token.kind k.Integer ≡ true
      → is_least line inner tokens ≡ (decimal_value (text_of line token) == 2147483648)
  least_some tokens behind token is integer = rw is (rw integer refl)

  pub least_other : (tokens behind : List Token) (token : Token) → tokens ≡ token ∷ behind → same_kind token.kind k.Integer ≡ false → is_least line inner tokens ≡ false
  least_other tokens behind token is other = rw is (rw other refl)

  -- a member that ends in its name
  pub field_none : (x : Expr) (last : Option Token) (tokens : List Token) → named_by line last tokens ≡ None → field_by line inner x last tokens ≡ None
  field_none x None tokens none = refl
  field_none x (Some token) tokens none =
      let Case : Bool → Type 0 = λ b. cond {A = Option (List ℕ × List Token)} b (Some (text_of line token, tokens)) None ≡ None → cond {A = Option (Field Expr × List Token)} b (Some (field_of (text_of line token) x, tokens)) None ≡ None in
      let by : (b : Bool) → Case b = elim [ true ↦ λ e. absurd (cc) | false ↦ λ e. refl ] in
      by (same_kind token.kind k.Name) none

  pub field_some : (x : Expr) (last : Option Token) (tokens behind : List Token) (name : List ℕ) → named_by line last tokens ≡ Some (name, behind)
      → field_by line inner x last tokens ≡ Some (field_of name x, behind)
  field_some x None tokens behind name some = absurd (cc)
  field_some x (Some token) tokens behind name some =
      let Case : Bool → Type 0 = λ b. cond {A = Option (List ℕ × List Token)} b (Some (text_of line token, tokens)) None ≡ Some (name, behind)
      → cond {A = Option (Field Expr × List Token)} b (Some (field_of (text_of line token) x, tokens)) None ≡ Some (field_of name x, behind) in
      let by : (b : Bool) → Case b = elim [
        | true ↦ λ e. let same = some_pair_parts (text_of line token) name tokens behind e in rw (same.0, same.1) refl
        | false ↦ λ e. absurd (cc)
      ] in
      by (same_kind token.kind k.Name) some

  pub unnamed : (tokens left : List Token) (x : Expr) → inner level.Primary tokens ≡ Some (x, left)
      → named_by line (slice_get tokens (length tokens - length left - 1)) left ≡ None → named_last line inner tokens ≡ None
  unnamed tokens left x read none = rw read (field_none x (slice_get tokens (length tokens - length left - 1)) left none)

  pub named : (tokens left : List Token) (x : Expr) (name : List ℕ) → inner level.Primary tokens ≡ Some (x, left)
      → named_by line (slice_get tokens (length tokens - length left - 1)) left ≡ Some (name, left) → named_last line inner tokens ≡ Some (field_of name x, left)
  named tokens left x name read some = rw read (field_some x (slice_get tokens (length tokens - length left - 1)) left left name some)

  pub named_or_not : (tokens left : List Token) (x : Expr) (name : Result (List ℕ) ParseError) → inner level.Primary tokens ≡ Some (x, left)
      → Reads (named_by line (slice_get tokens (length tokens - length left - 1)) left) name left → Reads (named_last line inner tokens) (field_as name x) left
  named_or_not tokens left x (Ok name) read some = named tokens left x name read some
  named_or_not tokens left x (Err parse.Syntax) read none = unnamed tokens left x read none
  named_or_not tokens left x (Err parse.Memory) read unknown = tt

  -- ---- one turn over clauses

  pub no_clause : (more : List (Clause Expr) → Parser (List (Clause Expr))) (cs : List (Clause Expr)) (o : Option (Parser (Clause Expr))) (tokens : List Token)
      → is_some o ≡ false → clauses_by line inner more cs o tokens ≡ Some (cs, tokens)
  no_clause more cs None tokens none = refl
  no_clause more cs (Some found) tokens none = absurd (cc)

  pub a_clause : (more : List (Clause Expr) → Parser (List (Clause Expr))) (cs : List (Clause Expr)) (o : Option (Parser (Clause Expr))) (tokens : List Token)
      → is_some o ≡ true → clauses_by line inner more cs o tokens ≡ (found_or_refuse o >>= (λ c. more (cs ++ c ∷ []))) (behind tokens)
  a_clause more cs None tokens some = absurd (cc)
  a_clause more cs (Some found) tokens some = refl

  -- one turn over members
  pub a_field : (n : ℕ) (fs : List (Field Expr)) (tokens mid left : List Token) (comma : Token) (f : Field Expr) → begins_with k.RightBrace tokens ≡ false
      → expect k.Comma tokens ≡ Some (comma, mid) → begins_with k.RightBrace mid ≡ false → field line inner mid ≡ Some (f, left)
      → more_fields line inner (suc n) fs tokens ≡ more_fields line inner n (fs ++ f ∷ []) left
  unfolding more_fields after
  a_field n fs tokens mid left comma f open_still commas another read = rw (open_still, commas) (rw another (rw read refl))

  -- one turn over continuations
  pub a_continuation : (n : ℕ) (rest : List (Continuation Expr)) (tokens mid left out : List Token) (into : Token) (x : List ℕ) (b : Body Expr) → begins_with k.Into tokens ≡ true
      → expect k.Into tokens ≡ Some (into, mid) → name line mid ≡ Some (x, left) → body line inner left ≡ Some (b, out)
      → continuations line inner (suc n) rest tokens ≡ continuations line inner n (rest ++ continuation_of x b ∷ []) out
  unfolding continuations after
  a_continuation n rest tokens mid left out into x b begins goes_on named bodied = rw (begins, goes_on) (rw named (rw bodied refl))

  -- one turn over members and methods after an expression
  pub a_member : (n : ℕ) (x : Expr) (tokens mid left : List Token) (dot : Token) (m : List ℕ) → begins_with k.Dot tokens ≡ true → expect k.Dot tokens ≡ Some (dot, mid)
      → name line mid ≡ Some (m, left) → begins_with k.LeftParenthesis left ≡ false → selections line inner (suc n) x tokens ≡ selections line inner n (member_of x m) left
  unfolding selections after
  a_member n x tokens mid left dot m begins dots named alone = rw (begins, dots) (rw named (rw alone refl))

  pub a_method : (n : ℕ) (x : Expr) (tokens mid left inside out : List Token) (dot opening : Token) (m : List ℕ) (args : List (Argument Expr)) → begins_with k.Dot tokens ≡ true
      → expect k.Dot tokens ≡ Some (dot, mid) → name line mid ≡ Some (m, left) → begins_with k.LeftParenthesis left ≡ true → expect k.LeftParenthesis left ≡ Some (opening, inside)
      → arguments line inner inside ≡ Some (args, out) → selections line inner (suc n) x tokens ≡ selections line inner n (expr.Node (node.Method x m args)) out
  unfolding selections after
  a_method n x tokens mid left inside out dot opening m args begins dots named called opens given = rw (begins, dots) (rw named (rw (called, opens) (rw given refl)))

  -- one turn over the operators of a level
  pub no_operation : (operand : Parser Expr) (l n : ℕ) (x : Expr) (tokens : List Token) → operator l (peek tokens) ≡ None
      → operations line inner operand l (suc n) x tokens ≡ Some (x, tokens)
  unfolding operations
  no_operation operand l n x tokens none = rw none refl

  pub an_operation : (operand : Parser Expr) (l n : ℕ) (x y : Expr) (tokens left : List Token) (op : Infix) → operator l (peek tokens) ≡ Some op → operand (behind tokens) ≡ Some (y, left)
      → operations line inner operand l (suc n) x tokens ≡ operations line inner operand l n (operation_of op x y) left
  unfolding operations
  an_operation operand l n x y tokens left op found read = rw found (rw read refl)

  pub no_operand : (operand : Parser Expr) (l n : ℕ) (x : Expr) (tokens : List Token) (op : Infix) → operator l (peek tokens) ≡ Some op → operand (behind tokens) ≡ None
      → operations line inner operand l (suc n) x tokens ≡ None
  unfolding operations
  no_operand operand l n x tokens op found none = rw found (rw none refl)

  pub chain_refuses : (l : ℕ) (tokens : List Token) → chain line inner l tokens ≡ None → chain line inner (suc l) tokens ≡ None
  unfolding chain
  chain_refuses l tokens none = rw none refl

  pub chain_reads : (l : ℕ) (tokens left : List Token) (x : Expr) → chain line inner l tokens ≡ Some (x, left)
      → chain line inner (suc l) tokens ≡ operations line inner (chain line inner l) l (length left) x left
  unfolding chain
  chain_reads l tokens left x read = rw read refl
