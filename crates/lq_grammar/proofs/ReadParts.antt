-- What the function of a part reads where tokens that spell the part come before others.
use Rattle.std.proofs.Common.{◌≡◌, ◌≤◌, ◌+◌, ℕ, suc, zero, true, List, [], ◌∷◌, ◌++◌, length}
use Rattle.std.specs.Prelude.{None, Some}
use Rattle.lq_grammar.specs.Grammar as s
use Rattle.lq_grammar.specs.Grammar.{Part, Spells}
use Rattle.lq_grammar.specs.Parsing as p
use Rattle.lq_grammar.specs.Parsing.{Parser, begins_with, expression, peek}
use Rattle.lq_grammar.specs.declared.syntax.Clause.{Clause}
use Rattle.lq_grammar.specs.declared.syntax.Expr.{Expr}
use Rattle.lq_grammar.specs.declared.syntax.Level.{Level}
use Rattle.lq_grammar.specs.declared.token.Kind.TheVariants as k
use Rattle.lq_grammar.specs.declared.token.Token.{Token}
use Rattle.lq_grammar.proofs.Following.{tight}

-- a reader finds a tree where these tokens come before others that go on no more tightly than the number says
abbrev pub Reads : {A : Type 0} → ℕ → Parser A → A → List Token → Type 0
Reads b parser x ts = (rest : List Token) → b ≤ tight (peek rest) → parser (ts ++ rest) ≡ Some (x, rest)

-- A reader of a row comes to the loop that goes on after these tokens, with a turn at least for each token that is left.
abbrev pub Turns : {A : Type 0} → Parser A → (ℕ → Parser A) → List Token → List Token → Type 0
Turns parser loop ts rest = (turns : ℕ) × (length rest ≤ turns) × (parser (ts ++ rest) ≡ loop turns rest)

abbrev pub ReadsOn : {A : Type 0} → ℕ → Parser A → (ℕ → Parser A) → List Token → Type 0
ReadsOn b parser loop ts = (rest : List Token) → b ≤ tight (peek rest) → Turns parser loop ts rest

module _ (line : List ℕ) (inner : Level → Parser Expr) where
  abbrev pub ChainReads : ℕ → Expr → List Token → Type 0
  ChainReads zero x ts = Reads 2 (p.chain line inner zero) x ts
  ChainReads (suc l) x ts = ReadsOn (l + 2) (p.chain line inner (suc l)) (λ turns. p.operations line inner (p.chain line inner l) l turns x) ts

  -- one clause adds itself to those before it
  abbrev pub ClauseReads : Clause Expr → List Token → Type 0
  ClauseReads c ts =
      (1 ≤ length ts)
      × ((rest : List Token) → 13 ≤ tight (peek rest)
      → (13 ≤ tight (peek (ts ++ rest))) × ((turns : ℕ) (cs : List (Clause Expr)) → p.clauses line inner (suc turns) cs (ts ++ rest) ≡ p.clauses line inner turns (cs ++ c ∷ []) rest))

  -- A part that its own first line leads back to is read on by a loop; the others are read whole. Queries say too how their
  -- first token goes on with what comes before it.
  abbrev pub PartReadsOver : Part → List Token → Type 0
  PartReadsOver (s.Line x) ts = p.statement_line line inner ts ≡ Some (x, [])
  PartReadsOver (s.Cells cs) ts = ReadsOn 0 (p.cells line) (λ turns. p.more_cells line turns cs) ts
  PartReadsOver (s.Cell c) ts = Reads 0 (p.cell line) c ts
  PartReadsOver (s.Top x) ts = Reads 13 (p.top line inner) x ts
  PartReadsOver (s.Conditional x) ts = Reads 10 (p.conditional line inner) x ts
  PartReadsOver (s.Coalescing x) ts = Reads 9 (p.coalescing line inner) x ts
  PartReadsOver (s.Chain l x) ts = ChainReads l x ts
  PartReadsOver (s.Prefix x) ts = Reads 2 (p.prefix line inner) x ts
  PartReadsOver (s.Primary x) ts = ReadsOn 1 (p.primary line inner) (λ turns. p.selections line inner turns x) ts
  PartReadsOver (s.HostArguments x second) ts = Reads 12 (p.host_arguments line inner) (x, second) ts
  PartReadsOver (s.Fields fs) ts =
      (closing : Token) (rest : List Token) → closing.kind ≡ k.RightBrace → p.fields line inner (ts ++ closing ∷ rest) ≡ Some (fs, rest)
  PartReadsOver (s.SomeFields fs) ts = ReadsOn 10 (p.fields line inner) (λ turns. p.more_fields line inner turns fs) ts
  PartReadsOver (s.OneField f) ts = Reads 10 (p.field line inner) f ts
  PartReadsOver (s.Arguments args) ts =
      (closing : Token) (rest : List Token) → closing.kind ≡ k.RightParenthesis → p.arguments line inner (ts ++ closing ∷ rest) ≡ Some (args, rest)
  PartReadsOver (s.SomeArguments args) ts = ReadsOn 10 (p.some_arguments line inner) (λ turns. p.more_arguments line inner turns args) ts
  PartReadsOver (s.OneArgument a) ts = Reads 10 (p.argument_at line inner) a ts
  PartReadsOver (s.Queried q) ts =
      (rest : List Token) → 13 ≤ tight (peek rest) → (begins_with k.From (ts ++ rest) ≡ true) × (p.query line inner (ts ++ rest) ≡ Some (q, rest))
  PartReadsOver (s.Continuations cs) ts =
      (rest : List Token) → 10 ≤ tight (peek rest)
      → (10 ≤ tight (peek (ts ++ rest))) × Turns (λ tokens. p.continuations line inner (length tokens) [] tokens) (λ turns. p.continuations line inner turns cs) ts rest
  PartReadsOver (s.Bodied b) ts = (rest : List Token) → 10 ≤ tight (peek rest) → (10 ≤ tight (peek (ts ++ rest))) × (p.body line inner (ts ++ rest) ≡ Some (b, rest))
  PartReadsOver (s.Clauses cs) ts =
      (rest : List Token) → 13 ≤ tight (peek rest)
      → (13 ≤ tight (peek (ts ++ rest))) × Turns (λ tokens. p.clauses line inner (length tokens) [] tokens) (λ turns. p.clauses line inner turns cs) ts rest
  PartReadsOver (s.OneClause c) ts = ClauseReads c ts
  PartReadsOver (s.Keys ks) ts = ReadsOn 11 (p.keys line inner) (λ turns. p.more_keys line inner turns ks) ts
  PartReadsOver (s.OneKey key) ts = Reads 11 (p.key line inner) key ts
  PartReadsOver (s.Ending l) ts =
      (rest : List Token) → 10 ≤ tight (peek rest)
      → (13 ≤ tight (peek (ts ++ rest))) × (p.clause_by line inner (peek (ts ++ rest)) ≡ None) × (p.ending line inner (ts ++ rest) ≡ Some (l, rest))

-- where the lines that lead back do so at most n times
abbrev pub PartReads : List ℕ → ℕ → Part → List Token → Type 0
PartReads line n part ts = PartReadsOver line (expression line n) part ts

-- how often the lines lead back at most: a member, an argument, a key and what a predicate is asked of lead back before they take a token
abbrev pub room : Part → List Token → ℕ
room (s.HostArguments x second) ts = suc (length ts)
room (s.OneField f) ts = suc (length ts)
room (s.SomeFields fs) ts = suc (length ts)
room (s.Fields fs) ts = suc (length ts)
room (s.OneArgument a) ts = suc (length ts)
room (s.SomeArguments args) ts = suc (length ts)
room (s.Arguments args) ts = suc (length ts)
room (s.OneKey key) ts = suc (length ts)
room (s.Keys ks) ts = suc (length ts)
room part ts = length ts
