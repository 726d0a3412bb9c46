-- Conditional, coalescing, binary and unary expressions are read as they are spelled.
use Rattle.std.proofs.Common.{arith, ◌≡◌, ◌≤◌, ◌+◌, ℕ, suc, zero, true, List, [], ◌∷◌, ◌++◌, refl, ap, ◌∙◌, length}
use Rattle.std.specs.Prelude.{Some}
use Rattle.std.proofs.lemmas.Bool.{eq-eqb}
use Rattle.lq_grammar.specs.Grammar as s
use Rattle.lq_grammar.specs.Grammar.{least, levels, operation_of, operator}
use Rattle.lq_grammar.specs.Parsing as p
use Rattle.lq_grammar.specs.Parsing.{Parser, ◌>>=◌, begins_with, peek, pure}
use Rattle.lq_grammar.specs.Tokens.{decimal_value, text_of}
use Rattle.lq_grammar.specs.declared.syntax.Expr.{Expr}
use Rattle.lq_grammar.specs.declared.syntax.Expr.TheVariants as expr
use Rattle.lq_grammar.specs.declared.syntax.Infix.{Infix}
use Rattle.lq_grammar.specs.declared.syntax.Level.{Level}
use Rattle.lq_grammar.specs.declared.syntax.Level.TheVariants as level
use Rattle.lq_grammar.specs.declared.syntax.Node.TheVariants as node
use Rattle.lq_grammar.specs.declared.syntax.Query.{Query}
use Rattle.lq_grammar.specs.declared.syntax.Unary.TheVariants as unary
use Rattle.lq_grammar.specs.declared.token.Kind.TheVariants as k
use Rattle.lq_grammar.specs.declared.token.Token.{Token}
use Rattle.lq_grammar.proofs.FirstTokens.{Opening}
use Rattle.lq_grammar.proofs.Following.{no_operator, not_next, operator_tight, tight}
use Rattle.lq_grammar.proofs.Forwards.{after_sees, after_skips, begins_false, bind_step, expect_step, same_kind_true, split_middle, turn}
use Rattle.lq_grammar.proofs.ReadParts.{ChainReads, Reads, PartReadsOver}

module _ (line : List ℕ) (inner : Level → Parser Expr) where
  -- ---- conditional and coalescing expressions

  pub read_unconditional : (x : Expr) (ts : List Token) → Reads 9 (p.coalescing line inner) x ts → Reads 10 (p.conditional line inner) x ts
  unfolding p.conditional
  read_unconditional x ts reads rest stops =
      bind_step (p.coalescing line inner) _ (ts ++ rest) rest x (reads rest (omega arith)) ∙ after_skips k.Question _ _ rest (not_next k.Question rest (omega arith))

  pub read_choice : (x y z : Expr) (xs ys zs : List Token) (question colon : Token) → Reads 9 (p.coalescing line inner) x xs → question.kind ≡ k.Question
      → Reads 10 (inner level.Conditional) y ys → colon.kind ≡ k.Colon → Reads 10 (inner level.Conditional) z zs
      → Reads 10 (p.conditional line inner) (expr.Node (node.Conditional x y z)) (xs ++ question ∷ (ys ++ colon ∷ zs))
  unfolding p.conditional peek
  read_choice x y z xs ys zs question colon first question_is second colon_is third rest stops =
      let question_above : tight question.kind ≡ 9 = ap tight question_is in
      let colon_above : tight colon.kind ≡ 13 = ap tight colon_is in
      ap (p.conditional line inner) (split_middle xs question (ys ++ colon ∷ zs) rest)
      ∙ bind_step (p.coalescing line inner) _ _ (question ∷ ((ys ++ colon ∷ zs) ++ rest)) x (first _ (omega arith))
      ∙ after_sees k.Question _ _ question _ question_is
      ∙ bind_step (inner level.Conditional) _ _ (colon ∷ (zs ++ rest)) y (ap (inner level.Conditional) (split_middle ys colon zs rest) ∙ second _ (omega arith))
      ∙ expect_step k.Colon _ colon _ colon_is
      ∙ bind_step (inner level.Conditional) _ _ rest z (third rest stops)

  pub read_coalescing : (x y : Expr) (xs ys : List Token) (sign : Token) → Reads 8 (p.chain line inner levels) x xs → sign.kind ≡ k.Coalesce
      → Reads 9 (inner level.Coalescing) y ys → Reads 9 (p.coalescing line inner) (expr.Node (node.Coalesce x y)) (xs ++ sign ∷ ys)
  unfolding p.coalescing peek
  read_coalescing x y xs ys sign first is second rest stops =
      let above : tight sign.kind ≡ 8 = ap tight is in
      ap (p.coalescing line inner) (split_middle xs sign ys rest)
      ∙ bind_step (p.chain line inner levels) _ _ (sign ∷ (ys ++ rest)) x (first _ (omega arith))
      ∙ after_sees k.Coalesce _ _ sign _ is
      ∙ bind_step (inner level.Coalescing) _ _ rest y (second rest stops)

  pub read_present : (x : Expr) (ts : List Token) → Reads 8 (p.chain line inner levels) x ts → Reads 9 (p.coalescing line inner) x ts
  unfolding p.coalescing
  read_present x ts reads rest stops =
      bind_step (p.chain line inner levels) _ (ts ++ rest) rest x (reads rest (omega arith)) ∙ after_skips k.Coalesce _ _ rest (not_next k.Coalesce rest (omega arith))

  -- ---- operators between two operands

  abbrev Chained : ℕ → Expr → List Token → Type 0
  Chained l x ts = ChainReads line inner l x ts

  operations_end : (operand : Parser Expr) (l turns : ℕ) (x : Expr) (rest : List Token) → l + 3 ≤ tight (peek rest) → p.operations line inner operand l turns x rest ≡ Some (x, rest)
  unfolding p.operations
  operations_end operand l zero x rest stops = refl
  operations_end operand l (suc turns) x rest stops =
      ap (λ o. p.operation_by line inner operand (p.operations line inner operand l turns) x o rest) (no_operator l (peek rest) stops)

  operations_step : (operand : Parser Expr) (l turns : ℕ) (x y : Expr) (sign : Token) (op : Infix) (ys rest : List Token) → operator l sign.kind ≡ Some op
      → operand (ys ++ rest) ≡ Some (y, rest)
      → p.operations line inner operand l (suc turns) x (sign ∷ (ys ++ rest)) ≡ p.operations line inner operand l turns (operation_of op x y) rest
  unfolding p.operations peek p.behind
  operations_step operand l turns x y sign op ys rest is second =
      ap (λ o. p.operation_by line inner operand (p.operations line inner operand l turns) x o (sign ∷ (ys ++ rest))) is
      ∙ bind_step operand (λ b. p.operations line inner operand l turns (operation_of op x b)) (ys ++ rest) rest y second

  -- a chain is read whole before a token that goes on more loosely than its operators
  pub chain_closes : (l : ℕ) (x : Expr) (ts : List Token) → Chained l x ts → Reads (l + 2) (p.chain line inner l) x ts
  chain_closes zero x ts reads rest stops = reads rest (omega arith)
  chain_closes (suc l) x ts reads rest stops =
      let (turns, enough, front) = reads rest (omega arith) in
      front ∙ operations_end (p.chain line inner l) l turns x rest (omega arith)

  pub read_prefixed : (x : Expr) (ts : List Token) → Reads 2 (p.prefix line inner) x ts → Chained zero x ts
  unfolding p.chain
  read_prefixed x ts reads = reads

  pub read_tighter : (l : ℕ) (x : Expr) (ts : List Token) → Chained l x ts → Chained (suc l) x ts
  unfolding p.chain
  read_tighter l x ts reads rest stops = (
    length rest,
    omega arith,
    bind_step (p.chain line inner l) (λ a tokens. p.operations line inner (p.chain line inner l) l (length tokens) a tokens) (ts ++ rest) rest x
        (chain_closes l x ts reads rest (omega arith)),
  )

  pub read_operation : (l : ℕ) (x y : Expr) (xs ys : List Token) (sign : Token) (op : Infix) → Chained (suc l) x xs → operator l sign.kind ≡ Some op → Chained l y ys
      → Chained (suc l) (operation_of op x y) (xs ++ sign ∷ ys)
  unfolding peek
  read_operation l x y xs ys sign op first is second rest stops =
      let above : tight sign.kind ≡ l + 2 = operator_tight l op sign.kind is in
      let (turns, enough, front) = first (sign ∷ (ys ++ rest)) (omega arith) in
      let (less, more, left) = turn turns sign ys rest enough in (
        less,
        left,
        ap (p.chain line inner (suc l)) (split_middle xs sign ys rest) ∙ front
            ∙ ap (λ n. p.operations line inner (p.chain line inner l) l n x (sign ∷ (ys ++ rest))) more
            ∙ operations_step (p.chain line inner l) l less x y sign op ys rest is (chain_closes l y ys second rest (omega arith)),
      )

  -- ---- unary expressions

  pub read_primary : (x : Expr) (ts : List Token) → Opening line 0 ts → Reads 2 (p.primary line inner) x ts → Reads 2 (p.prefix line inner) x ts
  unfolding p.prefix
  read_primary x ts first reads rest stops =
      after_skips k.Not _ _ (ts ++ rest) (first.begins k.Not rest (omega arith)) ∙ after_skips k.Minus _ _ (ts ++ rest) (first.begins k.Minus rest (omega arith)) ∙ reads rest stops

  pub read_negation : (x : Expr) (ts : List Token) (sign : Token) → sign.kind ≡ k.Not → Reads 2 (inner level.Unary) x ts
      → Reads 2 (p.prefix line inner) (expr.Node (node.Unary unary.Not x)) (sign ∷ ts)
  unfolding p.prefix
  read_negation x ts sign is reads rest stops = after_sees k.Not _ _ sign (ts ++ rest) is ∙ bind_step (inner level.Unary) _ (ts ++ rest) rest x (reads rest stops)

  minus_step : (sign : Token) (rest : List Token) → sign.kind ≡ k.Minus → p.prefix line inner (sign ∷ rest) ≡ p.below_zero line inner rest
  unfolding p.prefix
  minus_step sign rest is = after_skips k.Not _ _ (sign ∷ rest) (begins_false k.Not sign rest (λ e. cc)) ∙ after_sees k.Minus _ _ sign rest is

  pub read_minus : (x : Expr) (ts : List Token) (sign : Token) → sign.kind ≡ k.Minus → Opening line 1 ts → Reads 2 (inner level.Unary) x ts
      → Reads 2 (p.prefix line inner) (expr.Node (node.Unary unary.Minus x)) (sign ∷ ts)
  unfolding p.below_zero
  read_minus x ts sign is first reads rest stops =
      minus_step sign (ts ++ rest) is ∙ rw (first.least inner rest) (bind_step (inner level.Unary) _ (ts ++ rest) rest x (reads rest stops))

  least_digits : (digits : Token) (rest : List Token) → digits.kind ≡ k.Integer → decimal_value (text_of line digits) ≡ 2147483648 → p.is_least line inner (digits ∷ rest) ≡ true
  least_digits digits rest is value = rw (same_kind_true digits.kind k.Integer is) (eq-eqb (decimal_value (text_of line digits)) 2147483648 value)

  pub read_least : (sign digits : Token) → sign.kind ≡ k.Minus → digits.kind ≡ k.Integer → decimal_value (text_of line digits) ≡ 2147483648
      → Reads 2 (p.prefix line inner) least (sign ∷ digits ∷ [])
  unfolding p.below_zero
  read_least sign digits sign_is digits_are value rest stops =
      minus_step sign (digits ∷ rest) sign_is ∙ rw (least_digits digits rest digits_are value) (expect_step k.Integer (λ token. pure least) digits rest digits_are)

  -- ---- a query or a conditional expression

  pub read_top_query : (q : Query Expr) (ts : List Token) → PartReadsOver line inner (s.Queried q) ts → Reads 13 (p.top line inner) (expr.Query q) ts
  unfolding p.top
  read_top_query q ts reads rest stops = let (from, front) = reads rest stops in rw from (bind_step (p.query line inner) _ (ts ++ rest) rest q front)

  pub read_top_other : (x : Expr) (ts : List Token) → Opening line 1 ts → Reads 10 (p.conditional line inner) x ts → Reads 13 (p.top line inner) x ts
  unfolding p.top
  read_top_other x ts first reads rest stops = rw (first.begins k.From rest (omega arith)) (reads rest (omega arith))
