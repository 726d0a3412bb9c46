-- Primary expressions, arguments of methods and members of `new` are read as they are spelled.
use Rattle.std.proofs.Common.{arith, ◌≡◌, ◌≤◌, ◌<◌, ℕ, suc, zero, true, false, List, [], ◌∷◌, ◌++◌, refl, ap, ◌∙◌, length}
use Rattle.std.specs.Prelude.{Option, Some, None}
use Rattle.std.proofs.lemmas.Bool.{lt-ltb}
use Rattle.lq_grammar.specs.Grammar as s
use Rattle.lq_grammar.specs.Grammar.{host_call, integer, member_of, named}
use Rattle.lq_grammar.specs.TextLiterals.{text_value}
use Rattle.lq_grammar.specs.Parsing as p
use Rattle.lq_grammar.specs.Parsing.{Parser, ◌>>=◌, begins_with, peek, pure}
use Rattle.lq_grammar.specs.Tokens.{decimal_value, text_of}
use Rattle.lq_grammar.specs.declared.syntax.Argument.{Argument}
use Rattle.lq_grammar.specs.declared.syntax.Expr.{Expr}
use Rattle.lq_grammar.specs.declared.syntax.Expr.TheVariants as expr
use Rattle.lq_grammar.specs.declared.syntax.Field.{Field}
use Rattle.lq_grammar.specs.declared.syntax.Level.{Level}
use Rattle.lq_grammar.specs.declared.syntax.Level.TheVariants as level
use Rattle.lq_grammar.specs.declared.syntax.Node.TheVariants as node
use Rattle.lq_grammar.specs.declared.token.Kind.{Kind}
use Rattle.lq_grammar.specs.declared.token.Kind.TheVariants as k
use Rattle.lq_grammar.specs.declared.token.Token.{Token}
use Rattle.lq_grammar.proofs.Following.{not_next, tight}
use Rattle.lq_grammar.proofs.Forwards.{after_sees, after_skips, bind_step, expect_step, name_step, split_middle, turn}
use Rattle.lq_grammar.proofs.ReadParts.{Reads, ReadsOn, PartReadsOver, Turns}

module _ (line : List ℕ) (inner : Level → Parser Expr) where
  -- ---- the starts of primary expressions

  abbrev Selected : Expr → List Token → Type 0
  Selected x ts = ReadsOn 1 (p.primary line inner) (λ turns. p.selections line inner turns x) ts

  -- what a start reads, the members and methods after it go on with
  started : (x : Expr) (ts rest : List Token) → p.start line inner (ts ++ rest) ≡ Some (x, rest) → Turns (p.primary line inner) (λ turns. p.selections line inner turns x) ts rest
  unfolding p.primary
  started x ts rest reads =
      (length rest, omega arith, bind_step (p.start line inner) (λ a tokens. p.selections line inner (length tokens) a tokens) (ts ++ rest) rest x reads)

  start_is : (t : Token) (kind : Kind) (rest : List Token) → t.kind ≡ kind → p.start line inner (t ∷ rest) ≡ p.start_by line inner kind t rest
  unfolding p.start
  start_is t kind rest is = ap (λ a. p.start_by line inner a t rest) is

  pub read_digits : (word : Token) → word.kind ≡ k.Integer → decimal_value (text_of line word) < 2147483648 → Selected (integer (decimal_value (text_of line word))) (word ∷ [])
  read_digits word is below rest stops =
      started _ (word ∷ []) rest (start_is word k.Integer rest is ∙ rw (lt-ltb (decimal_value (text_of line word)) 2147483648 below) refl)

  pub read_text : (word : Token) → word.kind ≡ k.Text → Selected (expr.Node (node.Text (text_value (text_of line word)))) (word ∷ [])
  read_text word is rest stops = started _ (word ∷ []) rest (start_is word k.Text rest is)

  pub read_true : (word : Token) → word.kind ≡ k.True → Selected (expr.Node (node.Bool true)) (word ∷ [])
  read_true word is rest stops = started _ (word ∷ []) rest (start_is word k.True rest is)

  pub read_false : (word : Token) → word.kind ≡ k.False → Selected (expr.Node (node.Bool false)) (word ∷ [])
  read_false word is rest stops = started _ (word ∷ []) rest (start_is word k.False rest is)

  pub read_null : (word : Token) → word.kind ≡ k.Null → Selected (expr.Node node.Null) (word ∷ [])
  read_null word is rest stops = started _ (word ∷ []) rest (start_is word k.Null rest is)

  pub read_name : (word : Token) → word.kind ≡ k.Name → Selected (named (text_of line word)) (word ∷ [])
  read_name word is rest stops = started _ (word ∷ []) rest (start_is word k.Name rest is)

  -- what comes before a parenthesis that closes
  closed : {A B : Type 0} (parser : Parser A) (b : ℕ) (f : A → Parser B) (x : A) (ts rest : List Token) (closing : Token) → b ≤ 13 → Reads b parser x ts
      → closing.kind ≡ k.RightParenthesis → (parser >>= f) ((ts ++ closing ∷ []) ++ rest) ≡ f x (closing ∷ rest)
  unfolding peek
  closed parser b f x ts rest closing low reads is =
      let above : tight closing.kind ≡ 13 = ap tight is in
      bind_step parser f ((ts ++ closing ∷ []) ++ rest) (closing ∷ rest) x (ap parser (split_middle ts closing [] rest) ∙ reads (closing ∷ rest) (omega arith))

  pub read_parentheses : (x : Expr) (ts : List Token) (opening closing : Token) → opening.kind ≡ k.LeftParenthesis → Reads 13 (inner level.Top) x ts
      → closing.kind ≡ k.RightParenthesis → Selected x (opening ∷ (ts ++ closing ∷ []))
  read_parentheses x ts opening closing opening_is reads closing_is rest stops =
      started x (opening ∷ (ts ++ closing ∷ [])) rest
      (start_is opening k.LeftParenthesis _ opening_is ∙ closed (inner level.Top) 13 _ x ts rest closing (omega arith) reads closing_is ∙ expect_step k.RightParenthesis _ closing rest closing_is)

  pub read_asked_of_one : (x : Expr) (ts : List Token) → Reads 10 (inner level.Conditional) x ts → Reads 12 (p.host_arguments line inner) (x, None) ts
  unfolding p.host_arguments
  read_asked_of_one x ts reads rest stops =
      bind_step (inner level.Conditional) _ (ts ++ rest) rest x (reads rest (omega arith)) ∙ after_skips k.Comma _ _ rest (not_next k.Comma rest (omega arith))

  pub read_asked_of_two : (x y : Expr) (xs ys : List Token) (comma : Token) → Reads 10 (inner level.Conditional) x xs → comma.kind ≡ k.Comma
      → Reads 10 (inner level.Conditional) y ys → Reads 12 (p.host_arguments line inner) (x, Some y) (xs ++ comma ∷ ys)
  unfolding p.host_arguments peek
  read_asked_of_two x y xs ys comma first is second rest stops =
      let above : tight comma.kind ≡ 11 = ap tight is in
      ap (p.host_arguments line inner) (split_middle xs comma ys rest)
      ∙ bind_step (inner level.Conditional) _ _ (comma ∷ (ys ++ rest)) x (first _ (omega arith))
      ∙ after_sees k.Comma _ _ comma _ is
      ∙ bind_step (inner level.Conditional) _ _ rest y (second rest (omega arith))

  pub read_host : (x : Expr) (second : Option Expr) (ts : List Token) (word dot predicate opening closing : Token) → word.kind ≡ k.Host → dot.kind ≡ k.Dot → predicate.kind ≡ k.Name
      → opening.kind ≡ k.LeftParenthesis → Reads 12 (p.host_arguments line inner) (x, second) ts → closing.kind ≡ k.RightParenthesis
      → Selected (host_call (text_of line predicate) x second) (word ∷ dot ∷ predicate ∷ opening ∷ (ts ++ closing ∷ []))
  read_host x second ts word dot predicate opening closing word_is dot_is predicate_is opening_is reads closing_is rest stops =
      started _ (word ∷ dot ∷ predicate ∷ opening ∷ (ts ++ closing ∷ [])) rest
      (start_is word k.Host _ word_is ∙ expect_step k.Dot _ dot _ dot_is ∙ name_step line _ predicate _ predicate_is ∙ expect_step k.LeftParenthesis _ opening _ opening_is
      ∙ closed (p.host_arguments line inner) 12 _ (x, second) ts rest closing (omega arith) reads closing_is ∙ expect_step k.RightParenthesis _ closing rest closing_is)

  pub read_record : (fs : List (Field Expr)) (ts : List Token) (word opening closing : Token) → word.kind ≡ k.New → opening.kind ≡ k.LeftBrace → PartReadsOver line inner (s.Fields fs) ts
      → closing.kind ≡ k.RightBrace → Selected (expr.Node (node.New fs)) (word ∷ opening ∷ (ts ++ closing ∷ []))
  read_record fs ts word opening closing word_is opening_is reads closing_is rest stops =
      started _ (word ∷ opening ∷ (ts ++ closing ∷ [])) rest
      (start_is word k.New _ word_is ∙ expect_step k.LeftBrace _ opening _ opening_is
      ∙ bind_step (p.fields line inner) _ ((ts ++ closing ∷ []) ++ rest) rest fs (ap (p.fields line inner) (split_middle ts closing [] rest) ∙ reads closing rest closing_is))

  -- ---- members and methods

  selections_end : (turns : ℕ) (x : Expr) (rest : List Token) → 2 ≤ tight (peek rest) → p.selections line inner turns x rest ≡ Some (x, rest)
  unfolding p.selections
  selections_end zero x rest stops = refl
  selections_end (suc turns) x rest stops = after_skips k.Dot _ _ rest (not_next k.Dot rest (omega arith))

  pub primary_closes : (x : Expr) (ts : List Token) → Selected x ts → Reads 2 (p.primary line inner) x ts
  primary_closes x ts reads rest stops = let (turns, enough, front) = reads rest (omega arith) in front ∙ selections_end turns x rest stops

  member_step : (turns : ℕ) (x : Expr) (dot word : Token) (rest : List Token) → dot.kind ≡ k.Dot → word.kind ≡ k.Name → 1 ≤ tight (peek rest)
      → p.selections line inner (suc turns) x (dot ∷ word ∷ rest) ≡ p.selections line inner turns (member_of x (text_of line word)) rest
  unfolding p.selections
  member_step turns x dot word rest dot_is word_is stops =
      after_sees k.Dot _ _ dot (word ∷ rest) dot_is ∙ name_step line _ word rest word_is ∙ after_skips k.LeftParenthesis _ _ rest (not_next k.LeftParenthesis rest (omega arith))

  pub read_member : (x : Expr) (ts : List Token) (dot word : Token) → Selected x ts → dot.kind ≡ k.Dot → word.kind ≡ k.Name
      → Selected (member_of x (text_of line word)) (ts ++ dot ∷ word ∷ [])
  unfolding peek
  read_member x ts dot word first dot_is word_is rest stops =
      let above : tight dot.kind ≡ 1 = ap tight dot_is in
      let (turns, enough, front) = first (dot ∷ word ∷ rest) (omega arith) in
      let (less, more, left) = turn turns dot (word ∷ []) rest enough in (
        less,
        left,
        ap (p.primary line inner) (split_middle ts dot (word ∷ []) rest) ∙ front ∙ ap (λ n. p.selections line inner n x (dot ∷ word ∷ rest)) more
            ∙ member_step less x dot word rest dot_is word_is stops,
      )

  method_step : (turns : ℕ) (x : Expr) (args : List (Argument Expr)) (ys : List Token) (dot word opening closing : Token) (rest : List Token) → dot.kind ≡ k.Dot → word.kind ≡ k.Name
      → opening.kind ≡ k.LeftParenthesis → PartReadsOver line inner (s.Arguments args) ys → closing.kind ≡ k.RightParenthesis
      → p.selections line inner (suc turns) x (dot ∷ word ∷ opening ∷ ((ys ++ closing ∷ []) ++ rest)) ≡ p.selections line inner turns (expr.Node (node.Method x (text_of line word) args)) rest
  unfolding p.selections
  method_step turns x args ys dot word opening closing rest dot_is word_is opening_is reads closing_is =
      after_sees k.Dot _ _ dot _ dot_is ∙ name_step line _ word _ word_is ∙ after_sees k.LeftParenthesis _ _ opening _ opening_is
      ∙ bind_step (p.arguments line inner) _ ((ys ++ closing ∷ []) ++ rest) rest args (ap (p.arguments line inner) (split_middle ys closing [] rest) ∙ reads closing rest closing_is)

  pub read_method : (x : Expr) (args : List (Argument Expr)) (xs ys : List Token) (dot word opening closing : Token) → Selected x xs → dot.kind ≡ k.Dot → word.kind ≡ k.Name
      → opening.kind ≡ k.LeftParenthesis → PartReadsOver line inner (s.Arguments args) ys → closing.kind ≡ k.RightParenthesis
      → Selected (expr.Node (node.Method x (text_of line word) args)) (xs ++ dot ∷ word ∷ opening ∷ (ys ++ closing ∷ []))
  unfolding peek
  read_method x args xs ys dot word opening closing first dot_is word_is opening_is reads closing_is rest stops =
      let above : tight dot.kind ≡ 1 = ap tight dot_is in
      let (turns, enough, front) = first (dot ∷ word ∷ opening ∷ ((ys ++ closing ∷ []) ++ rest)) (omega arith) in
      let (less, more, left) = turn turns dot (word ∷ opening ∷ (ys ++ closing ∷ [])) rest enough in (
        less,
        left,
        ap (p.primary line inner) (split_middle xs dot (word ∷ opening ∷ (ys ++ closing ∷ [])) rest) ∙ front
            ∙ ap (λ n. p.selections line inner n x (dot ∷ word ∷ opening ∷ ((ys ++ closing ∷ []) ++ rest))) more
            ∙ method_step less x args ys dot word opening closing rest dot_is word_is opening_is reads closing_is,
      )
