-- How the tokens of an expression begin: which token comes first, and which may come second.
use Rattle.std.proofs.Common.{arith, ◌≡◌, ◌≤◌, ◌<◌, ℕ, false, List, [], ◌∷◌, ◌++◌, refl, ap, sym, ◌∙◌}
use Rattle.std.specs.Prelude.{◌+◌, Some}
use Rattle.std.proofs.lemmas.Bool.{ne_eqb}
use Rattle.lq_grammar.specs.Grammar as s
use Rattle.lq_grammar.specs.Grammar.{Part, Spells, operator}
use Rattle.lq_grammar.specs.Parsing.{Parser, begins_with, begins_with_two, is_least, peek}
use Rattle.lq_grammar.specs.Tokens.{decimal_value, text_of}
use Rattle.lq_grammar.specs.declared.syntax.Expr.{Expr}
use Rattle.lq_grammar.specs.declared.syntax.Infix.{Infix}
use Rattle.lq_grammar.specs.declared.syntax.Level.{Level}
use Rattle.lq_grammar.specs.declared.token.Kind.{Kind}
use Rattle.lq_grammar.specs.declared.token.Kind.TheVariants as k
use Rattle.lq_grammar.specs.declared.token.Token.{Token}
use Rattle.lq_grammar.proofs.Following.{tight, not_next, operator_tight}
use Rattle.lq_grammar.proofs.Forwards.{begins_false, pair_false, pair_half, same_kind_true, same_kind_false, split_middle}

-- what a token may begin: 0 a primary expression, 1 a unary one, 2 no expression
abbrev pub starts : Kind → ℕ
starts k.Integer = 0
starts k.Text = 0
starts k.True = 0
starts k.False = 0
starts k.Null = 0
starts k.Name = 0
starts k.LeftParenthesis = 0
starts k.Host = 0
starts k.New = 0
starts k.Not = 1
starts k.Minus = 1
starts kind = 2

-- the first token begins no more than the number says
abbrev pub Begun : ℕ → List Token → Type 0
Begun b ts = (kind : Kind) (rest : List Token) → b < starts kind → begins_with kind (ts ++ rest) ≡ false

-- the first tokens of an expression: not a name with an arrow or `=`, and not 2147483648
pub record Opening (line : List ℕ) (b : ℕ) (ts : List Token) : Type 0 where
  pub begins : Begun b ts
  pub pair : (kind : Kind) (rest : List Token) → tight kind ≡ 0 → 1 ≤ tight (peek rest) → begins_with_two k.Name kind (ts ++ rest) ≡ false
  pub least : (inner : Level → Parser Expr) (rest : List Token) → is_least line inner (ts ++ rest) ≡ false

begun : (b : ℕ) (t : Token) (ts : List Token) → starts t.kind ≤ b → Begun b (t ∷ ts)
begun b t ts low kind rest above = begins_false kind t (ts ++ rest) (λ is. let same : starts t.kind ≡ starts kind = ap starts is in omega arith)

begun_longer : (b : ℕ) (xs ys : List Token) (t : Token) → Begun b xs → Begun b (xs ++ t ∷ ys)
begun_longer b xs ys t first kind rest above = ap (begins_with kind) (split_middle xs t ys rest) ∙ first kind (t ∷ (ys ++ rest)) above

not_least : (line : List ℕ) (inner : Level → Parser Expr) (t : Token) (rest : List Token) → (t.kind ≡ k.Integer → ⊥) → is_least line inner (t ∷ rest) ≡ false
not_least line inner t rest differ = rw (same_kind_false t.kind k.Integer differ) refl

-- a token that is neither a name nor digits
opening_sign : (line : List ℕ) (b : ℕ) (t : Token) (ts : List Token) → starts t.kind ≤ b → (t.kind ≡ k.Name → ⊥) → (t.kind ≡ k.Integer → ⊥) → Opening line b (t ∷ ts)
opening_sign line b t ts low no_name no_digits =
    record { begins = begun b t ts low; pair = λ kind rest none stops. pair_false k.Name kind t (ts ++ rest) no_name; least = λ inner rest. not_least line inner t (ts ++ rest) no_digits }

opening_name : (line : List ℕ) (t : Token) → t.kind ≡ k.Name → Opening line 0 (t ∷ [])
opening_name line t is =
    record {
      begins = begun 0 t [] (let low : starts t.kind ≡ 0 = ap starts is in omega arith);
      pair = λ kind rest none stops. pair_half k.Name kind t rest is (not_next kind rest (omega arith));
      least = λ inner rest. not_least line inner t rest (λ e. cc);
    }

opening_digits : (line : List ℕ) (t : Token) → t.kind ≡ k.Integer → decimal_value (text_of line t) < 2147483648 → Opening line 0 (t ∷ [])
opening_digits line t is below =
    record {
      begins = begun 0 t [] (let low : starts t.kind ≡ 0 = ap starts is in omega arith);
      pair = λ kind rest none stops. pair_false k.Name kind t rest (λ e. cc);
      least = λ inner rest. rw (same_kind_true t.kind k.Integer is) (ne_eqb (decimal_value (text_of line t)) 2147483648 (λ e. omega arith));
    }

opening_longer : (line : List ℕ) (b : ℕ) (xs ys : List Token) (t : Token) → Opening line b xs → 1 ≤ tight t.kind → Opening line b (xs ++ t ∷ ys)
unfolding peek
opening_longer line b xs ys t first stops =
    record {
      begins = begun_longer b xs ys t first.begins;
      pair = λ kind rest none later. ap (begins_with_two k.Name kind) (split_middle xs t ys rest) ∙ first.pair kind (t ∷ (ys ++ rest)) none stops;
      least = λ inner rest. ap (is_least line inner) (split_middle xs t ys rest) ∙ first.least inner (t ∷ (ys ++ rest));
    }

opening_weaker : (line : List ℕ) (ts : List Token) → Opening line 0 ts → Opening line 1 ts
opening_weaker line ts o = record { begins = λ kind rest above. o.begins kind rest (omega arith); pair = o.pair; least = o.least }

abbrev pub OpeningOf : List ℕ → Part → List Token → Type 0
OpeningOf line (s.Conditional x) ts = Opening line 1 ts
OpeningOf line (s.Coalescing x) ts = Opening line 1 ts
OpeningOf line (s.Chain l x) ts = Opening line 1 ts
OpeningOf line (s.Prefix x) ts = Opening line 1 ts
OpeningOf line (s.Primary x) ts = Opening line 0 ts
OpeningOf line (s.SomeFields fs) ts = Begun 1 ts
OpeningOf line (s.OneField f) ts = Begun 1 ts
OpeningOf line (s.SomeArguments args) ts = Begun 1 ts
OpeningOf line (s.OneArgument a) ts = Begun 1 ts
OpeningOf line part ts = Unit

-- a kind that is known decides how tightly a token goes on, and what it may begin
goes_on : (t : Token) (kind : Kind) → t.kind ≡ kind → 1 ≤ tight kind → 1 ≤ tight t.kind
goes_on t kind is above = let same : tight t.kind ≡ tight kind = ap tight is in omega arith

begins_low : (b : ℕ) (t : Token) (kind : Kind) → t.kind ≡ kind → starts kind ≤ b → starts t.kind ≤ b
begins_low b t kind is low = let same : starts t.kind ≡ starts kind = ap starts is in omega arith

operator_goes_on : (l : ℕ) (op : Infix) (t : Token) → operator l t.kind ≡ Some op → 1 ≤ tight t.kind
operator_goes_on l op t is = let same : tight t.kind ≡ l + 2 = operator_tight l op t.kind is in omega arith

-- a word that is neither a name nor digits begins a primary expression
opening_word : (line : List ℕ) (b : ℕ) (t : Token) (ts : List Token) (kind : Kind) → t.kind ≡ kind → starts kind ≤ b → (kind ≡ k.Name → ⊥) → (kind ≡ k.Integer → ⊥)
    → Opening line b (t ∷ ts)
opening_word line b t ts kind is low no_name no_digits = opening_sign line b t ts (begins_low b t kind is low) (λ e. no_name (sym is ∙ e)) (λ e. no_digits (sym is ∙ e))

pub opening : (line : List ℕ) {part : Part} {ts : List Token} → Spells line part ts → OpeningOf line part ts
opening line (s.unconditional x) = opening line x
opening line (s.choice question colon x question_is y colon_is z) = opening_longer line 1 _ _ question (opening line x) (goes_on question k.Question question_is (omega arith))
opening line (s.present x) = opening line x
opening line (s.coalescing sign x sign_is y) = opening_longer line 1 _ _ sign (opening line x) (goes_on sign k.Coalesce sign_is (omega arith))
opening line (s.prefixed x) = opening line x
opening line (s.tighter x) = opening line x
opening line (s.operation {l = l} sign op x sign_is y) = opening_longer line 1 _ _ sign (opening line x) (operator_goes_on l op sign sign_is)
opening line (s.primary x) = opening_weaker line _ (opening line x)
opening line (s.negation sign is x) = opening_word line 1 sign _ k.Not is (omega arith) (λ e. cc) (λ e. cc)
opening line (s.minus sign is x) = opening_word line 1 sign _ k.Minus is (omega arith) (λ e. cc) (λ e. cc)
opening line (s.least_int sign digits is digits_are value) = opening_word line 1 sign _ k.Minus is (omega arith) (λ e. cc) (λ e. cc)
opening line (s.digits word is below) = opening_digits line word is below
opening line (s.text word is) = opening_word line 0 word [] k.Text is (omega arith) (λ e. cc) (λ e. cc)
opening line (s.truth word is) = opening_word line 0 word [] k.True is (omega arith) (λ e. cc) (λ e. cc)
opening line (s.falsehood word is) = opening_word line 0 word [] k.False is (omega arith) (λ e. cc) (λ e. cc)
opening line (s.null word is) = opening_word line 0 word [] k.Null is (omega arith) (λ e. cc) (λ e. cc)
opening line (s.name word is) = opening_name line word is
opening line (s.parentheses first closing is x closing_is) = opening_word line 0 first _ k.LeftParenthesis is (omega arith) (λ e. cc) (λ e. cc)
opening line (s.host word dot predicate first closing is dot_is predicate_is first_is asked closing_is) = opening_word line 0 word _ k.Host is (omega arith) (λ e. cc) (λ e. cc)
opening line (s.record_of word first closing is first_is fs closing_is) = opening_word line 0 word _ k.New is (omega arith) (λ e. cc) (λ e. cc)
opening line (s.one_field f) = opening line f
opening line (s.another_field comma fs comma_is f) = begun_longer 1 _ _ comma (opening line fs)
opening line (s.field_assigned {ts = ts} word assign is assign_is x) = begun 1 word (assign ∷ ts) (begins_low 1 word k.Name is (omega arith))
opening line (s.field_name word is) = begun 1 word [] (begins_low 1 word k.Name is (omega arith))
opening line (s.field_member dot word x dot_is word_is) = begun_longer 1 _ _ dot (opening_weaker line _ (opening line x)).begins
opening line (s.member dot word x dot_is word_is) = opening_longer line 0 _ _ dot (opening line x) (goes_on dot k.Dot dot_is (omega arith))
opening line (s.method dot word first closing x dot_is word_is first_is args closing_is) = opening_longer line 0 _ _ dot (opening line x) (goes_on dot k.Dot dot_is (omega arith))
opening line (s.one_argument a) = opening line a
opening line (s.another_argument comma args comma_is a) = begun_longer 1 _ _ comma (opening line args)
opening line (s.argument_value x) = (opening line x).begins
opening line (s.argument_lambda {ts = ts} word arrow is arrow_is x) = begun 1 word (arrow ∷ ts) (begins_low 1 word k.Name is (omega arith))
opening line other = tt
