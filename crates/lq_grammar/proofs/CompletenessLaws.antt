-- What tokens spell is what the functions of `Parsing` read from them.
use Rattle.std.proofs.Common.{arith, ◌≡◌, ◌≤◌, ◌<◌, ◌+◌, ℕ, suc, zero, List, [], ◌∷◌, ◌++◌, ap, sym, ◌∙◌, length}
use Rattle.std.specs.Prelude.{Some}
use Rattle.std.proofs.lemmas.List.{append-nil}
use Rattle.lq_grammar.specs.Grammar as s
use Rattle.lq_grammar.specs.Grammar.{Part, Spells, levels, member_of, named}
use Rattle.lq_grammar.specs.Parsing.{expression, peek, rule, rule_of, statement_of, to_the_end}
use Rattle.lq_grammar.specs.Tokens.{text_of}
use Rattle.lq_grammar.specs.declared.syntax.Expr.{Expr}
use Rattle.lq_grammar.specs.declared.syntax.Level.TheVariants as level
use Rattle.lq_grammar.specs.declared.syntax.Statement.{Statement}
use Rattle.lq_grammar.specs.declared.token.Token.{Token}
use Rattle.lq_grammar.proofs.FirstTokens.{opening}
use Rattle.lq_grammar.proofs.Forwards.{fits_left, fits_right, less_behind, less_left, less_right}
use Rattle.lq_grammar.proofs.ReadArguments as arguments
use Rattle.lq_grammar.proofs.ReadFields as fields
use Rattle.lq_grammar.proofs.ReadKeys as keys
use Rattle.lq_grammar.proofs.ReadOperators as operators
use Rattle.lq_grammar.proofs.ReadParts.{PartReads, Reads, room}
use Rattle.lq_grammar.proofs.ReadPrimaries as primaries
use Rattle.lq_grammar.proofs.ReadQueries as queries
use Rattle.lq_grammar.proofs.ReadStatements as statements

module _ (line : List ℕ) where
  -- a part is read wherever the lines may lead back often enough
  abbrev Completes : Part → List Token → Type 0
  Completes part ts = (n : ℕ) → room part ts ≤ n → PartReads line n part ts

  -- ---- lines that are led back to

  lead_top : (x : Expr) (ts : List Token) (n : ℕ) → length ts < n → Completes (s.Top x) ts → Reads 13 (expression line n level.Top) x ts
  unfolding expression rule
  lead_top x ts zero less reads = absurd (omega arith)
  lead_top x ts (suc n) less reads = reads n (omega arith)

  lead_conditional : (x : Expr) (ts : List Token) (n : ℕ) → length ts < n → Completes (s.Conditional x) ts → Reads 10 (expression line n level.Conditional) x ts
  unfolding expression rule
  lead_conditional x ts zero less reads = absurd (omega arith)
  lead_conditional x ts (suc n) less reads = reads n (omega arith)

  lead_coalescing : (x : Expr) (ts : List Token) (n : ℕ) → length ts < n → Completes (s.Coalescing x) ts → Reads 9 (expression line n level.Coalescing) x ts
  unfolding expression rule
  lead_coalescing x ts zero less reads = absurd (omega arith)
  lead_coalescing x ts (suc n) less reads = reads n (omega arith)

  lead_unary : (x : Expr) (ts : List Token) (n : ℕ) → length ts < n → Completes (s.Prefix x) ts → Reads 2 (expression line n level.Unary) x ts
  unfolding expression rule
  lead_unary x ts zero less reads = absurd (omega arith)
  lead_unary x ts (suc n) less reads = reads n (omega arith)

  lead_primary : (x : Expr) (ts : List Token) (n : ℕ) → length ts < n → Completes (s.Primary x) ts → Reads 2 (expression line n level.Primary) x ts
  unfolding expression rule
  lead_primary x ts zero less reads = absurd (omega arith)
  lead_primary x ts (suc n) less reads = primaries.primary_closes line (expression line n) x ts (reads n (omega arith))

  -- ---- all parts

  pub complete : {part : Part} {ts : List Token} → Spells line part ts → (n : ℕ) → room part ts ≤ n → PartReads line n part ts
  complete (s.run {ts = ts} word semicolon word_is x semicolon_is) n le =
      statements.read_run line (expression line n) _ ts word semicolon word_is (lead_top _ ts n (less_left ts (semicolon ∷ []) n (omega arith)) (complete x)) semicolon_is
  complete (s.define {ts = ts} word name assign semicolon word_is name_is assign_is x semicolon_is) n le =
      statements.read_define line (expression line n) _ ts word name assign semicolon word_is name_is assign_is (lead_top _ ts n (less_left ts (semicolon ∷ []) n (omega arith)) (complete x)) semicolon_is
  complete (s.assignment {ts = ts} name assign semicolon name_is assign_is x semicolon_is) n le =
      statements.read_assignment line (expression line n) _ ts name assign semicolon name_is assign_is (lead_top _ ts n (less_left ts (semicolon ∷ []) n (omega arith)) (complete x)) semicolon_is
  complete (s.role word name semicolon word_is name_is semicolon_is) n le = statements.read_role line (expression line n) word name semicolon word_is name_is semicolon_is
  complete (s.insertion {ts = ts} word table first closing semicolon word_is table_is first_is cs closing_is semicolon_is) n le =
      statements.read_insertion line (expression line n) _ ts word table first closing semicolon word_is table_is first_is (complete cs n (fits_left ts (closing ∷ semicolon ∷ []) n (omega arith)))
      closing_is semicolon_is
  complete (s.deletion {ts = ts} word table row arrow semicolon word_is table_is row_is arrow_is x semicolon_is) n le =
      statements.read_deletion line (expression line n) _ ts word table row arrow semicolon word_is table_is row_is arrow_is
      (lead_conditional _ ts n (less_left ts (semicolon ∷ []) n (omega arith)) (complete x)) semicolon_is
  complete (s.one_cell {ts = ts} c) n le = statements.read_one_cell line _ ts (complete c n le)
  complete (s.another_cell {xs = xs} {ys = ys} comma cs comma_is c) n le =
      statements.read_another_cell line _ _ xs ys comma (complete cs n (fits_left xs (comma ∷ ys) n le)) comma_is (complete c n (omega (arith, less_behind xs comma ys n le)))
  complete (s.cell_integer digits is below) n le = statements.read_cell_integer line digits is below
  complete (s.cell_minus minus digits is digits_are below) n le = statements.read_cell_minus line minus digits is digits_are below
  complete (s.cell_text word is) n le = statements.read_cell_text line word is
  complete (s.cell_true word is) n le = statements.read_cell_true line word is
  complete (s.cell_false word is) n le = statements.read_cell_false line word is
  complete (s.cell_null word is) n le = statements.read_cell_null line word is
  complete (s.top_query {ts = ts} q) n le = operators.read_top_query line (expression line n) _ ts (complete q n le)
  complete (s.top_other {ts = ts} x) n le = operators.read_top_other line (expression line n) _ ts (opening line x) (complete x n le)
  complete (s.unconditional {ts = ts} x) n le = operators.read_unconditional line (expression line n) _ ts (complete x n le)
  complete (s.choice {xs = xs} {ys = ys} {zs = zs} question colon x question_is y colon_is z) n le =
      operators.read_choice line (expression line n) _ _ _ xs ys zs question colon (complete x n (fits_left xs (question ∷ (ys ++ colon ∷ zs)) n le)) question_is
      (lead_conditional _ ys n (less_left ys (colon ∷ zs) n (less_behind xs question (ys ++ colon ∷ zs) n le)) (complete y)) colon_is
      (lead_conditional _ zs n (less_right (colon ∷ []) zs n (less_right ys (colon ∷ zs) n (less_behind xs question (ys ++ colon ∷ zs) n le))) (complete z))
  complete (s.present {x = x} {ts = ts} chain) n le =
      operators.read_present line (expression line n) x ts (operators.chain_closes line (expression line n) levels x ts (complete chain n le))
  complete (s.coalescing {x = x} {xs = xs} {ys = ys} sign chain sign_is y) n le =
      operators.read_coalescing line (expression line n) x _ xs ys sign (operators.chain_closes line (expression line n) levels x xs (complete chain n (fits_left xs (sign ∷ ys) n le))) sign_is
      (lead_coalescing _ ys n (less_behind xs sign ys n le) (complete y))
  complete (s.prefixed {x = x} {ts = ts} unary) n le = operators.read_prefixed line (expression line n) x ts (complete unary n le)
  complete (s.tighter {l = l} {x = x} {ts = ts} chain) n le = operators.read_tighter line (expression line n) l x ts (complete chain n le)
  complete (s.operation {l = l} {x = x} {y = y} {xs = xs} {ys = ys} sign op left sign_is right) n le =
      operators.read_operation line (expression line n) l x y xs ys sign op (complete left n (fits_left xs (sign ∷ ys) n le)) sign_is (complete right n (omega (arith, less_behind xs sign ys n le)))
  complete (s.primary {x = x} {ts = ts} start) n le =
      operators.read_primary line (expression line n) x ts (opening line start) (primaries.primary_closes line (expression line n) x ts (complete start n le))
  complete (s.negation {ts = ts} sign is x) n le = operators.read_negation line (expression line n) _ ts sign is (lead_unary _ ts n (omega arith) (complete x))
  complete (s.minus {ts = ts} sign is x) n le = operators.read_minus line (expression line n) _ ts sign is (opening line x) (lead_unary _ ts n (omega arith) (complete x))
  complete (s.least_int sign digits is digits_are value) n le = operators.read_least line (expression line n) sign digits is digits_are value
  complete (s.digits word is below) n le = primaries.read_digits line (expression line n) word is below
  complete (s.text word is) n le = primaries.read_text line (expression line n) word is
  complete (s.truth word is) n le = primaries.read_true line (expression line n) word is
  complete (s.falsehood word is) n le = primaries.read_false line (expression line n) word is
  complete (s.null word is) n le = primaries.read_null line (expression line n) word is
  complete (s.name word is) n le = primaries.read_name line (expression line n) word is
  complete (s.parentheses {ts = ts} first closing first_is x closing_is) n le =
      primaries.read_parentheses line (expression line n) _ ts first closing first_is (lead_top _ ts n (less_left ts (closing ∷ []) n (omega arith)) (complete x)) closing_is
  complete (s.host {ts = ts} word dot predicate first closing word_is dot_is predicate_is first_is asked closing_is) n le =
      primaries.read_host line (expression line n) _ _ ts word dot predicate first closing word_is dot_is predicate_is first_is
      (complete asked n (less_left ts (closing ∷ []) n (omega arith))) closing_is
  complete (s.asked_of_one {ts = ts} x) n le = primaries.read_asked_of_one line (expression line n) _ ts (lead_conditional _ ts n le (complete x))
  complete (s.asked_of_two {xs = xs} {ys = ys} comma x comma_is y) n le =
      primaries.read_asked_of_two line (expression line n) _ _ xs ys comma (lead_conditional _ xs n (less_left xs (comma ∷ ys) n le) (complete x)) comma_is
      (lead_conditional _ ys n (less_right (comma ∷ []) ys n (less_right xs (comma ∷ ys) n le)) (complete y))
  complete (s.record_of {ts = ts} word first closing word_is first_is fs closing_is) n le =
      primaries.read_record line (expression line n) _ ts word first closing word_is first_is (complete fs n (less_left ts (closing ∷ []) n (omega arith))) closing_is
  complete s.no_fields n le = fields.read_no_fields line (expression line n)
  complete (s.some_fields {ts = ts} fs) n le = fields.read_some_fields line (expression line n) _ ts (complete fs n le)
  complete (s.fields_and_comma {ts = ts} comma fs comma_is) n le =
      fields.read_fields_and_comma line (expression line n) _ ts comma (complete fs n (less_left ts (comma ∷ []) n le)) comma_is
  complete (s.one_field {ts = ts} f) n le = fields.read_one_field line (expression line n) _ ts (opening line f) (complete f n le)
  complete (s.another_field {xs = xs} {ys = ys} comma fs comma_is f) n le =
      fields.read_another_field line (expression line n) _ _ xs ys comma (complete fs n (less_left xs (comma ∷ ys) n le)) comma_is (opening line f)
      (complete f n (less_right (comma ∷ []) ys n (less_right xs (comma ∷ ys) n le)))
  complete (s.field_assigned {ts = ts} word assign word_is assign_is x) n le =
      fields.read_field_assigned line (expression line n) _ ts word assign word_is assign_is (lead_conditional _ ts n (omega arith) (complete x))
  complete (s.field_name word is) n le =
      fields.read_field_name line (expression line n) word is
      (lead_primary (named (text_of line word)) (word ∷ []) n le (λ m enough. primaries.read_name line (expression line m) word is))
  complete (s.field_member {x = x} {ts = ts} dot word start dot_is word_is) n le =
      fields.read_field_member line (expression line n) x ts dot word (opening line start) dot_is word_is
      (lead_primary (member_of x (text_of line word)) (ts ++ dot ∷ word ∷ []) n le
      (λ m enough. primaries.read_member line (expression line m) x ts dot word (complete start m (fits_left ts (dot ∷ word ∷ []) m enough)) dot_is word_is))
  complete (s.member {x = x} {ts = ts} dot word start dot_is word_is) n le =
      primaries.read_member line (expression line n) x ts dot word (complete start n (fits_left ts (dot ∷ word ∷ []) n le)) dot_is word_is
  complete (s.method {x = x} {xs = xs} {ys = ys} dot word first closing start dot_is word_is first_is args closing_is) n le =
      let behind : length (word ∷ first ∷ (ys ++ closing ∷ [])) < n = less_behind xs dot (word ∷ first ∷ (ys ++ closing ∷ [])) n le in
      primaries.read_method line (expression line n) x _ xs ys dot word first closing (complete start n (fits_left xs (dot ∷ word ∷ first ∷ (ys ++ closing ∷ [])) n le)) dot_is word_is first_is
      (complete args n (less_left ys (closing ∷ []) n (omega arith))) closing_is
  complete s.no_arguments n le = arguments.read_no_arguments line (expression line n)
  complete (s.some_arguments {ts = ts} args) n le = arguments.read_some_arguments line (expression line n) _ ts (opening line args) (complete args n le)
  complete (s.one_argument {ts = ts} a) n le = arguments.read_one_argument line (expression line n) _ ts (complete a n le)
  complete (s.another_argument {xs = xs} {ys = ys} comma args comma_is a) n le =
      arguments.read_another_argument line (expression line n) _ _ xs ys comma (complete args n (less_left xs (comma ∷ ys) n le)) comma_is
      (complete a n (less_right (comma ∷ []) ys n (less_right xs (comma ∷ ys) n le)))
  complete (s.argument_value {ts = ts} x) n le = arguments.read_value line (expression line n) _ ts (opening line x) (lead_conditional _ ts n le (complete x))
  complete (s.argument_lambda {ts = ts} word arrow word_is arrow_is x) n le =
      arguments.read_lambda line (expression line n) _ ts word arrow word_is arrow_is (lead_conditional _ ts n (omega arith) (complete x))
  complete (s.query {xs = xs} {ys = ys} {zs = zs} from word within from_is word_is within_is x b cs) n le =
      let behind : length (xs ++ (ys ++ zs)) < n = omega arith in
      let others : length (ys ++ zs) < n = less_right xs (ys ++ zs) n behind in
      queries.read_query line (expression line n) _ _ _ xs ys zs from word within from_is word_is within_is (lead_conditional _ xs n (less_left xs (ys ++ zs) n behind) (complete x))
      (complete b n (omega (arith, less_left ys zs n others))) (complete cs n (omega (arith, less_right ys zs n others)))
  complete s.no_continuation n le = queries.read_no_continuation line (expression line n)
  complete (s.another_continuation {xs = xs} {ys = ys} into word cs into_is word_is b) n le =
      queries.read_another_continuation line (expression line n) _ _ xs ys into word (complete cs n (fits_left xs (into ∷ word ∷ ys) n le)) into_is word_is
      (complete b n (omega (arith, less_behind xs into (word ∷ ys) n le)))
  complete (s.body {xs = xs} {ys = ys} cs l) n le = queries.read_body line (expression line n) _ _ xs ys (complete cs n (fits_left xs ys n le)) (complete l n (fits_right xs ys n le))
  complete (s.select {ts = ts} word is x) n le = queries.read_select line (expression line n) _ ts word is (lead_conditional _ ts n (omega arith) (complete x))
  complete (s.group {xs = xs} {ys = ys} word by is x by_is y) n le =
      queries.read_group line (expression line n) _ _ xs ys word by is (lead_conditional _ xs n (less_left xs (by ∷ ys) n (omega arith)) (complete x)) by_is
      (lead_conditional _ ys n (less_right (by ∷ []) ys n (less_right xs (by ∷ ys) n (omega arith))) (complete y))
  complete s.no_clause n le = queries.read_no_clause line (expression line n)
  complete (s.another_clause {xs = xs} {ys = ys} cs c) n le =
      queries.read_another_clause line (expression line n) _ _ xs ys (complete cs n (fits_left xs ys n le)) (complete c n (fits_right xs ys n le))
  complete (s.from_clause {ts = ts} word variable within is variable_is within_is x) n le =
      queries.read_from_clause line (expression line n) _ ts word variable within is variable_is within_is (lead_conditional _ ts n (omega arith) (complete x))
  complete (s.let_clause {ts = ts} word variable assign is variable_is assign_is x) n le =
      queries.read_let_clause line (expression line n) _ ts word variable assign is variable_is assign_is (lead_conditional _ ts n (omega arith) (complete x))
  complete (s.where_clause {ts = ts} word is x) n le = queries.read_where_clause line (expression line n) _ ts word is (lead_conditional _ ts n (omega arith) (complete x))
  complete (s.join_clause {ss = ss} {xs = xs} {ys = ys} word variable within on equals is variable_is within_is source on_is outer equals_is own) n le =
      let behind : length (ss ++ on ∷ (xs ++ equals ∷ ys)) < n = omega arith in
      let keys_fit : length (xs ++ equals ∷ ys) < n = less_right (on ∷ []) (xs ++ equals ∷ ys) n (less_right ss (on ∷ (xs ++ equals ∷ ys)) n behind) in
      queries.read_join_clause line (expression line n) _ _ _ ss xs ys word variable within on equals is variable_is within_is
      (lead_conditional _ ss n (less_left ss (on ∷ (xs ++ equals ∷ ys)) n behind) (complete source)) on_is
      (lead_conditional _ xs n (less_left xs (equals ∷ ys) n keys_fit) (complete outer)) equals_is
      (lead_conditional _ ys n (less_right (equals ∷ []) ys n (less_right xs (equals ∷ ys) n keys_fit)) (complete own))
  complete (s.group_join_clause {ss = ss} {xs = xs} {ys = ys} word variable within on equals into group is variable_is within_is source on_is outer equals_is own into_is group_is) n le =
      let last_key : List Token = ys ++ into ∷ group ∷ [] in
      let behind : length (ss ++ on ∷ (xs ++ equals ∷ last_key)) < n = omega arith in
      let keys_fit : length (xs ++ equals ∷ last_key) < n = less_right (on ∷ []) (xs ++ equals ∷ last_key) n (less_right ss (on ∷ (xs ++ equals ∷ last_key)) n behind) in
      queries.read_group_join_clause line (expression line n) _ _ _ ss xs ys word variable within on equals into group is variable_is within_is
      (lead_conditional _ ss n (less_left ss (on ∷ (xs ++ equals ∷ last_key)) n behind) (complete source)) on_is
      (lead_conditional _ xs n (less_left xs (equals ∷ last_key) n keys_fit) (complete outer)) equals_is
      (lead_conditional _ ys n (less_left ys (into ∷ group ∷ []) n (less_right (equals ∷ []) last_key n (less_right xs (equals ∷ last_key) n keys_fit))) (complete own)) into_is group_is
  complete (s.orderby_clause {ts = ts} word is ks) n le = queries.read_orderby_clause line (expression line n) _ ts word is (complete ks n le)
  complete (s.one_key {ts = ts} key) n le = keys.read_one_key line (expression line n) _ ts (complete key n le)
  complete (s.another_key {xs = xs} {ys = ys} comma ks comma_is key) n le =
      keys.read_another_key line (expression line n) _ _ xs ys comma (complete ks n (less_left xs (comma ∷ ys) n le)) comma_is
      (complete key n (less_right (comma ∷ []) ys n (less_right xs (comma ∷ ys) n le)))
  complete (s.key_alone {ts = ts} x) n le = keys.read_key_alone line (expression line n) _ ts (lead_conditional _ ts n le (complete x))
  complete (s.key_ascending {ts = ts} word x is) n le = keys.read_key_ascending line (expression line n) _ ts word (lead_conditional _ ts n (less_left ts (word ∷ []) n le) (complete x)) is
  complete (s.key_descending {ts = ts} word x is) n le = keys.read_key_descending line (expression line n) _ ts word (lead_conditional _ ts n (less_left ts (word ∷ []) n le) (complete x)) is

pub statement_complete : (line : List ℕ) (tokens : List Token) (a : Statement) → Spells line (s.Line a) tokens → statement_of line tokens ≡ Some a
unfolding statement_of to_the_end
statement_complete line tokens a spells = ap to_the_end (complete line spells (length tokens + 1) (omega arith))

pub rule_complete : (line : List ℕ) (tokens : List Token) (a : Expr) → Spells line (s.Conditional a) tokens → rule_of line tokens ≡ Some a
unfolding rule_of to_the_end peek
rule_complete line tokens a spells =
    ap (λ ts. to_the_end (expression line (length tokens + 1) level.Conditional ts)) (sym (append-nil tokens))
    ∙ ap to_the_end (lead_conditional line a tokens (length tokens + 1) (omega arith) (complete line spells) [] (omega arith))
