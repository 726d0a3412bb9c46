-- What a line's tokens and its reading say, as the lexer and the parser find them.
use Rattle.std.proofs.Common.{◌≡◌, ◌∙◌, if◌then◌else◌, List, ℕ, Bool, true, false, Some, None, Ok, Err, ap, codes, sym}
use Rattle.lq_grammar.specs.Reading.{IsNoSyntax, IsTooDeep, reading_of, reading_of_tokens}
use Rattle.lq_grammar.specs.Tokens.{is_too_long, tokens_in, tokens_of}
use Rattle.lq_grammar.specs.declared.token.Token.{Token}
use Rattle.lq_machine.specs.Opening.{is_past_opening, opening, opening_among, opening_of}
use Rattle.lq_machine.specs.Served.{error_data}
use Rattle.lq_machine.specs.declared.session.Definition.{Definition}
use Rattle.lq_machine.specs.declared.session.Opened.{Opened}
use Rattle.lq_run.specs.Stops.{StopsWith}
use Rattle.lq_run.specs.declared.stop.Stop.{Stop}
use Rattle.lq_run.specs.declared.stop.Stop.TheVariants as stop
use Rattle.lq_session.specs.Lines.{OpensWithin, RefusesLine, word_of}
use Rattle.lq_session.specs.Openings.{within_limits}
use Rattle.lq_session.proofs.OpeningLemmas.{kept_from, past_from}

module _ (line : List ℕ) where
  -- the refusal of a line by this word
  refuses_by : (word : List ℕ) (why : Stop) → word_of (reading_of line) ≡ Some word → StopsWith (error_data word) why → RefusesLine line why
  refuses_by word (stop.Answer reply) is so = (word, is, so)
  refuses_by word stop.Memory is so = tt

  -- the tokens of a line, of which there are none where it is too long or has a lexical fault
  pub tokened : (tokens : List Token) → is_too_long line ≡ false → tokens_in line ≡ Some tokens → tokens_of line ≡ Some tokens
  unfolding tokens_of
  tokened tokens short are = ap (λ (long : Bool). if long then None else tokens_in line) short ∙ are

  lexical : is_too_long line ≡ false → tokens_in line ≡ None → tokens_of line ≡ None
  unfolding tokens_of
  lexical short none = ap (λ (long : Bool). if long then None else tokens_in line) short ∙ none

  too_long : is_too_long line ≡ true → tokens_of line ≡ None
  unfolding tokens_of
  too_long long = ap (λ (b : Bool). if b then None else tokens_in line) long

  untokened : tokens_of line ≡ None → reading_of line ≡ IsNoSyntax
  unfolding reading_of
  untokened none = ap (reading_of_tokens line) none

  -- a line without tokens
  refuses_untokened : (why : Stop) → tokens_of line ≡ None → StopsWith (error_data (codes "syntax")) why → RefusesLine line why
  refuses_untokened why none so = refuses_by (codes "syntax") why (ap word_of (untokened none)) so

  pub refuses_lexical : (why : Stop) → is_too_long line ≡ false → tokens_in line ≡ None → StopsWith (error_data (codes "syntax")) why → RefusesLine line why
  refuses_lexical why short none so = refuses_untokened why (lexical short none) so

  pub refuses_long : (why : Stop) → is_too_long line ≡ true → StopsWith (error_data (codes "syntax")) why → RefusesLine line why
  refuses_long why long so = refuses_untokened why (too_long long) so

  pub refuses_no_syntax : (why : Stop) → reading_of line ≡ IsNoSyntax → StopsWith (error_data (codes "syntax")) why → RefusesLine line why
  refuses_no_syntax why is so = refuses_by (codes "syntax") why (ap word_of is) so

  pub refuses_too_deep : (why : Stop) → reading_of line ≡ IsTooDeep → StopsWith (error_data (codes "too-deep")) why → RefusesLine line why
  refuses_too_deep why is so = refuses_by (codes "too-deep") why (ap word_of is) so

  -- ---- what the tokens open

  module _ (definitions : List Definition) (tokens : List Token) (are : tokens_of line ≡ Some tokens) where
    opening_is : opening definitions line tokens ≡ opening_of definitions line
    unfolding opening_of
    opening_is = ap (opening_among definitions line) (sym are)

    pub opens : (opened : Opened) → Some opened ≡ within_limits (opening definitions line tokens) → OpensWithin (opening_of definitions line) (Ok opened)
    opens opened is =
        let kept = kept_from opened (opening definitions line tokens) (is_past_opening (opening definitions line tokens)) is in
        (kept.1 ∙ opening_is, ap is_past_opening kept.1 ∙ kept.0)

    pub opens_past : (why : Stop) → None ≡ within_limits (opening definitions line tokens) → StopsWith (error_data (codes "too-deep")) why
        → OpensWithin (opening_of definitions line) (Err why)
    opens_past (stop.Answer reply) none so =
        (ap is_past_opening (sym opening_is) ∙ past_from (opening definitions line tokens) (is_past_opening (opening definitions line tokens)) none, so)
    opens_past stop.Memory none so = tt

pub ruleset cut_lines = (tokened, refuses_lexical, refuses_long)
