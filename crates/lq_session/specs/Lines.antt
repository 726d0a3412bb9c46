-- What a line says, or why it says no statement.
use Rattle.std.specs.Prelude.{◌≡◌, List, ℕ, Option, Some, None, Result, Ok, Err, Vec, codes, false, true}
use Rattle.std.specs.declared.alloc.Global.{Global}
use Rattle.lq_grammar.specs.Reading.{Reading, IsNoSyntax, IsTooDeep, reading_of}
use Rattle.lq_grammar.specs.Tokens.{tokens_of}
use Rattle.lq_grammar.specs.declared.syntax.Statement.{Statement}
use Rattle.lq_grammar.specs.declared.token.Token.{Token}
use Rattle.lq_machine.specs.Opening.{is_past_opening}
use Rattle.lq_machine.specs.Served.{error_data, line_of}
use Rattle.lq_machine.specs.declared.session.Opened.{Opened}
use Rattle.lq_run.specs.Stops.{Refuses}
use Rattle.lq_run.specs.declared.stop.Stop.{Stop}
use Rattle.lq_run.specs.declared.stop.Stop.TheVariants as stop
use Rattle.lq_syntax.specs.Texts.{said}

-- the word by which a line is refused that says no statement
abbrev pub word_of : Reading Statement → Option (List ℕ)
word_of IsNoSyntax = Some (codes "syntax")
word_of IsTooDeep = Some (codes "too-deep")
word_of other = None

-- stops by that refusal
abbrev pub RefusesLine : List ℕ → Stop → Type 0
RefusesLine line (stop.Answer reply) = (word : List ℕ) × (word_of (reading_of line) ≡ Some word) × (reply ≡ line_of (error_data word))
RefusesLine line stop.Memory = Unit {0}

-- the tokens of the line
abbrev pub HasTokens : List ℕ → Result (Vec Token Global) Stop → Type 0
HasTokens line (Ok tokens) = tokens_of line ≡ Some tokens.items
HasTokens line (Err why) = RefusesLine line why

-- the statement that the line says, if it says one
abbrev pub SaysStatement : List ℕ → Result (Option Statement) Stop → Type 0
SaysStatement line (Ok read) = reading_of line ≡ said read
SaysStatement line (Err why) = RefusesLine line why

-- this is what is opened, and it is within the limits
abbrev pub OpensWithin : Opened → Result Opened Stop → Type 0
OpensWithin opening (Ok opened) = (opened ≡ opening) × (is_past_opening opened ≡ false)
OpensWithin opening (Err why) = Refuses (codes "too-deep") (is_past_opening opening ≡ true) why
