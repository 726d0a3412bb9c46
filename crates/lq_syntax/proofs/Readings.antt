-- What the reading of a line or a rule says in the words of the grammar.
use Rattle.std.proofs.Common.{◌≡◌, ◌↔◌, ◌∷◌, if◌then◌else◌, List, [], ℕ, Bool, true, false, Option, Some, None, Result, Ok, Err, IfOk, IfSome, IsNone, refl, ap, ◌∙◌, subst, sym}
use Rattle.std.proofs.lemmas.Option.{same_Some}
use Rattle.lq_grammar.specs.Depth.{is_deep}
use Rattle.lq_grammar.specs.Grammar as part
use Rattle.lq_grammar.specs.Parsing.{rule_of, statement_of}
use Rattle.lq_grammar.specs.Reading.{IsPastDepth, IsSpelled, Reading, Nothing, Says, IsNoSyntax, IsTooDeep, reading_of, reading_of_tokens, rule_in_tokens, rule_reading_of, says_or_not}
use Rattle.lq_grammar.specs.Tokens.{tokens_of}
use Rattle.lq_grammar.specs.declared.syntax.Expr.{Expr}
use Rattle.lq_grammar.specs.declared.syntax.Statement.{Statement}
use Rattle.lq_grammar.specs.declared.token.Token.{Token}
use Rattle.lq_grammar.proofs.CompletenessLaws.{rule_complete, statement_complete}
use Rattle.lq_grammar.proofs.SoundnessLaws.{rule_sound, statement_sound}
use Rattle.lq_syntax.specs.Texts.{ReadsLine, ReadsRule, said}
use Rattle.lq_syntax.specs.declared.error.SyntaxError.{SyntaxError}
use Rattle.lq_syntax.specs.declared.error.SyntaxError.TheVariants as syntax

-- ---- results

pub line_read : (reading : Reading Statement) (r : Result (Option Statement) SyntaxError) (P : Option Statement → Type 0) → ReadsLine reading r
    → ((read : Option Statement) → reading ≡ said read → P read) → IfOk r P
line_read reading (Ok read) P reads holds = holds read reads
line_read reading (Err e) P reads holds = tt

pub line_no_syntax : (reading : Reading Statement) (r : Result (Option Statement) SyntaxError) → ReadsLine reading r → r ≡ Err syntax.Syntax → reading ≡ IsNoSyntax
line_no_syntax reading (Ok read) reads is = absurd (cc)
line_no_syntax reading (Err syntax.Syntax) reads is = reads
line_no_syntax reading (Err syntax.TooDeep) reads is = absurd (cc)
line_no_syntax reading (Err syntax.Memory) reads is = absurd (cc)

pub line_too_deep : (reading : Reading Statement) (r : Result (Option Statement) SyntaxError) → ReadsLine reading r → r ≡ Err syntax.TooDeep → reading ≡ IsTooDeep
line_too_deep reading (Ok read) reads is = absurd (cc)
line_too_deep reading (Err syntax.Syntax) reads is = absurd (cc)
line_too_deep reading (Err syntax.TooDeep) reads is = reads
line_too_deep reading (Err syntax.Memory) reads is = absurd (cc)

pub rule_read : (reading : Reading Expr) (r : Result Expr SyntaxError) (P : Expr → Type 0) → ReadsRule reading r → ((tree : Expr) → reading ≡ Says tree → P tree) → IfOk r P
rule_read reading (Ok tree) P reads holds = holds tree reads
rule_read reading (Err e) P reads holds = tt

pub rule_no_syntax : (reading : Reading Expr) (r : Result Expr SyntaxError) → ReadsRule reading r → r ≡ Err syntax.Syntax → reading ≡ IsNoSyntax
rule_no_syntax reading (Ok tree) reads is = absurd (cc)
rule_no_syntax reading (Err syntax.Syntax) reads is = reads
rule_no_syntax reading (Err syntax.TooDeep) reads is = absurd (cc)
rule_no_syntax reading (Err syntax.Memory) reads is = absurd (cc)

pub rule_too_deep : (reading : Reading Expr) (r : Result Expr SyntaxError) → ReadsRule reading r → r ≡ Err syntax.TooDeep → reading ≡ IsTooDeep
rule_too_deep reading (Ok tree) reads is = absurd (cc)
rule_too_deep reading (Err syntax.Syntax) reads is = absurd (cc)
rule_too_deep reading (Err syntax.TooDeep) reads is = reads
rule_too_deep reading (Err syntax.Memory) reads is = absurd (cc)

-- ---- what is said where the tokens were weighed

-- a tree that is said was found, and the tokens are within the limits
found_within : {A : Type 0} (deep : Bool) (o : Option A) (tree : A) → (if deep then IsTooDeep else says_or_not o) ≡ Says tree → (deep ≡ false) × (o ≡ Some tree)
found_within true o tree h = absurd (cc)
found_within false None tree h = absurd (cc)
found_within false (Some other) tree h = (refl, cc)

deep_or : {A : Type 0} (deep : Bool) (o : Option A) → (if deep then IsTooDeep else says_or_not o) ≡ IsTooDeep → deep ≡ true
deep_or true o h = refl
deep_or false None h = absurd (cc)
deep_or false (Some x) h = absurd (cc)

not_found : {A : Type 0} (deep : Bool) (o : Option A) (tree : A) → (if deep then IsTooDeep else says_or_not o) ≡ IsNoSyntax → deep ≡ false → o ≡ Some tree → ⊥
not_found true o tree h is found = cc
not_found false None tree h is found = cc
not_found false (Some x) tree h is found = cc

weighed_says : {A : Type 0} (deep : Bool) (o : Option A) → (if deep then IsTooDeep else says_or_not o) ≡ Nothing → ⊥
weighed_says true o h = cc
weighed_says false None h = cc
weighed_says false (Some x) h = cc

-- ---- lines

-- what a line's tokens say is what the line says
pub reads_of : (line : List ℕ) (tokens : List Token) (r : Result (Option Statement) SyntaxError) → tokens_of line ≡ Some tokens
    → ReadsLine (reading_of_tokens line (Some tokens)) r → ReadsLine (reading_of line) r
unfolding reading_of
reads_of line tokens r are reads = subst (λ (o : Option (List Token)). ReadsLine (reading_of_tokens line o) r) (sym are) reads

line_spelled : (line : List ℕ) (o : Option (List Token)) (tree : Statement) → tokens_of line ≡ o → reading_of_tokens line o ≡ Says tree → IsSpelled line (part.Line tree)
line_spelled line None tree is h = absurd (cc)
line_spelled line (Some []) tree is h = absurd (cc)
line_spelled line (Some (t ∷ ts)) tree is h =
    let found = found_within (is_deep (t ∷ ts)) (statement_of line (t ∷ ts)) tree h in (t ∷ ts, is, found.0, statement_sound line (t ∷ ts) tree found.1)

-- a statement that is read from a line is one that its tokens spell
pub line_tree : (line : List ℕ) (read : Option Statement) → reading_of line ≡ said read → IfSome read (λ tree. IsSpelled line (part.Line tree))
unfolding reading_of
line_tree line None h = tt
line_tree line (Some tree) h = line_spelled line (tokens_of line) tree refl h

no_token : (line : List ℕ) (o : Option (List Token)) → reading_of_tokens line o ≡ Nothing → o ≡ Some []
no_token line None h = absurd (cc)
no_token line (Some []) h = refl
no_token line (Some (t ∷ ts)) h = absurd (weighed_says (is_deep (t ∷ ts)) (statement_of line (t ∷ ts)) h)

says_nothing : (line : List ℕ) (tree : Statement) (o : Option (List Token)) → reading_of_tokens line o ≡ Says tree → o ≡ Some [] → ⊥
says_nothing line tree None h is = cc
says_nothing line tree (Some []) h is = cc
says_nothing line tree (Some (t ∷ ts)) h is = cc

-- a line has no statement exactly where it has no token
pub line_none : (line : List ℕ) (read : Option Statement) → reading_of line ≡ said read → IsNone read ↔ (tokens_of line ≡ Some [])
unfolding reading_of
line_none line None h = ((λ none. no_token line (tokens_of line) h), λ is. refl)
line_none line (Some tree) h = ((λ none. absurd (cc)), λ is. absurd (says_nothing line tree (tokens_of line) h is))

no_statement : (line : List ℕ) (o : Option (List Token)) → tokens_of line ≡ o → reading_of_tokens line o ≡ IsNoSyntax → (tree : Statement) → IsSpelled line (part.Line tree) → ⊥
no_statement line None is h tree spelled = let other : None ≡ Some spelled.0 = sym is ∙ spelled.1 in cc
no_statement line (Some []) is h tree spelled = cc
no_statement line (Some (t ∷ ts)) is h tree spelled =
    let same : t ∷ ts ≡ spelled.0 = same_Some (t ∷ ts) spelled.0 (sym is ∙ spelled.1) in
    not_found (is_deep (t ∷ ts)) (statement_of line (t ∷ ts)) tree h (ap is_deep same ∙ spelled.2) (ap (statement_of line) same ∙ statement_complete line spelled.0 tree spelled.3)

-- where a line is refused for its syntax, its tokens spell no statement
pub line_no_tree : (line : List ℕ) → reading_of line ≡ IsNoSyntax → (tree : Statement) → IsSpelled line (part.Line tree) → ⊥
unfolding reading_of
line_no_tree line h = no_statement line (tokens_of line) refl h

line_deep : (line : List ℕ) (o : Option (List Token)) → tokens_of line ≡ o → reading_of_tokens line o ≡ IsTooDeep → IsPastDepth line
line_deep line None is h = absurd (cc)
line_deep line (Some []) is h = absurd (cc)
line_deep line (Some (t ∷ ts)) is h = (t ∷ ts, is, deep_or (is_deep (t ∷ ts)) (statement_of line (t ∷ ts)) h)

pub line_past : (line : List ℕ) → reading_of line ≡ IsTooDeep → IsPastDepth line
unfolding reading_of
line_past line h = line_deep line (tokens_of line) refl h

-- ---- rules

rule_spelled : (text : List ℕ) (o : Option (List Token)) (tree : Expr) → tokens_of text ≡ o → rule_in_tokens text o ≡ Says tree → IsSpelled text (part.Conditional tree)
rule_spelled text None tree is h = absurd (cc)
rule_spelled text (Some ts) tree is h = let found = found_within (is_deep ts) (rule_of text ts) tree h in (ts, is, found.0, rule_sound text ts tree found.1)

pub rule_tree : (text : List ℕ) (tree : Expr) → rule_reading_of text ≡ Says tree → IsSpelled text (part.Conditional tree)
unfolding rule_reading_of
rule_tree text tree h = rule_spelled text (tokens_of text) tree refl h

no_rule : (text : List ℕ) (o : Option (List Token)) → tokens_of text ≡ o → rule_in_tokens text o ≡ IsNoSyntax → (tree : Expr) → IsSpelled text (part.Conditional tree) → ⊥
no_rule text None is h tree spelled = let other : None ≡ Some spelled.0 = sym is ∙ spelled.1 in cc
no_rule text (Some ts) is h tree spelled =
    let same : ts ≡ spelled.0 = same_Some ts spelled.0 (sym is ∙ spelled.1) in
    not_found (is_deep ts) (rule_of text ts) tree h (ap is_deep same ∙ spelled.2) (ap (rule_of text) same ∙ rule_complete text spelled.0 tree spelled.3)

pub rule_no_tree : (text : List ℕ) → rule_reading_of text ≡ IsNoSyntax → (tree : Expr) → IsSpelled text (part.Conditional tree) → ⊥
unfolding rule_reading_of
rule_no_tree text h = no_rule text (tokens_of text) refl h

rule_deep : (text : List ℕ) (o : Option (List Token)) → tokens_of text ≡ o → rule_in_tokens text o ≡ IsTooDeep → IsPastDepth text
rule_deep text None is h = absurd (cc)
rule_deep text (Some ts) is h = (ts, is, deep_or (is_deep ts) (rule_of text ts) h)

pub rule_past : (text : List ℕ) → rule_reading_of text ≡ IsTooDeep → IsPastDepth text
unfolding rule_reading_of
rule_past text h = rule_deep text (tokens_of text) refl h
