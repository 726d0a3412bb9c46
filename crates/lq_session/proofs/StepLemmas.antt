-- From what a statement's calls give to the machine's step.
use Rattle.std.proofs.Common.{◌≡◌, ◌∷◌, List, [], ℕ, Bool, true, false, if◌then◌else◌, Option, Some, None, IsSome, Ok, Err, ap, ap₂, append-nil, ◌∙◌, sym, refl, codes}
use Rattle.std.proofs.lemmas.Option.{none-some, same_Some}
use Rattle.lq_language.proofs.ItemLaws.{every_none}
use Rattle.lq_host.specs.Hosts.{Hosts}
use Rattle.lq_machine.specs.HostCalls.{IsAllowed, line_named}
use Rattle.lq_machine.specs.Machine.{Reply, memory_line, perform, replied, step, step_by}
use Rattle.lq_machine.specs.Opening.{is_past_opening, opening_of}
use Rattle.lq_machine.specs.Output.{as_machine, no_memory}
use Rattle.lq_machine.specs.Statements.{refused}
use Rattle.lq_machine.specs.States.{State}
use Rattle.lq_grammar.specs.Depth.{is_deep}
use Rattle.lq_grammar.specs.Reading.{Reading, IsNoSyntax, IsTooDeep, Nothing, Says, reading_of, reading_of_tokens, says_or_not}
use Rattle.lq_grammar.specs.Parsing.{statement_of}
use Rattle.lq_grammar.specs.Tokens.{tokens_of}
use Rattle.lq_machine.specs.declared.session.Opened.{Opened}
use Rattle.lq_grammar.specs.declared.syntax.Statement.{Statement}
use Rattle.lq_grammar.specs.declared.token.Token.{Token}
use Rattle.lq_run.specs.Calls.{AddsCalls}
use Rattle.lq_run.specs.declared.stop.Stop.{Stop}
use Rattle.lq_run.specs.declared.stop.Stop.TheVariants as stop
use Rattle.lq_session.specs.Calls.{AnswersAndLogs}
use Rattle.lq_session.specs.Lines.{OpensWithin, RefusesLine, word_of}
use Rattle.lq_session.specs.Performed.{Performs, Steps}

-- ---- lines with and without a statement

module _ (old : State) (opened : Opened) where
  read_reply : (o : Option Statement) → IsSome (step_by old opened (says_or_not o)).0
  read_reply None = refl
  read_reply (Some s) = refl

  weighed_reply : (deep : Bool) (o : Option Statement) → IsSome (step_by old opened (if deep then IsTooDeep else says_or_not o)).0
  weighed_reply true o = refl
  weighed_reply false o = read_reply o

  tokens_reply : (line : List ℕ) (o : Option (List Token)) → (o ≡ Some [] → ⊥) → IsSome (step_by old opened (reading_of_tokens line o)).0
  tokens_reply line None h = refl
  tokens_reply line (Some []) h = absurd (h refl)
  tokens_reply line (Some (token ∷ tokens)) h = weighed_reply (is_deep (token ∷ tokens)) (statement_of line (token ∷ tokens))

module _ (old : State) (line : List ℕ) where
  -- a line that isn't blank has a reply
  pub some_reply : (tokens_of line ≡ Some [] → ⊥) → IsSome (step old line).0
  unfolding step reading_of
  some_reply h = tokens_reply old (opening_of old.definitions line) line (tokens_of line) h

  -- a blank line has none
  blank_step : tokens_of line ≡ Some [] → (None, old) ≡ step old line
  unfolding step reading_of
  blank_step h = ap (λ (o : Option (List Token)). step_by old (opening_of old.definitions line) (reading_of_tokens line o)) (sym h)

  -- ---- what a line says, and what it is answered

  as_read : (r : Reading Statement) → reading_of line ≡ r → step_by old (opening_of old.definitions line) r ≡ step old line
  unfolding step
  as_read r h = ap (λ (x : Reading Statement). step_by old (opening_of old.definitions line) x) (sym h)

  pub says_nothing : reading_of line ≡ Nothing → Steps (step old line) old (Ok None) old
  says_nothing h = (ap (λ (x : Reply × State). x.0) (as_read Nothing h), ap (λ (x : Reply × State). x.1) (as_read Nothing h))

  -- a line that says no statement
  refused_by : (r : Reading Statement) (word : List ℕ) → word_of r ≡ Some word → step_by old (opening_of old.definitions line) r ≡ replied (refused old word)
  refused_by Nothing word is = absurd (none-some word is)
  refused_by (Says s) word is = absurd (none-some word is)
  refused_by IsNoSyntax word is = ap (λ (w : List ℕ). replied (refused old w)) (same_Some (codes "syntax") word is)
  refused_by IsTooDeep word is = ap (λ (w : List ℕ). replied (refused old w)) (same_Some (codes "too-deep") word is)

  pub stops_unread : (why : Stop) → RefusesLine line why → Steps (step old line) old (Err why) old
  stops_unread (stop.Answer reply) refuses =
      let same = sym (as_read (reading_of line) refl) ∙ refused_by (reading_of line) refuses.0 refuses.1 in
      (ap Some refuses.2 ∙ ap (λ (x : Reply × State). x.0) (sym same), ap (λ (x : Reply × State). x.1) (sym same), refl)
  stops_unread stop.Memory refuses = refl

  module _ (s : Statement) (says : reading_of line ≡ Says s) where
    -- one that opens too much
    pub stops_past : (why : Stop) → OpensWithin (opening_of old.definitions line) (Err why) → Steps (step old line) old (Err why) old
    stops_past (stop.Answer reply) past =
        let same : replied (refused old (codes "too-deep")) ≡ step old line =
        ap (λ (b : Bool). replied (if b then refused old (codes "too-deep") else perform old (opening_of old.definitions line) s)) (sym past.0) ∙ as_read (Says s) says in
        (ap Some past.1 ∙ ap (λ (x : Reply × State). x.0) same, ap (λ (x : Reply × State). x.1) same, refl)
    stops_past stop.Memory past = refl

    module _ (opened : Opened) (opens : OpensWithin (opening_of old.definitions line) (Ok opened)) where
      performed_as : replied (perform old opened s) ≡ step old line
      performed_as =
          ap (λ (o : Opened). replied (perform old o s)) opens.0
          ∙ ap (λ (b : Bool). replied (if b then refused old (codes "too-deep") else perform old (opening_of old.definitions line) s))
          (sym opens.1 ∙ ap is_past_opening opens.0)
          ∙ as_read (Says s) says

      -- and one that is performed, to its end or not
      pub steps_performed : (reply : List ℕ) (new : State) → Performs (perform old opened s) old (Ok reply) new → Steps (step old line) old (Ok (Some reply)) new
      steps_performed reply new performs =
          (ap Some performs.0 ∙ ap (λ (x : Reply × State). x.0) performed_as, performs.1 ∙ ap (λ (x : Reply × State). x.1) performed_as)

      pub stops_performed : (why : Stop) (new : State) → Performs (perform old opened s) old (Err why) new → Steps (step old line) old (Err why) new
      stops_performed (stop.Answer reply) new performs =
          (ap Some performs.0.0 ∙ ap (λ (x : Reply × State). x.0) performed_as, performs.0.1 ∙ ap (λ (x : Reply × State). x.1) performed_as, performs.1)
      stops_performed stop.Memory new performs = performs.1

  -- ---- steps that the session answers

  -- without a call
  pub answers_blank : (hosts : Hosts) → tokens_of line ≡ Some [] → AnswersAndLogs old hosts line None old hosts
  answers_blank hosts h = record {
    calls = [];
    logged = (sym (append-nil hosts.calls), refl);
    answer = as_machine (blank_step h) (every_none (IsAllowed old (line_named old line)));
  }

  -- and with calls of what the line names
  module _ (hosts hosts_after : Hosts) (added : AddsCalls old (line_named old line) hosts.calls hosts_after.calls)
      (same : hosts_after.predicates ≡ hosts.predicates) (new : State) where
    pub answers_stepped : (reply : Reply) → Steps (step old line) old (Ok reply) new → AnswersAndLogs old hosts line reply new hosts_after
    answers_stepped reply h = record {
      calls = added.0;
      logged = (added.1, same);
      answer = as_machine (ap₂ (λ (r : Reply) (s : State). (r, s)) h.0 h.1) added.2;
    }

    pub answers_stopped : (reply : List ℕ) → Steps (step old line) old (Err (stop.Answer reply)) new
        → AnswersAndLogs old hosts line (Some reply) new hosts_after
    answers_stopped reply h = record {
      calls = added.0;
      logged = (added.1, same);
      answer = as_machine (ap₂ (λ (r : Reply) (s : State). (r, s)) h.0 (h.2 ∙ h.1)) added.2;
    }

    -- where memory was refused the state is as it was, and the calls that were made are in the log
    pub answers_refused : (tokens_of line ≡ Some [] → ⊥) → (reply : Reply) → reply ≡ Some memory_line → Steps (step old line) old (Err stop.Memory) new
        → AnswersAndLogs old hosts line reply new hosts_after
    answers_refused met reply is stays = record {
      calls = added.0;
      logged = (added.1, same);
      answer = no_memory (some_reply met) is stays added.2;
    }
