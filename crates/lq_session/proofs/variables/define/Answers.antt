-- A name that is taken is refused, and so is an expression without a type; any other is defined as the machine defines it.
use Rattle.std.proofs.Common.{◌≡◌, ◌∙◌, Err, List, Some, ap, refl, rules, subst, sym, ℕ}
use Rattle.lq_language.specs.declared.host_name.HostName.{HostName}
use Rattle.lq_machine.specs.DefinitionLaws.{IsDefined, IsNew}
use Rattle.lq_machine.specs.Definitions.{known_names}
use Rattle.lq_machine.specs.HostCalls.{evaluated_named}
use Rattle.lq_machine.specs.Served.{defined_data, line_of}
use Rattle.lq_machine.specs.States.{schemas_of}
use Rattle.lq_machine.specs.Statements.{is_taken}
use Rattle.lq_grammar.specs.declared.syntax.Expr.{Expr}
use Rattle.lq_grammar.specs.declared.syntax.Statement.TheVariants as statement
use Rattle.lq_run.specs.States.{state_with}
use Rattle.lq_run.specs.Statements.{FindsTree, tree_in}
use Rattle.lq_run.proofs.CallLaws.{none_called}
use Rattle.lq_session.proofs.CallLemmas.{defining_called}
use Rattle.lq_session.proofs.VariableLemmas.{defines, is_new, taken, undefined, untyped}
use Rattle.lq_session.proofs.variables.define.Goals as goal

pub returns-then-is_taken-clause-performs : goal.returns-then-is_taken-clause-performs
returns-then-is_taken-clause-performs g c =
    let s = state_with (g.H.Asks.known c.args.hosts.now) c.args.state.now in
    let is = sym (c.is_taken.ensures ∙ ap (is_taken s) c.as_str.ensures) ∙ c.if-is_taken.true in
    (taken s c.args.name c.args.opened c.args.expr c.refusal.result is c.refusal.ensures, refl)

pub returns-in_err-tree-clause-performs : goal.returns-in_err-tree-clause-performs
returns-in_err-tree-clause-performs g c =
    let predicates = g.H.Asks.known c.args.hosts.now in
    let s = state_with predicates c.args.state.now in
    let free = sym (c.is_taken.ensures ∙ ap (is_taken s) c.as_str.ensures) ∙ c.if-is_taken.false in
    let same : c.from_residual-in_err-tree.result ≡ Err c.in_err-tree.field-0.0 = search rules in
    rw same (
      untyped s c.args.name c.args.opened c.args.expr free c.in_err-tree.field-0.0
          (subst (λ (e : Expr). FindsTree (tree_in s e) (Err c.in_err-tree.field-0.0)) c.get.ensures (c.in_err-tree.ensures predicates c.requires.known)),
      refl,
    )

pub definition_by-requires-clause-bound : goal.definition_by-requires-clause-bound
definition_by-requires-clause-bound g c =
    let predicates = g.H.Asks.known c.args.hosts.now in
    ap (tree_in (state_with predicates c.args.state.now)) (sym c.get.ensures) ∙ c.in_ok-tree.ensures predicates c.requires.known
    ∙ ap Some (sym c.in_ok-holder.ensures)

pub returns-in_err-defined-clause-performs : goal.returns-in_err-defined-clause-performs
returns-in_err-defined-clause-performs g c =
    let predicates = g.H.Asks.known c.args.hosts.now in
    let s = state_with predicates c.args.state.now in
    let free = sym (c.is_taken.ensures ∙ ap (is_taken s) c.as_str.ensures) ∙ c.if-is_taken.false in
    let bound = ap (tree_in s) (sym c.get.ensures) ∙ c.in_ok-tree.ensures predicates c.requires.known ∙ ap Some (sym c.in_ok-holder.ensures) in
    let same : c.from_residual-in_err-defined.result ≡ Err c.in_err-defined.field-0.0 = search rules in
    rw same (
      undefined s c.args.name c.args.opened c.args.expr free c.in_ok-holder.holder bound c.in_err-defined.field-0.0 c.in_err-defined.ensures.defines,
      refl,
    )

pub define-requires-clause-new : goal.define-requires-clause-new
define-requires-clause-new g c =
    let s = state_with (g.H.Asks.known c.args.hosts.now) c.args.state.now in
    let free = sym (c.is_taken.ensures ∙ ap (is_taken s) c.as_str.ensures) ∙ c.if-is_taken.false in
    subst (λ (names : List HostName). IsNew (schemas_of c.args.state.now.tables)
    (known_names (schemas_of c.args.state.now.tables) names c.args.state.now.definitions) c.args.name) c.requires.known (is_new s c.args.name free)

pub define-requires-clause-typed : goal.define-requires-clause-typed
define-requires-clause-typed g c =
    subst (λ (names : List HostName). IsDefined (schemas_of c.args.state.now.tables) names
    (known_names (schemas_of c.args.state.now.tables) names c.args.state.now.definitions) c.in_ok-defined.defined) c.requires.known
    c.in_ok-defined.ensures.defines.0

pub returns-in_err-define-clause-hosts : goal.returns-in_err-define-clause-hosts
returns-in_err-define-clause-hosts g c = ap (λ s. s.policies.predicates) c.in_err-define.ensures.err

pub returns-clause-performs : goal.returns-clause-performs
returns-clause-performs g c =
    let predicates = g.H.Asks.known c.args.hosts.now in
    let s = state_with predicates c.args.state.now in
    let free = sym (c.is_taken.ensures ∙ ap (is_taken s) c.as_str.ensures) ∙ c.if-is_taken.false in
    let bound = ap (tree_in s) (sym c.get.ensures) ∙ c.in_ok-tree.ensures predicates c.requires.known ∙ ap Some (sym c.in_ok-holder.ensures) in
    defines s c.args.name c.args.opened c.args.expr free c.in_ok-holder.holder bound c.in_ok-line.line
    (state_with predicates c.define.new.self) c.in_ok-defined.defined c.in_ok-defined.ensures.defines
    (c.in_ok-line.ensures ∙ ap (λ (n : List ℕ). line_of (defined_data n)) c.as_str-2.ensures) (ap (state_with predicates) c.in_ok-define.ensures.ok)

pub returns-clause-hosts : goal.returns-clause-hosts
returns-clause-hosts g c = ap (λ s. s.policies.predicates) c.in_ok-define.ensures.ok

-- ---- the log

pub returns-then-is_taken-clause-calls : goal.returns-then-is_taken-clause-calls
returns-then-is_taken-clause-calls g c =
    let s = state_with (g.H.Asks.known c.args.hosts.now) c.args.state.now in
    none_called s (evaluated_named s (statement.Define c.args.name c.args.expr)) c.args.log.now

pub returns-in_err-line-clause-calls : goal.returns-in_err-line-clause-calls
returns-in_err-line-clause-calls g c =
    let s = state_with (g.H.Asks.known c.args.hosts.now) c.args.state.now in
    none_called s (evaluated_named s (statement.Define c.args.name c.args.expr)) c.args.log.now

pub returns-in_err-tree-clause-calls : goal.returns-in_err-tree-clause-calls
returns-in_err-tree-clause-calls g c =
    let s = state_with (g.H.Asks.known c.args.hosts.now) c.args.state.now in
    none_called s (evaluated_named s (statement.Define c.args.name c.args.expr)) c.args.log.now

pub returns-in_err-holder-clause-calls : goal.returns-in_err-holder-clause-calls
returns-in_err-holder-clause-calls g c =
    let s = state_with (g.H.Asks.known c.args.hosts.now) c.args.state.now in
    none_called s (evaluated_named s (statement.Define c.args.name c.args.expr)) c.args.log.now

pub returns-in_err-defined-clause-calls : goal.returns-in_err-defined-clause-calls
returns-in_err-defined-clause-calls g c =
    let s = state_with (g.H.Asks.known c.args.hosts.now) c.args.state.now in
    let free = sym (c.is_taken.ensures ∙ ap (is_taken s) c.as_str.ensures) ∙ c.if-is_taken.false in
    defining_called s c.args.expr c.args.log.now c.definition_by.new.log c.args.name free c.definition_by.ensures.calls

pub returns-in_err-define-clause-calls : goal.returns-in_err-define-clause-calls
returns-in_err-define-clause-calls g c =
    let s = state_with (g.H.Asks.known c.args.hosts.now) c.args.state.now in
    let free = sym (c.is_taken.ensures ∙ ap (is_taken s) c.as_str.ensures) ∙ c.if-is_taken.false in
    defining_called s c.args.expr c.args.log.now c.definition_by.new.log c.args.name free c.definition_by.ensures.calls

pub returns-clause-calls : goal.returns-clause-calls
returns-clause-calls g c =
    let s = state_with (g.H.Asks.known c.args.hosts.now) c.args.state.now in
    let free = sym (c.is_taken.ensures ∙ ap (is_taken s) c.as_str.ensures) ∙ c.if-is_taken.false in
    defining_called s c.args.expr c.args.log.now c.definition_by.new.log c.args.name free c.definition_by.ensures.calls
