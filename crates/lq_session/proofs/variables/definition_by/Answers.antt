-- A sequence is defined by its expression, which isn't evaluated, and a scalar by its value; what stops the evaluation of a scalar stops the definition, and
-- leaves its calls.
use Rattle.std.proofs.Common.{◌≡◌, ◌∙◌, Err, Ok, Some, ap, rules, subst, sym, true}
use Rattle.lq_value.specs.declared.ty.Ty.{Ty, out-Ty}
use Rattle.lq_language.specs.ClauseTyping.{expression_type}
use Rattle.lq_language.specs.OperandTypes.{is_scalar}
use Rattle.lq_grammar.specs.declared.syntax.Expr.{Expr}
use Rattle.lq_machine.specs.HostCalls.{definition_named}
use Rattle.lq_machine.specs.States.{names_in}
use Rattle.lq_machine.specs.declared.session.Defined.TheVariants as of
use Rattle.lq_tree.specs.declared.tree.Tree.{Tree}
use Rattle.lq_run.specs.States.{state_with}
use Rattle.lq_run.specs.Statements.{EvaluatesTree}
use Rattle.lq_session.specs.Variables.{DefinesBy}
use Rattle.lq_run.proofs.CallLaws.{none_called}
use Rattle.lq_session.proofs.CallLemmas.{definition_called}
use Rattle.lq_session.proofs.VariableLemmas.{defines_query, defines_variable, unevaluated}
use Rattle.lq_session.proofs.variables.definition_by.Goals as goal

pub returns-in-Seq-clause-defines : goal.returns-in-Seq-clause-defines
returns-in-Seq-clause-defines g c =
    let s = state_with (g.H.Asks.known c.args.hosts.now) c.args.state.now in
    let typed = sym (c.ty.ensures ∙ ap (λ (t : Tree). t.ty) c.get-inner.ensures) ∙ c.in-Seq.is in
    subst (λ (e : Expr). DefinesBy s c.args.opened c.args.expr c.args.tree (Ok (of.Query e c.args.opened))) (sym c.into_inner.ensures)
    (defines_query s c.args.opened c.args.expr c.args.tree c.requires.bound c.in-Seq.field-0 typed)

pub returns-in_err-value-in-Int-clause-defines : goal.returns-in_err-value-in-Int-clause-defines
returns-in_err-value-in-Int-clause-defines g c =
    let s = state_with (g.H.Asks.known c.args.hosts.now) c.args.state.now in
    let typed = c.ty.ensures ∙ ap (λ (t : Tree). t.ty) c.get-inner.ensures in
    let there : is_scalar (out-Ty c.ty.result.now) ≡ true = search rules in
    let scalar = ap (λ (t : Ty). is_scalar (out-Ty t)) (sym typed) ∙ there in
    let same : c.from_residual.result ≡ Err c.in_err-value-in-Int.field-0.0 = search rules in
    let stops = subst (λ (t : Tree). EvaluatesTree s t (Err c.in_err-value-in-Int.field-0.0)) c.get-inner.ensures c.in_err-value-in-Int.ensures.evaluates in
    rw same (unevaluated s c.args.opened c.args.expr c.args.tree c.requires.bound scalar c.in_err-value-in-Int.field-0.0 stops)

pub returns-in_ok-value-in-Int-clause-defines : goal.returns-in_ok-value-in-Int-clause-defines
returns-in_ok-value-in-Int-clause-defines g c =
    let s = state_with (g.H.Asks.known c.args.hosts.now) c.args.state.now in
    let typed = c.ty.ensures ∙ ap (λ (t : Tree). t.ty) c.get-inner.ensures in
    let there : is_scalar (out-Ty c.ty.result.now) ≡ true = search rules in
    let scalar = ap (λ (t : Ty). is_scalar (out-Ty t)) (sym typed) ∙ there in
    let value = c.in_ok-value-in-Int.value in
    let yields = subst (λ (t : Tree). EvaluatesTree s t (Ok value)) c.get-inner.ensures c.in_ok-value-in-Int.ensures.evaluates in
    subst (λ (t : Tree). DefinesBy s c.args.opened c.args.expr c.args.tree (Ok (of.Variable t.ty value))) (sym c.into_inner-tree.ensures)
    (defines_variable s c.args.opened c.args.expr c.args.tree c.requires.bound scalar value yields)

-- ---- the log

pub returns-in-Seq-clause-calls : goal.returns-in-Seq-clause-calls
returns-in-Seq-clause-calls g c =
    let s = state_with (g.H.Asks.known c.args.hosts.now) c.args.state.now in
    none_called s (definition_named s c.args.expr (expression_type c.args.expr (names_in s))) c.args.log.now

pub returns-in_err-value-in-Int-clause-calls : goal.returns-in_err-value-in-Int-clause-calls
returns-in_err-value-in-Int-clause-calls g c =
    let s = state_with (g.H.Asks.known c.args.hosts.now) c.args.state.now in
    let typed = c.ty.ensures ∙ ap (λ (t : Tree). t.ty) c.get-inner.ensures in
    let there : is_scalar (out-Ty c.ty.result.now) ≡ true = search rules in
    let scalar = ap (λ (t : Ty). is_scalar (out-Ty t)) (sym typed) ∙ there in
    let bound = c.requires.bound ∙ ap Some (sym c.get-inner.ensures) in
    definition_called s c.args.expr c.args.log.now c.evaluate_scalar.new.log c.args.tree c.requires.bound scalar
    (c.evaluate_scalar.ensures.calls c.args.expr bound)

pub returns-in_ok-value-in-Int-clause-calls : goal.returns-in_ok-value-in-Int-clause-calls
returns-in_ok-value-in-Int-clause-calls g c =
    let s = state_with (g.H.Asks.known c.args.hosts.now) c.args.state.now in
    let typed = c.ty.ensures ∙ ap (λ (t : Tree). t.ty) c.get-inner.ensures in
    let there : is_scalar (out-Ty c.ty.result.now) ≡ true = search rules in
    let scalar = ap (λ (t : Ty). is_scalar (out-Ty t)) (sym typed) ∙ there in
    let bound = c.requires.bound ∙ ap Some (sym c.get-inner.ensures) in
    definition_called s c.args.expr c.args.log.now c.evaluate_scalar.new.log c.args.tree c.requires.bound scalar
    (c.evaluate_scalar.ensures.calls c.args.expr bound)

pub returns-in-Null-clause-calls : goal.returns-in-Null-clause-calls
returns-in-Null-clause-calls g c =
    let s = state_with (g.H.Asks.known c.args.hosts.now) c.args.state.now in
    none_called s (definition_named s c.args.expr (expression_type c.args.expr (names_in s))) c.args.log.now
