-- Policies that were read for the tables: what rows are decided by is what the language says of their rules.
use Rattle.std.proofs.Common.{◌≡◌, ◌↔◌, ◌∷◌, ◌++◌, List, [], map, ℕ, Bool, true, Some, Result, Ok, slice_get, ap, ◌∙◌, sym, subst}
use Rattle.std.specs.List.{Contains}
use Rattle.std.proofs.lemmas.List.Elements.{Contains-append_left, Contains-append_right}
use Rattle.std.proofs.lemmas.Option.{same_Some}
use Rattle.lq_value.specs.declared.scalar.Scalar.{Scalar}
use Rattle.lq_value.specs.declared.scalar.Scalar.TheVariants as scalar
use Rattle.lq_value.specs.declared.table.Column.{Column}
use Rattle.lq_value.specs.declared.table.Schema.{Schema}
use Rattle.lq_value.specs.declared.value.Fault.{Fault}
use Rattle.lq_value.specs.declared.value.Fault.TheVariants as fault
use Rattle.lq_value.specs.declared.value.Value.{Value}
use Rattle.lq_value.specs.declared.value.Value.TheVariants as value
use Rattle.lq_language.specs.Worlds.{World}
use Rattle.lq_security.specs.PolicyLaws.{AcceptsVisible, TellsRefuser, TellsVisible}
use Rattle.lq_security.specs.RuleLaws.{AreCellsOf, AreReadFor, IsRowOver, IsRuleOver, language_world}
use Rattle.lq_language.specs.TableRows.{cell_named}
use Rattle.lq_security.specs.Visible.{Admits, read, put_in, removed, RowForUser, HasRule, IsAdmitted, IsFirstRefusing, IsRefusedBy, default, restriction, IsSatisfied, IsTrueOn, IsVisible, unsecured, bypassing, admitted, language_scope, refuser_of, rule_holds}
use Rattle.lq_language.specs.Meaning.{expression_meaning}
use Rattle.lq_security.specs.declared.policy.Action.{Action}
use Rattle.lq_security.specs.declared.policy.Action.TheVariants as action
use Rattle.lq_security.specs.declared.policy.Policy.{Policy}
use Rattle.lq_security.specs.declared.policy.PolicyParts.{PolicyParts}
use Rattle.lq_security.specs.declared.policy.TablePart.{TablePart}
use Rattle.lq_grammar.specs.declared.syntax.Expr.{Expr}
use Rattle.lq_security.proofs.DecidedPolicies as decided
use Rattle.lq_security.proofs.MembershipLaws.{has_first}
use Rattle.lq_security.proofs.NewRowLemmas.{accepts_decided, tells_decided}
use Rattle.lq_security.proofs.PolicyLemmas.{asked_by, told_where_visible, visible_where_told}
use Rattle.lq_security.proofs.RuleLemmas.{meant, truth_of_value}

-- ---- rules

-- what the language says of a rule on a row whose columns have these names
abbrev said : List Column → List (List ℕ) → List Scalar → List ℕ → Expr → Result (Value (List Scalar)) Fault
said columns names cells user rule =
    let world : World (List Scalar) = record { schemas = record { name = []; columns = columns } ∷ []; rows = [] ∷ []; predicates = []; session = []; cell = cell_named names; table = λ cells. 0; unknown = fault.NullReference } in
    expression_meaning world rule (language_scope cells user)

module _ (columns : List Column) (asked : RowForUser) (names : asked.columns ≡ map (λ column. column.name) columns) (row : IsRowOver columns asked.cells) where
  says : (rule : Expr) → IsRuleOver columns rule
      → said columns asked.columns asked.cells asked.user rule ≡ Ok (value.Scalar (scalar.Bool (rule_holds asked.columns rule asked.cells asked.user)))
  says rule is =
      subst (λ (ns : List (List ℕ)). said columns ns asked.cells asked.user rule ≡ Ok (value.Scalar (scalar.Bool (rule_holds ns rule asked.cells asked.user)))) (sym names)
      (meant columns asked.cells row asked.user rule is fault.NullReference)

  true_where_decided : (rule : Expr) → IsRuleOver columns rule → decided.IsTrueOn asked rule → IsTrueOn columns asked rule
  true_where_decided rule is h = says rule is ∙ ap (λ (b : Bool). Ok (value.Scalar (scalar.Bool b))) h

  decided_where_true : (rule : Expr) → IsRuleOver columns rule → IsTrueOn columns asked rule → decided.IsTrueOn asked rule
  decided_where_true rule is h =
      sym (truth_of_value (language_world columns fault.NullReference) _ (rule_holds asked.columns rule asked.cells asked.user) (says rule is))
      ∙ truth_of_value (language_world columns fault.NullReference) _ true h

  -- ---- policies

  -- each rule of a policy is one for rows of these columns
  abbrev HasRules : Policy → Type 0
  HasRules policy = (act : Action) (rule : Expr) → HasRule act policy rule → IsRuleOver columns rule

  satisfied : (act : Action) (policy : Policy) → HasRules policy → decided.IsSatisfied act asked policy → IsSatisfied columns act asked policy
  satisfied act policy rules is = record { rule = is.rule; has = is.has; true_on = true_where_decided is.rule (rules act is.rule is.has) is.true_on }

  decided_satisfied : (act : Action) (policy : Policy) → HasRules policy → IsSatisfied columns act asked policy → decided.IsSatisfied act asked policy
  decided_satisfied act policy rules is = record { rule = is.rule; has = is.has; true_on = decided_where_true is.rule (rules act is.rule is.has) is.true_on }

  module _ (parts : PolicyParts) (role table : ℕ) (rules : (policy : Policy) → Contains parts.policies policy → policy.table ≡ table → HasRules policy) where
    admits_itself : (act : Action) → decided.IsAdmitted parts role act table asked → IsAdmitted columns parts role act table asked
    admits_itself act is = record {
      permitting = is.permitting;
      among = is.among;
      permissive = is.permissive;
      applying = is.applying;
      permitted = satisfied act is.permitting (rules is.permitting is.among is.applying.on_table) is.permitted;
      unrestricted = λ policy has bound applying. satisfied act policy (rules policy has applying.on_table) (is.unrestricted policy has bound applying);
    }

    decided_admitted : (act : Action) → IsAdmitted columns parts role act table asked → decided.IsAdmitted parts role act table asked
    decided_admitted act is = record {
      permitting = is.permitting;
      among = is.among;
      permissive = is.permissive;
      applying = is.applying;
      permitted = decided_satisfied act is.permitting (rules is.permitting is.among is.applying.on_table) is.permitted;
      unrestricted = λ policy has bound applying. decided_satisfied act policy (rules policy has applying.on_table) (is.unrestricted policy has bound applying);
    }

    admits : (act : Action) → decided.Admits parts role table asked act → Admits columns parts role table asked act
    admits act (decided.read is) = read (admits_itself action.Select is)
    admits act (decided.put_in is) = put_in (admits_itself action.Insert is)
    admits act (decided.removed seen is) = removed (admits_itself action.Select seen) (admits_itself action.Delete is)

    decided_admits : (act : Action) → Admits columns parts role table asked act → decided.Admits parts role table asked act
    decided_admits act (read is) = decided.read (decided_admitted action.Select is)
    decided_admits act (put_in is) = decided.put_in (decided_admitted action.Insert is)
    decided_admits act (removed seen is) = decided.removed (decided_admitted action.Select seen) (decided_admitted action.Delete is)

    -- ---- new rows

    -- the first policy that refuses, and those before it, are among the policies
    among : (front rest : List Policy) (refusing : Policy) → parts.policies ≡ front ++ refusing ∷ rest → Contains parts.policies refusing
    among front rest refusing split = subst (λ l. Contains l refusing) (sym split) (Contains-append_right front (refusing ∷ rest) refusing (has_first refusing rest))

    before : (front rest : List Policy) (refusing : Policy) → parts.policies ≡ front ++ refusing ∷ rest → (policy : Policy) → Contains front policy
        → Contains parts.policies policy
    before front rest refusing split policy has = subst (λ l. Contains l policy) (sym split) (Contains-append_left front (refusing ∷ rest) policy has)

    first_refusing : (refusing : Policy) → decided.IsFirstRefusing parts role table asked refusing → IsFirstRefusing columns parts role table asked refusing
    first_refusing refusing is = record {
      front = is.front;
      rest = is.rest;
      split = is.split;
      restrictive = is.restrictive;
      applying = is.applying;
      unsatisfied = λ holds. is.unsatisfied (decided_satisfied action.Insert refusing (rules refusing (among is.front is.rest refusing is.split) is.applying.on_table) holds);
      first = λ policy has bound applying. satisfied action.Insert policy (rules policy (before is.front is.rest refusing is.split policy has) applying.on_table) (is.first policy has bound applying);
    }

    decided_refusing : (refusing : Policy) → IsFirstRefusing columns parts role table asked refusing → decided.IsFirstRefusing parts role table asked refusing
    decided_refusing refusing is = record {
      front = is.front;
      rest = is.rest;
      split = is.split;
      restrictive = is.restrictive;
      applying = is.applying;
      unsatisfied = λ holds. is.unsatisfied (satisfied action.Insert refusing (rules refusing (among is.front is.rest refusing is.split) is.applying.on_table) holds);
      first = λ policy has bound applying. decided_satisfied action.Insert policy (rules policy (before is.front is.rest refusing is.split policy has) applying.on_table) (is.first policy has bound applying);
    }

    refused : (name : List ℕ) → decided.IsRefusedBy parts role table asked name → IsRefusedBy columns parts role table asked name
    refused name (decided.default unpermitted) =
        default (λ policy has permissive applying holds. unpermitted policy has permissive applying (decided_satisfied action.Insert policy (rules policy has applying.on_table) holds))
    refused name (decided.restriction permitting has permissive applying holds refusing is) =
        restriction permitting has permissive applying (satisfied action.Insert permitting (rules permitting has applying.on_table) holds) refusing (first_refusing refusing is)

    decided_refused : (name : List ℕ) → IsRefusedBy columns parts role table asked name → decided.IsRefusedBy parts role table asked name
    decided_refused name (default unpermitted) =
        decided.default (λ policy has permissive applying holds. unpermitted policy has permissive applying (satisfied action.Insert policy (rules policy has applying.on_table) holds))
    decided_refused name (restriction permitting has permissive applying holds refusing is) =
        decided.restriction permitting has permissive applying (decided_satisfied action.Insert permitting (rules permitting has applying.on_table) holds) refusing (decided_refusing refusing is)

-- ---- policies that were read for the tables

module _ (schemas : List Schema) (parts : PolicyParts) (for : AreReadFor schemas parts) where
  -- the rules of the policies of a table
  rules_of : (table : ℕ) (schema : Schema) → slice_get schemas table ≡ Some schema
      → (policy : Policy) → Contains parts.policies policy → policy.table ≡ table → (act : Action) (rule : Expr) → HasRule act policy rule → IsRuleOver schema.columns rule
  rules_of table schema at policy has on = for.rules policy has schema (ap (slice_get schemas) on ∙ at)

  -- the columns of a table, by its schema
  names_of : (table : ℕ) (schema : Schema) → slice_get schemas table ≡ Some schema → (part : TablePart) → slice_get parts.tables table ≡ Some part
      → part.columns ≡ map (λ column. column.name) schema.columns
  names_of table schema at part is =
      let own = for.tables table part is in
      own.2 ∙ ap (λ (s : Schema). map (λ column. column.name) s.columns) (same_Some _ _ (sym own.1 ∙ at))

  module _ (role : ℕ) (act : Action) (table : ℕ) (cells : List Scalar) (fits : AreCellsOf schemas table cells) where
    visible : decided.IsVisible parts role act table cells → IsVisible schemas parts role act table cells
    visible (decided.unsecured part is off) = unsecured part is off
    visible (decided.bypassing part asking is some bypasses) = bypassing part asking is some bypasses
    visible (decided.admitted part asking is some admit) =
        let own = for.tables table part is in
        admitted part asking own.0 is some own.1
        (admits own.0.columns (asked_by asking part cells) own.2 (fits own.0 own.1) parts role table (rules_of table own.0 own.1) act admit)

    decided_visible : IsVisible schemas parts role act table cells → decided.IsVisible parts role act table cells
    decided_visible (unsecured part is off) = decided.unsecured part is off
    decided_visible (bypassing part asking is some bypasses) = decided.bypassing part asking is some bypasses
    decided_visible (admitted part asking schema is some at admit) =
        decided.admitted part asking is some
        (decided_admits schema.columns (asked_by asking part cells) (names_of table schema at part is) (fits schema at) parts role table (rules_of table schema at) act admit)

pub tells_visible : TellsVisible
tells_visible schemas parts for role act table cells fits = (
  λ told. visible schemas parts for role act table cells fits (visible_where_told parts role act table cells told),
  λ is. told_where_visible parts role act table cells (decided_visible schemas parts for role act table cells fits is),
)

pub accepts_visible : AcceptsVisible
accepts_visible schemas parts for role table cells fits = (
  λ none. visible schemas parts for role action.Insert table cells fits ((accepts_decided parts role table cells).0 none),
  λ is. (accepts_decided parts role table cells).1 (decided_visible schemas parts for role action.Insert table cells fits is),
)

pub tells_refuser : TellsRefuser
tells_refuser schemas parts for role table schema part asking at is secured some bound cells row name = (
  λ told. refused schema.columns asked names row parts role table rules name (decides.0 told),
  λ by. decides.1 (decided_refused schema.columns asked names row parts role table rules name by),
) where
  asked : RowForUser
  asked = asked_by asking part cells

  names : part.columns ≡ map (λ column. column.name) schema.columns
  names = names_of schemas parts for table schema at part is

  rules : (policy : Policy) → Contains parts.policies policy → policy.table ≡ table → (act : Action) (rule : Expr) → HasRule act policy rule → IsRuleOver schema.columns rule
  rules = rules_of schemas parts for table schema at

  decides : (refuser_of parts role table cells ≡ Some name) ↔ decided.IsRefusedBy parts role table asked name
  decides = tells_decided parts role table part asking is secured some bound cells name
