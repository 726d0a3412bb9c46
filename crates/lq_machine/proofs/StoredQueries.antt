-- A `var` line that gives a sequence and is answered as defined stores its expression with what the line opens.
use Rattle.std.proofs.Common.{◌≡◌, ◌≤◌, if◌then◌else◌, List, ℕ, Bool, true, false, Some, ap, ◌∙◌, arith, codes, eqb, refl, subst, sym, true≢false}
use Rattle.std.specs.Prelude.{nat_lt, ◌||◌}
use Rattle.std.proofs.lemmas.Bool.Decides.{nat_tests}
use Rattle.std.proofs.lemmas.Option.{same_Some}
use Rattle.serde_json.proofs.OnLiterals.{serde_json_on_literals}
use Rattle.lq_value.specs.declared.ty.Ty.{Ty}
use Rattle.lq_value.specs.declared.ty.Ty.TheVariants as ty
use Rattle.lq_value.specs.declared.ty.Ty.TheVariants.{outs-Seq}
use Rattle.lq_language.specs.ClauseTyping.{expression_type}
use Rattle.lq_machine.specs.Machine.{perform_opened, step, step_by}
use Rattle.lq_machine.specs.Opening.{is_past_opening, opening_of, rank_limit, size_limit}
use Rattle.lq_machine.specs.OpeningLaws.{StoresOpening}
use Rattle.lq_machine.specs.Served.{defined_data, error_data, line_of}
use Rattle.lq_machine.specs.Statements.{Outcome, defined, defining_also, is_taken, refused}
use Rattle.lq_machine.specs.States.{State, names_in}
use Rattle.lq_machine.specs.declared.session.Defined.TheVariants as of
use Rattle.lq_machine.specs.declared.session.Opened.{Opened}
use Rattle.lq_grammar.specs.Reading.{Reading}
use Rattle.lq_grammar.specs.declared.syntax.Expr.{Expr}
use Rattle.lq_grammar.specs.declared.syntax.Statement.{Statement}
use Rattle.lq_grammar.specs.declared.syntax.Statement.TheVariants as statement
use Rattle.lq_machine.proofs.SessionLemmas.{defined_third, third}
use Rattle.lq_machine.proofs.StatementLaws.{defined_query, defined_taken}

-- a refusal begins with `{\"e`, and what is answered as defined with `{\"d`
error_third : (word : List ℕ) → third (line_of (error_data word)) ≡ Some 101
unfolding serde_json_on_literals
error_third word = refl

no_refusal : (word name : List ℕ) → line_of (error_data word) ≡ line_of (defined_data name) → ⊥
no_refusal word name h =
    let same : 101 ≡ 100 = same_Some 101 100 (sym (error_third word) ∙ ap third h ∙ defined_third name) in
    true≢false (ap (λ (n : ℕ). eqb n 101) same)

-- what isn't past the limits opens no more than they allow
pub within : (opened : Opened) → is_past_opening opened ≡ false → (opened.size ≤ size_limit) × (opened.rank ≤ rank_limit)
within opened h = by (nat_lt size_limit opened.size) (nat_lt rank_limit opened.rank) refl refl h where
  by : (b c : Bool) → nat_lt size_limit opened.size ≡ b → nat_lt rank_limit opened.rank ≡ c → (b || c) ≡ false
      → (opened.size ≤ size_limit) × (opened.rank ≤ rank_limit)
  by false false size rank none = (grind (arith, nat_tests, size), grind (arith, nat_tests, rank))
  by true c size rank none = absurd (true≢false none)
  by false true size rank none = absurd (true≢false none)

module _ (old : State) (name : List ℕ) (e : Expr) (item : Ty) (typed : expression_type e (names_in old) ≡ Some (ty.Seq item)) (opened : Opened) where
  abbrev stored : State
  stored = defining_also old name (of.Query e opened)

  -- an outcome that is answered as defined has stored the query
  abbrev Stores : Outcome → Type 0
  Stores x = line_of x.0 ≡ line_of (defined_data name) → x.1 ≡ stored

  defining_stores : Stores (defined old name opened e)
  defining_stores = by (is_taken old name) refl where
    by : (b : Bool) → is_taken old name ≡ b → Stores (defined old name opened e)
    by true taken = subst Stores (sym (defined_taken old name opened e taken)) (λ h. absurd (no_refusal (codes "type") name h))
    by false free = subst Stores (sym (defined_query old name opened e (ty.Seq item) free typed item (outs-Seq item))) (λ h. refl)

  performing_stores : line_of (perform_opened old opened (statement.Define name e)).0 ≡ line_of (defined_data name)
      → (is_past_opening opened ≡ false) × ((perform_opened old opened (statement.Define name e)).1 ≡ stored)
  performing_stores h = by (is_past_opening opened) refl h where
    choice : Bool → Outcome
    choice b = if b then refused old (codes "too-deep") else defined old name opened e

    by : (b : Bool) → is_past_opening opened ≡ b → line_of (choice b).0 ≡ line_of (defined_data name) → (is_past_opening opened ≡ false) × ((choice (is_past_opening opened)).1 ≡ stored)
    by true past g = absurd (no_refusal (codes "too-deep") name g)
    by false inside g = (inside, ap (λ (b : Bool). (choice b).1) inside ∙ defining_stores g)

pub stores_opening : StoresOpening
unfolding step
stores_opening old line name e item says typed answered =
    let opened = opening_of old.definitions line in
    let spoken : line_of (perform_opened old opened (statement.Define name e)).0 ≡ line_of (defined_data name) =
    same_Some _ _ (sym (ap (λ (r : Reading Statement). (step_by old opened r).0) says) ∙ answered) in
    let stores = performing_stores old name e item typed opened spoken in
    let inside = within opened stores.0 in (
      record { size = inside.0; rank = inside.1 },
      ap (λ (r : Reading Statement). (step_by old opened r).1) says ∙ stores.1,
    )
