-- The machine serves by the type of a line.
use Rattle.std.proofs.Common.{◌≡◌, ◌≤◌, if◌then◌else◌, [], Bool, true, false, Option, Some, None, ap, ◌∙◌, arith, codes, refl}
use Rattle.std.specs.Prelude.{nat_lt, ◌||◌}
use Rattle.std.proofs.lemmas.Bool.Decides.{nat_tests}
use Rattle.std.proofs.lemmas.Option.{none-some}
use Rattle.lq_value.specs.declared.ty.Ty.{Ty}
use Rattle.lq_language.specs.Meaning.{expression_meaning}
use Rattle.lq_grammar.specs.Reading.{Reading, Says, reading_of}
use Rattle.lq_grammar.specs.declared.syntax.Expr.{Expr}
use Rattle.lq_grammar.specs.declared.syntax.Statement.{Statement}
use Rattle.lq_grammar.specs.declared.syntax.Statement.TheVariants as statement
use Rattle.lq_machine.specs.Machine.{Reply, perform, replied, step, step_by}
use Rattle.lq_machine.specs.Opening.{is_past_opening, opening_of, rank_limit, size_limit}
use Rattle.lq_machine.specs.Served.{line_of}
use Rattle.lq_machine.specs.ServedTypeLaws.{IsTypeServedBy}
use Rattle.lq_machine.specs.ServedTypes.{line_type, statement_type, type_read, type_within}
use Rattle.lq_machine.specs.Serving.{run_denial, run_reply, served, served_type, unless_denied}
use Rattle.lq_machine.specs.States.{State, host_names, names_in, schemas_of, world_in}
use Rattle.lq_machine.specs.Statements.{Outcome, refused}
use Rattle.lq_machine.specs.declared.session.Opened.{Opened}
use Rattle.lq_machine.proofs.StoredQueries.{within}

-- what opens no more than the limits allow isn't past them
not_past : (opened : Opened) → opened.size ≤ size_limit → opened.rank ≤ rank_limit → is_past_opening opened ≡ false
not_past opened size rank =
    let small : nat_lt size_limit opened.size ≡ false = grind (arith, nat_tests, size) in
    let low : nat_lt rank_limit opened.rank ≡ false = grind (arith, nat_tests, rank) in
    ap (λ (b : Bool). b || nat_lt rank_limit opened.rank) small ∙ low

module _ (s : State) (t : Ty) (opened : Opened) where
  -- what a reading that has the type says, and what it opens
  abbrev Reads : Reading Statement → Type 0
  Reads r = (e : Expr) × (r ≡ Says (statement.Run e)) × (served_type (names_in s) e ≡ Some t) × (is_past_opening opened ≡ false)

  within_of : (x : Statement) → type_within s opened x ≡ Some t → (statement_type s x ≡ Some t) × (is_past_opening opened ≡ false)
  within_of x h = by (is_past_opening opened) refl h where
    by : (b : Bool) → is_past_opening opened ≡ b → (if b then None else statement_type s x) ≡ Some t → (statement_type s x ≡ Some t) × (is_past_opening opened ≡ false)
    by true past g = absurd (none-some t g)
    by false inside g = (g, inside)

  run_of : (x : Statement) → statement_type s x ≡ Some t → (e : Expr) × (x ≡ statement.Run e) × (served_type (names_in s) e ≡ Some t)
  run_of (statement.Run e) h = (e, refl, h)
  run_of x h = absurd (none-some t h)

  reads : (r : Reading Statement) → type_read s opened r ≡ Some t → Reads r
  reads (Says x) h =
      let inside = within_of x h in
      let run = run_of x inside.0 in
      (run.0, ap Says run.1, run.2, inside.1)
  reads r h = absurd (none-some t h)

  module _ (e : Expr) (typed : served_type (names_in s) e ≡ Some t) (inside : is_past_opening opened ≡ false) where
    read_type : type_read s opened (Says (statement.Run e)) ≡ Some t
    read_type = ap (λ (b : Bool). if b then None else statement_type s (statement.Run e)) inside ∙ typed

    read_reply : step_by s opened (Says (statement.Run e)) ≡ (
      Some (line_of (unless_denied (schemas_of s.tables) (host_names s) (run_denial s.policies s.role (names_in s) e) (served (world_in s) (Some t) (expression_meaning (world_in s) e [])))),
      s,
    )
    unfolding run_reply
    read_reply =
        ap (λ (b : Bool). let chosen : Outcome = if b then refused s (codes "too-deep") else perform s opened (statement.Run e) in replied chosen) inside
        ∙ ap (λ (o : Option Ty). let answer : Reply × State =
        (Some (line_of (unless_denied (schemas_of s.tables) (host_names s) (run_denial s.policies s.role (names_in s) e) (served (world_in s) o (expression_meaning (world_in s) e [])))), s) in answer) typed

pub type_served : IsTypeServedBy
unfolding line_type step
type_served s line t =
    let opened = opening_of s.definitions line in (
      λ is.
          let read = reads s t opened (reading_of line) is in
          let inside = within opened read.3 in
          record {
            expression = read.0;
            says = read.1;
            typed = read.2;
            within = record { size = inside.0; rank = inside.1 };
            reply = ap (step_by s opened) read.1 ∙ read_reply s t opened read.0 read.2 read.3;
          },
      λ served_so.
          ap (type_read s opened) served_so.says
          ∙ read_type s t opened served_so.expression served_so.typed (not_past opened served_so.within.size served_so.within.rank),
    )
