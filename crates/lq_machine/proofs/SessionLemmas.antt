-- Proofs of the laws of the session machine and of its output.
use Rattle.std.proofs.Common.{◌≡◌, ◌≢◌, ◌∷◌, List, [], ℕ, Some, None, IsSome, ap, ◌∙◌, sym, refl, subst, if◌then◌else◌, Bool, true, false, Option, codes, ◌==◌, ◌^◌, eqb, length, slice_get, true≢false, Result, Ok, Err}
use Rattle.serde_json.specs.Data.{Data}
use Rattle.serde_json.proofs.OnLiterals.{serde_json_on_literals}
use Rattle.lq_host.specs.declared.call.Call.{Call}
use Rattle.lq_machine.specs.Machine.{Reply, memory_line, perform, step, step_by}
use Rattle.lq_machine.specs.Serving.{run_denial, run_in, run_reply, unless_denied}
use Rattle.lq_machine.specs.States.{State, names_in, schemas_of, world_in}
use Rattle.lq_machine.specs.Output.{Answers, as_machine, no_memory, stepped}
use Rattle.lq_grammar.specs.Reading.{Reading, Nothing, Says, IsNoSyntax, IsTooDeep, reading_of}
use Rattle.lq_machine.specs.Served.{line_of, assigned_data, defined_data, deleted_data, inserted_data, role_data}
use Rattle.lq_machine.specs.SessionLaws.{AnswersAlike, IsOutput, IsSilentAlike, LeavesTheRest, LooksSame, MemoryLineIsServed, ScriptsAlike, end, answered, refused, LookAlikeBehind, NumberAlike, NumberAlikeBehind, TakesNoRole}
use Rattle.lq_grammar.specs.declared.syntax.Expr.{Expr}
use Rattle.lq_grammar.specs.declared.syntax.Statement.{Statement}
use Rattle.lq_grammar.specs.declared.syntax.Statement.TheVariants as statement
use Rattle.std.proofs.lemmas.Option.{same_Some}
use Rattle.lq_value.specs.Tables.{Table, first_named}
use Rattle.lq_value.specs.declared.scalar.Scalar.{Scalar}
use Rattle.lq_value.specs.declared.ty.Ty.{Ty, out-Ty}
use Rattle.lq_value.specs.declared.ty.Ty.TheOpen.{Ty-F}
use Rattle.lq_value.specs.declared.value.End.{End}
use Rattle.lq_value.specs.declared.value.Fault.{Fault}
use Rattle.lq_value.specs.declared.value.Value.{Value, out-Value}
use Rattle.lq_value.specs.declared.value.Value.TheOpen.{Value-F}
use Rattle.lq_language.specs.ClauseTyping.{expression_type}
use Rattle.lq_machine.specs.Definitions.{definition_of}
use Rattle.lq_machine.specs.Opening.{is_past_opening, opening_of}
use Rattle.lq_security.specs.Rights.{Denied, denial}
use Rattle.lq_machine.specs.Statements.{Outcome, allowed_by, are_of_columns, are_within_ranges, assigned, assigned_as, assigned_by, assigned_to, removed_items, defined, defined_as, defined_by, deleted, evaluated, inserted, is_taken, refused as refusal, row_checked, row_for, row_for_named, rows_of, rows_of_named, rows_removed, taking_role, under_role, with_scalar, with_value, assigning, defining_also}
use Rattle.lq_language.specs.Names.{table_number, with_local}
use Rattle.lq_language.specs.OperandTypes.{is_bool_type, is_scalar}
use Rattle.lq_language.specs.Mentions.{uses_of}
use Rattle.lq_language.specs.Uses.{expression_uses}
use Rattle.lq_language.specs.Worlds.{known_predicates}
use Rattle.lq_language.specs.TableRows.{TableRow}
use Rattle.lq_security.specs.Visible.{refuser_of}
use Rattle.lq_language.specs.Meaning.{expression_meaning}
use Rattle.lq_language.specs.Typing.{converts}
use Rattle.lq_machine.specs.declared.session.Defined.{Defined}
use Rattle.lq_machine.specs.declared.session.Definition.{Definition}
use Rattle.lq_machine.specs.declared.session.Opened.{Opened}
use Rattle.lq_machine.proofs.StatementsAlike.{Alike, assigned_alike, defined_alike, deleted_alike, if_alike, inserted_alike, names_alike, refused_alike, role_alike, stays, world_alike}
use Rattle.lq_machine.specs.declared.session.Defined.TheVariants as of
use Rattle.lq_language.specs.declared.rights.Use.TheVariants as used
use Rattle.lq_value.specs.declared.value.End.TheVariants as end
use Rattle.lq_value.specs.declared.ty.Ty.TheVariants as ty

-- ---- replies

-- what is served reads the schemas, the tables as seen and the definitions, and nothing else of the state
served_alike : (a b : State) → LooksSame a b → (e : Expr) → run_in a e ≡ run_in b e
served_alike a b same e =
    λ i. unless_denied (same.schemas i) (known_predicates (same.predicates i)) (run_denial (same.policies i) (same.role i) (names_alike a b same i) e)
    (run_reply (names_alike a b same i) (world_alike a b same i) e)

run_alike : (a b : State) (same : LooksSame a b) (e : Expr) → Alike a b same (run_in a e, a) (run_in b e, b)
run_alike a b same e = stays a b same _ _ (served_alike a b same e)

-- what a reading says that puts in a row, or takes a role
abbrev PutsInBy : Reading Statement → Type 0
PutsInBy r = (name : List ℕ) × (cells : List Scalar) × (r ≡ Says (statement.Insert name cells))

abbrev TakesRoleBy : Reading Statement → Type 0
TakesRoleBy r = (name : List ℕ) × (r ≡ Says (statement.As name))

module _ (a b : State) (same : LooksSame a b) where
  abbrev AlikeReplies : Outcome → Outcome → Type 0
  AlikeReplies x y = x.0 ≡ y.0

  reply_by : (c : Bool) (x y v w : Outcome) → AlikeReplies x y → AlikeReplies v w → AlikeReplies (if c then x else v) (if c then y else w)
  reply_by true x y v w first second = first
  reply_by false x y v w first second = second

  performed_replies : (opened : Opened) (s : Statement) → (PutsInBy (Says s) → NumberAlike a b) → AlikeReplies (perform a opened s) (perform b opened s)
  performed_replies opened (statement.Run x) numbers = served_alike a b same x
  performed_replies opened (statement.Define name x) numbers = (defined_alike a b same name opened x).reply
  performed_replies opened (statement.Assign name x) numbers = (assigned_alike a b same name x).reply
  performed_replies opened (statement.As name) numbers = role_alike a b same name
  performed_replies opened (statement.Insert name cells) numbers = (inserted_alike a b same name cells (numbers (name, cells, refl))).reply
  performed_replies opened (statement.Delete name row x) numbers = (deleted_alike a b same name row x).reply

  performed_alike : (opened : Opened) (s : Statement) → (PutsInBy (Says s) → NumberAlike a b) → (TakesRoleBy (Says s) → ⊥)
      → Alike a b same (perform a opened s) (perform b opened s)
  performed_alike opened (statement.Run x) numbers stays_in = run_alike a b same x
  performed_alike opened (statement.Define name x) numbers stays_in = defined_alike a b same name opened x
  performed_alike opened (statement.Assign name x) numbers stays_in = assigned_alike a b same name x
  performed_alike opened (statement.As name) numbers stays_in = absurd (stays_in (name, refl))
  performed_alike opened (statement.Insert name cells) numbers stays_in = inserted_alike a b same name cells (numbers (name, cells, refl))
  performed_alike opened (statement.Delete name row x) numbers stays_in = deleted_alike a b same name row x

  reading_replies : (opened : Opened) (r : Reading Statement) → (PutsInBy r → NumberAlike a b) → (step_by a opened r).0 ≡ (step_by b opened r).0
  reading_replies opened Nothing numbers = refl
  reading_replies opened (Says s) numbers =
      ap (λ (d : Data). let reply : Reply = Some (line_of d) in reply)
      (reply_by (is_past_opening opened) (refusal a (codes "too-deep")) (refusal b (codes "too-deep")) (perform a opened s) (perform b opened s) refl
      (performed_replies opened s numbers))
  reading_replies opened IsNoSyntax numbers = refl
  reading_replies opened IsTooDeep numbers = refl

  reading_alike : (opened : Opened) (r : Reading Statement) → (PutsInBy r → NumberAlike a b) → (TakesRoleBy r → ⊥) → LooksSame (step_by a opened r).1 (step_by b opened r).1
  reading_alike opened Nothing numbers stays_in = same
  reading_alike opened (Says s) numbers stays_in =
      (if_alike a b same (is_past_opening opened) (is_past_opening opened) _ _ _ _ refl (refused_alike a b same (codes "too-deep")) (performed_alike opened s numbers stays_in)).looks
  reading_alike opened IsNoSyntax numbers stays_in = same
  reading_alike opened IsTooDeep numbers stays_in = same

  -- the next numbers of tables that no statement but an `insert` changes
  role_numbers : NumberAlike a b → (name : List ℕ) (o p : Option ℕ) → NumberAlike (under_role a name o).1 (under_role b name p).1
  role_numbers numbers name None None = numbers
  role_numbers numbers name None (Some p) = numbers
  role_numbers numbers name (Some o) None = numbers
  role_numbers numbers name (Some o) (Some p) = numbers

  taking_numbers : NumberAlike a b → (name : List ℕ) → NumberAlike (taking_role a name).1 (taking_role b name).1
  unfolding taking_role
  taking_numbers numbers name = role_numbers numbers name (first_named (λ role. role.name) name a.policies.roles) (first_named (λ role. role.name) name b.policies.roles)

  performed_numbers : NumberAlike a b → (opened : Opened) (s : Statement) → NumberAlike (perform a opened s).1 (perform b opened s).1
  performed_numbers numbers opened (statement.Run x) = numbers
  performed_numbers numbers opened (statement.Define name x) = (defined_alike a b same name opened x).numbers numbers
  performed_numbers numbers opened (statement.Assign name x) = (assigned_alike a b same name x).numbers numbers
  performed_numbers numbers opened (statement.As name) = taking_numbers numbers name
  performed_numbers numbers opened (statement.Insert name cells) = (inserted_alike a b same name cells numbers).numbers numbers
  performed_numbers numbers opened (statement.Delete name row x) = (deleted_alike a b same name row x).numbers numbers

  opened_numbers : NumberAlike a b → (opened : Opened) (s : Statement) (c : Bool)
      → NumberAlike (if c then refusal a (codes "too-deep") else perform a opened s).1 (if c then refusal b (codes "too-deep") else perform b opened s).1
  opened_numbers numbers opened s true = numbers
  opened_numbers numbers opened s false = performed_numbers numbers opened s

  reading_numbers : NumberAlike a b → (opened : Opened) (r : Reading Statement) → NumberAlike (step_by a opened r).1 (step_by b opened r).1
  reading_numbers numbers opened Nothing = numbers
  reading_numbers numbers opened (Says s) = opened_numbers numbers opened s (is_past_opening opened)
  reading_numbers numbers opened IsNoSyntax = numbers
  reading_numbers numbers opened IsTooDeep = numbers

-- what a line opens is the same in both
opening_alike : (a b : State) → LooksSame a b → (line : List ℕ) → opening_of a.definitions line ≡ opening_of b.definitions line
opening_alike a b same line = ap (λ (ds : List Definition). opening_of ds line) same.definitions

pub answers_alike : AnswersAlike
unfolding step
answers_alike a b same line numbers =
    reading_replies a b same (opening_of a.definitions line) (reading_of line) numbers
    ∙ ap (λ (opened : Opened). (step_by b opened (reading_of line)).0) (opening_alike a b same line)

pub look_alike_behind : LookAlikeBehind
unfolding step
look_alike_behind a b same line numbers stays_in =
    subst (λ (opened : Opened). LooksSame (step_by a (opening_of a.definitions line) (reading_of line)).1 (step_by b opened (reading_of line)).1)
    (opening_alike a b same line) (reading_alike a b same (opening_of a.definitions line) (reading_of line) numbers stays_in)

pub number_alike_behind : NumberAlikeBehind
unfolding step
number_alike_behind a b same numbers line =
    subst (λ (opened : Opened). NumberAlike (step_by a (opening_of a.definitions line) (reading_of line)).1 (step_by b opened (reading_of line)).1)
    (opening_alike a b same line) (reading_numbers a b same numbers (opening_of a.definitions line) (reading_of line))

-- a reply that isn't the memory line is the machine's
steps_alone : (old new : State) (line : List ℕ) (reply : Reply) (calls : List Call) → Answers old line reply calls new → reply ≢ Some memory_line → (reply, new) ≡ step old line
steps_alone old new line reply calls (as_machine steps allowed) other = steps
steps_alone old new line reply calls (no_memory some is stays allowed) other = absurd (other is)

-- ---- scripts

-- one more line in front of the lines that the machine steps
before : (old mid : State) (line : List ℕ) (lines : List (List ℕ)) (reply : Reply) (rest : List Reply) (new : State)
    → (reply, mid) ≡ step old line → (rest, new) ≡ stepped mid lines → (reply ∷ rest, new) ≡ stepped old (line ∷ lines)
before old mid line lines reply rest new first later =
    ap (λ (more : List Reply × State). let all : List Reply × State = (reply ∷ more.0, more.1) in all) later
    ∙ ap (λ (now : Reply × State). let all : List Reply × State = (now.0 ∷ (stepped now.1 lines).0, (stepped now.1 lines).1) in all) first

pub is_output : IsOutput
is_output old new [] [] calls stays has = ap (λ (s : State). let end : List Reply × State = ([], s) in end) stays.0
is_output old new [] (reply ∷ replies) calls stays has = absurd stays
is_output old new (line ∷ lines) [] calls stays has = absurd stays
is_output old new (line ∷ lines) (reply ∷ replies) calls runs has =
    before old runs.0 line lines reply replies new (steps_alone old runs.0 line reply runs.1 runs.4 has.0) (is_output runs.0 new lines replies runs.2 runs.5 has.1)

-- the machine steps states that look the same alike
stepped_alike : (a b : State) → LooksSame a b → NumberAlike a b → (lines : List (List ℕ)) → TakesNoRole lines
    → ((stepped a lines).0 ≡ (stepped b lines).0) × LooksSame (stepped a lines).1 (stepped b lines).1
stepped_alike a b same numbers [] roles = (refl, same)
stepped_alike a b same numbers (line ∷ lines) roles =
    let now = answers_alike a b same line (λ puts. numbers) in
    let rest =
    stepped_alike (step a line).1 (step b line).1 (look_alike_behind a b same line (λ puts. numbers) roles.0) (number_alike_behind a b same numbers line) lines roles.1 in
    (ap (λ (reply : Reply). reply ∷ (stepped (step a line).1 lines).0) now ∙ ap (λ (replies : List Reply). (step b line).0 ∷ replies) rest.0, rest.1)

pub scripts_alike : ScriptsAlike
scripts_alike a b after_a after_b lines from_a from_b calls_a calls_b same numbers roles runs_a runs_b has_a has_b =
    let of_a = is_output a after_a lines from_a calls_a runs_a has_a in
    let of_b = is_output b after_b lines from_b calls_b runs_b has_b in
    let alike = stepped_alike a b same numbers lines roles in (
      ap (λ (p : List Reply × State). p.0) of_a ∙ alike.0 ∙ sym (ap (λ (p : List Reply × State). p.0) of_b),
      subst (λ (s : State). LooksSame after_a s) (sym (ap (λ (p : List Reply × State). p.1) of_b))
          (subst (λ (s : State). LooksSame s (stepped b lines).1) (sym (ap (λ (p : List Reply × State). p.1) of_a)) alike.1),
    )

-- ---- want of memory

-- an outcome whose reply is the memory line leaves the state
abbrev Keeps : State → Outcome → Type 0
Keeps old x = line_of x.0 ≡ memory_line → x.1 ≡ old

-- The replies after which the state is a different one begin with no `{\"e`, as the memory line does.
abbrev pub third : List ℕ → Option ℕ
third text = slice_get text 2

no_e : (n : ℕ) → eqb n 101 ≡ false → (text : List ℕ) → third text ≡ Some n → text ≡ memory_line → ⊥
no_e n other text is h =
    let same : n ≡ 101 = same_Some n 101 (sym is ∙ ap third h) in
    true≢false (sym (ap (λ (k : ℕ). eqb k 101) same) ∙ other)

pub defined_third : (name : List ℕ) → third (line_of (defined_data name)) ≡ Some 100
unfolding serde_json_on_literals
defined_third name = refl

assigned_third : (name : List ℕ) → third (line_of (assigned_data name)) ≡ Some 97
unfolding serde_json_on_literals
assigned_third name = refl

role_third : (name : List ℕ) → third (line_of (role_data name)) ≡ Some 114
unfolding serde_json_on_literals
role_third name = refl

inserted_third : third (line_of inserted_data) ≡ Some 105
unfolding serde_json_on_literals
inserted_third = refl

deleted_third : (n : ℕ) → third (line_of (deleted_data n)) ≡ Some 100
unfolding serde_json_on_literals
deleted_third n = refl

module _ (old : State) where
  if_keeps : (c : Bool) (x y : Outcome) → Keeps old x → Keeps old y → Keeps old (if c then x else y)
  if_keeps true x y first second = first
  if_keeps false x y first second = second

  refused_keeps : (word : List ℕ) → Keeps old (refusal old word)
  refused_keeps word h = refl

  allowed_keeps : (o : Option Denied) (x : Outcome) → Keeps old x → Keeps old (allowed_by old o x)
  allowed_keeps None x keeps = keeps
  allowed_keeps (Some denied) x keeps = λ h. refl

  scalar_keeps : (f : Scalar → Outcome) → ((s : Scalar) → Keeps old (f s)) → (layer : Value-F TableRow (Value TableRow)) → Keeps old (with_scalar old f layer)
  scalar_keeps f keeps (Value-F.Scalar s) = keeps s
  scalar_keeps f keeps layer = λ h. refl

  value_keeps : (f : Scalar → Outcome) → ((s : Scalar) → Keeps old (f s)) → (m : Result (Value TableRow) Fault) → Keeps old (with_value old f m)
  value_keeps f keeps (Ok v) = scalar_keeps f keeps (out-Value TableRow v)
  value_keeps f keeps (Err fault) = λ h. refl

  evaluated_keeps : (e : Expr) (f : Scalar → Outcome) → ((s : Scalar) → Keeps old (f s)) → Keeps old (evaluated old e f)
  evaluated_keeps e f keeps = allowed_keeps (denial old.policies old.role (uses_of (expression_uses e (names_in old)))) _ (value_keeps f keeps (expression_meaning (world_in old) e []))

  as_keeps : (name : List ℕ) (opened : Opened) (e : Expr) (t : Ty) (layer : Ty-F Ty) → Keeps old (defined_as old name opened e t layer)
  as_keeps name opened e t (Ty-F.Seq item) = λ h. absurd (no_e 100 refl _ (defined_third name) h)
  as_keeps name opened e t layer =
      if_keeps (is_scalar layer) (evaluated old e (λ s. (defined_data name, defining_also old name (of.Variable t s)))) (refusal old (codes "type")) (evaluated_keeps e (λ s. (defined_data name, defining_also old name (of.Variable t s))) (λ s h. absurd (no_e 100 refl _ (defined_third name) h))) (refused_keeps (codes "type"))

  by_keeps : (name : List ℕ) (opened : Opened) (e : Expr) (o : Option Ty) → Keeps old (defined_by old name opened e o)
  by_keeps name opened e None = λ h. refl
  by_keeps name opened e (Some t) = as_keeps name opened e t (out-Ty t)

  defined_keeps : (name : List ℕ) (opened : Opened) (e : Expr) → Keeps old (defined old name opened e)
  unfolding defined
  defined_keeps name opened e = if_keeps (is_taken old name) _ _ (refused_keeps (codes "type")) (by_keeps name opened e (expression_type e (names_in old)))

  assigned_as_keeps : (name : List ℕ) (e : Expr) (t : Ty) (o : Option Ty) → Keeps old (assigned_as old name e t o)
  assigned_as_keeps name e t None = λ h. refl
  assigned_as_keeps name e t (Some u) =
      if_keeps (converts u t) (evaluated old e (λ s. (assigned_data name, assigning old name t s))) (refusal old (codes "type")) (evaluated_keeps e (λ s. (assigned_data name, assigning old name t s)) (λ s h. absurd (no_e 97 refl _ (assigned_third name) h))) (refused_keeps (codes "type"))

  assigned_to_keeps : (name : List ℕ) (e : Expr) (d : Defined) → Keeps old (assigned_to old name e d)
  assigned_to_keeps name e (of.Variable t s) = assigned_as_keeps name e t (expression_type e (names_in old))
  assigned_to_keeps name e (of.Query query opened) = λ h. refl

  assigned_by_keeps : (name : List ℕ) (e : Expr) (o : Option Definition) → Keeps old (assigned_by old name e o)
  assigned_by_keeps name e None = λ h. refl
  assigned_by_keeps name e (Some d) = assigned_to_keeps name e d.defined

  assigned_keeps : (name : List ℕ) (e : Expr) → Keeps old (assigned old name e)
  unfolding assigned
  assigned_keeps name e = assigned_by_keeps name e (definition_of name old.definitions)

  role_keeps : (name : List ℕ) (o : Option ℕ) → Keeps old (under_role old name o)
  role_keeps name None = λ h. refl
  role_keeps name (Some role) = λ h. absurd (no_e 114 refl _ (role_third name) h)

  taking_keeps : (name : List ℕ) → Keeps old (taking_role old name)
  unfolding taking_role
  taking_keeps name = role_keeps name (first_named (λ role. role.name) name old.policies.roles)

  checked_keeps : (n : ℕ) (table : Table) (cells : List Scalar) (o : Option (List ℕ)) → Keeps old (row_checked old n table cells o)
  checked_keeps n table cells None = if_keeps (table.next == 2 ^ 64) _ _ (refused_keeps (codes "full")) (λ h. absurd (no_e 105 refl _ inserted_third h))
  checked_keeps n table cells (Some rule) = λ h. refl

  for_keeps : (cells : List Scalar) (n : ℕ) (o : Option Table) → Keeps old (row_for old cells n o)
  for_keeps cells n None = λ h. refl
  for_keeps cells n (Some table) =
      if_keeps (are_of_columns old table.schema.columns cells) _ _
      (allowed_keeps (denial old.policies old.role (used.Insert n ∷ [])) _
      (if_keeps (are_within_ranges old table.schema.columns cells) _ _ (checked_keeps n table cells (refuser_of old.policies old.role n cells)) (refused_keeps (codes "cell"))))
      (refused_keeps (codes "type"))

  for_named_keeps : (cells : List Scalar) (o : Option ℕ) → Keeps old (row_for_named old cells o)
  for_named_keeps cells None = λ h. refl
  for_named_keeps cells (Some n) = for_keeps cells n (slice_get old.tables n)

  inserted_keeps : (name : List ℕ) (cells : List Scalar) → Keeps old (inserted old name cells)
  unfolding inserted
  inserted_keeps name cells = for_named_keeps cells (table_number name (schemas_of old.tables))

  removed_keeps : (n : ℕ) (table : Table) (gone : List TableRow) (e : End) → Keeps old (rows_removed old n table gone e)
  removed_keeps n table gone end.Done = λ h. absurd (no_e 100 refl _ (deleted_third (length gone)) h)
  removed_keeps n table gone (end.Fault f) = λ h. refl

  rows_keep : (x : List ℕ) (e : Expr) (n : ℕ) (o : Option Table) → Keeps old (rows_of old x e n o)
  rows_keep x e n None = λ h. refl
  rows_keep x e n (Some table) =
      if_keeps (is_bool_type (expression_type e (with_local (names_in old) x (ty.Row n)))) _ _
      (allowed_keeps (denial old.policies old.role (used.Delete n ∷ uses_of (expression_uses e (with_local (names_in old) x (ty.Row n))))) _
      (removed_keeps n table (removed_items old x e n table.rows).0 (removed_items old x e n table.rows).1))
      (refused_keeps (codes "type"))

  named_rows_keep : (x : List ℕ) (e : Expr) (o : Option ℕ) → Keeps old (rows_of_named old x e o)
  named_rows_keep x e None = λ h. refl
  named_rows_keep x e (Some n) = rows_keep x e n (slice_get old.tables n)

  deleted_keeps : (name x : List ℕ) (e : Expr) → Keeps old (deleted old name x e)
  unfolding deleted
  deleted_keeps name x e = named_rows_keep x e (table_number name (schemas_of old.tables))

  performing_keeps : (opened : Opened) (s : Statement) → Keeps old (perform old opened s)
  performing_keeps opened (statement.Run x) = λ h. refl
  performing_keeps opened (statement.Define name x) = defined_keeps name opened x
  performing_keeps opened (statement.Assign name x) = assigned_keeps name x
  performing_keeps opened (statement.As name) = taking_keeps name
  performing_keeps opened (statement.Insert name cells) = inserted_keeps name cells
  performing_keeps opened (statement.Delete name row x) = deleted_keeps name row x

  step_keeps : (opened : Opened) (r : Reading Statement) → (step_by old opened r).0 ≡ Some memory_line → (step_by old opened r).1 ≡ old
  step_keeps opened Nothing h = refl
  step_keeps opened (Says s) h =
      if_keeps (is_past_opening opened) (refusal old (codes "too-deep")) (perform old opened s) (refused_keeps (codes "too-deep")) (performing_keeps opened s) (same_Some _ _ h)
  step_keeps opened IsNoSyntax h = refl
  step_keeps opened IsTooDeep h = refl

stays_after_memory : (old new : State) (line : List ℕ) (calls : List Call) → Answers old line (Some memory_line) calls new → new ≡ old
unfolding step
stays_after_memory old new line calls (as_machine steps allowed) =
    ap (λ (p : Reply × State). p.1) steps
    ∙ step_keeps old (opening_of old.definitions line) (reading_of line) (sym (ap (λ (p : Reply × State). p.0) steps))
stays_after_memory old new line calls (no_memory some is stays allowed) = stays

pub leaves_the_rest : LeavesTheRest
leaves_the_rest old new [] served [] rest calls stays end = ap (λ (s : State). let nothing : List Reply × State = ([], s) in nothing) stays.0
leaves_the_rest old new [] served (reply ∷ replies) rest calls stays without = absurd stays
leaves_the_rest old new (line ∷ lines) served [] rest calls runs without = absurd runs
leaves_the_rest old new (line ∷ lines) (kept ∷ served) (reply ∷ replies) (given ∷ rest) calls runs (answered other without) =
    before old runs.0 line served reply rest new (steps_alone old runs.0 line reply runs.1 runs.4 other) (leaves_the_rest runs.0 new lines served replies rest runs.2 runs.5 without)
leaves_the_rest old new (line ∷ lines) served (reply ∷ replies) rest calls runs (refused without) =
    leaves_the_rest runs.0 new lines served replies rest runs.2 runs.5 without ∙ ap (λ (s : State). stepped s served) (stays_after_memory old runs.0 line runs.1 runs.4)

pub silent_alike : IsSilentAlike
silent_alike old new line reply calls (as_machine steps allowed) =
    let same : reply ≡ (step old line).0 = ap (λ (p : Reply × State). p.0) steps in
    (λ none. sym same ∙ none, λ none. same ∙ none)
silent_alike old new line reply calls (no_memory some is stays allowed) =
    (λ none. absurd (let other : Some memory_line ≡ None = sym is ∙ none in cc), λ none. absurd (no_some (subst (λ (r : Reply). IsSome r) none some))) where
      no_some : IsSome {T = List ℕ} None → ⊥
      no_some h = cc

pub memory_line_served : MemoryLineIsServed
unfolding serde_json_on_literals
memory_line_served = refl
