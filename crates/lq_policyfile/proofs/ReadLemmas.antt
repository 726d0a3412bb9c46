-- Policies that were read for the tables of a store.
use Rattle.std.proofs.Common.{◌≡◌, ◌∷◌, not, if◌then◌else◌, List, [], map, ℕ, Bool, true, false, true≢false, Option, Some, None, Ok, Err, length, option_map, slice_get, ap, ◌∙◌, sym, refl, subst, inl, inr}
use Rattle.std.specs.Prelude.{is_some, nat_le, unwrap_or}
use Rattle.std.specs.List.{Contains, list_all}
use Rattle.std.proofs.lemmas.Bool.{and_parts}
use Rattle.std.proofs.lemmas.List.Elements.{All-contains}
use Rattle.std.proofs.lemmas.List.Sums.{AllPass-from_list_all}
use Rattle.std.proofs.lemmas.Option.{none-some, same_Some, slice_get-map}
use Rattle.toml.specs.Data.{Members}
use Rattle.lq_value.specs.Tables.{Table, first_named}
use Rattle.lq_value.specs.declared.table.Column.{Column}
use Rattle.lq_value.specs.declared.table.Schema.{Schema}
use Rattle.lq_value.specs.declared.ty.Ty.{Ty}
use Rattle.lq_value.specs.declared.ty.Ty.TheVariants as ty
use Rattle.lq_store.specs.Rules.{name_of}
use Rattle.lq_security.specs.RuleLaws.{AreReadFor, IsRuleOver}
use Rattle.lq_security.specs.Totality.{IsTotal, is_total}
use Rattle.lq_security.specs.TotalityLaws.{is_held_rule, rule_names, rule_names_among}
use Rattle.lq_language.specs.OperandTypes.{is_bool_type}
use Rattle.lq_language.specs.RuleTyping.{rule_type}
use Rattle.lq_language.specs.declared.host_name.HostName.{HostName}
use Rattle.lq_security.specs.Visible.{HasRule, using, check, using_for_check}
use Rattle.lq_security.specs.declared.policy.Action.{Action}
use Rattle.lq_security.specs.declared.policy.Policy.{Policy}
use Rattle.lq_security.specs.declared.policy.PolicyParts.{PolicyParts}
use Rattle.lq_security.specs.declared.policy.TablePart.{TablePart}
use Rattle.lq_grammar.specs.declared.syntax.Expr.{Expr}
use Rattle.lq_security.proofs.MembershipLaws.{has_cases, has_first, has_later, none_in_nil}
use Rattle.lq_security.proofs.RuleNameLaws.{total_type_same}
use Rattle.lq_security.proofs.TotalityLaws.{tells_total}
use Rattle.lq_language.proofs.TypingLaws.{is_truth}
use Rattle.lq_language.proofs.KeptTypeLaws.{keeps_types}
use Rattle.lq_policyfile.specs.Duplicates.{has_no_duplicates}
use Rattle.lq_policyfile.specs.File.{document_of, most_bytes, of_document, of_entries, parts_of, policies_in, policy_part, refusal_of, table_part, unless_refused}
use Rattle.lq_policyfile.specs.FileLaws.{AreHeld, ReadsForTables}
use Rattle.lq_policyfile.specs.Names.{all_pass, are_names_known, are_rules_known, columns_at, columns_in, columns_of, is_entry_known, is_policy_known, is_table, passes, role_names}
use Rattle.lq_policyfile.specs.RightUses.{table_number}
use Rattle.lq_policyfile.specs.RuleChecks.{are_rules_total, are_rules_typed, is_policy_typed, is_typed}
use Rattle.lq_policyfile.specs.RuleNames.{knows}
use Rattle.lq_policyfile.specs.Shape.{entries_of}
use Rattle.lq_policyfile.specs.declared.entry.FileEntries.{FileEntries}
use Rattle.lq_policyfile.specs.declared.entry.PolicyEntry.{PolicyEntry}
use Rattle.lq_policyfile.specs.declared.entry.Rules.{Rules}
use Rattle.lq_policyfile.specs.declared.error.PolicyFileError.{PolicyFileError}
use Rattle.lq_policyfile.specs.declared.error.PolicyFileError.TheVariants as error

-- ---- lists

-- an item of the images of items is the image of one
image_of : {A B : Type 0} (f : A → B) (xs : List A) (y : B) → Contains (map f xs) y → (x : A) × Contains xs x × (f x ≡ y)
image_of f [] y has = absurd (none_in_nil y has)
image_of f (x ∷ xs) y has =
    elim (has_cases (f x) (map f xs) y has) [
      | inl same ↦ (x, has_first x xs, same)
      | inr later ↦ let found = image_of f xs y later in (found.0, has_later x xs found.0 found.1, found.2)
    ]

passed : {A : Type 0} (test : A → Bool) (xs : List A) (x : A) → list_all test xs ≡ true → Contains xs x → test x ≡ true
passed test xs x h has = All-contains (λ y. test y ≡ true) xs x (AllPass-from_list_all test xs h) has

-- an item at a place of the images is the image of the item there
image_at : {A B : Type 0} (f : A → B) (xs : List A) (k : ℕ) (y : B) → slice_get (map f xs) k ≡ Some y → (x : A) × (slice_get xs k ≡ Some x) × (f x ≡ y)
image_at {A} {B} f xs k y h = by (slice_get xs k) refl (sym (slice_get-map f xs k) ∙ h) where
  by : (o : Option A) → slice_get xs k ≡ o → option_map f o ≡ Some y → (x : A) × (slice_get xs k ≡ Some x) × (f x ≡ y)
  by None is g = absurd (none-some y g)
  by (Some x) is g = (x, is, same_Some (f x) y g)

-- ---- what is read

-- the entries of a file that isn't refused
record Entries (tables : List Table) (hosts : List HostName) (parts : PolicyParts) : Type 0 where
  file : FileEntries
  accepted : refusal_of tables hosts file ≡ None
  parts_are : parts_of tables hosts file ≡ parts

unrefused : (o : Option PolicyFileError) (given parts : PolicyParts) → unless_refused o given ≡ Ok parts → (o ≡ None) × (given ≡ parts)
unrefused None given parts h = let same : given ≡ parts = cc in (refl, same)
unrefused (Some refusal) given parts h = absurd (cc)

entries_read : (tables : List Table) (hosts : List HostName) (bytes : List ℕ) (parts : PolicyParts) → policies_in tables hosts bytes ≡ Ok parts → Entries tables hosts parts
unfolding policies_in
entries_read tables hosts bytes parts h = by (nat_le (length bytes) most_bytes) (document_of bytes) h where
  of_file : (o : Option FileEntries) → of_entries tables hosts o ≡ Ok parts → Entries tables hosts parts
  of_file None g = absurd (cc)
  of_file (Some file) g =
      let found = unrefused (refusal_of tables hosts file) (parts_of tables hosts file) parts g in record { file = file; accepted = found.0; parts_are = found.1 }

  by : (b : Bool) (d : Option Members) → (if b then of_document tables hosts d else Err error.Shape) ≡ Ok parts → Entries tables hosts parts
  by false d g = absurd (cc)
  by true None g = absurd (cc)
  by true (Some ms) g = of_file (entries_of ms) g

-- no refusal applies
record Passes (tables : List Table) (hosts : List HostName) (file : FileEntries) : Type 0 where
  known : are_names_known tables hosts file ≡ true
  typed : are_rules_typed tables hosts file.policies ≡ true
  total : are_rules_total file.policies ≡ true

all_passed : (tables : List Table) (hosts : List HostName) (file : FileEntries) → refusal_of tables hosts file ≡ None → Passes tables hosts file
unfolding refusal_of
all_passed tables hosts file h =
    let found = by (are_names_known tables hosts file) (has_no_duplicates file) (are_rules_typed tables hosts file.policies) (are_rules_total file.policies) h in
    record { known = found.0; typed = found.1; total = found.2 } where
      by : (a b c d : Bool)
          → (if not a then Some error.UnknownName else (if not b then Some error.Duplicate else (if not c then Some error.RuleType else (if not d then Some error.RuleNotTotal else None)))) ≡ None
          → (a ≡ true) × (c ≡ true) × (d ≡ true)
      by false b c d g = absurd (cc)
      by true false c d g = absurd (cc)
      by true true false d g = absurd (cc)
      by true true true false g = absurd (cc)
      by true true true true g = (refl, refl, refl)

-- ---- rules

-- the table of an entry is there
table_there : (tables : List Table) (hosts : List HostName) (file : FileEntries) (entry : PolicyEntry) → are_names_known tables hosts file ≡ true → Contains file.policies entry
    → is_table tables entry.table ≡ true
unfolding are_names_known
table_there tables hosts file entry known has =
    let roles = role_names file.roles in
    let rules = (and_parts _ (are_rules_known tables hosts roles file) known).1 in
    let policies = (and_parts (list_all (is_policy_known tables hosts roles) file.policies) _ (and_parts _ (list_all (is_entry_known tables hosts roles) file.withholds) rules).0).0 in
    let own = passed (is_policy_known tables hosts roles) file.policies entry policies has in
    (and_parts (is_table tables entry.table) _ (and_parts _ (all_pass (λ rule. knows hosts (columns_of tables entry.table) rule false) entry.rules) own).0).0

-- the columns that the rules of an entry are typed over are those of the schema of its number
columns_are : (tables : List Table) (name : List ℕ) (schema : Schema) → is_table tables name ≡ true
    → slice_get (map (λ table. table.schema) tables) (table_number tables name) ≡ Some schema → columns_of tables name ≡ schema.columns
columns_are tables name schema there at = by (first_named name_of name tables) there at where
  by : (o : Option ℕ) → is_some o ≡ true → slice_get (map (λ table. table.schema) tables) (unwrap_or o 0) ≡ Some schema → columns_at tables o ≡ schema.columns
  by None none g = absurd (true≢false (sym none))
  by (Some number) some g =
      let found = image_at (λ (table : Table). table.schema) tables number schema g in
      ap columns_in found.1 ∙ ap (λ (s : Schema). s.columns) found.2

-- a test that all rules of an entry pass, its rules for each action pass
each_passes : (test : Expr → Bool) (rules : Rules) (policy : Policy) (act : Action) (rule : Expr) → policy.using ≡ rules.using → policy.check ≡ rules.check
    → all_pass test rules ≡ true → HasRule act policy rule → test rule ≡ true
each_passes test rules policy act rule using_is check_is h has = by has where
  both : (passes test rules.using ≡ true) × (passes test rules.check ≡ true)
  both = and_parts (passes test rules.using) (passes test rules.check) h

  by : HasRule act policy rule → test rule ≡ true
  by (using other is) = ap (passes test) (sym (sym using_is ∙ is)) ∙ both.0
  by (check same is) = ap (passes test) (sym (sym check_is ∙ is)) ∙ both.1
  by (using_for_check same none is) = ap (passes test) (sym (sym using_is ∙ is)) ∙ both.0

bool_typed : (hosts : List HostName) (columns : List Column) (rule : Expr) → is_typed hosts columns rule ≡ true → rule_type rule (rule_names_among hosts [] columns) ≡ Some ty.Bool
bool_typed hosts columns rule h = by (rule_type rule (rule_names_among hosts [] columns)) h where
  by : (o : Option Ty) → is_bool_type o ≡ true → o ≡ Some ty.Bool
  by None g = absurd (true≢false (sym g))
  by (Some t) g = ap Some (is_truth t g)

-- a total rule asks no host predicate, so that its type is the same where none is known
alone_typed : (hosts : List HostName) (columns : List Column) (rule : Expr) → is_typed hosts columns rule ≡ true → IsTotal rule → rule_type rule (rule_names [] columns) ≡ Some ty.Bool
alone_typed hosts columns rule typed total = sym (total_type_same [] columns hosts [] total) ∙ bool_typed hosts columns rule typed

rule_over : (hosts : List HostName) (columns : List Column) (rule : Expr) → is_typed hosts columns rule ≡ true → is_total rule ≡ true → is_held_rule rule ≡ true
    → IsRuleOver columns rule
rule_over hosts columns rule typed total held = record {
  truth = keeps_types (rule_names [] columns) rule ty.Bool (alone_typed hosts columns rule typed ((tells_total rule).0 total));
  total = (tells_total rule).0 total;
  held = held;
}

module _ (tables : List Table) (hosts : List HostName) (file : FileEntries) (passes : Passes tables hosts file) (held : AreHeld (parts_of tables hosts file)) where
  rules_read : (policy : Policy) → Contains (map (policy_part tables) file.policies) policy → (schema : Schema)
      → slice_get (map (λ table. table.schema) tables) policy.table ≡ Some schema → (act : Action) (rule : Expr) → HasRule act policy rule → IsRuleOver schema.columns rule
  rules_read policy has schema at act rule rules =
      let own = image_of (policy_part tables) file.policies policy has in
      of_entry own.0 own.1 (subst (λ (p : Policy). slice_get (map (λ table. table.schema) tables) p.table ≡ Some schema) (sym own.2) at)
      (subst (λ (p : Policy). HasRule act p rule) (sym own.2) rules) (held policy has act rule rules)
    where
      of_entry : (entry : PolicyEntry) → Contains file.policies entry → slice_get (map (λ table. table.schema) tables) (table_number tables entry.table) ≡ Some schema
          → HasRule act (policy_part tables entry) rule → is_held_rule rule ≡ true → IsRuleOver schema.columns rule
      of_entry entry among place has_rule literals =
          subst (λ (columns : List Column). IsRuleOver columns rule) (columns_are tables entry.table schema (table_there tables hosts file entry passes.known among) place)
          (rule_over hosts (columns_of tables entry.table) rule
          (each_passes (is_typed hosts (columns_of tables entry.table)) entry.rules (policy_part tables entry) act rule refl refl
          (passed (is_policy_typed tables hosts) file.policies entry passes.typed among) has_rule)
          (each_passes is_total entry.rules (policy_part tables entry) act rule refl refl (passed (λ policy. all_pass is_total policy.rules) file.policies entry passes.total among) has_rule)
          literals)

  tables_read : (number : ℕ) (part : TablePart) → slice_get (map (λ table. table_part file.tables table.schema) tables) number ≡ Some part
      → (schema : Schema) × (slice_get (map (λ table. table.schema) tables) number ≡ Some schema) × (part.columns ≡ map (λ column. column.name) schema.columns)
  tables_read number part is =
      let own = image_at (λ (table : Table). table_part file.tables table.schema) tables number part is in (
        own.0.schema,
        slice_get-map (λ (table : Table). table.schema) tables number ∙ ap (option_map (λ (table : Table). table.schema)) own.1,
        ap (λ (p : TablePart). p.columns) (sym own.2),
      )

pub reads_for_tables : ReadsForTables
reads_for_tables tables hosts bytes parts h held =
    let entries = entries_read tables hosts bytes parts h in
    let passes = all_passed tables hosts entries.file entries.accepted in
    subst (AreReadFor (map (λ table. table.schema) tables)) entries.parts_are
    (record {
      tables = tables_read tables hosts entries.file passes (subst AreHeld (sym entries.parts_are) held);
      rules = rules_read tables hosts entries.file passes (subst AreHeld (sym entries.parts_are) held);
    })
