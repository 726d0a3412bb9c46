-- Documents of files, and the parts of their entries.
use Rattle.std.proofs.Common.{◌≡◌, ◌∷◌, ◌&&◌, ◌+◌, List, [], drop, map, ℕ, Bool, false, Option, Some, None, option_map, slice_get, ap, ap₂, ◌∙◌, refl}
use Rattle.std.specs.Str.{IsUtf8, is_utf8}
use Rattle.std.proofs.lemmas.Bool.{false_from_ne_true}
use Rattle.std.proofs.lemmas.List.{drop_more}
use Rattle.std.proofs.lemmas.Option.{get_or_from_slice_get, slice_get_within}
use Rattle.std.proofs.lemmas.Str.{IsUtf8-from_is_utf8, is_utf8-from_IsUtf8}
use Rattle.toml.specs.Parse.{parse_document}
use Rattle.lq_value.specs.Tables.{Table}
use Rattle.lq_value.specs.declared.table.Schema.{Schema}
use Rattle.lq_security.specs.Totality.{is_total}
use Rattle.lq_security.specs.declared.policy.TablePart.{TablePart}
use Rattle.lq_grammar.specs.declared.syntax.Expr.{Expr}
use Rattle.lq_policy.specs.Rules as totals
use Rattle.lq_policy.specs.Rules.{is_rule_total}
use Rattle.lq_policyfile.specs.File.{document_of, policy_part, table_part}
use Rattle.lq_policyfile.specs.Names.{passes}
use Rattle.lq_policyfile.specs.RuleChecks.{are_rules_total}
use Rattle.lq_policyfile.specs.declared.entry.PolicyEntry.{PolicyEntry}
use Rattle.lq_policyfile.specs.declared.entry.TableEntry.{TableEntry}

-- ---- documents

pub document_in_text : (bytes : List ℕ) → IsUtf8 bytes → document_of bytes ≡ parse_document bytes
unfolding document_of
document_in_text bytes text = rw (is_utf8-from_IsUtf8 bytes text)

pub document_in_none : (bytes : List ℕ) → (IsUtf8 bytes → ⊥) → document_of bytes ≡ None
unfolding document_of
document_in_none bytes none = let not_text : is_utf8 bytes ≡ false = false_from_ne_true (is_utf8 bytes) (λ h. none (IsUtf8-from_is_utf8 bytes h)) in rw not_text

pub ruleset documents = (document_in_text, document_in_none)

-- ---- tables

abbrev part_of : List TableEntry → Table → TablePart
part_of entries table = table_part entries table.schema

-- the part of a table that is there comes before those of the tables after it
pub next_table : (entries : List TableEntry) (tables : List Table) (number : ℕ) (schema : Schema) → option_map (λ table. table.schema) (slice_get tables number) ≡ Some schema
    → map (λ table. table_part entries table.schema) (drop number tables) ≡ table_part entries schema ∷ map (λ table. table_part entries table.schema) (drop (number + 1) tables)
next_table entries tables number schema there = by (slice_get tables number) refl there where
  by : (found : Option Table) → slice_get tables number ≡ found → option_map (λ table. table.schema) found ≡ Some schema
      → map (part_of entries) (drop number tables) ≡ table_part entries schema ∷ map (part_of entries) (drop (number + 1) tables)
  by None is h = absurd cc
  by (Some table) is h =
      let same : table.schema ≡ schema = cc in
      ap (map (part_of entries)) (drop_more tables number table (slice_get_within tables number table is))
      ∙ ap (λ (t : Table). part_of entries t ∷ map (part_of entries) (drop (number + 1) tables)) (get_or_from_slice_get tables number table table is)
      ∙ ap (λ (s : Schema). table_part entries s ∷ map (part_of entries) (drop (number + 1) tables)) same

-- ---- policies

rule_same : (rule : Option Expr) → is_rule_total rule ≡ passes is_total rule
rule_same None = refl
rule_same (Some rule) = refl

-- the rules of policies are total where those of their entries are
pub total_parts : (tables : List Table) (policies : List PolicyEntry) → totals.are_rules_total (map (policy_part tables) policies) ≡ are_rules_total policies
total_parts tables [] = refl
total_parts tables (policy ∷ policies) =
    ap₂ (λ (a b : Bool). a && b) (ap₂ (λ (a b : Bool). a && b) (rule_same policy.rules.using) (rule_same policy.rules.check)) (total_parts tables policies)
