-- Which rows rules admit that were worked out for a role's action on a table.
use Rattle.std.specs.Prelude.{◌&&◌, List, ℕ, Bool, true, false}
use Rattle.std.specs.List.{list_all, list_any}
use Rattle.lq_value.specs.declared.scalar.Scalar.{Scalar}
use Rattle.lq_policy.specs.Guards.{decides_on, rules_of}
use Rattle.lq_policy.specs.declared.admission.Admission.{Admission}
use Rattle.lq_policy.specs.declared.row_rules.RowRules.{RowRules}
use Rattle.lq_policy.specs.declared.row_rules.Ruled.{Ruled}
use Rattle.lq_policy.specs.declared.row_rules.Verdict.{Verdict}
use Rattle.lq_policy.specs.declared.row_rules.Verdict.TheVariants as verdict

-- some permissive rule is true on the row
abbrev pub permitted_by : List Scalar → List ℕ → Admission → Bool
permitted_by cells user rules = list_any (decides_on cells user) (rules_of rules.permissive.items)

-- every restrictive rule is
abbrev pub allowed_by : List Scalar → List ℕ → Admission → Bool
allowed_by cells user rules = list_all (decides_on cells user) (rules_of rules.restrictive.items)

abbrev pub admits_by : List Scalar → List ℕ → Admission → Bool
admits_by cells user rules = permitted_by cells user rules && allowed_by cells user rules

-- each of the lists of rules admits a row with these cells
abbrev pub rules_admit : Ruled → List Scalar → Bool
rules_admit rules cells = list_all (admits_by cells rules.user.now) rules.admissions.items

abbrev pub admits_under : Verdict → List Scalar → Bool
admits_under verdict.Every cells = true
admits_under verdict.None cells = false
admits_under (verdict.Ruled rules) cells = rules_admit rules cells

-- whether the rules admit a row with these cells
abbrev pub admits : RowRules → List Scalar → Bool
admits rules cells = admits_under rules.verdict cells
