-- What `.why` shows.
use Rattle.std.specs.Prelude.{◌++◌, ◌∷◌, if◌then◌else◌, List, [], ℕ, Bool, true, false, codes, decimal, map}
use Rattle.lq_audit.specs.declared.answers.Why.{Why}
use Rattle.lq_audit.specs.declared.answers.Why.TheVariants as why
use Rattle.lq_policy.specs.declared.explaining.ExplainedPolicy.{ExplainedPolicy}
use Rattle.lq_policy.specs.declared.explaining.Explanation.{Explanation}
use Rattle.lq_policy.specs.declared.explaining.Explanation.TheVariants as explanation
use Rattle.lq_render.specs.Cells.{escaped_text}
use Rattle.lq_render.specs.Grids.{grid}
use Rattle.lq_render.specs.declared.grid.Cell.{Cell}
use Rattle.lq_security.specs.declared.policy.Action.{Action}
use Rattle.lq_security.specs.declared.policy.Action.TheVariants as action
use Rattle.lq_prompt.specs.Grids.{joined, word}

-- what is asked about a row: its table's name and its number, the role, and what the role does with the row
pub record Question : Type 0 where
  pub role : List ℕ
  pub table : List ℕ
  pub number : ℕ
  pub act : Action

abbrev pub verb : Action → List ℕ
verb action.Select = codes "see"
verb action.Insert = codes "insert"
verb action.Delete = codes "delete"

-- ---- the policies

abbrev pub kind_text : Bool → List ℕ
kind_text is_restrictive = if is_restrictive then codes "restrictive" else codes "permissive"

abbrev pub truth_text : Bool → List ℕ
truth_text is_true = if is_true then codes "yes" else codes "no"

abbrev pub policy_row : ExplainedPolicy → List Cell
policy_row policy = word policy.name ∷ word (kind_text policy.is_restrictive) ∷ word (truth_text policy.is_true) ∷ []

abbrev pub policies_text : List ExplainedPolicy → List ℕ
policies_text [] = codes "No policy applies.\n"
policies_text (policy ∷ policies) = grid [] (codes "policy" ∷ codes "kind" ∷ codes "true" ∷ []) (map policy_row (policy ∷ policies))

-- ---- sentences

abbrev pub may_text : Bool → List ℕ
may_text is_allowed = if is_allowed then codes " may " else codes " may not "

-- whether the role may, and why
abbrev pub verdict : Question → Bool → List ℕ → List ℕ
verdict q is_allowed reason =
    joined (codes "By the policies, " ∷ q.role ∷ may_text is_allowed ∷ verb q.act ∷ codes " row " ∷ decimal q.number ∷ codes " of "
    ∷ q.table ∷ codes ": " ∷ reason ∷ codes ".\n" ∷ [])

-- what the policies ask of a row; whoever deletes one has to be able to read it, too
abbrev pub condition_text : Action → List ℕ
condition_text action.Delete =
    codes "at least one permissive policy for reading and one for deleting must be true of it, and every restrictive one"
condition_text act = codes "at least one permissive policy must be true of it, and every restrictive one"

abbrev pub explained : Question → Explanation → List ℕ
explained q explanation.NoTable = verdict q false (codes "they don't know the table")
explained q explanation.NoRole = verdict q false (codes "they don't know the role")
explained q explanation.RowSecurityOff = verdict q true (codes "the table has no row security")
explained q explanation.Bypass = verdict q true (codes "the role bypasses row security")
explained q (explanation.Policies policies is_allowed refused_by) =
    verdict q is_allowed (condition_text q.act) ++ policies_text policies

-- where nothing may be disclosed, a row that is hidden and one that isn't there are answered alike
abbrev pub secret_text : Question → List ℕ
secret_text q =
    joined (q.role ∷ codes " sees no row " ∷ decimal q.number ∷ codes " of " ∷ q.table
    ∷ codes ". Whether there is one is explained only" ∷ codes " at a desk that begins as a role that bypasses row security.\n" ∷ [])

abbrev pub why_text : Question → Why → List ℕ
why_text q (why.Explained found) = explained q found
why_text q why.Secret = secret_text q

-- the table isn't there; what was typed for its name may have any characters
abbrev pub no_table_text : List ℕ → List ℕ
no_table_text table = joined (codes "There is no table " ∷ escaped_text table ∷ codes "; .tables lists the tables.\n" ∷ [])
