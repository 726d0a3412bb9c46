-- How the types of expressions are read, form by form.
use Rattle.std.proofs.Common.{◌≡◌, List, ℕ, Option, Some, None, refl}
use Rattle.lq_value.specs.declared.ty.Ty.{Ty, out-Ty}
use Rattle.lq_value.specs.declared.ty.Ty.TheVariants.{outs-Bool, outs-Int, outs-IntN, outs-Null, outs-Row, outs-Seq, outs-Str}
use Rattle.lq_value.specs.declared.ty.Ty.TheVariants as ty
use Rattle.lq_language.proofs.FormLaws.{type_binary, type_integer, type_member, type_name, type_text, type_truth, type_null, type_minus, type_not, type_both, type_either, type_coalesce, type_choice, type_host, type_other, type_record, type_method, type_query}
use Rattle.lq_language.specs.RuleTyping.{name_type}
use Rattle.lq_language.specs.Worlds.{Scope, World, names_at}
use Rattle.lq_language.specs.declared.host_name.HostName.{HostName}
use Rattle.lq_scalar.specs.Referents.{layer_of, names_among, shown_type}
use Rattle.lq_scalar.specs.declared.names.ExprType.{ExprType}
use Rattle.lq_scalar.specs.declared.names.ExprType.TheVariants as kind

pub layer_known : (k : ExprType) → out-Ty (shown_type k) ≡ layer_of k
layer_known kind.Int = outs-Int
layer_known kind.IntN = outs-IntN
layer_known kind.Bool = outs-Bool
layer_known kind.Str = outs-Str
layer_known kind.Null = outs-Null
layer_known (kind.Row n) = outs-Row n
layer_known (kind.Rows n) = outs-Seq (ty.Row n)

-- what a name refers to is the same whatever host predicates are known
pub name_typed : {R : Type 0} (known : List HostName) (world : World R) (scope : Scope R) (x : List ℕ) (o : Option Ty)
    → name_type (names_among known world scope) x o ≡ name_type (names_at world scope) x o
name_typed known world scope x None = refl
name_typed known world scope x (Some t) = refl

pub ruleset types = (type_integer, type_name, type_member, type_binary, type_text, type_truth, type_null, type_minus, type_not, type_both, type_either, type_coalesce, type_choice, type_host, type_other, type_record, type_method, type_query, layer_known, name_typed)
