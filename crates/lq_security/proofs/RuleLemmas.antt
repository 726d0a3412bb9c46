-- The truth value that policies are decided by is what the language says of a rule on a row with its columns' types.
use Rattle.std.proofs.Common.{◌≡◌, ◌∷◌, List, [], map, ℕ, zero, suc, Bool, true, false, Result, Ok, Err, codes, ap, ◌∙◌, sym, refl, subst}
use Rattle.std.proofs.lemmas.Option.{none-some}
use Rattle.lq_value.specs.declared.scalar.Scalar.{Scalar}
use Rattle.lq_value.specs.declared.scalar.Scalar.TheVariants as scalar
use Rattle.lq_value.specs.declared.table.Column.{Column}
use Rattle.lq_value.specs.declared.ty.Ty.{Ty, out-Ty}
use Rattle.lq_value.specs.declared.ty.Ty.TheOpen.{Ty-F}
use Rattle.lq_value.specs.declared.ty.Ty.TheVariants as ty
use Rattle.lq_value.specs.declared.ty.Ty.TheVariants.{outs-Row, outs-Str}
use Rattle.lq_value.specs.declared.value.Fault.{Fault}
use Rattle.lq_value.specs.declared.value.Fault.TheVariants as fault
use Rattle.lq_value.specs.declared.value.Value.{Value, out-Value, roll-Value}
use Rattle.lq_value.specs.declared.value.Value.TheOpen.{Value-F}
use Rattle.lq_value.specs.declared.value.Value.TheVariants as value
use Rattle.lq_value.specs.declared.value.Value.TheVariants.{outs-Scalar, rolls-Scalar}
use Rattle.lq_value.specs.declared.value.Value.TheViews.{roll-out-Value}
use Rattle.lq_language.specs.Worlds.{Binding, Scope, World}
use Rattle.lq_language.specs.OperandMeaning.{scalar_of}
use Rattle.lq_language.specs.RuleMeaning.{rule_meaning}
use Rattle.lq_language.specs.ValuesOfTypes.{Every, HasCells, HoldsRows, IsOf, IsOfScope, IsScalarOf, is_row, is_scalar}
use Rattle.lq_language.specs.Operations.{on_ok, truth_of}
use Rattle.lq_security.specs.RuleLaws.{HoldsAsMeant, HoldsWhereTrue, IsRowOver, IsRuleOver, language_world}
use Rattle.lq_security.specs.TotalityLaws.{rule_names}
use Rattle.lq_language.specs.OperandTypes.{row_table}
use Rattle.lq_language.specs.RuleTyping.{HasRuleType}
use Rattle.lq_language.specs.TableRows.{cell_named}
use Rattle.lq_security.specs.Visible.{is_true, language_scope, rule_holds, rule_world}
use Rattle.lq_language.specs.Meaning.{expression_meaning}
use Rattle.lq_language.specs.MeaningLaws.{IsScopeOfValues, IsValueOf, by_row, by_scalar}
use Rattle.lq_grammar.specs.declared.syntax.Expr.{Expr}
use Rattle.lq_language.proofs.ItemLaws.{every_more, every_none}
use Rattle.lq_security.proofs.RuleTypeLaws.{total_alike}
use Rattle.lq_language.proofs.KeptMeaningLaws.{keeps_meanings}
use Rattle.lq_security.proofs.TotalRules.{decides_rules, typed_cell}
use Rattle.lq_language.proofs.TypingLaws.{type_sound}
use Rattle.lq_language.proofs.TypedMeaningLaws.{has_language_meaning}
use Rattle.lq_security.proofs.RuleMeanings.{total_same}

-- what is true of what an expression means
abbrev pub truth_in : World (List Scalar) → Result (Value (List Scalar)) Fault → Bool
truth_in world o = is_true (on_ok (on_ok o (λ v. scalar_of world (out-Value (List Scalar) v))) (truth_of world.unknown))

-- of a truth value, that it is true
pub truth_of_value : (world : World (List Scalar)) (o : Result (Value (List Scalar)) Fault) (b : Bool) → o ≡ Ok (value.Scalar (scalar.Bool b)) → truth_in world o ≡ b
truth_of_value world o b is =
    ap (truth_in world) is
    ∙ ap (λ (layer : Value-F (List Scalar) (Value (List Scalar))). is_true (on_ok (scalar_of world layer) (truth_of world.unknown))) (outs-Scalar (scalar.Bool b))

module _ (columns : List Column) (cells : List Scalar) (row : IsRowOver columns cells) (user : List ℕ) where
  abbrev world : World (List Scalar)
  world = language_world columns fault.NullReference

  abbrev scope : Scope (List Scalar)
  scope = language_scope cells user

  has_cells : HasCells world 0 cells
  has_cells = (refl, λ c t h. typed_cell columns cells row.typed c t h)

  holds_rows : HoldsRows world
  holds_rows zero schema is = ([], refl, every_none (HasCells world zero))
  holds_rows (suc n) schema is = absurd (none-some schema is)

  user_fits : IsScalarOf (out-Ty ty.Str) (scalar.Text user)
  user_fits = subst (λ (layer : Ty-F Ty). IsScalarOf layer (scalar.Text user)) (sym outs-Str) tt

  abbrev of_row : Binding (List Scalar)
  of_row = record { name = codes "row"; ty = ty.Row 0; value = value.Row cells }

  abbrev of_user : Binding (List Scalar)
  of_user = record { name = codes "user"; ty = ty.Str; value = value.Scalar (scalar.Text user) }

  -- what holds of both names holds of each
  every_name : (P : Binding (List Scalar) → Type 0) → P of_row → P of_user → Every P scope
  every_name P row_is user_is = every_more P of_row (of_user ∷ []) row_is (every_more P of_user [] user_is (every_none P))

  of_scope : IsOfScope world scope
  of_scope = every_name (λ b. IsOf world b.ty b.value) (is_row (ty.Row 0) 0 cells (ap row_table (outs-Row 0)) has_cells) (is_scalar ty.Str (scalar.Text user) user_fits)

  scope_of_values : IsScopeOfValues world scope
  scope_of_values = every_name (λ b. IsValueOf world b.ty b.value) (by_row (ty.Row 0) 0 cells (outs-Row 0) has_cells) (by_scalar ty.Str (scalar.Text user) user_fits)

  module _ (rule : Expr) (is : IsRuleOver columns rule) where
    -- the rule has the same type among rules
    served : HasRuleType (rule_names [] columns) rule ty.Bool
    served = type_sound rule (rule_names [] columns) ty.Bool (sym (total_alike (record { name = []; columns = columns } ∷ []) is.total) ∙ is.truth)

    decided : (b : Bool) × (rule_meaning (rule_world (map (λ column. column.name) columns)) rule scope ≡ Ok (value.Scalar (scalar.Bool b)))
    decided = decides_rules [] columns cells row.typed row.held user rule is.held served is.total

    pub meant : (unknown : Fault)
        → expression_meaning (language_world columns unknown) rule scope
        ≡ Ok (value.Scalar (scalar.Bool (rule_holds (map (λ column. column.name) columns) rule cells user)))
    meant unknown =
        (has_language_meaning world holds_rows (every_none _) scope scope_of_values rule ty.Bool is.truth unknown fault.NullReference).0
        ∙ keeps_meanings world holds_rows scope of_scope rule ty.Bool served fault.NullReference
        ∙ total_same (record { name = []; columns = columns } ∷ []) ([] ∷ []) (cell_named (map (λ column. column.name) columns)) fault.NullReference cells user is.total
        ∙ decided.1
        ∙ ap (λ (b : Bool). Ok (value.Scalar (scalar.Bool b))) (sym (truth_of_value (rule_world (map (λ column. column.name) columns)) _ decided.0 decided.1))

pub holds_as_meant : HoldsAsMeant
holds_as_meant columns rule is cells row user unknown = meant columns cells row user rule is unknown

-- ---- rules that hold

-- a value that is said to be true is that scalar
true_value : (world : World (List Scalar)) (v : Value (List Scalar)) → truth_in world (Ok v) ≡ true → v ≡ value.Scalar (scalar.Bool true)
true_value world v h = by (out-Value (List Scalar) v) refl h where
  found : out-Value (List Scalar) v ≡ Value-F.Scalar (scalar.Bool true) → v ≡ value.Scalar (scalar.Bool true)
  found is = sym (roll-out-Value (List Scalar) v) ∙ ap (roll-Value (List Scalar)) is ∙ rolls-Scalar (scalar.Bool true)

  by : (layer : Value-F (List Scalar) (Value (List Scalar))) → out-Value (List Scalar) v ≡ layer → is_true (on_ok (scalar_of world layer) (truth_of world.unknown)) ≡ true
      → v ≡ value.Scalar (scalar.Bool true)
  by (Value-F.Scalar (scalar.Bool true)) is h = found is
  by (Value-F.Scalar (scalar.Bool false)) is h = absurd (cc)
  by (Value-F.Scalar scalar.Null) is h = absurd (cc)
  by (Value-F.Scalar (scalar.Int n)) is h = absurd (cc)
  by (Value-F.Scalar (scalar.Text t)) is h = absurd (cc)
  by (Value-F.Row r) is h = absurd (cc)
  by (Value-F.Rec ms) is h = absurd (cc)
  by (Value-F.Group k vs) is h = absurd (cc)
  by (Value-F.Seq vs e) is h = absurd (cc)

true_where_told : (world : World (List Scalar)) (o : Result (Value (List Scalar)) Fault) → truth_in world o ≡ true → o ≡ Ok (value.Scalar (scalar.Bool true))
true_where_told world (Ok v) h = ap Ok (true_value world v h)
true_where_told world (Err f) h = absurd (cc)

pub holds_where_true : HoldsWhereTrue
holds_where_true columns rule cells user = (true_where_told (rule_world columns) _, truth_of_value (rule_world columns) _ true)
