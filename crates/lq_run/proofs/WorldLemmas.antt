-- What the trees of statements mean over the rows that a role sees: what their expressions mean to the machine.
use Rattle.std.proofs.Common.{◌≡◌, ◌∙◌, ◌∷◌, List, [], ℕ, Some, Result, Ok, Err, ap, sym, refl, subst}
use Rattle.lq_value.specs.declared.scalar.Scalar.{Scalar}
use Rattle.lq_value.specs.declared.ty.Ty.TheVariants as ty
use Rattle.lq_value.specs.declared.ty.Ty.TheVariants.{outs-Row}
use Rattle.lq_value.specs.declared.value.Fault.{Fault}
use Rattle.lq_value.specs.declared.value.Fault.TheVariants as fault
use Rattle.lq_value.specs.declared.value.Value.{Value, out-Value}
use Rattle.lq_value.specs.declared.value.Value.TheOpen.{Value-F}
use Rattle.lq_value.specs.declared.value.Value.TheVariants as value
use Rattle.lq_store.specs.Rules.{IsTable}
use Rattle.lq_machine.specs.DefinitionLaws.{AreDefined}
use Rattle.lq_machine.specs.Definitions.{with_session}
use Rattle.lq_language.specs.Worlds.{Binding, SessionValue, World, bound}
use Rattle.lq_language.specs.OperandMeaning.{items_of, on_scalar, scalar_of, stream_of}
use Rattle.lq_language.specs.Operations.{on_ok, truth_of}
use Rattle.lq_language.specs.ValuesOfTypes.{Every, HasCells, HoldsRows}
use Rattle.lq_language.specs.Operators.{One}
use Rattle.lq_machine.specs.States.{State, host_names, schemas_of, seen_by_role, world_in, world_of}
use Rattle.lq_language.specs.TableRows.{TableRow}
use Rattle.lq_language.specs.Meaning.{expression_meaning}
use Rattle.lq_language.specs.MeaningLaws.{IsSessionOfValues, IsValueOf, by_row}
use Rattle.lq_grammar.specs.declared.syntax.Expr.{Expr}
use Rattle.lq_machine.proofs.DefinitionLaws.{names_have_values}
use Rattle.lq_language.proofs.ItemLaws.{every_none}
use Rattle.lq_machine.proofs.SeenTableLaws.{holds_seen}
use Rattle.lq_translate.specs.Translated.{translated}
use Rattle.lq_translate.proofs.AlikeTermLaws.{terms_mean}
use Rattle.lq_tree.specs.BindingLaws.{GivesAll}
use Rattle.lq_tree.specs.FormMeaning.{Slots, form_meaning}
use Rattle.lq_tree.specs.Places.{Places, with_name}
use Rattle.lq_tree.specs.SessionPlaces.{session_places, statement_places}
use Rattle.lq_tree.specs.declared.tree.Form.{Form}
use Rattle.lq_tree.specs.declared.tree.Tree.{Tree}
use Rattle.lq_tree.proofs.ScopeLaws.{Stands, item_stands}
use Rattle.lq_tree.proofs.SessionValueLaws.{defines_names_alone, means_without, meanings_of_statements, places_give}
use Rattle.lq_tree.proofs.TermMeanLaws.{meanings_same}
use Rattle.lq_pipe.specs.Conditions.{holds_on}
use Rattle.lq_run.specs.Statements.{condition_in, tree_in}
use Rattle.lq_run.proofs.StoredLaws.{typed_tables}

-- what values are read as depends on the fault of a world alone, and not on the names of a session
module _ {R : Type 0} (world : World R) (session : List (SessionValue R)) where
  scalar_same : (layer : Value-F R (Value R)) → scalar_of world layer ≡ scalar_of (with_session world session) layer
  scalar_same (Value-F.Scalar s) = refl
  scalar_same layer = refl

  pub truth_same : (found : Result (Value R) Fault)
      → on_scalar world found (truth_of world.unknown) ≡ on_scalar (with_session world session) found (truth_of world.unknown)
  truth_same (Ok v) = ap (λ (s : Result Scalar Fault). on_ok s (truth_of world.unknown)) (scalar_same (out-Value R v))
  truth_same (Err f) = refl

  items_same : (layer : Value-F R (Value R)) → items_of world layer ≡ items_of (with_session world session) layer
  items_same (Value-F.Seq xs e) = refl
  items_same (Value-F.Group key xs) = refl
  items_same layer = refl

  pub stream_same : (found : Result (Value R) Fault) → stream_of world found ≡ stream_of (with_session world session) found
  stream_same (Ok v) = items_same (out-Value R v)
  stream_same (Err f) = refl

module _ (s : State) where
  -- the tables as the role sees them, without names of the session, and with them
  abbrev pub base : World TableRow
  base = world_of (schemas_of s.tables) s.predicates (seen_by_role s)

  abbrev pub world : World TableRow
  world = with_session base (world_in s).session

  pub is_world : world_in s ≡ world
  is_world = defines_names_alone base s.definitions

  abbrev places : Places
  places = statement_places (schemas_of s.tables) (host_names s) s.definitions

  -- no form reads a name of the session
  pub means_read : (f : Form) (slots : Slots TableRow) → form_meaning world f slots ≡ form_meaning base f slots
  means_read f slots = means_without base (world_in s).session f slots

  -- so a condition is true on a row where it is to the machine
  pub read_holds : (f : Form) (r : TableRow) → holds_on base f r ≡ holds_on world f r
  read_holds f r =
      truth_same base (world_in s).session (form_meaning base f (value.Row r ∷ []))
      ∙ ap (λ (found : Result (Value TableRow) Fault). on_scalar world found (truth_of world.unknown))
      (sym (means_read f (value.Row r ∷ [])))

  module _ (kept : Every IsTable s.tables) (defined : AreDefined (schemas_of s.tables) (host_names s) s.definitions) where
    holds : HoldsRows world
    holds = holds_seen s (typed_tables s.tables kept) fault.NullReference

    values : IsSessionOfValues world
    values = subst (λ (w : World TableRow). IsSessionOfValues w) is_world (names_have_values base s.definitions holds refl defined)

    gives : GivesAll world (session_places (schemas_of s.tables) (host_names s) s.definitions) world.session
    gives =
        subst (λ (w : World TableRow). GivesAll w (session_places (schemas_of s.tables) (host_names s) s.definitions) (world_in s).session) is_world
        (places_give base s.definitions holds refl defined)

    stands : Stands world [] places []
    stands = (every_none (λ (b : Binding TableRow). IsValueOf world b.ty b.value), (refl, tt, gives, refl))

    -- the tree of an expression means what the expression means
    pub tree_means : (e : Expr) (tree : Tree) → tree_in s e ≡ Some tree → form_meaning world tree.form [] ≡ expression_meaning (world_in s) e []
    tree_means e tree is = means_without base (world_in s).session tree.form [] ∙ meanings_of_statements base s.definitions holds refl defined e tree is

    -- and its values are of its type
    pub tree_values : (e : Expr) (tree : Tree) → tree_in s e ≡ Some tree → (v : Value TableRow) → form_meaning world tree.form [] ≡ Ok v → IsValueOf world tree.ty v
    tree_values e tree is = (meanings_same world holds values (translated e) places [] [] stands.0 stands.1 tree is).1

    -- a condition on a row means what the machine makes of it
    pub condition_means : (x : List ℕ) (n : ℕ) (e : Expr) (tree : Tree) → condition_in s x n e ≡ Some tree → (r : TableRow) → HasCells world n r
        → form_meaning world tree.form (value.Row r ∷ []) ≡ expression_meaning world e (bound x (ty.Row n) [] (value.Row r))
    condition_means x n e tree is r cells =
        let at = item_stands world [] places [] (One x (ty.Row n)) (value.Row r) stands (by_row (ty.Row n) n r (outs-Row n) cells) in
        (meanings_same world holds values (translated e) (with_name places x (ty.Row n)) (value.Row r ∷ []) (bound x (ty.Row n) [] (value.Row r)) at.0 at.1 tree is).0
        ∙ terms_mean world e (bound x (ty.Row n) [] (value.Row r))
