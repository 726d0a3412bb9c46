-- No reply to `run` depends on what is used where an expression has no meaning.
use Rattle.std.proofs.Common.{◌≡◌, Bool, true, false, [], Option, Some, None, Result, Ok, Err, ap, ◌∙◌, sym, refl, ◌++◌, ◌∷◌, List}
use Rattle.std.proofs.lemmas.Option.{none-some}
use Rattle.lq_value.specs.declared.ty.Ty.{Ty, out-Ty}
use Rattle.lq_value.specs.declared.ty.Ty.TheOpen.{Ty-F}
use Rattle.lq_value.specs.declared.value.Fault.{Fault}
use Rattle.lq_value.specs.declared.value.Fault.TheVariants as fault
use Rattle.lq_value.specs.declared.value.Value.{Value, out-Value}
use Rattle.lq_value.specs.declared.value.Value.TheVariants.{outs-Seq as outs-value-Seq}
use Rattle.lq_language.specs.ClauseTyping.{expression_type}
use Rattle.lq_machine.specs.Serving.{run_denial, run_reply, served, served_as, served_type, unless_denied}
use Rattle.lq_machine.specs.States.{State, cells_of, host_names, schemas_of, seen_by_role, world_by, names_in}
use Rattle.lq_language.specs.Worlds.{World, known_predicates, names_at}
use Rattle.lq_language.specs.OperandMeaning.{items_of, stream_of}
use Rattle.lq_language.specs.ValuesOfTypes.{Every, IsTypedTable, HoldsRows, assuming}
use Rattle.lq_machine.specs.Served.{stream_data, value_data}
use Rattle.lq_language.specs.Types.{has_place, if_placed, when}
use Rattle.lq_language.specs.TableRows.{TableRow}
use Rattle.lq_language.specs.Meaning.{expression_meaning}
use Rattle.lq_language.specs.MeaningLaws.{IsValueOf}
use Rattle.lq_grammar.specs.declared.syntax.Expr.{Expr}
use Rattle.lq_language.proofs.ItemLaws.{every_none}
use Rattle.lq_machine.proofs.SeenTableLaws.{holds_seen}
use Rattle.lq_language.proofs.ValueLaws.{sequence_value}
use Rattle.lq_language.proofs.TypedMeaningLaws.{has_language_meaning}
use Rattle.lq_machine.specs.DefinitionLaws.{AreDefined, ServesMeanings}
use Rattle.lq_machine.specs.Definitions.{defining, outer_names, valued_as, with_session, world_after}
use Rattle.lq_machine.specs.declared.session.Definition.{Definition}
use Rattle.lq_machine.proofs.DefinitionLaws.{names_are_known, names_have_meanings, names_have_values}

-- what has a type that isn't null's has that type
pub placed : (o : Option Ty) (t : Ty) → if_placed o ≡ Some t → o ≡ Some t
placed None t h = absurd (none-some t h)
placed (Some u) t h = by (has_place (out-Ty u)) h where
  by : (b : Bool) → when b (Some u) ≡ Some t → Some u ≡ Some t
  by true g = g
  by false g = absurd (none-some t g)

module _ (s : State) (typed : Every IsTypedTable s.tables) (all : AreDefined (schemas_of s.tables) (host_names s) s.definitions) (unknown : Fault) (e : Expr) where
  abbrev tables_alone : World TableRow
  tables_alone = world_by fault.NullReference (schemas_of s.tables) s.predicates (seen_by_role s)

  -- what is read, and the same with the other fault
  abbrev world : World TableRow
  world = defining tables_alone s.definitions

  abbrev other : World TableRow
  other = assuming unknown world

  -- the rows are those of the tables, whatever the names of the session are
  holds : (w : World TableRow) → HoldsRows w → (ds : List Definition) → HoldsRows (world_after w ds)
  holds w rows [] = rows
  holds w rows (d ∷ ds) = holds (with_session w (w.session ++ valued_as w d.name d.defined ∷ [])) rows ds

  holds_all : HoldsRows world
  unfolding defining
  holds_all = holds tables_alone (holds_seen s typed fault.NullReference) s.definitions

  schemas_after : (w : World TableRow) (ds : List Definition) → (world_after w ds).schemas ≡ w.schemas
  schemas_after w [] = refl
  schemas_after w (d ∷ ds) = schemas_after (with_session w (w.session ++ valued_as w d.name d.defined ∷ [])) ds

  schemas_same : world.schemas ≡ schemas_of s.tables
  unfolding defining
  schemas_same = schemas_after tables_alone s.definitions

  predicates_after : (w : World TableRow) (ds : List Definition) → (world_after w ds).predicates ≡ w.predicates
  predicates_after w [] = refl
  predicates_after w (d ∷ ds) = predicates_after (with_session w (w.session ++ valued_as w d.name d.defined ∷ [])) ds

  predicates_same : world.predicates ≡ s.predicates
  unfolding defining
  predicates_same = predicates_after tables_alone s.definitions

  names_same : names_at world [] ≡ names_in s
  names_same = λ i. outer_names (schemas_same i) (known_predicates (predicates_same i)) (names_are_known tables_alone s.definitions refl i)

  -- the value of a typed expression, which is the same in both worlds
  abbrev pub Agrees : Ty → Type 0
  Agrees t =
      (expression_meaning world e [] ≡ expression_meaning other e [])
      × ((v : Value TableRow) → expression_meaning world e [] ≡ Ok v → IsValueOf world t v)

  pub agrees : (t : Ty) → expression_type e (names_in s) ≡ Some t → Agrees t
  agrees t is =
      has_language_meaning world holds_all (names_have_values tables_alone s.definitions (holds_seen s typed fault.NullReference) refl all) []
      (every_none (λ b. IsValueOf world b.ty b.value)) e t (ap (expression_type e) names_same ∙ is) world.unknown unknown

  -- a sequence has its items in both
  streams : (t u : Ty) → out-Ty t ≡ Ty-F.Seq u → (m : Result (Value TableRow) Fault) → ((v : Value TableRow) → m ≡ Ok v → IsValueOf world t v)
      → stream_of world m ≡ stream_of other m
  streams t u layer (Err f) fits = refl
  streams t u layer (Ok v) fits =
      let found = sequence_value world t u v layer (fits v refl) in
      ap (λ w. items_of world (out-Value TableRow w)) found.2 ∙ ap (items_of world) (outs-value-Seq found.0 found.1)
      ∙ sym (ap (items_of other) (outs-value-Seq found.0 found.1)) ∙ sym (ap (λ w. items_of other (out-Value TableRow w)) found.2)

  by_layer : (t : Ty) (layer : Ty-F Ty) → out-Ty t ≡ layer → Agrees t
      → served_as world t layer (expression_meaning world e []) ≡ served_as other t layer (expression_meaning other e [])
  by_layer t (Ty-F.Seq u) is same =
      ap (stream_data world.schemas cells_of u) (streams t u is (expression_meaning world e []) same.1 ∙ ap (stream_of other) same.0)
  by_layer t layer is same = ap (value_data world.schemas cells_of t) same.0

  by_type : (o : Option Ty) → served_type (names_in s) e ≡ o → served world o (expression_meaning world e []) ≡ served other o (expression_meaning other e [])
  by_type None is = refl
  by_type (Some t) is = by_layer t (out-Ty t) refl (agrees t (placed (expression_type e (names_in s)) t is))

  other_same : other ≡ defining (world_by unknown (schemas_of s.tables) s.predicates (seen_by_role s)) s.definitions
  other_same = sym (names_have_meanings tables_alone s.definitions (holds_seen s typed fault.NullReference) refl all unknown)

pub serves_meanings : ServesMeanings
unfolding run_reply
serves_meanings s typed all e unknown =
    ap (unless_denied (schemas_of s.tables) (host_names s) (run_denial s.policies s.role (names_in s) e))
    (by_type s typed all unknown e (served_type (names_in s) e) refl
    ∙ ap (λ (w : World TableRow). served w (served_type (names_in s) e) (expression_meaning w e [])) (other_same s typed all unknown e))
