-- The names of a session have types within the limit: a variable's is a scalar's, and a named query's is that of its expression under
-- the names before it.
use Rattle.std.proofs.Common.{◌≡◌, ◌∷◌, ◌++◌, if◌then◌else◌, List, [], ℕ, Bool, true, false, Some, None, ap, sym, refl, subst, bytes_eq, true≢false}
use Rattle.std.proofs.lemmas.Option.{none-some, same_Some}
use Rattle.lq_value.specs.declared.table.Schema.{Schema}
use Rattle.lq_value.specs.declared.ty.Ty.{Ty, out-Ty}
use Rattle.lq_value.specs.declared.ty.Ty.TheOpen.{Ty-F}
use Rattle.lq_value.specs.declared.ty.Ty.TheVariants as ty
use Rattle.lq_machine.specs.DefinitionLaws.{AreDefinedAfter, IsDefined}
use Rattle.lq_machine.specs.Definitions.{known_after, known_as, known_names, outer_names}
use Rattle.lq_language.specs.Worlds.{or_null}
use Rattle.lq_machine.specs.SessionTypes.{LimitsNames, LimitsQueries, LimitsStatements}
use Rattle.lq_language.specs.Types.{is_within}
use Rattle.lq_language.specs.Names.{SessionName, session_name}
use Rattle.lq_language.specs.OperandTypes.{is_scalar}
use Rattle.lq_language.specs.TypingLaws.{AreWithin}
use Rattle.lq_language.specs.declared.host_name.HostName.{HostName}
use Rattle.lq_machine.specs.declared.session.Defined.{Defined}
use Rattle.lq_machine.specs.declared.session.Defined.TheVariants as of
use Rattle.lq_machine.specs.declared.session.Definition.{Definition}
use Rattle.lq_language.proofs.WithinLimitLaws.{is_one, limits_items, limits_types, within_one}

scalar_one : (layer : Ty-F Ty) → is_scalar layer ≡ true → is_one layer ≡ true
scalar_one (Ty-F.Rec ms) h = absurd (true≢false (sym h))
scalar_one (Ty-F.Seq t) h = absurd (true≢false (sym h))
scalar_one (Ty-F.Group k t) h = absurd (true≢false (sym h))
scalar_one layer h = refl

module _ (schemas : List Schema) (predicates : List HostName) where
  abbrev NamesWithin : List SessionName → Type 0
  NamesWithin names = AreWithin (outer_names schemas predicates names)

  defined_within : (earlier : List SessionName) → NamesWithin earlier → (name : List ℕ) (defined : Defined) → IsDefined schemas predicates earlier defined
      → is_within (known_as schemas predicates earlier name defined).ty ≡ true
  defined_within earlier within name (of.Variable t s) is = within_one t (scalar_one (out-Ty t) is.0)
  defined_within earlier within name (of.Query e opened) is =
      subst (λ (t : Ty). is_within t ≡ true) (sym (ap or_null is.1)) (limits_types (outer_names schemas predicates earlier) within e (ty.Seq is.0) is.1)

  -- with one name more
  more_within : (k : SessionName) → is_within k.ty ≡ true → (x : List ℕ) (known : SessionName) (names : List SessionName)
      → ((other : SessionName) → session_name x names ≡ Some other → is_within other.ty ≡ true) → session_name x (names ++ k ∷ []) ≡ Some known → is_within known.ty ≡ true
  more_within k within x known [] all h = by (bytes_eq k.name x) h where
    by : (b : Bool) → (if b then Some k else None) ≡ Some known → is_within known.ty ≡ true
    by true is = subst (λ (other : SessionName). is_within other.ty ≡ true) (same_Some k known is) within
    by false is = absurd (none-some known is)
  more_within k within x known (first ∷ names) all h = by (bytes_eq first.name x) all (more_within k within x known names) h where
    by : (b : Bool) → ((other : SessionName) → (if b then Some first else session_name x names) ≡ Some other → is_within other.ty ≡ true)
        → (((other : SessionName) → session_name x names ≡ Some other → is_within other.ty ≡ true) → session_name x (names ++ k ∷ []) ≡ Some known → is_within known.ty ≡ true)
        → (if b then Some first else session_name x (names ++ k ∷ [])) ≡ Some known → is_within known.ty ≡ true
    by true every rest is = every known is
    by false every rest is = rest every is

  names_within : (earlier : List SessionName) (ds : List Definition) → NamesWithin earlier → AreDefinedAfter schemas predicates earlier ds
      → NamesWithin (known_after schemas predicates earlier ds)
  names_within earlier [] within all = within
  names_within earlier (d ∷ ds) within all = names_within (earlier ++ known_as schemas predicates earlier d.name d.defined ∷ []) ds more all.1 where
    more : NamesWithin (earlier ++ known_as schemas predicates earlier d.name d.defined ∷ [])
    more = record {
      locals = λ x t h. absurd (none-some t h);
      session = λ x known h. more_within (known_as schemas predicates earlier d.name d.defined) (defined_within earlier within d.name d.defined all.0) x known earlier (within.session x) h;
    }

  no_names : NamesWithin []
  no_names = record { locals = λ x t h. absurd (none-some t h); session = λ x known h. absurd (none-some known h) }

pub limits_names : LimitsNames
unfolding known_names
limits_names schemas predicates definitions all = names_within schemas predicates [] definitions (no_names schemas predicates) all

pub limits_statements : LimitsStatements
limits_statements schemas predicates definitions all e t =
    limits_types (outer_names schemas predicates (known_names schemas predicates definitions)) (limits_names schemas predicates definitions all) e t

pub limits_queries : LimitsQueries
limits_queries schemas predicates definitions all q t =
    limits_items (outer_names schemas predicates (known_names schemas predicates definitions)) (limits_names schemas predicates definitions all) q t
