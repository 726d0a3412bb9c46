-- The variable is found by its name, and renewed in its place.
use Rattle.std.proofs.Common.{◌∙◌, ◌<◌, ap, arith, length, set, subst, sym}
use Rattle.lq_value.specs.Tables.{first_named}
use Rattle.lq_run.specs.States.{Assigns, IsValueFor, SessionState}
use Rattle.lq_run.proofs.DefinitionLemmas.{assigned_defined, assigns, nowhere, place_within}
use Rattle.lq_run.proofs.state.State.assign.Goals as goal

pub index_mut-requires : goal.index_mut-requires
index_mut-requires c =
    let s : SessionState = record {
      tables = c.self.inside.store;
      policies = c.self.inside.policies;
      role = c.self.inside.role.number;
      definitions = c.self.inside.definitions.items;
    } in
    let for = subst (λ (t : SessionState). IsValueFor t.definitions c.args.name.now c.args.value) (sym c.self.view_is) c.requires in
    let at = ap (first_named (λ d. d.name) c.args.name.now) (sym c.as_slice.ensures.value) ∙ sym c.place_of.ensures ∙ c.in-Some.is in
    let below : c.in-Some.place < length c.self.inside.definitions.items = place_within s c.self.invariant c.args.name.now c.args.value for c.in-Some.place at in
    let many = ap length (sym c.as_slice.ensures.value) ∙ c.as_slice.ensures.len in
    omega (arith, below, many)

pub invariant_of-self : goal.invariant_of-self
invariant_of-self c =
    let s : SessionState = record {
      tables = c.self.inside.store;
      policies = c.self.inside.policies;
      role = c.self.inside.role.number;
      definitions = c.self.inside.definitions.items;
    } in
    let for = subst (λ (t : SessionState). IsValueFor t.definitions c.args.name.now c.args.value) (sym c.self.view_is) c.requires in
    let at = ap (first_named (λ d. d.name) c.args.name.now) (sym c.as_slice.ensures.value) ∙ sym c.place_of.ensures ∙ c.in-Some.is in
    assigned_defined s c.self.invariant c.args.name.now c.args.value for c.in-Some.place at c.index_mut.result.now c.index_mut.ensures.value _
    (ap (set c.self.inside.definitions.items c.in-Some.place) c.renew.ensures)

pub returns-in-Some : goal.returns-in-Some
returns-in-Some c =
    let s : SessionState = record {
      tables = c.self.inside.store;
      policies = c.self.inside.policies;
      role = c.self.inside.role.number;
      definitions = c.self.inside.definitions.items;
    } in
    let for = subst (λ (t : SessionState). IsValueFor t.definitions c.args.name.now c.args.value) (sym c.self.view_is) c.requires in
    let at = ap (first_named (λ d. d.name) c.args.name.now) (sym c.as_slice.ensures.value) ∙ sym c.place_of.ensures ∙ c.in-Some.is in
    let after : SessionState = record s { definitions = set c.self.inside.definitions.items c.in-Some.place c.renew.new.definition } in
    subst (λ (t : SessionState). Assigns t c.args.name.now c.args.value after) c.self.view_is
    (assigns s c.self.invariant c.args.name.now c.args.value for c.in-Some.place at c.index_mut.result.now c.index_mut.ensures.value _
    (ap (set c.self.inside.definitions.items c.in-Some.place) c.renew.ensures))

pub returns-in_default : goal.returns-in_default
returns-in_default c =
    let s : SessionState = record {
      tables = c.self.inside.store;
      policies = c.self.inside.policies;
      role = c.self.inside.role.number;
      definitions = c.self.inside.definitions.items;
    } in
    let at = ap (first_named (λ d. d.name) c.args.name.now) (sym c.as_slice.ensures.value) ∙ sym c.place_of.ensures ∙ c.in_default.is in
    subst (λ (t : SessionState). Assigns t c.args.name.now c.args.value c.args.self.now) c.self.view_is
    (nowhere s c.self.invariant c.args.name.now c.args.value c.args.self.now at)
