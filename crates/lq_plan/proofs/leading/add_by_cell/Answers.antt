use Rattle.std.proofs.Common.{◌≡◌, ◌∷◌, ◌++◌, ◌∙◌, [], ap, refl, subst, sym}
use Rattle.lq_operators.specs.Leading.{HasLeading}
use Rattle.lq_plan.specs.Leading.{HasKeys}
use Rattle.lq_plan.proofs.LeadingLaws.{key_read}
use Rattle.lq_plan.proofs.leading.add_by_cell.Goals as goal

pub returns-then-not-is_wanted-clause-added : goal.returns-then-not-is_wanted-clause-added
returns-then-not-is_wanted-clause-added g c given world slots cell = (
  c.in-Some.cell.now ∷ [],
  (key_read world slots c.args.lambda.now.body.now c.args.item c.in-Some.cell.now c.in-Some.cell.now (c.in-Some.ensures world slots cell) refl, tt),
  λ wanted all has.
      subst (λ keys. HasLeading c.args.leading.now.directions wanted (all ++ (keys, c.args.item) ∷ []) c.args.leading.now) c.from_ref.ensures.value
      (c.if-not-is_wanted.ensures.unwanted refl wanted all c.args.item has),
)

pub returns-clause-added : goal.returns-clause-added
returns-clause-added g c given world slots cell =
    let keys_are : c.push.new.self ≡ c.in_ok-copy_scalar.field-0 ∷ [] =
    c.in_ok-push.ensures.ok ∙ ap (λ l. l ++ c.in_ok-copy_scalar.field-0 ∷ []) c.new-keys.ensures in (
      c.push.new.self,
      subst (HasKeys world slots (c.args.lambda.now.body.now ∷ []) c.args.item) (sym keys_are) (
        key_read world slots c.args.lambda.now.body.now c.args.item c.in-Some.cell.now c.in_ok-copy_scalar.field-0 (c.in-Some.ensures world slots cell)
            c.in_ok-copy_scalar.ensures,
        tt,
      ),
      λ wanted all has. c.in_ok-add.ensures.leading wanted all has,
    )
