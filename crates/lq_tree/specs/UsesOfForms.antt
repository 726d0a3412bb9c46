-- «Uses» of the forms of a typed tree: the tables, columns and host predicates in it, in the order of the text that it comes from. A group's elements come
-- in that text before its key.
use Rattle.std.specs.Prelude.{◌≡◌, ◌∷◌, ◌++◌, List, [], ℕ, flat_map}
use Rattle.lq_language.specs.Mentions.{Mention, Column, Table}
use Rattle.lq_language.specs.Uses.{host_named}
use Rattle.lq_language.specs.ValuesOfTypes.{Every}
use Rattle.lq_tree.specs.Places.{Places}
use Rattle.lq_tree.specs.declared.tree.Form.{Form, fold-Form}
use Rattle.lq_tree.specs.declared.tree.Form.TheOpen.{Form-F}
use Rattle.lq_tree.specs.declared.tree.Joined.{Joined}

-- both sources and keys of a join, and what comes of each match
abbrev pub joined_uses : Joined (List Mention) → List Mention
joined_uses j = (j.inner ++ (j.outer_key ++ j.inner_key)) ++ j.result

-- a form over the uses of the forms in it
abbrev pub form_uses_step : Form-F (List Mention) → List Mention
form_uses_step (Form-F.Literal s) = []
form_uses_step (Form-F.Slot n) = []
form_uses_step (Form-F.First a) = a
form_uses_step (Form-F.Second a) = a
form_uses_step (Form-F.Table t) = Table t ∷ []
form_uses_step (Form-F.Column a t c) = a ++ Column t c ∷ []
form_uses_step (Form-F.Host p a t columns) = host_named p t a columns
form_uses_step (Form-F.Member a place) = a
form_uses_step (Form-F.Key a) = a
form_uses_step (Form-F.Unary o a) = a
form_uses_step (Form-F.Binary o a b) = a ++ b
form_uses_step (Form-F.And a b) = a ++ b
form_uses_step (Form-F.Or a b) = a ++ b
form_uses_step (Form-F.Coalesce a b) = a ++ b
form_uses_step (Form-F.Conditional c a b) = c ++ (a ++ b)
form_uses_step (Form-F.IsNull wanted a) = a
form_uses_step (Form-F.Record fields) = flat_map (λ field. field.value) fields
form_uses_step (Form-F.Pair a b) = a ++ b
form_uses_step (Form-F.Sequence a) = a
form_uses_step (Form-F.Simple method t a) = a
form_uses_step (Form-F.Given method a b) = a ++ b
form_uses_step (Form-F.Where a f) = a ++ f
form_uses_step (Form-F.Select a f) = a ++ f
form_uses_step (Form-F.All a f) = a ++ f
form_uses_step (Form-F.SelectMany a inner result) = a ++ (inner ++ result)
form_uses_step (Form-F.Join a j) = a ++ joined_uses j
form_uses_step (Form-F.OrderBy a ks) = a ++ flat_map (λ k. k.value) ks
form_uses_step (Form-F.GroupBy a key element) = a ++ (element ++ key)

unfoldable pub form_uses : Form → List Mention
form_uses = fold-Form (List Mention) form_uses_step

-- The forms of local names use nothing, being slots and parts of what is in them; and those of the session's names use what is known of these,
-- however many slots there are.
pub record UseWhatIsKnown (places : Places) : Type 0 where
  pub locals : Every (λ place. form_uses place.form ≡ []) places.locals
  pub session : Every (λ place. (depth : ℕ) → form_uses (place.form depth) ≡ place.known.uses) places.session
