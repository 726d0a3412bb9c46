-- What frames and variables stand for, layer by layer, and where a name is found among them.
use Rattle.std.proofs.Common.{◌≡◌, ◌∷◌, ◌||◌, if◌then◌else◌, List, [], map, ℕ, Bool, true, false, Some, None, ap, ◌∙◌, refl, Bor, is_some}
use Rattle.std.specs.Str.{bytes_eq}
use Rattle.lq_value.specs.declared.ty.Ty.{Ty}
use Rattle.lq_language.specs.Operators.{Pattern, One, With}
use Rattle.lq_language.specs.Names.{local_type}
use Rattle.lq_tree.specs.Places.{Place, Places, place_of, places_of, with_item, with_name}
use Rattle.lq_tree.specs.SessionPlaces.{places_outside}
use Rattle.lq_tree.specs.declared.tree.Form.{Form}
use Rattle.lq_tree.specs.declared.tree.Form.TheVariants as form
use Rattle.lq_bind.specs.Frames.{frame_step, is_among, pattern_in, pattern_step, places_in}
use Rattle.lq_bind.specs.declared.frames.Frame.{Frame, fold_out-Frame, map-Frame, out-Frame}
use Rattle.lq_bind.specs.declared.frames.Frame.TheVariants as frame
use Rattle.lq_bind.specs.declared.frames.Frame.TheVariants.{outs-Item, outs-Name, outs-Top}
use Rattle.lq_bind.specs.declared.frames.Frame.TheViews as views
use Rattle.lq_bind.specs.declared.variables.Variables.{Variables, fold_out-Variables, map-Variables, out-Variables}
use Rattle.lq_bind.specs.declared.variables.Variables.TheVariants as variables
use Rattle.lq_bind.specs.declared.variables.Variables.TheVariants.{outs-One, outs-With}

-- ---- variables

pattern_out : (v : Variables) → pattern_in v ≡ pattern_step (map-Variables Variables Pattern pattern_in (out-Variables v))
unfolding pattern_in
pattern_out v = fold_out-Variables Pattern pattern_step v

pub pattern_one : (n : List ℕ) (t : Ty) → pattern_in (variables.One n t) ≡ One n t
pattern_one n t = pattern_out (variables.One n t) ∙ ap (λ layer. pattern_step (map-Variables Variables Pattern pattern_in layer)) (outs-One n t)

pub pattern_with : (v : Variables) (n : List ℕ) (t : Ty) → pattern_in (variables.With v n t) ≡ With (pattern_in v) n t
pattern_with v n t = pattern_out (variables.With v n t) ∙ ap (λ layer. pattern_step (map-Variables Variables Pattern pattern_in layer)) (outs-With v n t)

pub ruleset patterns = (pattern_one, pattern_with)

-- ---- frames

places_out : (f : Frame) → places_in f ≡ frame_step (map-Frame Frame Places places_in (out-Frame f))
unfolding places_in
places_out f = fold_out-Frame Places frame_step f

pub places_top : (depth : ℕ) → places_in (frame.Top depth) ≡ places_outside [] [] depth
places_top depth = places_out (frame.Top depth) ∙ ap (λ layer. frame_step (map-Frame Frame Places places_in layer)) (outs-Top depth)

pub places_item : (outer : Bor Frame) (v : Bor Variables) → places_in (views.Item outer v) ≡ with_item (places_in outer.now) (pattern_in v.now)
places_item outer v = places_out (views.Item outer v) ∙ ap (λ layer. frame_step (map-Frame Frame Places places_in layer)) (outs-Item outer v)

pub places_name : (outer : Bor Frame) (n : Bor (List ℕ)) (t : Bor Ty) → places_in (views.Name outer n t) ≡ with_name (places_in outer.now) n.now t.now
places_name outer n t = places_out (views.Name outer n t) ∙ ap (λ layer. frame_step (map-Frame Frame Places places_in layer)) (outs-Name outer n t)

pub ruleset chains = (places_top, places_item, places_name)

-- ---- names

-- a name is found among an item's, and else among those around it
pub found_in : (n : List ℕ) (p : Pattern) (item : Form) (ps : List Place)
    → place_of n (places_of p item ps) ≡ (if is_among n p then place_of n (places_of p item []) else place_of n ps)
found_in n (One m t) item ps = one (bytes_eq m n) where
  one : (b : Bool) → (if b then Some (record { name = m; ty = t; form = item }) else place_of n ps)
      ≡ (if b then (if b then Some (record { name = m; ty = t; form = item }) else None) else place_of n ps)
  one true = refl
  one false = refl
found_in n (With p m t) item ps = more (bytes_eq m n) (found_in n p (form.First item) ps) where
  more : (b : Bool) → place_of n (places_of p (form.First item) ps) ≡ (if is_among n p then place_of n (places_of p (form.First item) []) else place_of n ps)
      → (if b then Some (record { name = m; ty = t; form = form.Second item }) else place_of n (places_of p (form.First item) ps))
      ≡ (if b || is_among n p then (if b then Some (record { name = m; ty = t; form = form.Second item }) else place_of n (places_of p (form.First item) [])) else place_of n ps)
  more true e = refl
  more false e = e

-- and it is found where it is among them
pub is_found : (n : List ℕ) (p : Pattern) (item : Form) → is_some (place_of n (places_of p item [])) ≡ is_among n p
is_found n (One m t) item = one (bytes_eq m n) where
  one : (b : Bool) → is_some {T = Place} (if b then Some (record { name = m; ty = t; form = item }) else None) ≡ b
  one true = refl
  one false = refl
is_found n (With p m t) item = more (bytes_eq m n) (is_found n p (form.First item)) where
  more : (b : Bool) → is_some (place_of n (places_of p (form.First item) [])) ≡ is_among n p
      → is_some {T = Place} (if b then Some (record { name = m; ty = t; form = form.Second item }) else place_of n (places_of p (form.First item) [])) ≡ b || is_among n p
  more true e = refl
  more false e = e

pub ruleset lookups = (found_in, is_found)

-- typing knows the names that have a place
pub typed_where_placed : (n : List ℕ) (ps : List Place) → is_some (local_type n (map (λ (place : Place). (place.name, place.ty)) ps)) ≡ is_some (place_of n ps)
typed_where_placed n [] = refl
typed_where_placed n (place ∷ ps) = at (bytes_eq place.name n) (typed_where_placed n ps) where
  at : (b : Bool) → is_some (local_type n (map (λ (place : Place). (place.name, place.ty)) ps)) ≡ is_some (place_of n ps)
      → is_some (if b then Some place.ty else local_type n (map (λ (place : Place). (place.name, place.ty)) ps)) ≡ is_some (if b then Some place else place_of n ps)
  at true e = refl
  at false e = e

pub ruleset local_types = (typed_where_placed)
