-- The index of no rows.
use Rattle.std.proofs.Common.{◌≡◌, ◌<◌, ℕ, suc, true, false, List, [], ◌∷◌, ◌++◌, length, take, refl, ap, sym, ◌∙◌, get_or, arith, ◌+◌}
use Rattle.std.proofs.lemmas.List.{map-append}
use Rattle.std.proofs.Math.Seq as seq
use Rattle.lq_value.specs.declared.table.Row.{Row}
use Rattle.lq_index.specs.declared.slot.Spot.TheVariants as spot
use Rattle.lq_index.specs.Entries.{IsIndex, cell_of, cells_of}
use Rattle.lq_index.specs.Slots.{AreOwned, entry_at, no_slot, slot_at}
use Rattle.lq_index.specs.declared.slot.Slot.{Slot}

-- slots that were never taken are the index of no rows
pub none_yet : (width : ℕ) (slots : List Slot) → ((t : ℕ) → slot_at slots t ≡ no_slot) → IsIndex width (entry_at [] slots) []
none_yet width slots e =
    record {
      reach = λ s f. let clash : true ≡ false = rw (e s) at f in absurd (cc clash);
      bare = λ s f. rw (e s) refl;
      sound = λ s p ps f. let clash : [] ≡ p ∷ ps = rw (e s) at f in absurd (cc clash);
      whole = λ q p ps f. absurd (cc f);
      alone = λ s t p ps qs f g. let clash : [] ≡ p ∷ ps = rw (e s) at f in absurd (cc clash);
    }

-- the cells of one row more
pub one_more : (column : ℕ) (rows : List Row) (place : ℕ) (row : Row) → place < length rows → row ≡ get_or rows place row
    → cells_of column (take place rows) ++ cell_of column row ∷ [] ≡ cells_of column (take (place + 1) rows)
one_more column rows place row low is =
    let s : suc place ≡ place + 1 = omega arith in
    let t : take (suc place) rows ≡ take place rows ++ get_or rows place row ∷ [] = seq.take-suc rows place row low in
    let u : take (place + 1) rows ≡ take place rows ++ row ∷ [] = rw (← s) (t ∙ ap (λ (x : Row). take place rows ++ x ∷ []) (sym is)) in
    sym (ap (λ (l : List Row). cells_of column l) u ∙ map-append (cell_of column) (take place rows) (row ∷ []))

pub owned_yet : (slots : List Slot) → ((t : ℕ) → slot_at slots t ≡ no_slot) → AreOwned [] slots
owned_yet slots e =
    record {
      there = λ s g f. let clash : spot.Free ≡ spot.Many g = rw (e s) at f in absurd (cc clash);
      once = λ s t g f h. let clash : spot.Free ≡ spot.Many g = rw (e s) at f in absurd (cc clash);
    }
