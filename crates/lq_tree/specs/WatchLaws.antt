-- Laws of watches: what a covered form means is watched, and a form's own watch covers it.
use Rattle.std.specs.Prelude.{◌≡◌, ℕ, Bool, true, slice_get}
use Rattle.lq_language.specs.Worlds.{World}
use Rattle.lq_tree.specs.AllowedCalls.{watch_of}
use Rattle.lq_tree.specs.FormMeaning.{Slots, form_meaning}
use Rattle.lq_tree.specs.Watches.{Watch, has_watched_result, have_watched_rows, is_covered, is_watched_table}
use Rattle.lq_tree.specs.declared.tree.Form.{Form}

-- where a watch covers a form and passes the rows in its slots, what the form means is a fault, or each row in it passes
abbrev pub MeansWatchedRows : Type 0 → Type 0
MeansWatchedRows R =
    (world : World R) (w : Watch R) (f : Form) (slots : Slots R) → is_covered world w f ≡ true → have_watched_rows w slots ≡ true
    → has_watched_result w (form_meaning world f slots) ≡ true

-- the watch of a form's own host predicates covers it, where its test passes all rows of all tables
abbrev pub OwnWatchCovers : Type 0 → Type 0
OwnWatchCovers R =
    (world : World R) (seen : R → Bool) (f : Form) → ((n : ℕ) → is_watched_table (watch_of seen f) (slice_get world.rows n) ≡ true)
    → is_covered world (watch_of seen f) f ≡ true
