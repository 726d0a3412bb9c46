-- What each function of the running goes down by: the size of the form, and at one size how far the function stands from `evaluate`; and
-- what each loop keeps.
use Rattle.std.proofs.Common.{◌≡◌, ◌+◌, ◌*◌, ◌++◌, List, None, Some, Ok, length, map, max, drop, true, false}
use Rattle.lq_host.specs.declared.call.Call.{Call}
use Rattle.lq_language.specs.Arrangement.{all_of}
use Rattle.lq_language.specs.Operations.{on_ok}
use Rattle.lq_language.specs.Enumerable.{all, contains}
use Rattle.lq_language.specs.Stream.{select_by, then_ending, first_keys, groups_of}
use Rattle.lq_value.specs.SameAndOrder.{same_values}
use Rattle.lq_value.specs.declared.value.End.TheVariants as end
use Rattle.lq_tree.specs.declared.tree.Form.{Form, size-Form}
use Rattle.lq_tree.specs.FormMeaning.{members_of, matched}
use Rattle.lq_tree.specs.Watches.{Watch, are_covered_fields, are_covered_keys, have_watched_rows, is_covered, is_covered_join}
use Rattle.lq_operators.specs.Firsts.{firsts_in}
use Rattle.lq_operators.specs.Groups.{groups_in}
use Rattle.lq_operators.specs.Matching.{pairs_of}
use Rattle.lq_operators.specs.Tallies.{tallied}
use Rattle.lq_plan.specs.Arrangements.{column_of, key_at}
use Rattle.lq_plan.specs.Counts.{read_first}
use Rattle.lq_plan.specs.Leading.{bodies_of}
use Rattle.lq_plan.specs.Lists.{field_means}
use Rattle.lq_plan.specs.Meanings.{holds_of, items_meant, value_of_item}
use Rattle.lq_plan.specs.Handing.{StaysOfRows, handed_out, rows_to_come}
use Rattle.lq_plan.specs.Pipes.{all_items, items_left}
use Rattle.lq_plan.specs.PlannedRows.{kept_stream}
use Rattle.lq_plan.specs.Pulling.{through_select, through_stage}
use Rattle.lq_plan.specs.Slots.{values_in}
use Rattle.lq_plan.specs.Watching.{facts, matches_pass, watches}
use Rattle.lq_plan.specs.Aggregates.{begins_in}
use Rattle.lq_pipe.specs.SelectedGroups.{AreSelected, HasTallies}
use Rattle.lq_pipe.specs.Handing.{Passes}
use Rattle.lq_pipe.specs.Items.{item_expansion, item_join, keys_and_elements, stream_expansion, stream_join}
use Rattle.lq_pipe.specs.Joins.{sought}
use Rattle.lq_pipe.specs.Leading.{Leads}
use Rattle.lq_pipe.specs.Runs.{Grown, HasTaken, covers, covers_stage, world}
use Rattle.lq_pipe.proofs.LogLemmas.{Covers, Keeps}
use Rattle.lq_pipe.proofs.PullLaws.{Comes}
use Rattle.lq_pipe.proofs.Sizes.{pipe_size, stage_size}
use Rattle.lq_pipe.proofs.JoinLemmas.{GivesAt}
use Rattle.lq_pipe.proofs.GatherLemmas.{Gathered}
use Rattle.lq_pipe.proofs.running.Running.+running.Given as goal

abbrev pub decreases-evaluate : goal.decreases-evaluate
decreases-evaluate g l = 32 * size-Form l.form.now

abbrev pub decreases-scalar : goal.decreases-scalar
decreases-scalar g l = 32 * size-Form l.form.now + 2

abbrev pub decreases-truth : goal.decreases-truth
decreases-truth g l = 32 * size-Form l.form.now + 4

abbrev pub decreases-truth_of_both : goal.decreases-truth_of_both
decreases-truth_of_both g l = 32 * max (size-Form l.left.now) (size-Form l.right.now) + 10

abbrev pub decreases-truth_of_either : goal.decreases-truth_of_either
decreases-truth_of_either g l = 32 * max (size-Form l.left.now) (size-Form l.right.now) + 10

abbrev pub decreases-truth_of_two : goal.decreases-truth_of_two
decreases-truth_of_two g l = 32 * max (size-Form l.left.now) (size-Form l.right.now) + 12

abbrev pub decreases-value_of_item : goal.decreases-value_of_item
decreases-value_of_item g l = 32 * size-Form l.body.now + 2

abbrev pub decreases-value_by : goal.decreases-value_by
decreases-value_by g l = 32 * size-Form l.lambda.now.body.now + 3

abbrev pub decreases-holds : goal.decreases-holds
decreases-holds g l = 32 * size-Form l.condition.now + 6

abbrev pub decreases-all : goal.decreases-all
decreases-all g l = 32 * max (size-Form l.source.now) (size-Form l.condition.now) + 18

abbrev pub decreases-unary : goal.decreases-unary
decreases-unary g l = 32 * size-Form l.operand.now + 10

abbrev pub decreases-binary : goal.decreases-binary
decreases-binary g l = 32 * max (size-Form l.left.now) (size-Form l.right.now) + 10

abbrev pub decreases-binary_right : goal.decreases-binary_right
decreases-binary_right g l = 32 * size-Form l.right.now + 8

abbrev pub decreases-both : goal.decreases-both
decreases-both g l = 32 * max (size-Form l.left.now) (size-Form l.right.now) + 10

abbrev pub decreases-either : goal.decreases-either
decreases-either g l = 32 * max (size-Form l.left.now) (size-Form l.right.now) + 10

abbrev pub decreases-coalesce : goal.decreases-coalesce
decreases-coalesce g l = 32 * max (size-Form l.left.now) (size-Form l.right.now) + 10

abbrev pub decreases-choose : goal.decreases-choose
decreases-choose g l = 32 * max (size-Form l.condition.now) (max (size-Form l.left.now) (size-Form l.right.now)) + 10

abbrev pub decreases-record : goal.decreases-record
decreases-record g l = 32 * goal.size-record g l + 12

abbrev pub decreases-pair : goal.decreases-pair
decreases-pair g l = 32 * max (size-Form l.left.now) (size-Form l.right.now) + 10

abbrev pub decreases-sequence : goal.decreases-sequence
decreases-sequence g l = 32 * max (size-Form l.source.now) (stage_size l.stage) + 18

abbrev pub decreases-simple : goal.decreases-simple
decreases-simple g l = 32 * size-Form l.source.now + 24

abbrev pub decreases-given : goal.decreases-given
decreases-given g l = 32 * max (size-Form l.source.now) (size-Form l.argument.now) + 20

abbrev pub decreases-expand_item : goal.decreases-expand_item
decreases-expand_item g l = 32 * max (size-Form l.inner.now) (size-Form l.body.now) + 18

abbrev pub decreases-expand : goal.decreases-expand
decreases-expand g l = 32 * max (pipe_size l.pipe.now) (max (size-Form l.inner.now) (size-Form l.body.now)) + 20

abbrev pub decreases-select_many : goal.decreases-select_many
decreases-select_many g l = 32 * max (size-Form l.source.now) (max (size-Form l.inner.now) (size-Form l.body.now)) + 22

abbrev pub decreases-key_pairs : goal.decreases-key_pairs
decreases-key_pairs g l = 32 * max (size-Form l.source.now) (size-Form l.key.now) + 18

abbrev pub decreases-join_item : goal.decreases-join_item
decreases-join_item g l = 32 * goal.size-join_item g l + 8

abbrev pub decreases-join_matches : goal.decreases-join_matches
decreases-join_matches g l = 32 * size-Form l.lambda.now.body.now + 5

abbrev pub decreases-join_place : goal.decreases-join_place
decreases-join_place g l = 32 * size-Form l.lambda.now.body.now + 4

abbrev pub decreases-join : goal.decreases-join
decreases-join g l = 32 * max (goal.size-join g l) (size-Form l.source.now) + 20

abbrev pub decreases-group_item : goal.decreases-group_item
decreases-group_item g l = 32 * max (size-Form l.key.now.body.now) (size-Form l.element.now.body.now) + 8

abbrev pub decreases-group_next : goal.decreases-group_next
decreases-group_next g l = 32 * max (pipe_size l.pipe.now) (max (size-Form l.key.now.body.now) (size-Form l.element.now.body.now)) + 14

abbrev pub decreases-grouped : goal.decreases-grouped
decreases-grouped g l = 32 * max (pipe_size l.pipe.now) (max (size-Form l.key.now.body.now) (size-Form l.element.now.body.now)) + 16

abbrev pub decreases-key_of : goal.decreases-key_of
decreases-key_of g l = 32 * size-Form l.key.now.body.now + 5

abbrev pub decreases-add_next : goal.decreases-add_next
decreases-add_next g l = 32 * pipe_size l.pipe.now + 15

abbrev pub decreases-distinct : goal.decreases-distinct
decreases-distinct g l = 32 * pipe_size l.pipe.now + 16

abbrev pub decreases-tally_by : goal.decreases-tally_by
decreases-tally_by g l = 32 * size-Form l.lambda.now.body.now + 5

abbrev pub decreases-tally_lambda : goal.decreases-tally_lambda
decreases-tally_lambda g l = 32 * size-Form l.lambda.now.body.now + 6

abbrev pub decreases-group_by : goal.decreases-group_by
decreases-group_by g l = 32 * max (size-Form l.source.now) (max (size-Form l.key.now) (size-Form l.element.now)) + 20

abbrev pub decreases-key_column : goal.decreases-key_column
decreases-key_column g l = 32 * size-Form l.key.now + 6

abbrev pub decreases-key_columns : goal.decreases-key_columns
decreases-key_columns g l = 32 * goal.size-key_columns g l + 8

abbrev pub decreases-order_by : goal.decreases-order_by
decreases-order_by g l = 32 * max (goal.size-order_by g l) (size-Form l.source.now) + 18

abbrev pub decreases-base_of : goal.decreases-base_of
decreases-base_of g l = 32 * size-Form l.form.now + 4

abbrev pub decreases-open : goal.decreases-open
decreases-open g l = 32 * size-Form l.form.now + 8

abbrev pub decreases-first_sorted : goal.decreases-first_sorted
decreases-first_sorted g l = 32 * size-Form l.form.now + 2

abbrev pub decreases-leading_items : goal.decreases-leading_items
decreases-leading_items g l = 32 * pipe_size l.pipe.now + 16

abbrev pub decreases-group_items : goal.decreases-group_items
decreases-group_items g l = 32 * pipe_size l.pipe.now + 16

abbrev pub decreases-pass : goal.decreases-pass
decreases-pass g l = 32 * size-Form l.form.now

abbrev pub decreases-pass_stage : goal.decreases-pass_stage
decreases-pass_stage g l = 32 * stage_size l.stage.now + 10

abbrev pub decreases-pass_through : goal.decreases-pass_through
decreases-pass_through g l = 32 * max (size-Form l.source.now) (stage_size l.stage.now) + 12

abbrev pub decreases-pass_item : goal.decreases-pass_item
decreases-pass_item g l = 32 * pipe_size l.pipe.now + 13

abbrev pub decreases-next : goal.decreases-next
decreases-next g l = 32 * pipe_size l.pipe.now + 14

abbrev pub decreases-tally_pulled : goal.decreases-tally_pulled
decreases-tally_pulled g l = 32 * pipe_size l.pipe.now + 16

abbrev pub decreases-tally_row : goal.decreases-tally_row
decreases-tally_row g l = 32 * stage_size l.pipe.now.stage + 5

abbrev pub decreases-tally_next : goal.decreases-tally_next
decreases-tally_next g l = 32 * pipe_size l.pipe.now + 14

abbrev pub decreases-tally_item : goal.decreases-tally_item
decreases-tally_item g l = 32 * stage_size l.stage.now + 8

abbrev pub decreases-tally_items : goal.decreases-tally_items
decreases-tally_items g l = 32 * stage_size l.stage.now + 10

abbrev pub decreases-has_item : goal.decreases-has_item
decreases-has_item g l = 32 * pipe_size l.pipe.now + 16

abbrev pub decreases-part : goal.decreases-part
decreases-part g l = 32 * size-Form l.form.now + 10

abbrev pub decreases-key : goal.decreases-key
decreases-key g l = 32 * size-Form l.group.now + 12

abbrev pub decreases-null_test : goal.decreases-null_test
decreases-null_test g l = 32 * size-Form l.of.now + 12

abbrev pub decreases-simple_items : goal.decreases-simple_items
decreases-simple_items g l = 32 * pipe_size l.pipe.now + 18

abbrev pub decreases-read : goal.decreases-read
decreases-read g l = 32 * pipe_size l.pipe.now + 16

abbrev pub decreases-all_hold : goal.decreases-all_hold
decreases-all_hold g l = 32 * max (pipe_size l.pipe.now) (size-Form l.condition.now) + 16

abbrev pub decreases-join_items : goal.decreases-join_items
decreases-join_items g l = 32 * max (goal.size-join_items g l) (pipe_size l.pipe.now) + 16

abbrev pub decreases-pass_row : goal.decreases-pass_row
decreases-pass_row g l = 32 * stage_size l.pipe.now.stage + 5

-- ---- loops

-- the tally so far comes to the same over what comes of the items that are left
abbrev pub invariant-tally_items-loop-item : goal.invariant-tally_items-loop-item
invariant-tally_items-loop-item g l =
    record {
      meant : tallied l.fn.of l.tally (through_stage (world l.fn.self) (values_in l.fn.slots) l.fn.stage (drop l.item-index l.items, l.fn.end))
          ≡ tallied l.fn.of l.fn.tally (through_stage (world l.fn.self) (values_in l.fn.slots) l.fn.stage (l.items, l.fn.end));
      grows : ((w : Watch _) (start : List Call) → covers_stage l.fn.self w l.fn.stage ≡ true → watches w l.fn.slots ≡ true → have_watched_rows w l.items ≡ true → Grown l.fn.self w start l.fn.log → Grown l.fn.self w start l.log);
    }

abbrev pub invariant-tally_lambda-loop-item : goal.invariant-tally_lambda-loop-item
invariant-tally_lambda-loop-item g l =
    record {
      meant : tallied l.fn.of l.tally (through_select (world l.fn.self) (values_in l.fn.slots) l.fn.lambda.body.now (drop l.item-index l.items, l.fn.end))
          ≡ tallied l.fn.of l.fn.tally (through_select (world l.fn.self) (values_in l.fn.slots) l.fn.lambda.body.now (l.items, l.fn.end));
      grows : ((w : Watch _) (start : List Call) → covers l.fn.self w l.fn.lambda.body.now ≡ true → watches w l.fn.slots ≡ true → have_watched_rows w l.items ≡ true → Grown l.fn.self w start l.fn.log → Grown l.fn.self w start l.log);
    }

-- what was made, and what a lambda gives of the inner items at the places that are left
abbrev pub invariant-join_matches-loop-place : goal.invariant-join_matches-loop-place
invariant-join_matches-loop-place g l =
    record {
      meant : GivesAt l.fn.matches (sought l.fn.key) (value_of_item (world l.fn.self) l.fn.lambda.body.now l.fn.slots) l.places
          (then_ending l.fn.values end.Done (select_by (value_of_item (world l.fn.self) l.fn.lambda.body.now l.fn.slots) (matched (world l.fn.self) false (sought l.fn.key) (pairs_of l.fn.matches)) end.Done)) l.values l.place-index;
      grows : ((w : Watch _) (start : List Call) → covers l.fn.self w l.fn.lambda.body.now ≡ true → matches_pass w (pairs_of l.fn.matches) ≡ true → watches w l.fn.slots ≡ true → Grown l.fn.self w start l.fn.log → Grown l.fn.self w start l.log);
    }

-- the members so far, and those that are left
abbrev pub invariant-record-loop-field : goal.invariant-record-loop-field
invariant-record-loop-field g l =
    record {
      meant : on_ok
          (members_of (world l.fn.self)
          (map (field_means (world l.fn.self)) (drop l.field-index l.field-items)) (values_in l.fn.slots))
          (λ ms. Ok (l.members ++ ms))
          ≡ members_of (world l.fn.self)
          (map (field_means (world l.fn.self)) l.field-items) (values_in l.fn.slots);
      grows : ((w : Watch _) (start : List Call) → are_covered_fields (world l.fn.self) w l.field-items ≡ true → watches w l.fn.slots ≡ true → Grown l.fn.self w start l.fn.log → Grown l.fn.self w start l.log);
    }

-- the keys so far, and those of the items that are left
abbrev pub invariant-key_column-loop-item : goal.invariant-key_column-loop-item
invariant-key_column-loop-item g l =
    record {
      meant : on_ok (all_of (key_at (world l.fn.self) (values_in l.fn.slots) l.fn.key) (drop l.item-index l.items)) (λ ks. Ok (l.column ++ ks))
          ≡ all_of (key_at (world l.fn.self) (values_in l.fn.slots) l.fn.key) l.items;
      grows : ((w : Watch _) (start : List Call) → covers l.fn.self w l.fn.key ≡ true → watches w l.fn.slots ≡ true → have_watched_rows w l.items ≡ true → Grown l.fn.self w start l.fn.log → Grown l.fn.self w start l.log);
    }

-- the columns so far, and those of the keys that are left
abbrev pub invariant-key_columns-loop-key : goal.invariant-key_columns-loop-key
invariant-key_columns-loop-key g l =
    record {
      meant : on_ok (all_of (column_of (world l.fn.self) (values_in l.fn.slots) l.fn.items) (drop l.key-index l.key-items)) (λ cs. Ok (l.columns ++ cs))
          ≡ all_of (column_of (world l.fn.self) (values_in l.fn.slots) l.fn.items) l.key-items;
      grows : ((w : Watch _) (start : List Call) → are_covered_keys (world l.fn.self) w l.key-items ≡ true → watches w l.fn.slots ≡ true → have_watched_rows w l.fn.items ≡ true → Grown l.fn.self w start l.fn.log → Grown l.fn.self w start l.log);
    }

-- ---- loops that pull

-- what is left of a pipe is what was left before, an item that was dropped aside
abbrev pub invariant-next-loop-row : goal.invariant-next-loop-row
invariant-next-loop-row g l =
    record {
      meant : items_left (world l.fn.self) (values_in l.fn.slots) l.fn.pipe l.base ≡ items_left (world l.fn.self) (values_in l.fn.slots) l.fn.pipe l.fn.base;
      pulled : HasTaken l.fn.self l.fn.slots l.fn.pipe l.fn.base l.fn.log l.base l.log;
      passes : Passes (world l.fn.self) (values_in l.fn.slots) l.fn.pipe (rows_to_come l.fn.base) (handed_out l.fn.base) (rows_to_come l.base) (handed_out l.base);
      alone : StaysOfRows l.fn.base l.base;
    }

abbrev pub decreases-next-loop-row : goal.decreases-next-loop-row
decreases-next-loop-row g l = length (kept_stream g.R.TableRow.table_of g.R.RowRef.shown l.fn.pipe.plan l.base).0

-- the items so far, and those that are left up to the limit
abbrev pub invariant-read-loop-less : goal.invariant-read-loop-less
invariant-read-loop-less g l =
    record {
      meant : then_ending l.items end.Done (read_first l.left (items_left (world l.fn.self) (values_in l.fn.slots) l.fn.pipe l.base)) ≡ read_first l.fn.limit (all_items (world l.fn.self) (values_in l.fn.slots) l.fn.pipe);
      log : Keeps (world l.fn.self) (facts l.fn.self.sources) g.R.TableRow.table_of g.R.RowRef.shown (values_in l.fn.slots) l.fn.pipe (Covers (world l.fn.self) (values_in l.fn.slots) l.fn.pipe) l.fn.log l.log l.base;
    }

abbrev pub decreases-read-loop-less : goal.decreases-read-loop-less
decreases-read-loop-less g l = length (items_left (world l.fn.self) (values_in l.fn.slots) l.fn.pipe l.base).0

-- the tally so far comes to the same over the items that are left
abbrev pub invariant-tally_pulled-loop-pulled : goal.invariant-tally_pulled-loop-pulled
invariant-tally_pulled-loop-pulled g l =
    record {
      meant : tallied l.fn.of l.tally (items_left (world l.fn.self) (values_in l.fn.slots) l.fn.pipe l.base) ≡ tallied l.fn.of l.fn.tally (all_items (world l.fn.self) (values_in l.fn.slots) l.fn.pipe);
      log : Keeps (world l.fn.self) (facts l.fn.self.sources) g.R.TableRow.table_of g.R.RowRef.shown (values_in l.fn.slots) l.fn.pipe (Covers (world l.fn.self) (values_in l.fn.slots) l.fn.pipe) l.fn.log l.log l.base;
    }

abbrev pub decreases-tally_pulled-loop-pulled : goal.decreases-tally_pulled-loop-pulled
decreases-tally_pulled-loop-pulled g l = length (kept_stream g.R.TableRow.table_of g.R.RowRef.shown l.fn.pipe.plan l.base).0

-- what the items that are left answer is what all answer
abbrev pub invariant-has_item-loop-base : goal.invariant-has_item-loop-base
invariant-has_item-loop-base g l =
    record {
      meant : contains same_values l.fn.value (items_left (world l.fn.self) (values_in l.fn.slots) l.fn.pipe l.base).0 (items_left (world l.fn.self) (values_in l.fn.slots) l.fn.pipe l.base).1 ≡ contains same_values l.fn.value (all_items (world l.fn.self) (values_in l.fn.slots) l.fn.pipe).0 (all_items (world l.fn.self) (values_in l.fn.slots) l.fn.pipe).1;
      log : Keeps (world l.fn.self) (facts l.fn.self.sources) g.R.TableRow.table_of g.R.RowRef.shown (values_in l.fn.slots) l.fn.pipe (Covers (world l.fn.self) (values_in l.fn.slots) l.fn.pipe) l.fn.log l.log l.base;
    }

abbrev pub decreases-has_item-loop-base : goal.decreases-has_item-loop-base
decreases-has_item-loop-base g l = length (items_left (world l.fn.self) (values_in l.fn.slots) l.fn.pipe l.base).0

abbrev pub invariant-all_hold-loop-base : goal.invariant-all_hold-loop-base
invariant-all_hold-loop-base g l =
    record {
      meant : all (holds_of (world l.fn.self) l.fn.condition l.fn.slots) (items_left (world l.fn.self) (values_in l.fn.slots) l.fn.pipe l.base).0 (items_left (world l.fn.self) (values_in l.fn.slots) l.fn.pipe l.base).1
          ≡ all (holds_of (world l.fn.self) l.fn.condition l.fn.slots) (all_items (world l.fn.self) (values_in l.fn.slots) l.fn.pipe).0 (all_items (world l.fn.self) (values_in l.fn.slots) l.fn.pipe).1;
      log : Keeps (world l.fn.self) (facts l.fn.self.sources) g.R.TableRow.table_of g.R.RowRef.shown (values_in l.fn.slots) l.fn.pipe (λ w. Covers (world l.fn.self) (values_in l.fn.slots) l.fn.pipe w × (is_covered (world l.fn.self) w l.fn.condition ≡ true)) l.fn.log l.log l.base;
    }

abbrev pub decreases-all_hold-loop-base : goal.decreases-all_hold-loop-base
decreases-all_hold-loop-base g l = length (items_left (world l.fn.self) (values_in l.fn.slots) l.fn.pipe l.base).0

-- what was made, and what comes of the items that are left
abbrev pub invariant-expand-loop-values : goal.invariant-expand-loop-values
invariant-expand-loop-values g l =
    record {
      meant : Comes (item_expansion (world l.fn.self) (values_in l.fn.slots) l.fn.inner l.fn.body) (items_left (world l.fn.self) (values_in l.fn.slots) l.fn.pipe l.base)
          (stream_expansion (world l.fn.self) (values_in l.fn.slots) l.fn.inner l.fn.body (all_items (world l.fn.self) (values_in l.fn.slots) l.fn.pipe)) l.values;
      log : Keeps (world l.fn.self) (facts l.fn.self.sources) g.R.TableRow.table_of g.R.RowRef.shown (values_in l.fn.slots) l.fn.pipe (λ w. Covers (world l.fn.self) (values_in l.fn.slots) l.fn.pipe w × (is_covered (world l.fn.self) w l.fn.inner ≡ true) × (is_covered (world l.fn.self) w l.fn.body ≡ true)) l.fn.log l.log l.base;
    }

abbrev pub decreases-expand-loop-values : goal.decreases-expand-loop-values
decreases-expand-loop-values g l = length (items_left (world l.fn.self) (values_in l.fn.slots) l.fn.pipe l.base).0

abbrev pub invariant-join_items-loop-values : goal.invariant-join_items-loop-values
invariant-join_items-loop-values g l =
    record {
      meant : Comes (item_join (world l.fn.self) (values_in l.fn.slots) l.fn.joined (pairs_of l.fn.matches)) (items_left (world l.fn.self) (values_in l.fn.slots) l.fn.pipe l.base)
          (stream_join (world l.fn.self) (values_in l.fn.slots) l.fn.joined (pairs_of l.fn.matches) (all_items (world l.fn.self) (values_in l.fn.slots) l.fn.pipe)) l.values;
      log : Keeps (world l.fn.self) (facts l.fn.self.sources) g.R.TableRow.table_of g.R.RowRef.shown (values_in l.fn.slots) l.fn.pipe (λ w. Covers (world l.fn.self) (values_in l.fn.slots) l.fn.pipe w × (is_covered_join (world l.fn.self) w l.fn.joined ≡ true) × (matches_pass w (pairs_of l.fn.matches) ≡ true)) l.fn.log l.log l.base;
    }

abbrev pub decreases-join_items-loop-values : goal.decreases-join_items-loop-values
decreases-join_items-loop-values g l = length (items_left (world l.fn.self) (values_in l.fn.slots) l.fn.pipe l.base).0

-- the pairs so far, and those of the items that are left
abbrev pub invariant-key_pairs-loop-pairs : goal.invariant-key_pairs-loop-pairs
invariant-key_pairs-loop-pairs g l =
    record {
      meant : then_ending l.pairs end.Done (keys_and_elements (world l.fn.self) (values_in l.fn.slots) l.fn.key None (items_left (world l.fn.self) (values_in l.fn.slots) l.pipe l.base))
          ≡ keys_and_elements (world l.fn.self) (values_in l.fn.slots) l.fn.key None (items_meant (world l.fn.self) l.fn.source l.fn.slots);
      log : Keeps (world l.fn.self) (facts l.fn.self.sources) g.R.TableRow.table_of g.R.RowRef.shown (values_in l.fn.slots) l.pipe (λ w. Covers (world l.fn.self) (values_in l.fn.slots) l.pipe w × (is_covered (world l.fn.self) w l.fn.key ≡ true)) l.fn.log l.log l.base;
    }

abbrev pub decreases-key_pairs-loop-pairs : goal.decreases-key_pairs-loop-pairs
decreases-key_pairs-loop-pairs g l = length (items_left (world l.fn.self) (values_in l.fn.slots) l.pipe l.base).0

-- the groups so far are those of the pairs so far
abbrev pub invariant-grouped-loop-pulled : goal.invariant-grouped-loop-pulled
invariant-grouped-loop-pulled g l =
    record {
      meant : Gathered (groups_of same_values) (groups_in l.grouping) (keys_and_elements (world l.fn.self) (values_in l.fn.slots) l.fn.key.body.now (Some l.fn.element.body) (items_left (world l.fn.self) (values_in l.fn.slots) l.fn.pipe l.base))
          (keys_and_elements (world l.fn.self) (values_in l.fn.slots) l.fn.key.body.now (Some l.fn.element.body) (all_items (world l.fn.self) (values_in l.fn.slots) l.fn.pipe));
      log : Keeps (world l.fn.self) (facts l.fn.self.sources) g.R.TableRow.table_of g.R.RowRef.shown (values_in l.fn.slots) l.fn.pipe (λ w. Covers (world l.fn.self) (values_in l.fn.slots) l.fn.pipe w × (is_covered (world l.fn.self) w l.fn.key.body.now ≡ true) × (is_covered (world l.fn.self) w l.fn.element.body.now ≡ true)) l.fn.log l.log l.base;
    }

abbrev pub decreases-grouped-loop-pulled : goal.decreases-grouped-loop-pulled
decreases-grouped-loop-pulled g l = length (kept_stream g.R.TableRow.table_of g.R.RowRef.shown l.fn.pipe.plan l.base).0

-- the first items so far are those of the items so far
abbrev pub invariant-distinct-loop-pulled : goal.invariant-distinct-loop-pulled
invariant-distinct-loop-pulled g l =
    record {
      meant : Gathered (first_keys same_values) (firsts_in l.firsts) (items_left (world l.fn.self) (values_in l.fn.slots) l.fn.pipe l.base) (all_items (world l.fn.self) (values_in l.fn.slots) l.fn.pipe);
      log : Keeps (world l.fn.self) (facts l.fn.self.sources) g.R.TableRow.table_of g.R.RowRef.shown (values_in l.fn.slots) l.fn.pipe (Covers (world l.fn.self) (values_in l.fn.slots) l.fn.pipe) l.fn.log l.log l.base;
    }

abbrev pub decreases-distinct-loop-pulled : goal.decreases-distinct-loop-pulled
decreases-distinct-loop-pulled g l = length (kept_stream g.R.TableRow.table_of g.R.RowRef.shown l.fn.pipe.plan l.base).0

-- the first ones so far, and the items that are left
abbrev pub invariant-leading_items-loop-row : goal.invariant-leading_items-loop-row
invariant-leading_items-loop-row g l =
    record {
      meant : Leads (world l.fn.self) (values_in l.fn.slots) (bodies_of l.fn.lambdas) l.fn.directions l.fn.wanted l.leading (items_left (world l.fn.self) (values_in l.fn.slots) l.fn.pipe l.base) (all_items (world l.fn.self) (values_in l.fn.slots) l.fn.pipe);
      counted : length l.fn.lambdas ≡ length l.leading.directions;
      log : Keeps (world l.fn.self) (facts l.fn.self.sources) g.R.TableRow.table_of g.R.RowRef.shown (values_in l.fn.slots) l.fn.pipe (Covers (world l.fn.self) (values_in l.fn.slots) l.fn.pipe) l.fn.log l.log l.base;
    }

abbrev pub decreases-leading_items-loop-row : goal.decreases-leading_items-loop-row
decreases-leading_items-loop-row g l = length (kept_stream g.R.TableRow.table_of g.R.RowRef.shown l.fn.pipe.plan l.base).0

-- the tallies so far, and the items that are left
abbrev pub invariant-group_items-loop-row : goal.invariant-group_items-loop-row
invariant-group_items-loop-row g l =
    record {
      meant : ((source body : Form) (s : AreSelected l.fn.self l.fn.slots source body l.fn.selected) → HasTallies (world l.fn.self) (values_in l.fn.slots) s.key.body.now l.fn.selected.reads.tallies.items l.tallies (items_left (world l.fn.self) (values_in l.fn.slots) l.fn.pipe l.base) (all_items (world l.fn.self) (values_in l.fn.slots) l.fn.pipe));
      begins : l.tallies.begins ≡ begins_in l.fn.selected.reads.tallies.items;
      log : Keeps (world l.fn.self) (facts l.fn.self.sources) g.R.TableRow.table_of g.R.RowRef.shown (values_in l.fn.slots) l.fn.pipe (Covers (world l.fn.self) (values_in l.fn.slots) l.fn.pipe) l.fn.log l.log l.base;
    }

abbrev pub decreases-group_items-loop-row : goal.decreases-group_items-loop-row
decreases-group_items-loop-row g l = length (kept_stream g.R.TableRow.table_of g.R.RowRef.shown l.fn.pipe.plan l.base).0
