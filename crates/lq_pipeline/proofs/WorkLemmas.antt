-- The work of a pull: what each standing of a pipe answers, as a pull from its place.
use Rattle.std.proofs.Common.{◌≡◌, List, [], ℕ, suc, Bool, true, Option, Some, None, Result, Ok, Err, ap, sym, refl, subst}
use Rattle.std.specs.declared.alloc.AllocError.{AllocError}
use Rattle.lq_value.specs.declared.value.Fault.{Fault}
use Rattle.lq_value.specs.declared.value.Value.{Value}
use Rattle.lq_host.specs.declared.call.Call.{Call}
use Rattle.lq_language.specs.Stream.{Stream}
use Rattle.lq_language.specs.TableRows.{TableRow}
use Rattle.lq_language.specs.Worlds.{World}
use Rattle.lq_tree.specs.AllowedCalls.{AddsOwnCalls, watch_of}
use Rattle.lq_tree.specs.FormMeaning.{form_meaning}
use Rattle.lq_tree.specs.declared.tree.Form.{Form}
use Rattle.lq_tree.proofs.LogLaws.{grown_none}
use Rattle.lq_plan.specs.declared.bases.Base.{Base}
use Rattle.lq_pull.specs.Views.{row_facts}
use Rattle.lq_pull.specs.declared.readers.Reader.{Reader}
use Rattle.lq_pipeline.specs.Chains.{items_of_result, leaf_of}
use Rattle.lq_pipeline.specs.Heads.{IsHeadOver, Needs, leaf_below}
use Rattle.lq_pipeline.specs.Places.{AddsFrom, AddsIf, Gives, GoesFrom, GoesOn, OthersPass, Place, Pulls, covers_beside, standing, start_of}
use Rattle.lq_pipeline.specs.Reading.{covers_chain}
use Rattle.lq_pipeline.specs.Standings.{GivesOn, IsBegun, IsBegunBy, IsOfRows, IsOver, IsState, IsStateBy, Pulled, PullsFirst, PullsState, handed_by, place_by, place_of, rows_place}
use Rattle.lq_pipeline.specs.declared.chains.Head.{Head}
use Rattle.lq_pipeline.specs.declared.steps.Opened.{Opened}
use Rattle.lq_pipeline.specs.declared.steps.Standing.{Standing}
use Rattle.lq_pipeline.specs.declared.steps.Standing.TheVariants as stands
use Rattle.lq_pipeline.specs.declared.steps.Step.{Step}
use Rattle.lq_pipeline.proofs.HeadLemmas.{head_leaf, needs_whole, over_covered, over_leaf, start_runs}
use Rattle.lq_pipeline.proofs.PipeLemmas.{ended, passes_more, pulls_rows, stopped}

-- what was begun is a state
begun_by : (f : Form) (s : Standing) (leaf : Option (Base TableRow Reader)) → IsBegunBy f s leaf → IsStateBy f s leaf
begun_by f stands.New leaf begun = absurd begun
begun_by f (stands.Rows chain limit) leaf begun = begun
begun_by f (stands.Items items e) leaf begun = begun
begun_by f (stands.Over e) leaf begun = begun
begun_by f stands.Lost leaf begun = begun

pub begun_is_state : (f : Form) (opened : Opened) → IsBegun f opened → IsState f opened
begun_is_state f opened begun = begun_by f opened.standing opened.leaf begun

-- so is what was lost
pub lost_begun : (f : Form) (opened : Opened) → opened.standing ≡ stands.Lost → IsOfRows opened.leaf → IsBegun f opened
lost_begun f opened lost rows = subst (λ (s : Standing). IsBegunBy f s opened.leaf) (sym lost) rows

pub no_leaf : (leaf : Option (Base TableRow Reader)) → leaf ≡ None → IsOfRows leaf
no_leaf leaf none = subst IsOfRows (sym none) tt

module _ (world : World TableRow) (f : Form) where
  -- ---- the first pull

  -- a growth is refused before anything is run
  pub none_first : (e : AllocError) (log : List Call) (new : Opened) → new.standing ≡ stands.Lost → new.leaf ≡ None → PullsFirst world f log (Err e) new log
  none_first e log new lost none = record {
    front = [];
    goes = subst (λ (s : Standing). GoesFrom (Some (start_of world f)) (Err e) [] (place_by world f new.leaf s)) (sym lost) ((start_of world f).needs.due 1, refl);
    count = ap handed_by none;
    calls = subst (λ (b : Bool). AddsIf world b row_facts f [] log log) (sym (start_runs world f)) (λ seen pass others. grown_none world row_facts (watch_of seen f) log);
  }

  -- of a form that is run whole
  module _ (whole : leaf_below f ≡ None) (log more : List Call) (adds : AddsOwnCalls world row_facts f [] log more) (new : Opened) (none : new.leaf ≡ None) where
    adds_whole : AddsFrom world (Some (start_of world f)) row_facts f [] log more
    adds_whole = subst (λ (b : Bool). AddsIf world b row_facts f [] log more) (sym (start_runs world f))
        (λ seen pass others. adds seen (subst (λ (o : Option ℕ). OthersPass world o (watch_of seen f) f) whole others) refl)

    pub whole_refused : (e : AllocError) → new.standing ≡ stands.Lost → PullsFirst world f log (Err e) new more
    whole_refused e lost = record {
      front = [];
      goes = subst (λ (s : Standing). GoesFrom (Some (start_of world f)) (Err e) [] (place_by world f new.leaf s)) (sym lost) ((start_of world f).needs.due 1, refl);
      count = ap handed_by none;
      calls = adds_whole;
    }

    pub whole_found : (found : Result (Value TableRow) Fault) (answer : Step TableRow) → found ≡ form_meaning world f [] → GivesOn world f (items_of_result found) answer new
        → PullsFirst world f log (Ok answer) new more
    whole_found found answer means gives = record {
      front = [];
      goes = subst (λ (p : Option (Place TableRow)). GoesFrom (Some (start_of world f)) (Ok answer) [] p) (sym gives.1)
          (record {
            items = subst (λ (s : Stream (Value TableRow)). Gives s answer gives.0) (ap items_of_result means) gives.2;
            rows = λ k. ap (λ (needs : Needs TableRow). needs.due (suc k)) (needs_whole world f whole);
            all = ap (λ (needs : Needs TableRow). needs.all) (needs_whole world f whole);
            none = refl;
            runs = stopped (start_of world f);
            over = ended answer;
          });
      count = ap handed_by none;
      calls = adds_whole;
    }

  -- of a head over a chain
  pub first_pulls : (above : Head) (a : Form) (n : ℕ) → IsHeadOver f above a → leaf_of a ≡ Some n → (other : World TableRow) → other ≡ world → (log : List Call)
      (answer : Result (Step TableRow) AllocError) (new : Opened) (more : List Call)
      → Pulled other row_facts (covers_beside other f) (start_of other f) 0 log answer (place_of other f new) (handed_by new.leaf) more
      → PullsFirst world f log answer new more
  first_pulls above a n is leaf other same log answer new more pulled =
      pulls_rows world f n (head_leaf f above a is n leaf) (start_of world f) (start_runs world f) 0 log answer (place_of world f new) (handed_by new.leaf) more
      (subst (λ (w : World TableRow). Pulled w row_facts (covers_beside w f) (start_of w f) 0 log answer (place_of w f new) (handed_by new.leaf) more) same pulled)

  -- ---- further pulls

  -- nothing was pulled before
  pub new_pulls : (old new : Opened) → old.standing ≡ stands.New → IsState f old → (log : List Call) (answer : Result (Step TableRow) AllocError) (more : List Call)
      → PullsFirst world f log answer new more → IsBegun f new → PullsState world f old log answer new more
  new_pulls old new is ready log answer more pulls begun =
      let none = subst (λ (s : Standing). IsStateBy f s old.leaf) is ready in (
        subst (λ (p : Option (Place TableRow) × ℕ). Pulls world row_facts f p.0 p.1 log answer (place_of world f new) (handed_by new.leaf) more)
            (λ i. (place_by world f old.leaf (sym is i), handed_by (sym none i))) pulls,
        begun_is_state f new begun,
      )

  rows_run : (chain : Form) (limit : Option ℕ) (leaf : Option (Base TableRow Reader)) → (rows_place world chain limit leaf).needs.runs 0 ≡ true
  rows_run chain limit None = refl
  rows_run chain limit (Some base) = refl

  -- rows of a chain are pulled
  pub rows_pull : (old new : Opened) (chain : Form) (limit : Option ℕ) → IsOver f chain → place_of world f old ≡ Some (rows_place world chain limit old.leaf)
      → (log : List Call) (answer : Result (Step TableRow) AllocError) (more : List Call)
      → Pulled world row_facts (covers_chain world chain) (rows_place world chain limit old.leaf) (handed_by old.leaf) log answer (place_of world f new) (handed_by new.leaf) more
      → IsBegun f new → PullsState world f old log answer new more
  rows_pull old new chain limit (n, leaf, over) at log answer more pulled begun = (
    subst (λ (p : Option (Place TableRow)). Pulls world row_facts f p (handed_by old.leaf) log answer (place_of world f new) (handed_by new.leaf) more) (sym at)
        (pulls_rows world f n (over_leaf f chain n leaf over) (rows_place world chain limit old.leaf) (rows_run chain limit old.leaf) (handed_by old.leaf) log answer
        (place_of world f new) (handed_by new.leaf) more
        (passes_more world f row_facts (covers_beside world f) (covers_chain world chain) (over_covered world f chain n leaf over)
        (rows_place world chain limit old.leaf) (handed_by old.leaf) log answer (place_of world f new) (handed_by new.leaf) more pulled)),
    begun_is_state f new begun,
  )

  -- items that are there are given, or their end
  pub given_pulls : (old new : Opened) (s : Stream (Value TableRow)) → place_of world f old ≡ Some (standing s) → (log : List Call) (answer : Step TableRow)
      → GivesOn world f s answer new → new.leaf ≡ old.leaf → IsBegun f new → PullsState world f old log (Ok answer) new log
  given_pulls old new s at log answer gives same begun = (
    subst (λ (p : Option (Place TableRow)). Pulls world row_facts f p (handed_by old.leaf) log (Ok answer) (place_of world f new) (handed_by new.leaf) log) (sym at)
        (record {
          front = [];
          goes = subst (λ (p : Option (Place TableRow)). GoesOn (standing s) (Ok answer) [] p) (sym gives.1)
              (record { items = gives.2; rows = λ k. refl; all = refl; none = refl; runs = stopped (standing s); over = ended answer });
          count = ap handed_by same;
          calls = refl;
        }),
    begun_is_state f new begun,
  )

  -- or nothing is known any more
  pub lost_pulls : (old new : Opened) → old.standing ≡ stands.Lost → new.standing ≡ stands.Lost → new.leaf ≡ old.leaf → IsState f old → (log : List Call) (e : AllocError)
      → PullsState world f old log (Err e) new log
  lost_pulls old new lost still same ready log e =
      let rows : IsOfRows old.leaf = subst (λ (s : Standing). IsStateBy f s old.leaf) lost ready in (
        subst (λ (p : Option (Place TableRow)). Pulls world row_facts f p (handed_by old.leaf) log (Err e) (place_of world f new) (handed_by new.leaf) log)
            (sym (ap (place_by world f old.leaf) lost))
            (record { front = []; goes = (refl, ap (place_by world f new.leaf) still); count = ap handed_by same; calls = refl }),
        begun_is_state f new (lost_begun f new still (subst IsOfRows (sym same) rows)),
      )
