-- The reply of a stream whose items are pushed until it stops is the one that is served of the stream.
use Rattle.std.proofs.Common.{◌≡◌, ◌∷◌, ◌++◌, ◌∙◌, List, [], ℕ, true, false, Option, Some, None, Result, Ok, Err, ap, append-nil, append_assoc, subst, sym, true≢false}
use Rattle.serde_json.specs.Data.{Data, object}
use Rattle.lq_value.specs.declared.scalar.Scalar.{Scalar}
use Rattle.lq_value.specs.declared.table.Schema.{Schema}
use Rattle.lq_value.specs.declared.ty.Ty.{Ty}
use Rattle.lq_value.specs.declared.value.End.{End}
use Rattle.lq_value.specs.declared.value.End.TheVariants as end
use Rattle.lq_value.specs.declared.value.Fault.{Fault}
use Rattle.lq_value.specs.declared.value.Value.{Value}
use Rattle.lq_language.specs.Stream.{Stream, one, then_stream}
use Rattle.lq_machine.specs.Served.{line_of, served_item, served_stream, stream_data, stream_members}
use Rattle.lq_machine.specs.States.{schemas_of}
use Rattle.lq_sink.specs.Draining.{Drains, OnFlow}
use Rattle.lq_sink.specs.declared.sinks.Flow.{Flow}
use Rattle.lq_sink.specs.declared.sinks.Flow.TheVariants as flow
use Rattle.lq_json.specs.Pushing.{HasPushed, IsOfSame, IsReplyOf, Pushes, PushesBy, cut_of, ending, has_memory}
use Rattle.lq_json.specs.declared.pushing.Items.{Items}
use Rattle.lq_json.specs.declared.pushing.Cut.{Cut}
use Rattle.lq_json.specs.declared.pushing.Cut.TheVariants as cut

module _ {R : Type 0} (cells_of : R → List Scalar) (schemas : List Schema) (t : Ty) where
  -- a reply of values of the type, which has these items so far and hasn't stopped
  pub record IsOpen (items : Items) (ds : List Data) : Type 0 where
    pub holds : HasPushed items ds
    pub goes_on : cut_of items ≡ None
    pub of : IsReplyOf schemas t items

  -- it ends with these items, and so
  record Ends (items : Items) (answer : End) (s : Stream Data) : Type 0 where
    holds : HasPushed items s.0
    ends : ending items.cut answer ≡ s.1

  -- items behind others
  abbrev behind : List Data → Stream Data → Stream Data
  behind ds s = (ds ++ s.0, s.1)

  -- what is served of a value, and of a stream that it is in front of
  abbrev served : Value R → Result Data Fault
  served = served_item schemas cells_of t

  abbrev all_served : List (Value R) → End → Stream Data
  all_served xs e = served_stream schemas cells_of t (xs, e)

  in_same : (items : Items) (ds : List Data) (v : Value R) → IsOpen items ds → served_item (schemas_of items.store.now) cells_of items.ty.now v ≡ served v
  in_same items ds v going = ap (λ (ss : List Schema). served_item ss cells_of items.ty.now v) going.of.0 ∙ ap (λ (u : Ty). served_item schemas cells_of u v) going.of.1

  memory_held : (final middle : Items) → final ≡ middle → middle.cut ≡ Some cut.Memory → has_memory (cut_of final) ≡ true
  memory_held final middle is held = ap (λ (i : Items). has_memory i.cut) is ∙ ap has_memory held

  ends_as : (final middle : Items) (answer : End) (s : Stream Data) → final ≡ middle → Ends middle answer s → Ends final answer s
  ends_as final middle answer s is ends = subst (λ (i : Items). Ends i answer s) (sym is) ends

  -- one more is pushed, by what is served of it
  one_pushed : (o : Result Data Fault) (said : Flow) (rest : Stream Data) (Further : Type 0) (old middle final : Items) (answer : End) (ds : List Data)
      → IsOpen old ds → IsOfSame old middle → PushesBy None o old said middle → OnFlow said Further ((answer ≡ end.Done) × (final ≡ middle))
      → ((es : List Data) → IsOpen middle es → Further → Ends final answer (behind es rest))
      → has_memory (cut_of final) ≡ false → Ends final answer (behind ds (then_stream (one o) rest))
  one_pushed (Err f) said rest Further old middle final answer ds going same pushed on more whole =
      let stops : (answer ≡ end.Done) × (final ≡ middle) = subst (λ (s : Flow). OnFlow s Further ((answer ≡ end.Done) × (final ≡ middle))) pushed.0 on in
      ends_as final middle answer (ds ++ [], end.Fault f) stops.1
      (record {
        holds = subst (λ (l : List Data). HasPushed middle l) (sym (append-nil ds)) (pushed.2 ds going.holds);
        ends = ap (λ (s : Option Cut). ending s answer) pushed.1;
      })
  one_pushed (Ok d) flow.Go rest Further old middle final answer ds going same pushed on more whole =
      subst (λ (l : List Data). Ends final answer (l, rest.1)) (append_assoc ds (d ∷ []) rest.0)
      (more (ds ++ d ∷ [])
      (record {
        holds = pushed.1 ds going.holds;
        goes_on = pushed.0;
        of = (ap (λ s. schemas_of s.now) same.1 ∙ going.of.0, ap (λ t. t.now) same.0 ∙ going.of.1);
      }) on)
  one_pushed (Ok d) flow.Stop rest Further old middle final answer ds going same pushed on more whole =
      absurd (true≢false (sym (memory_held final middle on.1 pushed) ∙ whole))

  -- what is drained into a reply that goes on ends as what is served
  drained_ends : (xs : List (Value R)) (e answer : End) (old final : Items) (ds : List Data) → IsOpen old ds → Drains (Pushes cells_of) xs e old answer final
      → has_memory (cut_of final) ≡ false → Ends final answer (behind ds (all_served xs e))
  drained_ends [] e answer old final ds going drains whole =
      ends_as final old answer (ds ++ [], e) drains.1
      (record {
        holds = subst (λ (l : List Data). HasPushed old l) (sym (append-nil ds)) going.holds;
        ends = ap (λ (s : Option Cut). ending s answer) going.goes_on ∙ drains.0;
      })
  drained_ends (x ∷ xs) e answer old final ds going drains whole =
      one_pushed (served x) drains.0 (all_served xs e) (Drains (Pushes cells_of) xs e drains.1 answer final) old drains.1 final answer ds going drains.2.0
      (subst (λ (o : Result Data Fault). PushesBy None o old drains.0 drains.1) (in_same old ds x going)
      (subst (λ (s : Option Cut). PushesBy s (served_item (schemas_of old.store.now) cells_of old.ty.now x) old drains.0 drains.1) going.goes_on drains.2.1))
      drains.3
      (λ (es : List Data) going' further. drained_ends xs e answer drains.1 final es going' further whole)
      whole

  -- and so its line is the one that is served
  pub drained_line : (s : Stream (Value R)) (answer : End) (start final : Items) (line : List ℕ) → IsOpen start []
      → Drains (Pushes cells_of) s.0 s.1 start answer final → has_memory (cut_of final) ≡ false
      → ((ds : List Data) → HasPushed final ds → line ≡ line_of (object (stream_members ds (ending (cut_of final) answer))))
      → line ≡ line_of (stream_data schemas cells_of t s)
  drained_line s answer start final line going drains whole is =
      let ends = drained_ends s.0 s.1 answer start final [] going drains whole in
      is (all_served s.0 s.1).0 ends.holds
      ∙ ap (λ (e : End). line_of (object (stream_members (all_served s.0 s.1).0 e))) ends.ends
