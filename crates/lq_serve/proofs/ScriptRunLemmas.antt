-- Lemmas on lines that are stepped in turn while their replies are written.
use Rattle.std.proofs.Common.{◌≡◌, ◌+◌, ℕ, List, [], ◌∷◌, ◌++◌, Option, refl, sym, ◌∙◌, subst, ap, append_assoc, append-nil, length-append, arith}
use Rattle.std.specs.Io.KnownBytes.{Appends, Keeps}
use Rattle.std.proofs.KnownBytes.{Appends-nil, Appends-trans, Appends-kept}
use Rattle.lq_host.specs.Hosts.{Hosts}
use Rattle.lq_host.specs.declared.call.Call.{Call}
use Rattle.lq_machine.specs.States.{State}
use Rattle.lq_machine.specs.Output.{joined}
use Rattle.lq_machine.proofs.OutputLaws.{Runs-more, joined-more, count_of_replies-more, IsCutOff-more, IsCutOff-whole}
use Rattle.lq_session.specs.Calls.{Logs}
use Rattle.lq_serve.specs.ScriptRun.{LineServed, LineServedInPart, LinesServed, Stopped}
use Rattle.lq_serve.specs.declared.script_run.Summary.{Summary}

-- what is logged behind what was logged
logged_more : (old now new : Hosts) (calls more : List Call) → Logs old calls now → Logs now more new → Logs old (calls ++ more) new
logged_more old now new calls more first next =
    (next.0 ∙ ap (λ (log : List Call). log ++ more) first.0 ∙ append_assoc old.calls calls more, next.1 ∙ first.1)

-- the lines before rest were stepped, and their replies written
pub record UnderWay (lines rest : List (List ℕ)) (old now : State) (hosts hosts_now : Hosts) (before after : Option (List ℕ)) (summary : Summary) : Type 0 where
  pub front : List (List ℕ)
  pub split : lines ≡ front ++ rest
  pub so_far : LinesServed front old now hosts hosts_now before after summary

pub UnderWay-start : (lines : List (List ℕ)) (old : State) (hosts : Hosts) (before : Option (List ℕ))
    → UnderWay lines lines old old hosts hosts before before (record { lines = 0; replies = 0 })
UnderWay-start lines old hosts before = record {
  front = [];
  split = refl;
  so_far = record {
    replies = [];
    calls = [];
    logged = (sym (append-nil hosts.calls), refl);
    run = (refl, refl);
    written = Appends-nil before;
    lines = refl;
    count = refl;
  };
}

pub UnderWay-more : (lines rest : List (List ℕ)) (line : List ℕ) (old now new : State) (hosts hosts_now hosts_after : Hosts)
    (before between after : Option (List ℕ)) (summary : Summary) (count : ℕ)
    → UnderWay lines (line ∷ rest) old now hosts hosts_now before between summary → LineServed line now new hosts_now hosts_after between after count
    → UnderWay lines rest old new hosts hosts_after before after (record { lines = summary.lines + 1; replies = summary.replies + count })
UnderWay-more lines rest line old now new hosts hosts_now hosts_after before between after summary count way served = record {
  front = way.front ++ line ∷ [];
  split = way.split ∙ sym (append_assoc way.front (line ∷ []) rest);
  so_far = record {
    replies = way.so_far.replies ++ served.reply ∷ [];
    calls = way.so_far.calls ++ served.answer.calls;
    logged = logged_more hosts hosts_now hosts_after way.so_far.calls served.answer.calls way.so_far.logged served.answer.logged;
    run = Runs-more old now new way.front way.so_far.replies line served.reply way.so_far.calls served.answer.calls way.so_far.run served.answer.answer;
    written = subst (Appends before after) (sym (joined-more way.so_far.replies served.reply))
        (Appends-trans before between after _ _ way.so_far.written served.written);
    lines = omega (arith, way.so_far.lines, length-append way.front (line ∷ []));
    count = omega (arith, way.so_far.count, served.counted, count_of_replies-more way.so_far.replies served.reply);
  };
}

-- the writer failed over the line's reply
pub UnderWay-stopped : (lines rest : List (List ℕ)) (line : List ℕ) (old now new : State) (hosts hosts_now hosts_after : Hosts)
    (before between after : Option (List ℕ)) (summary : Summary)
    → UnderWay lines (line ∷ rest) old now hosts hosts_now before between summary → LineServedInPart line now new hosts_now hosts_after between after
    → Stopped lines old new hosts hosts_after before after
UnderWay-stopped lines rest line old now new hosts hosts_now hosts_after before between after summary way served = record {
  front = way.front ++ line ∷ [];
  rest = rest;
  split = way.split ∙ sym (append_assoc way.front (line ∷ []) rest);
  replies = way.so_far.replies ++ served.reply ∷ [];
  calls = way.so_far.calls ++ served.answer.calls;
  logged = logged_more hosts hosts_now hosts_after way.so_far.calls served.answer.calls way.so_far.logged served.answer.logged;
  run = Runs-more old now new way.front way.so_far.replies line served.reply way.so_far.calls served.answer.calls way.so_far.run served.answer.answer;
  bytes = joined way.so_far.replies ++ served.written.front;
  cut = IsCutOff-more way.so_far.replies served.reply served.written.front served.written.left served.written.split;
  written = Appends-trans before between after _ _ way.so_far.written served.written.written;
}

-- the writer failed as it was flushed
pub UnderWay-unflushed : (lines : List (List ℕ)) (old now : State) (hosts hosts_now : Hosts) (before between after : Option (List ℕ)) (summary : Summary)
    → UnderWay lines [] old now hosts hosts_now before between summary → Keeps between after → Stopped lines old now hosts hosts_now before after
UnderWay-unflushed lines old now hosts hosts_now before between after summary way kept = record {
  front = way.front;
  rest = [];
  split = way.split;
  replies = way.so_far.replies;
  calls = way.so_far.calls;
  logged = way.so_far.logged;
  run = way.so_far.run;
  bytes = joined way.so_far.replies;
  cut = IsCutOff-whole way.so_far.replies;
  written = Appends-kept before between after _ way.so_far.written kept;
}

-- every line was stepped, and the writer flushed
pub UnderWay-done : (lines : List (List ℕ)) (old now : State) (hosts hosts_now : Hosts) (before between after : Option (List ℕ)) (summary : Summary)
    → UnderWay lines [] old now hosts hosts_now before between summary → Keeps between after → LinesServed lines old now hosts hosts_now before after summary
UnderWay-done lines old now hosts hosts_now before between after summary way kept =
    let all : lines ≡ way.front = way.split ∙ append-nil way.front in
    subst (λ l. LinesServed l old now hosts hosts_now before after summary) (sym all) (record {
      replies = way.so_far.replies;
      calls = way.so_far.calls;
      logged = way.so_far.logged;
      run = way.so_far.run;
      written = Appends-kept before between after _ way.so_far.written kept;
      lines = way.so_far.lines;
      count = way.so_far.count;
    })
