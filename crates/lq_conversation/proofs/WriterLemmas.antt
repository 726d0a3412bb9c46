-- Lemmas on what a writer takes.
use Rattle.std.proofs.Common.{◌≡◌, ◌↔◌, ℕ, Bool, true, false, List, [], ◌++◌, Option, Result, Ok, Err, IsErr, IfOk, OnOk, OnErr, refl, sym, subst, append-nil}
use Rattle.std.specs.Io.KnownBytes.{Appends, Keeps}
use Rattle.std.proofs.KnownBytes.{Appends-kept, Appends-nil, Appends-trans}
use Rattle.lq_serve.specs.Devices.{AppendsFront}
use Rattle.lq_serve.specs.declared.serve_error.WriteFailed.{WriteFailed}
use Rattle.lq_conversation.specs.Outcomes.{Outcome, Tells, has_failed, outcome_of}
use Rattle.lq_conversation.specs.Writers.{IsCutShort, Receives}

-- what is known anyway is known of a result
pub on_ok : {T E P : Type 0} (r : Result T E) → P → OnOk r P
on_ok (Ok x) p = p
on_ok (Err e) p = tt

pub on_err : {T E P : Type 0} (r : Result T E) → P → OnErr r P
on_err (Ok x) p = tt
on_err (Err e) p = p

-- a writer that marks exactly its failures
pub ok_unmarked : {T E : Type 0} (r : Result T E) (failed : Bool) → (IsErr r ↔ (failed ≡ true)) → OnOk r (failed ≡ false)
ok_unmarked (Ok x) false marked = refl
ok_unmarked (Ok x) true marked = let never : false ≡ true = marked.1 refl in cc
ok_unmarked (Err e) failed marked = tt

pub err_marked : {T E : Type 0} (r : Result T E) (failed : Bool) → (IsErr r ↔ (failed ≡ true)) → OnErr r (failed ≡ true)
err_marked (Ok x) failed marked = tt
err_marked (Err e) failed marked = marked.0 refl

-- the same of a result that is this one
pub unmarked_by_ok : {T E : Type 0} (r : Result T E) (failed : Bool) (x : T) → r ≡ Ok x → (IsErr r ↔ (failed ≡ true)) → failed ≡ false
unmarked_by_ok r failed x is marked = subst (λ o. OnOk o (failed ≡ false)) is (ok_unmarked r failed marked)

pub marked_by_err : {T E : Type 0} (r : Result T E) (failed : Bool) (e : E) → r ≡ Err e → (IsErr r ↔ (failed ≡ true)) → failed ≡ true
marked_by_err r failed e is marked = subst (λ o. OnErr o (failed ≡ true)) is (err_marked r failed marked)

-- all the bytes were taken before the writer failed
pub AppendsFront-kept : (before between after : Option (List ℕ)) (bytes : List ℕ) → Appends before between bytes → Keeps between after → AppendsFront before after bytes
AppendsFront-kept before between after bytes written kept = record {
  front = bytes;
  left = [];
  split = sym (append-nil bytes);
  written = Appends-kept before between after bytes written kept;
}

-- nothing was written
pub Receives-none : {P : List ℕ → Type 0} (known : Option (List ℕ)) → P [] → Receives known known P
Receives-none known meant = record { bytes = []; took = Appends-nil known; is_meant = meant }

-- a front of some bytes was written, of which something is said
pub Receives-front : (P : List ℕ → Type 0) (before after : Option (List ℕ)) (bytes : List ℕ) → AppendsFront before after bytes → P bytes → Receives before after (IsCutShort P)
Receives-front P before after bytes wrote meant = record {
  bytes = wrote.front;
  took = wrote.written;
  is_meant = (wrote.left, subst P wrote.split meant);
}

pub Receives-weaker : {P Q : List ℕ → Type 0} (before after : Option (List ℕ)) → ((bytes : List ℕ) → P bytes → Q bytes) → Receives before after P → Receives before after Q
Receives-weaker before after weaker received = record { bytes = received.bytes; took = received.took; is_meant = weaker received.bytes received.is_meant }

-- some bytes were written, and then others
pub Receives-more : {P Q S : List ℕ → Type 0} (before between after : Option (List ℕ)) → ((first later : List ℕ) → P first → Q later → S (first ++ later))
    → Receives before between P → Receives between after Q → Receives before after S
Receives-more before between after joins first later = record {
  bytes = first.bytes ++ later.bytes;
  took = Appends-trans before between after first.bytes later.bytes first.took later.took;
  is_meant = joins first.bytes later.bytes first.is_meant later.is_meant;
}

-- ---- results

-- what a call that is the last one leaves
module _ (P Q : List ℕ → Outcome → Type 0) (before between after : Option (List ℕ)) (r : Result Bool WriteFailed)
    (leads : (outcome : Outcome) → Receives between after (λ bytes. P bytes outcome) → Receives before after (λ bytes. Q bytes outcome)) where
  pub each_ok : IfOk r (λ ends. Receives between after (λ bytes. P bytes (outcome_of ends))) → IfOk r (λ ends. Receives before after (λ bytes. Q bytes (outcome_of ends)))
  each_ok = elim r as (λ r. IfOk r (λ ends. Receives between after (λ bytes. P bytes (outcome_of ends))) → IfOk r (λ ends. Receives before after (λ bytes. Q bytes (outcome_of ends)))) [ Ok ends ↦ leads (outcome_of ends) | Err e ↦ λ h. tt ]

  pub each_err : OnErr r (Receives between after (λ bytes. P bytes has_failed)) → OnErr r (Receives before after (λ bytes. Q bytes has_failed))
  each_err = elim r as (λ r. OnErr r (Receives between after (λ bytes. P bytes has_failed)) → OnErr r (Receives before after (λ bytes. Q bytes has_failed))) [ Ok ends ↦ λ h. tt | Err e ↦ leads has_failed ]

-- a sentence was written
pub tells_front : {T E : Type 0} (r : Result T E) (before after : Option (List ℕ)) (text : List ℕ) → OnErr r (AppendsFront before after text)
    → OnErr r (Receives before after (λ bytes. Tells text bytes has_failed))
tells_front (Ok x) before after text wrote = tt
tells_front (Err e) before after text wrote = record { bytes = wrote.front; took = wrote.written; is_meant = (wrote.left, wrote.split) }

pub outcome_is : (P : List ℕ → Outcome → Type 0) (before after : Option (List ℕ)) (ends is : Bool) → ends ≡ is
    → Receives before after (λ bytes. P bytes (outcome_of ends)) → Receives before after (λ bytes. P bytes (outcome_of is))
outcome_is P before after ends is same received = subst (λ e. Receives before after (λ bytes. P bytes (outcome_of e))) same received
