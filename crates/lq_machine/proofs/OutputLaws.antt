-- Lemmas on runs over lines, on replies joined, and on output that is cut short.
use Rattle.std.proofs.Common.{◌≡◌, ◌+◌, ℕ, List, [], ◌∷◌, ◌++◌, refl, sym, ◌∙◌, ap, subst, append_assoc, append-nil, arith}
use Rattle.lq_host.specs.declared.call.Call.{Call}
use Rattle.lq_machine.specs.Machine.{Reply}
use Rattle.lq_machine.specs.States.{State}
use Rattle.lq_machine.specs.Output.{Answers, Runs, bytes_of, joined, one_if_some, count_of_replies, IsCutOff}

-- a step after a run is a run over one more line
pub Runs-more : (old mid new : State) (lines : List (List ℕ)) (replies : List Reply) (line : List ℕ) (reply : Reply)
    → (calls stretch : List Call) → Runs old lines replies calls mid → Answers mid line reply stretch new
    → Runs old (lines ++ line ∷ []) (replies ++ reply ∷ []) (calls ++ stretch) new
Runs-more old mid new [] [] line reply calls stretch run step =
    (new, stretch, [], ap (λ c. c ++ stretch) run.1 ∙ sym (append-nil stretch), subst (λ s. Answers s line reply stretch new) run.0 step, (refl, refl))
Runs-more old mid new [] (r ∷ rs) line reply calls stretch run step = absurd run
Runs-more old mid new (l ∷ ls) [] line reply calls stretch run step = absurd run
Runs-more old mid new (l ∷ ls) (r ∷ rs) line reply calls stretch run step =
    (run.0, run.1, run.2 ++ stretch, ap (λ c. c ++ stretch) run.3 ∙ append_assoc run.1 run.2 stretch, run.4, Runs-more run.0 mid new ls rs line reply run.2 stretch run.5 step)

pub joined-more : (replies : List Reply) (reply : Reply) → joined (replies ++ reply ∷ []) ≡ joined replies ++ bytes_of reply
joined-more [] reply = append-nil (bytes_of reply)
joined-more (r ∷ rs) reply = ap (λ bytes. bytes_of r ++ bytes) (joined-more rs reply) ∙ sym (append_assoc (bytes_of r) (joined rs) (bytes_of reply))

pub count_of_replies-more : (replies : List Reply) (reply : Reply)
    → count_of_replies (replies ++ reply ∷ []) ≡ count_of_replies replies + one_if_some reply
count_of_replies-more [] reply = omega arith
count_of_replies-more (r ∷ rs) reply = omega (arith, count_of_replies-more rs reply)

-- whole replies, and then a front of one more
pub IsCutOff-more : (replies : List Reply) (reply : Reply) (part left : List ℕ)
    → bytes_of reply ≡ part ++ left → IsCutOff (replies ++ reply ∷ []) (joined replies ++ part)
IsCutOff-more [] reply part left e = (left, e)
IsCutOff-more (r ∷ []) reply part left e = (part, ap (λ bytes. bytes ++ part) (append-nil (bytes_of r)), (left, e))
IsCutOff-more (r ∷ s ∷ more) reply part left e =
    (joined (s ∷ more) ++ part, append_assoc (bytes_of r) (joined (s ∷ more)) part, IsCutOff-more (s ∷ more) reply part left e)

-- replies of which none is cut short
pub IsCutOff-whole : (replies : List Reply) → IsCutOff replies (joined replies)
IsCutOff-whole [] = refl
IsCutOff-whole (r ∷ []) = ([], sym (append-nil (bytes_of r ++ []) ∙ append-nil (bytes_of r)))
IsCutOff-whole (r ∷ s ∷ more) = (joined (s ∷ more), refl, IsCutOff-whole (s ∷ more))
