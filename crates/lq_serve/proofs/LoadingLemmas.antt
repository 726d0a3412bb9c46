-- Tables that come one file after another.
use Rattle.std.proofs.Common.{◌≡◌, ◌≢◌, ℕ, List, [], ◌∷◌, ◌++◌, Option, Some, None, Result, Ok, Err, IfSome, length, take, map, refl, sym, ◌∙◌, ap, subst, append_assoc, append-nil, arith, get_or}
use Rattle.std.proofs.Common.{◌<◌, suc, zero, drop, true, false}
use Rattle.lq_value.specs.Tables.{Table}
use Rattle.lq_store.specs.Calls.{addition_refusal_of, unless_memory}
use Rattle.lq_store.specs.declared.error.StoreError.{StoreError}
use Rattle.lq_store.specs.declared.error.StoreError.TheVariants as store
use Rattle.lq_grammar.specs.Tokens.{is_name}
use Rattle.lq_serve.specs.declared.file_fault.FileFault.{FileFault}
use Rattle.lq_serve.specs.declared.file_fault.FileFault.TheVariants as fault
use Rattle.lq_serve.specs.declared.files.FileRead.{FileRead}
use Rattle.lq_serve.specs.declared.start_error.StartError.{StartError}
use Rattle.lq_serve.specs.declared.start_error.StartError.TheVariants as start
use Rattle.lq_serve.specs.Files.{Adds, AddsFront, first_bytes}
use Rattle.lq_serve.specs.Loading.{Abandoned, Agrees, AllAgree, Answered, Loaded, Refused, RefusedBy, TellsOf, Visit, fault_line, fault_of_store, next_or_line, read_limit, readings_of, readings_of_one, table_in, table_name, table_read, with_files, with_table}

-- ---- reads that were answered

pub Adds-nil : (known : Option (List FileRead)) → Adds known known []
Adds-nil None = tt
Adds-nil (Some known) = sym (append-nil known)

pub Adds-behind : (before between after : Option (List FileRead)) (first more : List FileRead) → Adds before between first → Adds between after more
    → Adds before after (first ++ more)
Adds-behind None between after first more a b = tt
Adds-behind (Some known) None after first more a b = absurd a
Adds-behind (Some known) (Some now) None first more a b = absurd b
Adds-behind (Some known) (Some now) (Some last) first more a b = b ∙ ap (λ (l : List FileRead). l ++ more) a ∙ append_assoc known first more

pub AddsFront-all : (before after : Option (List FileRead)) (more : List FileRead) → Adds before after more → AddsFront before after more
AddsFront-all before after more added = record { front = more; left = []; split = sym (append-nil more); added = added }

pub AddsFront-none : (before after : Option (List FileRead)) (more : List FileRead) → Adds before after [] → AddsFront before after more
AddsFront-none before after more added = record { front = []; left = more; split = refl; added = added }

pub AddsFront-behind : (before between after : Option (List FileRead)) (first more : List FileRead) → Adds before between first → AddsFront between after more
    → AddsFront before after (first ++ more)
AddsFront-behind before between after first more a b = record {
  front = first ++ b.front;
  left = b.left;
  split = ap (λ (l : List FileRead). first ++ l) b.split ∙ sym (append_assoc first b.front b.left);
  added = Adds-behind before between after first b.front a b.added;
}

pub Answered-all : {A : Type 0} (result : Result A FileFault) (before after : Option (List FileRead)) (more : List FileRead) → Adds before after more
    → Answered result before after more
Answered-all result before after more added = record { all = λ ne. added; some = AddsFront-all before after more added }

-- whatever comes of the bytes that were read
pub Answered-then : {A B : Type 0} (x : A) (result : Result B FileFault) (before after : Option (List FileRead)) (more : List FileRead)
    → Answered {A = A} (Ok x) before after more → Answered result before after more
Answered-then x result before after more answered = Answered-all result before after more (answered.all (λ e. cc e))

-- the same fault
pub Answered-fault : {A B : Type 0} (found : FileFault) (before after : Option (List FileRead)) (more : List FileRead)
    → Answered {A = A} (Err found) before after more → Answered {A = B} (Err found) before after more
Answered-fault {A} {B} found before after more answered =
    record { all = λ ne. answered.all (λ e. let same : found ≡ fault.Memory = cc e in ne (ap (λ f. Err f) same)); some = answered.some }

-- ---- files that were fine

pub Loaded-none : (holds : List ℕ → Option (Option (List ℕ))) (known : Option (List FileRead)) → Loaded holds known known [] []
Loaded-none holds known = record { visits = []; named = refl; agree = tt; read = Adds-nil known; loaded = refl }

all_agree-more : (holds : List ℕ → Option (Option (List ℕ))) (visits : List Visit) (visit : Visit) → AllAgree holds visits → Agrees holds visit
    → AllAgree holds (visits ++ visit ∷ [])
all_agree-more holds [] visit all one = (one, tt)
all_agree-more holds (first ∷ rest) visit all one = (all.0, all_agree-more holds rest visit all.1 one)

named-more : (visits : List Visit) (visit : Visit)
    → map (λ (v : Visit). v.file) (visits ++ visit ∷ []) ≡ map (λ (v : Visit). v.file) visits ++ visit.file ∷ []
named-more [] visit = refl
named-more (first ∷ rest) visit = ap (λ (l : List (List ℕ)). first.file ∷ l) (named-more rest visit)

readings_of-more : (visits : List Visit) (visit : Visit) → readings_of (visits ++ visit ∷ []) ≡ readings_of visits ++ readings_of_one visit
readings_of-more [] visit = append-nil (readings_of_one visit)
readings_of-more (first ∷ rest) visit =
    ap (λ (l : List FileRead). readings_of_one first ++ l) (readings_of-more rest visit)
    ∙ sym (append_assoc (readings_of_one first) (readings_of rest) (readings_of_one visit))

-- one more file is read after those that were fine
after_next : (file : List ℕ) (rest more : List Table → Result (List Table) (List ℕ)) (last : Result (List Table) (List ℕ)) (tables : List Table)
    (next : Result (List Table) FileFault) → ((now : List Table) → rest now ≡ Ok tables → more now ≡ last)
    → next_or_line rest file next ≡ Ok tables → next_or_line more file next ≡ last
after_next file rest more last tables (Ok now) step h = step now h
after_next file rest more last tables (Err found) step h = cc

with_files-more : (visits : List Visit) (visit : Visit) (before tables : List Table) → with_files visits before ≡ Ok tables
    → with_files (visits ++ visit ∷ []) before ≡ next_or_line (λ l. Ok l) visit.file (with_table tables (table_in visit))
with_files-more [] visit before tables e = let same : before ≡ tables = cc in rw same refl
with_files-more (first ∷ rest) visit before tables e =
    after_next first.file (with_files rest) (with_files (rest ++ visit ∷ [])) _ tables (with_table before (table_in first))
    (λ now h. with_files-more rest visit now tables h) e

-- ---- one file

pub table_in-unnamed : (file : List ℕ) (gave : Option (List ℕ)) → is_name (table_name file) ≡ false
    → table_in (record { file = file; gave = gave }) ≡ Err fault.Name
unfolding table_in
table_in-unnamed file gave e = rw e refl

pub table_in-named : (file : List ℕ) (gave : Option (List ℕ)) → is_name (table_name file) ≡ true
    → table_in (record { file = file; gave = gave }) ≡ table_read (table_name file) gave
unfolding table_in
table_in-named file gave e = rw e refl

pub read-failed : (file : List ℕ) (gave : Option (List ℕ)) (found : FileFault) → is_name (table_name file) ≡ true → found ≡ fault.Read → gave ≡ None
    → table_in (record { file = file; gave = gave }) ≡ Err found
read-failed file gave found named read none = table_in-named file gave named ∙ rw (none, read) refl

pub read-whole : (file : List ℕ) (gave : Option (List ℕ)) (bytes : List ℕ) → is_name (table_name file) ≡ true → gave ≡ Some bytes
    → table_in (record { file = file; gave = gave }) ≡ table_read (table_name file) (Some bytes)
read-whole file gave bytes named is = table_in-named file gave named ∙ rw is refl

pub with_table-added : (tables : List Table) (table : Table) (read : Result Table FileFault) → read ≡ Ok table → addition_refusal_of tables table ≡ None
    → with_table tables read ≡ Ok (tables ++ table ∷ [])
with_table-added tables table read is none = rw (is, none) refl

pub with_table-refused : (tables : List Table) (table : Table) (read : Result Table FileFault) (error : StoreError) → read ≡ Ok table
    → addition_refusal_of tables table ≡ unless_memory error → fault_of_store error ≢ fault.Memory → with_table tables read ≡ Err (fault_of_store error)
with_table-refused tables table read store.Memory is e ne = absurd (ne refl)
with_table-refused tables table read store.Arity is e ne = absurd (ne refl)
with_table-refused tables table read store.CellType is e ne = absurd (ne refl)
with_table-refused tables table read store.CellRange is e ne = absurd (ne refl)
with_table-refused tables table read store.Full is e ne = absurd (ne refl)
with_table-refused tables table read store.UnknownTable is e ne = absurd (ne refl)
with_table-refused tables table read store.DuplicateTable is e ne = rw (is, e) refl
with_table-refused tables table read store.TooMany is e ne = rw (is, e) refl

pub with_table-failed : (tables : List Table) (read : Result Table FileFault) (found : FileFault) → read ≡ Err found → with_table tables read ≡ Err found
with_table-failed tables read found is = rw is refl

pub readings_of_one-named : (file : List ℕ) (gave : Option (List ℕ)) → is_name (table_name file) ≡ true
    → record { file = file; limit = read_limit; gave = gave } ∷ [] ≡ readings_of_one (record { file = file; gave = gave })
readings_of_one-named file gave named = rw named refl

pub readings_of_one-unnamed : (file : List ℕ) (gave : Option (List ℕ)) → is_name (table_name file) ≡ false
    → [] ≡ readings_of_one (record { file = file; gave = gave })
readings_of_one-unnamed file gave unnamed = rw unnamed refl

-- ---- files in order

pub Agrees-same : (known now : List ℕ → Option (Option (List ℕ))) (file : List ℕ) (gave : Option (List ℕ)) → now file ≡ known file
    → Agrees now (record { file = file; gave = gave }) → Agrees known (record { file = file; gave = gave })
Agrees-same known now file gave e h = rw e at h

-- what the reading of a file would give where it is known
pub known_bytes : ℕ → Option (Option (List ℕ)) → Option (List ℕ)
known_bytes limit None = None
known_bytes limit (Some there) = first_bytes limit there

pub known_is : (limit : ℕ) (o : Option (Option (List ℕ))) → IfSome o (λ there. known_bytes limit o ≡ first_bytes limit there)
unfolding known_bytes
known_is limit None = tt
known_is limit (Some there) = refl

pub unreadable_is : (limit : ℕ) (o : Option (Option (List ℕ))) → IfSome o (λ there. there ≡ None) → IfSome o (λ there. None ≡ first_bytes limit there)
unreadable_is limit None h = tt
unreadable_is limit (Some there) h = rw h refl

pub Loaded-more : (holds : List ℕ → Option (Option (List ℕ))) (before now after : Option (List FileRead)) (files : List (List ℕ)) (tables next : List Table)
    (file : List ℕ) (gave : Option (List ℕ)) → Loaded holds before now files tables → Agrees holds (record { file = file; gave = gave })
    → Adds now after (readings_of_one (record { file = file; gave = gave })) → with_table tables (table_in (record { file = file; gave = gave })) ≡ Ok next
    → Loaded holds before after (files ++ file ∷ []) next
Loaded-more holds before now after files tables next file gave far agrees adds is =
    let visit : Visit = record { file = file; gave = gave } in
    record {
      visits = far.visits ++ visit ∷ [];
      named = named-more far.visits visit ∙ ap (λ (l : List (List ℕ)). l ++ file ∷ []) far.named;
      agree = all_agree-more holds far.visits visit far.agree agrees;
      read = subst (Adds before after) (sym (readings_of-more far.visits visit)) (Adds-behind before now after _ _ far.read adds);
      loaded = with_files-more far.visits visit [] tables far.loaded ∙ ap (λ (r : Result (List Table) FileFault). next_or_line (λ l. Ok l) file r) is;
    }

-- the files that were visited, among all of them
named-among : (files rest all : List (List ℕ)) (visits : List Visit) (visit : Visit) → map (λ (v : Visit). v.file) visits ≡ files
    → all ≡ files ++ visit.file ∷ rest → all ≡ map (λ (v : Visit). v.file) (visits ++ visit ∷ []) ++ rest
named-among files rest all visits visit named split =
    split ∙ sym (append_assoc files (visit.file ∷ []) rest) ∙ ap (λ (l : List (List ℕ)). (l ++ visit.file ∷ []) ++ rest) (sym named)
    ∙ ap (λ (l : List (List ℕ)). l ++ rest) (sym (named-more visits visit))

Loaded-refused : (holds : List ℕ → Option (Option (List ℕ))) (before now after : Option (List FileRead)) (files rest all : List (List ℕ)) (tables : List Table)
    (file : List ℕ) (gave : Option (List ℕ)) (found : FileFault) → Loaded holds before now files tables → Agrees holds (record { file = file; gave = gave })
    → Adds now after (readings_of_one (record { file = file; gave = gave })) → with_table tables (table_in (record { file = file; gave = gave })) ≡ Err found
    → all ≡ files ++ file ∷ rest → Refused holds before after all (fault_line file found)
Loaded-refused holds before now after files rest all tables file gave found far agrees adds is split =
    let visit : Visit = record { file = file; gave = gave } in
    record {
      visits = far.visits ++ visit ∷ [];
      unseen = rest;
      named = named-among files rest all far.visits visit far.named split;
      agree = all_agree-more holds far.visits visit far.agree agrees;
      read = subst (Adds before after) (sym (readings_of-more far.visits visit)) (Adds-behind before now after _ _ far.read adds);
      refused = with_files-more far.visits visit [] tables far.loaded ∙ ap (λ (r : Result (List Table) FileFault). next_or_line (λ l. Ok l) file r) is;
    }

Loaded-abandoned : (holds : List ℕ → Option (Option (List ℕ))) (before now after : Option (List FileRead)) (files rest all : List (List ℕ)) (tables : List Table)
    (file : List ℕ) (gave : Option (List ℕ)) → Loaded holds before now files tables → Agrees holds (record { file = file; gave = gave })
    → AddsFront now after (readings_of_one (record { file = file; gave = gave })) → all ≡ files ++ file ∷ rest → Abandoned holds before after all
Loaded-abandoned holds before now after files rest all tables file gave far agrees adds split =
    let visit : Visit = record { file = file; gave = gave } in
    record {
      visits = far.visits ++ visit ∷ [];
      unseen = rest;
      named = named-among files rest all far.visits visit far.named split;
      agree = all_agree-more holds far.visits visit far.agree agrees;
      read = subst (AddsFront before after) (sym (readings_of-more far.visits visit)) (AddsFront-behind before now after _ _ far.read adds);
    }

pub RefusedBy-fault : (holds : List ℕ → Option (Option (List ℕ))) (before now after : Option (List FileRead)) (files rest all : List (List ℕ))
    (tables : List Table) (file : List ℕ) (gave : Option (List ℕ)) (found : FileFault) (error : StartError)
    → Loaded holds before now files tables → Agrees holds (record { file = file; gave = gave })
    → Answered {A = Unit {0}} (Err found) now after (readings_of_one (record { file = file; gave = gave }))
    → (found ≢ fault.Memory → with_table tables (table_in (record { file = file; gave = gave })) ≡ Err found)
    → all ≡ files ++ file ∷ rest → TellsOf file found error → RefusedBy holds before after all error
RefusedBy-fault holds before now after files rest all tables file gave found start.Memory far agrees answered is split tells =
    Loaded-abandoned holds before now after files rest all tables file gave far agrees answered.some split
RefusedBy-fault holds before now after files rest all tables file gave found (start.Refused line) far agrees answered is split tells =
    let adds = answered.all (λ e. let same : found ≡ fault.Memory = cc e in tells.0 same) in
    subst (λ (l : List ℕ). Refused holds before after all l) (sym tells.1)
    (Loaded-refused holds before now after files rest all tables file gave found far agrees adds (is tells.0) split)

-- ---- the items of a list up to one of them

pub take-map-more : {A B : Type 0} (f : A → B) (items : List A) (place : ℕ) (item : A) → place < length items
    → map f (take (suc place) items) ≡ map f (take place items) ++ f (get_or items place item) ∷ []
take-map-more f [] place item below = absurd (omega (arith, below))
take-map-more f (x ∷ xs) zero item below = refl
take-map-more {A} {B} f (x ∷ xs) (suc n) item below = ap (λ (l : List B). f x ∷ l) (take-map-more f xs n item (omega (arith, below)))

pub map-split : {A B : Type 0} (f : A → B) (items : List A) (place : ℕ) (item : A) → place < length items
    → map f items ≡ map f (take place items) ++ f (get_or items place item) ∷ map f (drop (suc place) items)
map-split f [] place item below = absurd (omega (arith, below))
map-split f (x ∷ xs) zero item below = refl
map-split {A} {B} f (x ∷ xs) (suc n) item below = ap (λ (l : List B). f x ∷ l) (map-split f xs n item (omega (arith, below)))
