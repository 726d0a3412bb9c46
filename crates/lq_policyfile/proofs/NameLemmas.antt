-- Names in lists and in sets.
use Rattle.std.proofs.Common.{append_assoc, ◌+◌, ◌<◌, drop, get_or, length, ◌≡◌, ◌∷◌, ◌++◌, ◌&&◌, ◌||◌, if◌then◌else◌, not, List, [], map, ℕ, Bool, true, false, Bor, bytes_eq, codes, position, ap, ap₂, ◌∙◌, sym, refl, subst}
use Rattle.std.specs.List.{list_all, list_any, prefix_len}
use Rattle.std.proofs.lemmas.List.{append-nil, drop_more, length-map, map-append}
use Rattle.std.proofs.lemmas.List.Folds.{list_any-append}
use Rattle.std.proofs.Math.Bool.{and_assoc}
use Rattle.std.proofs.lemmas.Slice.Eq.{bytes_eq-Decides}
use Rattle.lq_value.specs.Tables.{Table}
use Rattle.lq_language.specs.declared.host_name.HostName.{HostName}
use Rattle.lq_policyfile.specs.Duplicates.{are_new}
use Rattle.lq_policyfile.specs.NameSets.{with_name, with_names}
use Rattle.lq_policyfile.specs.Names.{are_memberships_known, are_rules_known, is_addressee, is_among, is_entry_known, is_policy_known}
use Rattle.lq_policyfile.specs.declared.entry.FileEntries.{FileEntries}
use Rattle.lq_policyfile.specs.declared.entry.PolicyEntry.{PolicyEntry}
use Rattle.lq_policyfile.specs.declared.entry.RightEntry.{RightEntry}
use Rattle.lq_policyfile.specs.declared.entry.RoleEntry.{RoleEntry}

-- ---- the names that borrowed keys hold

abbrev pub shown : List (Bor (List ℕ)) → List (List ℕ)
shown keys = map (λ key. key.now) keys

pub has_shown : (q : List ℕ) (keys : List (Bor (List ℕ))) → list_any (λ key. bytes_eq q key.now) keys ≡ is_among (shown keys) q
has_shown q [] = refl
has_shown q (key ∷ keys) = ap (λ (b : Bool). bytes_eq q key.now || b) (has_shown q keys)

prefix_shown : (q : List ℕ) (keys : List (Bor (List ℕ))) → prefix_len (λ key. not (bytes_eq q key.now)) keys ≡ prefix_len (λ name. not (bytes_eq q name)) (shown keys)
prefix_shown q [] = refl
prefix_shown q (key ∷ keys) = rw (prefix_shown q keys)

pub place_shown : (q : List ℕ) (keys : List (Bor (List ℕ))) → position (λ key. bytes_eq q key.now) keys ≡ position (bytes_eq q) (shown keys)
place_shown q keys = rw (prefix_shown q keys, ← length-map keys (λ key. key.now))

shown_where : (b : Bool) (keys : List (Bor (List ℕ))) (key : Bor (List ℕ))
    → shown (if b then keys else keys ++ key ∷ []) ≡ (if b then shown keys else shown keys ++ key.now ∷ [])
shown_where true keys key = refl
shown_where false keys key = map-append (λ k. k.now) keys (key ∷ [])

pub insert_shown : (key : Bor (List ℕ)) (keys : List (Bor (List ℕ)))
    → shown (if list_any (λ other. bytes_eq key.now other.now) keys then keys else keys ++ key ∷ []) ≡ with_name (shown keys) key.now
insert_shown key keys = shown_where (list_any (λ other. bytes_eq key.now other.now) keys) keys key ∙ rw (has_shown key.now keys)

-- ---- one more name

among_more : (names : List (List ℕ)) (name q : List ℕ) → is_among (names ++ name ∷ []) q ≡ (is_among names q || bytes_eq q name)
among_more names name q = list_any-append (bytes_eq q) names (name ∷ []) ∙ ap (λ (b : Bool). is_among names q || b) (or_false (bytes_eq q name)) where
  or_false : (b : Bool) → (b || false) ≡ b
  or_false true = refl
  or_false false = refl

-- a name that is there is put in again
among_again : (names : List (List ℕ)) (name q : List ℕ) → is_among names name ≡ true → is_among names q ≡ (is_among names q || bytes_eq q name)
among_again names name q there = by (bytes_eq q name) refl where
  or_true : (b : Bool) → b ≡ true → b ≡ (b || true)
  or_true true h = refl
  or_true false h = cc

  or_none : (b : Bool) → b ≡ (b || false)
  or_none true = refl
  or_none false = refl

  by : (b : Bool) → bytes_eq q name ≡ b → is_among names q ≡ (is_among names q || b)
  by true same = or_true (is_among names q) (ap (λ (n : List ℕ). is_among names n) ((bytes_eq-Decides q name).0 same) ∙ there)
  by false other = or_none (is_among names q)

among_with : (names : List (List ℕ)) (name q : List ℕ) → is_among (with_name names name) q ≡ (is_among names q || bytes_eq q name)
among_with names name q = by (is_among names name) refl where
  by : (b : Bool) → is_among names name ≡ b → is_among (if b then names else names ++ name ∷ []) q ≡ (is_among names q || bytes_eq q name)
  by true there = among_again names name q there
  by false new = among_more names name q

-- The set has these names, and no others.
abbrev IsSetOf : List (List ℕ) → List (List ℕ) → Type 0
IsSetOf names set = (name : List ℕ) → is_among set name ≡ is_among names name

-- a set of these names and one more
set_grows : (names set : List (List ℕ)) (name : List ℕ) → IsSetOf names set → IsSetOf (names ++ name ∷ []) (with_name set name)
set_grows names set name same q = among_with set name q ∙ ap (λ (b : Bool). b || bytes_eq q name) (same q) ∙ sym (among_more names name q)

-- ---- what a set decides the names decide

all_same : {A : Type 0} (p q : A → Bool) → ((x : A) → p x ≡ q x) → (xs : List A) → list_all p xs ≡ list_all q xs
all_same p q same [] = refl
all_same p q same (x ∷ xs) = ap₂ (λ (a b : Bool). a && b) (same x) (all_same p q same xs)

grown : (names set : List (List ℕ)) (name : List ℕ) → IsSetOf names set → IsSetOf (names ++ name ∷ []) (set ++ name ∷ [])
grown names set name same q = among_more set name q ∙ ap (λ (b : Bool). b || bytes_eq q name) (same q) ∙ sym (among_more names name q)

same_memberships : (names set : List (List ℕ)) → IsSetOf names set → (roles : List RoleEntry) → are_memberships_known set roles ≡ are_memberships_known names roles
same_memberships names set same [] = refl
same_memberships names set same (role ∷ roles) =
    ap₂ (λ (a b : Bool). a && b) (all_same (is_among set) (is_among names) same role.member_of)
    (same_memberships (names ++ role.name ∷ []) (set ++ role.name ∷ []) (grown names set role.name same) roles)

-- a role's name is put into the set of the names before it
pub memberships_go_on : (earlier : List (List ℕ)) (name : List ℕ) (roles : List RoleEntry)
    → are_memberships_known (with_name earlier name) roles ≡ are_memberships_known (earlier ++ name ∷ []) roles
memberships_go_on earlier name roles = same_memberships (earlier ++ name ∷ []) (with_name earlier name) (set_grows earlier earlier name (λ q. refl)) roles

same_addressees : (names set : List (List ℕ)) → IsSetOf names set → (to : List (List ℕ)) → list_all (is_addressee set) to ≡ list_all (is_addressee names) to
same_addressees names set same to = all_same (is_addressee set) (is_addressee names) (λ name. ap (λ (b : Bool). bytes_eq name (codes "public") || b) (same name)) to

module _ (tables : List Table) (hosts : List HostName) (names set : List (List ℕ)) (same : IsSetOf names set) where
  same_policy : (policy : PolicyEntry) → is_policy_known tables hosts set policy ≡ is_policy_known tables hosts names policy
  same_policy policy = rw (same_addressees names set same policy.to)

  same_entry : (entry : RightEntry) → is_entry_known tables hosts set entry ≡ is_entry_known tables hosts names entry
  same_entry entry = rw (same_addressees names set same entry.to)

  same_policies : (policies : List PolicyEntry) → list_all (is_policy_known tables hosts set) policies ≡ list_all (is_policy_known tables hosts names) policies
  same_policies policies = all_same (is_policy_known tables hosts set) (is_policy_known tables hosts names) same_policy policies

  same_entries : (entries : List RightEntry) → list_all (is_entry_known tables hosts set) entries ≡ list_all (is_entry_known tables hosts names) entries
  same_entries entries = all_same (is_entry_known tables hosts set) (is_entry_known tables hosts names) same_entry entries

  same_rules : (file : FileEntries) → are_rules_known tables hosts set file ≡ are_rules_known tables hosts names file
  same_rules file = rw (same_policies file.policies, same_entries file.grants, same_entries file.withholds)

-- ---- loops

-- a role that is a member of earlier ones is passed, and is an earlier one itself
pub memberships_step : (earlier new : List (List ℕ)) (roles : List RoleEntry) (place : ℕ) (role : RoleEntry) → place < length roles → role ≡ get_or roles place role
    → list_all (is_among earlier) role.member_of ≡ true → new ≡ with_name earlier role.name
    → are_memberships_known new (drop (place + 1) roles) ≡ are_memberships_known earlier (drop place roles)
memberships_step earlier new roles place role within there known grown =
    ap (λ (names : List (List ℕ)). are_memberships_known names (drop (place + 1) roles)) grown
    ∙ memberships_go_on earlier role.name (drop (place + 1) roles)
    ∙ sym (ap (λ (b : Bool). b && are_memberships_known (earlier ++ role.name ∷ []) (drop (place + 1) roles)) known)
    ∙ sym (ap (are_memberships_known earlier) (drop_more roles place role within ∙ ap (λ (r : RoleEntry). r ∷ drop (place + 1) roles) (sym there)))

-- the set of all names is a set of them
more_set : (names set more : List (List ℕ)) → IsSetOf names set → IsSetOf (names ++ more) (with_names set more)
more_set names set [] same q = same q ∙ ap (λ (ns : List (List ℕ)). is_among ns q) (sym (append-nil names))
more_set names set (name ∷ more) same q =
    more_set (names ++ name ∷ []) (with_name set name) more (set_grows names set name same) q ∙ ap (λ (ns : List (List ℕ)). is_among ns q) (append_assoc names (name ∷ []) more)

pub rules_by_set : (tables : List Table) (hosts : List HostName) (names : List (List ℕ)) (file : FileEntries)
    → are_rules_known tables hosts (with_names [] names) file ≡ are_rules_known tables hosts names file
rules_by_set tables hosts names file = same_rules tables hosts names (with_names [] names) (more_set [] [] names (λ q. refl)) file

new_name : (names : List (List ℕ)) (name : List ℕ) → is_among names name ≡ false → with_name names name ≡ names ++ name ∷ []
new_name names name new = rw new

pub are_new_step : (earlier : List (List ℕ)) (name : List ℕ) (names : List (List ℕ)) → not (is_among earlier name) ≡ true
    → are_new (with_name earlier name) names ≡ are_new earlier (name ∷ names)
are_new_step earlier name names new = by (is_among earlier name) refl where
  by : (b : Bool) → is_among earlier name ≡ b → are_new (with_name earlier name) names ≡ (not b && are_new (earlier ++ name ∷ []) names)
  by true there = absurd (let h : not true ≡ true = subst (λ (b : Bool). not b ≡ true) there new in cc)
  by false other = ap (λ (ns : List (List ℕ)). are_new ns names) (new_name earlier name other)

-- names after others are new where those are, and where they are after them
pub are_new_after : (earlier names more : List (List ℕ)) → are_new earlier (names ++ more) ≡ (are_new earlier names && are_new (earlier ++ names) more)
are_new_after earlier [] more = ap (λ (ns : List (List ℕ)). are_new ns more) (sym (append-nil earlier))
are_new_after earlier (name ∷ names) more =
    ap (λ (b : Bool). not (is_among earlier name) && b)
    (are_new_after (earlier ++ name ∷ []) names more
    ∙ ap (λ (ns : List (List ℕ)). are_new (earlier ++ name ∷ []) names && are_new ns more) (append_assoc earlier (name ∷ []) names))
    ∙ sym (and_assoc (not (is_among earlier name)) (are_new (earlier ++ name ∷ []) names) (are_new (earlier ++ name ∷ names) more))

-- a set of names that are new is their list
new_names : (earlier names : List (List ℕ)) → are_new earlier names ≡ true → with_names earlier names ≡ earlier ++ names
new_names earlier [] new = sym (append-nil earlier)
new_names earlier (name ∷ names) new = by (is_among earlier name) refl (new_names (earlier ++ name ∷ []) names) where
  by : (b : Bool) → is_among earlier name ≡ b
      → (are_new (earlier ++ name ∷ []) names ≡ true → with_names (earlier ++ name ∷ []) names ≡ (earlier ++ name ∷ []) ++ names)
      → with_names (with_name earlier name) names ≡ earlier ++ name ∷ names
  by true there behind = absurd (let h : (not true && are_new (earlier ++ name ∷ []) names) ≡ true = subst (λ (b : Bool). (not b && are_new (earlier ++ name ∷ []) names) ≡ true) there new in cc)
  by false other behind =
      ap (λ (ns : List (List ℕ)). with_names ns names) (new_name earlier name other)
      ∙ behind (subst (λ (b : Bool). (not b && are_new (earlier ++ name ∷ []) names) ≡ true) other new)
      ∙ append_assoc earlier (name ∷ []) names

pub set_of_new : (names : List (List ℕ)) → are_new [] names ≡ true → with_names [] names ≡ names
set_of_new names new = new_names [] names new
