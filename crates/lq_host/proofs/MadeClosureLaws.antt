-- What a boxed closure gives, from what the closure gives that was put in the box: the converse of the toolchain's `made_tells`.
use Rattle.std.proofs.Common.{◌≡◌, subst, sym}
use mir.Syntax.{Dict}
use denote.Param.Table.{Table, Entry}
use denote.Param.Members.{Mut}
use denote.Param.Object.{Made, read_made}

module _ {A R : Type 0} (T : Table (λ X. Mut X A R) Dict) (e : Entry (λ X. Mut X A R) Dict) (at : T.I) (same : e ≡ T.entry at)
    {i : T.I} {y : (T.entry i).0.Denot} {x : e.0.Denot} (m : Made (λ j. (T.entry j).0.coded.code) e.0.coded.code at i y x) where
  pub made_gives : (a : A) (r : R) → e.1.post x a r → (T.entry i).1.post y a r
  made_gives a r = subst (λ (P : Type 0). P) (sym (read_made T e at same (Type 0) (λ j v. j.1.post v a r) i y x m))
