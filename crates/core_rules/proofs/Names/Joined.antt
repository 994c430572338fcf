-- What joins solutions joins them under other names.
use Rattle.std.specs.Prelude.{◌≡◌, ℕ, ◌+◌, List, [], ◌∷◌, length, slice_get, Some, zero, suc}
use Rattle.std.specs.List.{AllByRecursion}
use Rattle.std.proofs.Common.{ap, sym, ◌∙◌}
use Rattle.core_rules.specs.Term.{Term, Terms, Var}
use Rattle.core_rules.specs.Substitution.{value_at, under}
use Rattle.core_rules.specs.Signature.{Context}
use Rattle.core_rules.specs.InScope.{VarsBelow, AllVarsBelow}
use Rattle.core_rules.specs.Unification.{Solution, Joins}
use Rattle.core_rules.specs.Term.{IsSameTerm}
use Rattle.core_rules.proofs.Heads.OneAnswer.{one_some}
use Rattle.core_rules.proofs.Pairwise as P
use Rattle.core_rules.proofs.Pairwise.{pairwise-length}
use Rattle.core_rules.proofs.Names.Alike as A
use Rattle.core_rules.proofs.Names.Alike.{Alike, AllAlike, EachAlike, same_of, itself, alike-value, alike-under}

mutual
  below-alike : {t u : Term} (n : ℕ) → Alike t u → VarsBelow n t → VarsBelow n u
  below-alike n A.var h = h
  below-alike n A.sort h = tt
  below-alike n (A.pi a t) h = (below-alike n a h.0, below-alike (n + 1) t h.1)
  below-alike n (A.lam a t) h = (below-alike n a h.0, below-alike (n + 1) t h.1)
  below-alike n (A.app t u) h = (below-alike n t h.0, below-alike n u h.1)
  below-alike n A.def h = tt
  below-alike n A.fam h = tt
  below-alike n (A.con ts) h = all_below-alike n ts h
  below-alike n (A.proj t) h = below-alike n t h
  below-alike n (A.meta ts) h = all_below-alike n ts h

  all_below-alike : {ts us : Terms} (n : ℕ) → AllAlike ts us → AllVarsBelow n ts → AllVarsBelow n us
  all_below-alike n A.ends h = tt
  all_below-alike n (A.both a k) h = (below-alike n a h.0, all_below-alike n k h.1)

each_below : {r q : List Term} (n : ℕ) → EachAlike r q → AllByRecursion (λ t. VarsBelow n t) r → AllByRecursion (λ t. VarsBelow n t) q
each_below n P.nil h = tt
each_below n (P.one a k) h = (below-alike n a h.0, each_below n k h.1)

same_values : {r q : List Term} → EachAlike r q → (ss : List Solution) → AllByRecursion (λ s. IsSameTerm (value_at r s.var) (under r s.value)) ss → AllByRecursion (λ s. IsSameTerm (value_at q s.var) (under q s.value)) ss
same_values k [] h = tt
same_values k (s ∷ ss) h = (sym (same_of (alike-value s.var k)) ∙ (h.0 ∙ same_of (alike-under k (itself s.value))), same_values k ss h.1)

variable_of : {t u : Term} (j : ℕ) → Alike t u → t ≡ Var j → u ≡ Var j
variable_of j A.var e = e
variable_of j A.sort e = absurd cc
variable_of j (A.pi a t) e = absurd cc
variable_of j (A.lam a t) e = absurd cc
variable_of j (A.app t u) e = absurd cc
variable_of j A.def e = absurd cc
variable_of j A.fam e = absurd cc
variable_of j (A.con ts) e = absurd cc
variable_of j (A.proj t) e = absurd cc
variable_of j (A.meta ts) e = absurd cc

same_kept : {r q : List Term} (k j : ℕ) → EachAlike r q → slice_get r k ≡ Some (Var j) → slice_get q k ≡ Some (Var j)
same_kept k j P.nil e = e
same_kept zero j (P.one a h) e = ap Some (variable_of j a (one_some e))
same_kept (suc k) j (P.one a h) e = same_kept k j h e

pub joins-named : (c c' : Context Term) (ss : List Solution) (r q : List Term) (keep : List ℕ) → EachAlike r q → Joins c ss c' r keep → Joins c ss c' q keep
joins-named c c' ss r q keep k h = record {
  long = sym (pairwise-length k) ∙ h.long;
  scoped = each_below (length c') k h.scoped;
  values = same_values k ss h.values;
  as_many = h.as_many;
  kept = λ j i e. same_kept i j k (h.kept j i e);
}
