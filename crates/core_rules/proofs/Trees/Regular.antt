-- A typed tree is regular, also over a signature that knows the families of the one in which it is typed.
use Rattle.std.specs.Prelude.{◌≡◌, ◌≢◌, ℕ, ◌+◌, List, [], ◌∷◌, ◌++◌, length, take, drop, slice_get, Some, refl, suc}
use Rattle.std.proofs.Common.{ap, sym, ◌∙◌, arith, append-nil, subst as transport}
use Rattle.std.proofs.lemmas.List.{take-append-drop}
use Rattle.core_rules.specs.Term.{Term, Var}
use Rattle.core_rules.specs.Signature.{Signature, Context, Telescope, onto, Branch, Tree, CoBranches, ConBranches, FamDecl, ConDecl, Open, Function, fams, fam_decl}
use Rattle.core_rules.specs.BoundedLaws.{AreDistinct, KeepsApart, IsRegular, AreRegular, BranchesAreRegular, HasRegularTrees}
use Rattle.core_rules.specs.Unification.{Solution, Joins}
use Rattle.core_rules.specs.TypedTree as Y
use Rattle.core_rules.specs.TypedTree.{Splitting, TypedTree, TypedFields, TypedBranches}
use Rattle.core_rules.specs.Derivable as D
use Rattle.core_rules.specs.Derivable.{Good, Derivable}
use Rattle.core_rules.specs.TreeLaws.{HasTypedTrees}
use Rattle.core_rules.proofs.Signature.Known.{fams-append, fam-known}
use Rattle.core_rules.proofs.Heads.Regular.{function_stands}
use Rattle.core_rules.proofs.Typing.Scoped.{length-onto, all_of}

var_one : {i j : ℕ} → Some (Var i) ≡ Some (Var j) → i ≡ j
var_one e = cc e

-- the variables for which an environment has different variables differ
kept_apart : (r : List Term) (keep : List ℕ) (n : ℕ) → ((j k : ℕ) → slice_get keep j ≡ Some k → slice_get r k ≡ Some (Var (n + j))) → AreDistinct keep
kept_apart r [] n h = tt
kept_apart r (i ∷ keep) n h = (
  all_of (λ j. i ≢ j) keep (λ j k e q.
      let a = h 0 i refl in
      let b = h (suc j) k e in
      let c : n + 0 ≡ n + suc j = var_one (sym a ∙ (ap (slice_get r) q ∙ b)) in
      absurd (omega (arith, c))),
  kept_apart r keep (suc n) (λ j k e. let p : n + suc j ≡ suc n + j = omega arith in transport (λ m. slice_get r k ≡ Some (Var m)) p (h (suc j) k e)),
)

joins_apart : (c : Context Term) (ss : List Solution) (b : Branch Term) → Joins c ss (onto b.context []) b.values b.keep → KeepsApart b
joins_apart c ss b h = record {
  as_many = h.as_many ∙ (length-onto b.context [] ∙ omega arith);
  once = kept_apart b.values b.keep 0 (λ j k e. let p : j ≡ 0 + j = omega arith in transport (λ m. slice_get b.values k ≡ Some (Var m)) p (h.kept j k e));
}

module _ (g h : Signature Term) (known : (d : ℕ) (decl : FamDecl Term) → fam_decl g d ≡ Some decl → fam_decl h d ≡ Some decl) where
  mutual
    pub typed-regular : {c : Context Term} {T : Tree Term} {a l : Term} → TypedTree g c T a l → IsRegular h T
    typed-regular (Y.leaf t) = tt
    typed-regular (Y.intro k t) = typed-regular t
    typed-regular (Y.cosplit d ps f r n k ts) = fields-regular ts
    typed-regular (Y.split is can ts) = branches-regular ts
    typed-regular (Y.record_split {d = d} n is eta place t) = (record { decl = is.decl; is_decl = known d is.decl is.is_decl; eta = eta }, typed-regular t)
    typed-regular (Y.absurd_split is can ts) = tt

    fields-regular : {c : Context Term} {l : Term} {r : List Term} {fs : List ℕ} {es : Telescope Term} {bs : CoBranches Term} → TypedFields g c l r fs es bs → AreRegular h bs
    fields-regular Y.no_field = tt
    fields-regular (Y.on_field t ts) = (typed-regular t, fields-regular ts)

    branches-regular : {s : Splitting} {ks : List ℕ} {cons : List (ConDecl Term)} {bs : ConBranches Term} → TypedBranches g s ks cons bs → BranchesAreRegular h bs
    branches-regular Y.no_con = tt
    branches-regular (Y.refuted r ts) = branches-regular ts
    branches-regular (Y.goes {s = s} {k = k} {con = con} {b = b} {ss = ss} q r t ts) = (joins_apart (Y.con_context s k con.args) ss b r.joins, typed-regular t, branches-regular ts)

-- what a signature knows while its function at a place is checked, it knows as it goes on
pub known_opened : (g : Signature Term) (i x : ℕ) (a : Term) (d : ℕ) (decl : FamDecl Term) → fam_decl (take i g ++ Open x a ∷ []) d ≡ Some decl → fam_decl g d ≡ Some decl
known_opened g i x a d decl e =
    let f : fams (take i g ++ Open x a ∷ []) ≡ fams (take i g) = fams-append (take i g) (Open x a ∷ []) ∙ append-nil (fams (take i g)) in
    let h : fam_decl (take i g) d ≡ Some decl = transport (λ ds. slice_get ds d ≡ Some decl) f e in
    transport (λ g. fam_decl g d ≡ Some decl) (take-append-drop i g) (fam-known (take i g) (drop i g) d decl h)

pub typed_trees-regular : (g : Signature Term) → HasTypedTrees g → HasRegularTrees g
typed_trees-regular g t f T e =
    let d = function_stands g f T e in
    typed-regular (take d.0 g ++ Open d.1 d.2 ∷ []) g (known_opened g d.0 d.1 d.2) (t d.0 d.1 d.2 d.3 T d.4)

pub derivable-typed : (g : Signature Term) → Derivable g → HasTypedTrees g
derivable-typed g r i x a qs T e = good_tree (r.good i (Function x a qs T) e)
  where
    good_tree : Good (take i g) (Function x a qs T) → TypedTree (take i g ++ Open x a ∷ []) [] T a (Rattle.core_rules.specs.Term.Def (length (Rattle.core_rules.specs.Signature.defs (take i g))))
    good_tree (D.function s t) = t
