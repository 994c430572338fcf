-- A typed tree splits data types, and records without eta, alone.
use Rattle.std.specs.Prelude.{◌≡◌, ℕ, Bool, true, false, eqb, cond, List, [], ◌∷◌, ◌++◌, length, map, take, drop, slice_get, Option, Some, None, option_and_then, refl, suc}
use Rattle.std.proofs.Common.{ap, ◌∙◌, subst as transport, append-nil, eqb-true}
use Rattle.std.proofs.lemmas.List.{take-append-drop}
use Rattle.core_rules.specs.Term.{Term}
use Rattle.core_rules.specs.Signature.{Signature, Context, Telescope, Branch, Tree, CoBranches, ConBranches, co_branch, con_branch, FamDecl, ConDecl, Open, fams, places, con_place, fam_decl, cons_of, tree_of}
use Rattle.core_rules.specs.TypedTree as Y
use Rattle.core_rules.specs.TypedTree.{Splitting, TypedTree, TypedFields, TypedBranches}
use Rattle.core_rules.specs.TreeLaws.{HasTypedTrees}
use Rattle.match_rules.specs.Matching.{eta_family}
use Rattle.core_rules.proofs.Signature.Known.{fams-append, con-place-known}
use Rattle.core_rules.proofs.Heads.Regular.{function_stands}
use Rattle.core_rules.proofs.Heads.OneAnswer.{one_some}
use Rattle.core_rules.proofs.Trees.Regular.{known_opened}
use Rattle.core_rules.proofs.Trees.Scoped.{con_place_of}
use Rattle.match_rules.proofs.Cover.Back as B
use Rattle.match_rules.proofs.Cover.Back.{PlainSplits}

eta_none : (h : Signature Term) (k d i : ℕ) (decl : FamDecl Term) → con_place h k ≡ Some (d, i) → fam_decl h d ≡ Some decl → decl.eta ≡ false → eta_family h k ≡ None
eta_none h k d i decl p f e =
    ap (option_and_then (λ p. option_and_then (λ d. cond d.eta (Some p.0) None) (fam_decl h p.0))) p
    ∙ (ap (option_and_then (λ c. cond c.eta (Some d) None)) f ∙ ap (λ b. cond b (Some d) None) e)

record Plain (h : Signature Term) (k : ℕ) (T : Tree Term) : Type 0 where
  none : eta_family h k ≡ None
  tree : PlainSplits h T

module _ (g h : Signature Term) (known : (d : ℕ) (decl : FamDecl Term) → fam_decl g d ≡ Some decl → fam_decl h d ≡ Some decl) (placed : (k : ℕ) (p : ℕ × ℕ) → con_place g k ≡ Some p → con_place h k ≡ Some p) where
  mutual
    pub typed-plain : {c : Context Term} {T : Tree Term} {a l : Term} → TypedTree g c T a l → PlainSplits h T
    typed-plain (Y.leaf t) = B.leaf
    typed-plain (Y.intro k t) = B.intro (typed-plain t)
    typed-plain (Y.cosplit d ps f r n k ts) = B.cosplit (λ f T e. fields-plain ts f T e)
    typed-plain (Y.split {d = d} is can ts) =
        let own : (i k : ℕ) → slice_get (cons_of g d) i ≡ Some k → eta_family h k ≡ None = λ i k e. eta_none h k d i is.decl (placed k (d, i) (con_place_of g d i k e)) (known d is.decl is.is_decl) can.no_eta in
        B.split (λ k b T e. (branches-plain ts own k b T e).none) (λ k b T e. (branches-plain ts own k b T e).tree)
    typed-plain (Y.record_split n is eta place t) = B.record_split (typed-plain t)
    typed-plain (Y.absurd_split is can ts) = B.absurd_split

    fields-plain : {c : Context Term} {l : Term} {r : List Term} {fs : List ℕ} {es : Telescope Term} {bs : CoBranches Term} → TypedFields g c l r fs es bs → (f : ℕ) (T : Tree Term) → co_branch bs f ≡ Some T → PlainSplits h T
    fields-plain Y.no_field f T e = absurd cc
    fields-plain (Y.on_field {f = j} {T = S} {bs = bs} t ts) f T e = by_test (eqb j f) e (typed-plain t) (λ e. fields-plain ts f T e)
      where
        by_test : (b : Bool) → cond b (Some S) (co_branch bs f) ≡ Some T → PlainSplits h S → (co_branch bs f ≡ Some T → PlainSplits h T) → PlainSplits h T
        by_test true e p q = transport (PlainSplits h) (one_some e) p
        by_test false e p q = q e

    branches-plain : {s : Splitting} {ks : List ℕ} {cons : List (ConDecl Term)} {bs : ConBranches Term} → TypedBranches g s ks cons bs → ((i k : ℕ) → slice_get ks i ≡ Some k → eta_family h k ≡ None)
        → (k : ℕ) (b : Branch Term) (T : Tree Term) → con_branch bs k ≡ Some (b, T) → Plain h k T
    branches-plain Y.no_con own k b T e = absurd cc
    branches-plain (Y.refuted {k = j} {bs = bs} r ts) own k b T e = by_test (eqb j k) e (λ e. branches-plain ts (λ i. own (suc i)) k b T e)
      where
        by_test : (o : Bool) → cond o None (con_branch bs k) ≡ Some (b, T) → (con_branch bs k ≡ Some (b, T) → Plain h k T) → Plain h k T
        by_test true e q = absurd cc
        by_test false e q = q e
    branches-plain (Y.goes {k = j} {b = c} {T = S} {bs = bs} w r t ts) own k b T e = by_test (eqb j k) refl e (own 0 j refl) (typed-plain t) (λ e. branches-plain ts (λ i. own (suc i)) k b T e)
      where
        by_test : (o : Bool) → eqb j k ≡ o → ◌≡◌ {A = Option (Branch Term × Tree Term)} (cond o (Some (c, S)) (con_branch bs k)) (Some (b, T)) → eta_family h j ≡ None → PlainSplits h S → (con_branch bs k ≡ Some (b, T) → Plain h k T) → Plain h k T
        by_test true i e n p q =
            let x : ◌≡◌ {A = Branch Term × Tree Term} (c, S) (b, T) = one_some e in
            record { none = transport (λ k. eta_family h k ≡ None) (eqb-true j k i) n; tree = transport (PlainSplits h) (ap (λ p. p.1) x) p }
        by_test false i e n p q = q e

placed_opened : (g : Signature Term) (i x : ℕ) (a : Term) (k : ℕ) (p : ℕ × ℕ) → con_place (take i g ++ Open x a ∷ []) k ≡ Some p → con_place g k ≡ Some p
placed_opened g i x a k p e =
    let f : fams (take i g ++ Open x a ∷ []) ≡ fams (take i g) = fams-append (take i g) (Open x a ∷ []) ∙ append-nil (fams (take i g)) in
    let h : con_place (take i g) k ≡ Some p = transport (λ ds. slice_get (places 0 (map (λ d. length d.cons) ds)) k ≡ Some p) f e in
    transport (λ g. con_place g k ≡ Some p) (take-append-drop i g) (con-place-known (take i g) (drop i g) k p h)

pub typed_trees-plain : (g : Signature Term) → HasTypedTrees g → (f : ℕ) (T : Tree Term) → tree_of g f ≡ Some T → PlainSplits g T
typed_trees-plain g t f T e =
    let d = function_stands g f T e in
    typed-plain (take d.0 g ++ Open d.1 d.2 ∷ []) g (known_opened g d.0 d.1 d.2) (placed_opened g d.0 d.1 d.2) (t d.0 d.1 d.2 d.3 T d.4)
