-- A case tree whose parts are known is one of terms of the pool, and is in scope.
use Rattle.std.specs.Prelude.{◌≡◌, ℕ, ◌+◌, ◌-◌, ◌<◌, ◌≤◌, List, [], ◌∷◌, length, map, sum, Option, Some, None, option_map, refl}
use Rattle.std.specs.Option.{option_map_or}
use Rattle.std.specs.List.{AllByRecursion}
use Rattle.std.proofs.Common.{sym, ap, ◌∙◌, subst, arith}
use Rattle.std.proofs.lemmas.List.{length-map}
use Rattle.core_rules.specs.Term.{Term}
use Rattle.core_rules.specs.Signature.{Telescope, Branch, Tree, CoBranches, ConBranches, Leaf, Intro, Cosplit, Split, RecordSplit, Absurd, NoField, OnField, NoCon, Refuted, Goes, ConDecl, FamDecl, Signature, fams, fam_decl, con_decl}
use Rattle.core_rules.specs.Mapped.{AllBranch, AllCoBranches, AllConBranches, AllEntries, AllTree, branch_map, co_branches_map, con_branches_map, con_map, entry_map, fam_map, signature_map, tree_map}
use Rattle.core_rules.specs.InScope.{BranchInScope, CoBranchesInScope, ConBranchesInScope, InScope, TreeInScope, any_meta, arg_count, field_count}
use Rattle.core_rules.proofs.Heads.Mapped.{con_counts-map, con_decl-map, fam_decl-map, field_counts-map}
use Rattle.term_pool.specs.Pool.{Pool, tree}
use Rattle.core_terms.specs.Signature.{signature_in}
use Rattle.case_terms.specs.declared.ids.Ids.{Ids}
use Rattle.case_terms.specs.Known.{AreTypesUnder, IsOver, IsTermUnder}
use Rattle.case_terms.specs.KnownTrees.{AreBranchesUnder, AreFieldsUnder, IsBranchUnder, IsTreeUnder, entries_for}
use Rattle.case_terms.proofs.Scopes.{fam_count, in_scope, knows_self, terms_in_scope, types_in_scope}

-- ---- a signature counts as much when a function is applied to each of its terms

module _ {A B : Type 0} (f : A → B) where
  fields_counted : (o : Option (FamDecl A)) → option_map_or (λ d. length d.fields) (option_map (fam_map f) o) 0 ≡ option_map_or (λ d. length d.fields) o 0
  fields_counted None = refl
  fields_counted (Some d) = length-map d.fields (entry_map f)

  field_count-map : (g : Signature A) (d : ℕ) → field_count (signature_map f g) d ≡ field_count g d
  field_count-map g d = ap (λ o. option_map_or (λ d. length d.fields) o 0) (fam_decl-map f g d) ∙ fields_counted (fam_decl g d)

  args_counted : (o : Option (ConDecl A)) → option_map_or (λ c. length c.args) (option_map (con_map f) o) 0 ≡ option_map_or (λ c. length c.args) o 0
  args_counted None = refl
  args_counted (Some c) = length-map c.args (entry_map f)

  arg_count-map : (g : Signature A) (k : ℕ) → arg_count (signature_map f g) k ≡ arg_count g k
  arg_count-map g k = ap (λ o. option_map_or (λ c. length c.args) o 0) (con_decl-map f g k) ∙ args_counted (con_decl g k)

-- ---- the terms are those of the pool

module _ (x : Ids) where
  abbrev Within : ℕ → Type 0
  Within i = i < length x.pool.now.trees

  types_within : (m : ℕ) (es : Telescope ℕ) → AreTypesUnder x m es → AllEntries Within es
  types_within m [] s = tt
  types_within m (e ∷ es) s = (s.0.within, types_within (m + 1) es s.1)

  terms_within : (m : ℕ) (ts : List ℕ) → AllByRecursion (IsTermUnder x m) ts → AllByRecursion Within ts
  terms_within m [] s = tt
  terms_within m (t ∷ ts) s = (s.0.within, terms_within m ts s.1)

  branch_within : (m : ℕ) (b : Branch ℕ) → IsBranchUnder x m b → AllBranch Within b
  branch_within m b s = record { context = types_within 0 b.context s.context; values = terms_within (length b.context) b.values s.values }

  mutual
    pub tree_within : (m : ℕ) (T : Tree ℕ) → IsTreeUnder x m T → AllTree Within T
    tree_within m (Leaf t n) s = s.within
    tree_within m (Intro T) s = tree_within (m + 1) T s
    tree_within m (Cosplit bs) s = fields_within m bs s
    tree_within m (Split k bs) s = branches_within m bs s.1
    tree_within m (RecordSplit k d T) s = tree_within (entries_for m (field_count x.sig.now d)) T s.2
    tree_within m (Absurd k) s = tt

    fields_within : (m : ℕ) (bs : CoBranches ℕ) → AreFieldsUnder x m bs → AllCoBranches Within bs
    fields_within m NoField s = tt
    fields_within m (OnField f T bs) s = (tree_within m T s.1, fields_within m bs s.2)

    branches_within : (m : ℕ) (bs : ConBranches ℕ) → AreBranchesUnder x m bs → AllConBranches Within bs
    branches_within m NoCon s = tt
    branches_within m (Refuted k bs) s = branches_within m bs s.1
    branches_within m (Goes k b T bs) s =
        (branch_within (entries_for m (arg_count x.sig.now k)) b s.1, tree_within (length b.context) T s.2, branches_within m bs s.3)

-- ---- and in scope

module _ (x : Ids) (n : x.fams ≤ length (fams (signature_in x.pool.now x.sig.now))) where
  abbrev Over : Signature Term
  Over = signature_in x.pool.now x.sig.now

  abbrev at : ℕ → Term
  at = tree x.pool.now

  branch_in_scope : (m : ℕ) (b : Branch ℕ) → IsBranchUnder x m b → BranchInScope Over any_meta m (branch_map at b)
  branch_in_scope m b s = record {
    context = types_in_scope x Over (knows_self Over) n 0 b.context s.context;
    values = subst (λ j. AllByRecursion (λ t. InScope Over any_meta j t) (map at b.values)) (sym (length-map b.context (entry_map at)))
        (terms_in_scope x Over (knows_self Over) n (length b.context) b.values s.values);
    keep = s.keep;
  }

  mutual
    pub tree_over : (m : ℕ) (T : Tree ℕ) → IsTreeUnder x m T → TreeInScope Over any_meta m (tree_map at T)
    tree_over m (Leaf t q) s = in_scope x Over (knows_self Over) n m (at t) s.ids s.reach
    tree_over m (Intro T) s = tree_over (m + 1) T s
    tree_over m (Cosplit bs) s = fields_over m bs s
    tree_over m (Split k bs) s = (s.0, branches_over m bs s.1)
    tree_over m (RecordSplit k d T) s =
        let l = fam_count at x.sig.now in
        let r = s.1 in
        let inside = subst (λ j. TreeInScope Over any_meta (m + j - 1) (tree_map at T)) (sym (field_count-map at x.sig.now d)) (tree_over (entries_for m (field_count x.sig.now d)) T s.2) in
        (s.0, omega (arith, l, r), inside)
    tree_over m (Absurd k) s = s

    fields_over : (m : ℕ) (bs : CoBranches ℕ) → AreFieldsUnder x m bs → CoBranchesInScope Over any_meta m (co_branches_map at bs)
    fields_over m NoField s = tt
    fields_over m (OnField f T bs) s =
        let l = ap sum (field_counts-map at x.sig.now) in
        let r = s.0 in
        (omega (arith, l, r), tree_over m T s.1, fields_over m bs s.2)

    branches_over : (m : ℕ) (bs : ConBranches ℕ) → AreBranchesUnder x m bs → ConBranchesInScope Over any_meta m (con_branches_map at bs)
    branches_over m NoCon s = tt
    branches_over m (Refuted k bs) s =
        let l = ap sum (con_counts-map at x.sig.now) in
        let r = s.0 in
        (omega (arith, l, r), branches_over m bs s.1)
    branches_over m (Goes k b T bs) s =
        let l = ap sum (con_counts-map at x.sig.now) in
        let r = s.0 in
        let inside = subst (λ j. BranchInScope Over any_meta (m + j - 1) (branch_map at b)) (sym (arg_count-map at x.sig.now k)) (branch_in_scope (entries_for m (arg_count x.sig.now k)) b s.1) in
        let rest = subst (λ j. TreeInScope Over any_meta j (tree_map at T)) (sym (length-map b.context (entry_map at))) (tree_over (length b.context) T s.2) in
        (omega (arith, l, r), inside, rest, branches_over m bs s.3)

-- over the pool p and the signature g
module _ (p : Pool) (g : Signature ℕ) (x : Ids) (o : IsOver p g (length (fams g)) x) (m : ℕ) (T : Tree ℕ) (s : IsTreeUnder x m T) where
  few : x.fams ≤ length (fams (signature_in x.pool.now x.sig.now))
  few = let e = o.families in let h = ap (λ (g : Signature ℕ). length (fams g)) o.signature in let l = fam_count (tree x.pool.now) x.sig.now in omega (arith, e, h, l)

  pub known_within : AllTree (λ i. i < length p.trees) T
  known_within = subst (λ q. AllTree (λ i. i < length q.trees) T) o.pool (tree_within x m T s)

  pub known_tree : TreeInScope (signature_in p g) any_meta m (tree_map (tree p) T)
  known_tree = subst (λ q. TreeInScope (signature_in q g) any_meta m (tree_map (tree q) T)) o.pool
      (subst (λ h. TreeInScope (signature_in x.pool.now h) any_meta m (tree_map (tree x.pool.now) T)) o.signature (tree_over x few m T s))
