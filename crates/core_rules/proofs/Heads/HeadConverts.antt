-- Trees stay regular, and head forms convertible to their terms, where solved metavariables are replaced.
use Rattle.std.specs.Prelude.{◌≡◌, ℕ, ◌+◌, ◌-◌, List, length, refl, Option, Some, None, option_map}
use Rattle.std.proofs.Common.{ap, sym, ◌∙◌, subst as transport}
use Rattle.std.proofs.lemmas.List.{length-map}
use Rattle.core_rules.specs.Term.{Term}
use Rattle.core_rules.specs.Substitution.{replace}
use Rattle.core_rules.specs.Signature.{Tree, Leaf, Intro, Cosplit, Split, RecordSplit, Absurd, CoBranches, NoField, OnField, ConBranches, NoCon, Refuted, Goes, Signature, tree_of, fields_of}
use Rattle.core_rules.specs.Mapped.{tree_map, co_branches_map, con_branches_map, con_map, fam_map, entry_map, signature_map}
use Rattle.core_rules.specs.Elimination.{Elim, elims}
use Rattle.core_rules.specs.Conversion.{Conv, IsEtaCon}
use Rattle.core_rules.specs.Heads.{Solutions, Answer, Form, Blocked, Heads}
use Rattle.core_rules.specs.BoundedLaws.{shown, replace_elims, replace_answer, IsFull}
use Rattle.core_rules.proofs.Heads.Fit.{IsEtaRecord, IsFit, AreFit, BranchesFit, HasFitTrees}
use Rattle.core_rules.proofs.Heads.OneAnswer.{one_some}
use Rattle.core_rules.proofs.Heads.Mapped.{tree_of-map, con_decl-map, fam_decl-map, con_place-map, fields_of-map}
use Rattle.core_rules.proofs.Heads.Replaced.{image, takes-image, replace-elims, heads_image}
use Rattle.core_rules.proofs.Heads.Sound.{heads_sound}

module _ (f : Solutions) (g : Signature Term) where
  abbrev pub eta_con_image : (k d : ℕ) → IsEtaCon g k d → IsEtaCon (image f g) k d
  eta_con_image k d is = record {
    decl = fam_map (replace f) is.decl;
    con = con_map (replace f) is.con;
    is_decl = fam_decl-map (replace f) g d ∙ ap (option_map (fam_map (replace f))) is.is_decl;
    is_con = con_decl-map (replace f) g k ∙ ap (option_map (con_map (replace f))) is.is_con;
    place = con_place-map (replace f) g k ∙ is.place;
    eta = is.eta;
  }

  eta_image : (d : ℕ) → IsEtaRecord g d → IsEtaRecord (image f g) d
  eta_image d i = record {
    con = i.con;
    is = eta_con_image i.con d i.is;
    is_record = i.is_record;
    as_many = length-map i.is.con.args (entry_map (replace f)) ∙ (i.as_many ∙ ap length (sym (fields_of-map (replace f) g d)));
  }

  mutual
    regular_image : (n : ℕ) (T : Tree Term) → IsFit g n T → IsFit (image f g) n (tree_map (replace f) T)
    regular_image n (Leaf t i) p = tt
    regular_image n (Intro T) p = regular_image (n + 1) T p
    regular_image n (Cosplit bs) p = co_image n bs p
    regular_image n (Split k bs) p = (p.0, branches_image n bs p.1)
    regular_image n (RecordSplit k d T) p =
        (p.0, eta_image d p.1, transport (λ is. IsFit (image f g) (n + length is - 1) (tree_map (replace f) T)) (sym (fields_of-map (replace f) g d)) (regular_image (n + length (fields_of g d) - 1) T p.2))
    regular_image n (Absurd k) p = tt

    co_image : (n : ℕ) (bs : CoBranches Term) → AreFit g n bs → AreFit (image f g) n (co_branches_map (replace f) bs)
    co_image n NoField p = tt
    co_image n (OnField i T bs) p = (regular_image n T p.0, co_image n bs p.1)

    branches_image : (n : ℕ) (bs : ConBranches Term) → BranchesFit g n bs → BranchesFit (image f g) n (con_branches_map (replace f) bs)
    branches_image n NoCon p = tt
    branches_image n (Refuted k bs) p = branches_image n bs p
    branches_image n (Goes k b T bs) p =
        (record { within = λ m h. p.0.within m (sym (takes-image f g k m) ∙ h); once = p.0.once }, regular_image (length b.keep) T p.1, branches_image n bs p.2)

  pub trees_image : HasFitTrees g → HasFitTrees (image f g)
  trees_image x i T e = by_tree (tree_of g i) refl (sym (tree_of-map (replace f) g i) ∙ e)
    where
      by_tree : (o : Option (Tree Term)) → tree_of g i ≡ o → option_map (tree_map (replace f)) o ≡ Some T → IsFit (image f g) 0 T
      by_tree None h k = absurd cc
      by_tree (Some S) h k = transport (IsFit (image f g) 0) (one_some k) (regular_image 0 S (x i S h))

  pub shown_image : (w : Answer) → shown (replace_answer f w) ≡ replace f (shown w)
  shown_image (Form h es) = sym (replace-elims f h es)
  shown_image (Blocked m h es) = sym (replace-elims f h es)

-- with solved metavariables replaced, a term under eliminations is convertible to the head form that it comes to
pub heads_convert : (g : Signature Term) (s f : Solutions) (t : Term) (es : List Elim) (w : Answer) (n : ℕ) → IsFull s f → HasFitTrees g → Heads g s t es w n → Conv (signature_map (replace f) g) (replace f (elims t es)) (replace f (shown w))
heads_convert g s f t es w n x r d =
    let c = heads_sound (image f g) (trees_image f g r) (heads_image f g s x d) in
    transport (λ a. Conv (image f g) a (replace f (shown w))) (sym (replace-elims f t es))
    (transport (λ b. Conv (image f g) (elims (replace f t) (replace_elims f es)) b) (shown_image f g w) c)
