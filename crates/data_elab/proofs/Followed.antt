-- What follows the heading of a data or record declaration, over the signature that knows the family.
use Rattle.std.proofs.Common.{◌≡◌, ◌<◌, ◌++◌, ◌∷◌, [], ℕ, List, length, map, refl, sym, ap, subst, ◌∙◌}
use Rattle.el_base.proofs.Throughout.{all-append}
use Rattle.core_rules.specs.Term.{Term}
use Rattle.core_rules.specs.Signature.{ConDecl, Decl, FamDecl, Family, Signature, fams}
use Rattle.core_rules.specs.Mapped.{AllDecl, AllFamily, con_map, fam_map}
use Rattle.term_pool.specs.Pool.{Pool, Extends, tree}
use Rattle.core_terms.specs.declared.signature.CoreDecl.{CoreDecl}
use Rattle.core_terms.specs.declared.signature.CoreDecl.TheVariants as C
use Rattle.core_terms.specs.Signature.{Stands, decl_of, fam_of, signature_in}
use Rattle.core_terms.proofs.SignatureGrowth.{Stands-extends, signature_in-extends, signature_in-push}
use Rattle.declared_types.proofs.Grown.{entries-weaker, length-fams_in, telescope-stays}
use Rattle.kernel_rules.specs.Outcome.{Outcome, Gives, Refuses, goes_on, stops}
use Rattle.resolved_tree.specs.declared.resolved.Resolved.{Resolved}
use Rattle.resolved_tree.specs.declared.resolved.Resolved.TheVariants as decl
use Rattle.resolved_tree.specs.declared.resolved.ResolvedSignature.{ResolvedSignature}
use Rattle.written_rules.specs.Asking.{Comes}
use Rattle.data_rules.specs.Families.{IsFamily, WrittenFamilyOf, line_meaning}
use Rattle.data_rules.specs.Families as rules
use Rattle.data_rules.specs.Refusals.{Refusal}
use Rattle.data_rules.specs.Reading.{Reads, gives}
use Rattle.data_rules.specs.Rules.{con_lines, field_lines, inside}
use Rattle.data_rules.specs.Families.{lines_of}
use Rattle.data_elab.specs.Family.{record_of}
use Rattle.core_rules.specs.Signature.{Entry, Telescope}
use Rattle.core_rules.specs.Mapped.{AllEntries, telescope_map}
use Rattle.resolved_tree.specs.declared.resolved.ResolvedItem.{ResolvedItem}
use Rattle.std.specs.Prelude.{Bool, Option}
use Rattle.data_elab.specs.declared.error.DataError.{DataError}
use Rattle.data_elab.specs.declared.heading.Heading.{Heading}
use Rattle.data_elab.specs.Answers.{RefusedBy}
use Rattle.data_elab.specs.Constructors.{AreCons}
use Rattle.data_elab.specs.Family.{HeadingOf, IsCoreFamily, data_of, known_of}
use Rattle.data_elab.specs.Heading.{IsHeading, heading_in}
use Rattle.data_elab.specs.Reader.{Over}
use Rattle.data_elab.proofs.Reading.{read-first, read-next, refused-weaker}

-- ---- a declaration that is a family

pub family-is : (d : CoreDecl) (x : FamDecl ℕ) → decl_of d ≡ Family x → fam_of d ≡ x
family-is (C.Postulate y a) x h = absurd cc
family-is (C.Function y a qs T) x h = absurd cc
family-is (C.Family y ps is l r cs fs e k) x h = cc h

pub core-family : (p : Pool) (d : CoreDecl) (x : FamDecl ℕ) → decl_of d ≡ Family x → AllFamily (λ t. t < length p.trees) x → IsCoreFamily p d
core-family p d x h a =
    let same = family-is d x h in
    record { family = h ∙ ap (λ (y : FamDecl ℕ). Family y) (sym same); within = subst (λ (y : FamDecl ℕ). AllFamily (λ t. t < length p.trees) y) (sym same) a }

-- ---- the signature that knows the family: p is the pool at the start, q the one after the heading h

module _ (p q : Pool) (e : Extends p q) (g now : Signature ℕ) (k : Decl ℕ) (h : Heading) (added : now ≡ g ++ k ∷ []) (known : k ≡ Family (known_of h)) where
  now-is : now ≡ g ++ Family (known_of h) ∷ []
  now-is = added ∙ ap (λ (d : Decl ℕ). g ++ d ∷ []) known

  pub known-stands : Stands p g → IsHeading q h → Stands q now
  known-stands s w =
      subst (λ (G : Signature ℕ). Stands q G) (sym now-is)
      (all-append (AllDecl (λ t. t < length q.trees)) g (Family (known_of h) ∷ []) (Stands-extends p q g e s) (record { params = w.params; indices = w.indices; cons = tt; fields = tt }, tt))

  pub known-in : Stands p g → signature_in q now ≡ signature_in p g ++ Family (heading_in q h) ∷ []
  known-in s =
      ap (signature_in q) now-is ∙ (signature_in-push q g (Family (known_of h)) ∙ ap (λ (G : Signature Term). G ++ Family (heading_in q h) ∷ []) (signature_in-extends p q g e s))

pub next-number : (p : Pool) (g : Signature ℕ) (n m : ℕ) → n ≡ m → m ≡ length (fams g) → n ≡ length (fams (signature_in p g))
next-number p g n m a b = a ∙ (b ∙ sym (length-fams_in p g))

-- ---- the heading is refused

pub no-heading : (g : Signature Term) (fuel depth : ℕ) (d : Resolved) → IsFamily d → (e : Refusal) → HeadingOf g fuel depth d (Refuses e) → WrittenFamilyOf g fuel depth d (Refuses e)
no-heading g fuel depth (decl.«Data» p x bs t ss) f e h = stops e h refl
no-heading g fuel depth (decl.Record p x bs t is) f e h = stops e h refl
no-heading g fuel depth (decl.Postulate p ss) f e h = absurd f
no-heading g fuel depth (decl.Function p s qs) f e h = absurd f
no-heading g fuel depth (decl.Open p n b) f e h = absurd f

pub heading-not_read : (g : Signature Term) (fuel depth : ℕ) (d : Resolved) → IsFamily d → (q : Pool) (e : DataError) → RefusedBy q (λ r. HeadingOf g fuel depth d (Refuses r)) e → RefusedBy q (λ r. WrittenFamilyOf g fuel depth d (Refuses r)) e
heading-not_read g fuel depth d f q e h = refused-weaker q (λ r. HeadingOf g fuel depth d (Refuses r)) (λ r. WrittenFamilyOf g fuel depth d (Refuses r)) (λ r k. no-heading g fuel depth d f r k) e h

-- ---- a data declaration after its heading

module _ (g : Signature Term) (fuel depth : ℕ) (d : Resolved) (f : FamDecl Term) where
  abbrev pub Lines : Signature Term → ℕ → List ResolvedSignature → Outcome Refusal (List (ConDecl Term)) → Type 0
  Lines G n ss = Comes G fuel depth (con_lines n f (map (line_meaning G) ss))

  module _ (p : _) (x : _) (bs : _) (t : _) (ss : List ResolvedSignature) (is : d ≡ decl.«Data» p x bs t ss) (h : HeadingOf g fuel depth d (Gives f)) where
    heading : HeadingOf g fuel depth (decl.«Data» p x bs t ss) (Gives f)
    heading = subst (λ (k : Resolved). HeadingOf g fuel depth k (Gives f)) is h

    abbrev over : Over
    over = record { signature = g ++ Family f ∷ []; fuel = fuel; depth = depth }

    pub data-gives : (ks : List (ConDecl Term)) → Lines (g ++ Family f ∷ []) (length (fams g)) ss (Gives ks) → WrittenFamilyOf g fuel depth d (Gives (rules.data_of f ks))
    data-gives ks k =
        subst (λ (D : Resolved). WrittenFamilyOf g fuel depth D (Gives (rules.data_of f ks))) (sym is)
        (goes_on f heading (read-next over (con_lines (length (fams g)) f (map (line_meaning (g ++ Family f ∷ [])) ss)) (λ ks. gives (rules.data_of f ks)) ks (Gives (rules.data_of f ks)) k refl))

    pub data-refused : (e : Refusal) → Lines (g ++ Family f ∷ []) (length (fams g)) ss (Refuses e) → WrittenFamilyOf g fuel depth d (Refuses e)
    data-refused e k =
        subst (λ (D : Resolved). WrittenFamilyOf g fuel depth D (Refuses e)) (sym is)
        (goes_on f heading (read-first over (con_lines (length (fams g)) f (map (line_meaning (g ++ Family f ∷ [])) ss)) (λ ks. gives (rules.data_of f ks)) e k))

-- the data type over a later pool
pub data-in : (q P : Pool) (h : Heading) (ks : List (ConDecl ℕ)) → Extends q P → IsHeading q h → fam_map (tree P) (data_of h ks) ≡ rules.data_of (heading_in q h) (map (con_map (tree P)) ks)
data-in q P h ks e w =
    let a = telescope-stays q P h.params.items e w.params in
    let b = telescope-stays q P h.indices.items e w.indices in
    cc (a, b)

pub data-within : (q P : Pool) (h : Heading) (ks : List (ConDecl ℕ)) → Extends q P → IsHeading q h → AreCons P ks → AllFamily (λ t. t < length P.trees) (data_of h ks)
data-within q P h ks e w a = record { params = entries-weaker q P h.params.items e w.params; indices = entries-weaker q P h.indices.items e w.indices; cons = a; fields = tt }

-- ---- a record declaration after its heading

module _ (g : Signature Term) (fuel depth : ℕ) (d : Resolved) (f : FamDecl Term) where
  abbrev pub Fields : Signature Term → List ResolvedSignature → Outcome Refusal (Telescope Term) → Type 0
  Fields G ss = Comes G fuel depth (field_lines f.level (inside f.params []) (map (line_meaning G) ss))

  module _ (p : _) (x : _) (bs : _) (t : _) (items : List ResolvedItem) (is : d ≡ decl.Record p x bs t items) (h : HeadingOf g fuel depth d (Gives f)) where
    heading_read : HeadingOf g fuel depth (decl.Record p x bs t items) (Gives f)
    heading_read = subst (λ (k : Resolved). HeadingOf g fuel depth k (Gives f)) is h

    abbrev known : Over
    known = record { signature = g ++ Family f ∷ []; fuel = fuel; depth = depth }

    abbrev lines : Reads (Telescope Term)
    lines = field_lines f.level (inside f.params []) (map (line_meaning (g ++ Family f ∷ [])) (lines_of items))

    pub record-gives : (fs : Telescope Term) → Fields (g ++ Family f ∷ []) (lines_of items) (Gives fs) → WrittenFamilyOf g fuel depth d (Gives (rules.record_of (length (fams g)) f items fs))
    record-gives fs k =
        subst (λ (D : Resolved). WrittenFamilyOf g fuel depth D (Gives (rules.record_of (length (fams g)) f items fs))) (sym is)
        (goes_on f heading_read (read-next known lines (λ fs. gives (rules.record_of (length (fams g)) f items fs)) fs (Gives (rules.record_of (length (fams g)) f items fs)) k refl))

    pub record-refused : (e : Refusal) → Fields (g ++ Family f ∷ []) (lines_of items) (Refuses e) → WrittenFamilyOf g fuel depth d (Refuses e)
    record-refused e k =
        subst (λ (D : Resolved). WrittenFamilyOf g fuel depth D (Refuses e)) (sym is)
        (goes_on f heading_read (read-first known lines (λ fs. gives (rules.record_of (length (fams g)) f items fs)) e k))

-- the record over a later pool
pub record-in : (q P : Pool) (h : Heading) (n : ℕ) (items : List ResolvedItem) (fs : List (Entry ℕ)) → Extends q P → IsHeading q h
    → fam_map (tree P) (record_of h (rules.con_name items) fs (rules.has_eta n (rules.is_coinductive items) (telescope_map (tree P) fs)) (rules.is_coinductive items)) ≡ rules.record_of n (heading_in q h) items (telescope_map (tree P) fs)
record-in q P h n items fs e w =
    let a = telescope-stays q P h.params.items e w.params in
    let b = telescope-stays q P h.indices.items e w.indices in
    cc (a, b)

pub record-within : (q P : Pool) (h : Heading) (x : Option ℕ) (fs : List (Entry ℕ)) (eta k : Bool) → Extends q P → IsHeading q h → AllEntries (λ t. t < length P.trees) fs → AllFamily (λ t. t < length P.trees) (record_of h x fs eta k)
record-within q P h x fs eta k e w a = record {
  params = entries-weaker q P h.params.items e w.params;
  indices = entries-weaker q P h.indices.items e w.indices;
  cons = (record { args = a; indices = tt }, tt);
  fields = a;
}
