-- Telescopes and declarations over a pool: what stays as it grows, and what the places of a signature hold.
use Rattle.std.proofs.Common.{sym, ◌≡◌, ◌<◌, ℕ, List, [], ◌∷◌, length, map, Some, refl, ap, ◌∙◌, arith}
use Rattle.std.specs.Prelude.{option_map}
use Rattle.std.specs.List.{AllByRecursion}
use Rattle.std.proofs.lemmas.List.{length-map}
use Rattle.el_base.proofs.Throughout.{all-at, all-weaker, map-same}
use Rattle.core_rules.specs.Term.{Term}
use Rattle.core_rules.specs.Signature.{Entry, Signature, ConDecl, FamDecl, Postulate, Family, Open, Function, defs, def_decl, fams, fam_decl}
use Rattle.core_rules.specs.Mapped.{AllCon, AllDecl, AllFamily, AllEntries, con_map, decl_map, entry_map, telescope_map, fam_map}
use Rattle.core_rules.proofs.Heads.Mapped.{fam_decl-map, con_counts-map}
use Rattle.core_terms.specs.declared.signature.DefEntry.{DefEntry}
use Rattle.core_terms.specs.declared.signature.DefState.{DefState}
use Rattle.core_terms.specs.declared.signature.DefState.TheVariants as state
use Rattle.term_pool.specs.Pool.{Pool, Extends, tree}
use Rattle.term_pool.specs.Growth.{Extends-length, Extends-tree}
use Rattle.term_pool.specs.Placed.{items-stay}
use Rattle.core_terms.specs.Signature.{entry_decl, state_decl, Stands, signature_in}
use Rattle.core_terms.proofs.SignatureGrowth.{defs-map}

-- ids that stand in a pool stand in a later one
pub all-grown : (p q : Pool) (ts : List ℕ) → Extends p q → AllByRecursion (λ i. i < length p.trees) ts → AllByRecursion (λ i. i < length q.trees) ts
all-grown p q ts h a = all-weaker _ _ (λ (i : ℕ) (l : i < length p.trees). omega (arith, Extends-length h, l)) ts a

pub entries-weaker : (p q : Pool) (es : List (Entry ℕ)) → Extends p q → AllEntries (λ t. t < length p.trees) es → AllEntries (λ t. t < length q.trees) es
entries-weaker p q es e a = all-weaker _ _ (λ (x : Entry ℕ) (l : x.ty < length p.trees). omega (arith, Extends-length e, l)) es a

pub telescope-stays : (p q : Pool) (es : List (Entry ℕ)) → Extends p q → AllEntries (λ t. t < length p.trees) es → telescope_map (tree q) es ≡ telescope_map (tree p) es
telescope-stays p q es e a =
    map-same (λ (x : Entry ℕ). x.ty < length p.trees) (entry_map (tree q)) (entry_map (tree p)) (λ (x : Entry ℕ) (l : x.ty < length p.trees). ap (λ (t : Term). record { name = x.name; flag = x.flag; ty = t }) (Extends-tree x.ty e l)) es a

-- ---- postulates and functions

all_defs : (P : ℕ → Type 0) (g : Signature ℕ) → AllByRecursion (AllDecl P) g → AllByRecursion (AllDecl P) (defs g)
all_defs P [] a = tt
all_defs P (Postulate x b ∷ g) a = (a.0, all_defs P g a.1)
all_defs P (Family d ∷ g) a = all_defs P g a.1
all_defs P (Open x b ∷ g) a = (a.0, all_defs P g a.1)
all_defs P (Function x b qs T ∷ g) a = (a.0, all_defs P g a.1)

entry_holds : (P : ℕ → Type 0) (x a : ℕ) (s : DefState) → AllDecl P (state_decl x a s) → P a
entry_holds P x a state.Postulate h = h
entry_holds P x a state.Open h = h
entry_holds P x a (state.Closed qs T) h = h.0

pub def_within : (p : Pool) (g : Signature ℕ) (d : ℕ) (e : DefEntry) → Stands p g → def_decl g d ≡ Some (entry_decl e) → e.ty < length p.trees
def_within p g d e stands is = entry_holds (λ t. t < length p.trees) e.name e.ty e.state (all-at (AllDecl (λ t. t < length p.trees)) (defs g) d (entry_decl e) (all_defs _ g stands) is)

pub length-defs_in : (p : Pool) (g : Signature ℕ) → length (defs (signature_in p g)) ≡ length (defs g)
length-defs_in p g = ap length (defs-map (tree p) g) ∙ length-map (defs g) (decl_map (tree p))

-- ---- families

all_fams : (P : ℕ → Type 0) (g : Signature ℕ) → AllByRecursion (AllDecl P) g → AllByRecursion (AllFamily P) (fams g)
all_fams P [] a = tt
all_fams P (Postulate x b ∷ g) a = all_fams P g a.1
all_fams P (Family d ∷ g) a = (a.0, all_fams P g a.1)
all_fams P (Open x b ∷ g) a = all_fams P g a.1
all_fams P (Function x b qs T ∷ g) a = all_fams P g a.1

pub fam_within : (p : Pool) (g : Signature ℕ) (d : ℕ) (decl : FamDecl ℕ) → Stands p g → fam_decl g d ≡ Some decl → AllFamily (λ t. t < length p.trees) decl
fam_within p g d decl stands is = all-at (AllFamily (λ t. t < length p.trees)) (fams g) d decl (all_fams (λ t. t < length p.trees) g stands) is

pub length-fams_in : (p : Pool) (g : Signature ℕ) → length (fams (signature_in p g)) ≡ length (fams g)
length-fams_in p g =
    sym (length-map (fams (signature_in p g)) (λ d. length d.cons)) ∙ (ap length (con_counts-map (tree p) g) ∙ length-map (fams g) (λ d. length d.cons))

pub fam_in : (p : Pool) (g : Signature ℕ) (d : ℕ) (decl : FamDecl ℕ) → fam_decl g d ≡ Some decl → fam_decl (signature_in p g) d ≡ Some (fam_map (tree p) decl)
fam_in p g d decl e = fam_decl-map (tree p) g d ∙ ap (option_map (fam_map (tree p))) e

-- ---- a family that is not yet declared

module _ (p q : Pool) (e : Extends p q) where
  pub con-stays : (k : ConDecl ℕ) → AllCon (λ t. t < length p.trees) k → con_map (tree q) k ≡ con_map (tree p) k
  con-stays k a = cc (telescope-stays p q k.args e a.args, items-stay p q k.indices e a.indices)

  cons-stay : (ks : List (ConDecl ℕ)) → AllByRecursion (AllCon (λ t. t < length p.trees)) ks → map (con_map (tree q)) ks ≡ map (con_map (tree p)) ks
  cons-stay [] a = refl
  cons-stay (k ∷ ks) a = cc (con-stays k a.0, cons-stay ks a.1)

  pub fam-stays : (d : FamDecl ℕ) → AllFamily (λ t. t < length p.trees) d → fam_map (tree q) d ≡ fam_map (tree p) d
  fam-stays d a = cc (telescope-stays p q d.params e a.params, telescope-stays p q d.indices e a.indices, cons-stay d.cons a.cons, telescope-stays p q d.fields e a.fields)

  pub con-within : (k : ConDecl ℕ) → AllCon (λ t. t < length p.trees) k → AllCon (λ t. t < length q.trees) k
  con-within k a = record { args = entries-weaker p q k.args e a.args; indices = all-weaker _ _ (λ (t : ℕ) (l : t < length p.trees). omega (arith, Extends-length e, l)) k.indices a.indices }

  pub fam-within : (d : FamDecl ℕ) → AllFamily (λ t. t < length p.trees) d → AllFamily (λ t. t < length q.trees) d
  fam-within d a = record {
    params = entries-weaker p q d.params e a.params;
    indices = entries-weaker p q d.indices e a.indices;
    cons = all-weaker _ _ (λ (k : ConDecl ℕ) (h : AllCon (λ t. t < length p.trees) k). con-within k h) d.cons a.cons;
    fields = entries-weaker p q d.fields e a.fields;
  }
