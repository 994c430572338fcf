-- How deep patterns and case trees lead back to themselves: what stands in a list of them is less deep than the list.
use Rattle.std.proofs.Common.{◌≡◌, ℕ, ◌+◌, ◌<◌, ◌≤◌, List, [], ◌∷◌, length, drop, get_or, zero, suc, sym, ap, ◌∙◌, arith, Vec, Global}
use Rattle.el_base.proofs.Lists.{drop_next}
use Rattle.core_rules.specs.Signature.{CorePat, AndPat, ConBranches, OnField, NoCon}
use Rattle.core_terms.specs.Pattern.{pat_of, shape_of}
use Rattle.core_terms.specs.Patterns.{pats_of}
use Rattle.core_terms.specs.Sizes.{pat_size, pats_size, shape_size, tree_size, co_size, con_size as cons_size}
use Rattle.core_terms.specs.TreeView.{co_of, con_of, way_of}
use Rattle.core_terms.specs.declared.pattern.CorePat.TheInside.{Inside}
use Rattle.core_terms.specs.declared.pattern.PatShape.TheVariants as C
use Rattle.core_terms.specs.declared.tree.CoBranch.{CoBranch}
use Rattle.core_terms.specs.declared.tree.ConBranch.{ConBranch}
use Rattle.core_terms.specs.declared.tree.Way.{Way}
use Rattle.core_terms.specs.declared.tree.Way.TheVariants as W

-- ---- patterns

pub pats_next : (ps : List (CorePat ℕ)) (i : ℕ) (p : CorePat ℕ) → i < length ps → p ≡ get_or ps i p → pats_of (drop i ps) ≡ AndPat p (pats_of (drop (i + 1) ps))
pats_next ps i p l e = ap pats_of (drop_next ps i p l e)

pub size_at : (ps : List (CorePat ℕ)) (i : ℕ) (p : CorePat ℕ) → i < length ps → p ≡ get_or ps i p → pat_size p + 1 ≤ pats_size (pats_of ps)
size_at [] i p l e = absurd (omega (arith, l))
size_at (q ∷ ps) zero p l e = omega (arith, ap pat_size e)
size_at (q ∷ ps) (suc i) p l e = omega (arith, size_at ps i p (omega (arith, l)) e)

pub con_size : (i : Inside) (p : CorePat ℕ) (k : ℕ) (ps : Vec (CorePat ℕ) Global) → pat_of i ≡ p → i.shape ≡ C.Con k ps → pat_size p ≡ pats_size (pats_of ps.items)
con_size i p k ps e h = ap pat_size (sym e) ∙ ap (λ q. shape_size (shape_of q)) h

-- ---- case trees

pub co_next : (bs : List CoBranch) (i : ℕ) (b : CoBranch) → i < length bs → b ≡ get_or bs i b → co_of (drop i bs) ≡ OnField b.field b.rest (co_of (drop (i + 1) bs))
co_next bs i b l e = ap co_of (drop_next bs i b l e)

pub con_next : (bs : List ConBranch) (i : ℕ) (b : ConBranch) → i < length bs → b ≡ get_or bs i b → con_of (drop i bs) ≡ way_of b.con b.way (con_of (drop (i + 1) bs))
con_next bs i b l e = ap con_of (drop_next bs i b l e)

pub co_at : (bs : List CoBranch) (i : ℕ) (b : CoBranch) → i < length bs → b ≡ get_or bs i b → tree_size b.rest + 1 ≤ co_size (co_of bs)
co_at [] i b l e = absurd (omega (arith, l))
co_at (c ∷ bs) zero b l e = omega (arith, ap (λ (b : CoBranch). tree_size b.rest) e)
co_at (c ∷ bs) (suc i) b l e = omega (arith, co_at bs i b (omega (arith, l)) e)

way_more : (k : ℕ) (w : Way) (bs : ConBranches ℕ) → cons_size (way_of k w NoCon) + cons_size bs ≡ cons_size (way_of k w bs)
way_more k W.Refuted bs = omega arith
way_more k (W.Goes b t) bs = omega arith

pub con_at : (bs : List ConBranch) (i : ℕ) (b : ConBranch) → i < length bs → b ≡ get_or bs i b → cons_size (con_of (b ∷ [])) ≤ cons_size (con_of bs)
con_at [] i b l e = absurd (omega (arith, l))
con_at (c ∷ bs) zero b l e =
    let n = way_more c.con c.way (con_of bs) in
    let h = ap (λ (b : ConBranch). cons_size (con_of (b ∷ []))) e in
    omega (arith, n, h)
con_at (c ∷ bs) (suc i) b l e =
    let n = way_more c.con c.way (con_of bs) in
    let h = con_at bs i b (omega (arith, l)) e in
    omega (arith, n, h)
