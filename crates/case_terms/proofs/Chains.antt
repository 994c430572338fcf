-- Solutions of two metavariables of which the second leads to the first are acyclic; and branches below a number.
use Rattle.std.specs.Prelude.{◌≡◌, ℕ, ◌<◌, length, Bool, true, false, ◌||◌, Option, Some, None, option_map, zero, suc, refl}
use Rattle.std.proofs.Common.{subst}
use Rattle.std.proofs.lemmas.Option.{same_Some}
use Rattle.core_rules.specs.Term.{Term, Terms, Var, Sort, Pi, Lam, App, Def, Fam, Con, Proj, Meta, End, And, AllMetas, AllMetasIn}
use Rattle.core_rules.specs.InScope.{IsAcyclic}
use Rattle.core_rules.specs.Signature.{ConBranches, NoCon}
use Rattle.core_rules.specs.Mapped.{AllConBranches}
use Rattle.term_pool.specs.Pool.{Pool, tree}
use Rattle.term_pool.specs.Measures.{has_meta, has_meta_in}
use Rattle.core_terms.specs.Solutions.{AreIn, solved_in}
use Rattle.core_terms.specs.TreeView.{way_of}
use Rattle.core_terms.specs.declared.tree.Way.{Way}
use Rattle.core_terms.specs.declared.tree.Way.TheVariants as W
use Rattle.core_terms.proofs.SignatureGrowth.{Stands-extends}
use Rattle.case_terms.specs.Solved.{both_solved}

left_none : (a b : Bool) → a || b ≡ false → a ≡ false
left_none true b e = absurd cc
left_none false b e = refl

right_none : (a b : Bool) → a || b ≡ false → b ≡ false
right_none true b e = absurd cc
right_none false b e = e

-- a term without metavariables
module _ (P : ℕ → Type 0) where
  mutual
    pub no_metas : (t : Term) → has_meta t ≡ false → AllMetas P t
    no_metas (Var i) e = tt
    no_metas (Sort n) e = tt
    no_metas (Pi b x a t) e = (no_metas a (left_none (has_meta a) (has_meta t) e), no_metas t (right_none (has_meta a) (has_meta t) e))
    no_metas (Lam b x a t) e = (no_metas a (left_none (has_meta a) (has_meta t) e), no_metas t (right_none (has_meta a) (has_meta t) e))
    no_metas (App b t u) e = (no_metas t (left_none (has_meta t) (has_meta u) e), no_metas u (right_none (has_meta t) (has_meta u) e))
    no_metas (Def f) e = tt
    no_metas (Fam d) e = tt
    no_metas (Con k ts) e = no_metas_in ts e
    no_metas (Proj f t) e = no_metas t e
    no_metas (Meta m ts) e = absurd cc

    no_metas_in : (ts : Terms) → has_meta_in ts ≡ false → AllMetasIn P ts
    no_metas_in End e = tt
    no_metas_in (And t ts) e = (no_metas t (left_none (has_meta t) (has_meta_in ts) e), no_metas_in ts (right_none (has_meta t) (has_meta_in ts) e))

pub chain_in : (p : Pool) (a b : ℕ) → a < length p.trees → b < length p.trees → AreIn p (both_solved a b)
chain_in p a b l k = record { within = at }
  where
    at : (m i : ℕ) → both_solved a b m ≡ Some i → i < length p.trees
    at zero i e = subst (λ x. x < length p.trees) (same_Some a i e) l
    at (suc zero) i e = subst (λ x. x < length p.trees) (same_Some b i e) k
    at (suc (suc m)) i e = absurd cc

pub chain_acyclic : (p : Pool) (a b : ℕ) → AllMetas (λ k. k < 0) (tree p a) → AllMetas (λ k. k < 1) (tree p b) → IsAcyclic (solved_in p (both_solved a b))
chain_acyclic p a b h g = record { rank = λ k. k; falls = at }
  where
    at : (m : ℕ) (t : Term) → option_map (tree p) (both_solved a b m) ≡ Some t → AllMetas (λ k. k < m) t
    at zero t e = subst (AllMetas (λ k. k < 0)) (same_Some (tree p a) t e) h
    at (suc zero) t e = subst (AllMetas (λ k. k < 1)) (same_Some (tree p b) t e) g
    at (suc (suc m)) t e = absurd cc

abbrev pub none : ℕ → Option ℕ
none k = None

pub none_in : (p : Pool) → AreIn p none
none_in p = record { within = λ k j e. absurd cc }

pub none_acyclic : (p : Pool) → IsAcyclic (solved_in p none)
none_acyclic p = record { rank = λ k. 0; falls = λ k t e. absurd cc }

-- a branch in front of others
pub in_front : (P : ℕ → Type 0) (k : ℕ) (w : Way) (bs : ConBranches ℕ) → AllConBranches P (way_of k w NoCon) → AllConBranches P bs → AllConBranches P (way_of k w bs)
in_front P k W.Refuted bs h g = g
in_front P k (W.Goes b t) bs h g = (h.0, h.1, g)

pub ruleset chains = (no_metas, chain_in, chain_acyclic)

pub ruleset stands = (Stands-extends, none_in, none_acyclic)

pub ruleset branches = (in_front)
