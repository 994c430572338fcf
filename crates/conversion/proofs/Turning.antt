-- What the head forms ask for, seen from the pool before.
use Rattle.std.specs.Prelude.{◌≡◌, ℕ, ◌<◌, List, [], ◌∷◌, ◌++◌, length, map, reverse, Option, None}
use Rattle.std.proofs.Common.{sym, ap, ◌∙◌, subst, subst₂, arith, inl, inr}
use Rattle.el_base.proofs.Throughout.{all-reverse}
use Rattle.core_rules.specs.Term.{Term}
use Rattle.core_rules.specs.Signature.{Signature}
use Rattle.core_rules.specs.Heads.{Solutions, Bounded, HeadOf}
use Rattle.term_pool.specs.Pool.{Pool, Extends, tree}
use Rattle.core_terms.specs.Signature.{Stands, signature_in}
use Rattle.core_terms.specs.Solutions.{AreIn, solved_in, solved_in-stays}
use Rattle.term_pool.specs.Growth.{Extends-tree}
use Rattle.core_terms.proofs.SignatureGrowth.{signature_in-extends}
use Rattle.conversion.specs.declared.outcome.Outcome.{Outcome}
use Rattle.conversion.specs.declared.outcome.Outcome.TheVariants.{Parts}
use Rattle.conversion.specs.Part.{PartBelow}
use Rattle.conversion.specs.Outcome.{HaveOutcome}
use Rattle.core_rules.specs.Bounded as B
use Rattle.core_rules.specs.Bounded.{ConvOf, below}
use Rattle.conversion.specs.declared.pending.Work.{Work}
use Rattle.conversion.specs.Table.{Depths, yes_at}
use Rattle.std.proofs.lemmas.List.{reverse-append}
use Rattle.el_base.proofs.Lists.{map-reverse}
use Rattle.conversion.specs.declared.arguments.Part.{Part}
use Rattle.conversion.specs.Pending.{Going, InTurn, Item, work_of}
use Rattle.conversion.proofs.Verdicts.{below_none}
use Rattle.conversion.proofs.Moves.{HaveParts}

module _ {p q : Pool} (e : Extends p q) (sig : Signature ℕ) (stands : Stands p sig) (f : ℕ → Option ℕ) (known : AreIn p f) where
  pub from_both : (P : Signature Term → Solutions → Type 0) → P (signature_in q sig) (solved_in q f) → P (signature_in p sig) (solved_in p f)
  from_both P h = subst₂ P (signature_in-extends p q sig e stands) (solved_in-stays p q f e known) h

  pub to_both : (P : Signature Term → Solutions → Type 0) → P (signature_in p sig) (solved_in p f) → P (signature_in q sig) (solved_in q f)
  to_both P h = subst₂ P (sym (signature_in-extends p q sig e stands)) (sym (solved_in-stays p q f e known)) h

  pub head_at : (t fuel : ℕ) (b : Bounded) → t < length p.trees → HeadOf (signature_in q sig) (solved_in q f) (tree q t) fuel b → HeadOf (signature_in p sig) (solved_in p f) (tree p t) fuel b
  head_at t fuel b l h = subst (λ x. HeadOf (signature_in p sig) (solved_in p f) x fuel b) (Extends-tree t e l) (from_both (λ g s. HeadOf g s (tree q t) fuel b) h)

  pub outcome_at : (fuel t u : ℕ) (r : Pool) (o : Outcome) → t < length p.trees → u < length p.trees → HaveOutcome (signature_in q sig) (solved_in q f) fuel (tree q t) (tree q u) r o
      → HaveOutcome (signature_in p sig) (solved_in p f) fuel (tree p t) (tree p u) r o
  outcome_at fuel t u r o l k h =
      subst₂ (λ x y. HaveOutcome (signature_in p sig) (solved_in p f) fuel x y r o) (Extends-tree t e l) (Extends-tree u e k)
      (from_both (λ g s. HaveOutcome g s fuel (tree q t) (tree q u) r o) h)

pub have_parts : (g : Signature Term) (s : Solutions) (fuel : ℕ) (t u : Term) (p : Pool) (ps : _) → HaveOutcome g s fuel t u p (Parts ps) → HaveParts g s fuel t u p (reverse ps.items)
have_parts g s fuel t u p ps h = record { left = h.left; right = h.right; is_left = h.is_left; is_right = h.is_right; is = h.is; stands = all-reverse (PartBelow (length p.trees)) ps.items h.stands }

-- ---- the first pair

module _ (g : Signature Term) (s : Solutions) (fuel : ℕ) where
  pub started : (p : Pool) (m : Depths) (w : Work) → w.left < length p.trees → w.right < length p.trees → w.under ≡ 0 → ((i j : ℕ) → yes_at m i j ≡ None) → Going g s fuel p [] m (w ∷ [])
  started p m w l r u h = record {
    within = ((l, r, omega (arith, u)), tt);
    ordered = (tt, tt);
    kept = λ i j d e. absurd (let n = sym (h i j) ∙ e in cc);
  }

  pub only_leads : (i : Item) (v : B.Verdict) → i.path ≡ [] → InTurn g s fuel (i ∷ []) v → ConvOf g s fuel i.depth i.left i.right v
  only_leads i v e (inl h) = subst (ConvOf g s fuel i.depth i.left i.right) (sym h.1) h.0
  only_leads i v e (inr h) = subst (ConvOf g s fuel i.depth i.left i.right) (sym (h.3 ∙ ap (λ xs. below xs h.0) e ∙ below_none h.0)) h.1

-- the parts before the pairs that waited, the first one first
pub opened : (ws vs : List Work) (n d : ℕ) (ps : List Part) → vs ≡ ws ++ map (work_of n d) ps → map (work_of n d) (reverse ps) ++ reverse ws ≡ reverse vs
opened ws vs n d ps e = sym (ap reverse e ∙ reverse-append ws (map (work_of n d) ps) ∙ ap (λ l. l ++ reverse ws) (sym (map-reverse (work_of n d) ps)))
