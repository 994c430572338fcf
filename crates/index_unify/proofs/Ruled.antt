-- The rule for the first equation, from head forms and a verdict that are taken with solutions.
use Rattle.std.specs.Prelude.{◌≡◌, ℕ, ◌<◌, List, ◌∷◌, length, map, Option, Some, None}
use Rattle.std.specs.List.{AllByRecursion}
use Rattle.std.proofs.Common.{sym, ◌∙◌, subst}
use Rattle.el_base.proofs.Throughout.{map-same}
use Rattle.core_rules.specs.Term.{Term}
use Rattle.core_rules.specs.Substitution.{replace}
use Rattle.core_rules.specs.Signature.{Signature}
use Rattle.core_rules.specs.Mapped.{signature_map}
use Rattle.core_rules.specs.InScope.{IsAcyclic}
use Rattle.core_rules.specs.Heads.{Solutions, Answer, Bounded, Within, Out, HeadOf}
use Rattle.core_rules.specs.Bounded as B
use Rattle.core_rules.specs.Bounded.{Verdict, ConvOf, full}
use Rattle.core_rules.specs.BoundedLaws.{no_solutions, IsFull, shown, replace_bounded, replace_verdict}
use Rattle.core_rules.specs.Unification.{eq, St}
use Rattle.core_rules.proofs.Heads.FullSolutions.{weaker, replace_alike, nothing_to_replace, full_is_full}
use Rattle.core_rules.proofs.Heads.InFull.{none_left}
use Rattle.core_rules.proofs.Heads.ReplacedVerdict.{head_of_image}
use Rattle.unify_rules.specs.Unifier as O
use Rattle.unify_rules.specs.Unifier.{Turn, out_left, out_right, Ruled, Applies, after}
use Rattle.unify_rules.proofs.WithSolutions.{turn_by}
use Rattle.term_pool.specs.Pool.{Pool, tree, Extends}
use Rattle.term_pool.specs.Growth.{Extends-tree, Extends-trans}
use Rattle.core_terms.specs.Signature.{Stands, signature_in}
use Rattle.core_terms.specs.Solutions.{AreIn, solved_in, solved_in-stays, IsInstance, IsInstance-stays}
use Rattle.core_terms.proofs.SignatureGrowth.{signature_in-extends}
use Rattle.conversion.specs.declared.conv.Conv.{Conv}
use Rattle.conversion.specs.declared.conv.Conv.TheVariants as C
use Rattle.conversion.specs.Conv.{IsVerdict}
use Rattle.index_unify.specs.declared.equation.Equation.{Equation}
use Rattle.index_unify.specs.Unified.{EquationStands}
use Rattle.index_unify.specs.State.{IsSettled, EquationSettled}
use Rattle.index_unify.specs.Rules.{IsRuling, RuledBy, IsFormOf, IsForm}

-- what holds of the signature and the solutions in a pool holds of them in a larger one, and the other way round
module _ {p q : Pool} (e : Extends p q) (sig : Signature ℕ) (stands : Stands p sig) (f : ℕ → Option ℕ) (known : AreIn p f) where
  pub to_larger : (P : Signature Term → Solutions → Type 0) → P (signature_in p sig) (solved_in p f) → P (signature_in q sig) (solved_in q f)
  to_larger P h = subst (λ g. P g (solved_in q f)) (sym (signature_in-extends p q sig e stands)) (subst (λ s. P (signature_in p sig) s) (sym (solved_in-stays p q f e known)) h)

  pub to_smaller : (P : Signature Term → Solutions → Type 0) → P (signature_in q sig) (solved_in q f) → P (signature_in p sig) (solved_in p f)
  to_smaller P h = subst (λ g. P g (solved_in p f)) (signature_in-extends p q sig e stands) (subst (λ s. P (signature_in q sig) s) (solved_in-stays p q f e known) h)

module _ {p q : Pool} (e : Extends p q) (f : ℕ → Option ℕ) (known : AreIn p f) where
  pub solved_larger : (P : Solutions → Type 0) → P (solved_in p f) → P (solved_in q f)
  solved_larger P h = subst P (sym (solved_in-stays p q f e known)) h

  pub solved_smaller : (P : Solutions → Type 0) → P (solved_in q f) → P (solved_in p f)
  solved_smaller P h = subst P (solved_in-stays p q f e known) h

-- ---- settled terms

module _ (s f : Solutions) (x : IsFull s f) where
  pub settled_same : (t : Term) → IsSettled s t → replace f t ≡ t
  settled_same t h = replace_alike f no_solutions t (weaker (λ m. s m ≡ None) (λ m. f m ≡ None) (λ m e. x.unsolved m e) t h) ∙ nothing_to_replace.1 t

pub instance_settled : (s : Solutions) (a : IsAcyclic s) (p : Pool) (t : Term) (r : ℕ) → IsInstance p s t r → IsSettled s (tree p r)
instance_settled s a p t r i = subst (IsSettled s) (sym (i.is (full s a) (full_is_full s a))) (none_left s (full s a) a (full_is_full s a) t)

-- ---- turns

module _ (g : Signature Term) (s : Solutions) (a : IsAcyclic s) (fuel depth : ℕ) (ts : List Term) (t u : Term) (left : IsSettled s t) (right : IsSettled s u) where
  at_image : (f : Solutions) (x : IsFull s f) (w : Term) → IsSettled s w → (b : Bounded) → HeadOf g s w fuel b → HeadOf (signature_map (replace f) g) no_solutions w fuel (replace_bounded f b)
  at_image f x w h b d = subst (λ v. HeadOf (signature_map (replace f) g) no_solutions v fuel (replace_bounded f b)) (settled_same s f x w h) (head_of_image g s f x a w fuel b d)

  pub out_on_left : HeadOf g s t fuel Out → IsRuling g s fuel depth ts t u (O.Ends O.OutOfFuel)
  out_on_left h f x es ss = out_left (at_image f x t left Out h)

  pub out_on_right : (v : Answer) (n : ℕ) → HeadOf g s t fuel (Within v n) → HeadOf g s u fuel Out → IsRuling g s fuel depth ts t u (O.Ends O.OutOfFuel)
  out_on_right v n h k f x es ss = out_right (at_image f x t left (Within v n) h) (at_image f x u right Out k)

  pub by_verdict : (v w : Answer) (n m : ℕ) (q : Verdict) (r : O.Rule) → HeadOf g s t fuel (Within v n) → HeadOf g s u fuel (Within w m) → ConvOf g s fuel depth t u q
      → ((f : Solutions) → IsFull s f → Ruled ts (replace f (shown v)) (replace f (shown w)) (replace_verdict f q) r) → IsRuling g s fuel depth ts t u r
  by_verdict v w n m q r h k c d f x es ss =
      subst (λ y. Turn (signature_map (replace f) g) fuel depth (St ts (eq y u ∷ es) ss) (after r ts es ss)) (settled_same s f x t left)
      (subst (λ y. Turn (signature_map (replace f) g) fuel depth (St ts (eq (replace f t) y ∷ es) ss) (after r ts es ss)) (settled_same s f x u right)
      (turn_by g s f fuel depth ts t u es ss v w n m q r x a h k c (d f x)))

-- ---- head forms in a pool

module _ (g : Signature Term) (s : Solutions) (a : IsAcyclic s) (t : Term) (fuel : ℕ) (p : Pool) (r : ℕ) (h : IsFormOf g s t fuel p r) where
  pub form_settled : IsSettled s (tree p r)
  form_settled = instance_settled s a p (shown h.answer) r h.stands

pub form_larger : (g : Signature Term) (s : Solutions) (t : Term) (fuel : ℕ) (p q : Pool) (r : ℕ) → Extends p q → IsFormOf g s t fuel p r → IsFormOf g s t fuel q r
form_larger g s t fuel p q r e h = record { answer = h.answer; steps = h.steps; is = h.is; stands = IsInstance-stays e h.stands }

-- the rule for the two head forms is that for the answers that they show
pub applies_to : (ts : List Term) (s f : Solutions) (x : IsFull s f) (p : Pool) (v w : Answer) (l r : ℕ) (rule : O.Rule) → IsInstance p s (shown v) l → IsInstance p s (shown w) r → Applies ts (tree p l) (tree p r) rule
    → Applies ts (replace f (shown v)) (replace f (shown w)) rule
applies_to ts s f x p v w l r rule i j d = subst (λ y. Applies ts y (replace f (shown w)) rule) (i.is f x) (subst (λ y. Applies ts (tree p l) y rule) (j.is f x) d)

-- ---- the rule by the verdict that an answer gives

module _ (g : Signature Term) (s : Solutions) (a : IsAcyclic s) (fuel depth : ℕ) (ts : List Term) (t u : Term) (left : IsSettled s t) (right : IsSettled s u) (p : Pool) (l r : ℕ) (h : IsFormOf g s t fuel p l) (k : IsFormOf g s u fuel p r) where
  by_answer : (c : Conv) (rule : O.Rule) → IsVerdict (ConvOf g s fuel depth t u) p c → RuledBy ts (tree p l) (tree p r) p c rule → IsRuling g s fuel depth ts t u rule
  by_answer C.Yes rule v d = by_verdict g s a fuel depth ts t u left right h.answer k.answer h.steps k.steps B.Yes rule h.is k.is v (λ f x. d)
  by_answer (C.No i j xs) rule v d =
      by_verdict g s a fuel depth ts t u left right h.answer k.answer h.steps k.steps (B.No (tree p i) (tree p j) xs) rule h.is k.is v.is (λ f x. applies_to ts s f x p h.answer k.answer l r rule h.stands k.stands d)
  by_answer C.OutOfFuel rule v d = by_verdict g s a fuel depth ts t u left right h.answer k.answer h.steps k.steps B.OutOfFuel rule h.is k.is v (λ f x. d)
  by_answer C.OutOfDepth rule v d = by_verdict g s a fuel depth ts t u left right h.answer k.answer h.steps k.steps B.OutOfDepth rule h.is k.is v (λ f x. d)
  by_answer (C.Blocked m) rule v d =
      by_verdict g s a fuel depth ts t u left right h.answer k.answer h.steps k.steps (B.WaitsFor m) rule h.is k.is v (λ f x. applies_to ts s f x p h.answer k.answer l r rule h.stands k.stands d)
  by_answer C.NoMemory rule v d = absurd d

-- ---- from pool to pool

module _ {p p1 p2 : Pool} (e1 : Extends p p1) (e2 : Extends p1 p2) (sig : Signature ℕ) (stands : Stands p sig) (F : ℕ → Option ℕ) (known : AreIn p F) (a : IsAcyclic (solved_in p F)) (fuel depth : ℕ)
    (types : List ℕ) (below : AllByRecursion (λ i. i < length p.trees) types) (e : Equation) (inside : EquationStands (length p.trees) e) (settled : EquationSettled (solved_in p F) p e) where
  abbrev G : Signature Term
  G = signature_in p sig

  abbrev S : Solutions
  S = solved_in p F

  -- the second form is taken in the pool that has the first
  module _ (o : Option ℕ) (h : IsForm (signature_in p1 sig) (solved_in p1 F) (tree p1 e.right) fuel p2 o) where
    pub second_form : IsForm G S (tree p e.right) fuel p2 o
    second_form = subst (λ t. IsForm G S t fuel p2 o) (Extends-tree e.right e1 inside.1) (to_smaller e1 sig stands F known (λ g s. IsForm g s (tree p1 e.right) fuel p2 o) h)

  pub rule_out_on_right : (l : ℕ) → IsFormOf G S (tree p e.left) fuel p1 l → IsForm (signature_in p1 sig) (solved_in p1 F) (tree p1 e.right) fuel p2 None
      → IsRuling G S fuel depth (map (tree p) types) (tree p e.left) (tree p e.right) (O.Ends O.OutOfFuel)
  rule_out_on_right l h k = out_on_right G S a fuel depth (map (tree p) types) (tree p e.left) (tree p e.right) settled.0 settled.1 h.answer h.steps h.is (second_form None k)

  module _ {p3 : Pool} (e3 : Extends p2 p3) (l r : ℕ) (h : IsFormOf G S (tree p e.left) fuel p1 l) (k : IsForm (signature_in p1 sig) (solved_in p1 F) (tree p1 e.right) fuel p2 (Some r)) where
    pub left_settled : IsSettled S (tree p3 l)
    left_settled = form_settled G S a (tree p e.left) fuel p3 l (form_larger G S (tree p e.left) fuel p1 p3 l (Extends-trans e2 e3) h)

    pub right_settled : IsSettled S (tree p3 r)
    right_settled = form_settled G S a (tree p e.right) fuel p3 r (form_larger G S (tree p e.right) fuel p2 p3 r e3 (second_form (Some r) k))

    pub rule_found : (c : Conv) (rule : O.Rule) → IsVerdict (ConvOf (signature_in p2 sig) (solved_in p2 F) fuel depth (tree p2 e.left) (tree p2 e.right)) p3 c → RuledBy (map (tree p3) types) (tree p3 l) (tree p3 r) p3 c rule
        → IsRuling G S fuel depth (map (tree p) types) (tree p e.left) (tree p e.right) rule
    rule_found c rule v d =
        let e12 = Extends-trans e1 e2 in
        let w : IsVerdict (ConvOf G S fuel depth (tree p e.left) (tree p e.right)) p3 c =
        subst (λ t. IsVerdict (ConvOf G S fuel depth t (tree p e.right)) p3 c) (Extends-tree e.left e12 inside.0)
        (subst (λ u. IsVerdict (ConvOf G S fuel depth (tree p2 e.left) u) p3 c) (Extends-tree e.right e12 inside.1)
        (to_smaller e12 sig stands F known (λ g s. IsVerdict (ConvOf g s fuel depth (tree p2 e.left) (tree p2 e.right)) p3 c) v)) in
        let ts : map (tree p3) types ≡ map (tree p) types = map-same (λ i. i < length p.trees) (tree p3) (tree p) (λ i b. Extends-tree i (Extends-trans e12 e3) b) types below in
        by_answer G S a fuel depth (map (tree p) types) (tree p e.left) (tree p e.right) settled.0 settled.1 p3 l r
        (form_larger G S (tree p e.left) fuel p1 p3 l (Extends-trans e2 e3) h) (form_larger G S (tree p e.right) fuel p2 p3 r e3 (second_form (Some r) k)) c rule w
        (subst (λ ts. RuledBy ts (tree p3 l) (tree p3 r) p3 c rule) ts d)
