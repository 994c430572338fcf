-- The function type that a head form is in code.
use Rattle.std.proofs.Common.{◌≡◌, ℕ, List, [], ◌∷◌, length, refl, ap, ap₂, sym, ◌∙◌, arith}
use Rattle.std.specs.Prelude.{true, Option, Some, None, is_some, reverse}
use Rattle.std.proofs.lemmas.List.{length-map, length-reverse}
use Rattle.core_rules.specs.declared.Flag.{Flag}
use Rattle.core_rules.specs.Term.{Term, Fam, Pi}
use Rattle.core_rules.specs.Elimination.{Elim}
use Rattle.core_rules.specs.Heads.{Answer, Form}
use Rattle.term_pool.specs.Pool.{node_tree}
use Rattle.term_pool.specs.declared.node.Node.{Node}
use Rattle.term_pool.specs.declared.node.Node.TheVariants as N
use Rattle.weak_head.specs.Elims.{elim_in, spine_in}
use Rattle.weak_head.specs.States.{answer_in}
use Rattle.weak_head.specs.declared.elim.Elim as E
use Rattle.weak_head.specs.declared.state.Applied as A

-- nothing is a function type that waits, or stands at eliminations, or has another head
abbrev NoFunction : Answer → Type 0
NoFunction w = (b : Flag) (x : ℕ) (s t : Term) → w ≡ Form (Pi b x s t) [] → ⊥

none-in : (f : ℕ → Term) (xs : List E.Elim) → spine_in f xs ≡ [] → xs ≡ []
none-in f [] e = refl
none-in f (x ∷ xs) e =
    let n : length (spine_in f (x ∷ xs)) ≡ 0 = ap (λ (es : List Elim). length es) e in
    absurd (omega (arith, n, length-map (reverse (x ∷ xs)) (elim_in f), length-reverse (x ∷ xs)))

module _ (f : ℕ → Term) (m : Option ℕ) (a : A.Applied) where
  pub applied-in : m ≡ None → answer_in f m a ≡ Form (f a.head) (spine_in f a.spine.items)
  applied-in e = ap (λ (o : Option ℕ). answer_in f o a) e

  pub not-waiting : is_some m ≡ true → NoFunction (answer_in f m a)
  not-waiting h b x s t e = by m h e
    where
      by : (o : Option ℕ) → is_some o ≡ true → answer_in f o a ≡ Form (Pi b x s t) [] → ⊥
      by None h e = absurd (cc h)
      by (Some i) h e = absurd (cc e)

  pub not-eliminated : m ≡ None → (a.spine.items ≡ [] → ⊥) → NoFunction (answer_in f m a)
  not-eliminated n h b x s t e =
      let k : Form (f a.head) (spine_in f a.spine.items) ≡ Form (Pi b x s t) [] = sym (applied-in n) ∙ e in
      let l : spine_in f a.spine.items ≡ [] = cc k in
      h (none-in f a.spine.items l)

  pub other-head : (n : Node) → m ≡ None → f a.head ≡ node_tree f n → ((b : Flag) (x s t : ℕ) → n ≡ N.Pi b x s t → ⊥) → NoFunction (answer_in f m a)
  other-head n i h o b x s t e =
      let k : Form (f a.head) (spine_in f a.spine.items) ≡ Form (Pi b x s t) [] = sym (applied-in i) ∙ e in
      let l : f a.head ≡ Pi b x s t = cc k in
      by n o (sym h ∙ l)
    where
      by : (n : Node) → ((b : Flag) (x s t : ℕ) → n ≡ N.Pi b x s t → ⊥) → node_tree f n ≡ Pi b x s t → ⊥
      by (N.Pi c y u v) o e = o c y u v refl
      by (N.Var i) o e = absurd (cc e)
      by (N.Sort i) o e = absurd (cc e)
      by (N.Lam c y u v) o e = absurd (cc e)
      by (N.App c u v) o e = absurd (cc e)
      by (N.Def k) o e = absurd (cc e)
      by (N.Fam k) o e = absurd (cc e)
      by (N.Con k u) o e = absurd (cc e)
      by (N.Proj k u) o e = absurd (cc e)
      by (N.Meta k u) o e = absurd (cc e)

  pub is-function : (b : Flag) (x : ℕ) (s t : Term) → m ≡ None → f a.head ≡ Pi b x s t → a.spine.items ≡ [] → answer_in f m a ≡ Form (Pi b x s t) []
  is-function b x s t n h e = applied-in n ∙ ap₂ Form h (ap (spine_in f) e)

  -- a family, or none

  pub other-family : (n : Node) → m ≡ None → f a.head ≡ node_tree f n → ((d : ℕ) → n ≡ N.Fam d → ⊥) → (d : ℕ) (es : List Elim) → answer_in f m a ≡ Form (Fam d) es → ⊥
  other-family n i h o d es e =
      let k : Form (f a.head) (spine_in f a.spine.items) ≡ Form (Fam d) es = sym (applied-in i) ∙ e in
      let l : f a.head ≡ Fam d = cc k in
      by n o (sym h ∙ l)
    where
      by : (n : Node) → ((d : ℕ) → n ≡ N.Fam d → ⊥) → node_tree f n ≡ Fam d → ⊥
      by (N.Fam k) o e = o k refl
      by (N.Pi c y u v) o e = absurd (cc e)
      by (N.Var i) o e = absurd (cc e)
      by (N.Sort i) o e = absurd (cc e)
      by (N.Lam c y u v) o e = absurd (cc e)
      by (N.App c u v) o e = absurd (cc e)
      by (N.Def k) o e = absurd (cc e)
      by (N.Con k u) o e = absurd (cc e)
      by (N.Proj k u) o e = absurd (cc e)
      by (N.Meta k u) o e = absurd (cc e)
