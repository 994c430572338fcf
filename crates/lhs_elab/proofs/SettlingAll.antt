-- The patterns of a left side are settled one after the other.
use Rattle.std.proofs.Common.{◌≡◌, ◌<◌, ℕ, ◌+◌, suc, List, [], ◌∷◌, ◌++◌, length, map, refl, ap, ap₂, sym, ◌∙◌, append_assoc, append-nil, arith}
use Rattle.std.specs.Prelude.{Bool}
use Rattle.std.proofs.lemmas.List.{length-append, length-map}
use Rattle.core_rules.specs.Term.{Term}
use Rattle.core_rules.specs.Signature.{CorePat, CorePats, Dot, AndPat, Solved, VarPat, SolvedPat}
use Rattle.core_rules.specs.Mapped.{AllPat, AllPats, dot_map, pat_map, pats_map}
use Rattle.core_terms.specs.Pattern.{origin_of}
use Rattle.core_terms.specs.Patterns.{pats_of}
use Rattle.core_terms.specs.declared.pattern.Origin.{Origin as CodeOrigin}
use Rattle.core_terms.specs.declared.pattern.Origin.TheVariants as O
use Rattle.cover_rules.specs.LeftSide.{Held, pat_named, pat_values, pats_named, pats_values, solved_name}
use Rattle.lhs_rules.specs.Patterns.{dots_from, pat_dotted, pats_dotted, pats_in, settled_pat, settled_pats, settled_value, settled_var}
use Rattle.lhs_rules.specs.Spots.{Left}
use Rattle.term_pool.specs.Pool.{tree}
use Rattle.lhs_elab.specs.declared.settle.Settler.{Settler}
use Rattle.lhs_elab.specs.Settled.{IsSettling, Grows, dots_of, left_of, named_of}
use Rattle.lhs_elab.proofs.Patterns.{joined-map, pats-below, pats-next}
use Rattle.lhs_elab.proofs.Settling.{settled-left, settles-trans}
use Rattle.lhs_elab.proofs.Visiting.{joined}

-- ---- by where a pattern comes from

pub var-settled : (o : CodeOrigin) → (o ≡ O.Written → ⊥) → (k : ℕ) (v : Held) → settled_var (origin_of o) k v ≡ VarPat k
var-settled O.Written n k v = absurd (n refl)
var-settled (O.Variable x fresh) n k v = refl
var-settled O.Underscore n k v = refl
var-settled O.Inserted n k v = refl

pub value-settled : (o : CodeOrigin) → (o ≡ O.Written → ⊥) → (v : Held) → settled_value (origin_of o) v ≡ SolvedPat v
value-settled O.Written n v = absurd (n refl)
value-settled (O.Variable x fresh) n v = refl
value-settled O.Underscore n v = refl
value-settled O.Inserted n v = refl

pub no-name : (o : CodeOrigin) → ((x : ℕ) (fresh : Bool) → o ≡ O.Variable x fresh → ⊥) → (v : Held) → solved_name v (origin_of o) ≡ []
no-name O.Written n v = refl
no-name (O.Variable x fresh) n v = absurd (n x fresh refl)
no-name O.Underscore n v = refl
no-name O.Inserted n v = refl

-- ---- dots

dots-length : (n : ℕ) (vs : List Held) → length (dots_from n vs) ≡ length vs
dots-length n [] = refl
dots-length n (v ∷ vs) = ap suc (dots-length (n + 1) vs)

dots-append : (n : ℕ) (us vs : List Held) → dots_from n (us ++ vs) ≡ dots_from n us ++ dots_from (n + length us) vs
dots-append n [] vs = let e : n ≡ n + 0 = omega arith in ap (λ (m : ℕ). dots_from m vs) e
dots-append n (u ∷ us) vs =
    let e : n + 1 + length us ≡ n + suc (length us) = omega arith in
    ap (λ (ds : List (Dot Term)). record { at = n; value = u.value; ty = u.ty } ∷ ds) (dots-append (n + 1) us vs ∙ ap (λ (m : ℕ). dots_from (n + 1) us ++ dots_from m vs) e)

-- ---- so far

-- made is what the first of all the patterns are, and left are the others
pub record SettledTo (x v : Settler) (all made left : List (CorePat ℕ)) : Type 0 where
  pub grows : Grows x v
  pub ready : IsSettling v
  pub named : named_of v ++ pats_named (settled_pats (left_of x) (pats_of left)) ≡ named_of x ++ pats_named (settled_pats (left_of x) (pats_of all))
  pub dots : dots_of v ++ dots_from (length v.dots.now.items) (pats_dotted (settled_pats (left_of x) (pats_of left))) ≡ dots_of x ++ dots_from (length x.dots.now.items) (pats_dotted (settled_pats (left_of x) (pats_of all)))
  pub below : AllPats (λ t. t < length v.pool.now.trees) (pats_of made)
  pub is : joined (map (pat_map (tree v.pool.now)) made) (pats_values (settled_pats (left_of x) (pats_of left))) ≡ pats_values (settled_pats (left_of x) (pats_of all))

pub settled-first : (x : Settler) (all : List (CorePat ℕ)) → IsSettling x → Grows x x → SettledTo x x all [] all
settled-first x all r g = record { grows = g; ready = r; named = refl; dots = refl; below = tt; is = refl }

module _ (x v w : Settler) (all made left : List (CorePat ℕ)) (s : SettledTo x v all made left) (r : IsSettling x) where
  -- one more
  module _ (p : CorePat ℕ) (rest : List (CorePat ℕ)) (e : left ≡ p ∷ rest) (g : Grows v w) (ready : IsSettling w)
      (named : named_of w ≡ named_of v ++ pat_named (settled_pat (left_of v) p)) (dots : dots_of w ≡ dots_of v ++ dots_from (length v.dots.now.items) (pat_dotted (settled_pat (left_of v) p)))
      (new : List (CorePat ℕ)) (q : CorePat ℕ) (n : new ≡ made ++ q ∷ []) (below : AllPat (λ t. t < length w.pool.now.trees) q) (is : pat_map (tree w.pool.now) q ≡ pat_values (settled_pat (left_of v) p)) where
    abbrev L : Left
    L = left_of x

    abbrev P : CorePat Held
    P = settled_pat L p

    abbrev R : CorePats Held
    R = settled_pats L (pats_of rest)

    same : settled_pat (left_of v) p ≡ P
    same = ap (λ (l : Left). settled_pat l p) (settled-left x v r s.grows)

    count : length w.dots.now.items ≡ length v.dots.now.items + length (pat_dotted P)
    count =
        let a : length (dots_of w) ≡ length (dots_of v ++ dots_from (length v.dots.now.items) (pat_dotted P)) = ap (λ (ds : List (Dot Term)). length ds) (dots ∙ ap (λ (y : CorePat Held). dots_of v ++ dots_from (length v.dots.now.items) (pat_dotted y)) same) in
        omega (arith, a, length-append (dots_of v) (dots_from (length v.dots.now.items) (pat_dotted P)), dots-length (length v.dots.now.items) (pat_dotted P), length-map v.dots.now.items (dot_map (tree v.pool.now)), length-map w.dots.now.items (dot_map (tree w.pool.now)))

    pub settled-next : SettledTo x w all new rest
    settled-next = record {
      grows = settles-trans s.grows g;
      ready = ready;
      named =
          ap (λ (ns : List (Solved Term)). ns ++ pats_named R) (named ∙ ap (λ (y : CorePat Held). named_of v ++ pat_named y) same)
          ∙ (append_assoc (named_of v) (pat_named P) (pats_named R) ∙ (ap (λ (ps : List (CorePat ℕ)). named_of v ++ pats_named (settled_pats L (pats_of ps))) (sym e) ∙ s.named));
      dots =
          ap₂ (λ (ds : List (Dot Term)) (m : ℕ). ds ++ dots_from m (pats_dotted R)) (dots ∙ ap (λ (y : CorePat Held). dots_of v ++ dots_from (length v.dots.now.items) (pat_dotted y)) same) count
          ∙ (append_assoc (dots_of v) (dots_from (length v.dots.now.items) (pat_dotted P)) (dots_from (length v.dots.now.items + length (pat_dotted P)) (pats_dotted R))
          ∙ (ap (λ (ds : List (Dot Term)). dots_of v ++ ds) (sym (dots-append (length v.dots.now.items) (pat_dotted P) (pats_dotted R)))
          ∙ (ap (λ (ps : List (CorePat ℕ)). dots_of v ++ dots_from (length v.dots.now.items) (pats_dotted (settled_pats L (pats_of ps)))) (sym e) ∙ s.dots)));
      below = pats-below v.pool.now w.pool.now g.extends made new q n s.below below;
      is =
          pats-next v.pool.now w.pool.now g.extends made new q n s.below (pat_values P) (pats_values R) (is ∙ ap pat_values same)
          ∙ (ap (λ (ps : List (CorePat ℕ)). joined (map (pat_map (tree v.pool.now)) made) (pats_values (settled_pats L (pats_of ps)))) (sym e) ∙ s.is);
    }

  -- none is left
  module _ (e : left ≡ []) where
    pub named-all : named_of v ≡ named_of x ++ pats_named (settled_pats (left_of x) (pats_of all))
    named-all = sym (append-nil (named_of v)) ∙ (ap (λ (ps : List (CorePat ℕ)). named_of v ++ pats_named (settled_pats (left_of x) (pats_of ps))) (sym e) ∙ s.named)

    pub dots-all : dots_of v ≡ dots_of x ++ dots_from (length x.dots.now.items) (pats_dotted (settled_pats (left_of x) (pats_of all)))
    dots-all = sym (append-nil (dots_of v)) ∙ (ap (λ (ps : List (CorePat ℕ)). dots_of v ++ dots_from (length v.dots.now.items) (pats_dotted (settled_pats (left_of x) (pats_of ps)))) (sym e) ∙ s.dots)

    pub values-all : pats_map (tree v.pool.now) (pats_of made) ≡ pats_values (settled_pats (left_of x) (pats_of all))
    values-all =
        sym (joined-map (tree v.pool.now) made) ∙ (ap (λ (ps : List (CorePat ℕ)). joined (map (pat_map (tree v.pool.now)) made) (pats_values (settled_pats (left_of x) (pats_of ps)))) (sym e) ∙ s.is)

-- the patterns of the rules are those of code
pub pats-same : (ps : List (CorePat ℕ)) → pats_in ps ≡ pats_of ps
pats-same [] = refl
pats-same (p ∷ ps) = ap (AndPat p) (pats-same ps)
