-- The patterns of values that are held.
use Rattle.std.proofs.Common.{◌≡◌, ◌<◌, ◌++◌, [], ◌∷◌, ℕ, List, length, append-nil, ap, ap₂, sym, subst, ◌∙◌}
use Rattle.std.specs.Prelude.{Result, Ok, Err, IfOk, OnOk}
use Rattle.core_rules.specs.Signature.{Dot, DottedPat, Origin, PatShape, Solved, SolvedPat}
use Rattle.core_rules.specs.Term.{Term}
use Rattle.core_terms.specs.Pattern.{shape_of}
use Rattle.core_terms.specs.declared.pattern.PatShape.{PatShape as CodeShape}
use Rattle.cover_rules.specs.LeftSide.{Held, shape_named, solved_name}
use Rattle.lhs_rules.specs.Patterns.{dots_from, shape_dotted}
use Rattle.term_pool.specs.Pool.{tree}
use Rattle.lhs_elab.specs.declared.settle.Held.{Held as CodeHeld}
use Rattle.lhs_elab.specs.declared.settle.Settler.{Settler}
use Rattle.lhs_elab.specs.Settled.{Grows, HeldBelow, IsSettled, IsSettling, dots_of, held_in, named_of}
use Rattle.lhs_elab.proofs.Settling.{dots-kept, named-kept}

-- y is x after a value was found, z is y after its pattern was made
module _ {E : Type 0} (x y z : Settler) (ready : IsSettling x) (g : Grows x y) (named : y.named.now ≡ x.named.now) (dots : y.dots.now ≡ x.dots.now) (pool : z.pool ≡ y.pool) (h : CodeHeld) (below : HeldBelow (length y.pool.now.trees) h) (v : Held) (is : held_in (tree y.pool.now) h ≡ v) (o : Origin) (r : Result CodeShape E) where
  abbrev D : PatShape Held
  D = DottedPat v

  abbrev V : PatShape Held
  V = SolvedPat v

  pub dotted-named : OnOk r (named_of z ≡ named_of y) → OnOk r (named_of z ≡ named_of x ++ shape_named D o)
  dotted-named a = by r a
    where
      by : (r : Result CodeShape E) → OnOk r (named_of z ≡ named_of y) → OnOk r (named_of z ≡ named_of x ++ [])
      by (Ok s) a = a ∙ (named-kept x y ready g named dots ∙ sym (append-nil (named_of x)))
      by (Err e) a = a

  pub dotted-dots : OnOk r (dots_of z ≡ dots_of y ++ dots_from (length y.dots.now.items) (held_in (tree y.pool.now) h ∷ [])) → OnOk r (dots_of z ≡ dots_of x ++ dots_from (length x.dots.now.items) (shape_dotted D))
  dotted-dots a = by r a
    where
      by : (r : Result CodeShape E) → OnOk r (dots_of z ≡ dots_of y ++ dots_from (length y.dots.now.items) (held_in (tree y.pool.now) h ∷ [])) → OnOk r (dots_of z ≡ dots_of x ++ dots_from (length x.dots.now.items) (v ∷ []))
      by (Ok s) a =
          let n : length y.dots.now.items ≡ length x.dots.now.items = ap (λ ds. length ds.items) dots in
          a ∙ (ap₂ (λ (ds : List (Dot Term)) (m : ℕ). ds ++ dots_from m (held_in (tree y.pool.now) h ∷ [])) (dots-kept x y ready g named dots) n ∙ ap (λ (u : Held). dots_of x ++ dots_from (length x.dots.now.items) (u ∷ [])) is)
      by (Err e) a = a

  pub dotted-is : IfOk r (λ s. shape_of s ≡ DottedPat h.value) → IfOk r (λ s. IsSettled z D (shape_of s))
  dotted-is a = by r a
    where
      by : (r : Result CodeShape E) → IfOk r (λ s. shape_of s ≡ DottedPat h.value) → IfOk r (λ s. IsSettled z D (shape_of s))
      by (Ok s) a = subst (λ (t : PatShape ℕ). IsSettled z D t) (sym a) (record {
        below = subst (λ p. h.value < length p.now.trees) (sym pool) below.0;
        is = ap (λ p. DottedPat (tree p.now h.value)) pool ∙ ap (λ (u : Held). DottedPat u.value) is;
      })
      by (Err e) a = a

  pub solved-named : OnOk r (named_of z ≡ named_of y ++ solved_name (held_in (tree y.pool.now) h) o) → OnOk r (named_of z ≡ named_of x ++ shape_named V o)
  solved-named a = by r a
    where
      by : (r : Result CodeShape E) → OnOk r (named_of z ≡ named_of y ++ solved_name (held_in (tree y.pool.now) h) o) → OnOk r (named_of z ≡ named_of x ++ solved_name v o)
      by (Ok s) a = a ∙ ap₂ (λ (ns : List (Solved Term)) (u : Held). ns ++ solved_name u o) (named-kept x y ready g named dots) is
      by (Err e) a = a

  pub solved-dots : OnOk r (dots_of z ≡ dots_of y) → OnOk r (dots_of z ≡ dots_of x ++ dots_from (length x.dots.now.items) (shape_dotted V))
  solved-dots a = by r a
    where
      by : (r : Result CodeShape E) → OnOk r (dots_of z ≡ dots_of y) → OnOk r (dots_of z ≡ dots_of x ++ [])
      by (Ok s) a = a ∙ (dots-kept x y ready g named dots ∙ sym (append-nil (dots_of x)))
      by (Err e) a = a

  pub solved-is : IfOk r (λ s. shape_of s ≡ SolvedPat h.value) → IfOk r (λ s. IsSettled z V (shape_of s))
  solved-is a = by r a
    where
      by : (r : Result CodeShape E) → IfOk r (λ s. shape_of s ≡ SolvedPat h.value) → IfOk r (λ s. IsSettled z V (shape_of s))
      by (Ok s) a = subst (λ (t : PatShape ℕ). IsSettled z V t) (sym a) (record {
        below = subst (λ p. h.value < length p.now.trees) (sym pool) below.0;
        is = ap (λ p. SolvedPat (tree p.now h.value)) pool ∙ ap (λ (u : Held). SolvedPat u.value) is;
      })
      by (Err e) a = a
