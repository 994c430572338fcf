use Rattle.std.proofs.Common.{◌≡◌, ◌+◌, ◌++◌, [], ℕ, List, length, drop, append-nil, refl, ap, sym, subst, ◌∙◌, arith}
use Rattle.std.specs.Prelude.{IfOk, OnOk}
use Rattle.core_rules.specs.Mapped.{pat_map}
use Rattle.core_rules.specs.Signature.{AbsurdPat, ConPat, CorePat, DottedPat, Pat, PatShape, ProjectionPat, SolvedPat, VarPat}
use Rattle.core_rules.specs.Term.{Term}
use Rattle.core_terms.specs.Pattern.{braces_of, origin_of, shape_of}
use Rattle.core_terms.specs.Patterns.{pats_of}
use Rattle.core_terms.specs.Sizes.{pats_size}
use Rattle.core_terms.specs.declared.pattern.PatShape.{PatShape as CodeShape}
use Rattle.cover_rules.specs.LeftSide.{pat_named, pat_values, pats_named, pats_values}
use Rattle.el_base.proofs.Lists.{drop_next}
use Rattle.lhs_rules.specs.Patterns.{dots_from, pat_dotted, pats_dotted, settled_pat, settled_pats}
use Rattle.term_pool.specs.Pool.{tree}
use Rattle.term_pool.specs.Growth.{Extends-refl}
use Rattle.lhs_elab.specs.Settled.{IsSettled, dots_of, left_of, named_of, shape_in}
use Rattle.lhs_elab.proofs.Patterns.{con-size, size-at}
use Rattle.lhs_elab.proofs.SettlingAll.{SettledTo, dots-all, named-all, settled-first, settled-next, values-all}
use Rattle.lhs_elab.proofs.Visiting.{none-from}
use Rattle.lhs_elab.proofs.settle.Settler.+settle.Goals as goal

pub settle_pats-loop-pat-init : goal.settle_pats-loop-pat-init
settle_pats-loop-pat-init t c =
    let x = c.args.self.now in
    record {
      so = subst (λ (made : List (CorePat ℕ)). SettledTo x x c.args.pats.now made c.args.pats.now) (sym c.new-made.ensures.items) (settled-first x c.args.pats.now c.requires.ready (record { same_named = refl; same_dots = refl; same_reference = refl; extends = Extends-refl x.pool.now; left = refl }));
    }

pub settle_pats-settle_pat-requires : goal.settle_pats-settle_pat-requires
settle_pats-settle_pat-requires t c = (
  omega (arith, size-at c.args.pats.now c.loop-pat.pat-index c.pat-item.result c.loop-pat-test.true c.pat-item.is),
  c.loop-pat.invariant.so.ready,
)

pub settle_pats-loop-pat-preserved : goal.settle_pats-loop-pat-preserved
settle_pats-loop-pat-preserved t c =
    let x = c.args.self.now in
    let v = c.loop-pat.self in
    let w = c.settle_pat.new.self in
    let ps = c.args.pats.now in
    let i = c.loop-pat.pat-index in
    let p = c.pat-item.result in
    let k = c.in_ok-settled.ensures in
    record {
      so = settled-next x v w ps c.loop-pat.made.items (drop i ps) c.loop-pat.invariant.so c.requires.ready p (drop (i + 1) ps) (drop_next ps i p c.loop-pat-test.true c.pat-item.is) k.grows k.ready k.named k.dots c.push.new.self.items c.in_ok-settled.settled
          c.in_ok-push.ensures.items k.below k.is;
    }

pub settle_pats-returns-clause-named : goal.settle_pats-returns-clause-named
settle_pats-returns-clause-named t c =
    let x = c.args.self.now in
    let v = c.loop-pat.self in
    let ps = c.args.pats.now in
    let i = c.loop-pat.pat-index in
    let none : drop i ps ≡ [] = none-from ps i c.loop-pat-test.false in
    named-all x v v ps c.loop-pat.made.items (drop i ps) c.loop-pat.invariant.so c.requires.ready none

pub settle_pats-returns-clause-dots : goal.settle_pats-returns-clause-dots
settle_pats-returns-clause-dots t c =
    let x = c.args.self.now in
    let v = c.loop-pat.self in
    let ps = c.args.pats.now in
    let i = c.loop-pat.pat-index in
    let none : drop i ps ≡ [] = none-from ps i c.loop-pat-test.false in
    dots-all x v v ps c.loop-pat.made.items (drop i ps) c.loop-pat.invariant.so c.requires.ready none

pub settle_pats-returns-clause-is : goal.settle_pats-returns-clause-is
settle_pats-returns-clause-is t c =
    let x = c.args.self.now in
    let v = c.loop-pat.self in
    let ps = c.args.pats.now in
    let i = c.loop-pat.pat-index in
    let none : drop i ps ≡ [] = none-from ps i c.loop-pat-test.false in
    values-all x v v ps c.loop-pat.made.items (drop i ps) c.loop-pat.invariant.so c.requires.ready none

pub settle_pat-returns-clause-below : goal.settle_pat-returns-clause-below
settle_pat-returns-clause-below t c = c.in_ok-shape.ensures.is.below

pub settle_pat-returns-clause-is : goal.settle_pat-returns-clause-is
settle_pat-returns-clause-is t c =
    let x = c.args.self.now in
    let y = c.settle_shape.new.self in
    let i = c.pat.inside in
    let o = origin_of i.origin in
    let b = braces_of i.braces in
    let h = subst (λ (p : CorePat ℕ). IsSettled y (shape_in (settled_pat (left_of x) p)) (shape_of c.in_ok-shape.shape)) (sym c.pat.view_is) c.in_ok-shape.ensures.is in
    subst (λ (p : CorePat ℕ). pat_map (tree y.pool.now) (Pat (shape_of c.in_ok-shape.shape) o b) ≡ pat_values (settled_pat (left_of x) p)) c.pat.view_is (ap (λ (s : PatShape Term). Pat s o b) h.is)

pub settle_shape-settle_pats-requires : goal.settle_shape-settle_pats-requires
settle_shape-settle_pats-requires t c = (
  omega (arith, con-size c.pat.inside c.args.pat.now c.in-Con.con c.in-Con.pats c.pat.view_is c.in-Con.is, ap (λ ps. pats_size (pats_of ps)) c.as_slice.ensures.value),
  c.requires.ready,
)

pub settle_shape-returns-in_ok-pats-in-Con-clause-named : goal.settle_shape-returns-in_ok-pats-in-Con-clause-named
settle_shape-returns-in_ok-pats-in-Con-clause-named t c =
    let x = c.args.self.now in
    let i = c.pat.inside in
    let whole : c.args.pat.now ≡ Pat (ConPat c.in-Con.con (pats_of c.in-Con.pats.items)) (origin_of i.origin) (braces_of i.braces) = sym c.pat.view_is ∙ ap (λ (s : CodeShape). Pat (shape_of s) (origin_of i.origin) (braces_of i.braces)) c.in-Con.is in
    let z = c.settle_pats.new.self in
    let k = c.in_ok-pats-in-Con.ensures in
    let items = c.as_slice.ensures.value in
    subst (λ (p : CorePat ℕ). named_of z ≡ named_of x ++ pat_named (settled_pat (left_of x) p)) (sym whole) (k.named ∙ ap (λ (ps : List (CorePat ℕ)). named_of x ++ pats_named (settled_pats (left_of x) (pats_of ps))) items)

pub settle_shape-returns-in_ok-pats-in-Con-clause-dots : goal.settle_shape-returns-in_ok-pats-in-Con-clause-dots
settle_shape-returns-in_ok-pats-in-Con-clause-dots t c =
    let x = c.args.self.now in
    let i = c.pat.inside in
    let whole : c.args.pat.now ≡ Pat (ConPat c.in-Con.con (pats_of c.in-Con.pats.items)) (origin_of i.origin) (braces_of i.braces) = sym c.pat.view_is ∙ ap (λ (s : CodeShape). Pat (shape_of s) (origin_of i.origin) (braces_of i.braces)) c.in-Con.is in
    let z = c.settle_pats.new.self in
    let k = c.in_ok-pats-in-Con.ensures in
    let items = c.as_slice.ensures.value in
    subst (λ (p : CorePat ℕ). dots_of z ≡ dots_of x ++ dots_from (length x.dots.now.items) (pat_dotted (settled_pat (left_of x) p))) (sym whole) (k.dots ∙ ap (λ (ps : List (CorePat ℕ)). dots_of x ++ dots_from (length x.dots.now.items) (pats_dotted (settled_pats (left_of x) (pats_of ps)))) items)

pub settle_shape-returns-in_ok-pats-in-Con-clause-is : goal.settle_shape-returns-in_ok-pats-in-Con-clause-is
settle_shape-returns-in_ok-pats-in-Con-clause-is t c =
    let x = c.args.self.now in
    let i = c.pat.inside in
    let whole : c.args.pat.now ≡ Pat (ConPat c.in-Con.con (pats_of c.in-Con.pats.items)) (origin_of i.origin) (braces_of i.braces) = sym c.pat.view_is ∙ ap (λ (s : CodeShape). Pat (shape_of s) (origin_of i.origin) (braces_of i.braces)) c.in-Con.is in
    let z = c.settle_pats.new.self in
    let k = c.in_ok-pats-in-Con.ensures in
    let items = c.as_slice.ensures.value in
    subst (λ (p : CorePat ℕ). IsSettled z (shape_in (settled_pat (left_of x) p)) (ConPat c.in-Con.con (pats_of c.in_ok-pats-in-Con.pats.items))) (sym whole)
    (record { below = k.below; is = ap (ConPat c.in-Con.con) (k.is ∙ ap (λ (ps : List (CorePat ℕ)). pats_values (settled_pats (left_of x) (pats_of ps))) items) })

pub settle_shape-returns-in-Var-clause-named : goal.settle_shape-returns-in-Var-clause-named
settle_shape-returns-in-Var-clause-named t c =
    let x = c.args.self.now in
    let i = c.pat.inside in
    let whole : c.args.pat.now ≡ Pat (VarPat c.in-Var.number) (origin_of i.origin) (braces_of i.braces) = sym c.pat.view_is ∙ ap (λ (s : CodeShape). Pat (shape_of s) (origin_of i.origin) (braces_of i.braces)) c.in-Var.is in
    let z = c.settle_var.new.self in
    subst (λ (p : CorePat ℕ). OnOk c.settle_var.result (named_of z ≡ named_of x ++ pat_named (settled_pat (left_of x) p))) (sym whole) c.settle_var.ensures.named

pub settle_shape-returns-in-Var-clause-dots : goal.settle_shape-returns-in-Var-clause-dots
settle_shape-returns-in-Var-clause-dots t c =
    let x = c.args.self.now in
    let i = c.pat.inside in
    let whole : c.args.pat.now ≡ Pat (VarPat c.in-Var.number) (origin_of i.origin) (braces_of i.braces) = sym c.pat.view_is ∙ ap (λ (s : CodeShape). Pat (shape_of s) (origin_of i.origin) (braces_of i.braces)) c.in-Var.is in
    let z = c.settle_var.new.self in
    subst (λ (p : CorePat ℕ). OnOk c.settle_var.result (dots_of z ≡ dots_of x ++ dots_from (length x.dots.now.items) (pat_dotted (settled_pat (left_of x) p)))) (sym whole) c.settle_var.ensures.dots

pub settle_shape-returns-in-Var-clause-is : goal.settle_shape-returns-in-Var-clause-is
settle_shape-returns-in-Var-clause-is t c =
    let x = c.args.self.now in
    let i = c.pat.inside in
    let whole : c.args.pat.now ≡ Pat (VarPat c.in-Var.number) (origin_of i.origin) (braces_of i.braces) = sym c.pat.view_is ∙ ap (λ (s : CodeShape). Pat (shape_of s) (origin_of i.origin) (braces_of i.braces)) c.in-Var.is in
    let z = c.settle_var.new.self in
    subst (λ (p : CorePat ℕ). IfOk c.settle_var.result (λ s. IsSettled z (shape_in (settled_pat (left_of x) p)) (shape_of s))) (sym whole) c.settle_var.ensures.is

pub settle_shape-returns-in-Projection-clause-named : goal.settle_shape-returns-in-Projection-clause-named
settle_shape-returns-in-Projection-clause-named t c =
    let x = c.args.self.now in
    let i = c.pat.inside in
    let whole : c.args.pat.now ≡ Pat (ProjectionPat c.in-Projection.field) (origin_of i.origin) (braces_of i.braces) = sym c.pat.view_is ∙ ap (λ (s : CodeShape). Pat (shape_of s) (origin_of i.origin) (braces_of i.braces)) c.in-Projection.is in
    subst (λ (p : CorePat ℕ). named_of x ≡ named_of x ++ pat_named (settled_pat (left_of x) p)) (sym whole) (sym (append-nil (named_of x)))

pub settle_shape-returns-in-Projection-clause-dots : goal.settle_shape-returns-in-Projection-clause-dots
settle_shape-returns-in-Projection-clause-dots t c =
    let x = c.args.self.now in
    let i = c.pat.inside in
    let whole : c.args.pat.now ≡ Pat (ProjectionPat c.in-Projection.field) (origin_of i.origin) (braces_of i.braces) = sym c.pat.view_is ∙ ap (λ (s : CodeShape). Pat (shape_of s) (origin_of i.origin) (braces_of i.braces)) c.in-Projection.is in
    subst (λ (p : CorePat ℕ). dots_of x ≡ dots_of x ++ dots_from (length x.dots.now.items) (pat_dotted (settled_pat (left_of x) p))) (sym whole) (sym (append-nil (dots_of x)))

pub settle_shape-returns-in-Projection-clause-is : goal.settle_shape-returns-in-Projection-clause-is
settle_shape-returns-in-Projection-clause-is t c =
    let x = c.args.self.now in
    let i = c.pat.inside in
    let whole : c.args.pat.now ≡ Pat (ProjectionPat c.in-Projection.field) (origin_of i.origin) (braces_of i.braces) = sym c.pat.view_is ∙ ap (λ (s : CodeShape). Pat (shape_of s) (origin_of i.origin) (braces_of i.braces)) c.in-Projection.is in
    subst (λ (p : CorePat ℕ). IsSettled x (shape_in (settled_pat (left_of x) p)) (ProjectionPat c.in-Projection.field)) (sym whole) (record { below = tt; is = refl })

pub settle_shape-returns-in-Solved-clause-named : goal.settle_shape-returns-in-Solved-clause-named
settle_shape-returns-in-Solved-clause-named t c =
    let x = c.args.self.now in
    let i = c.pat.inside in
    let whole : c.args.pat.now ≡ Pat (SolvedPat c.in-Solved.value) (origin_of i.origin) (braces_of i.braces) = sym c.pat.view_is ∙ ap (λ (s : CodeShape). Pat (shape_of s) (origin_of i.origin) (braces_of i.braces)) c.in-Solved.is in
    subst (λ (p : CorePat ℕ). named_of x ≡ named_of x ++ pat_named (settled_pat (left_of x) p)) (sym whole) (sym (append-nil (named_of x)))

pub settle_shape-returns-in-Solved-clause-dots : goal.settle_shape-returns-in-Solved-clause-dots
settle_shape-returns-in-Solved-clause-dots t c =
    let x = c.args.self.now in
    let i = c.pat.inside in
    let whole : c.args.pat.now ≡ Pat (SolvedPat c.in-Solved.value) (origin_of i.origin) (braces_of i.braces) = sym c.pat.view_is ∙ ap (λ (s : CodeShape). Pat (shape_of s) (origin_of i.origin) (braces_of i.braces)) c.in-Solved.is in
    subst (λ (p : CorePat ℕ). dots_of x ≡ dots_of x ++ dots_from (length x.dots.now.items) (pat_dotted (settled_pat (left_of x) p))) (sym whole) (sym (append-nil (dots_of x)))

pub settle_shape-returns-in-Solved-clause-is : goal.settle_shape-returns-in-Solved-clause-is
settle_shape-returns-in-Solved-clause-is t c =
    let x = c.args.self.now in
    let i = c.pat.inside in
    let whole : c.args.pat.now ≡ Pat (SolvedPat c.in-Solved.value) (origin_of i.origin) (braces_of i.braces) = sym c.pat.view_is ∙ ap (λ (s : CodeShape). Pat (shape_of s) (origin_of i.origin) (braces_of i.braces)) c.in-Solved.is in
    subst (λ (p : CorePat ℕ). IsSettled x (shape_in (settled_pat (left_of x) p)) (AbsurdPat)) (sym whole) (record { below = tt; is = refl })

pub settle_shape-returns-in-Dotted-clause-named : goal.settle_shape-returns-in-Dotted-clause-named
settle_shape-returns-in-Dotted-clause-named t c =
    let x = c.args.self.now in
    let i = c.pat.inside in
    let whole : c.args.pat.now ≡ Pat (DottedPat c.in-Dotted.value) (origin_of i.origin) (braces_of i.braces) = sym c.pat.view_is ∙ ap (λ (s : CodeShape). Pat (shape_of s) (origin_of i.origin) (braces_of i.braces)) c.in-Dotted.is in
    subst (λ (p : CorePat ℕ). named_of x ≡ named_of x ++ pat_named (settled_pat (left_of x) p)) (sym whole) (sym (append-nil (named_of x)))

pub settle_shape-returns-in-Dotted-clause-dots : goal.settle_shape-returns-in-Dotted-clause-dots
settle_shape-returns-in-Dotted-clause-dots t c =
    let x = c.args.self.now in
    let i = c.pat.inside in
    let whole : c.args.pat.now ≡ Pat (DottedPat c.in-Dotted.value) (origin_of i.origin) (braces_of i.braces) = sym c.pat.view_is ∙ ap (λ (s : CodeShape). Pat (shape_of s) (origin_of i.origin) (braces_of i.braces)) c.in-Dotted.is in
    subst (λ (p : CorePat ℕ). dots_of x ≡ dots_of x ++ dots_from (length x.dots.now.items) (pat_dotted (settled_pat (left_of x) p))) (sym whole) (sym (append-nil (dots_of x)))

pub settle_shape-returns-in-Dotted-clause-is : goal.settle_shape-returns-in-Dotted-clause-is
settle_shape-returns-in-Dotted-clause-is t c =
    let x = c.args.self.now in
    let i = c.pat.inside in
    let whole : c.args.pat.now ≡ Pat (DottedPat c.in-Dotted.value) (origin_of i.origin) (braces_of i.braces) = sym c.pat.view_is ∙ ap (λ (s : CodeShape). Pat (shape_of s) (origin_of i.origin) (braces_of i.braces)) c.in-Dotted.is in
    subst (λ (p : CorePat ℕ). IsSettled x (shape_in (settled_pat (left_of x) p)) (AbsurdPat)) (sym whole) (record { below = tt; is = refl })

pub settle_shape-returns-in-Absurd-clause-named : goal.settle_shape-returns-in-Absurd-clause-named
settle_shape-returns-in-Absurd-clause-named t c =
    let x = c.args.self.now in
    let i = c.pat.inside in
    let whole : c.args.pat.now ≡ Pat (AbsurdPat) (origin_of i.origin) (braces_of i.braces) = sym c.pat.view_is ∙ ap (λ (s : CodeShape). Pat (shape_of s) (origin_of i.origin) (braces_of i.braces)) c.in-Absurd.is in
    subst (λ (p : CorePat ℕ). named_of x ≡ named_of x ++ pat_named (settled_pat (left_of x) p)) (sym whole) (sym (append-nil (named_of x)))

pub settle_shape-returns-in-Absurd-clause-dots : goal.settle_shape-returns-in-Absurd-clause-dots
settle_shape-returns-in-Absurd-clause-dots t c =
    let x = c.args.self.now in
    let i = c.pat.inside in
    let whole : c.args.pat.now ≡ Pat (AbsurdPat) (origin_of i.origin) (braces_of i.braces) = sym c.pat.view_is ∙ ap (λ (s : CodeShape). Pat (shape_of s) (origin_of i.origin) (braces_of i.braces)) c.in-Absurd.is in
    subst (λ (p : CorePat ℕ). dots_of x ≡ dots_of x ++ dots_from (length x.dots.now.items) (pat_dotted (settled_pat (left_of x) p))) (sym whole) (sym (append-nil (dots_of x)))

pub settle_shape-returns-in-Absurd-clause-is : goal.settle_shape-returns-in-Absurd-clause-is
settle_shape-returns-in-Absurd-clause-is t c =
    let x = c.args.self.now in
    let i = c.pat.inside in
    let whole : c.args.pat.now ≡ Pat (AbsurdPat) (origin_of i.origin) (braces_of i.braces) = sym c.pat.view_is ∙ ap (λ (s : CodeShape). Pat (shape_of s) (origin_of i.origin) (braces_of i.braces)) c.in-Absurd.is in
    subst (λ (p : CorePat ℕ). IsSettled x (shape_in (settled_pat (left_of x) p)) (AbsurdPat)) (sym whole) (record { below = tt; is = refl })
