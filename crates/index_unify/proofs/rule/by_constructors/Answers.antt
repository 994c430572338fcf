use Rattle.std.specs.Prelude.{◌≡◌, ◌≢◌, ◌<◌, length, None}
use Rattle.std.proofs.Common.{sym, ap, ◌∙◌, subst, arith}
use Rattle.std.proofs.lemmas.Grind.{common_steps}
use Rattle.term_pool.specs.Pool.{tree}
use Rattle.index_unify.specs.Constructors.{AllArguments, FormBelow, arguments_in, con_form_in}
use Rattle.index_unify.specs.State.{IsSettled, equations_of}
use Rattle.index_unify.proofs.Settled.{arguments-metas}
use Rattle.index_unify.proofs.ByCons.{no_left, no_right, no_pairs, pairs_made, they_differ}
use Rattle.index_unify.proofs.rule.by_constructors.Goals as goal

pub returns-in_default-clause-is : goal.returns-in_default-clause-is
returns-in_default-clause-is c =
    let f = tree c.args.pool.now in
    no_left (f c.args.left) (f c.args.right) (sym c.in_ok-form.ensures.is ∙ ap (con_form_in f) c.in_default.is)

pub returns-in_default-2-clause-is : goal.returns-in_default-2-clause-is
returns-in_default-2-clause-is c =
    let f = tree c.args.pool.now in
    no_right (f c.args.left) (f c.args.right) (sym c.in_ok-other.ensures.is ∙ ap (con_form_in f) c.in_default-2.is)

pub returns-then-ne-clause-is : goal.returns-then-ne-clause-is
returns-then-ne-clause-is c =
    let f = tree c.args.pool.now in
    let a = c.in-Some.form in
    let b = c.in-Some-2.other in
    let l = sym (sym c.in_ok-form.ensures.is ∙ ap (con_form_in f) c.in-Some.is) in
    let r = sym (sym c.in_ok-other.ensures.is ∙ ap (con_form_in f) c.in-Some-2.is) in
    let n : a.con ≢ b.con = grind (arith, common_steps, c.ne.ensures, c.if-ne.true) in
    they_differ (f c.args.left) (f c.args.right) a.con b.con (arguments_in f a.args.items) (arguments_in f b.args.items) l r n

pub returns-in-Some-3-clause-is : goal.returns-in-Some-3-clause-is
returns-in-Some-3-clause-is c =
    let p = c.args.pool.now in
    let f = tree p in
    let a = c.in-Some.form in
    let b = c.in-Some-2.other in
    let l = sym (sym c.in_ok-form.ensures.is ∙ ap (con_form_in f) c.in-Some.is) in
    let r = sym (sym c.in_ok-other.ensures.is ∙ ap (con_form_in f) c.in-Some-2.is) in
    let e : a.con ≡ b.con = grind (arith, common_steps, c.ne.ensures, c.if-ne.false) in
    pairs_made (f c.args.left) (f c.args.right) a.con b.con (arguments_in f a.args.items) (arguments_in f b.args.items) l r (equations_of p c.in-Some-3.equations.items) e
    (rw (c.in-Some-3.is, c.as_slice.ensures.value, c.as_slice-2.ensures.value) at (c.in_ok-equations.ensures.is f))

pub returns-in-Some-3-clause-below : goal.returns-in-Some-3-clause-below
returns-in-Some-3-clause-below c =
    let n = length c.args.pool.now.trees in
    let a = subst (AllArguments (λ i. i < n)) (sym c.as_slice.ensures.value) (subst (FormBelow n) c.in-Some.is c.in_ok-form.ensures.below) in
    let b = subst (AllArguments (λ i. i < n)) (sym c.as_slice-2.ensures.value) (subst (FormBelow n) c.in-Some-2.is c.in_ok-other.ensures.below) in
    rw c.in-Some-3.is at (c.in_ok-equations.ensures.below n a b)

pub returns-in-Some-3-clause-settled : goal.returns-in-Some-3-clause-settled
returns-in-Some-3-clause-settled c = λ s h k.
    let f = tree c.args.pool.now in
    let l = sym (sym c.in_ok-form.ensures.is ∙ ap (con_form_in f) c.in-Some.is) in
    let r = sym (sym c.in_ok-other.ensures.is ∙ ap (con_form_in f) c.in-Some-2.is) in
    let a = subst (AllArguments (λ i. IsSettled s (f i))) (sym c.as_slice.ensures.value) (arguments-metas (λ m. s m ≡ None) f (f c.args.left) c.in-Some.form.con c.in-Some.form.args.items l h) in
    let b = subst (AllArguments (λ i. IsSettled s (f i))) (sym c.as_slice-2.ensures.value) (arguments-metas (λ m. s m ≡ None) f (f c.args.right) c.in-Some-2.other.con c.in-Some-2.other.args.items r k) in
    rw c.in-Some-3.is at (c.in_ok-equations.ensures.settled s f a b)

pub returns-clause-is : goal.returns-clause-is
returns-clause-is c =
    let f = tree c.args.pool.now in
    let a = c.in-Some.form in
    let b = c.in-Some-2.other in
    let l = sym (sym c.in_ok-form.ensures.is ∙ ap (con_form_in f) c.in-Some.is) in
    let r = sym (sym c.in_ok-other.ensures.is ∙ ap (con_form_in f) c.in-Some-2.is) in
    let e : a.con ≡ b.con = grind (arith, common_steps, c.ne.ensures, c.if-ne.false) in
    no_pairs (f c.args.left) (f c.args.right) a.con b.con (arguments_in f a.args.items) (arguments_in f b.args.items) l r e
    (λ qs p. (rw (c.in-None.is, c.as_slice.ensures.value, c.as_slice-2.ensures.value) at (c.in_ok-equations.ensures.is f)) qs p)
