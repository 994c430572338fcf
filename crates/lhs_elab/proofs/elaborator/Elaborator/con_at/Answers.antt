use Rattle.std.proofs.Common.{◌≡◌, subst}
use Rattle.std.specs.Prelude.{Option, ℕ, Some, None}
use Rattle.std.proofs.lemmas.Result.{err_from_is_err_and}
use Rattle.core_rules.specs.Term.{Term}
use Rattle.core_rules.specs.Heads.{Answer}
use Rattle.core_rules.specs.Signature.{Signature}
use Rattle.term_pool.specs.Pool.{tree}
use Rattle.weak_head.specs.States.{answer_in}
use Rattle.lhs_rules.specs.Asking.{Is}
use Rattle.lhs_rules.specs.Families.{at_con, at_family}
use Rattle.lhs_rules.specs.Rules.{con_or, shows}
use Rattle.lhs_rules.specs.Spots.{spot_at, type_at}
use Rattle.lhs_elab.specs.declared.families.AtFamily.{AtFamily}
use Rattle.lhs_elab.specs.Elaborator.{left_of, over, signature_of}
use Rattle.lhs_elab.specs.Families.{IsAtCon, IsForCon}
use Rattle.lhs_elab.proofs.ConSteps.{con-found, con-missing, found-below}
use Rattle.lhs_elab.proofs.Kept.{signature-kept}
use Rattle.lhs_elab.proofs.Stepping.{off-by}
use Rattle.lhs_elab.proofs.elaborator.Elaborator.con_at.Goals as goal

abbrev nothing : ℕ → Option Term
nothing i = None

pub returns-in_err-shown-clause-is : goal.returns-in_err-shown-clause-is
returns-in_err-shown-clause-is g c = λ f.
    let x = c.args.self.now in
    let e = err_from_is_err_and c.from_residual.result c.from_residual.ensures.1 in
    rw (e.1, e.2) (off-by (over g.S.Solutions.solution f x) (shows c.args.pos (type_at (left_of x).context (spot_at (left_of x) c.args.number))) (λ (w : Answer). Is (con_or c.args.pos (at_con (signature_of x) c.args.con w))) c.shows_spot.new.self.pool.now c.in_err-shown.field-0.0 (c.in_err-shown.ensures.is f))

pub at_family-requires : goal.at_family-requires
at_family-requires g c = record { form = (c.in_ok-shown.ensures.is nothing).0 }

pub for_con-requires : goal.for_con-requires
for_con-requires g c =
    let y = c.shows_spot.new.self in
    let s = c.in_ok-shown.shown in
    record { found = found-below y.pool.now y.signature.now (at_family (signature_of y) (answer_in (tree y.pool.now) s.meta s.form)) c.in_ok-found.found c.in_ok-found.ensures }

pub returns-in-Some-clause-at : goal.returns-in-Some-clause-at
returns-in-Some-clause-at g c =
    let y = c.shows_spot.new.self in
    let s = c.in_ok-shown.shown in
    let w = answer_in (tree y.pool.now) s.meta s.form in
    let h = subst (λ (r : Option AtFamily). IsForCon y.pool.now (signature_of y) c.args.con (at_con (signature_of y) c.args.con w) r) c.in-Some.is (c.for_con.ensures.is y.pool.now (at_family (signature_of y) w) c.in_ok-found.ensures) in
    h.1.below

pub returns-in-Some-clause-is : goal.returns-in-Some-clause-is
returns-in-Some-clause-is g c = λ f.
    let x = c.args.self.now in
    let y = c.shows_spot.new.self in
    let s = c.in_ok-shown.shown in
    let k = c.in_ok-shown.ensures in
    let w = answer_in (tree y.pool.now) s.meta s.form in
    let h = subst (λ (r : Option AtFamily). IsForCon y.pool.now (signature_of y) c.args.con (at_con (signature_of y) c.args.con w) r) c.in-Some.is (c.for_con.ensures.is y.pool.now (at_family (signature_of y) w) c.in_ok-found.ensures) in
    let r = subst (λ (G : Signature Term). IsAtCon y.pool.now G c.args.con c.in-Some.at (λ r. at_con G c.args.con w ≡ Some r)) (signature-kept g.S.Solutions.solution x y c.requires.ready k.grows k.keeps) h in
    (r.0, r.1, r.2, con-found (over g.S.Solutions.solution f x) (signature_of x) c.args.pos (type_at (left_of x).context (spot_at (left_of x) c.args.number)) w (k.is f).1 c.args.con r.0 r.3)

pub returns-clause-is : goal.returns-clause-is
returns-clause-is g c = λ f.
    let x = c.args.self.now in
    let y = c.shows_spot.new.self in
    let s = c.in_ok-shown.shown in
    let k = c.in_ok-shown.ensures in
    let w = answer_in (tree y.pool.now) s.meta s.form in
    let h : at_con (signature_of y) c.args.con w ≡ None = subst (λ (r : Option AtFamily). IsForCon y.pool.now (signature_of y) c.args.con (at_con (signature_of y) c.args.con w) r) c.in-None.is (c.for_con.ensures.is y.pool.now (at_family (signature_of y) w) c.in_ok-found.ensures) in
    let n : at_con (signature_of x) c.args.con w ≡ None = subst (λ (G : Signature Term). at_con G c.args.con w ≡ None) (signature-kept g.S.Solutions.solution x y c.requires.ready k.grows k.keeps) h in
    rw c.refused.ensures (con-missing (over g.S.Solutions.solution f x) (signature_of x) c.args.pos (type_at (left_of x).context (spot_at (left_of x) c.args.number)) w (k.is f).1 c.args.con n)
