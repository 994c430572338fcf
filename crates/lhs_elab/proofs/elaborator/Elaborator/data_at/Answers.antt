use Rattle.std.proofs.Common.{◌≡◌, ◌<◌, length, subst}
use Rattle.std.specs.Prelude.{Option, ℕ, None, IfSome}
use Rattle.std.proofs.lemmas.Result.{err_from_is_err_and}
use Rattle.core_rules.specs.Term.{Term}
use Rattle.core_rules.specs.Heads.{Answer}
use Rattle.core_rules.specs.Signature.{Signature, fams}
use Rattle.kernel_rules.specs.Outcome.{Gives, Refuses}
use Rattle.term_pool.specs.Pool.{tree}
use Rattle.weak_head.specs.States.{answer_in}
use Rattle.lhs_rules.specs.Asking.{Is}
use Rattle.lhs_rules.specs.Families.{at_family}
use Rattle.lhs_rules.specs.Refusals.{NotAbsurd, at}
use Rattle.lhs_rules.specs.Rules.{data_or, shows}
use Rattle.lhs_rules.specs.Spots.{spot_at, type_at}
use Rattle.lhs_elab.specs.declared.families.AtFamily.{AtFamily}
use Rattle.lhs_elab.specs.Elaborator.{left_of, over, signature_of}
use Rattle.lhs_elab.specs.Families.{IsData, IsDataOr}
use Rattle.lhs_elab.proofs.ConSteps.{data-found, data-missing, found-below}
use Rattle.lhs_elab.proofs.Kept.{signature-kept}
use Rattle.lhs_elab.proofs.Stepping.{off-by}
use Rattle.lhs_elab.proofs.elaborator.Elaborator.data_at.Goals as goal

abbrev nothing : ℕ → Option Term
nothing i = None

pub returns-in_err-shown-clause-is : goal.returns-in_err-shown-clause-is
returns-in_err-shown-clause-is g c = λ f.
    let x = c.args.self.now in
    let e = err_from_is_err_and c.from_residual.result c.from_residual.ensures.1 in
    rw (e.1, e.2) (off-by (over g.S.Solutions.solution f x) (shows c.args.pos (type_at (left_of x).context (spot_at (left_of x) c.args.number))) (λ (w : Answer). Is (data_or c.args.pos (at_family (signature_of x) w))) c.shows_spot.new.self.pool.now c.in_err-shown.field-0.0 (c.in_err-shown.ensures.is f))

pub at_family-requires : goal.at_family-requires
at_family-requires g c = record { form = (c.in_ok-shown.ensures.is nothing).0 }

pub data_of-requires : goal.data_of-requires
data_of-requires g c =
    let y = c.shows_spot.new.self in
    let s = c.in_ok-shown.shown in
    record { found = found-below y.pool.now y.signature.now (at_family (signature_of y) (answer_in (tree y.pool.now) s.meta s.form)) c.in_ok-found.found c.in_ok-found.ensures }

pub returns-in-Some-clause-fam : goal.returns-in-Some-clause-fam
returns-in-Some-clause-fam g c =
    let h = subst (λ (o : Option AtFamily). IfSome o (λ (a : AtFamily). a.fam < length (fams c.shows_spot.new.self.signature.now))) c.in-Some.is c.data_of.ensures.fam in
    subst (λ (v : Signature ℕ). c.in-Some.at.fam < length (fams v)) c.in_ok-shown.ensures.keeps.signature h

pub returns-in-Some-clause-at : goal.returns-in-Some-clause-at
returns-in-Some-clause-at g c =
    let y = c.shows_spot.new.self in
    let s = c.in_ok-shown.shown in
    let o = at_family (signature_of y) (answer_in (tree y.pool.now) s.meta s.form) in
    let q = c.args.pos in
    let h = subst (λ (r : Option AtFamily). IsDataOr y.pool.now (signature_of y) (data_or q o) (at q NotAbsurd) r) c.in-Some.is (c.data_of.ensures.is y.pool.now o q c.in_ok-found.ensures) in
    h.1.below

pub returns-in-Some-clause-is : goal.returns-in-Some-clause-is
returns-in-Some-clause-is g c = λ f.
    let x = c.args.self.now in
    let y = c.shows_spot.new.self in
    let s = c.in_ok-shown.shown in
    let k = c.in_ok-shown.ensures in
    let w = answer_in (tree y.pool.now) s.meta s.form in
    let q = c.args.pos in
    let h = subst (λ (r : Option AtFamily). IsDataOr y.pool.now (signature_of y) (data_or q (at_family (signature_of y) w)) (at q NotAbsurd) r) c.in-Some.is (c.data_of.ensures.is y.pool.now (at_family (signature_of y) w) q c.in_ok-found.ensures) in
    let r = subst (λ (G : Signature Term). IsData y.pool.now G c.in-Some.at (λ r. data_or q (at_family G w) ≡ Gives r)) (signature-kept g.S.Solutions.solution x y c.requires.ready k.grows k.keeps) h in
    (r.0, r.1, data-found (over g.S.Solutions.solution f x) (signature_of x) q (type_at (left_of x).context (spot_at (left_of x) c.args.number)) w (k.is f).1 r.0 r.2)

pub returns-clause-is : goal.returns-clause-is
returns-clause-is g c = λ f.
    let x = c.args.self.now in
    let y = c.shows_spot.new.self in
    let s = c.in_ok-shown.shown in
    let k = c.in_ok-shown.ensures in
    let w = answer_in (tree y.pool.now) s.meta s.form in
    let q = c.args.pos in
    let h : data_or q (at_family (signature_of y) w) ≡ Refuses (at q NotAbsurd) = subst (λ (r : Option AtFamily). IsDataOr y.pool.now (signature_of y) (data_or q (at_family (signature_of y) w)) (at q NotAbsurd) r) c.in-None.is (c.data_of.ensures.is y.pool.now (at_family (signature_of y) w) q c.in_ok-found.ensures) in
    let n : data_or q (at_family (signature_of x) w) ≡ Refuses (at q NotAbsurd) = subst (λ (G : Signature Term). data_or q (at_family G w) ≡ Refuses (at q NotAbsurd)) (signature-kept g.S.Solutions.solution x y c.requires.ready k.grows k.keeps) h in
    rw c.refused.ensures (data-missing (over g.S.Solutions.solution f x) (signature_of x) q (type_at (left_of x).context (spot_at (left_of x) c.args.number)) w (k.is f).1 n)
