use Rattle.std.proofs.Common.{◌≡◌, Bool, true, false, cond, ap, sym, ◌∙◌, refl}
use Rattle.std.proofs.lemmas.Result.{err_from_is_err_and}
use Rattle.kernel_rules.specs.Outcome.{Outcome, Gives, Refuses, Then, goes_on, stops}
use Rattle.kernel_rules.specs.Refusals.{DeclRefusal, BadTree, Demands}
use Rattle.kernel_rules.specs.TreeReading.{ShowsFamily, can_split}
use Rattle.kernel_rules.specs.TreeReading as T
use Rattle.term_pool.specs.Pool.{tree}
use Rattle.tree_kernel.specs.Jobs.{context_by}
use Rattle.tree_kernel.specs.Reader.{family_in, fuel_of, depth_of, signature_of, term_of}
use Rattle.tree_kernel.proofs.Answering.{first_refused}
use Rattle.tree_kernel.proofs.reader.Reader.splittable.Goals as goal

pub may_split-requires : goal.may_split-requires
may_split-requires c = c.in_ok-family.ensures.is.0.is_family

pub returns-in_err-family-clause-is : goal.returns-in_err-family-clause-is
returns-in_err-family-clause-is c =
    let x = c.args.self.now in
    let w = err_from_is_err_and c.from_residual.result c.from_residual.ensures.1 in
    rw (w.1, w.2) (first_refused c.family_at.new.self.pool.now
    (ShowsFamily (signature_of x) (fuel_of x) (depth_of x) (context_by (term_of x) c.args.context.now) c.args.var)
    (λ (f : T.FamilyAt) (r : Outcome DeclRefusal T.FamilyAt). Then (Demands (can_split f.decl) BadTree)
    (λ (o : Unit {0}) (q : Outcome DeclRefusal T.FamilyAt). q ≡ Gives f) r) c.in_err-family.field-0.0 c.in_err-family.ensures.is)

pub returns-then-not-may_split-clause-is : goal.returns-then-not-may_split-clause-is
returns-then-not-may_split-clause-is c =
    goes_on (family_in (tree c.family_at.new.self.pool.now) c.in_ok-family.family) c.in_ok-family.ensures.is.1
    (stops BadTree (sym (ap (λ (b : Bool). cond b (Gives tt) (Refuses BadTree)) (sym c.may_split.ensures ∙ c.if-not-may_split.true))) refl)

pub returns-clause-is : goal.returns-clause-is
returns-clause-is c = (
  c.in_ok-family.ensures.is.0,
  goes_on (family_in (tree c.family_at.new.self.pool.now) c.in_ok-family.family) c.in_ok-family.ensures.is.1
      (goes_on tt (sym (ap (λ (b : Bool). cond b (Gives tt) (Refuses BadTree)) (sym c.may_split.ensures ∙ c.if-not-may_split.false))) refl),
)
