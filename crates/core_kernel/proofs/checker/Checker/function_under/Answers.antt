use Rattle.std.proofs.Common.{◌≡◌, List, length, map, take, true, false, arith, refl, ap, sym, subst, ◌∙◌}
use Rattle.std.proofs.lemmas.List.{take_all}
use Rattle.std.proofs.lemmas.Result.{err_from_is_err_and}
use Rattle.core_rules.specs.Bounded.{same_flag}
use Rattle.core_rules.specs.Term.{Term}
use Rattle.core_rules.specs.Substitution.{over as traversed}
use Rattle.term_pool.specs.Placed.{filled, filled_var, items-stay}
use Rattle.term_pool.specs.Pool.{tree}
use Rattle.term_pool.specs.Growth.{Extends-length, Extends-tree}
use Rattle.kernel_rules.specs.Outcome.{Gives, Refuses}
use Rattle.kernel_rules.specs.Refusals.{NotAFunction}
use Rattle.core_kernel.specs.Answers.{RefusedBy}
use Rattle.core_kernel.specs.Spine.{filled_in}
use Rattle.core_kernel.specs.Checker.{ShowsParts, over, signature_of}
use Rattle.core_kernel.proofs.Checking.{ready_kept, here}
use Rattle.core_kernel.proofs.Filling.{under_none}
use Rattle.core_kernel.proofs.Functions.{pi-parts, pi-other, parts_as}
use Rattle.core_kernel.proofs.checker.Checker.function_under.Goals as goal

pub returns-then-same_flag-clause-is : goal.returns-then-same_flag-clause-is
returns-then-same_flag-clause-is c =
    let x = c.args.self.now in
    let p = x.pool.now in
    let q = c.put_together.new.self.pool.now in
    let ts = c.args.taken.now in
    let r : List Term = map (tree p) ts in
    let s = c.in_ok-dom.ensures.is in
    let h = c.in_ok-dom.ensures.grows.extends in
    let b = c.in-Pi.ensures.below in
    let e : same_flag c.args.flag c.in-Pi.other ≡ true = sym c.same_flag.ensures ∙ c.if-same_flag.true in
    let stays : map (tree q) ts ≡ r = items-stay p q ts h c.requires.taken in
    let all : take (length ts) ts ≡ ts = take_all (length ts) ts (omega arith) in
    let cod : traversed (filled_var r) 1 (tree p c.in-Pi.cod) ≡ traversed (filled_var (map (tree q) (take (length ts) ts))) 1 (tree q c.in-Pi.cod) =
    ap (λ (t : Term). traversed (filled_var r) 1 t) (sym (Extends-tree c.in-Pi.cod h (omega (arith, b.1, c.requires.ty))))
    ∙ ap (λ (us : List Term). traversed (filled_var us) 1 (tree q c.in-Pi.cod)) (sym (ap (map (tree q)) all ∙ stays)) in
    record {
      dom = s.within;
      cod = omega (arith, b.1, c.requires.ty, Extends-length h);
      under = omega arith;
      is = parts_as (over x) c.args.flag (filled r (tree p c.args.ty)) (sym s.is) cod
          (subst (λ (t : Term). ShowsParts (over x) c.args.flag (filled r t) (Gives (filled r (tree p c.in-Pi.dom), traversed (filled_var r) 1 (tree p c.in-Pi.cod)))) (sym c.in-Pi.ensures.is)
          (pi-parts (signature_of x) x.limits.fuel x.limits.depth c.args.flag c.in-Pi.other c.in-Pi.name (tree p c.in-Pi.dom) (tree p c.in-Pi.cod) r e));
    }

pub returns-in-Pi-clause-is : goal.returns-in-Pi-clause-is
returns-in-Pi-clause-is c =
    let x = c.args.self.now in
    let p = x.pool.now in
    let r : List Term = map (tree p) c.args.taken.now in
    let s = c.in_ok-ty.ensures.is in
    let e : same_flag c.args.flag c.in-Pi.other ≡ false = sym c.same_flag.ensures ∙ c.if-same_flag.false in (
      s.within,
      subst (λ (t : Term). ShowsParts (over x) c.args.flag (filled r (tree p c.args.ty)) (Refuses (NotAFunction t))) (sym s.is)
          (subst (λ (t : Term). ShowsParts (over x) c.args.flag (filled r t) (Refuses (NotAFunction (filled r t)))) (sym c.in-Pi.ensures.is)
          (pi-other (signature_of x) x.limits.fuel x.limits.depth c.args.flag c.in-Pi.other c.in-Pi.name (tree p c.in-Pi.dom) (tree p c.in-Pi.cod) r e)),
    )

pub parts_by-requires-clause-ready : goal.parts_by-requires-clause-ready
parts_by-requires-clause-ready c = ready_kept c.requires.ready c.in_ok-whole.ensures.grows c.in_ok-whole.ensures.keeps

pub returns-in_err-parts-clause-is : goal.returns-in_err-parts-clause-is
returns-in_err-parts-clause-is c =
    let x = c.args.self.now in
    let i = c.in_ok-whole.ensures in
    let q = c.parts_by.new.self.pool.now in
    let p = err_from_is_err_and c.from_residual-in_err-parts.result c.from_residual-in_err-parts.ensures.1 in
    rw (p.1, p.2)
    (here c.requires.ready i.grows i.keeps (λ o e. RefusedBy q (λ r. ShowsParts o c.args.flag (filled_in x.pool.now c.args.taken.now c.args.ty) (Refuses r)) e) c.in_err-parts.field-0.0
    (subst (λ (t : Term). RefusedBy q (λ r. ShowsParts (over c.put_together-2.new.self) c.args.flag t (Refuses r)) c.in_err-parts.field-0.0) i.is.is c.in_err-parts.ensures.is))

pub returns-clause-is : goal.returns-clause-is
returns-clause-is c =
    let x = c.args.self.now in
    let i = c.in_ok-whole.ensures in
    let j = c.in_ok-parts.ensures.is in
    let z = c.parts_by.new.self.pool.now in
    let a : Term = filled_in x.pool.now c.args.taken.now c.args.ty in
    record {
      dom = j.0;
      cod = j.1;
      under = omega arith;
      is = parts_as (over x) c.args.flag a refl (sym (under_none (tree z c.in_ok-parts.parts.cod)))
          (here c.requires.ready i.grows i.keeps (λ o w. ShowsParts o c.args.flag a (Gives w)) (tree z c.in_ok-parts.parts.dom, tree z c.in_ok-parts.parts.cod)
          (subst (λ (t : Term). ShowsParts (over c.put_together-2.new.self) c.args.flag t (Gives (tree z c.in_ok-parts.parts.dom, tree z c.in_ok-parts.parts.cod))) i.is.is j.2));
    }
