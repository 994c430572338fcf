use Rattle.std.proofs.Common.{ℕ, subst, refl}
use Rattle.std.specs.Prelude.{Option, Some, None}
use Rattle.core_rules.specs.Heads.{Within, HeadOf}
use Rattle.core_rules.specs.BoundedLaws.{no_solutions}
use Rattle.core_rules.proofs.Heads.Same.{nothing_acyclic}
use Rattle.term_pool.specs.Pool.{tree}
use Rattle.weak_head.specs.States.{answer_in}
use Rattle.core_kernel.proofs.Shown.{found-as, no_meta}
use Rattle.tree_kernel.specs.Reader.{signature_of}
use Rattle.tree_kernel.proofs.reader.Reader.spine.Goals as goal

pub reduce-requires-clause-acyclic : goal.reduce-requires-clause-acyclic
reduce-requires-clause-acyclic c = nothing_acyclic

pub returns-in-Some-clause-is : goal.returns-in-Some-clause-is
returns-in-Some-clause-is c =
    let x = c.args.self.now in
    let g = signature_of x in
    let a = tree x.pool.now c.args.ty in
    let q = c.reduce.new.pool in
    let t = c.in-Found.term in
    let h = found-as g x.limits.fuel x.limits.depth a q c.in_ok-shown.shown c.in-Found.meta t c.in-Found.used c.in-Found.is c.in_ok-shown.ensures.answer in
    let k = subst (λ (o : Option ℕ). HeadOf g no_solutions a x.limits.fuel (Within (answer_in (tree q) o t) c.in-Found.used)) c.in-Some.is h.1 in
    (Within (answer_in (tree q) (Some c.in-Some.meta) t) c.in-Found.used, k, refl)

pub returns-clause-is : goal.returns-clause-is
returns-clause-is c =
    let x = c.args.self.now in
    let g = signature_of x in
    let a = tree x.pool.now c.args.ty in
    let q = c.reduce.new.pool in
    let t = c.in-Found.term in
    let h = found-as g x.limits.fuel x.limits.depth a q c.in_ok-shown.shown c.in-Found.meta t c.in-Found.used c.in-Found.is c.in_ok-shown.ensures.answer in
    let k = subst (λ (o : Option ℕ). HeadOf g no_solutions a x.limits.fuel (Within (answer_in (tree q) o t) c.in-Found.used))
    (no_meta c.in-Found.meta c.in_default-meta.not-Some) h.1 in
    (h.0, (Within (answer_in (tree q) None t) c.in-Found.used, k, refl))
