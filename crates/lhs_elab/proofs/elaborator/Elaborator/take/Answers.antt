use Rattle.std.proofs.Common.{◌≡◌, ℕ, ◌+◌, [], ◌∷◌, ◌++◌, Option, length, refl, ap, sym, subst, ◌∙◌, arith}
use Rattle.core_rules.specs.InScope.{IsAcyclic}
use Rattle.core_rules.specs.Elimination.{Arg}
use Rattle.term_pool.specs.Pool.{tree}
use Rattle.core_terms.specs.Pattern.{origin_of}
use Rattle.core_terms.specs.Solutions.{AreIn-stays, solved_in-stays}
use Rattle.core_terms.proofs.SignatureGrowth.{Stands-extends}
use Rattle.lhs_elab.specs.declared.left.Left.{Left as CodeLeft}
use Rattle.lhs_elab.specs.declared.left.Spot.TheVariants as S
use Rattle.lhs_elab.proofs.Taking.{pushed-below, pushed-is}
use Rattle.lhs_elab.proofs.elaborator.Elaborator.take.Goals as goal

pub returns-clause-ready : goal.returns-clause-ready
returns-clause-ready g c =
    let x = c.args.self.now in
    let p = x.pool.now in
    let q = c.add.new.self in
    let e = c.add.ensures.extends in
    let F : ℕ → Option ℕ = g.S.Solutions.solution x.solutions.now in
    let n : c.in-Ok.level ≡ length x.left.now.context.items = omega (arith, c.in-Ok.ensures, c.len.ensures) in
    let m : c.in-Some.outer ≡ length x.left.now.context.items + 1 = omega (arith, n, c.in-Some.ensures) in
    let l : CodeLeft = record { context = c.push-3.new.self; spine = c.push.new.self; spots = c.push-2.new.self; pats = x.left.now.pats; ty = c.args.cod; inserted = c.in_ok-inserted.inserted } in
    record {
      signature = Stands-extends p q x.signature.now e c.requires.ready.signature;
      solutions = AreIn-stays e c.requires.ready.solutions;
      acyclic = subst IsAcyclic (sym (solved_in-stays p q F e c.requires.ready.solutions)) c.requires.ready.acyclic;
      left = pushed-below p q e c.args.flag c.args.binder c.args.dom c.args.cod (origin_of c.args.origin.now) x.left.now l c.requires.dom c.requires.cod c.requires.ready.left (record {
        argument = c.argument-taken.result;
        arg = c.in_ok-arg.arg;
        context = c.in_ok-push-3.ensures.items ∙ ap (λ (y : ℕ). x.left.now.context.items ++ record { name = y; flag = c.args.flag; ty = c.args.dom } ∷ []) c.name_by-name.ensures;
        spine = c.in_ok-push.ensures.items;
        is = c.argument-taken.ensures.is (tree q) ∙ ap (λ (y : ℕ). record { it = Arg c.args.flag (tree q c.in_ok-arg.arg); outer = y }) m;
        below = c.argument-taken.ensures.below (length q.trees);
        stands = c.in_ok-arg.ensures.stands;
        spots = c.in_ok-push-2.ensures.items ∙ ap (λ (y : ℕ). x.left.now.spots.items ++ S.Var y ∷ []) n;
        pats = refl;
        ty = refl;
        inserted = c.in_ok-inserted.ensures;
      });
    }

pub returns-clause-left : goal.returns-clause-left
returns-clause-left g c =
    let x = c.args.self.now in
    let p = x.pool.now in
    let q = c.add.new.self in
    let n : c.in-Ok.level ≡ length x.left.now.context.items = omega (arith, c.in-Ok.ensures, c.len.ensures) in
    let m : c.in-Some.outer ≡ length x.left.now.context.items + 1 = omega (arith, n, c.in-Some.ensures) in
    let l : CodeLeft = record { context = c.push-3.new.self; spine = c.push.new.self; spots = c.push-2.new.self; pats = x.left.now.pats; ty = c.args.cod; inserted = c.in_ok-inserted.inserted } in
    pushed-is p q c.add.ensures.extends c.args.flag c.args.binder c.args.dom c.args.cod (origin_of c.args.origin.now) x.left.now l c.requires.dom c.requires.cod c.requires.ready.left (record {
      argument = c.argument-taken.result;
      arg = c.in_ok-arg.arg;
      context = c.in_ok-push-3.ensures.items ∙ ap (λ (y : ℕ). x.left.now.context.items ++ record { name = y; flag = c.args.flag; ty = c.args.dom } ∷ []) c.name_by-name.ensures;
      spine = c.in_ok-push.ensures.items;
      is = c.argument-taken.ensures.is (tree q) ∙ ap (λ (y : ℕ). record { it = Arg c.args.flag (tree q c.in_ok-arg.arg); outer = y }) m;
      below = c.argument-taken.ensures.below (length q.trees);
      stands = c.in_ok-arg.ensures.stands;
      spots = c.in_ok-push-2.ensures.items ∙ ap (λ (y : ℕ). x.left.now.spots.items ++ S.Var y ∷ []) n;
      pats = refl;
      ty = refl;
      inserted = c.in_ok-inserted.ensures;
    })
