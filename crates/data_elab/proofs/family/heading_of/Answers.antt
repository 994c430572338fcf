use Rattle.std.proofs.Common.{rules, ◌≡◌, List, map, sym, subst}
use Rattle.core_terms.specs.Signature.{signature_in}
use Rattle.resolved_tree.specs.declared.resolved.Resolved.{Resolved}
use Rattle.resolved_tree.specs.declared.resolved.ResolvedBinder.{ResolvedBinder}
use Rattle.term_pool.specs.Pool.{Pool}
use Rattle.written_rules.specs.Asking.{Comes}
use Rattle.written_rules.specs.Expressions.{binder_meaning, expr_meaning}
use Rattle.data_rules.specs.Rules.{heading}
use Rattle.data_rules.specs.Shapes.{most_shown}
use Rattle.data_elab.specs.Family.{HeadingOf}
use Rattle.data_elab.specs.Heading.{AnswersHeading}
use Rattle.data_elab.proofs.family.heading_of.Goals as goal

pub returns-in-Data-clause-is : goal.returns-in-Data-clause-is
returns-in-Data-clause-is c =
    let g = signature_in c.args.pool.now c.args.sig.now in
    let y : Pool = c.read_heading.new.self.pool.now in
    let W : Pool → Type 0 = λ q. AnswersHeading q (HeadingOf g c.args.limits.fuel c.args.limits.depth c.args.decl.now) c.read_heading.result in
    let a = subst (λ (bs : List ResolvedBinder). AnswersHeading y (Comes g c.args.limits.fuel c.args.limits.depth (heading c.in-Data.name.id most_shown (map (binder_meaning g) bs) (expr_meaning g c.in-Data.ty))) c.read_heading.result) c.as_slice.ensures c.read_heading.ensures.is in
    let b : W y = subst (λ (d : Resolved). AnswersHeading y (HeadingOf g c.args.limits.fuel c.args.limits.depth d) c.read_heading.result) (sym c.in-Data.is) a in
    let h : (q : Pool) → q ≡ y → W q = λ q i. subst W (sym i) b in
    h _ (search rules)

pub returns-in-Record-clause-is : goal.returns-in-Record-clause-is
returns-in-Record-clause-is c =
    let g = signature_in c.args.pool.now c.args.sig.now in
    let y : Pool = c.read_heading-in-Record.new.self.pool.now in
    let W : Pool → Type 0 = λ q. AnswersHeading q (HeadingOf g c.args.limits.fuel c.args.limits.depth c.args.decl.now) c.read_heading-in-Record.result in
    let a = subst (λ (bs : List ResolvedBinder). AnswersHeading y (Comes g c.args.limits.fuel c.args.limits.depth (heading c.in-Record.name.id 0 (map (binder_meaning g) bs) (expr_meaning g c.in-Record.ty))) c.read_heading-in-Record.result) c.as_slice-in-Record.ensures c.read_heading-in-Record.ensures.is in
    let b : W y = subst (λ (d : Resolved). AnswersHeading y (HeadingOf g c.args.limits.fuel c.args.limits.depth d) c.read_heading-in-Record.result) (sym c.in-Record.is) a in
    let h : (q : Pool) → q ≡ y → W q = λ q i. subst W (sym i) b in
    h _ (search rules)
