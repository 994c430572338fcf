use Rattle.std.proofs.Common.{◌≡◌, List, length, map, take, arith, ap, sym, subst, ◌∙◌}
use Rattle.std.proofs.lemmas.List.{take_all}
use Rattle.core_rules.specs.Term.{Term}
use Rattle.core_rules.specs.Substitution.{over as traversed}
use Rattle.term_pool.specs.Placed.{filled, filled_var, items-stay}
use Rattle.term_pool.specs.Pool.{tree}
use Rattle.term_pool.specs.Growth.{Extends-length, Extends-tree}
use Rattle.written_rules.specs.Asking.{◌>>=◌, gives}
use Rattle.written_rules.specs.Rules.{applied}
use Rattle.elab_machine.specs.Spine.{given, one_step, AnswersFunctionAt}
use Rattle.elab_machine.specs.Writer.{Read, Over, over, term_of, signature_of}
use Rattle.elab_machine.proofs.Kept.{ready_kept, over_kept}
use Rattle.elab_machine.proofs.Needs.{fits-step, whole_as}
use Rattle.elab_machine.proofs.writer.Writer.function_for.Goals as goal

pub returns-in-Some-clause-is : goal.returns-in-Some-clause-is
returns-in-Some-clause-is c =
    let x = c.args.self.now in
    let p = x.pool.now in
    let q = c.put_together.new.self.pool.now in
    let ts = c.args.taken.now in
    let r : List Term = map (tree p) ts in
    let h = c.in_ok-dom.ensures.grows.extends in
    let s = c.in_ok-dom.ensures.is in
    let d = c.in-Some.direct in
    let b = c.in-Some.ensures in
    let stays : map (tree q) ts ≡ r = items-stay p q ts h c.requires.taken in
    let all : take (length ts) ts ≡ ts = take_all (length ts) ts (omega arith) in
    let cod : traversed (filled_var (map (tree q) (take (length ts) ts))) 1 (tree q d.cod) ≡ traversed (filled_var r) 1 (tree p d.cod) =
    ap (λ (us : List Term). traversed (filled_var us) 1 (tree q d.cod)) (ap (map (tree q)) all ∙ stays)
    ∙ ap (λ (t : Term). traversed (filled_var r) 1 t) (Extends-tree d.cod h (b.cod)) in
    record {
      dom = s.within;
      cod = omega (arith, b.cod, Extends-length h);
      under = omega arith;
      reading = λ t vs e w i.
          subst (λ (u : Term). Read (over x) (one_step (signature_of x) c.args.pos c.args.at vs (record { term = t; ty = filled r u }) (given c.args.place c.args.way.now e)) w) (sym b.is)
          (fits-step (over x) c.args.pos c.args.at c.args.place b.name (filled r (tree p d.dom)) (traversed (filled_var r) 1 (tree p d.cod)) t vs e w c.args.way.now d.flag b.fits
          (subst (λ (a : Term). Read (over x) (e vs a >>= (λ v. gives (applied d.flag (record { term = t; ty = a }) v (traversed (filled_var r) 1 (tree p d.cod))))) w) s.is
          (subst (λ (k : Term). Read (over x) (e vs (tree q c.in_ok-dom.dom) >>= (λ v. gives (applied d.flag (record { term = t; ty = k }) v k))) w) cod i)));
    }

pub function_at-requires-clause-ready : goal.function_at-requires-clause-ready
function_at-requires-clause-ready c = ready_kept c.requires.ready c.in_ok-whole.ensures.grows c.in_ok-whole.ensures.keeps

pub returns-clause-is : goal.returns-clause-is
returns-clause-is c =
    let x = c.args.self.now in
    let i = c.in_ok-whole.ensures in
    whole_as (over x) c.args.pos c.args.at c.args.place c.args.way.now x.pool.now c.function_at.new.self.pool.now c.args.taken.now c.args.ty c.function_at.result
    (subst (λ (t : Term). AnswersFunctionAt (over x) c.args.pos c.args.at c.args.place c.args.way.now c.function_at.new.self.pool.now t c.function_at.result) i.is.is
    (subst (λ (o : Over). AnswersFunctionAt o c.args.pos c.args.at c.args.place c.args.way.now c.function_at.new.self.pool.now (term_of c.put_together-2.new.self c.in_ok-whole.whole) c.function_at.result)
    (over_kept c.requires.ready i.grows i.keeps) c.function_at.ensures.is))
