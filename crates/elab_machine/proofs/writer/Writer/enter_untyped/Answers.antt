use Rattle.std.proofs.Common.{◌≡◌, [], ◌∷◌, ◌++◌, sym, ap, subst, ◌∙◌, arith}
use Rattle.core_rules.specs.Term.{Term}
use Rattle.core_rules.specs.Signature.{Telescope}
use Rattle.core_rules.specs.Mapped.{telescope_map}
use Rattle.term_pool.specs.Growth.{Extends-length, Extends-tree}
use Rattle.written_rules.specs.Rules.{untyped_lambda, binding, Values}
use Rattle.elab_machine.specs.Binders.{in_lambdas}
use Rattle.elab_machine.specs.Writer.{Read, over, term_of, values_of}
use Rattle.elab_machine.proofs.Kept.{ready_kept, values_kept}
use Rattle.elab_machine.proofs.Entering.{kept_enters, untyped-next}
use Rattle.elab_machine.proofs.writer.Writer.enter_untyped.Goals as goal

pub enter-requires-clause-ready : goal.enter-requires-clause-ready
enter-requires-clause-ready c = ready_kept c.requires.ready c.in_ok-parts.ensures.grows c.in_ok-parts.ensures.keeps

pub returns-clause-is : goal.returns-clause-is
returns-clause-is c =
    let x = c.args.self.now in
    let y = c.function_wanted.new.self in
    let z = c.enter.new.self in
    let j = c.in_ok-parts.ensures in
    let h = c.in_ok-enter.ensures.enters in
    let dom = c.in_ok-parts.parts.dom in
    let cod = c.in_ok-parts.parts.cod in
    let gz = c.in_ok-enter.ensures.grows in
    let pushed = c.in_ok-push.ensures.items ∙ ap (λ es. es ++ record { name = c.args.name; flag = c.args.flag; ty = dom } ∷ []) c.new-entries.ensures.items in
    let d : term_of z dom ≡ term_of y dom = Extends-tree dom gz.extends j.is.0 in
    let e : term_of z cod ≡ term_of y cod = Extends-tree cod gz.extends j.is.1 in
    let vs : values_of z ≡ binding c.args.name (term_of y dom) (values_of x) = h.values ∙ ap (binding c.args.name (term_of y dom)) (values_kept c.requires.ready j.grows j.keeps) in
    let es : telescope_map (term_of z) c.push.new.self.items ≡ record { name = c.args.name; flag = c.args.flag; ty = term_of y dom } ∷ [] =
    ap (telescope_map (term_of z)) pushed ∙ ap (λ (t : Term). record { name = c.args.name; flag = c.args.flag; ty = t } ∷ []) d in
    record {
      enters = kept_enters j.keeps h.enters;
      within = rw pushed (omega (arith, Extends-length gz.extends, j.is.0), tt);
      wanted = omega (arith, Extends-length gz.extends, j.is.1);
      reading = λ k r a.
          subst (λ (fs : Telescope Term). Read (over x) (untyped_lambda c.args.pos c.args.flag c.args.name k (values_of x) (term_of x c.args.wanted)) (in_lambdas fs r)) (sym es)
          (untyped-next (over x) c.args.pos c.args.flag c.args.name (values_of x) (term_of x c.args.wanted) (term_of y dom, term_of y cod) j.is.2 k r
          (subst (λ (t : Term). Read (over x) (k (binding c.args.name (term_of y dom) (values_of x)) t) r) e (subst (λ (us : Values). Read (over x) (k us (term_of z cod)) r) vs a)));
    }
