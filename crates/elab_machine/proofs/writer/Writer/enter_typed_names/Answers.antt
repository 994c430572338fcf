use Rattle.std.proofs.Common.{◌≡◌, ◌<◌, ◌-◌, ℕ, List, [], ◌∷◌, length, take, drop, sym, subst, arith}
use Rattle.std.proofs.lemmas.Result.{err_from_is_err_and}
use Rattle.el_base.proofs.Throughout.{all-push}
use Rattle.core_rules.specs.Signature.{Entry}
use Rattle.conversion.proofs.Slices.{unrolled, none_within}
use Rattle.resolved_tree.specs.declared.resolved.ResolvedName.{ResolvedName}
use Rattle.term_pool.specs.Growth.{Extends-length}
use Rattle.written_rules.specs.Rules.{typed_lambda, known}
use Rattle.written_rules.specs.Expressions.{ids}
use Rattle.elab_machine.specs.Writer.{Read, over, term_of, values_of}
use Rattle.elab_machine.proofs.Kept.{Grows-trans, ready_kept}
use Rattle.elab_machine.proofs.Around.{entries-weaker}
use Rattle.elab_machine.proofs.Entering.{enters_kept, Enters-trans}
use Rattle.elab_machine.proofs.Steps.{names-no_function, names-other, typed_names-next}
use Rattle.elab_machine.proofs.writer.Writer.enter_typed_names.Goals as goal

pub returns-in_err-parts-clause-is : goal.returns-in_err-parts-clause-is
returns-in_err-parts-clause-is c =
    let i = c.loop-left.invariant in
    let x = c.args.self.now in
    let j = c.in_err-parts.ensures in
    let left = c.loop-left.left.now in
    let more = take (length left - 1) (drop 1 left) in
    let name = c.name-item.result in
    let first : left ≡ name ∷ more = unrolled left name c.in-len1-up.len_at_least c.name-item.is in
    let p = err_from_is_err_and c.from_residual.result c.from_residual.ensures.1 in
    rw (p.1, p.2)
    (λ k. names-no_function c.requires.ready i.grows i.enters j.grows j.keeps c.args.pos c.args.flag c.args.found.level left more name first
    (typed_lambda c.args.pos c.args.flag (ids c.args.names.now) (known (term_of x c.args.found.term) c.args.found.level)) (term_of x c.args.wanted) c.loop-left.entries.items c.loop-left.ty c.loop-left.wanted i.reading k c.in_err-parts.field-0.0 j.is)

pub enter_compared-requires-clause-ready : goal.enter_compared-requires-clause-ready
enter_compared-requires-clause-ready c = ready_kept c.loop-left.invariant.enters.ready c.in_ok-parts.ensures.grows c.in_ok-parts.ensures.keeps

pub returns-in_err-next-clause-is : goal.returns-in_err-next-clause-is
returns-in_err-next-clause-is c =
    let i = c.loop-left.invariant in
    let x = c.args.self.now in
    let j = c.in_ok-parts.ensures in
    let left = c.loop-left.left.now in
    let more = take (length left - 1) (drop 1 left) in
    let name = c.name-item.result in
    let first : left ≡ name ∷ more = unrolled left name c.in-len1-up.len_at_least c.name-item.is in
    let p = err_from_is_err_and c.from_residual-in_err-next.result c.from_residual-in_err-next.ensures.1 in
    rw (p.1, p.2)
    (λ k. names-other c.requires.ready i.grows i.enters j.grows j.keeps c.args.pos c.args.flag c.args.found.level left more name first
    (typed_lambda c.args.pos c.args.flag (ids c.args.names.now) (known (term_of x c.args.found.term) c.args.found.level)) (term_of x c.args.wanted) c.loop-left.entries.items c.loop-left.ty c.loop-left.wanted i.reading
    c.in_ok-parts.parts.dom c.in_ok-parts.parts.cod i.ty j.is.2 c.enter_compared.new.self.pool.now k c.in_err-next.field-0.0 c.in_err-next.ensures.is)

pub loop-left-preserved : goal.loop-left-preserved
loop-left-preserved c =
    let i = c.loop-left.invariant in
    let x = c.args.self.now in
    let y = c.loop-left.self in
    let z = c.enter_compared.new.self in
    let j = c.in_ok-parts.ensures in
    let left = c.loop-left.left.now in
    let more = take (length left - 1) (drop 1 left) in
    let name = c.name-item.result in
    let first : left ≡ name ∷ more = unrolled left name c.in-len1-up.len_at_least c.name-item.is in
    let h = c.in_ok-next.ensures.is in
    let gz = c.in_ok-next.ensures.grows in
    let g = Grows-trans j.grows gz in
    let pushed = c.in_ok-push.ensures.items in
    record {
      grows = Grows-trans i.grows g;
      enters = Enters-trans (enters_kept i.enters j.grows j.keeps) h.0.enters;
      ty = h.0.within;
      wanted = omega (arith, Extends-length gz.extends, j.is.1);
      within = rw pushed (entries-weaker y.pool.now z.pool.now _ g.extends (all-push (λ (e : Entry ℕ). e.ty < length y.pool.now.trees) c.loop-left.entries.items _ i.within i.ty));
      reading = typed_names-next c.requires.ready i.grows i.enters j.grows j.keeps c.args.pos c.args.flag c.args.found.level left more name first
          (typed_lambda c.args.pos c.args.flag (ids c.args.names.now) (known (term_of x c.args.found.term) c.args.found.level)) (term_of x c.args.wanted) c.loop-left.entries.items c.loop-left.ty c.loop-left.wanted i.reading
          c.in_ok-parts.parts.dom c.in_ok-parts.parts.cod i.ty j.is.2 gz c.in_ok-next.next h.0 h.1 c.push.new.self.items i.within pushed j.is.1;
    }

pub returns-clause-is : goal.returns-clause-is
returns-clause-is c =
    let i = c.loop-left.invariant in
    let x = c.args.self.now in
    let y = c.loop-left.self in
    let none : c.loop-left.left.now ≡ [] = none_within c.loop-left.left.now c.in_default.len_below in
    record {
      enters = i.enters;
      within = i.within;
      wanted = i.wanted;
      reading = λ e r h. i.reading e r (subst (λ (xs : List ResolvedName). Read (over x) (typed_lambda c.args.pos c.args.flag (ids xs) (known (term_of y c.loop-left.ty) c.args.found.level) e (values_of y) (term_of y c.loop-left.wanted)) r) (sym none) h);
    }
