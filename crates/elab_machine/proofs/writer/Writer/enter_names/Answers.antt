use Rattle.std.proofs.Common.{◌≡◌, ◌<◌, ◌-◌, ℕ, List, [], ◌∷◌, length, take, drop, sym, subst}
use Rattle.el_base.proofs.Throughout.{all-push}
use Rattle.core_rules.specs.Term.{Term}
use Rattle.core_rules.specs.Signature.{Entry}
use Rattle.kernel_rules.specs.Outcome.{Outcome}
use Rattle.conversion.proofs.Slices.{unrolled, none_within}
use Rattle.resolved_tree.specs.declared.resolved.ResolvedName.{ResolvedName}
use Rattle.written_rules.specs.Refusals.{Refusal}
use Rattle.written_rules.specs.Rules.{grouped, known}
use Rattle.written_rules.specs.Expressions.{ids}
use Rattle.elab_machine.specs.Writer.{Read, over, term_of, values_of}
use Rattle.elab_machine.proofs.Kept.{Grows-refl, Grows-trans}
use Rattle.elab_machine.proofs.Around.{no_functions, entries-weaker}
use Rattle.elab_machine.proofs.Entering.{Enters-refl, Enters-trans}
use Rattle.elab_machine.proofs.Steps.{names-next}
use Rattle.elab_machine.proofs.writer.Writer.enter_names.Goals as goal

pub loop-left-init : goal.loop-left-init
loop-left-init c =
    let x = c.args.self.now in
    let none = c.new-entries.ensures.items in
    record {
      grows = Grows-refl x;
      enters = Enters-refl x c.requires.ready;
      ty = c.requires.found;
      within = rw none tt;
      reading = λ e r h. rw none (subst (λ (q : Outcome Refusal (Term × ℕ)). Read (over x) (grouped c.args.flag (ids c.args.names.now) (known (term_of x c.args.found.term) c.args.found.level) e (values_of x)) q) (no_functions r) h);
    }

pub returns-in_err-push-clause-grows : goal.returns-in_err-push-clause-grows
returns-in_err-push-clause-grows c = c.loop-left.invariant.grows

pub enter-requires-clause-ready : goal.enter-requires-clause-ready
enter-requires-clause-ready c = c.loop-left.invariant.enters.ready

pub enter-requires-clause-ty : goal.enter-requires-clause-ty
enter-requires-clause-ty c = c.loop-left.invariant.ty

pub returns-in_err-ty-clause-grows : goal.returns-in_err-ty-clause-grows
returns-in_err-ty-clause-grows c = Grows-trans c.loop-left.invariant.grows c.in_err-ty.ensures.grows

pub loop-left-preserved : goal.loop-left-preserved
loop-left-preserved c =
    let i = c.loop-left.invariant in
    let y = c.loop-left.self in
    let z = c.enter.new.self in
    let left = c.loop-left.left.now in
    let more = take (length left - 1) (drop 1 left) in
    let name = c.name-item.result in
    let first : left ≡ name ∷ more = unrolled left name c.in-len1-up.len_at_least c.name-item.is in
    let h = c.in_ok-ty.ensures.enters in
    let g = c.in_ok-ty.ensures.grows in
    let pushed = c.in_ok-push.ensures.items in
    record {
      grows = Grows-trans i.grows g;
      enters = Enters-trans i.enters h.enters;
      ty = h.within;
      within = rw pushed (entries-weaker y.pool.now z.pool.now _ g.extends (all-push (λ (e : Entry ℕ). e.ty < length y.pool.now.trees) c.loop-left.entries.items _ i.within i.ty));
      reading = rw c.higher-level.ensures (names-next g (over c.args.self.now) (grouped c.args.flag (ids c.args.names.now) (known (term_of c.args.self.now c.args.found.term) c.args.found.level)) (values_of c.args.self.now)
          c.args.flag c.args.found.level c.loop-left.level c.loop-left.entries.items c.push.new.self.items i.within left more name first c.loop-left.ty c.in_ok-ty.ty i.ty h pushed i.reading);
    }

pub returns-clause-grows : goal.returns-clause-grows
returns-clause-grows c = c.loop-left.invariant.grows

pub returns-clause-is : goal.returns-clause-is
returns-clause-is c =
    let i = c.loop-left.invariant in
    let x = c.args.self.now in
    let y = c.loop-left.self in
    let none : c.loop-left.left.now ≡ [] = none_within c.loop-left.left.now c.in_default.len_below in
    record {
      enters = i.enters;
      within = i.within;
      reading = λ e r h. i.reading e r (subst (λ (xs : List ResolvedName). Read (over x) (grouped c.args.flag (ids xs) (known (term_of y c.loop-left.ty) c.args.found.level) e (values_of y)) r) (sym none) h);
    }
