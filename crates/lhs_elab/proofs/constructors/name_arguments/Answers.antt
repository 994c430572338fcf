use Rattle.std.proofs.Common.{◌<◌, ℕ, List, length, take, drop, ◌-◌, sym, subst}
use Rattle.core_rules.specs.Signature.{Entry}
use Rattle.core_rules.specs.Mapped.{AllEntries}
use Rattle.core_terms.specs.Pattern.{origin_of}
use Rattle.el_base.proofs.Throughout.{all-append}
use Rattle.lhs_elab.proofs.Naming.{NamedSo, named-first, named-step}
use Rattle.lhs_elab.proofs.constructors.name_arguments.Goals as goal

pub loop-flags-init : goal.loop-flags-init
loop-flags-init c = record { so = subst (λ (es : List (Entry ℕ)). NamedSo c.args.arguments.now c.args.written.now c.args.patterns.now es 0 c.args.written.now c.args.patterns.now c.args.arguments.now) (sym c.new-made.ensures.items) (named-first c.args.arguments.now c.args.written.now c.args.patterns.now) }

pub loop-flags-preserved : goal.loop-flags-preserved
loop-flags-preserved c =
    let flags = c.loop-flags.flags.now in
    record {
      so = named-step c.args.arguments.now c.args.written.now c.args.patterns.now c.loop-flags.made.items c.loop-flags.hidden flags c.loop-flags.left.now c.loop-flags.others.now c.loop-flags.invariant.so
          c.first_flag-has.result (take (length flags - 1) (drop 1 flags)) c.after-left.result.now c.in_ok-hidden.hidden (origin_of c.slot_origin-from.result) c.first_flag-has.ensures c.slot_origin-from.ensures c.after-left.ensures c.in_ok-hidden.ensures
          c.in_ok-made.made.items c.rest_of-others.result.now c.in_ok-made.ensures c.rest_of-others.ensures;
    }

pub returns-clause-below : goal.returns-clause-below
returns-clause-below c = λ m a.
    let b = c.loop-flags.invariant.so.below m a in
    subst (AllEntries (λ t. t < m)) (sym c.in_ok-extend_from_slice.ensures.items) (all-append (λ (e : Entry ℕ). e.ty < m) c.loop-flags.made.items c.loop-flags.others.now b.0 b.1)
