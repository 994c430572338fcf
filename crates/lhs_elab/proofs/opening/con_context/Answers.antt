use Rattle.std.proofs.Common.{ℕ, ◌++◌, List, length, map, ap, ◌∙◌, arith}
use Rattle.core_rules.specs.Signature.{Entry}
use Rattle.core_rules.specs.Mapped.{telescope_map}
use Rattle.core_rules.specs.TypedTree.{entries_under}
use Rattle.index_unify.specs.Unified.{context_in}
use Rattle.term_pool.specs.Pool.{tree}
use Rattle.lhs_elab.proofs.Opened.{all-context, all-long}
use Rattle.lhs_elab.proofs.opening.con_context.Goals as goal

pub returns-clause-long : goal.returns-clause-long
returns-clause-long c =
    let k = c.in_ok-term.ensures in
    let m = c.in_ok-there.ensures in
    let d = c.in_ok-all.ensures in
    let outer = c.args.outer.now in
    ap (λ (es : List (Entry ℕ)). length es) c.from_vec.ensures
    ∙ all-long c.args.pool.now c.new_con.new.pool c.with_arguments.new.pool c.with_inner.new.pool k.extends m.extends d.extends c.args.con outer c.args.inner.now c.args.arguments.now c.in_ok-there.there.items c.in_ok-all.all.items c.args.params.now c.as_slice.result.now c.in_ok-term.term c.in-Ok-try_from.new c.in-Ok.count
    c.requires.outer c.requires.inner c.requires.arguments c.requires.params (omega (arith, c.in-Ok.ensures)) (omega (arith, c.in-Ok-try_from.ensures)) (c.as_slice.ensures.value ∙ c.in_ok-turned.ensures) k.is.within k.is.is
    (m.is ∙ ap (λ (es : List (Entry ℕ)). telescope_map (tree c.new_con.new.pool) es ++ entries_under (map (tree c.new_con.new.pool) c.as_slice.result.now) 0 (telescope_map (tree c.new_con.new.pool) c.args.arguments.now)) c.in_ok-before.ensures.items) d.is

pub returns-clause-is : goal.returns-clause-is
returns-clause-is c = λ x.
    let k = c.in_ok-term.ensures in
    let m = c.in_ok-there.ensures in
    let d = c.in_ok-all.ensures in
    let outer = c.args.outer.now in
    ap (context_in c.with_inner.new.pool) c.from_vec.ensures
    ∙ all-context c.args.pool.now c.new_con.new.pool c.with_arguments.new.pool c.with_inner.new.pool k.extends m.extends d.extends c.args.con outer c.args.inner.now c.args.arguments.now c.in_ok-there.there.items c.in_ok-all.all.items c.args.params.now c.as_slice.result.now c.in_ok-term.term c.in-Ok-try_from.new c.in-Ok.count
    c.requires.outer c.requires.inner c.requires.arguments c.requires.params (omega (arith, c.in-Ok.ensures)) (omega (arith, c.in-Ok-try_from.ensures)) (c.as_slice.ensures.value ∙ c.in_ok-turned.ensures) k.is.within k.is.is
    (m.is ∙ ap (λ (es : List (Entry ℕ)). telescope_map (tree c.new_con.new.pool) es ++ entries_under (map (tree c.new_con.new.pool) c.as_slice.result.now) 0 (telescope_map (tree c.new_con.new.pool) c.args.arguments.now)) c.in_ok-before.ensures.items) d.is x
