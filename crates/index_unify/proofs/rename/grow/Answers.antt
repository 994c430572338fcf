use Rattle.std.specs.Prelude.{◌≡◌, length}
use Rattle.std.proofs.Common.{arith, ap, subst, ◌∙◌}
use Rattle.core_rules.specs.Term.{Var}
use Rattle.unify_rules.specs.Joined.{place_in}
use Rattle.term_pool.specs.Pool.{StandsFor}
use Rattle.index_unify.proofs.Renamed.{renaming_more}
use Rattle.index_unify.proofs.rename.grow.Goals as goal

pub returns-clause-renaming : goal.returns-clause-renaming
returns-clause-renaming c =
    let ks = c.args.renaming.now.keep.now in
    let is = c.args.renaming.now.terms.items in
    let v : c.in-Ok.var ≡ length is = omega (arith, c.in-Ok.ensures, c.len.ensures) in
    let e = ap Var (c.in_ok-place.ensures ∙ ap (place_in ks) v) in
    renaming_more c.args.pool.now c.add.new.self c.add.ensures.extends ks is c.push.new.self.items c.in_ok-term.term c.requires.renaming c.in_ok-push.ensures.items (subst (StandsFor c.add.new.self c.in_ok-term.term) e c.in_ok-term.ensures.stands)
