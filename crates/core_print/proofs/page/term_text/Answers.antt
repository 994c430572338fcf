use Rattle.std.proofs.Common.{◌++◌, reverse, sym, ap, ◌∙◌, subst}
use Rattle.std.specs.List.{AllByRecursion}
use Rattle.std.proofs.lemmas.List.{append-nil}
use Rattle.term_pool.specs.Pool.{tree}
use Rattle.core_print.specs.Pages.{WorkIn, names_in, rest}
use Rattle.core_print.specs.Printed.{shown}
use Rattle.core_print.specs.Views.{world_of}
use Rattle.core_print.proofs.Paging.{works_last}
use Rattle.core_print.proofs.page.term_text.Goals as goal

pub loop-turn-init : goal.loop-turn-init
loop-turn-init c =
    let w = world_of c.args.source.now.view in
    let p = c.args.source.now.pool.now in
    let ns = names_in w.names c.args.inside.items in
    let a = c.in_ok-push_show.ensures w p c.requires.t in
    record {
      works = a.works (subst (AllByRecursion (WorkIn p)) (sym c.new-left.ensures.items) tt);
      is =
          ap (λ o. o ++ rest w p ns (reverse c.push_show.new.left.items)) c.new-out.ensures.bytes
          ∙ (a.is ns ∙ (ap (λ ws. shown w ns (tree p c.args.t) ++ rest w p ns (reverse ws)) c.new-left.ensures.items ∙ append-nil (shown w ns (tree p c.args.t))));
    }

pub turn-requires-clause-work : goal.turn-requires-clause-work
turn-requires-clause-work c =
    (works_last c.args.source.now.pool.now c.loop-turn.page.left.items c.pop.new.self.items c.in-Some.work c.in-Some.ensures.items c.loop-turn.invariant.works).1
