use Rattle.std.proofs.Common.{◌≡◌, ◌∙◌, ap, subst}
use Rattle.core_rules.specs.Term.{Term}
use Rattle.lhs_rules.specs.Rules.{shows}
use Rattle.lhs_rules.specs.Spots.{spot_at, type_at}
use Rattle.lhs_elab.specs.Answers.{Answers, IsShown}
use Rattle.lhs_elab.specs.Elaborator.{Comes, Over, left_of, over, term_of}
use Rattle.lhs_elab.proofs.Kept.{over-kept, ready-kept}
use Rattle.lhs_elab.proofs.elaborator.Elaborator.shows_spot.Goals as goal

pub shows-requires-clause-ready : goal.shows-requires-clause-ready
shows-requires-clause-ready g c = let k = c.in_ok-ty.ensures in ready-kept g.S.Solutions.solution c.args.self.now c.type_at.new.self c.requires.ready k.grows k.keeps k.left

pub returns-clause-is : goal.returns-clause-is
returns-clause-is g c = λ f.
    let s = g.S.Solutions.solution in
    let x = c.args.self.now in
    let y = c.type_at.new.self in
    let k = c.in_ok-ty.ensures in
    let same : term_of y c.in_ok-ty.ty ≡ type_at (left_of x).context (spot_at (left_of x) c.args.number) = k.is.is ∙ ap (type_at (left_of x).context) c.spot-spot.ensures.is in
    subst (λ (t : Term). Answers (IsShown c.shows.new.self.pool.now) c.shows.new.self.pool.now (Comes (over s f x) (shows c.args.pos t)) c.shows.result) same
    (subst (λ (o : Over). Answers (IsShown c.shows.new.self.pool.now) c.shows.new.self.pool.now (Comes o (shows c.args.pos (term_of y c.in_ok-ty.ty))) c.shows.result) (over-kept s x y c.requires.ready k.grows k.keeps f) (c.shows.ensures.is f))
