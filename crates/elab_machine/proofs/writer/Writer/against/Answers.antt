use Rattle.std.proofs.Common.{◌≡◌, refl, sym, subst, ◌∙◌, false}
use Rattle.std.proofs.lemmas.Result.{err_from_is_err_and}
use Rattle.core_rules.specs.Term.{Term}
use Rattle.core_rules.specs.Heads.{Answer}
use Rattle.kernel_rules.specs.Outcome.{Gives, Refuses}
use Rattle.weak_head.specs.States.{answer_in}
use Rattle.term_pool.specs.Pool.{tree}
use Rattle.written_rules.specs.Rules.{agrees, against}
use Rattle.elab_machine.specs.Answers.{RefusedBy}
use Rattle.elab_machine.specs.Spine.{found_in}
use Rattle.elab_machine.specs.Writer.{inserts, Grows, Keeps, Over, Read, over, term_of}
use Rattle.elab_machine.proofs.Kept.{ready_kept, over_kept, term_kept, within_kept, Grows-trans, Keeps-trans}
use Rattle.elab_machine.proofs.Reading.{read-next}
use Rattle.elab_machine.proofs.Ends.{against-after, against-refused}
use Rattle.elab_machine.proofs.writer.Writer.against.Goals as goal

pub agree-requires-clause-ready : goal.agree-requires-clause-ready
agree-requires-clause-ready c = ready_kept c.requires.ready c.in_ok-shown.ensures.grows c.in_ok-shown.ensures.keeps

pub returns-in_err-agree-clause-is : goal.returns-in_err-agree-clause-is
returns-in_err-agree-clause-is c =
    let x = c.args.self.now in
    let y = c.shows.new.self in
    let s = c.in_ok-shown.ensures in
    let w : Answer = answer_in (tree y.pool.now) c.in_ok-shown.shown.meta c.in_ok-shown.shown.form in
    let n : inserts w ≡ false = sym c.is_inserting.ensures ∙ c.if-is_inserting.false in
    let p = err_from_is_err_and c.from_residual-in_err-agree.result c.from_residual-in_err-agree.ensures.1 in
    let a = term_kept c.requires.ready s.grows s.keeps c.args.found.ty c.requires.ty in
    let b = term_kept c.requires.ready s.grows s.keeps c.args.wanted c.requires.wanted in
    let o = over_kept c.requires.ready s.grows s.keeps in
    let q = c.agree.new.self.pool.now in
    let e = c.in_err-agree.field-0.0 in
    rw (p.1, p.2)
    (against-refused (over x) c.args.pos c.args.at (term_of x c.args.wanted) (found_in x.pool.now c.args.found) w s.is.1 n q e
    (subst (λ (v : Over). RefusedBy q (λ r. Read v (agrees c.args.pos (term_of x c.args.found.ty) (term_of x c.args.wanted)) (Refuses r)) e) o
    (subst (λ (t : Term). RefusedBy q (λ r. Read (over y) (agrees c.args.pos t (term_of x c.args.wanted)) (Refuses r)) e) a
    (subst (λ (t : Term). RefusedBy q (λ r. Read (over y) (agrees c.args.pos (term_of y c.args.found.ty) t) (Refuses r)) e) b c.in_err-agree.ensures.is))))

pub returns-clause-is : goal.returns-clause-is
returns-clause-is c =
    let x = c.args.self.now in
    let y = c.shows.new.self in
    let z = c.agree.new.self in
    let s = c.in_ok-shown.ensures in
    let j = c.in_ok-agree.ensures in
    let w : Answer = answer_in (tree y.pool.now) c.in_ok-shown.shown.meta c.in_ok-shown.shown.form in
    let n : inserts w ≡ false = sym c.is_inserting.ensures ∙ c.if-is_inserting.false in
    let a = term_kept c.requires.ready s.grows s.keeps c.args.found.ty c.requires.ty in
    let b = term_kept c.requires.ready s.grows s.keeps c.args.wanted c.requires.wanted in
    let o = over_kept c.requires.ready s.grows s.keeps in
    let g : Grows x z = Grows-trans s.grows j.grows in
    let k : Keeps x z = Keeps-trans s.keeps j.keeps in
    let t0 : term_of z c.args.found.term ≡ term_of x c.args.found.term = term_kept c.requires.ready g k c.args.found.term c.requires.term in
    let is : Read (over x) (agrees c.args.pos (term_of x c.args.found.ty) (term_of x c.args.wanted)) (Gives tt) =
    subst (λ (v : Over). Read v (agrees c.args.pos (term_of x c.args.found.ty) (term_of x c.args.wanted)) (Gives tt)) o
    (subst (λ (t : Term). Read (over y) (agrees c.args.pos t (term_of x c.args.wanted)) (Gives tt)) a
    (subst (λ (t : Term). Read (over y) (agrees c.args.pos (term_of y c.args.found.ty) t) (Gives tt)) b j.is)) in (
      within_kept c.requires.ready g k c.args.found.term c.requires.term,
      subst (λ (t : Term). Read (over x) (against c.args.pos c.args.at (term_of x c.args.wanted) (found_in x.pool.now c.args.found)) (Gives t)) (sym t0)
          (against-after (over x) c.args.pos c.args.at (term_of x c.args.wanted) (found_in x.pool.now c.args.found) w s.is.1 n (Gives (term_of x c.args.found.term))
          (read-next (over x) (agrees c.args.pos (term_of x c.args.found.ty) (term_of x c.args.wanted)) _ tt _ is refl)),
    )
