use Rattle.std.proofs.Common.{◌≡◌, ℕ, suc, ◌-◌, refl, arith}
use Rattle.std.proofs.lemmas.Result.{err_from_is_err_and}
use Rattle.core_rules.specs.Mapped.{telescope_map}
use Rattle.core_rules.specs.Signature.{Entry}
use Rattle.weak_head.specs.States.{answer_in}
use Rattle.declared_types.proofs.Grown.{entries-weaker, telescope-stays}
use Rattle.data_rules.specs.Shapes.{telescope}
use Rattle.data_elab.specs.Reader.{Read, over, term_of}
use Rattle.kernel_rules.specs.Outcome.{Refuses}
use Rattle.data_elab.specs.Shapes.{Parts, kind_of}
use Rattle.data_elab.proofs.Kept.{Grows-trans, Keeps-trans, ready_kept}
use Rattle.data_elab.proofs.Ended.{refusal-is, shown-ends, shown-many, shown-next, shown-pushed, shown-refused, shown-within}
use Rattle.data_elab.proofs.reader.Reader.telescope.Goals as goal

pub shows-requires-clause-ready : goal.shows-requires-clause-ready
shows-requires-clause-ready c = ready_kept c.requires.ready c.loop-entries.invariant.grows c.loop-entries.invariant.keeps

pub returns-in_err-shown-clause-is : goal.returns-in_err-shown-clause-is
returns-in_err-shown-clause-is c =
    let i = c.loop-entries.invariant in
    let x = c.args.self.now in
    let k = kind_of c.args.tested in
    let r = err_from_is_err_and c.from_residual.result c.from_residual.ensures.1 in
    rw (r.1, r.2)
    (shown-refused c.requires.ready i.grows i.keeps c.args.pos k (telescope c.args.pos k c.args.room (term_of x c.args.ty)) c.loop-entries.entries.items c.loop-entries.left c.loop-entries.ty i.reading
    c.shows.new.self.pool.now c.in_err-shown.field-0.0 c.in_err-shown.ensures.is)

pub returns-in_default-clause-is : goal.returns-in_default-clause-is
returns-in_default-clause-is c =
    let i = c.loop-entries.invariant in
    let x = c.args.self.now in
    let y = c.loop-entries.self in
    let z = c.shows.new.self in
    let k = kind_of c.args.tested in
    let j = c.in_ok-shown.ensures in
    let s = c.in_ok-shown.shown in
    let es = c.loop-entries.entries.items in (
      record { entries = entries-weaker y.pool.now z.pool.now es j.grows.extends i.within; end = j.is.0 },
      shown-ends c.requires.ready i.grows i.keeps c.args.pos k (telescope c.args.pos k c.args.room (term_of x c.args.ty)) es c.loop-entries.left c.loop-entries.ty i.reading
          (answer_in (term_of z) s.meta s.form) j.is.1 (telescope_map (term_of z) es) (telescope-stays y.pool.now z.pool.now es j.grows.extends i.within) c.in_default.ensures,
    )

pub returns-then-left-eq0-clause-is : goal.returns-then-left-eq0-clause-is
returns-then-left-eq0-clause-is c =
    let i = c.loop-entries.invariant in
    let x = c.args.self.now in
    let z = c.shows.new.self in
    let k = kind_of c.args.tested in
    let j = c.in_ok-shown.ensures in
    let s = c.in_ok-shown.shown in
    let f = c.in-Some.function in
    let t : Parts = record { flag = f.flag; name = f.name; dom = term_of z f.dom; cod = term_of z f.cod } in
    let all = telescope c.args.pos k c.args.room (term_of x c.args.ty) in
    rw (c.refused.ensures, c.refusal.ensures)
    (refusal-is c.args.tested z.pool.now (λ r. Read (over x) all (Refuses r)) c.args.pos
    (shown-many c.requires.ready i.grows i.keeps c.args.pos k all c.loop-entries.entries.items c.loop-entries.left c.loop-entries.ty i.reading (answer_in (term_of z) s.meta s.form) j.is.1 t c.in-Some.ensures.2 c.if-left-eq0.true))

pub loop-entries-preserved-in_ok-push : goal.loop-entries-preserved-in_ok-push
loop-entries-preserved-in_ok-push c =
    let i = c.loop-entries.invariant in
    let x = c.args.self.now in
    let z = c.shows.new.self in
    let k = kind_of c.args.tested in
    let j = c.in_ok-shown.ensures in
    let s = c.in_ok-shown.shown in
    let f = c.in-Some.function in
    let h = c.in-Some.ensures in
    let t : Parts = record { flag = f.flag; name = f.name; dom = term_of z f.dom; cod = term_of z f.cod } in
    let e : Entry ℕ = record { name = f.name; flag = f.flag; ty = f.dom } in
    let es = c.loop-entries.entries.items in
    let new = c.push.new.self.items in
    let pushed = c.in_ok-push.ensures.items in
    let n = c.loop-entries.left in
    let count : n ≡ suc (n - 1) = omega (arith, c.if-left-eq0.false) in
    record {
      grows = Grows-trans i.grows j.grows;
      keeps = Keeps-trans i.keeps j.keeps;
      ty = h.1;
      within = shown-within es new e j.grows i.within h.0 pushed;
      reading = shown-next c.requires.ready i.grows i.keeps c.args.pos k (telescope c.args.pos k c.args.room (term_of x c.args.ty)) es n c.loop-entries.ty i.reading
          (answer_in (term_of z) s.meta s.form) j.is.1 t h.2 (n - 1) count t.cod refl (telescope_map (term_of z) new) (shown-pushed es new e j.grows i.within pushed);
    }

pub loop-entries-preserved : goal.loop-entries-preserved
loop-entries-preserved c =
    let i = c.loop-entries.invariant in
    let x = c.args.self.now in
    let z = c.shows.new.self in
    let k = kind_of c.args.tested in
    let j = c.in_ok-shown.ensures in
    let s = c.in_ok-shown.shown in
    let f = c.in-Some.function in
    let h = c.in-Some.ensures in
    let t : Parts = record { flag = f.flag; name = f.name; dom = term_of z f.dom; cod = term_of z f.cod } in
    let e : Entry ℕ = record { name = f.name; flag = f.flag; ty = f.dom } in
    let es = c.loop-entries.entries.items in
    let new = c.push.new.self.items in
    let pushed = c.in_ok-push.ensures.items in
    let n = c.loop-entries.left in
    let count : n ≡ suc (n - 1) = omega (arith, c.if-left-eq0.false) in
    record {
      grows = Grows-trans i.grows j.grows;
      keeps = Keeps-trans i.keeps j.keeps;
      ty = h.1;
      within = shown-within es new e j.grows i.within h.0 pushed;
      reading = shown-next c.requires.ready i.grows i.keeps c.args.pos k (telescope c.args.pos k c.args.room (term_of x c.args.ty)) es n c.loop-entries.ty i.reading
          (answer_in (term_of z) s.meta s.form) j.is.1 t h.2 (n - 1) count t.cod refl (telescope_map (term_of z) new) (shown-pushed es new e j.grows i.within pushed);
    }
