use Rattle.std.proofs.Common.{◌≡◌, ◌<◌, ◌≤◌, ◌+◌, ◌-◌, ℕ, List, length, map, take, drop, arith, ap, sym, subst, ◌∙◌}
use Rattle.std.specs.Prelude.{reverse, slice_get, sum, Some}
use Rattle.core_rules.specs.Mapped.{telescope_map}
use Rattle.core_rules.specs.Substitution.{under}
use Rattle.core_terms.proofs.Declared.{at-get}
use Rattle.el_base.proofs.Throughout.{all-at}
use Rattle.core_kernel.specs.Checker.{FitsInto, IsTerm}
use Rattle.core_kernel.proofs.Items.{most-at, most-items, most_of, terms-all}
use Rattle.declared_types.proofs.Turned.{env-reversed}
use Rattle.core_kernel.proofs.Fits.{FitsHere, fits-end, fits-goes_on, fits-stops}
use Rattle.std.proofs.lemmas.Result.{err_from_is_err_and}
use Rattle.core_rules.specs.Term.{Term, Sort, Pi, Proj, env_of, from_list, size, to_list}
use Rattle.core_rules.specs.Signature.{Entry, Signature}
use Rattle.core_rules.specs.Typing.{IsCon, IsField, field_env}
use Rattle.term_pool.specs.Pool.{args, tree}
use Rattle.kernel_rules.specs.Outcome.{Gives, Refuses}
use Rattle.core_kernel.specs.Answers.{Answers, RefusedBy}
use Rattle.core_kernel.specs.Checker.{Infers, HasLevel, ShowsLevel, ShowsParts, Agree, over, term_of}
use Rattle.core_kernel.proofs.Checking.{over_kept, ready_kept, signature_kept, term_kept, is_body_kept, is_term_kept, within_kept, refused-weaker, here, here_for, here_under, under_entry, Grows-trans, Keeps-trans, refused_first, answers_after, pi-no_domain, pi-no_codomain, pi-gives, lam-no_domain, lam-no_body, lam-gives, proj-no_value, proj-no_record, proj-gives, given-gives, given-no_fit, Grows-refl, Keeps-refl}
use Rattle.declared_types.proofs.Named.{con_below, con_count, con_entries, con_fam_below}
use Rattle.declared_types.proofs.Fields.{field_named, field_fam_below}
use Rattle.core_kernel.proofs.Projections.{named_after, no_record, record_shown}
use Rattle.declared_types.proofs.Grown.{all-grown, fam_within}
use Rattle.core_rules.specs.Elimination.{con_type}
use Rattle.core_rules.specs.Mapped.{AllEntries}
use Rattle.core_rules.specs.InScope.{InScope, any_meta}
use Rattle.core_rules.proofs.Heads.Mapped.{field_counts-map}
use Rattle.core_terms.specs.Signature.{fam_of}
use Rattle.core_terms.specs.declared.signature.CoreDecl.{CoreDecl}
use Rattle.term_pool.specs.Pool.{StandsFor}
use Rattle.term_pool.specs.Placed.{items-stay}
use Rattle.core_rules.specs.Substitution.{over as traversed}
use Rattle.term_pool.specs.Growth.{Extends-length}
use Rattle.term_pool.specs.Placed.{filled_var}
use Rattle.core_kernel.specs.Answers.{AnswersTerm}
use Rattle.core_kernel.specs.Checker.{Over}
use Rattle.core_kernel.specs.Spine.{filled_in, unwound}
use Rattle.core_kernel.proofs.Slots.{all-slot, slot, used-within}
use Rattle.core_kernel.proofs.Spines.{argument-terms, arguments_kept, head-smaller, head-term, most-smaller, most_kept, refused-unwound, unwound_kept}
use Rattle.core_kernel.proofs.Walk.{IsReading, all_popped, all_terms, most_popped, place_last, place_popped, place_rest, place_start, popped-count, reading_last, reading_start, terms_within, walk-no_argument, walk-no_function, walked}
use Rattle.core_kernel.specs.declared.spine.Argument.{Argument}
use Rattle.core_kernel.specs.Checker.{signature_of}
use Rattle.core_rules.proofs.Scope.Named.{is_con_at}
use Rattle.std.specs.List.{AllByRecursion}
use Rattle.std.proofs.lemmas.List.{length-map}
use Rattle.core_kernel.proofs.checker.Checker.+kernel.Goals as goal

pub check-agree-requires-clause-ready : goal.check-agree-requires-clause-ready
check-agree-requires-clause-ready t c = ready_kept c.requires.ready c.in_ok-found.ensures.grows c.in_ok-found.ensures.keeps

pub check-returns-clause-is : goal.check-returns-clause-is
check-returns-clause-is t c =
    let x = c.args.self.now in
    let y = c.infer.new.self in
    let i = c.in_ok-found.ensures in
    let q = c.agree.new.self.pool.now in
    answers_after q (Infers (over x) (term_of x c.args.t)) (λ a. Agree (over x) a (term_of x c.args.wanted)) (term_of y c.in_ok-found.found) i.is.1 c.agree.result
    (here_for c.requires.ready i.grows i.keeps (λ o w r. Answers q (Agree o (term_of y c.in_ok-found.found) w) r) c.args.wanted c.agree.result c.requires.wanted c.agree.ensures.is)

pub level-level_by-requires-clause-ready : goal.level-level_by-requires-clause-ready
level-level_by-requires-clause-ready t c = ready_kept c.requires.ready c.in_ok-ty.ensures.grows c.in_ok-ty.ensures.keeps

pub level-returns-clause-is : goal.level-returns-clause-is
level-returns-clause-is t c =
    let x = c.args.self.now in
    let y = c.infer.new.self in
    let i = c.in_ok-ty.ensures in
    let q = c.level_by.new.self.pool.now in
    answers_after q (Infers (over x) (term_of x c.args.t)) (ShowsLevel (over x)) (term_of y c.in_ok-ty.ty) i.is.1 c.level_by.result
    (here c.requires.ready i.grows i.keeps (λ o r. Answers q (ShowsLevel o (term_of y c.in_ok-ty.ty)) r) c.level_by.result c.level_by.ensures.is)

pub level_under-returns-in_err-level-clause-is : goal.level_under-returns-in_err-level-clause-is
level_under-returns-in_err-level-clause-is t c =
    let p = err_from_is_err_and c.from_residual-in_err-level.result c.from_residual-in_err-level.ensures.1 in rw (p.1, p.2)
    (under_entry (λ o e. RefusedBy c.level.new.self.pool.now (λ r. HasLevel o (term_of c.args.self.now c.args.t) (Refuses r)) e) c.args.self.now c.push.new.self.items c.args.entry c.in_err-level.field-0.0 c.in_ok-push.ensures.items c.in_err-level.ensures.is)

pub level_under-returns-clause-is : goal.level_under-returns-clause-is
level_under-returns-clause-is t c =
    under_entry (λ o r. HasLevel o (term_of c.args.self.now c.args.t) r) c.args.self.now c.push.new.self.items c.args.entry (Gives c.in_ok-level.level) c.in_ok-push.ensures.items c.in_ok-level.ensures.is

pub type_of_pi-level_under-requires : goal.type_of_pi-level_under-requires
type_of_pi-level_under-requires t c =
    let i = c.in_ok-level.ensures in
    let e = term_kept c.requires.ready i.grows i.keeps c.args.cod c.requires.cod.within in
    (omega (arith, ap size e), (ready_kept c.requires.ready i.grows i.keeps, (within_kept c.requires.ready i.grows i.keeps c.args.dom c.requires.dom.within, is_body_kept c.requires.ready i.grows i.keeps c.args.cod c.requires.cod)))

pub type_of_pi-returns-in_err-top-clause-is : goal.type_of_pi-returns-in_err-top-clause-is
type_of_pi-returns-in_err-top-clause-is t c =
    let p = err_from_is_err_and c.from_residual-in_err-top.result c.from_residual-in_err-top.ensures.1 in
    let x = c.args.self.now in
    let i = c.in_ok-level.ensures in
    let q = c.level_under.new.self.pool.now in
    let e : Entry Term = record { name = c.args.name; flag = c.args.flag; ty = term_of x c.args.dom } in
    rw (p.1, p.2)
    (pi-no_codomain (over x) e (term_of x c.args.cod) c.in_ok-level.level i.is q c.in_err-top.field-0.0
    (here_under c.requires.ready i.grows i.keeps (λ o u d. RefusedBy q (λ r. HasLevel o u (Refuses r)) d) c.args.flag c.args.name c.args.dom c.args.cod c.in_err-top.field-0.0 c.requires.dom.within c.requires.cod.within c.in_err-top.ensures.is))

pub type_of_pi-returns-clause-is : goal.type_of_pi-returns-clause-is
type_of_pi-returns-clause-is t c =
    let x = c.args.self.now in
    let i = c.in_ok-level.ensures in
    let e : Entry Term = record { name = c.args.name; flag = c.args.flag; ty = term_of x c.args.dom } in
    let s = c.in_ok-add.ensures.stands in (
      s.within,
      pi-gives (over x) e (term_of x c.args.cod) c.in_ok-level.level i.is c.in_ok-top.top
          (here_under c.requires.ready i.grows i.keeps (λ o u r. HasLevel o u r) c.args.flag c.args.name c.args.dom c.args.cod (Gives c.in_ok-top.top) c.requires.dom.within c.requires.cod.within c.in_ok-top.ensures.is)
          (tree c.add.new.self c.in_ok-add.field-0) (s.is ∙ ap Sort c.max.ensures),
    )

pub infer_under-returns-in_err-ty-clause-is : goal.infer_under-returns-in_err-ty-clause-is
infer_under-returns-in_err-ty-clause-is t c =
    let p = err_from_is_err_and c.from_residual-in_err-ty.result c.from_residual-in_err-ty.ensures.1 in rw (p.1, p.2)
    (under_entry (λ o e. RefusedBy c.infer.new.self.pool.now (λ r. Infers o (term_of c.args.self.now c.args.t) (Refuses r)) e) c.args.self.now c.push.new.self.items c.args.entry c.in_err-ty.field-0.0 c.in_ok-push.ensures.items c.in_err-ty.ensures.is)

pub infer_under-returns-clause-is : goal.infer_under-returns-clause-is
infer_under-returns-clause-is t c =
    let q = c.infer.new.self.pool.now in
    (c.in_ok-ty.ensures.is.0, under_entry (λ o r. Infers o (term_of c.args.self.now c.args.t) r) c.args.self.now c.push.new.self.items c.args.entry (Gives (tree q c.in_ok-ty.ty)) c.in_ok-push.ensures.items c.in_ok-ty.ensures.is.1)

pub type_of_lambda-infer_under-requires : goal.type_of_lambda-infer_under-requires
type_of_lambda-infer_under-requires t c =
    let i = c.in_ok-level.ensures in
    let e = term_kept c.requires.ready i.grows i.keeps c.args.body c.requires.body.within in
    (omega (arith, ap size e), (ready_kept c.requires.ready i.grows i.keeps, (within_kept c.requires.ready i.grows i.keeps c.args.dom c.requires.dom.within, is_body_kept c.requires.ready i.grows i.keeps c.args.body c.requires.body)))

pub type_of_lambda-returns-in_err-cod-clause-is : goal.type_of_lambda-returns-in_err-cod-clause-is
type_of_lambda-returns-in_err-cod-clause-is t c =
    let p = err_from_is_err_and c.from_residual-in_err-cod.result c.from_residual-in_err-cod.ensures.1 in
    let x = c.args.self.now in
    let i = c.in_ok-level.ensures in
    let q = c.infer_under.new.self.pool.now in
    let e : Entry Term = record { name = c.args.name; flag = c.args.flag; ty = term_of x c.args.dom } in
    rw (p.1, p.2)
    (lam-no_body (over x) e (term_of x c.args.body) c.in_ok-level.field-0 i.is q c.in_err-cod.field-0.0
    (here_under c.requires.ready i.grows i.keeps (λ o u d. RefusedBy q (λ r. Infers o u (Refuses r)) d) c.args.flag c.args.name c.args.dom c.args.body c.in_err-cod.field-0.0 c.requires.dom.within c.requires.body.within c.in_err-cod.ensures.is))

pub check-returns-in_err-found-clause-is : goal.check-returns-in_err-found-clause-is
check-returns-in_err-found-clause-is t c =
    let p = err_from_is_err_and c.from_residual.result c.from_residual.ensures.1 in
    let x = c.args.self.now in
    rw (p.1, p.2) (refused_first c.infer.new.self.pool.now (Infers (over x) (term_of x c.args.t)) (λ a. Agree (over x) a (term_of x c.args.wanted)) c.in_err-found.field-0.0 c.in_err-found.ensures.is)

pub level-returns-in_err-ty-clause-is : goal.level-returns-in_err-ty-clause-is
level-returns-in_err-ty-clause-is t c =
    let p = err_from_is_err_and c.from_residual.result c.from_residual.ensures.1 in
    let x = c.args.self.now in
    rw (p.1, p.2) (refused_first c.infer.new.self.pool.now (Infers (over x) (term_of x c.args.t)) (ShowsLevel (over x)) c.in_err-ty.field-0.0 c.in_err-ty.ensures.is)

pub type_of_pi-returns-in_err-level-clause-is : goal.type_of_pi-returns-in_err-level-clause-is
type_of_pi-returns-in_err-level-clause-is t c =
    let p = err_from_is_err_and c.from_residual.result c.from_residual.ensures.1 in
    let x = c.args.self.now in
    let e : Entry Term = record { name = c.args.name; flag = c.args.flag; ty = term_of x c.args.dom } in
    rw (p.1, p.2) (pi-no_domain (over x) e (term_of x c.args.cod) c.level.new.self.pool.now c.in_err-level.field-0.0 c.in_err-level.ensures.is)

pub type_of_lambda-returns-in_err-level-clause-is : goal.type_of_lambda-returns-in_err-level-clause-is
type_of_lambda-returns-in_err-level-clause-is t c =
    let p = err_from_is_err_and c.from_residual.result c.from_residual.ensures.1 in
    let x = c.args.self.now in
    let e : Entry Term = record { name = c.args.name; flag = c.args.flag; ty = term_of x c.args.dom } in
    rw (p.1, p.2) (lam-no_domain (over x) e (term_of x c.args.body) c.level.new.self.pool.now c.in_err-level.field-0.0 c.in_err-level.ensures.is)

pub type_of_lambda-returns-clause-is : goal.type_of_lambda-returns-clause-is
type_of_lambda-returns-clause-is t c =
    let x = c.args.self.now in
    let z = c.infer_under.new.self in
    let i = c.in_ok-level.ensures in
    let j = c.in_ok-cod.ensures in
    let u : Term = tree z.pool.now c.in_ok-cod.cod in
    let e : Entry Term = record { name = c.args.name; flag = c.args.flag; ty = term_of x c.args.dom } in
    let s = c.in_ok-add.ensures.stands in
    let d : term_of z c.args.dom ≡ term_of x c.args.dom = term_kept c.requires.ready (Grows-trans i.grows j.grows) (Keeps-trans i.keeps j.keeps) c.args.dom c.requires.dom.within in (
      s.within,
      lam-gives (over x) e (term_of x c.args.body) c.in_ok-level.field-0 i.is u
          (here_under c.requires.ready i.grows i.keeps (λ o w r. Infers o w r) c.args.flag c.args.name c.args.dom c.args.body (Gives u) c.requires.dom.within c.requires.body.within j.is.1)
          (tree c.add.new.self c.in_ok-add.field-0) (s.is ∙ ap (λ (a : Term). Pi c.args.flag c.args.name a u) d),
    )

pub at_arguments-loop-next-init : goal.at_arguments-loop-next-init
at_arguments-loop-next-init t c =
    let x = c.args.self.now in
    let xs = c.args.arguments.items in
    let ts = c.args.terms.now in
    let count : length ts ≡ length xs = ap length c.requires.terms ∙ length-map xs (λ (a : Argument). a.term) in
    record {
      grows = Grows-refl x;
      keeps = Keeps-refl x;
      within = c.requires.ty;
      arguments = c.requires.arguments;
      small = omega arith;
      terms = subst (λ (us : List ℕ). AllByRecursion (λ i. i < length x.pool.now.trees) us) (sym c.requires.terms) (all_terms (length x.pool.now.trees) xs (terms_within x xs c.requires.arguments));
      place = place_start xs ts c.requires.terms;
      low = omega (arith, count);
      high = omega arith;
      reading = λ h d. reading_start (over x) (term_of x) x.pool.now h xs ts (length ts) c.args.ty count d;
    }

pub at_arguments-function_under-requires-clause-ready : goal.at_arguments-function_under-requires-clause-ready
at_arguments-function_under-requires-clause-ready t c = ready_kept c.requires.ready c.loop-next.invariant.grows c.loop-next.invariant.keeps

pub at_arguments-function_under-requires-clause-taken : goal.at_arguments-function_under-requires-clause-taken
at_arguments-function_under-requires-clause-taken t c =
    let n = length c.loop-next.self.pool.now.trees in
    let ts = c.args.terms.now in
    let all = all-grown c.args.self.now.pool.now c.loop-next.self.pool.now ts c.loop-next.invariant.grows.extends c.loop-next.invariant.terms in
    subst (λ (us : List ℕ). AllByRecursion (λ i. i < n) us) (sym c.between-taken.ensures) (all-slot (λ i. i < n) (c.len-start.result + 1) c.loop-next.end ts all)

pub at_arguments-returns-in_err-function-clause-is : goal.at_arguments-returns-in_err-function-clause-is
at_arguments-returns-in_err-function-clause-is t c = λ h d.
    let p = err_from_is_err_and c.from_residual.result c.from_residual.ensures.1 in
    let x = c.args.self.now in
    let y = c.loop-next.self in
    let q = c.function_under.new.self in
    let i = c.loop-next.invariant in
    let xs = c.pop.new.self.items in
    let a = c.in-Some.next in
    let popped = c.in-Some.ensures.items in
    let ts = c.args.terms.now in
    let end = c.loop-next.end in
    let ty = c.loop-next.ty in
    let s : List ℕ = slot (length xs + 1) end ts in
    let count : c.len-start.result ≡ length xs = c.len-start.ensures ∙ c.pop.new.self.ok.0 in
    let taken : c.between-taken.result.now ≡ s = c.between-taken.ensures ∙ ap (λ (k : ℕ). slot (k + 1) end ts) count in
    let form : Term = filled_in y.pool.now s ty in
    let e = c.in_err-function.field-0.0 in
    let j = c.in_err-function.ensures in
    let whole : Term = unwound (term_of x) h c.args.arguments.items in
    let reading = reading_last c.loop-next.arguments.items xs a popped (over x) (term_of x) whole y.pool.now ts end ty (i.reading h d) in
    rw (p.1, p.2)
    (walk-no_function c.requires.ready i.grows i.keeps j.grows j.keeps whole xs a form reading q.pool.now e
    (subst (λ (us : List ℕ). RefusedBy q.pool.now (λ r. ShowsParts (over y) a.flag (filled_in y.pool.now us ty) (Refuses r)) e) taken j.is))

pub at_arguments-check-requires : goal.at_arguments-check-requires
at_arguments-check-requires t c =
    let x = c.args.self.now in
    let y = c.loop-next.self in
    let q = c.function_under.new.self in
    let i = c.loop-next.invariant in
    let xs = c.pop.new.self.items in
    let a = c.in-Some.next in
    let popped = c.in-Some.ensures.items in
    let j = c.in_ok-function.ensures in
    let g = Grows-trans i.grows j.grows in
    let k = Keeps-trans i.keeps j.keeps in
    let term = (all_popped c.loop-next.arguments.items xs a popped (λ (b : Argument). IsTerm x b.term) i.arguments).1 in
    let e = term_kept c.requires.ready g k a.term term.within in
    let l = (most_popped c.loop-next.arguments.items xs a popped (term_of x)).0 in
    (omega (arith, ap size e, l, i.small), (ready_kept c.requires.ready g k, (is_term_kept c.requires.ready g k a.term term, j.is.dom)))

pub at_arguments-returns-in_err-check-clause-is : goal.at_arguments-returns-in_err-check-clause-is
at_arguments-returns-in_err-check-clause-is t c = λ h d.
    let p = err_from_is_err_and c.from_residual-in_err-check.result c.from_residual-in_err-check.ensures.1 in
    let x = c.args.self.now in
    let y = c.loop-next.self in
    let q = c.function_under.new.self in
    let i = c.loop-next.invariant in
    let xs = c.pop.new.self.items in
    let a = c.in-Some.next in
    let popped = c.in-Some.ensures.items in
    let ts = c.args.terms.now in
    let end = c.loop-next.end in
    let ty = c.loop-next.ty in
    let s : List ℕ = slot (length xs + 1) end ts in
    let count : c.len-start.result ≡ length xs = c.len-start.ensures ∙ c.pop.new.self.ok.0 in
    let taken : c.between-taken.result.now ≡ s = c.between-taken.ensures ∙ ap (λ (k : ℕ). slot (k + 1) end ts) count in
    let form : Term = filled_in y.pool.now s ty in
    let j = c.in_ok-function.ensures in
    let z = c.check.new.self in
    let e = c.in_err-check.field-0.0 in
    let w = c.in_ok-function.function in
    let v : Term = traversed (filled_var (map (tree q.pool.now) (take w.under s))) 1 (tree q.pool.now w.cod) in
    let parts : ShowsParts (over y) a.flag form (Gives (tree q.pool.now w.dom, v)) =
    subst (λ (us : List ℕ). ShowsParts (over y) a.flag (filled_in y.pool.now us ty) (Gives (tree q.pool.now w.dom, traversed (filled_var (map (tree q.pool.now) (take w.under us))) 1 (tree q.pool.now w.cod)))) taken j.is.is in
    let whole : Term = unwound (term_of x) h c.args.arguments.items in
    let term = (all_popped c.loop-next.arguments.items xs a popped (λ (b : Argument). IsTerm x b.term) i.arguments).1 in
    let reading = reading_last c.loop-next.arguments.items xs a popped (over x) (term_of x) whole y.pool.now ts end ty (i.reading h d) in
    rw (p.1, p.2)
    (walk-no_argument c.requires.ready i.grows i.keeps j.grows j.keeps whole xs a form reading term.within w.dom v parts z.pool.now e c.in_err-check.ensures.is)

pub at_arguments-loop-next-preserved : goal.at_arguments-loop-next-preserved
at_arguments-loop-next-preserved t c =
    let x = c.args.self.now in
    let y = c.loop-next.self in
    let q = c.function_under.new.self in
    let i = c.loop-next.invariant in
    let xs = c.pop.new.self.items in
    let a = c.in-Some.next in
    let popped = c.in-Some.ensures.items in
    let ts = c.args.terms.now in
    let end = c.loop-next.end in
    let ty = c.loop-next.ty in
    let s : List ℕ = slot (length xs + 1) end ts in
    let count : c.len-start.result ≡ length xs = c.len-start.ensures ∙ c.pop.new.self.ok.0 in
    let taken : c.between-taken.result.now ≡ s = c.between-taken.ensures ∙ ap (λ (k : ℕ). slot (k + 1) end ts) count in
    let form : Term = filled_in y.pool.now s ty in
    let j = c.in_ok-function.ensures in
    let z = c.check.new.self in
    let k = c.in_ok-check.ensures in
    let w = c.in_ok-function.function in
    let v : Term = traversed (filled_var (map (tree q.pool.now) (take w.under s))) 1 (tree q.pool.now w.cod) in
    let parts : ShowsParts (over y) a.flag form (Gives (tree q.pool.now w.dom, v)) =
    subst (λ (us : List ℕ). ShowsParts (over y) a.flag (filled_in y.pool.now us ty) (Gives (tree q.pool.now w.dom, traversed (filled_var (map (tree q.pool.now) (take w.under us))) 1 (tree q.pool.now w.cod)))) taken j.is.is in
    let args = all_popped c.loop-next.arguments.items xs a popped (λ (b : Argument). IsTerm x b.term) i.arguments in
    let n : length c.loop-next.arguments.items ≡ length xs + 1 = popped-count c.loop-next.arguments.items xs a popped in
    let place = place_popped c.loop-next.arguments.items xs a popped ts i.place in
    let at : slice_get ts (length xs) ≡ Some a.term = place_last xs a ts place in
    let used : w.under ≤ length s = subst (λ (us : List ℕ). w.under ≤ length us) taken j.is.under in
    let low : length xs + 1 ≤ end = omega (arith, i.low, n) in
    let high : length xs + 1 + w.under ≤ length ts = used-within (length xs + 1) end w.under ts used low i.high in
    record {
      grows = Grows-trans (Grows-trans i.grows j.grows) k.grows;
      keeps = Keeps-trans (Keeps-trans i.keeps j.keeps) k.keeps;
      within = omega (arith, Extends-length k.grows.extends, j.is.cod);
      arguments = args.0;
      small = omega (arith, (most_popped c.loop-next.arguments.items xs a popped (term_of x)).1, i.small);
      terms = i.terms;
      place = place_rest xs a ts place;
      low = omega (arith, count);
      high = omega (arith, count, high);
      reading = λ h d.
          let whole : Term = unwound (term_of x) h c.args.arguments.items in
          let reading = reading_last c.loop-next.arguments.items xs a popped (over x) (term_of x) whole y.pool.now ts end ty (i.reading h d) in
          subst (λ (m : ℕ). IsReading (over x) (term_of x) whole xs (filled_in z.pool.now (slot (length xs) (m + 1 + w.under) ts) w.cod)) (sym count)
          (walked c.requires.ready i.grows i.keeps j.grows j.keeps z k.grows whole xs a ts end ty reading w.dom w.cod w.under i.terms at used j.is.cod parts k.is);
    }

pub at_arguments-put_together-requires-clause-taken : goal.at_arguments-put_together-requires-clause-taken
at_arguments-put_together-requires-clause-taken t c =
    let n = length c.loop-next.self.pool.now.trees in
    let ts = c.args.terms.now in
    let all = all-grown c.args.self.now.pool.now c.loop-next.self.pool.now ts c.loop-next.invariant.grows.extends c.loop-next.invariant.terms in
    subst (λ (us : List ℕ). AllByRecursion (λ i. i < n) us) (sym c.between.ensures) (all-slot (λ i. i < n) 0 c.loop-next.end ts all)

pub fits-check-requires : goal.fits-check-requires
fits-check-requires t c =
    let x = c.args.self.now in
    let ts = c.args.terms.now in
    let u = c.index-terms-left.result in
    let i = c.loop-left.invariant in
    let j = c.in_ok-wanted.ensures in
    let g = Grows-trans i.grows j.grows in
    let k = Keeps-trans i.keeps j.keeps in
    let at = at-get ts (c.loop-left.left - 1) u (omega (arith, i.within, c.loop-left-test.true)) c.index-terms-left.is in
    let term = all-at (IsTerm x) ts (c.loop-left.left - 1) u c.requires.terms at in
    let e = term_kept c.requires.ready g k u term.within in
    let s = most-at (term_of x) ts (c.loop-left.left - 1) u at in
    (omega (arith, ap size e, s), (ready_kept c.requires.ready g k, (is_term_kept c.requires.ready g k u term, j.is.within)))

pub fits-loop-left-preserved : goal.fits-loop-left-preserved
fits-loop-left-preserved t c =
    let x = c.args.self.now in
    let y = c.loop-left.self in
    let z = c.put_under.new.self in
    let ts = c.args.terms.now in
    let es = c.args.entries.now in
    let left = c.loop-left.left in
    let u = c.index-terms-left.result in
    let e = c.index-entries-terms.result in
    let i = c.loop-left.invariant in
    let j = c.in_ok-wanted.ensures in
    let at = at-get ts (left - 1) u (omega (arith, i.within, c.loop-left-test.true)) c.index-terms-left.is in
    let here_at = at-get es (length ts - left) e (omega (arith, i.within, c.loop-left-test.true, c.requires.as_many)) c.index-entries-terms.is in
    let term = all-at (IsTerm x) ts (left - 1) u c.requires.terms at in
    let d : c.entry.inside.ty ≡ e.ty = ap (λ (w : Entry ℕ). w.ty) c.entry.view_is in
    let is : term_of z c.in_ok-wanted.wanted ≡ under (map (term_of y) (take (length ts - left) (drop left ts))) (term_of y e.ty) = cc (j.is.is, c.between.ensures, d) in
    let k = c.in_ok-check.ensures in
    record {
      grows = Grows-trans (Grows-trans i.grows j.grows) k.grows;
      keeps = Keeps-trans (Keeps-trans i.keeps j.keeps) k.keeps;
      within = omega (arith, i.within);
      reading = λ o h. i.reading o (fits-goes_on c.requires.ready i.grows i.keeps j.grows j.keeps es ts left u c.in_ok-wanted.wanted e c.requires.entries c.requires.terms c.loop-left-test.true i.within term at here_at is o k.is h);
    }

pub fits-returns-in_err-check-clause-is : goal.fits-returns-in_err-check-clause-is
fits-returns-in_err-check-clause-is t c =
    let p = err_from_is_err_and c.from_residual-in_err-check.result c.from_residual-in_err-check.ensures.1 in
    let x = c.args.self.now in
    let y = c.loop-left.self in
    let z = c.put_under.new.self in
    let ts = c.args.terms.now in
    let es = c.args.entries.now in
    let left = c.loop-left.left in
    let u = c.index-terms-left.result in
    let e = c.index-entries-terms.result in
    let i = c.loop-left.invariant in
    let j = c.in_ok-wanted.ensures in
    let at = at-get ts (left - 1) u (omega (arith, i.within, c.loop-left-test.true)) c.index-terms-left.is in
    let here_at = at-get es (length ts - left) e (omega (arith, i.within, c.loop-left-test.true, c.requires.as_many)) c.index-entries-terms.is in
    let term = all-at (IsTerm x) ts (left - 1) u c.requires.terms at in
    let d : c.entry.inside.ty ≡ e.ty = ap (λ (w : Entry ℕ). w.ty) c.entry.view_is in
    let is : term_of z c.in_ok-wanted.wanted ≡ under (map (term_of y) (take (length ts - left) (drop left ts))) (term_of y e.ty) = cc (j.is.is, c.between.ensures, d) in
    let q = c.check.new.self.pool.now in
    rw (p.1, p.2)
    (refused-weaker q (λ r. FitsHere x es ts left (Refuses r)) (λ r. FitsInto (over x) (map (term_of x) ts) (telescope_map (term_of x) es) (Refuses r)) (λ r h. i.reading (Refuses r) h) c.in_err-check.field-0.0
    (fits-stops c.requires.ready i.grows i.keeps j.grows j.keeps es ts left u c.in_ok-wanted.wanted e c.requires.entries c.requires.terms c.loop-left-test.true i.within term at here_at is q c.in_err-check.field-0.0 c.in_err-check.ensures.is))

pub fits-returns-clause-is : goal.fits-returns-clause-is
fits-returns-clause-is t c =
    let none : c.loop-left.left ≡ 0 = omega (arith, c.loop-left-test.false) in
    c.loop-left.invariant.reading (Gives tt) (fits-end c.args.self.now c.args.entries.now c.args.terms.now c.loop-left.left none c.requires.as_many)

pub infer-type_of_projection-requires : goal.infer-type_of_projection-requires
infer-type_of_projection-requires t c =
    let x = c.args.self.now in
    let e = c.in-Proj.ensures in
    let scope : InScope (signature_of x) any_meta (length x.context.now.items) (Proj c.in-Proj.field (term_of x c.in-Proj.of)) = subst (λ (w : Term). InScope (signature_of x) any_meta (length x.context.now.items) w) e.is c.requires.term.scope in
    (omega (arith, ap size e.is), (c.requires.ready, (record { within = omega (arith, e.below, c.requires.term.within); scope = scope.1 }, subst (λ (ns : List ℕ). c.in-Proj.field < sum ns) (field_counts-map (tree x.pool.now) x.signature.now) scope.0)))

pub type_of_application-infer-requires : goal.type_of_application-infer-requires
type_of_application-infer-requires t c =
    let x = c.args.self.now in
    let s = c.in_ok-head.field-0 in
    let l = head-smaller x c.args.flag c.args.fun c.args.arg s c.in_ok-head.ensures c.requires.fun c.requires.arg in
    (omega (arith, l), (c.requires.ready, head-term x c.args.flag c.args.fun c.args.arg s c.in_ok-head.ensures c.requires.fun c.requires.arg))

pub type_of_application-returns-in_err-ty-clause-is : goal.type_of_application-returns-in_err-ty-clause-is
type_of_application-returns-in_err-ty-clause-is t c =
    let p = err_from_is_err_and c.from_residual-in_err-ty.result c.from_residual-in_err-ty.ensures.1 in
    let x = c.args.self.now in
    let q = c.infer.new.self.pool.now in
    let s = c.in_ok-head.field-0 in
    let e = c.in_err-ty.field-0.0 in
    rw (p.1, p.2)
    (subst (λ (w : Term). RefusedBy q (λ r. Infers (over x) w (Refuses r)) e) (sym c.in_ok-head.ensures.is)
    (refused-unwound (over x) (term_of x) (term_of x s.head) s.arguments.items q e c.in_err-ty.ensures.is))

pub type_of_application-at_arguments-requires : goal.type_of_application-at_arguments-requires
type_of_application-at_arguments-requires t c =
    let x = c.args.self.now in
    let s = c.in_ok-head.field-0 in
    let i = c.in_ok-ty.ensures in
    let all = argument-terms x c.args.flag c.args.fun c.args.arg s c.in_ok-head.ensures c.requires.fun c.requires.arg in
    let l = most-smaller x c.args.flag c.args.fun c.args.arg s c.in_ok-head.ensures c.requires.fun c.requires.arg in
    let m = most_kept c.requires.ready i.grows i.keeps s.arguments.items all in
    (omega (arith, l, m), (ready_kept c.requires.ready i.grows i.keeps, (i.is.0, (arguments_kept c.requires.ready i.grows i.keeps s.arguments.items all, c.as_slice.ensures.value ∙ c.in_ok-head.ensures.terms))))

pub type_of_application-returns-clause-is : goal.type_of_application-returns-clause-is
type_of_application-returns-clause-is t c =
    let x = c.args.self.now in
    let y = c.infer.new.self in
    let z = c.at_arguments.new.self.pool.now in
    let s = c.in_ok-head.field-0 in
    let i = c.in_ok-ty.ensures in
    let h : Term = term_of x s.head in
    let xs = s.arguments.items in
    let all = argument-terms x c.args.flag c.args.fun c.args.arg s c.in_ok-head.ensures c.requires.fun c.requires.arg in
    let typed : Infers (over y) h (Gives (term_of y c.in_ok-ty.ty)) = subst (λ (o : Over). Infers o h (Gives (term_of y c.in_ok-ty.ty))) (sym (over_kept c.requires.ready i.grows i.keeps)) i.is.1 in
    let there : AnswersTerm z (Infers (over x) (unwound (term_of y) h xs)) c.at_arguments.result = subst (λ (o : Over). AnswersTerm z (Infers o (unwound (term_of y) h xs)) c.at_arguments.result) (over_kept c.requires.ready i.grows i.keeps) (c.at_arguments.ensures.is h typed) in
    subst (λ (w : Term). AnswersTerm z (Infers (over x) w) c.at_arguments.result) (unwound_kept c.requires.ready i.grows i.keeps h xs all ∙ sym c.in_ok-head.ensures.is) there

pub type_of_con-con-fam-requires : goal.type_of_con-con-fam-requires
type_of_con-con-fam-requires t c =
    let x = c.args.self.now in
    con_below x.pool.now x.signature.now c.args.con (is_con_at (signature_of x) c.args.con (length (to_list (args x.pool.now c.args.params))) c.requires.scope.0).0

pub type_of_con-fam-requires : goal.type_of_con-fam-requires
type_of_con-fam-requires t c =
    let x = c.args.self.now in
    con_fam_below x.pool.now x.signature.now c.args.con c.con-fam.result.0 c.con-fam.result.1 c.con-fam.ensures (is_con_at (signature_of x) c.args.con (length (to_list (args x.pool.now c.args.params))) c.requires.scope.0).0

pub type_of_con-fits-requires : goal.type_of_con-fits-requires
type_of_con-fits-requires t c =
    let x = c.args.self.now in
    let p = x.pool.now in
    let g = x.signature.now in
    let us = c.in_ok-terms.terms.items in
    let xs = args p c.args.params in
    let fd = fam_of c.fam.result.now.decl in
    let named = is_con_at (signature_of x) c.args.con (length (to_list xs)) c.requires.scope.0 in
    let value : c.as_slice-2.result.now ≡ us = c.as_slice-2.ensures.value in
    let es : c.as_slice.result.now ≡ c.in-Family.entries = cc (c.as_slice.ensures, c.entries.view_is) in
    let entries : c.as_slice.result.now ≡ fd.params = es ∙ sym (ap (λ (d : CoreDecl). (fam_of d).params) c.in-Family.is) in
    let all = terms-all x us xs c.in_ok-terms.ensures.within c.in_ok-terms.ensures.is c.requires.scope.1 in
    let within = (fam_within p g c.con-fam.result.0 fd c.requires.ready.signature c.fam.ensures.is).params in
    let count = con_count p g c.args.con c.con-fam.result.0 c.con-fam.result.1 fd c.con-fam.ensures c.fam.ensures.is named.0 us xs named.1 c.in_ok-terms.ensures.is in
    let m = most-items (term_of x) us xs c.in_ok-terms.ensures.is in
    let n = ap (most_of (term_of x)) value in (
      omega (arith, m, n),
      (
        c.requires.ready,
        (
          subst (λ (ys : List (Entry ℕ)). AllEntries (λ i. i < length p.trees) ys) (sym entries) within,
          (subst (λ (ts : List ℕ). AllByRecursion (IsTerm x) ts) (sym value) all, ap length entries ∙ (count ∙ ap length (sym value))),
        ),
      ),
    )

pub type_of_con-returns-in_err-fits-clause-is : goal.type_of_con-returns-in_err-fits-clause-is
type_of_con-returns-in_err-fits-clause-is t c =
    let w = err_from_is_err_and c.from_residual-in_err-fits.result c.from_residual-in_err-fits.ensures.1 in
    let x = c.args.self.now in
    let p = x.pool.now in
    let g = x.signature.now in
    let us = c.in_ok-terms.terms.items in
    let xs = args p c.args.params in
    let fd = fam_of c.fam.result.now.decl in
    let named = is_con_at (signature_of x) c.args.con (length (to_list xs)) c.requires.scope.0 in
    let value : c.as_slice-2.result.now ≡ us = c.as_slice-2.ensures.value in
    let es : c.as_slice.result.now ≡ c.in-Family.entries = cc (c.as_slice.ensures, c.entries.view_is) in
    let entries : c.as_slice.result.now ≡ fd.params = es ∙ sym (ap (λ (d : CoreDecl). (fam_of d).params) c.in-Family.is) in
    let q = c.fits.new.self.pool.now in
    let a = ap (λ (ts : List ℕ). from_list (reverse (map (term_of x) ts))) value ∙ c.in_ok-terms.ensures.is in
    let b = con_entries p g c.args.con c.con-fam.result.0 c.con-fam.result.1 fd c.con-fam.ensures c.fam.ensures.is named.0 c.as_slice.result.now entries in
    rw (w.1, w.2)
    (given-no_fit (over x) c.args.con xs (from_list (reverse (map (term_of x) c.as_slice-2.result.now))) (telescope_map (term_of x) c.as_slice.result.now) named.0 a b q c.in_err-fits.field-0.0 c.in_err-fits.ensures.is)

pub type_of_con-con_at-requires-clause-ready : goal.type_of_con-con_at-requires-clause-ready
type_of_con-con_at-requires-clause-ready t c = ready_kept c.requires.ready c.in_ok-fits.ensures.grows c.in_ok-fits.ensures.keeps

pub type_of_con-con_at-requires-clause-con : goal.type_of_con-con_at-requires-clause-con
type_of_con-con_at-requires-clause-con t c =
    let x = c.args.self.now in
    let i = c.in_ok-fits.ensures in
    subst (λ (g : Signature Term). IsCon g c.args.con) (sym (signature_kept c.requires.ready i.grows i.keeps)) (is_con_at (signature_of x) c.args.con (length (to_list (args x.pool.now c.args.params))) c.requires.scope.0).0

pub type_of_con-con_at-requires-clause-params : goal.type_of_con-con_at-requires-clause-params
type_of_con-con_at-requires-clause-params t c =
    let q = c.fits.new.self.pool.now in
    subst (λ (ts : List ℕ). AllByRecursion (λ j. j < length q.trees) ts) (sym c.as_slice-3.ensures.value) (all-grown c.args.self.now.pool.now q c.in_ok-terms.terms.items c.in_ok-fits.ensures.grows.extends c.in_ok-terms.ensures.within)

pub type_of_con-returns-clause-is : goal.type_of_con-returns-clause-is
type_of_con-returns-clause-is t c =
    let x = c.args.self.now in
    let p = x.pool.now in
    let g = x.signature.now in
    let us = c.in_ok-terms.terms.items in
    let xs = args p c.args.params in
    let fd = fam_of c.fam.result.now.decl in
    let named = is_con_at (signature_of x) c.args.con (length (to_list xs)) c.requires.scope.0 in
    let value : c.as_slice-2.result.now ≡ us = c.as_slice-2.ensures.value in
    let es : c.as_slice.result.now ≡ c.in-Family.entries = cc (c.as_slice.ensures, c.entries.view_is) in
    let entries : c.as_slice.result.now ≡ fd.params = es ∙ sym (ap (λ (d : CoreDecl). (fam_of d).params) c.in-Family.is) in
    let y = c.fits.new.self in
    let z = c.con_at.new.self.pool.now in
    let i = c.in_ok-fits.ensures in
    let k = c.in_ok-con_at.field-0 in
    let a = ap (λ (ts : List ℕ). from_list (reverse (map (term_of x) ts))) value ∙ c.in_ok-terms.ensures.is in
    let b = con_entries p g c.args.con c.con-fam.result.0 c.con-fam.result.1 fd c.con-fam.ensures c.fam.ensures.is named.0 c.as_slice.result.now entries in
    let ts : List Term = map (term_of y) c.as_slice-3.result.now in
    let stands : StandsFor z k (under ts (con_type named.0.fam named.0.decl named.0.con)) =
    subst (λ (s : Signature Term). (is : IsCon s c.args.con) → StandsFor z k (under ts (con_type is.fam is.decl is.con))) (signature_kept c.requires.ready i.grows i.keeps) c.in_ok-con_at.ensures.is named.0 in
    let e : ts ≡ env_of xs =
    ap (map (term_of y)) c.as_slice-3.ensures.value ∙ (items-stay p y.pool.now us i.grows.extends c.in_ok-terms.ensures.within ∙ sym (env-reversed (map (term_of x) us) xs c.in_ok-terms.ensures.is)) in (
      stands.within,
      given-gives (over x) c.args.con xs (from_list (reverse (map (term_of x) c.as_slice-2.result.now))) (telescope_map (term_of x) c.as_slice.result.now) named.0 a b i.is (tree z k)
          (stands.is ∙ ap (λ (vs : List Term). under vs (con_type named.0.fam named.0.decl named.0.con)) e),
    )

pub type_of_projection-returns-in_err-ty-clause-is : goal.type_of_projection-returns-in_err-ty-clause-is
type_of_projection-returns-in_err-ty-clause-is t c =
    let p = err_from_is_err_and c.from_residual.result c.from_residual.ensures.1 in
    let x = c.args.self.now in
    rw (p.1, p.2) (proj-no_value (over x) c.args.field (term_of x c.args.of) (field_named x.pool.now x.signature.now c.args.field c.requires.field) c.infer.new.self.pool.now c.in_err-ty.field-0.0 c.in_err-ty.ensures.is)

pub type_of_projection-params_by-requires-clause-ready : goal.type_of_projection-params_by-requires-clause-ready
type_of_projection-params_by-requires-clause-ready t c = ready_kept c.requires.ready c.in_ok-ty.ensures.grows c.in_ok-ty.ensures.keeps

pub type_of_projection-params_by-requires-clause-fam : goal.type_of_projection-params_by-requires-clause-fam
type_of_projection-params_by-requires-clause-fam t c =
    let x = c.args.self.now in
    rw c.in_ok-ty.ensures.keeps.signature (field_fam_below x.pool.now x.signature.now c.args.field c.field-fam.result.0 c.field-fam.result.1 (rw c.in_ok-ty.ensures.keeps.signature at c.field-fam.ensures) (field_named x.pool.now x.signature.now c.args.field c.requires.field))

pub type_of_projection-returns-in_err-params-clause-is : goal.type_of_projection-returns-in_err-params-clause-is
type_of_projection-returns-in_err-params-clause-is t c =
    let p = err_from_is_err_and c.from_residual-in_err-params.result c.from_residual-in_err-params.ensures.1 in
    let x = c.args.self.now in
    let y = c.infer.new.self in
    let i = c.in_ok-ty.ensures in
    let is = field_named x.pool.now x.signature.now c.args.field c.requires.field in
    let place = rw i.keeps.signature at c.field-fam.ensures in
    let fam = c.field-fam.result.0 in
    let at = c.field-fam.result.1 in
    let a : Term = term_of y c.in_ok-ty.ty in
    let named = named_after c.requires.ready i.grows i.keeps c.args.field fam at place is in
    let q = c.params_by.new.self.pool.now in
    let e = c.in_err-params.field-0.0 in
    rw (p.1, p.2)
    (proj-no_record (over x) c.args.field (term_of x c.args.of) is a i.is.1 q e
    (no_record c.requires.ready i.grows i.keeps c.args.field fam at place is a q e (c.in_err-params.ensures.is is.decl named)))

pub type_of_projection-type_of_field-requires-clause-ready : goal.type_of_projection-type_of_field-requires-clause-ready
type_of_projection-type_of_field-requires-clause-ready t c =
    let i = c.in_ok-ty.ensures in
    let j = c.in_ok-params.ensures in
    ready_kept c.requires.ready (Grows-trans i.grows j.grows) (Keeps-trans i.keeps j.keeps)

pub type_of_projection-type_of_field-requires-clause-params : goal.type_of_projection-type_of_field-requires-clause-params
type_of_projection-type_of_field-requires-clause-params t c =
    let x = c.args.self.now in
    let y = c.infer.new.self in
    let i = c.in_ok-ty.ensures in
    let is = field_named x.pool.now x.signature.now c.args.field c.requires.field in
    let place = rw i.keeps.signature at c.field-fam.ensures in
    let fam = c.field-fam.result.0 in
    let at = c.field-fam.result.1 in
    let a : Term = term_of y c.in_ok-ty.ty in
    let named = named_after c.requires.ready i.grows i.keeps c.args.field fam at place is in
    (c.in_ok-params.ensures.is is.decl named).0

pub type_of_projection-returns-clause-is : goal.type_of_projection-returns-clause-is
type_of_projection-returns-clause-is t c =
    let x = c.args.self.now in
    let y = c.infer.new.self in
    let i = c.in_ok-ty.ensures in
    let is = field_named x.pool.now x.signature.now c.args.field c.requires.field in
    let place = rw i.keeps.signature at c.field-fam.ensures in
    let fam = c.field-fam.result.0 in
    let at = c.field-fam.result.1 in
    let a : Term = term_of y c.in_ok-ty.ty in
    let named = named_after c.requires.ready i.grows i.keeps c.args.field fam at place is in
    let j = c.in_ok-params.ensures in
    let z = c.params_by.new.self in
    let w = c.type_of_field.new.self.pool.now in
    let r = c.in_ok-type_of_field.field-0 in
    let ps : List Term = map (term_of z) c.in_ok-params.params.items in
    let grows = Grows-trans i.grows j.grows in
    let keeps = Keeps-trans i.keeps j.keeps in
    let stands : StandsFor w r (under (field_env (signature_of x) c.args.field is ps (term_of z c.args.of)) is.entry.ty) =
    subst (λ (s : Signature Term). (f : IsField s c.args.field) → StandsFor w r (under (field_env s c.args.field f ps (term_of z c.args.of)) f.entry.ty)) (signature_kept c.requires.ready grows keeps) c.in_ok-type_of_field.ensures.is is in
    let e : tree w r ≡ under (field_env (signature_of x) c.args.field is ps (term_of x c.args.of)) is.entry.ty =
    stands.is ∙ ap (λ (u : Term). under (field_env (signature_of x) c.args.field is ps u) is.entry.ty) (term_kept c.requires.ready grows keeps c.args.of c.requires.of.within) in (
      stands.within,
      proj-gives (over x) c.args.field (term_of x c.args.of) is a i.is.1 ps (record_shown c.requires.ready i.grows i.keeps c.args.field fam at place is a ps (j.is is.decl named).1) (tree w r) e,
    )
