use Rattle.std.proofs.Common.{◌≡◌, ℕ, true, false, List, length, ap, sym, subst, ◌∙◌}
use Rattle.std.specs.Prelude.{eqb}
use Rattle.std.proofs.lemmas.Result.{err_from_is_err_and}
use Rattle.core_rules.specs.Signature.{ConDecl, Entry, FamDecl}
use Rattle.core_rules.specs.Mapped.{telescope_map}
use Rattle.term_pool.specs.Pool.{tree}
use Rattle.core_terms.specs.Signature.{fam_of}
use Rattle.core_terms.specs.declared.clause.ConDecl.TheInside.{Inside}
use Rattle.core_terms.specs.declared.signature.CoreDecl.{CoreDecl}
use Rattle.kernel_rules.specs.Outcome.{Gives, Refuses}
use Rattle.kernel_rules.specs.FamilyReading.{none_above}
use Rattle.core_kernel.specs.Answers.{RefusedBy}
use Rattle.core_kernel.specs.Checker.{over, term_of}
use Rattle.core_kernel.specs.Family.{Levels}
use Rattle.core_kernel.proofs.ConReading.{con_args_refused, counts_differ, counts_same, con_end_refused, con_is_good, con_shape_refused, con_too_big, end_stays, end_term, entered_on, grown_on, ready_inside}
use Rattle.declared_types.proofs.Grown.{con-within}
use Rattle.core_kernel.proofs.checker.Checker.check_con.Goals as goal

pub returns-in_err-levels-clause-is : goal.returns-in_err-levels-clause-is
returns-in_err-levels-clause-is c =
    let p = err_from_is_err_and c.from_residual.result c.from_residual.ensures.1 in
    let x = c.args.self.now in
    let k = c.args.con.now in
    let q = c.levels.new.self.pool.now in
    let e = c.in_err-levels.field-0.0 in
    let es : c.as_slice.result.now ≡ k.args = cc (c.as_slice.ensures, c.con.view_is, c.con-inside.view_is) in
    rw (p.1, p.2)
    (con_args_refused x c.args.fam (fam_of c.args.decl.now) k c.requires.params q e
    (subst (λ (ys : List (Entry ℕ)). RefusedBy q (λ r. Levels (over x) (telescope_map (term_of x) ys) (Refuses r)) e) es c.in_err-levels.ensures.is))

pub returns-then-len-clause-is : goal.returns-then-len-clause-is
returns-then-len-clause-is c =
    let x = c.args.self.now in
    let k = c.args.con.now in
    let d : FamDecl ℕ = fam_of c.args.decl.now in
    let v = c.in_ok-levels.ensures in
    let es : c.as_slice.result.now ≡ k.args = cc (c.as_slice.ensures, c.con.view_is, c.con-inside.view_is) in
    let h : Levels (over x) (telescope_map (term_of x) k.args) (Gives c.in_ok-levels.levels) = subst (λ (ys : List (Entry ℕ)). Levels (over x) (telescope_map (term_of x) ys) (Gives c.in_ok-levels.levels)) es v.is in
    let a : c.len.result ≡ length k.indices = c.len.ensures ∙ (ap (λ (v : Inside). length v.indices) c.con-inside.view_is ∙ ap (λ (v : ConDecl ℕ). length v.indices) c.con.view_is) in
    let b : c.len-2.result ≡ length d.indices = c.len-2.ensures ∙ (ap (λ (ys : List (Entry ℕ)). length ys) c.indices.view_is ∙ ap (λ (t : CoreDecl). length (fam_of t).indices) (sym c.in-Family.is)) in
    con_shape_refused x c.args.fam d k c.requires.params c.in_ok-levels.levels h (counts_differ (length k.indices) (length d.indices) c.len.result c.len-2.result a b c.if-len.true)

pub con_end-requires-clause-con : goal.con_end-requires-clause-con
con_end-requires-clause-con c = con-within c.args.self.now.pool.now c.levels.new.self.pool.now c.in_ok-levels.ensures.grows.extends c.args.con.now c.requires.con

pub level-requires-clause-ready : goal.level-requires-clause-ready
level-requires-clause-ready c =
    let x = c.args.self.now in
    let k = c.args.con.now in
    let d : FamDecl ℕ = fam_of c.args.decl.now in
    let v = c.in_ok-levels.ensures in
    let w = c.levels.new.self in
    let q = c.con_end.new.pool in
    let es : c.as_slice.result.now ≡ k.args = cc (c.as_slice.ensures, c.con.view_is, c.con-inside.view_is) in
    let g = grown_on x w q v.grows c.in_ok-end.ensures.extends in
    let n = entered_on x w q c.as_slice.result.now k.args es v.enters in
    ready_inside c.requires.ready g k.args n c.requires.con.args

pub level-requires-clause-term : goal.level-requires-clause-term
level-requires-clause-term c =
    let x = c.args.self.now in
    let k = c.args.con.now in
    let d : FamDecl ℕ = fam_of c.args.decl.now in
    let v = c.in_ok-levels.ensures in
    let w = c.levels.new.self in
    let q = c.con_end.new.pool in
    let es : c.as_slice.result.now ≡ k.args = cc (c.as_slice.ensures, c.con.view_is, c.con-inside.view_is) in
    let g = grown_on x w q v.grows c.in_ok-end.ensures.extends in
    let n = entered_on x w q c.as_slice.result.now k.args es v.enters in
    let end = c.in_ok-end.ensures.is in
    let is = end_stays x.pool.now w.pool.now c.args.fam d k (tree q c.in_ok-end.end) v.grows.extends c.requires.decl c.requires.con end.is in
    end_term x c.args.fam d k c.requires.params c.requires.ready g n c.in_ok-end.end is end.within c.requires.fam c.requires.scope

pub returns-in_err-level-clause-is : goal.returns-in_err-level-clause-is
returns-in_err-level-clause-is c =
    let p = err_from_is_err_and c.from_residual-in_err-level.result c.from_residual-in_err-level.ensures.1 in
    let x = c.args.self.now in
    let k = c.args.con.now in
    let d : FamDecl ℕ = fam_of c.args.decl.now in
    let v = c.in_ok-levels.ensures in
    let w = c.levels.new.self in
    let q = c.con_end.new.pool in
    let es : c.as_slice.result.now ≡ k.args = cc (c.as_slice.ensures, c.con.view_is, c.con-inside.view_is) in
    let g = grown_on x w q v.grows c.in_ok-end.ensures.extends in
    let n = entered_on x w q c.as_slice.result.now k.args es v.enters in
    let h : Levels (over x) (telescope_map (term_of x) k.args) (Gives c.in_ok-levels.levels) = subst (λ (ys : List (Entry ℕ)). Levels (over x) (telescope_map (term_of x) ys) (Gives c.in_ok-levels.levels)) es v.is in
    let end = c.in_ok-end.ensures.is in
    let is = end_stays x.pool.now w.pool.now c.args.fam d k (tree q c.in_ok-end.end) v.grows.extends c.requires.decl c.requires.con end.is in
    let a : c.len.result ≡ length k.indices = c.len.ensures ∙ (ap (λ (v : Inside). length v.indices) c.con-inside.view_is ∙ ap (λ (v : ConDecl ℕ). length v.indices) c.con.view_is) in
    let b : c.len-2.result ≡ length d.indices = c.len-2.ensures ∙ (ap (λ (ys : List (Entry ℕ)). length ys) c.indices.view_is ∙ ap (λ (t : CoreDecl). length (fam_of t).indices) (sym c.in-Family.is)) in
    let same : eqb (length k.indices) (length d.indices) ≡ true = counts_same (length k.indices) (length d.indices) c.len.result c.len-2.result a b c.if-len.false in
    rw (p.1, p.2)
    (con_end_refused x c.args.fam d k c.requires.params c.in_ok-levels.levels h same c.requires.ready g n c.requires.con.args c.in_ok-end.end is c.level.new.self.pool.now c.in_err-level.field-0.0 c.in_err-level.ensures.is)

pub returns-then-not-none_above-clause-is : goal.returns-then-not-none_above-clause-is
returns-then-not-none_above-clause-is c =
    let x = c.args.self.now in
    let k = c.args.con.now in
    let d : FamDecl ℕ = fam_of c.args.decl.now in
    let v = c.in_ok-levels.ensures in
    let w = c.levels.new.self in
    let q = c.con_end.new.pool in
    let es : c.as_slice.result.now ≡ k.args = cc (c.as_slice.ensures, c.con.view_is, c.con-inside.view_is) in
    let g = grown_on x w q v.grows c.in_ok-end.ensures.extends in
    let n = entered_on x w q c.as_slice.result.now k.args es v.enters in
    let h : Levels (over x) (telescope_map (term_of x) k.args) (Gives c.in_ok-levels.levels) = subst (λ (ys : List (Entry ℕ)). Levels (over x) (telescope_map (term_of x) ys) (Gives c.in_ok-levels.levels)) es v.is in
    let end = c.in_ok-end.ensures.is in
    let is = end_stays x.pool.now w.pool.now c.args.fam d k (tree q c.in_ok-end.end) v.grows.extends c.requires.decl c.requires.con end.is in
    let a : c.len.result ≡ length k.indices = c.len.ensures ∙ (ap (λ (v : Inside). length v.indices) c.con-inside.view_is ∙ ap (λ (v : ConDecl ℕ). length v.indices) c.con.view_is) in
    let b : c.len-2.result ≡ length d.indices = c.len-2.ensures ∙ (ap (λ (ys : List (Entry ℕ)). length ys) c.indices.view_is ∙ ap (λ (t : CoreDecl). length (fam_of t).indices) (sym c.in-Family.is)) in
    let same : eqb (length k.indices) (length d.indices) ≡ true = counts_same (length k.indices) (length d.indices) c.len.result c.len-2.result a b c.if-len.false in
    let level : d.level ≡ c.in-Family.level = ap (λ (t : CoreDecl). (fam_of t).level) c.in-Family.is in
    let above : none_above d.level c.in_ok-levels.levels ≡ false =
    ap (λ (l : ℕ). none_above l c.in_ok-levels.levels) level ∙ (ap (none_above c.in-Family.level) (sym c.as_slice-2.ensures) ∙ sym c.if-not-none_above.ensures) in
    con_too_big x c.args.fam d k c.requires.params c.in_ok-levels.levels h same c.requires.ready g n c.requires.con.args c.in_ok-end.end is c.in_ok-level.field-0 c.in_ok-level.ensures.is above

pub returns-clause-is : goal.returns-clause-is
returns-clause-is c =
    let x = c.args.self.now in
    let k = c.args.con.now in
    let d : FamDecl ℕ = fam_of c.args.decl.now in
    let v = c.in_ok-levels.ensures in
    let w = c.levels.new.self in
    let q = c.con_end.new.pool in
    let es : c.as_slice.result.now ≡ k.args = cc (c.as_slice.ensures, c.con.view_is, c.con-inside.view_is) in
    let g = grown_on x w q v.grows c.in_ok-end.ensures.extends in
    let n = entered_on x w q c.as_slice.result.now k.args es v.enters in
    let h : Levels (over x) (telescope_map (term_of x) k.args) (Gives c.in_ok-levels.levels) = subst (λ (ys : List (Entry ℕ)). Levels (over x) (telescope_map (term_of x) ys) (Gives c.in_ok-levels.levels)) es v.is in
    let end = c.in_ok-end.ensures.is in
    let is = end_stays x.pool.now w.pool.now c.args.fam d k (tree q c.in_ok-end.end) v.grows.extends c.requires.decl c.requires.con end.is in
    let a : c.len.result ≡ length k.indices = c.len.ensures ∙ (ap (λ (v : Inside). length v.indices) c.con-inside.view_is ∙ ap (λ (v : ConDecl ℕ). length v.indices) c.con.view_is) in
    let b : c.len-2.result ≡ length d.indices = c.len-2.ensures ∙ (ap (λ (ys : List (Entry ℕ)). length ys) c.indices.view_is ∙ ap (λ (t : CoreDecl). length (fam_of t).indices) (sym c.in-Family.is)) in
    let same : eqb (length k.indices) (length d.indices) ≡ true = counts_same (length k.indices) (length d.indices) c.len.result c.len-2.result a b c.if-len.false in
    let level : d.level ≡ c.in-Family.level = ap (λ (t : CoreDecl). (fam_of t).level) c.in-Family.is in
    let above : none_above d.level c.in_ok-levels.levels ≡ true =
    ap (λ (l : ℕ). none_above l c.in_ok-levels.levels) level ∙ (ap (none_above c.in-Family.level) (sym c.as_slice-2.ensures) ∙ sym c.if-not-none_above.ensures) in
    con_is_good x c.args.fam d k c.requires.params c.in_ok-levels.levels h same c.requires.ready g n c.requires.con.args c.in_ok-end.end is c.in_ok-level.field-0 c.in_ok-level.ensures.is above
