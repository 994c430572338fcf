use Rattle.std.proofs.Common.{◌≡◌, map, ap, sym, ◌∙◌, arith}
use Rattle.std.specs.Prelude.{None, Some, option_map}
use Rattle.core_rules.specs.Mapped.{fam_map, telescope_map}
use Rattle.core_terms.specs.Signature.{fam_of}
use Rattle.term_pool.specs.Pool.{tree}
use Rattle.written_rules.specs.Rules.{con_found, params_of}
use Rattle.elab_machine.specs.Spine.{shown_in}
use Rattle.elab_machine.proofs.Starts.{no_start, fam_of_con, con_named, starts_at}
use Rattle.elab_machine.proofs.writer.Writer.constructor.Goals as goal

pub returns-then-number-cons-clause-is : goal.returns-then-number-cons-clause-is
returns-then-number-cons-clause-is c =
    let x = c.args.self.now in
    no_start x.pool.now x.signature.now c.args.con (shown_in x.pool.now c.args.shown.now) (omega (arith, c.if-number-cons.true, c.number.ensures, c.cons.ensures))

pub fam-requires : goal.fam-requires
fam-requires c =
    let x = c.args.self.now in
    fam_of_con x.signature.now c.args.con c.con-fam.result.0 c.con-fam.result.1 c.con-fam.ensures

pub returns-in_default-clause-is : goal.returns-in_default-clause-is
returns-in_default-clause-is c =
    let x = c.args.self.now in
    let p = x.pool.now in
    let g = x.signature.now in
    let a = c.con-fam.result.0 in
    let b = c.con-fam.result.1 in
    let d = fam_of c.fam.result.now.decl in
    let w = shown_in p c.args.shown.now in
    let is = con_named p g c.args.con a b d c.con-fam.ensures c.fam.ensures.is in
    let none : params_of a (fam_map (tree p) d) (telescope_map (tree p) d.params) w ≡ None = sym c.in_ok-params.ensures.is ∙ ap (option_map (λ v. map (tree p) v.items)) c.in_default.is in
    starts_at p g c.args.con a b d c.con-fam.ensures c.fam.ensures.is w ∙ ap (option_map (con_found c.args.con is.fam is.decl is.con)) none

pub constructed-requires-clause-con : goal.constructed-requires-clause-con
constructed-requires-clause-con c =
    let x = c.args.self.now in
    con_named x.pool.now x.signature.now c.args.con c.con-fam.result.0 c.con-fam.result.1 (fam_of c.fam.result.now.decl) c.con-fam.ensures c.fam.ensures.is

pub returns-clause-is : goal.returns-clause-is
returns-clause-is c =
    let x = c.args.self.now in
    let p = x.pool.now in
    let g = x.signature.now in
    let a = c.con-fam.result.0 in
    let b = c.con-fam.result.1 in
    let d = fam_of c.fam.result.now.decl in
    let w = shown_in p c.args.shown.now in
    let is = con_named p g c.args.con a b d c.con-fam.ensures c.fam.ensures.is in
    let f = con_found c.args.con is.fam is.decl is.con in
    let params = map (tree p) c.in-Some.params.items in
    let some : params_of a (fam_map (tree p) d) (telescope_map (tree p) d.params) w ≡ Some params = sym c.in_ok-params.ensures.is ∙ ap (option_map (λ v. map (tree p) v.items)) c.in-Some.is in
    (f params, starts_at p g c.args.con a b d c.con-fam.ensures c.fam.ensures.is w ∙ ap (option_map f) some, c.in_ok-constructed.ensures.is is)
