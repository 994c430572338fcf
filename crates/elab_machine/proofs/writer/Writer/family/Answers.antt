use Rattle.std.proofs.Common.{ap, ◌∙◌, arith}
use Rattle.std.specs.Prelude.{option_map}
use Rattle.core_rules.specs.Term.{Term, Fam}
use Rattle.core_rules.specs.Signature.{FamDecl}
use Rattle.core_rules.specs.Elimination.{fam_type}
use Rattle.core_rules.specs.Mapped.{fam_map}
use Rattle.core_rules.proofs.Heads.Mapped.{fam_decl-map}
use Rattle.core_terms.specs.Signature.{fam_of}
use Rattle.term_pool.specs.Pool.{tree}
use Rattle.term_pool.specs.Growth.{Extends-StandsFor}
use Rattle.weak_head.proofs.Lookups.{no_fam}
use Rattle.declared_types.proofs.Grown.{fam_in, fam_within}
use Rattle.written_rules.specs.Rules.{Found}
use Rattle.elab_machine.proofs.writer.Writer.family.Goals as goal

pub returns-then-number-fams-clause-is : goal.returns-then-number-fams-clause-is
returns-then-number-fams-clause-is c =
    let x = c.args.self.now in
    let f = tree x.pool.now in
    let l = no_fam x.signature.now c.args.fam (omega (arith, c.if-number-fams.true, c.number.ensures, c.fams.ensures)) in
    ap (option_map (λ (d : FamDecl Term). record { term = Fam c.args.fam; ty = fam_type d })) (fam_decl-map f x.signature.now c.args.fam ∙ ap (option_map (fam_map f)) l)

pub fam_type-requires-clause-within : goal.fam_type-requires-clause-within
fam_type-requires-clause-within c =
    let x = c.args.self.now in
    fam_within x.pool.now x.signature.now c.args.fam (fam_of c.fam.result.now.decl) c.requires.ready.signature c.fam.ensures.is

pub returns-clause-is : goal.returns-clause-is
returns-clause-is c =
    let x = c.args.self.now in
    let p = x.pool.now in
    let d = fam_map (tree p) (fam_of c.fam.result.now.decl) in
    let found : Found = record { term = Fam c.args.fam; ty = fam_type d } in (
      found,
      ap (option_map (λ (d : FamDecl Term). record { term = Fam c.args.fam; ty = fam_type d })) (fam_in p x.signature.now c.args.fam (fam_of c.fam.result.now.decl) c.fam.ensures.is),
      record { term = c.in_ok-term.ensures.stands; ty = Extends-StandsFor c.in_ok-term.ensures.extends c.in_ok-ty.ensures.is },
    )
