use Rattle.std.proofs.Common.{ap, arith}
use Rattle.std.specs.Prelude.{option_map}
use Rattle.core_rules.specs.Term.{Term, Def}
use Rattle.term_pool.specs.Pool.{tree}
use Rattle.term_pool.specs.Growth.{Extends-length, Extends-tree}
use Rattle.core_terms.proofs.SignatureGrowth.{entry_type_in}
use Rattle.declared_types.proofs.Grown.{def_within}
use Rattle.written_rules.specs.Rules.{Found}
use Rattle.elab_machine.proofs.Starts.{no_def}
use Rattle.elab_machine.proofs.writer.Writer.definition.Goals as goal

pub returns-then-number-defs-clause-is : goal.returns-then-number-defs-clause-is
returns-then-number-defs-clause-is c =
    let x = c.args.self.now in
    ap (option_map (λ (a : Term). record { term = Def c.args.def; ty = a })) (no_def x.pool.now x.signature.now c.args.def (omega (arith, c.if-number-defs.true, c.number.ensures, c.defs.ensures)))

pub returns-clause-is : goal.returns-clause-is
returns-clause-is c =
    let x = c.args.self.now in
    let p = x.pool.now in
    let e = c.def.result.now in
    let l = def_within p x.signature.now c.args.def e c.requires.ready.signature c.def.ensures in
    let g = c.in_ok-term.ensures.extends in
    let found : Found = record { term = Def c.args.def; ty = tree p e.ty } in (
      found,
      ap (option_map (λ (a : Term). record { term = Def c.args.def; ty = a })) (entry_type_in p x.signature.now c.args.def e c.def.ensures),
      record { term = c.in_ok-term.ensures.stands; ty = record { within = omega (arith, l, Extends-length g); is = Extends-tree e.ty g l } },
    )
