use Rattle.el_base.proofs.Throughout.{all-push}
use Rattle.core_rules.specs.Signature.{Family}
use Rattle.core_terms.specs.Signature.{fam_of}
use Rattle.core_terms.proofs.SignatureGrowth.{Stands-extends}
use Rattle.left_rows.proofs.world.World.family.Goals as goal

pub returns : goal.returns
returns c =
    let g = c.args.self.now.signature in
    let is = c.in_ok-family.ensures.answer.0 in
    let before = Stands-extends c.args.self.now.pool c.elab_written.new.pool g c.in_ok-family.ensures.extends c.requires.stands in
    rw (c.in_ok-add.ensures.ok, c.in_ok-family.ensures.signature, is.family) (all-push _ g (Family (fam_of c.in_ok-family.family)) before is.within)
