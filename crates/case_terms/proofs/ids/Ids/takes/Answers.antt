use Rattle.std.proofs.Common.{◌≡◌, length, ap, sym, ◌∙◌}
use Rattle.std.proofs.lemmas.Bool.{eqb-true}
use Rattle.term_pool.specs.Pool.{args, tree}
use Rattle.core_terms.specs.Signature.{fam_of}
use Rattle.case_terms.proofs.Scopes.{params_by, items_count}
use Rattle.case_terms.proofs.ids.Ids.takes.Goals as goal

pub returns : goal.returns
returns c = λ b.
    let p = c.args.self.now.pool.now in
    let k = items_count (tree p) c.in_ok-args.field-0 (args p c.args.params) c.in_ok-args.ensures.is in
    let n = ap (λ d. length (fam_of d).params) c.in-Family.is in
    let v : length c.in-Family.entries ≡ length c.entries.inside.entries = cc c.entries.view_is in
    let e = eqb-true c.len-2.result c.len-3.result b in
    params_by c.args.self.now.sig.now c.args.con _ _ _ _ c.con-fam.ensures c.fam.ensures.is (n ∙ (v ∙ (sym c.len-3.ensures ∙ (sym e ∙ (c.len-2.ensures ∙ sym k)))))
