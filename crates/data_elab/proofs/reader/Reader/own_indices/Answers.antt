use Rattle.std.proofs.Common.{rules, ◌≡◌, ◌<◌, ◌∙◌, List, ℕ, length, map, ap, sym, subst}
use Rattle.std.specs.Prelude.{None, Some}
use Rattle.std.specs.List.{AllByRecursion}
use Rattle.std.proofs.lemmas.List.{length-map}
use Rattle.core_rules.specs.Mapped.{entry_map}
use Rattle.data_rules.specs.Shapes.{own_arguments}
use Rattle.data_elab.specs.Heading.{heading_in}
use Rattle.data_elab.specs.Reader.{over, term_of}
use Rattle.data_elab.specs.Shapes.{ended_in}
use Rattle.data_elab.proofs.Lines.{heading-whole, none-found, other-end, own-end, some-found}
use Rattle.data_elab.proofs.reader.Reader.own_indices.Goals as goal

pub returns-in_default-clause-is : goal.returns-in_default-clause-is
returns-in_default-clause-is c =
    let x = c.args.self.now in
    let p = x.pool.now in
    let d = heading_in p c.args.heading.now in
    let s = ended_in p c.args.shown.now in
    let is = c.in_ok-terms.ensures.is d (heading-whole p c.args.heading.now c.as_slice.result.now (c.as_slice.ensures.value ∙ c.in_ok-entries.ensures)) in
    let none : own_arguments c.args.fam d s.end ≡ None = none-found _ _ _ is c.in_default.is in
    rw c.refused.ensures (tt, other-end (over x) c.args.pos c.args.fam d s none)

pub own_params-requires-clause-terms : goal.own_params-requires-clause-terms
own_params-requires-clause-terms c =
    let n = length c.args.self.now.pool.now.trees in
    let below = rw c.in-Some.is at c.in_ok-terms.ensures.below in
    subst (λ (us : List ℕ). AllByRecursion (λ t. t < n) us) (sym c.as_slice-2.ensures.value) below

pub returns-clause-is : goal.returns-clause-is
returns-clause-is c =
    let x = c.args.self.now in
    let p = x.pool.now in
    let h = c.args.heading.now in
    let t = c.args.shown.now in
    let d = heading_in p h in
    let s = ended_in p t in
    let is = c.in_ok-terms.ensures.is d (heading-whole p h c.as_slice.result.now (c.as_slice.ensures.value ∙ c.in_ok-entries.ensures)) in
    let us = map (term_of x) c.as_slice-2.result.now in
    let some : own_arguments c.args.fam d s.end ≡ Some us = some-found _ _ c.in-Some.terms us _ is c.in-Some.is (ap (map (term_of x)) c.as_slice-2.ensures.value) in
    let lengths : (c.len.result ≡ length t.entries.items) × (c.len-2.result ≡ length h.params.items) = (search rules, search rules) in
    let inner : c.len.result ≡ length s.entries = lengths.0 ∙ sym (length-map t.entries.items (entry_map (term_of x))) in
    let count : c.len-2.result ≡ length d.params = lengths.1 ∙ sym (length-map h.params.items (entry_map (term_of x))) in
    own-end (over x) c.args.pos c.args.fam d s us some c.len.result c.len-2.result inner count c.own_params.new.self.pool.now c.own_params.result c.own_params.ensures.is
