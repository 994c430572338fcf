use Rattle.std.proofs.Common.{◌≡◌, ◌<◌, ℕ, ◌+◌, ◌∷◌, List, length, map, take, drop, ap, ap₂, sym, subst, ◌∙◌}
use Rattle.std.specs.Prelude.{reverse}
use Rattle.std.specs.List.{AllByRecursion}
use Rattle.core_rules.specs.Term.{Term}
use Rattle.core_rules.specs.Signature.{Context, Entry, Telescope, onto}
use Rattle.core_rules.specs.Mapped.{telescope_map}
use Rattle.core_rules.specs.TypedTree.{Splitting, con_context, entries_under, new_con, opened}
use Rattle.declared_types.proofs.Named.{if_ok}
use Rattle.index_unify.specs.Unified.{context_in}
use Rattle.term_pool.specs.Pool.{tree}
use Rattle.lhs_elab.specs.Asked.{IsSplit}
use Rattle.lhs_elab.proofs.SplitContexts.{entries-dropped, entries-taken, ids-taken, split-context}
use Rattle.lhs_elab.proofs.elaborator.Elaborator.con_context.Goals as goal

pub con_context-requires : goal.con_context-requires
con_context-requires g c =
    let x = c.args.self.now in
    let n = length x.pool.now.trees in
    let es = x.left.now.context.items in
    record {
      outer = subst (AllByRecursion (λ (e : Entry ℕ). e.ty < n)) (sym (c.outside.ensures ∙ ap (take c.args.level) c.as_slice-entries.ensures.value)) (entries-taken n c.args.level es c.requires.ready.left.context);
      inner = subst (AllByRecursion (λ (e : Entry ℕ). e.ty < n)) (sym (c.inside.ensures ∙ ap (drop (c.args.level + 1)) c.as_slice-entries.ensures.value)) (entries-dropped n (c.args.level + 1) es c.requires.ready.left.context);
      params = subst (AllByRecursion (λ t. t < n)) (sym c.params_of.ensures) (ids-taken n c.args.at.now.params c.args.at.now.args.items c.requires.at);
      arguments = c.requires.arguments;
    }

pub returns-clause-is : goal.returns-clause-is
returns-clause-is g c =
    let x = c.args.self.now in
    let p = x.pool.now in
    let q = c.con_context.new.pool in
    let es = x.left.now.context.items in
    let k = c.args.level in
    let given : Telescope Term = telescope_map (tree p) c.args.arguments.now in
    let outer = c.outside.ensures ∙ ap (take k) c.as_slice-entries.ensures.value in
    let inner = c.inside.ensures ∙ ap (drop (k + 1)) c.as_slice-entries.ensures.value in
    let all : List (Entry ℕ) → List (Entry ℕ) → List ℕ → Entry Term → Context Term = λ (os is : List (Entry ℕ)) (ps : List ℕ) (e : Entry Term).
    opened (length is) (new_con c.args.con (map (tree p) ps) given) (entries_under (reverse (map (tree p) ps)) 0 given) (onto (telescope_map (tree p) is) (e ∷ context_in p os)) in
    if_ok (λ (v : List (Entry ℕ)). (e : Entry Term) → context_in q v ≡ all c.outside.result.now c.inside.result.now c.params_of.result.now e) (λ (v : List (Entry ℕ)). (s : Splitting) → IsSplit p es k c.args.at.now s → context_in q v ≡ con_context s c.args.con given) c.con_context.result (λ v h s i.
    h i.entry ∙ (ap₂ (λ (os is : List (Entry ℕ)). all os is c.params_of.result.now i.entry) outer inner ∙ (ap (λ (ps : List ℕ). all (take k es) (drop (k + 1) es) ps i.entry) c.params_of.ensures ∙ split-context p es k c.args.at.now s i c.args.con given))) c.con_context.ensures.is
