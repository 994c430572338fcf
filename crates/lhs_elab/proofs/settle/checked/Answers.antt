use Rattle.std.proofs.Common.{rules, ◌≡◌, ◌<◌, List, length, ap, sym, ◌∙◌, arith}
use Rattle.std.specs.Prelude.{ℕ, reverse}
use Rattle.core_rules.specs.Mapped.{AllLeft, telescope_map}
use Rattle.core_rules.specs.Signature.{CorePats, Dot, Entry, Solved}
use Rattle.core_terms.specs.Patterns.{pats_of}
use Rattle.cover_rules.specs.LeftSide.{pats_named, pats_values}
use Rattle.declared_types.proofs.Grown.{telescope-stays}
use Rattle.index_unify.specs.Unified.{context_in}
use Rattle.lhs_rules.specs.Patterns.{dots_from, pats_dotted, settled_pats}
use Rattle.term_pool.specs.Pool.{Pool, tree}
use Rattle.term_pool.specs.Growth.{Extends-length, Extends-tree}
use Rattle.lhs_elab.specs.Lefts.{left_in}
use Rattle.lhs_elab.proofs.Contexts.{context-back}
use Rattle.lhs_elab.proofs.Growing.{entries-larger}
use Rattle.lhs_elab.proofs.SettlingAll.{pats-same}
use Rattle.lhs_elab.proofs.settle.checked.Goals as goal

pub returns-clause-below : goal.returns-clause-below
returns-clause-below c =
    let p = c.args.pool.now in
    let q : Pool = c.settle_all.new.pool in
    let k = c.in_ok-pats.ensures in
    let l = c.args.left in
    let h : (z : Pool) (es : List (Entry ℕ)) (ps : CorePats ℕ) (ns : List (Solved ℕ)) (ds : List (Dot ℕ)) → z ≡ q → es ≡ l.context.items → ps ≡ pats_of c.in_ok-pats.field-0.pats.items → ns ≡ c.in_ok-pats.field-0.named.items → ds ≡ c.in_ok-pats.field-0.dots.items
    → AllLeft (λ t. t < length z.trees) (record { context = es; pats = ps; ty = l.ty; named = ns; dots = ds; inserted = l.inserted }) =
    λ z es ps ns ds a b d e f. rw (a, b, d, e, f) (record {
      context = entries-larger p q k.extends l.context.items c.requires.left.context;
      pats = k.below.0;
      ty = omega (arith, Extends-length k.extends, c.requires.left.ty);
      named = k.below.1;
      dots = k.below.2;
    }) in
    h _ _ _ _ _ (search rules) (search rules) (search rules) (search rules) (search rules)

pub returns-clause-is : goal.returns-clause-is
returns-clause-is c =
    let p = c.args.pool.now in
    let q = c.settle_all.new.pool in
    let k = c.in_ok-pats.ensures in
    let l = c.args.left in
    let context : telescope_map (tree q) l.context.items ≡ reverse (context_in p l.context.items) = telescope-stays p q l.context.items k.extends c.requires.left.context ∙ sym (context-back p l.context.items) in
    let all = sym (pats-same l.pats.items) in
    let pats = k.pats ∙ ap (λ (ps : CorePats ℕ). pats_values (settled_pats (left_in p l) ps)) all in
    let named = k.named ∙ ap (λ (ps : CorePats ℕ). pats_named (settled_pats (left_in p l) ps)) all in
    let dots = k.dots ∙ ap (λ (ps : CorePats ℕ). dots_from 0 (pats_dotted (settled_pats (left_in p l) ps))) all in
    cc (context, pats, named, dots, Extends-tree l.ty k.extends c.requires.left.ty)
