use Rattle.std.proofs.Common.{◌≡◌, ℕ, [], ◌∷◌, ◌++◌, length, map, ap, sym, subst, ◌∙◌, arith}
use Rattle.std.specs.List.{AllByRecursion}
use Rattle.std.proofs.lemmas.List.{map-append}
use Rattle.core_rules.specs.Mapped.{dot_map}
use Rattle.core_rules.specs.Signature.{Dot}
use Rattle.el_base.proofs.Throughout.{all-push}
use Rattle.term_pool.specs.Pool.{tree}
use Rattle.lhs_elab.specs.Settled.{DotBelow}
use Rattle.lhs_elab.proofs.settle.Settler.dotted.Goals as goal

pub returns-clause-ready : goal.returns-clause-ready
returns-clause-ready c =
    let x = c.args.self.now in
    let n = length x.pool.now.trees in
    let v : Dot ℕ = record { at = c.in-Ok.at; value = c.args.held.value; ty = c.args.held.ty } in
    record {
      left = c.requires.ready.left;
      named = c.requires.ready.named;
      dots = subst (AllByRecursion (DotBelow n)) (sym c.in_ok-push.ensures.items) (all-push (DotBelow n) x.dots.now.items v c.requires.ready.dots c.requires.held);
    }

pub returns-clause-dots : goal.returns-clause-dots
returns-clause-dots c =
    let x = c.args.self.now in
    let f = dot_map (tree x.pool.now) in
    let v : Dot ℕ = record { at = c.in-Ok.at; value = c.args.held.value; ty = c.args.held.ty } in
    let n : c.in-Ok.at ≡ length x.dots.now.items = omega (arith, c.in-Ok.ensures, c.len.ensures) in
    ap (map f) c.in_ok-push.ensures.items ∙ (map-append f x.dots.now.items (v ∷ []) ∙ ap (λ (m : ℕ). map f x.dots.now.items ++ record { at = m; value = tree x.pool.now c.args.held.value; ty = tree x.pool.now c.args.held.ty } ∷ []) n)
