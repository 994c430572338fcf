use Rattle.std.proofs.Common.{ℕ, [], ◌∷◌, ◌++◌, List, length, map, append-nil, ap, sym, subst, ◌∙◌}
use Rattle.std.specs.List.{AllByRecursion}
use Rattle.std.proofs.lemmas.List.{map-append}
use Rattle.core_rules.specs.Mapped.{solved_map}
use Rattle.core_rules.specs.Signature.{Solved}
use Rattle.core_rules.specs.Term.{Term}
use Rattle.core_terms.specs.Pattern.{origin_of}
use Rattle.core_terms.specs.declared.pattern.Origin.{Origin}
use Rattle.cover_rules.specs.LeftSide.{solved_name}
use Rattle.el_base.proofs.Throughout.{all-push}
use Rattle.term_pool.specs.Pool.{tree}
use Rattle.lhs_elab.specs.Settled.{SolvedBelow, held_in, named_of}
use Rattle.lhs_elab.proofs.SettlingAll.{no-name}
use Rattle.lhs_elab.proofs.settle.Settler.solved.Goals as goal

pub returns-in_default-clause-named : goal.returns-in_default-clause-named
returns-in_default-clause-named c =
    let x = c.args.self.now in
    let v = held_in (tree x.pool.now) c.args.held in
    sym (append-nil (named_of x)) ∙ ap (λ (ns : List (Solved Term)). named_of x ++ ns) (sym (no-name c.args.origin.now c.in_default.not-Variable v))

pub returns-clause-ready : goal.returns-clause-ready
returns-clause-ready c =
    let x = c.args.self.now in
    let n = length x.pool.now.trees in
    let v : Solved ℕ = record { name = c.in-Variable.name; value = c.args.held.value; ty = c.args.held.ty } in
    record {
      left = c.requires.ready.left;
      named = subst (AllByRecursion (SolvedBelow n)) (sym c.in_ok-push.ensures.items) (all-push (SolvedBelow n) x.named.now.items v c.requires.ready.named c.requires.held);
      dots = c.requires.ready.dots;
    }

pub returns-clause-named : goal.returns-clause-named
returns-clause-named c =
    let x = c.args.self.now in
    let f = solved_map (tree x.pool.now) in
    let v : Solved ℕ = record { name = c.in-Variable.name; value = c.args.held.value; ty = c.args.held.ty } in
    ap (map f) c.in_ok-push.ensures.items ∙ (map-append f x.named.now.items (v ∷ []) ∙ ap (λ (o : Origin). map f x.named.now.items ++ solved_name (held_in (tree x.pool.now) c.args.held) (origin_of o)) (sym c.in-Variable.is))
