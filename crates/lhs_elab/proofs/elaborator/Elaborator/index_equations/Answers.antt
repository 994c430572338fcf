use Rattle.std.proofs.Common.{◌≡◌, ◌<◌, ℕ, ◌+◌, ◌-◌, ◌++◌, List, length, map, take, drop, ap, ap₂, sym, subst, ◌∙◌, arith}
use Rattle.std.specs.Prelude.{reverse}
use Rattle.std.specs.List.{AllByRecursion}
use Rattle.std.proofs.lemmas.List.{length-map}
use Rattle.el_base.proofs.Throughout.{all-reverse}
use Rattle.el_base.proofs.Lists.{map-reverse}
use Rattle.core_rules.specs.Term.{Term}
use Rattle.core_rules.specs.Signature.{Entry}
use Rattle.core_rules.specs.Mapped.{con_map, entry_map}
use Rattle.core_rules.specs.Substitution.{shift, under}
use Rattle.core_rules.specs.TypedTree.{Splitting, equations, index_equations, vars}
use Rattle.core_rules.specs.Unification as U
use Rattle.declared_types.proofs.Named.{if_ok}
use Rattle.index_unify.specs.declared.equation.Equation.{Equation}
use Rattle.index_unify.specs.Unified.{equations_in}
use Rattle.std.specs.declared.vec.Vec.{Vec}
use Rattle.std.proofs.Common.{Global}
use Rattle.term_pool.specs.Pool.{tree}
use Rattle.lhs_elab.specs.Asked.{IsSplit}
use Rattle.lhs_elab.proofs.SplitContexts.{ids-dropped, ids-taken, split-equations}
use Rattle.lhs_elab.proofs.elaborator.Elaborator.index_equations.Goals as goal

pub index_equations-requires : goal.index_equations-requires
index_equations-requires g c =
    let x = c.args.self.now in
    let n = length x.pool.now.trees in
    let a = c.args.at.now in
    let turned = c.as_slice.ensures.value ∙ (c.in_ok-params.ensures ∙ ap reverse c.params_of.ensures) in
    record {
      ends = subst (AllByRecursion (λ t. t < n)) (sym c.ends_of.ensures) c.requires.con.indices;
      params = subst (AllByRecursion (λ t. t < n)) (sym turned) (all-reverse (λ t. t < n) (take a.params a.args.items) (ids-taken n a.params a.args.items c.requires.at));
      own = subst (AllByRecursion (λ t. t < n)) (sym c.indices_of.ensures) (ids-dropped n a.params a.args.items c.requires.at);
    }

pub returns-clause-is : goal.returns-clause-is
returns-clause-is g c =
    let x = c.args.self.now in
    let p = x.pool.now in
    let q = c.index_equations.new.pool in
    let a = c.args.at.now in
    let es = x.left.now.context.items in
    let k = c.args.level in
    let con = c.args.con.now in
    let n : c.in-Ok.count ≡ length (con_map (tree p) con).args = omega (arith, c.in-Ok.ensures, ap (λ (es : List (Entry ℕ)). length es) c.arguments_of.ensures, length-map con.args (entry_map (tree p))) in
    let m : c.in_ok-inner.inner ≡ length es - (k + 1) = omega (arith, c.in_ok-inner.ensures, c.in-Some.ensures) in
    let turned : map (tree p) c.as_slice.result.now ≡ reverse (map (tree p) (take a.params a.args.items)) =
    ap (map (tree p)) (c.as_slice.ensures.value ∙ (c.in_ok-params.ensures ∙ ap reverse c.params_of.ensures)) ∙ map-reverse (tree p) (take a.params a.args.items) in
    let all : List Term → List ℕ → List ℕ → List U.Equation = λ (ps : List Term) (ends own : List ℕ).
    equations (map (λ t. shift (under (vars 0 c.in-Ok.count ++ map (λ u. shift u 0 c.in-Ok.count) ps) t) 0 c.in_ok-inner.inner) (map (tree p) ends)) (map (λ t. shift t 0 (c.in_ok-inner.inner + c.in-Ok.count)) (map (tree p) own)) in
    if_ok (λ (v : Vec Equation Global). equations_in q v.items ≡ all (map (tree p) c.as_slice.result.now) c.ends_of.result.now c.indices_of.result.now) (λ (v : Vec Equation Global). (s : Splitting) → IsSplit p es k a s → equations_in q v.items ≡ index_equations s (con_map (tree p) con)) c.index_equations.result
    (λ v h s i. h ∙ (ap₂ (λ (ends own : List ℕ). all (map (tree p) c.as_slice.result.now) ends own) c.ends_of.ensures c.indices_of.ensures ∙ (ap (λ (ps : List Term). all ps con.indices (drop a.params a.args.items)) turned ∙ split-equations p es k a s i (con_map (tree p) con) c.in-Ok.count c.in_ok-inner.inner n m))) c.index_equations.ensures.is
