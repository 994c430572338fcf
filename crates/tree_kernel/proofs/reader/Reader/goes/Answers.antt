use Rattle.std.proofs.Common.{◌≡◌, ◌∙◌, ℕ, List, length, map, ap, ap₂, refl, sym, subst}
use Rattle.core_rules.specs.Signature.{Branch, Entry}
use Rattle.core_rules.specs.Substitution.{under}
use Rattle.core_rules.specs.Mapped.{telescope_map, tree_map}
use Rattle.core_rules.specs.Term.{Term}
use Rattle.core_rules.specs.TypedTree.{into, new_con, with_con}
use Rattle.term_pool.specs.Pool.{StandsFor}
use Rattle.term_pool.specs.Placed.{items-stay}
use Rattle.tree_kernel.specs.Jobs.{OfTree, context_by, split_in}
use Rattle.tree_kernel.specs.Reader.{Grows, term_of}
use Rattle.tree_kernel.proofs.Branching.{branch-node, branch-job}
use Rattle.tree_kernel.proofs.Continuing.{NodeIn}
use Rattle.tree_kernel.proofs.Reading.{Grows-trans, term_kept}
use Rattle.tree_kernel.proofs.Splits.{env-is}
use Rattle.tree_kernel.proofs.reader.Reader.goes.Goals as goal

pub returns-clause-is : goal.returns-clause-is
returns-clause-is c =
    let x = c.args.self.now in
    let y = c.accepts.new.self in
    let y1 = c.both_under.new.self in
    let z = c.both_under-2.new.self in
    let f = term_of x in
    let s = c.args.split.now in
    let con = c.args.decl.now in
    let b = c.args.branch.now in
    let T = c.args.rest.now in
    let g = c.in_ok-env.ensures.grows in
    let g1 : Grows x y1 = Grows-trans g c.in_ok-ty.ensures.grows in
    let h : Grows x z = Grows-trans g1 c.in_ok-ty-2.ensures.grows in
    let env : map (term_of y) c.as_slice.result.now ≡ into s.var (length (split_in f s).context) (length (telescope_map f con.args))
    (new_con c.args.con (map f s.params.items) (telescope_map f con.args)) =
    ap (map (term_of y)) c.as_slice.ensures.value ∙ (c.in_ok-env.ensures.is.0.is ∙ env-is f s c.args.con con.args) in
    let ts : c.as_slice-2.result.now ≡ b.values = c.as_slice-2.ensures ∙ ap (λ (b : Branch ℕ). b.values) c.branch.view_is in
    let values : map (term_of y1) c.as_slice-2.result.now ≡ map f b.values = ap (map (term_of y1)) ts
    ∙ items-stay x.pool.now y1.pool.now b.values g1.extends c.requires.branch.stands.branch.values in
    let A : Term → Term = λ t. with_con (split_in f s) c.args.con (telescope_map f con.args) t in
    let ty1 : term_of y1 c.in_ok-ty.ty ≡ A (f s.ty) = c.in_ok-ty.ensures.ty.is ∙ ap₂ under env (term_kept c.requires.ready g s.ty c.requires.split.0.3) in
    let left1 : term_of y1 c.in_ok-ty.left ≡ A (f s.left) = c.in_ok-ty.ensures.left.is
    ∙ ap₂ under env (term_kept c.requires.ready g s.left c.requires.split.0.4) in
    let ty2 : StandsFor z.pool.now c.in_ok-ty-2.ty (under (map f b.values) (A (f s.ty))) =
    subst (StandsFor z.pool.now c.in_ok-ty-2.ty) (ap₂ under values ty1) c.in_ok-ty-2.ensures.ty in
    let left2 : StandsFor z.pool.now c.in_ok-ty-2.left (under (map f b.values) (A (f s.left))) =
    subst (StandsFor z.pool.now c.in_ok-ty-2.left) (ap₂ under values left1) c.in_ok-ty-2.ensures.left in
    let es : c.in_ok-copied.field-0 ≡ b.context = c.in_ok-copied.ensures ∙ ap (λ (b : Branch ℕ). b.context) c.branch.view_is in
    record {
      tree = refl;
      node = subst (λ (es : List (Entry ℕ)). NodeIn z es T c.in_ok-ty-2.ty c.in_ok-ty-2.left) (sym es)
          (branch-node c.requires.ready h s b T c.requires.split.0 c.requires.branch c.in_ok-ty-2.ty c.in_ok-ty-2.left _ _ ty2 left2);
      accepted = c.in_ok-env.ensures.is.1;
      is = ap (λ (es : List (Entry ℕ)). OfTree (context_by (term_of z) es) (tree_map (term_of z) T) (term_of z c.in_ok-ty-2.ty) (term_of z c.in_ok-ty-2.left))
          es
          ∙ branch-job c.requires.ready h s b T c.requires.split.0 c.requires.branch c.in_ok-ty-2.ty c.in_ok-ty-2.left _ _ ty2 left2;
    }
