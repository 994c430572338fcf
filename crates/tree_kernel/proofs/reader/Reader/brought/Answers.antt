use Rattle.std.proofs.Common.{◌≡◌, ◌∙◌, ap, ap₂, subst}
use Rattle.std.specs.Prelude.{length, map}
use Rattle.core_rules.specs.Substitution.{under}
use Rattle.core_rules.specs.Mapped.{telescope_map}
use Rattle.core_rules.specs.TypedTree.{into, new_con}
use Rattle.core_kernel.proofs.Contexts.{context_in-extends}
use Rattle.declared_types.proofs.Grown.{entries-weaker}
use Rattle.term_pool.specs.Pool.{StandsFor, tree}
use Rattle.term_pool.specs.Growth.{Extends-tree}
use Rattle.tree_kernel.specs.Jobs.{split_in}
use Rattle.tree_kernel.proofs.Splits.{env-is}
use Rattle.tree_kernel.proofs.reader.Reader.brought.Goals as goal

pub returns-clause-is : goal.returns-clause-is
returns-clause-is c =
    let p = c.args.self.now.pool.now in
    let q = c.open_con.new.pool in
    let z = c.both_under.new.self.pool.now in
    let s = c.args.split.now in
    let es = c.args.entries.now in
    let o = c.in_ok-context.field-0 in
    let f = tree p in
    let e = c.in_ok-ty.ensures.grows.extends in
    let env : map (tree q) c.as_slice.result.now ≡ into s.var (length (split_in f s).context) (length (telescope_map f es))
    (new_con c.args.con (map f s.params.items) (telescope_map f es)) =
    ap (map (tree q)) c.as_slice.ensures.value ∙ (c.in_ok-context.ensures.env.is ∙ env-is f s c.args.con es) in
    record {
      below = entries-weaker q z o.context e c.in_ok-context.ensures.below;
      context = context_in-extends q z o.context e c.in_ok-context.ensures.below ∙ c.in_ok-context.ensures.context;
      ty = subst (StandsFor z c.in_ok-ty.ty) (ap₂ under env (Extends-tree s.ty c.in_ok-context.ensures.extends c.requires.split.0.3)) c.in_ok-ty.ensures.ty;
      left = subst (StandsFor z c.in_ok-ty.left) (ap₂ under env (Extends-tree s.left c.in_ok-context.ensures.extends c.requires.split.0.4))
          c.in_ok-ty.ensures.left;
    }
