use Rattle.std.proofs.Common.{◌≡◌, ◌++◌, ◌∷◌, [], subst, sym}
use Rattle.std.specs.Prelude.{ℕ, Some}
use Rattle.core_rules.specs.Signature.{Open, Signature, def_decl}
use Rattle.tree_kernel.proofs.Judging.{def-last}
use Rattle.tree_kernel.proofs.decl.check_function.Goals as goal

pub check_tree-answer-requires-clause-function : goal.check_tree-answer-requires-clause-function
check_tree-answer-requires-clause-function c =
    let x = c.args.name in
    let a = c.args.ty in
    record {
      name = x;
      is = subst (λ (g : Signature ℕ). def_decl g c.in_ok-function.function ≡ Some (Open x a)) (sym c.in_ok-function.ensures.ok)
          (subst (λ (f : ℕ). def_decl (c.args.sig.now ++ Open x a ∷ []) f ≡ Some (Open x a)) (sym c.in_ok-function.ensures.id) (def-last c.args.sig.now x a));
    }
