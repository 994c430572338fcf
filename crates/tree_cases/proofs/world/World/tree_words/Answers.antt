use Rattle.std.proofs.Common.{◌≡◌, ◌++◌, ◌∷◌, [], ℕ, Some, subst, sym}
use Rattle.core_rules.specs.Signature.{Open, Signature, def_decl}
use Rattle.tree_cases.proofs.Standing.{always, cut_back, last_def, stands_same}
use Rattle.tree_cases.proofs.world.World.tree_words.Goals as goal

pub check_tree-answer-requires-clause-function : goal.check_tree-answer-requires-clause-function
check_tree-answer-requires-clause-function c =
    let g = c.args.self.now.sig in
    let x = c.new.result in
    let a = c.args.ty in
    record {
      name = x;
      is = subst (λ (h : Signature ℕ). def_decl h c.in_ok-function.function ≡ Some (Open x a)) (sym c.in_ok-function.ensures.ok)
          (subst (λ (f : ℕ). def_decl (g ++ Open x a ∷ []) f ≡ Some (Open x a)) (sym c.in_ok-function.ensures.id) (last_def g x a));
    }

pub returns-in-Ok : goal.returns-in-Ok
returns-in-Ok c =
    let g = c.args.self.now.sig in
    let k = cut_back g (Open c.new.result c.args.ty) in
    always _ _ (stands_same c.args.self.now.pool c.check_tree-answer.new.pool g c.cut.new.self c.check_tree-answer.ensures.extends
    (cc (c.cut.ensures, c.mark-mark.ensures, c.in_ok-function.ensures.ok, k)) c.requires)

pub returns-in-Err : goal.returns-in-Err
returns-in-Err c =
    let g = c.args.self.now.sig in
    let k = cut_back g (Open c.new.result c.args.ty) in
    always _ _ (stands_same c.args.self.now.pool c.check_tree-answer.new.pool g c.cut.new.self c.check_tree-answer.ensures.extends
    (cc (c.cut.ensures, c.mark-mark.ensures, c.in_ok-function.ensures.ok, k)) c.requires)
