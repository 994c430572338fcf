use Rattle.std.proofs.Common.{subst, sym}
use Rattle.core_terms.specs.Signature.{Stands, decl_of}
use Rattle.tree_cases.proofs.Standing.{always, stands_added, stands_same}
use Rattle.tree_cases.proofs.world.World.declare.Goals as goal

pub returns-in-Ok : goal.returns-in-Ok
returns-in-Ok c =
    let p = c.args.self.now.pool in
    let s = subst (Stands p) (sym c.is_decl_in_scope.ensures.same) c.requires.stands in
    let w = c.in_ok-is_decl_in_scope.ensures.within c.if-not-branch.false in
    always _ _ (stands_added p c.check_decl.new.pool c.is_decl_in_scope.new.sig c.check_decl.new.sig (decl_of c.args.decl) c.check_decl.ensures.extends c.in-Ok.ensures.added s w)

pub returns-in-Err : goal.returns-in-Err
returns-in-Err c =
    let p = c.args.self.now.pool in
    let s = subst (Stands p) (sym c.is_decl_in_scope.ensures.same) c.requires.stands in
    always _ _ (stands_same p c.check_decl.new.pool c.is_decl_in_scope.new.sig c.check_decl.new.sig c.check_decl.ensures.extends c.in-Err.ensures.refused s)
