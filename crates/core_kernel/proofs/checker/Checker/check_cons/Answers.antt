use Rattle.std.proofs.Common.{◌≡◌, ◌∷◌, ◌-◌, ℕ, length, map, take, drop}
use Rattle.core_rules.specs.Mapped.{con_map, fam_map}
use Rattle.core_rules.specs.Signature.{FamDecl}
use Rattle.core_terms.specs.Signature.{fam_of}
use Rattle.kernel_rules.specs.Outcome.{Gives, Outcome}
use Rattle.kernel_rules.specs.Refusals.{DeclRefusal}
use Rattle.conversion.proofs.Slices.{none_within, unrolled}
use Rattle.core_kernel.specs.Checker.{over, term_of}
use Rattle.core_kernel.specs.Family.{ReadsCons}
use Rattle.core_kernel.proofs.Checking.{Grows-trans, Keeps-trans, ready_kept}
use Rattle.core_kernel.proofs.ConsReading.{con_below, con_scope, cons_done, cons_goes_on, cons_more, cons_scope, cons_stops, decl_below}
use Rattle.core_kernel.proofs.checker.Checker.check_cons.Goals as goal

pub check_con-requires-clause-ready : goal.check_con-requires-clause-ready
check_con-requires-clause-ready c = ready_kept c.requires.ready c.loop-left.invariant.grows c.loop-left.invariant.keeps

pub check_con-requires-clause-decl : goal.check_con-requires-clause-decl
check_con-requires-clause-decl c =
    let i = c.loop-left.invariant in
    let left = c.loop-left.left.now in
    let k = c.con-item.result in
    let more = take (length left - 1) (drop 1 left) in
    let first : left ≡ k ∷ more = unrolled left k c.in-len1-up.len_at_least c.con-item.is in
    decl_below c.requires.ready i.grows i.keeps c.args.fam (fam_of c.args.decl.now) c.requires.decl left more k first i.within

pub check_con-requires-clause-con : goal.check_con-requires-clause-con
check_con-requires-clause-con c =
    let i = c.loop-left.invariant in
    let left = c.loop-left.left.now in
    let k = c.con-item.result in
    let more = take (length left - 1) (drop 1 left) in
    let first : left ≡ k ∷ more = unrolled left k c.in-len1-up.len_at_least c.con-item.is in
    con_below c.requires.ready i.grows i.keeps c.args.fam (fam_of c.args.decl.now) c.requires.decl left more k first i.within

pub check_con-requires-clause-scope : goal.check_con-requires-clause-scope
check_con-requires-clause-scope c =
    let i = c.loop-left.invariant in
    let left = c.loop-left.left.now in
    let k = c.con-item.result in
    let more = take (length left - 1) (drop 1 left) in
    let first : left ≡ k ∷ more = unrolled left k c.in-len1-up.len_at_least c.con-item.is in
    con_scope c.requires.ready i.grows i.keeps c.args.fam (fam_of c.args.decl.now) c.requires.decl left more k first i.within i.scope

pub loop-left-preserved : goal.loop-left-preserved
loop-left-preserved c =
    let i = c.loop-left.invariant in
    let v = c.in-Ok.ensures in
    let d : FamDecl ℕ = fam_of c.args.decl.now in
    let left = c.loop-left.left.now in
    let k = c.con-item.result in
    let more = take (length left - 1) (drop 1 left) in
    let first : left ≡ k ∷ more = unrolled left k c.in-len1-up.len_at_least c.con-item.is in
    record {
      grows = Grows-trans i.grows v.grows;
      keeps = Keeps-trans i.keeps v.keeps;
      within = cons_more c.requires.ready i.grows i.keeps c.args.fam d c.requires.decl left more k first i.within;
      scope = cons_scope c.requires.ready i.grows i.keeps c.args.fam d c.requires.decl left more k first i.within i.scope;
      reading = λ o h. i.reading o (cons_goes_on c.requires.ready i.grows i.keeps c.args.fam d c.requires.decl left more k first i.within o v.is h);
    }

pub returns-in-Err-clause-is : goal.returns-in-Err-clause-is
returns-in-Err-clause-is c =
    let i = c.loop-left.invariant in
    let x = c.args.self.now in
    let d : FamDecl ℕ = fam_of c.args.decl.now in
    let left = c.loop-left.left.now in
    let k = c.con-item.result in
    let more = take (length left - 1) (drop 1 left) in
    let first : left ≡ k ∷ more = unrolled left k c.in-len1-up.len_at_least c.con-item.is in
    cons_stops c.requires.ready i.grows i.keeps c.args.fam d c.requires.decl left more k first i.within c.check_con.new.self.pool.now
    (λ (o : Outcome DeclRefusal (Unit {0})). ReadsCons (over x) c.args.fam (fam_map (term_of x) d) (map (con_map (term_of x)) c.args.cons.now) o) i.reading c.in-Err.e c.in-Err.ensures.is

pub returns-clause-is : goal.returns-clause-is
returns-clause-is c =
    let i = c.loop-left.invariant in
    let x = c.args.self.now in
    let left = c.loop-left.left.now in
    i.reading (Gives tt) (cons_done (over x) c.args.fam (fam_map (term_of x) (fam_of c.args.decl.now)) (term_of x) left (none_within left c.in_default.len_below))
