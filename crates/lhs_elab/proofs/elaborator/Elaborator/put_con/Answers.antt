use Rattle.std.proofs.Common.{◌≡◌, ◌<◌, ℕ, List, length, map, ap, ap₂, sym, subst, ◌∙◌, arith}
use Rattle.std.specs.List.{AllByRecursion}
use Rattle.std.proofs.lemmas.List.{length-map}
use Rattle.std.proofs.lemmas.Result.{err_from_is_err_and}
use Rattle.core_rules.specs.Term.{Term}
use Rattle.core_rules.specs.Signature.{Branch, Context, Entry, Telescope}
use Rattle.core_rules.specs.Mapped.{AllEntries, branch_map, con_map, entry_map, telescope_map}
use Rattle.core_rules.specs.TypedTree.{Splitting, con_context, index_equations, into, new_con}
use Rattle.kernel_rules.specs.Outcome.{Outcome, Gives, Refuses}
use Rattle.lhs_rules.specs.Refusals.{Refusal}
use Rattle.lhs_elab.specs.declared.left.Left.{Left as CodeLeft}
use Rattle.lhs_elab.proofs.Refusing.{refused-as}
use Rattle.declared_types.proofs.Grown.{all-grown, con-within, telescope-stays}
use Rattle.index_unify.specs.Unified.{EquationStands, context_in, equations_in}
use Rattle.term_pool.specs.Pool.{tree}
use Rattle.term_pool.specs.Placed.{items-stay}
use Rattle.lhs_rules.specs.Rules.{unified}
use Rattle.lhs_rules.specs.Spots.{Left, put}
use Rattle.lhs_elab.specs.Asked.{IsSplit}
use Rattle.lhs_elab.specs.Branches.{IsBranch}
use Rattle.lhs_elab.specs.Elaborator.{Comes, left_of, over}
use Rattle.lhs_elab.specs.Moving.{moved_by, put_by}
use Rattle.lhs_elab.proofs.BranchGrowing.{branch-larger, branch-stays}
use Rattle.lhs_elab.proofs.ConSteps.{con-put, con-not_put}
use Rattle.lhs_elab.proofs.Growing.{context-stays, entries-larger}
use Rattle.lhs_elab.proofs.Kept.{Same, Same-trans, same-full, same-left, same-ready}
use Rattle.lhs_elab.proofs.Putting.{put-is}
use Rattle.lhs_elab.proofs.Questions.{asked-as}
use Rattle.lhs_elab.proofs.SplitContexts.{split-long, split-stays}
use Rattle.lhs_elab.proofs.elaborator.Elaborator.put_con.Goals as goal

pub index_equations-requires : goal.index_equations-requires
index_equations-requires g c =
    let s = g.S.Solutions.solution in
    let x = c.args.self.now in
    let y = c.con_context.new.self in
    let k = c.in_ok-context.ensures in
    let m : Same x y = record { grows = k.grows; keeps = k.keeps; left = k.left } in
    let e = k.grows.extends in
    record {
      ready = same-ready s x y c.requires.ready m;
      at = all-grown x.pool.now y.pool.now c.args.at.now.args.items e c.requires.at;
      con = con-within x.pool.now y.pool.now e c.args.decl.now c.requires.decl;
    }

pub unified-requires : goal.unified-requires
unified-requires g c =
    let s = g.S.Solutions.solution in
    let x = c.args.self.now in
    let y = c.con_context.new.self in
    let z = c.index_equations.new.self in
    let k = c.in_ok-context.ensures in
    let d = c.in_ok-equations.ensures in
    let m : Same x z = Same-trans (record { grows = k.grows; keeps = k.keeps; left = k.left }) (record { grows = d.grows; keeps = d.keeps; left = d.left }) in
    record {
      ready = same-ready s x z c.requires.ready m;
      context = entries-larger y.pool.now z.pool.now d.grows.extends c.in_ok-context.context k.below;
      equations = subst (AllByRecursion (EquationStands (length z.pool.now.trees))) (sym c.as_slice-2.ensures.value) d.below;
    }

pub move_for-requires : goal.move_for-requires
move_for-requires g c =
    let s = g.S.Solutions.solution in
    let x = c.args.self.now in
    let v = c.unified.new.self in
    let k = c.in_ok-context.ensures in
    let d = c.in_ok-equations.ensures in
    let u = c.in_ok-opened.ensures in
    let m : Same x v = Same-trans (record { grows = k.grows; keeps = k.keeps; left = k.left }) (Same-trans (record { grows = d.grows; keeps = d.keeps; left = d.left }) (record { grows = u.grows; keeps = u.keeps; left = u.left })) in
    let e = m.grows.extends in
    let n = length v.pool.now.trees in
    record {
      ready = same-ready s x v c.requires.ready m;
      level = let l = ap (λ l. length l.context.items) m.left in omega (arith, l, c.requires.level);
      new = omega (arith, c.in-Ok.ensures);
      at = all-grown x.pool.now v.pool.now c.args.at.now.args.items e c.requires.at;
      values = subst (AllByRecursion (λ t. t < n)) (sym c.values_of.ensures) u.below.values;
    }

pub put-requires : goal.put-requires
put-requires g c =
    let s = g.S.Solutions.solution in
    let x = c.args.self.now in
    let y = c.con_context.new.self in
    let v = c.unified.new.self in
    let w = c.move_for.new.self in
    let k = c.in_ok-context.ensures in
    let d = c.in_ok-equations.ensures in
    let u = c.in_ok-opened.ensures in
    let t = c.in_ok-by.ensures in
    let yw : Same y w = Same-trans (record { grows = d.grows; keeps = d.keeps; left = d.left }) (Same-trans (record { grows = u.grows; keeps = u.keeps; left = u.left }) (record { grows = t.grows; keeps = t.keeps; left = t.left })) in
    let xw : Same x w = Same-trans (record { grows = k.grows; keeps = k.keeps; left = k.left }) yw in
    let context = c.in_ok-context.context in
    let es : c.entries_of-entries.result.now ≡ context = c.entries_of-entries.ensures ∙ u.same in
    let l = ap (λ l. length l.context.items) xw.left in
    let long = k.long c.requires.level in
    let ne : length c.entries_of-entries.result.now ≡ length context = ap (λ (xs : List (Entry ℕ)). length xs) es in
    let b : IsBranch (length w.pool.now.trees) (length context) c.in_ok-opened.opened.branch = branch-larger v.pool.now w.pool.now t.grows.extends (length context) c.in_ok-opened.opened.branch u.below in
    record {
      ready = same-ready s x w c.requires.ready xw;
      by = t.below;
      context = subst (AllEntries (λ t. t < length w.pool.now.trees)) (sym es) (entries-larger y.pool.now w.pool.now yw.grows.extends context k.below);
      branch = subst (λ (m : ℕ). IsBranch (length w.pool.now.trees) m c.in_ok-opened.opened.branch) (sym ne) b;
      split = omega (arith, l, c.requires.level);
      long = omega (arith, l, ne, long, c.requires.as_many, c.in-Ok.ensures, ap (λ (xs : List (Entry ℕ)). length xs) c.arguments_of-arguments.ensures, ap (λ (xs : List (Entry ℕ)). length xs) c.as_slice.ensures.value);
    }

pub returns-in_err-opened-clause-is : goal.returns-in_err-opened-clause-is
returns-in_err-opened-clause-is g c = λ f s full i.
    let F = g.S.Solutions.solution in
    let x = c.args.self.now in
    let y = c.con_context.new.self in
    let z = c.index_equations.new.self in
    let v = c.unified.new.self in
    let k = c.in_ok-context.ensures in
    let d = c.in_ok-equations.ensures in
    let xy : Same x y = record { grows = k.grows; keeps = k.keeps; left = k.left } in
    let yz : Same y z = record { grows = d.grows; keeps = d.keeps; left = d.left } in
    let n = c.args.named.entries.items in
    let con = con_map (tree x.pool.now) c.args.decl.now in
    let ask : (q : Outcome Refusal (Branch Term)) → Comes (over F f z) (unified c.args.pos (context_in z.pool.now c.in_ok-context.context) (equations_in z.pool.now c.as_slice-2.result.now)) q → Comes (over F f x) (unified c.args.pos (con_context s c.args.con (telescope_map (tree x.pool.now) n)) (index_equations s con)) q =
    asked-as F x y z c.requires.ready xy yz c.args.con c.args.level c.args.at.now c.args.decl.now n c.in_ok-context.context c.as_slice-2.result.now c.in_ok-equations.equations.items s i c.requires.at c.requires.decl k.below
    (λ s i. k.is s i ∙ ap (λ (es : List (Entry ℕ)). con_context s c.args.con (telescope_map (tree x.pool.now) es)) c.as_slice.ensures.value) d.is c.as_slice-2.ensures.value (unified c.args.pos) f in
    let e = err_from_is_err_and c.from_residual-in_err-opened.result c.from_residual-in_err-opened.ensures.1 in
    rw (e.1, e.2)
    (con-not_put (over F f x) c.args.pos c.args.con con (telescope_map (tree x.pool.now) n) c.args.named.hidden c.args.level s (left_of x) v.pool.now c.in_err-opened.field-0.0
    (refused-as v.pool.now (λ (r : Refusal). Comes (over F f z) (unified c.args.pos (context_in z.pool.now c.in_ok-context.context) (equations_in z.pool.now c.as_slice-2.result.now)) (Refuses r)) (λ (r : Refusal). Comes (over F f x) (unified c.args.pos (con_context s c.args.con (telescope_map (tree x.pool.now) n)) (index_equations s con)) (Refuses r))
    (λ (r : Refusal) (h : Comes (over F f z) (unified c.args.pos (context_in z.pool.now c.in_ok-context.context) (equations_in z.pool.now c.as_slice-2.result.now)) (Refuses r)). ask (Refuses r) h) c.in_err-opened.field-0.0 (c.in_err-opened.ensures.is f (same-full F x z c.requires.ready (Same-trans xy yz) f full))))

pub returns-clause-is : goal.returns-clause-is
returns-clause-is g c = λ f s full i.
    let F = g.S.Solutions.solution in
    let x = c.args.self.now in
    let y = c.con_context.new.self in
    let z = c.index_equations.new.self in
    let v = c.unified.new.self in
    let w = c.move_for.new.self in
    let p = x.pool.now in
    let k = c.in_ok-context.ensures in
    let d = c.in_ok-equations.ensures in
    let u = c.in_ok-opened.ensures in
    let t = c.in_ok-by.ensures in
    let xy : Same x y = record { grows = k.grows; keeps = k.keeps; left = k.left } in
    let yz : Same y z = record { grows = d.grows; keeps = d.keeps; left = d.left } in
    let zv : Same z v = record { grows = u.grows; keeps = u.keeps; left = u.left } in
    let vw : Same v w = record { grows = t.grows; keeps = t.keeps; left = t.left } in
    let xv : Same x v = Same-trans xy (Same-trans yz zv) in
    let xw : Same x w = Same-trans xv vw in
    let yw : Same y w = Same-trans yz (Same-trans zv vw) in
    let n = c.args.named.entries.items in
    let decl = c.args.decl.now in
    let con = con_map (tree p) decl in
    let branch = c.in_ok-opened.opened.branch in
    let context = c.in_ok-context.context in
    let by = c.in_ok-by.by in
    let D : Context Term = con_context s c.args.con (telescope_map (tree p) n) in
    let b : Branch Term = branch_map (tree v.pool.now) branch in
    let ic : (s : Splitting) → IsSplit p x.left.now.context.items c.args.level c.args.at.now s → context_in y.pool.now context ≡ con_context s c.args.con (telescope_map (tree p) n) =
    λ s i. k.is s i ∙ ap (λ (es : List (Entry ℕ)). con_context s c.args.con (telescope_map (tree p) es)) c.as_slice.ensures.value in
    let X : Comes (over F f x) (unified c.args.pos D (index_equations s con)) (Gives b) =
    asked-as F x y z c.requires.ready xy yz c.args.con c.args.level c.args.at.now decl n context c.as_slice-2.result.now c.in_ok-equations.equations.items s i c.requires.at c.requires.decl k.below ic d.is c.as_slice-2.ensures.value (unified c.args.pos) f (Gives b)
    (u.is f (same-full F x z c.requires.ready (Same-trans xy yz) f full)) in
    let es : c.entries_of-entries.result.now ≡ context = c.entries_of-entries.ensures ∙ u.same in
    let DW : context_in w.pool.now c.entries_of-entries.result.now ≡ D = ap (context_in w.pool.now) es ∙ (context-stays y.pool.now w.pool.now yw.grows.extends context k.below ∙ ic s i) in
    let BW : branch_map (tree w.pool.now) branch ≡ b = branch-stays v.pool.now w.pool.now t.grows.extends (length context) branch u.below in
    let args : Telescope Term = telescope_map (tree p) decl.args in
    let given : c.arguments_of-arguments.result.now ≡ decl.args = c.arguments_of-arguments.ensures in
    let new : c.in-Ok.new ≡ length args = omega (arith, c.in-Ok.ensures, ap (λ (xs : List (Entry ℕ)). length xs) given, length-map decl.args (entry_map (tree p))) in
    let items : length v.left.now.context.items ≡ length s.context = ap (λ (l : CodeLeft). length l.context.items) xv.left ∙ sym (split-long p x.left.now.context.items c.args.level c.args.at.now s c.requires.level i) in
    let i2 : IsSplit v.pool.now v.left.now.context.items c.args.level c.args.at.now s = subst (λ (l : CodeLeft). IsSplit v.pool.now l.context.items c.args.level c.args.at.now s) (sym xv.left) (split-stays p v.pool.now xv.grows.extends x.left.now.context.items c.args.level c.args.at.now s c.requires.ready.left.context c.requires.at i) in
    let tele : telescope_map (tree v.pool.now) c.arguments_of-arguments.result.now ≡ args = ap (telescope_map (tree v.pool.now)) given ∙ telescope-stays p v.pool.now decl.args xv.grows.extends c.requires.decl.args in
    let env : map (tree w.pool.now) by.env.items ≡ into s.var (length s.context) (length args) (new_con c.args.con s.params args) =
    t.is s i2 ∙ (ap₂ (λ (m j : ℕ). into s.var m j (new_con c.args.con s.params (telescope_map (tree v.pool.now) c.arguments_of-arguments.result.now))) items new ∙ ap (λ (xs : Telescope Term). into s.var (length s.context) (length args) (new_con c.args.con s.params xs)) tele) in
    let values : map (tree w.pool.now) by.values.items ≡ b.values = ap (map (tree w.pool.now)) (t.values ∙ c.values_of.ensures) ∙ items-stay v.pool.now w.pool.now branch.values t.grows.extends u.below.values in
    let M : left_of c.put.new.self ≡ put (left_of x) s c.args.level c.args.con args c.args.named.hidden D b =
    c.in_ok-put.ensures.left ∙ (ap (λ (l : Left). put_by l c.args.level c.in-Ok.new c.args.named.hidden (context_in w.pool.now c.entries_of-entries.result.now) (branch_map (tree w.pool.now) branch) (moved_by (tree w.pool.now) by)) (same-left F x w c.requires.ready xw)
    ∙ (ap₂ (λ (d : Context Term) (e : Branch Term). put_by (left_of x) c.args.level c.in-Ok.new c.args.named.hidden d e (moved_by (tree w.pool.now) by)) DW BW
    ∙ put-is (left_of x) s c.args.level c.args.con c.args.named.hidden c.in-Ok.new args D b (map (tree w.pool.now) by.env.items) (map (tree w.pool.now) by.values.items) new env values)) in
    con-put (over F f x) c.args.pos c.args.con con (telescope_map (tree p) n) c.args.named.hidden c.args.level s (left_of x) b (left_of c.put.new.self) X M
