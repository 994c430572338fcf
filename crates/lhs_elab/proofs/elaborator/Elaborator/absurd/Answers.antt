use Rattle.std.proofs.Common.{◌≡◌, ◌<◌, ◌≤◌, ℕ, List, length, ap₂, sym, subst}
use Rattle.std.proofs.lemmas.Result.{err_from_is_err_and}
use Rattle.core_rules.specs.Signature.{ConDecl, Signature, cons_of, fams}
use Rattle.core_rules.specs.Term.{Term}
use Rattle.kernel_rules.specs.Outcome.{Outcome, Gives, Refuses}
use Rattle.lhs_rules.specs.Refusals.{Refusal}
use Rattle.lhs_rules.specs.Rules.{absurd_pattern, absurd_split, all_refuted}
use Rattle.lhs_rules.specs.Spots.{Left, spot_at}
use Rattle.lhs_elab.specs.Asked.{IsNothing, IsSplit}
use Rattle.lhs_elab.specs.Elaborator.{Comes, Over, left_of, over, signature_of}
use Rattle.lhs_elab.specs.Families.{IsAt}
use Rattle.lhs_elab.specs.Reading.{IsAbsurd, cons_in}
use Rattle.lhs_elab.proofs.FamilyCons.{fam-there}
use Rattle.lhs_elab.proofs.Kept.{Same, same-full, same-left, same-over, same-ready, signature-kept}
use Rattle.lhs_elab.proofs.Refutations.{absurd-is, cons-are, data-refused, is-absurd, level-within, not-absurd, variable-within}
use Rattle.lhs_elab.proofs.Stepping.{answers-as}
use Rattle.lhs_elab.proofs.elaborator.Elaborator.absurd.Goals as goal

pub returns-in_err-at-clause-is : goal.returns-in_err-at-clause-is
returns-in_err-at-clause-is g c = λ f full.
    let F = g.S.Solutions.solution in
    let x = c.args.self.now in
    let e = err_from_is_err_and c.from_residual.result c.from_residual.ensures.1 in
    rw (e.1, e.2) (data-refused (over F f x) (signature_of x) x.function c.args.pos c.args.number (left_of x) c.data_at.new.self.pool.now c.in_err-at.field-0.0 (c.in_err-at.ensures.is f))

pub all_refuted-requires : goal.all_refuted-requires
all_refuted-requires g c =
    let F = g.S.Solutions.solution in
    let x = c.args.self.now in
    let y = c.data_at.new.self in
    let k = c.in_ok-at.ensures in
    let m : Same x y = record { grows = k.grows; keeps = k.keeps; left = k.left } in
    let ready = same-ready F x y c.requires.ready m in
    let n = length y.left.now.context.items in
    record {
      ready = ready;
      level = subst (λ (i : ℕ). i ≤ n) (sym c.in_ok-level.ensures) (level-within n (spot_at (left_of y) c.args.number) (λ i e. variable-within y.pool.now y.left.now c.args.number i ready.left e));
      fam = subst (λ (v : Signature ℕ). c.in_ok-at.at.fam < length (fams v)) (sym k.keeps.signature) k.fam;
      at = k.at;
    }

pub returns-clause-is : goal.returns-clause-is
returns-clause-is g c = λ f full.
    let F = g.S.Solutions.solution in
    let x = c.args.self.now in
    let y = c.data_at.new.self in
    let w = c.all_refuted.new.self in
    let k = c.in_ok-at.ensures in
    let m : Same x y = record { grows = k.grows; keeps = k.keeps; left = k.left } in
    let ready = same-ready F x y c.requires.ready m in
    let a = c.in_ok-at.at in
    let G = signature_of x in
    let kept : signature_of y ≡ G = signature-kept F x y c.requires.ready k.grows k.keeps in
    let r = k.is f in
    let i : IsAt y.pool.now (signature_of y) r.0 a = subst (λ (h : Signature Term). IsAt y.pool.now h r.0 a) (sym kept) r.1 in
    let d = fam-there y.signature.now a.fam (subst (λ (v : Signature ℕ). a.fam < length (fams v)) (sym k.keeps.signature) k.fam) in
    let spot = spot_at (left_of y) c.args.number in
    let s = absurd_split x.function (left_of y) r.0 spot in
    let split : IsSplit y.pool.now y.left.now.context.items c.in_ok-level.level a s =
    subst (λ (j : ℕ). IsSplit y.pool.now y.left.now.context.items j a s) (sym c.in_ok-level.ensures) (absurd-is y.pool.now (signature_of y) x.function y.left.now r.0 a i spot (λ i e. variable-within y.pool.now y.left.now c.args.number i ready.left e)) in
    let ids : cons_of (signature_of y) a.fam ≡ cons_of G r.0.fam = ap₂ (λ (h : Signature Term) (j : ℕ). cons_of h j) kept (sym r.1.fam) in
    let cons : cons_in y a.fam ≡ r.0.decl.cons = sym (cons-are y.pool.now y.signature.now r.0 a d.0 i d.1) in
    let left : left_of y ≡ left_of x = same-left F x y c.requires.ready m in
    let o = over F f x in
    let all : (q : Outcome Refusal (Unit {0})) → Comes (over F f y) (all_refuted c.args.pos s (cons_of (signature_of y) a.fam) (cons_in y a.fam)) q
    → Comes o (all_refuted c.args.pos (absurd_split x.function (left_of x) r.0 (spot_at (left_of x) c.args.number)) (cons_of G r.0.fam) r.0.decl.cons) q = λ q h.
    subst (λ (l : Left). Comes o (all_refuted c.args.pos (absurd_split x.function l r.0 (spot_at l c.args.number)) (cons_of G r.0.fam) r.0.decl.cons) q) left
    (subst (λ (v : Over). Comes v (all_refuted c.args.pos s (cons_of G r.0.fam) r.0.decl.cons) q) (same-over F x y c.requires.ready m f)
    (subst (λ (ks : List ℕ). Comes (over F f y) (all_refuted c.args.pos s ks r.0.decl.cons) q) ids
    (subst (λ (cs : List (ConDecl Term)). Comes (over F f y) (all_refuted c.args.pos s (cons_of (signature_of y) a.fam) cs) q) cons h))) in
    answers-as w.pool.now IsNothing (IsAbsurd x) (Comes (over F f y) (all_refuted c.args.pos s (cons_of (signature_of y) a.fam) (cons_in y a.fam))) (Comes o (absurd_pattern G x.function c.args.pos c.args.number (left_of x)))
    (λ (u : Unit {0}) h. is-absurd o G x.function c.args.pos c.args.number (left_of x) r.0 r.2 (all (Gives tt) h))
    (λ (e : Refusal) h. not-absurd o G x.function c.args.pos c.args.number (left_of x) r.0 r.2 e (all (Refuses e) h))
    c.all_refuted.result (c.all_refuted.ensures.is f s (same-full F x y c.requires.ready m f full) split)
