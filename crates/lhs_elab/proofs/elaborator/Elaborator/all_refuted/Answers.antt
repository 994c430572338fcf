use Rattle.std.proofs.Common.{◌≡◌, ◌<◌, ◌-◌, ℕ, List, [], ◌∷◌, length, map, take, drop, refl, ap, sym, subst, ◌∙◌, arith}
use Rattle.std.specs.Prelude.{Option}
use Rattle.std.specs.List.{AllByRecursion}
use Rattle.std.proofs.lemmas.Result.{err_from_is_err_and}
use Rattle.core_rules.specs.Heads.{Solutions}
use Rattle.core_rules.specs.Mapped.{AllCon, con_map}
use Rattle.core_rules.specs.Signature.{ConDecl, cons_of, fam_decl}
use Rattle.core_rules.specs.Term.{Term}
use Rattle.core_rules.specs.TypedTree.{Splitting}
use Rattle.conversion.proofs.Slices.{unrolled, none_within}
use Rattle.declared_types.proofs.Grown.{all-grown, con-stays, con-within, fam_within}
use Rattle.el_outside.specs.declared.place.Pos.{Pos}
use Rattle.kernel_rules.specs.Outcome.{Outcome, Gives, Refuses}
use Rattle.term_pool.specs.Pool.{tree}
use Rattle.lhs_rules.specs.Refusals.{Refusal}
use Rattle.lhs_rules.specs.Rules.{all_refuted}
use Rattle.lhs_elab.specs.declared.left.Left.{Left as CodeLeft}
use Rattle.lhs_elab.specs.Asked.{IsSplit}
use Rattle.lhs_elab.specs.Constructors.{con_refuted}
use Rattle.lhs_elab.specs.declared.elaborator.Elaborator.{Elaborator}
use Rattle.lhs_elab.specs.declared.families.AtFamily.{AtFamily}
use Rattle.lhs_elab.specs.Elaborator.{Comes, IsReady, Over, over, signature_of}
use Rattle.lhs_elab.specs.Reading.{cons_in, decl_cons}
use Rattle.lhs_elab.proofs.FamilyCons.{fam-there}
use Rattle.lhs_elab.proofs.Kept.{Grows-refl, Keeps-refl, Same, Same-trans, same-full, same-over, same-ready}
use Rattle.lhs_elab.proofs.Refusing.{refused-as}
use Rattle.lhs_elab.proofs.Refutations.{decl-cons-are, ids-are, refuted-next, refuted-none, refuted-stop}
use Rattle.lhs_elab.proofs.SplitContexts.{split-stays}
use Rattle.lhs_elab.proofs.elaborator.Elaborator.all_refuted.Goals as goal

pub loop-left-init : goal.loop-left-init
loop-left-init g c =
    let x = c.args.self.now in
    let d = fam-there x.signature.now c.args.at.now.fam c.requires.fam in
    let cs : c.cons_decls-left.result.now ≡ decl_cons (fam_decl x.signature.now c.args.at.now.fam) = decl-cons-are (fam_decl x.signature.now c.args.at.now.fam) d.0 c.cons_decls-left.result.now d.1 c.cons_decls-left.ensures in
    let one : c.cons_decls-left.result.now ≡ d.0.cons = cs ∙ ap decl_cons d.1 in
    let P : ConDecl ℕ → Type 0 = λ (k : ConDecl ℕ). AllCon (λ t. t < length x.pool.now.trees) k in
    record {
      same = record { grows = Grows-refl x; keeps = Keeps-refl x; left = refl };
      decls = subst (AllByRecursion P) (sym one) (fam_within x.pool.now x.signature.now c.args.at.now.fam d.0 c.requires.ready.signature d.1).cons;
      reading = λ f s full split r h.
          let o = over g.S.Solutions.solution f x in
          subst (λ (ks : List ℕ). Comes o (all_refuted c.args.pos s ks (cons_in x c.args.at.now.fam)) r) (ids-are x.pool.now x.signature.now c.args.at.now.fam c.cons_ids-ids.result.now c.cons_ids-ids.ensures)
          (subst (λ (ds : List (ConDecl ℕ)). Comes o (all_refuted c.args.pos s c.cons_ids-ids.result.now (map (con_map (tree x.pool.now)) ds)) r) cs h);
    }

pub con_refuted-requires : goal.con_refuted-requires
con_refuted-requires g c =
    let i = c.loop-left.invariant in
    let x = c.args.self.now in
    let v = c.loop-left.self in
    let e = i.same.grows.extends in
    let left = c.loop-left.left.now in
    let d = c.decl-item.result in
    let P : ConDecl ℕ → Type 0 = λ (k : ConDecl ℕ). AllCon (λ t. t < length x.pool.now.trees) k in
    let l : left ≡ d ∷ take (length left - 1) (drop 1 left) = unrolled left d c.in-len1-up.len_at_least c.decl-item.is in
    let n = ap (λ (k : CodeLeft). length k.context.items) i.same.left in
    record {
      ready = same-ready g.S.Solutions.solution x v c.requires.ready i.same;
      level = omega (arith, n, c.requires.level);
      at = all-grown x.pool.now v.pool.now c.args.at.now.args.items e c.requires.at;
      decl = con-within x.pool.now v.pool.now e d (subst (AllByRecursion P) l i.decls).0;
    }

-- one constructor, over what there was at first
module _ {S : Type 0} (F : S → ℕ → Option ℕ) (x v : Elaborator S) (ready : IsReady F x) (m : Same x v) (pos : Pos) (k : ℕ) (d : ConDecl ℕ) (b : AllCon (λ t. t < length x.pool.now.trees) d) (f : Solutions) (s : Splitting) where
  refuted-first : (q : Outcome Refusal (Unit {0})) → Comes (over F f v) (con_refuted pos k (con_map (tree v.pool.now) d) s) q → Comes (over F f x) (con_refuted pos k (con_map (tree x.pool.now) d) s) q
  refuted-first q h =
      subst (λ (c : ConDecl Term). Comes (over F f x) (con_refuted pos k c s) q) (con-stays x.pool.now v.pool.now m.grows.extends d b)
      (subst (λ (o : Over). Comes o (con_refuted pos k (con_map (tree v.pool.now) d) s) q) (same-over F x v ready m f) h)

  split-there : (level : ℕ) (at : AtFamily) → AllByRecursion (λ t. t < length x.pool.now.trees) at.args.items → IsSplit x.pool.now x.left.now.context.items level at s → IsSplit v.pool.now v.left.now.context.items level at s
  split-there level at a i = subst (λ (l : CodeLeft). IsSplit v.pool.now l.context.items level at s) (sym m.left) (split-stays x.pool.now v.pool.now m.grows.extends x.left.now.context.items level at s ready.left.context a i)

pub loop-left-preserved : goal.loop-left-preserved
loop-left-preserved g c =
    let F = g.S.Solutions.solution in
    let i = c.loop-left.invariant in
    let x = c.args.self.now in
    let v = c.loop-left.self in
    let k = c.in_ok-con_refuted.ensures in
    let left = c.loop-left.left.now in
    let ids = c.loop-left.ids.now in
    let d = c.decl-item.result in
    let id = c.con-item.result in
    let more = take (length left - 1) (drop 1 left) in
    let rest = take (length ids - 1) (drop 1 ids) in
    let P : ConDecl ℕ → Type 0 = λ (k : ConDecl ℕ). AllCon (λ t. t < length x.pool.now.trees) k in
    let l : left ≡ d ∷ more = unrolled left d c.in-len1-up.len_at_least c.decl-item.is in
    let n : ids ≡ id ∷ rest = unrolled ids id c.in-len1-up-ids.len_at_least c.con-item.is in
    let b = subst (AllByRecursion P) l i.decls in
    record {
      same = Same-trans i.same (record { grows = k.grows; keeps = k.keeps; left = k.left });
      decls = b.1;
      reading = λ f s full split r h.
          let o = over F f x in
          let one : Comes o (con_refuted c.args.pos id (con_map (tree x.pool.now) d) s) (Gives tt) =
          refuted-first F x v c.requires.ready i.same c.args.pos id d b.0 f s (Gives tt) (k.is f s (same-full F x v c.requires.ready i.same f full) (split-there F x v c.requires.ready i.same c.args.pos id d b.0 f s c.args.level c.args.at.now c.requires.at split)) in
          i.reading f s full split r
          (subst (λ (ks : List ℕ). Comes o (all_refuted c.args.pos s ks (map (con_map (tree x.pool.now)) left)) r) (sym n)
          (subst (λ (ds : List (ConDecl ℕ)). Comes o (all_refuted c.args.pos s (id ∷ rest) (map (con_map (tree x.pool.now)) ds)) r) (sym l)
          (refuted-next o c.args.pos s id rest (con_map (tree x.pool.now) d) (map (con_map (tree x.pool.now)) more) r one h)));
    }

pub returns-in_err-con_refuted-clause-is : goal.returns-in_err-con_refuted-clause-is
returns-in_err-con_refuted-clause-is g c = λ f s full split.
    let F = g.S.Solutions.solution in
    let i = c.loop-left.invariant in
    let x = c.args.self.now in
    let v = c.loop-left.self in
    let w = c.con_refuted.new.self in
    let left = c.loop-left.left.now in
    let ids = c.loop-left.ids.now in
    let d = c.decl-item.result in
    let id = c.con-item.result in
    let more = take (length left - 1) (drop 1 left) in
    let rest = take (length ids - 1) (drop 1 ids) in
    let P : ConDecl ℕ → Type 0 = λ (k : ConDecl ℕ). AllCon (λ t. t < length x.pool.now.trees) k in
    let l : left ≡ d ∷ more = unrolled left d c.in-len1-up.len_at_least c.decl-item.is in
    let n : ids ≡ id ∷ rest = unrolled ids id c.in-len1-up-ids.len_at_least c.con-item.is in
    let b = subst (AllByRecursion P) l i.decls in
    let o = over F f x in
    let e = err_from_is_err_and c.from_residual.result c.from_residual.ensures.1 in
    rw (e.1, e.2)
    (refused-as w.pool.now (λ (r : Refusal). Comes (over F f v) (con_refuted c.args.pos id (con_map (tree v.pool.now) d) s) (Refuses r)) (λ (r : Refusal). Comes o (all_refuted c.args.pos s (cons_of (signature_of x) c.args.at.now.fam) (cons_in x c.args.at.now.fam)) (Refuses r))
    (λ (r : Refusal) (h : Comes (over F f v) (con_refuted c.args.pos id (con_map (tree v.pool.now) d) s) (Refuses r)).
    i.reading f s full split (Refuses r)
    (subst (λ (ks : List ℕ). Comes o (all_refuted c.args.pos s ks (map (con_map (tree x.pool.now)) left)) (Refuses r)) (sym n)
    (subst (λ (ds : List (ConDecl ℕ)). Comes o (all_refuted c.args.pos s (id ∷ rest) (map (con_map (tree x.pool.now)) ds)) (Refuses r)) (sym l)
    (refuted-stop o c.args.pos s id rest (con_map (tree x.pool.now) d) (map (con_map (tree x.pool.now)) more) r (refuted-first F x v c.requires.ready i.same c.args.pos id d b.0 f s (Refuses r) h)))))
    c.in_err-con_refuted.field-0.0 (c.in_err-con_refuted.ensures.is f s (same-full F x v c.requires.ready i.same f full) (split-there F x v c.requires.ready i.same c.args.pos id d b.0 f s c.args.level c.args.at.now c.requires.at split)))

pub returns-in_default-ids-clause-is : goal.returns-in_default-ids-clause-is
returns-in_default-ids-clause-is g c = λ f s full split.
    let i = c.loop-left.invariant in
    let x = c.args.self.now in
    let ids = c.loop-left.ids.now in
    let n : ids ≡ [] = none_within ids c.in_default-ids.len_below in
    i.reading f s full split (Gives tt) (subst (λ (ks : List ℕ). Comes (over g.S.Solutions.solution f x) (all_refuted c.args.pos s ks (map (con_map (tree x.pool.now)) c.loop-left.left.now)) (Gives tt)) (sym n) refl)

pub returns-clause-is : goal.returns-clause-is
returns-clause-is g c = λ f s full split.
    let i = c.loop-left.invariant in
    let x = c.args.self.now in
    let left = c.loop-left.left.now in
    let n : left ≡ [] = none_within left c.in_default.len_below in
    let o = over g.S.Solutions.solution f x in
    i.reading f s full split (Gives tt) (subst (λ (ds : List (ConDecl ℕ)). Comes o (all_refuted c.args.pos s c.loop-left.ids.now (map (con_map (tree x.pool.now)) ds)) (Gives tt)) (sym n) (refuted-none o c.args.pos s c.loop-left.ids.now))
