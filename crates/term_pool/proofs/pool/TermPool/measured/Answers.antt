use Rattle.std.proofs.Common.{length, refl, subst, ⊎_elim}
use Rattle.term_pool.specs.Measures.{IsMeasured}
use Rattle.term_pool.specs.Pool.{IsArgs, tree}
use Rattle.term_pool.proofs.pool.TermPool.measured.Goals as goal

pub returns-in-Var : goal.returns-in-Var
returns-in-Var c = rw c.in-Var.is (c.leaf.ensures.var c.in-Var.index refl)

pub returns-in-Sort : goal.returns-in-Sort
returns-in-Sort c =
    ⊎_elim (λ x. rw x.1 (c.leaf-in-Sort.ensures.sort x.0 refl))
    (λ y. ⊎_elim (λ x. rw x.1 (c.leaf-in-Sort.ensures.def x.0 refl)) (λ x. rw x.1 (c.leaf-in-Sort.ensures.fam x.0 refl)) y) c.in-Sort.is

pub returns-in-Pi : goal.returns-in-Pi
returns-in-Pi c = rw c.in-Pi.is (c.binder.ensures.pi _ _ _ _ c.measures.ensures c.measures-in-Pi.ensures)

pub returns-in-Lam : goal.returns-in-Lam
returns-in-Lam c = rw c.in-Lam.is (c.binder-in-Lam.ensures.lam _ _ _ _ c.measures-in-Lam.ensures c.measures-in-Lam-2.ensures)

pub returns-in-App : goal.returns-in-App
returns-in-App c = rw c.in-App.is (c.applied.ensures _ _ _ c.measures-in-App.ensures c.measures-in-App-2.ensures)

pub returns-in-Con : goal.returns-in-Con
returns-in-Con c =
    let f = tree c.args.self.now in
    let h : IsArgs f (length c.args.self.now.trees) c.in-Con.params = rw c.in-Con.is at c.requires in
    let m : IsMeasured (f c.in-Con.params) c.measures-in-Con.result = subst (λ i. IsMeasured (f i) c.measures-in-Con.result) c.list.ensures c.measures-in-Con.ensures in
    rw c.in-Con.is (c.over_items.ensures c.in-Con.con (f c.in-Con.params) h.list m)

pub returns-in-Proj : goal.returns-in-Proj
returns-in-Proj c = rw c.in-Proj.is (c.projected.ensures _ _ c.measures-in-Proj.ensures)

pub returns-in-Meta : goal.returns-in-Meta
returns-in-Meta c =
    let f = tree c.args.self.now in
    let h : IsArgs f (length c.args.self.now.trees) c.in-Meta.args = rw c.in-Meta.is at c.requires in
    let m : IsMeasured (f c.in-Meta.args) c.measures-in-Meta.result = subst (λ i. IsMeasured (f i) c.measures-in-Meta.result) c.list-in-Meta.ensures c.measures-in-Meta.ensures in
    rw c.in-Meta.is (c.waiting.ensures c.in-Meta.meta (f c.in-Meta.args) h.list m)
