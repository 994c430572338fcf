use Rattle.std.proofs.Common.{◌-◌, ◌∙◌, length, take, drop, sym}
use Rattle.std.proofs.lemmas.Bool.{eq-eqb, ne_eqb}
use Rattle.std.proofs.lemmas.Result.{err_from_is_err_and}
use Rattle.conversion.proofs.Slices.{unrolled}
use Rattle.kernel_rules.specs.Outcome.{Refuses}
use Rattle.tree_kernel.specs.Nodes.{ReadsBranch, ReadsBranches, ReadsRefuted}
use Rattle.tree_kernel.proofs.Branching.{its-split, its-con, branch-other, at-refuted-stop, at-refuted-is, at-refuted-read, at-goes-is, at-goes-stop}
use Rattle.tree_kernel.proofs.Branching.{at-goes-rest, at-goes-read}
use Rattle.tree_kernel.proofs.Declaring.{decl-weaker}
use Rattle.tree_kernel.proofs.reader.Reader.at_branches.Goals as goal

pub returns-then-number-clause-is : goal.returns-then-number-clause-is
returns-then-number-clause-is c =
    let w = c.args.job in
    let k = c.con-item.result in
    let con = c.decl-item.result in
    let b = c.branch-item.result in
    let ids = w.cons.now in
    let cs = w.decls.now in
    let us = w.branches.now in
    let ks = take (length ids - 1) (drop 1 ids) in
    let decls = take (length cs - 1) (drop 1 cs) in
    let bs = take (length us - 1) (drop 1 us) in
    let i = unrolled ids k c.in-len1-up-cons.len_at_least c.con-item.is in
    let d = unrolled cs con c.in-len1-up-decls.len_at_least c.decl-item.is in
    let e = unrolled us b c.in-len1-up.len_at_least c.branch-item.is in
    branch-other c.args.self.now w c.requires.job k ks con decls b bs i d e
    (ne_eqb b.con k (λ q. c.if-number.true (c.number.ensures ∙ (q ∙ sym c.number-2.ensures))))

pub is_refuted-requires-clause-split : goal.is_refuted-requires-clause-split
is_refuted-requires-clause-split c =
    let w = c.args.job in
    let k = c.con-item.result in
    let con = c.decl-item.result in
    let b = c.branch-item.result in
    let ids = w.cons.now in
    let cs = w.decls.now in
    let us = w.branches.now in
    let ks = take (length ids - 1) (drop 1 ids) in
    let decls = take (length cs - 1) (drop 1 cs) in
    let bs = take (length us - 1) (drop 1 us) in
    let i = unrolled ids k c.in-len1-up-cons.len_at_least c.con-item.is in
    let d = unrolled cs con c.in-len1-up-decls.len_at_least c.decl-item.is in
    let e = unrolled us b c.in-len1-up.len_at_least c.branch-item.is in
    its-split c.args.self.now w c.requires.job k ks con decls b bs i d e

pub is_refuted-requires-clause-decl : goal.is_refuted-requires-clause-decl
is_refuted-requires-clause-decl c =
    let w = c.args.job in
    let k = c.con-item.result in
    let con = c.decl-item.result in
    let b = c.branch-item.result in
    let ids = w.cons.now in
    let cs = w.decls.now in
    let us = w.branches.now in
    let ks = take (length ids - 1) (drop 1 ids) in
    let decls = take (length cs - 1) (drop 1 cs) in
    let bs = take (length us - 1) (drop 1 us) in
    let i = unrolled ids k c.in-len1-up-cons.len_at_least c.con-item.is in
    let d = unrolled cs con c.in-len1-up-decls.len_at_least c.decl-item.is in
    let e = unrolled us b c.in-len1-up.len_at_least c.branch-item.is in
    its-con c.args.self.now w c.requires.job k ks con decls b bs i d e

pub returns-in_err-is_refuted-in-Refuted-clause-is : goal.returns-in_err-is_refuted-in-Refuted-clause-is
returns-in_err-is_refuted-in-Refuted-clause-is c =
    let v = err_from_is_err_and c.from_residual.result c.from_residual.ensures.1 in
    let x = c.args.self.now in
    let w = c.args.job in
    let k = c.con-item.result in
    let con = c.decl-item.result in
    let b = c.branch-item.result in
    let ids = w.cons.now in
    let cs = w.decls.now in
    let us = w.branches.now in
    let ks = take (length ids - 1) (drop 1 ids) in
    let decls = take (length cs - 1) (drop 1 cs) in
    let bs = take (length us - 1) (drop 1 us) in
    let i = unrolled ids k c.in-len1-up-cons.len_at_least c.con-item.is in
    let d = unrolled cs con c.in-len1-up-decls.len_at_least c.decl-item.is in
    let e = unrolled us b c.in-len1-up.len_at_least c.branch-item.is in
    let same = eq-eqb b.con k (sym c.number.ensures ∙ (c.if-number.false ∙ c.number-2.ensures)) in
    rw (v.1, v.2) (decl-weaker c.is_refuted.new.self.pool.now (λ r. ReadsRefuted x w.split k con (Refuses r)) (λ r. ReadsBranches x w (Refuses r))
    (λ r h. at-refuted-stop x w c.requires.job k ks con decls b bs i d e same c.in-Refuted.is r h) c.in_err-is_refuted-in-Refuted.field-0.0
    c.in_err-is_refuted-in-Refuted.ensures.is)

pub returns-in_ok-is_refuted-in-Refuted-clause-is : goal.returns-in_ok-is_refuted-in-Refuted-clause-is
returns-in_ok-is_refuted-in-Refuted-clause-is c =
    let x = c.args.self.now in
    let z = c.is_refuted.new.self in
    let g = c.in_ok-is_refuted-in-Refuted.ensures in
    let w = c.args.job in
    let k = c.con-item.result in
    let con = c.decl-item.result in
    let b = c.branch-item.result in
    let ids = w.cons.now in
    let cs = w.decls.now in
    let us = w.branches.now in
    let ks = take (length ids - 1) (drop 1 ids) in
    let decls = take (length cs - 1) (drop 1 cs) in
    let bs = take (length us - 1) (drop 1 us) in
    let i = unrolled ids k c.in-len1-up-cons.len_at_least c.con-item.is in
    let d = unrolled cs con c.in-len1-up-decls.len_at_least c.decl-item.is in
    let e = unrolled us b c.in-len1-up.len_at_least c.branch-item.is in
    let same = eq-eqb b.con k (sym c.number.ensures ∙ (c.if-number.false ∙ c.number-2.ensures)) in (
      at-refuted-is x w c.requires.job k ks con decls b bs i d e same c.in-Refuted.is z c.requires.ready g.grows,
      at-refuted-read x w c.requires.job k ks con decls b bs i d e same c.in-Refuted.is z c.requires.ready g.grows g.is,
    )

pub goes-requires-clause-split : goal.goes-requires-clause-split
goes-requires-clause-split c =
    let w = c.args.job in
    let k = c.con-item.result in
    let con = c.decl-item.result in
    let b = c.branch-item.result in
    let ids = w.cons.now in
    let cs = w.decls.now in
    let us = w.branches.now in
    let ks = take (length ids - 1) (drop 1 ids) in
    let decls = take (length cs - 1) (drop 1 cs) in
    let bs = take (length us - 1) (drop 1 us) in
    let i = unrolled ids k c.in-len1-up-cons.len_at_least c.con-item.is in
    let d = unrolled cs con c.in-len1-up-decls.len_at_least c.decl-item.is in
    let e = unrolled us b c.in-len1-up.len_at_least c.branch-item.is in
    its-split c.args.self.now w c.requires.job k ks con decls b bs i d e

pub goes-requires-clause-decl : goal.goes-requires-clause-decl
goes-requires-clause-decl c =
    let w = c.args.job in
    let k = c.con-item.result in
    let con = c.decl-item.result in
    let b = c.branch-item.result in
    let ids = w.cons.now in
    let cs = w.decls.now in
    let us = w.branches.now in
    let ks = take (length ids - 1) (drop 1 ids) in
    let decls = take (length cs - 1) (drop 1 cs) in
    let bs = take (length us - 1) (drop 1 us) in
    let i = unrolled ids k c.in-len1-up-cons.len_at_least c.con-item.is in
    let d = unrolled cs con c.in-len1-up-decls.len_at_least c.decl-item.is in
    let e = unrolled us b c.in-len1-up.len_at_least c.branch-item.is in
    its-con c.args.self.now w c.requires.job k ks con decls b bs i d e

pub goes-requires-clause-branch : goal.goes-requires-clause-branch
goes-requires-clause-branch c =
    let w = c.args.job in
    let k = c.con-item.result in
    let con = c.decl-item.result in
    let b = c.branch-item.result in
    let ids = w.cons.now in
    let cs = w.decls.now in
    let us = w.branches.now in
    let ks = take (length ids - 1) (drop 1 ids) in
    let decls = take (length cs - 1) (drop 1 cs) in
    let bs = take (length us - 1) (drop 1 us) in
    let i = unrolled ids k c.in-len1-up-cons.len_at_least c.con-item.is in
    let d = unrolled cs con c.in-len1-up-decls.len_at_least c.decl-item.is in
    let e = unrolled us b c.in-len1-up.len_at_least c.branch-item.is in
    let same = eq-eqb b.con k (sym c.number.ensures ∙ (c.if-number.false ∙ c.number-2.ensures)) in
    at-goes-is c.args.self.now w c.requires.job k ks con decls b bs i d e same c.in-Goes.branch c.in-Goes.rest c.in-Goes.is

pub returns-in_err-node-in-Goes-clause-is : goal.returns-in_err-node-in-Goes-clause-is
returns-in_err-node-in-Goes-clause-is c =
    let v = err_from_is_err_and c.from_residual-in_err-node-in-Goes.result c.from_residual-in_err-node-in-Goes.ensures.1 in
    let x = c.args.self.now in
    let br = c.in-Goes.branch in
    let w = c.args.job in
    let k = c.con-item.result in
    let con = c.decl-item.result in
    let b = c.branch-item.result in
    let ids = w.cons.now in
    let cs = w.decls.now in
    let us = w.branches.now in
    let ks = take (length ids - 1) (drop 1 ids) in
    let decls = take (length cs - 1) (drop 1 cs) in
    let bs = take (length us - 1) (drop 1 us) in
    let i = unrolled ids k c.in-len1-up-cons.len_at_least c.con-item.is in
    let d = unrolled cs con c.in-len1-up-decls.len_at_least c.decl-item.is in
    let e = unrolled us b c.in-len1-up.len_at_least c.branch-item.is in
    let same = eq-eqb b.con k (sym c.number.ensures ∙ (c.if-number.false ∙ c.number-2.ensures)) in
    rw (v.1, v.2) (decl-weaker c.goes.new.self.pool.now (λ r. ReadsBranch x w.split k con br (Refuses r)) (λ r. ReadsBranches x w (Refuses r))
    (λ r h. at-goes-stop x w c.requires.job k ks con decls b bs i d e same br c.in-Goes.rest c.in-Goes.is r h) c.in_err-node-in-Goes.field-0.0
    c.in_err-node-in-Goes.ensures.is)

pub returns-in_ok-node-in-Goes-clause-is : goal.returns-in_ok-node-in-Goes-clause-is
returns-in_ok-node-in-Goes-clause-is c =
    let x = c.args.self.now in
    let z = c.goes.new.self in
    let g = c.in_ok-node-in-Goes.ensures in
    let n = c.in_ok-node-in-Goes.node in
    let w = c.args.job in
    let k = c.con-item.result in
    let con = c.decl-item.result in
    let b = c.branch-item.result in
    let ids = w.cons.now in
    let cs = w.decls.now in
    let us = w.branches.now in
    let ks = take (length ids - 1) (drop 1 ids) in
    let decls = take (length cs - 1) (drop 1 cs) in
    let bs = take (length us - 1) (drop 1 us) in
    let i = unrolled ids k c.in-len1-up-cons.len_at_least c.con-item.is in
    let d = unrolled cs con c.in-len1-up-decls.len_at_least c.decl-item.is in
    let e = unrolled us b c.in-len1-up.len_at_least c.branch-item.is in
    let same = eq-eqb b.con k (sym c.number.ensures ∙ (c.if-number.false ∙ c.number-2.ensures)) in (
      at-goes-rest x w c.requires.job k ks con decls b bs i d e same c.in-Goes.branch c.in-Goes.rest c.in-Goes.is z c.requires.ready g.grows n g.is,
      at-goes-read x w c.requires.job k ks con decls b bs i d e same c.in-Goes.branch c.in-Goes.rest c.in-Goes.is z c.requires.ready g.grows n g.is,
    )
