use Rattle.std.proofs.Common.{leb, rules}
use Rattle.std.proofs.lemmas.List.Sorted.{IsPartitionPoint-from_clause, IsPartitionedBy-leb}
use borrow.Author.Tests.{leb-true, leb-false}
use Rattle.el_outside.proofs.line_table.starts_up_to.Goals as goal

pub returns-clause-point : goal.returns-clause-point
returns-clause-point c =
    let xs = c.args.starts.now in
    let at = c.args.at in
    let point = IsPartitionPoint-from_clause (λ y. leb y at) xs c.partition_point.result c.partition_point.ensures.partitioned (IsPartitionedBy-leb (λ x. x) xs at c.requires) (λ a r f h. search rules) in
    (λ k d low high. leb-true _ _ (point.0 k d low high), λ k d low high. leb-false _ _ (point.1 k d low high))
