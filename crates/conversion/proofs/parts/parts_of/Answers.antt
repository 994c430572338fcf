use Rattle.std.proofs.Common.{◌<◌, length, arith}
use Rattle.term_pool.specs.Growth.{Extends-length}
use Rattle.conversion.proofs.parts.parts_of.Goals as goal

pub returns-in_ok-made-in-Some-as_lambda-clause-below : goal.returns-in_ok-made-in-Some-as_lambda-clause-below
returns-in_ok-made-in-Some-as_lambda-clause-below c = c.in_ok-made-in-Some-as_lambda.ensures.below (length c.args.pool.now.trees) c.in-Some.ensures.below c.in-Some-as_lambda.ensures.below

pub returns-in_ok-made-in-None-as_lambda-clause-below : goal.returns-in_ok-made-in-None-as_lambda-clause-below
returns-in_ok-made-in-None-as_lambda-clause-below c =
    let e = c.in_ok-other-in-None-as_lambda.ensures in
    let n = length c.applied_to_new.new.pool.trees in
    let l : c.in-Some.l.body < n = let h = c.in-Some.ensures.below in omega (arith, h, Extends-length e.extends) in
    c.in_ok-made-in-None-as_lambda.ensures.below n l e.is.within

pub returns-in_ok-made-in-Some-as_lambda-2-clause-below : goal.returns-in_ok-made-in-Some-as_lambda-2-clause-below
returns-in_ok-made-in-Some-as_lambda-2-clause-below c =
    let e = c.in_ok-other-in-Some-as_lambda-2.ensures in
    let n = length c.applied_to_new-in-Some-as_lambda-2.new.pool.trees in
    let l : c.in-Some-as_lambda-2.k.body < n = let h = c.in-Some-as_lambda-2.ensures.below in omega (arith, h, Extends-length e.extends) in
    c.in_ok-made-in-Some-as_lambda-2.ensures.below n e.is.within l
