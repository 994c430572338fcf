use Rattle.std.proofs.Common.{length, take, drop, ◌-◌, None, sym, ◌∙◌, subst}
use Rattle.std.specs.List.{AllByRecursion}
use Rattle.el_base.proofs.Throughout.{all-push}
use Rattle.core_rules.specs.Bounded.{argument_parts}
use Rattle.weak_head.specs.Elims.{AllBelow, spine_in}
use Rattle.conversion.specs.declared.arguments.Part.{Part}
use Rattle.conversion.specs.Part.{PartBelow, all_in}
use Rattle.conversion.proofs.Slices.{unrolled, none_within, empty_of}
use Rattle.conversion.proofs.Zip.{onto, zip_next, zip_differ, zip_short, zip_rest, zip_end}
use Rattle.conversion.proofs.arguments.argument_parts.Goals as goal

pub returns-in_default-ys-clause-is : goal.returns-in_default-ys-clause-is
returns-in_default-ys-clause-is c = λ f.
    let xs = c.loop-xs.xs.now in
    let x = c.x-item.result in
    let e = unrolled xs x c.in-len1-up.len_at_least c.x-item.is in
    let n = none_within c.loop-xs.ys.now c.in_default-ys.len_below in
    let ps = c.loop-xs.parts.items in
    let a : _ = λ i. onto (all_in f ps) (argument_parts (spine_in f (e i)) (spine_in f (n i))) in
    zip_short f x (take (length xs - 1) (drop 1 xs)) ps _ (c.loop-xs.invariant.is f ∙ a)

pub returns-in_default-terms_of-clause-is : goal.returns-in_default-terms_of-clause-is
returns-in_default-terms_of-clause-is c = λ f.
    let xs = c.loop-xs.xs.now in
    let ys = c.loop-xs.ys.now in
    let x = c.x-item.result in
    let y = c.y-item.result in
    let e = unrolled xs x c.in-len1-up.len_at_least c.x-item.is in
    let n = unrolled ys y c.in-len1-up-ys.len_at_least c.y-item.is in
    let ps = c.loop-xs.parts.items in
    let a : _ = λ i. onto (all_in f ps) (argument_parts (spine_in f (e i)) (spine_in f (n i))) in
    zip_differ f x y (take (length xs - 1) (drop 1 xs)) (take (length ys - 1) (drop 1 ys)) ps _ (c.in_default-terms_of.ensures.is f) (c.loop-xs.invariant.is f ∙ a)

pub loop-xs-preserved : goal.loop-xs-preserved
loop-xs-preserved c =
    let xs = c.loop-xs.xs.now in
    let ys = c.loop-xs.ys.now in
    let x = c.x-item.result in
    let y = c.y-item.result in
    let e = unrolled xs x c.in-len1-up.len_at_least c.x-item.is in
    let n = unrolled ys y c.in-len1-up-ys.len_at_least c.y-item.is in
    let ps = c.loop-xs.parts.items in
    let part : Part = record { binds = None; left = c.in-Some.terms.0; right = c.in-Some.terms.1 } in
    record {
      is = λ f.
          let a : _ = λ i. onto (all_in f ps) (argument_parts (spine_in f (e i)) (spine_in f (n i))) in
          zip_next f x y (take (length xs - 1) (drop 1 xs)) (take (length ys - 1) (drop 1 ys)) ps c.push.new.self.items part _ (c.in-Some.ensures.is f) c.in_ok-push.ensures.items (c.loop-xs.invariant.is f ∙ a);
      below = λ k a b.
          let l = subst (AllBelow k) e (c.loop-xs.invariant.left k a) in
          let r = subst (AllBelow k) n (c.loop-xs.invariant.right k b) in
          subst (AllByRecursion (PartBelow k)) (sym c.in_ok-push.ensures.items) (all-push (PartBelow k) ps part (c.loop-xs.invariant.below k a b) (c.in-Some.ensures.below k l.0 r.0));
      left = λ k a. (subst (AllBelow k) e (c.loop-xs.invariant.left k a)).1;
      right = λ k b. (subst (AllBelow k) n (c.loop-xs.invariant.right k b)).1;
    }

pub returns-then-is_empty-clause-is : goal.returns-then-is_empty-clause-is
returns-then-is_empty-clause-is c = λ f.
    let m = none_within c.loop-xs.xs.now c.in_default.len_below in
    let n = empty_of c.loop-xs.ys.now (sym c.is_empty.ensures ∙ c.if-is_empty.true) in
    let ps = c.loop-xs.parts.items in
    let a : _ = λ i. onto (all_in f ps) (argument_parts (spine_in f (m i)) (spine_in f (n i))) in
    zip_end f ps _ (c.loop-xs.invariant.is f ∙ a)

pub returns-else-is_empty-clause-is : goal.returns-else-is_empty-clause-is
returns-else-is_empty-clause-is c = λ f.
    let m = none_within c.loop-xs.xs.now c.in_default.len_below in
    let ps = c.loop-xs.parts.items in
    let a : _ = λ i. onto (all_in f ps) (argument_parts (spine_in f (m i)) (spine_in f c.loop-xs.ys.now)) in
    zip_rest f c.loop-xs.ys.now ps _ (sym c.is_empty.ensures ∙ c.if-is_empty.false) (c.loop-xs.invariant.is f ∙ a)
