use Rattle.std.proofs.Common.{IfOk, ℕ, ◌≡◌, ◌++◌, List, ap, sym, ◌∙◌, subst, map, reverse, take, drop, length, arith, rules}
use Rattle.std.proofs.lemmas.Grind.{common_steps}
use Rattle.el_base.proofs.Lists.{map-reverse}
use Rattle.core_rules.specs.Term.{env_of}
use Rattle.core_rules.specs.Substitution.{under}
use Rattle.term_pool.specs.Pool.{StandsFor, tree, args}
use Rattle.core_terms.proofs.Instances.{to_from}
use Rattle.core_terms.proofs.instance.put_args.Goals as goal

all_of : (n : ℕ) (xs ys : List ℕ) → n ≡ length xs → length ys ≡ length xs → take n (ys ++ drop (length ys) xs) ≡ ys
all_of n xs ys e l = grind (arith, common_steps)

pub returns-clause-is : goal.returns-clause-is
returns-clause-is c =
    let ids : List ℕ = c.in_ok-args.field-0 in
    let f = tree c.args.pool.now in
    let given : c.as_slice.result.now ≡ reverse ids =
    c.as_slice.ensures.value
    ∙ (all_of _ _ _ (search rules) (c.reverse.ensures.len ∙ ap length c.as_mut_slice.ensures.value)
    ∙ (c.reverse.ensures.after ∙ (ap reverse c.as_mut_slice.ensures.value ∙ ap reverse c.into_vec-env.ensures))) in
    let e : map f c.as_slice.result.now ≡ env_of (args c.args.pool.now c.args.args) =
    ap (map f) given ∙ (map-reverse f ids ∙ (ap reverse (sym (to_from (map f ids))) ∙ ap env_of c.in_ok-args.ensures.is)) in
    subst (λ r. IfOk c.under.result (λ i. StandsFor c.under.new.pool i (under r (f c.args.t)))) e c.under.ensures.is
