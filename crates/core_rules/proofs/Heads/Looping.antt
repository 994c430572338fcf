-- A call that comes back to itself after each step has no head form; terms over it that are the same convert without one.
use Rattle.std.proofs.Common.{◌<◌, ℕ, suc, zero, [], ◌∷◌, inl, inr, refl, arith}
use Rattle.core_rules.specs.declared.Flag.TheVariants.{Explicit}
use Rattle.core_rules.specs.Term.{Term, Var, Def}
use Rattle.core_rules.specs.Signature.{Leaf}
use Rattle.core_rules.specs.Elimination.{Arg}
use Rattle.core_rules.specs.Heads.{Answer, Form, Bounded, Within, Out, Heads, HeadOf, form, argument}
use Rattle.core_rules.specs.Bounded.{OutOfFuel, ConvOf}
use Rattle.core_rules.specs.BoundedLaws.{no_solutions}
use Rattle.core_rules.specs.Addition.{zero_term, suc_term}
use Rattle.core_rules.specs.Looping.{loop_term, loop_tree, looping, over_loop, LoopHasNoHead, SameWithoutFuel, OthersOutOfFuel}
use Rattle.core_rules.proofs.Heads.Same.{nothing_acyclic}
use Rattle.core_rules.proofs.Heads.Next.{heads_by_next, follows_by_next}

-- the steps from loop t are one more than those from its body, which is loop again
no_head_below : (k : ℕ) (t : Term) (w : Answer) (n : ℕ) → n < k → Heads looping no_solutions (loop_term t) [] w n → ⊥
no_head_below zero t w n b d = absurd (omega (arith, b))
no_head_below (suc k) t w n b d =
    let call = (heads_by_next looping no_solutions (loop_term t) [] w n).0 d in
    let node = (heads_by_next looping no_solutions (Def 0) (Arg Explicit t ∷ []) w call.0).0 call.1 in
    let at_leaf = (follows_by_next looping no_solutions (Def 0) (Arg Explicit t ∷ []) loop_tree [] (Arg Explicit t ∷ []) w call.0).0 node in
    let body = (follows_by_next looping no_solutions (Def 0) (Arg Explicit t ∷ []) (Leaf (loop_term (Var 0)) 0) (t ∷ []) [] w call.0).0 at_leaf in
    no_head_below k _ w body.0 (omega (arith, b, call.2, body.2)) body.1

pub loop_has_no_head : LoopHasNoHead
loop_has_no_head t w n d = no_head_below (suc n) t w n (omega arith) d

pub same_without_fuel : SameWithoutFuel
same_without_fuel = inl (record { acyclic = nothing_acyclic; same = refl }, refl)

out : (fuel : ℕ) (t : Term) → HeadOf looping no_solutions (loop_term t) fuel Out
out fuel t w n d = absurd (loop_has_no_head t w n d)

arguments_out : (fuel depth : ℕ) → ConvOf looping no_solutions fuel (suc depth) (loop_term zero_term) (loop_term (suc_term zero_term)) OutOfFuel
arguments_out fuel depth = inr (
  (λ h. let e = h.same in absurd cc),
  record { left = Out; right = Out; is_left = out fuel zero_term; is_right = out fuel (suc_term zero_term); decided = refl },
)

abbrev p_head : Term → Bounded
p_head t = Within (Form (Def 1) (Arg Explicit (loop_term t) ∷ [])) 0

p_form : (fuel : ℕ) (t : Term) → HeadOf looping no_solutions (over_loop t) fuel (p_head t)
p_form fuel t = (argument (form refl), omega arith)

pub others_out_of_fuel : OthersOutOfFuel
others_out_of_fuel fuel depth = inr (
  (λ h. let e = h.same in absurd cc),
  record {
    left = p_head zero_term;
    right = p_head (suc_term zero_term);
    is_left = p_form fuel zero_term;
    is_right = p_form fuel (suc_term zero_term);
    decided = inr (OutOfFuel, arguments_out fuel depth, (λ e. absurd cc), refl);
  },
)
