-- The answers of the unifier by steps, in a signature in scope with typed trees.
use Rattle.std.specs.Prelude.{ℕ, List, ◌∷◌, map, refl}
use Rattle.std.proofs.Common.{sym, subst as transport}
use Rattle.core_rules.specs.Term.{Term}
use Rattle.core_rules.specs.Signature.{Context, Signature}
use Rattle.core_rules.specs.InScope.{SignatureInScope, any_meta, IsAcyclic}
use Rattle.core_rules.specs.TreeLaws.{HasTypedTrees}
use Rattle.core_rules.specs.Unification.{Equation, eq, Solution, State, St, begin, Refutes}
use Rattle.core_rules.specs.Substitution.{replace}
use Rattle.core_rules.specs.Mapped.{telescope_map, signature_map}
use Rattle.core_rules.specs.Heads.{Solutions, Answer, Within, HeadOf}
use Rattle.core_rules.specs.Bounded.{Verdict, ConvOf}
use Rattle.core_rules.specs.BoundedLaws.{IsFull, shown, replace_answer, replace_verdict}
use Rattle.core_rules.proofs.Heads.HeadConverts.{trees_image, shown_image}
use Rattle.core_rules.proofs.Heads.ReplacedVerdict.{conv_of_image, head_of_image}
use Rattle.core_rules.proofs.Heads.Regular.{shapes, regular_fit}
use Rattle.core_rules.proofs.Trees.Regular.{typed_trees-regular}
use Rattle.unify_rules.specs.Unifier.{Outcome, Rule, Ruled, after, Turn, turn, Unify, UnifyOf}
use Rattle.unify_rules.specs.UnifierLaws.{Says, Clashes}
use Rattle.unify_rules.proofs.NoSolutions.{yes_means, shapes_image}
use Rattle.unify_rules.proofs.Says.{unify_says}

pub by_steps : (g : Signature Term) (fuel depth : ℕ) (s : State) (o : Outcome) (n : ℕ) → SignatureInScope g any_meta → HasTypedTrees g → Unify g fuel depth s o n → Says g s o
by_steps g fuel depth s o n i y d = let fit = regular_fit g any_meta i (typed_trees-regular g y) in unify_says g fuel depth fit (yes_means g fuel depth (shapes g any_meta i) fit) d

pub refutes : (g : Signature Term) (c : Context Term) (es : List Equation) → Clashes g (begin c es) → Refutes g c es
refutes g c es h = record { types = h.types; equations = h.equations; solved = h.solved; steps = h.steps; clash = h.clash }

pub with_solutions : (g : Signature Term) (f : Solutions) (fuel depth : ℕ) (c : Context Term) (es : List Equation) (o : Outcome) → SignatureInScope g any_meta → HasTypedTrees g → UnifyOf g f fuel depth c es o
    → Says (signature_map (replace f) g) (begin (telescope_map (replace f) c) (map (λ e. eq (replace f e.left) (replace f e.right)) es)) o
with_solutions g f fuel depth c es o i y d =
    let fit = trees_image f g (regular_fit g any_meta i (typed_trees-regular g y)) in
    unify_says (signature_map (replace f) g) fuel depth fit (yes_means (signature_map (replace f) g) fuel depth (shapes_image f g (shapes g any_meta i)) fit) d.1

pub turn_by : (g : Signature Term) (s f : Solutions) (fuel depth : ℕ) (ts : List Term) (t u : Term) (es : List Equation) (ss : List Solution) (v w : Answer) (n m : ℕ) (q : Verdict) (r : Rule) → IsFull s f → IsAcyclic s
    → HeadOf g s t fuel (Within v n) → HeadOf g s u fuel (Within w m) → ConvOf g s fuel depth t u q → Ruled ts (replace f (shown v)) (replace f (shown w)) (replace_verdict f q) r
    → Turn (signature_map (replace f) g) fuel depth (St ts (eq (replace f t) (replace f u) ∷ es) ss) (after r ts es ss)
turn_by g s f fuel depth ts t u es ss v w n m q r x a h k c d =
    let y : Ruled ts (shown (replace_answer f v)) (shown (replace_answer f w)) (replace_verdict f q) r = transport (λ z. Ruled ts (shown (replace_answer f v)) z (replace_verdict f q) r) (sym (shown_image f g w)) (transport (λ z. Ruled ts z (replace f (shown w)) (replace_verdict f q) r) (sym (shown_image f g v)) d) in
    turn (replace_verdict f q) r (head_of_image g s f x a t fuel (Within v n) h) (head_of_image g s f x a u fuel (Within w m) k) (conv_of_image g s f x a fuel depth t u q c) y refl
