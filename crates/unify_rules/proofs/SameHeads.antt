-- Terms that are the same up to names have head forms that are the same up to names.
use Rattle.std.specs.Prelude.{ℕ, []}
use Rattle.std.proofs.Common.{ap, sym, ◌∙◌}
use Rattle.core_rules.specs.Term.{Term, nameless, IsSameTerm}
use Rattle.core_rules.specs.Signature.{Signature}
use Rattle.core_rules.specs.Substitution.{replace}
use Rattle.core_rules.specs.Heads.{Solutions, Answer, Heads, Within, HeadOf}
use Rattle.core_rules.specs.Bounded.{full, AreSame}
use Rattle.core_rules.specs.BoundedLaws.{no_solutions, replace_answer, shown}
use Rattle.core_rules.proofs.Names.Alike as A
use Rattle.core_rules.proofs.Names.Alike.{Alike, same_of, alike_of, alike-elims}
use Rattle.core_rules.proofs.Names.HeadForms.{AnswerAlike, forms, blocked, heads-alike}
use Rattle.core_rules.proofs.Heads.Replaced as R
use Rattle.core_rules.proofs.Heads.FullSolutions.{full_is_full}
use Rattle.core_rules.proofs.Heads.HeadConverts.{shown_image}
use Rattle.core_rules.proofs.Heads.OneAnswer.{heads_one}

shown-alike : {v w : Answer} → AnswerAlike v w → Alike (shown v) (shown w)
shown-alike (forms a s) = alike-elims a s
shown-alike (blocked a s) = alike-elims a s

heads_same : (g : Signature Term) (t u : Term) (v w : Answer) (n m : ℕ) → IsSameTerm t u → Heads g no_solutions t [] v n → Heads g no_solutions u [] w m → IsSameTerm (shown v) (shown w)
heads_same g t u v w n m e a b =
    let x = heads-alike g no_solutions a (alike_of t u e) A.none in
    same_of (shown-alike x.2) ∙ ap (λ w. nameless (shown w)) (heads_one x.1 b).0

-- with solutions too
pub shown_same : (g : Signature Term) (s : Solutions) (fuel : ℕ) (t u : Term) (v w : Answer) (n m : ℕ) → HeadOf g s t fuel (Within v n) → HeadOf g s u fuel (Within w m) → AreSame s t u → AreSame s (shown v) (shown w)
shown_same g s fuel t u v w n m a b h =
    let f = full s h.acyclic in
    let x = full_is_full s h.acyclic in
    let e = heads_same (R.image f g) (replace f t) (replace f u) (replace_answer f v) (replace_answer f w) n m h.same (R.heads_image f g s x a.0) (R.heads_image f g s x b.0) in
    record { acyclic = h.acyclic; same = ap nameless (sym (shown_image f g v)) ∙ (e ∙ ap nameless (shown_image f g w)) }
