use Rattle.std.proofs.Common.{Some, drop, sym, ap, ◌∙◌, refl}
use Rattle.core_rules.specs.Substitution.{subst as subst_term}
use Rattle.weak_head.specs.declared.elim.Elim.TheVariants as V
use Rattle.weak_head.specs.Elims.{spine_in}
use Rattle.weak_head.specs.Pending.{AtStep, On}
use Rattle.weak_head.proofs.Spines.{none_of, below_at}
use Rattle.weak_head.proofs.Moves.{term_as, lambda_step, lambda_stays}
use Rattle.weak_head.proofs.Calls.{form_as, left_none, left_some}
use Rattle.weak_head.proofs.at_term.at_lambda.Goals as goal

pub returns-in_default-clause-is : goal.returns-in_default-clause-is
returns-in_default-clause-is c = λ f g s fs x a e.
    form_as g s fs e (left_none f c.args.spine.items 0 (sym (none_of c.elim_at.result c.in_default.not-Some) ∙ c.elim_at.ensures.is)) refl

pub returns-in_default-elim-clause-is : goal.returns-in_default-elim-clause-is
returns-in_default-elim-clause-is c = λ f g s fs x a e.
    form_as g s fs e (left_some f c.args.spine.items 0 (V.Field c.in_default-elim.field-0) (ap Some (sym c.in_default-elim.is) ∙ c.in-Some.ensures.is)) refl

pub returns-then-not-same_flag-clause-is : goal.returns-then-not-same_flag-clause-is
returns-then-not-same_flag-clause-is c = λ f g s fs x a e.
    form_as g s fs e (left_some f c.args.spine.items 0 (V.Arg c.in-Arg.of c.in-Arg.arg) (ap Some (sym c.in-Arg.is) ∙ c.in-Some.ensures.is))
    (lambda_stays g s fs c.args.flag c.in-Arg.of x a (f c.args.body) (f c.in-Arg.arg) (drop 1 (spine_in f c.args.spine.items)) (sym c.same_flag.ensures ∙ c.if-not-same_flag.true))

pub returns-clause-below : goal.returns-clause-below
returns-clause-below c = λ n h b l. ((b, below_at n c.args.spine.items 0 (V.Arg c.in-Arg.of c.in-Arg.arg) (ap Some (sym c.in-Arg.is) ∙ c.in-Some.ensures.is) l), c.without.ensures.within n l)

pub returns-clause-is : goal.returns-clause-is
returns-clause-is c = λ f g s fs x a e.
    ap (λ l. On (AtStep (subst_term (f c.args.body) 0 (f c.in-Arg.arg)) l) fs) (c.without.ensures.is f)
    ∙ term_as g s fs e (left_some f c.args.spine.items 0 (V.Arg c.in-Arg.of c.in-Arg.arg) (ap Some (sym c.in-Arg.is) ∙ c.in-Some.ensures.is))
    (lambda_step g s fs c.args.flag c.in-Arg.of x a (f c.args.body) (f c.in-Arg.arg) (drop 1 (spine_in f c.args.spine.items)) (sym c.same_flag.ensures ∙ c.if-not-same_flag.false))
