-- What head forms and verdicts that code has found show.
use Rattle.std.proofs.Common.{◌≡◌, ℕ, length, refl, subst}
use Rattle.std.specs.Prelude.{Option}
use Rattle.core_rules.specs.Term.{Term}
use Rattle.core_rules.specs.Signature.{Signature}
use Rattle.core_rules.specs.Heads.{Within, HeadOf}
use Rattle.core_rules.specs.Bounded.{Yes, No, WaitsFor, ConvOf}
use Rattle.core_rules.specs.Bounded as q
use Rattle.core_rules.specs.BoundedLaws.{no_solutions}
use Rattle.term_pool.specs.Pool.{Pool, tree}
use Rattle.weak_head.specs.States.{AppliedBelow, answer_in}
use Rattle.weak_head.specs.Answers.{IsReduced}
use Rattle.weak_head.specs.declared.answer.Reduced as R
use Rattle.weak_head.specs.declared.answer.Reduced.TheVariants as RV
use Rattle.weak_head.specs.declared.state.Applied as A
use Rattle.conversion.specs.declared.conv.Conv as V
use Rattle.conversion.specs.declared.conv.Conv.TheVariants as C
use Rattle.conversion.specs.Conv.{IsVerdict}
use Rattle.kernel_rules.specs.Outcome.{Gives}
use Rattle.el_outside.specs.declared.place.Pos.{Pos}
use Rattle.written_rules.specs.Asking.{Comes}
use Rattle.written_rules.specs.Rules.{shows, agrees}
use Rattle.elab_machine.specs.Answers.{Answers}
use Rattle.elab_machine.specs.Writer.{agreement_by}

module _ (g : Signature Term) (fuel depth : ℕ) (x : Pos) (p : Pool) where
  pub shown-found : (a : Term) (v : R.Reduced) (m : Option ℕ) (t : A.Applied) (n : ℕ) → v ≡ RV.Found m t n → IsReduced g no_solutions a fuel p v
      → AppliedBelow (length p.trees) t × Comes g fuel depth (shows x a) (Gives (answer_in (tree p) m t))
  shown-found a v m t n e r =
      let h : AppliedBelow (length p.trees) t × HeadOf g no_solutions a fuel (Within (answer_in (tree p) m t) n) = subst (λ (w : R.Reduced). IsReduced g no_solutions a fuel p w) e r in
      (h.0, (Within (answer_in (tree p) m t) n, h.1, refl))

  pub agreed : (a b : Term) (v : V.Conv) → IsVerdict (ConvOf g no_solutions fuel depth a b) p v → Answers p (Comes g fuel depth (agrees x a b)) (agreement_by x v)
  agreed a b C.Yes h = (Yes, h, refl)
  agreed a b (C.No t u xs) h = ((h.left, h.right), (No (tree p t) (tree p u) xs, h.is, refl))
  agreed a b C.OutOfFuel h = (tt, (q.OutOfFuel, h, refl))
  agreed a b C.OutOfDepth h = (tt, (q.OutOfDepth, h, refl))
  agreed a b (C.Blocked m) h = (tt, (WaitsFor m, h, refl))
  agreed a b C.NoMemory h = tt
