-- What stands next, with room for so many patterns that are inserted before it; and all that a clause writes, in order.
use Rattle.std.proofs.Common.{◌≡◌, ℕ, zero, suc, List, ◌∷◌, refl, subst, sym}
use Rattle.std.specs.Prelude.{Result, Ok, Err}
use Rattle.core_rules.specs.Heads.{Answer}
use Rattle.core_rules.specs.Signature.{Signature}
use Rattle.core_rules.specs.Term.{Term}
use Rattle.kernel_rules.specs.Outcome.{Outcome, Gives, Refuses}
use Rattle.lhs_rules.specs.Refusals.{Refusal, WrongArity}
use Rattle.resolved_tree.specs.declared.resolved.ResolvedPattern.{ResolvedPattern}
use Rattle.lhs_rules.specs.Asking.{Reads}
use Rattle.lhs_rules.specs.Patterns.{pattern_meaning}
use Rattle.lhs_rules.specs.Spots.{Left}
use Rattle.lhs_rules.specs.Rules.{ElimMeaning, all_elims, most_inserted, one_elim, refused, shows}
use Rattle.lhs_elab.specs.declared.elaborator.Elaborator.{Elaborator}
use Rattle.lhs_elab.specs.declared.error.LhsError.{LhsError}
use Rattle.lhs_elab.specs.declared.walk.Step.{Step}
use Rattle.lhs_elab.specs.declared.walk.Step.TheVariants as W
use Rattle.lhs_elab.specs.Elaborator.{Over, Comes, left_of}
use Rattle.lhs_elab.specs.Reading.{AnswersStep, step_read}
use Rattle.lhs_elab.specs.Walking.{needed_read}
use Rattle.lhs_elab.proofs.Refusing.{refused-as}
use Rattle.lhs_elab.proofs.Stepping.{off, on}

module _ (o : Over) (g : Signature Term) (f : ℕ) (m : ElimMeaning) where
  -- there is room for one more
  pub one-room : (room : ℕ) (l : Left) (r : Outcome Refusal Left) → Comes o (step_read g f m l (one_elim g f m room)) r → Comes o (one_elim g f m (suc room) l) r
  unfolding one_elim
  one-room room l r h = h

  -- there is none
  pub one-full : (l : Left) (r : Outcome Refusal Left) → Comes o (step_read g f m l (λ (k : Left). refused m.pos WrongArity)) r → Comes o (one_elim g f m 0 l) r
  unfolding one_elim
  one-full l r h = h

  -- what holds of a step, whatever goes on after it
  pub one-step : (room : ℕ) (l : Left) (r : Outcome Refusal Left) → ((again : Left → Reads Left) → Comes o (step_read g f m l again) r) → Comes o (one_elim g f m room l) r
  one-step zero l r h = one-full l r (h (λ (k : Left). refused m.pos WrongArity))
  one-step (suc room) l r h = one-room room l r (h (one_elim g f m room))

module _ (o : Over) (g : Signature Term) (f : ℕ) (m : ElimMeaning) (ms : List ElimMeaning) (l : Left) where
  pub elims-next : (k : Left) (r : Outcome Refusal Left) → Comes o (one_elim g f m most_inserted l) (Gives k) → Comes o (all_elims g f ms k) r → Comes o (all_elims g f (m ∷ ms) l) r
  elims-next k r x y = on o (one_elim g f m most_inserted l) (all_elims g f ms) k r x y

  pub elims-stop : (e : Refusal) → Comes o (one_elim g f m most_inserted l) (Refuses e) → Comes o (all_elims g f (m ∷ ms) l) (Refuses e)
  elims-stop e x = off o (one_elim g f m most_inserted l) (all_elims g f ms) e x

-- over the same
pub one-same : (n o : Over) (h g : Signature Term) (i f : ℕ) (p : ResolvedPattern) (l : Left) → n ≡ o → h ≡ g → i ≡ f → (r : Outcome Refusal Left)
    → Comes n (one_elim h i (pattern_meaning h i p) most_inserted l) r → Comes o (one_elim g f (pattern_meaning g f p) most_inserted l) r
one-same n o h g i f p l a b c r x =
    subst (λ (v : Over). Comes v (one_elim g f (pattern_meaning g f p) most_inserted l) r) a (subst (λ (v : Signature Term). Comes n (one_elim v f (pattern_meaning v f p) most_inserted l) r) b
    (subst (λ (v : ℕ). Comes n (one_elim h v (pattern_meaning h v p) most_inserted l) r) c x))

-- ---- what follows for an answer in code

-- what the type shows, and then what stands next, over the same
pub needed-first : (n o : Over) (h g : Signature Term) (i f : ℕ) (k m : ElimMeaning) (j l : Left) (w : Answer) → n ≡ o → h ≡ g → i ≡ f → k ≡ m → j ≡ l → Comes o (shows m.pos l.ty) (Gives w)
    → (again : Left → Reads Left) (r : Outcome Refusal Left) → Comes n (needed_read h i k j w again) r → Comes o (step_read g f m l again) r
needed-first n o h g i f k m j l w a b c d e x again r y =
    on o (shows m.pos l.ty) (λ (v : Answer). needed_read g f m l v again) w r x
    (subst (λ (v : Over). Comes v (needed_read g f m l w again) r) a (subst (λ (v : Signature Term). Comes n (needed_read v f m l w again) r) b (subst (λ (v : ℕ). Comes n (needed_read h v m l w again) r) c
    (subst (λ (v : ElimMeaning). Comes n (needed_read h i v l w again) r) d (subst (λ (v : Left). Comes n (needed_read h i k v w again) r) e y)))))

module _ {S : Type 0} (n o : Over) (y : Elaborator S) (M N : (Left → Reads Left) → Reads Left) (f : (again : Left → Reads Left) (r : Outcome Refusal Left) → Comes n (M again) r → Comes o (N again) r)
    (same : n ≡ o) where
  pub step-as : (x : Result Step LhsError) → AnswersStep n y M x → AnswersStep o y N x
  step-as (Ok W.Taken) h = λ again. f again (Gives (left_of y)) (h again)
  step-as (Ok W.Inserted) h = λ again r x. f again r (h again r (subst (λ (v : Over). Comes v (again (left_of y)) r) (sym same) x))
  step-as (Err e) h =
      refused-as y.pool.now (λ (r : Refusal). (again : Left → Reads Left) → Comes n (M again) (Refuses r)) (λ (r : Refusal). (again : Left → Reads Left) → Comes o (N again) (Refuses r))
      (λ (r : Refusal) (k : (again : Left → Reads Left) → Comes n (M again) (Refuses r)). λ (again : Left → Reads Left). f again (Refuses r) (k again)) e h

pub step-same : {S : Type 0} (n o : Over) (y : Elaborator S) (h g : Signature Term) (i f : ℕ) (p : ResolvedPattern) (l : Left) (x : Result Step LhsError) → n ≡ o → h ≡ g → i ≡ f
    → AnswersStep n y (step_read h i (pattern_meaning h i p) l) x → AnswersStep o y (step_read g f (pattern_meaning g f p) l) x
step-same n o y h g i f p l x a b c k =
    subst (λ (v : Over). AnswersStep v y (step_read g f (pattern_meaning g f p) l) x) a (subst (λ (v : Signature Term). AnswersStep n y (step_read v f (pattern_meaning v f p) l) x) b
    (subst (λ (v : ℕ). AnswersStep n y (step_read h v (pattern_meaning h v p) l) x) c k))

-- a step that inserts nothing takes the pattern
pub taken_of : (s : Step) → (s ≡ W.Inserted → ⊥) → s ≡ W.Taken
taken_of W.Taken h = refl
taken_of W.Inserted h = absurd (h refl)
