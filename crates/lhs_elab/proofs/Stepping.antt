-- One reading after another, in code.
use Rattle.std.proofs.Common.{refl}
use Rattle.std.specs.Prelude.{Result, Ok, Err}
use Rattle.kernel_rules.specs.Outcome.{Outcome, Gives, Refuses, goes_on, stops}
use Rattle.term_pool.specs.Pool.{Pool}
use Rattle.lhs_rules.specs.Refusals.{Refusal}
use Rattle.lhs_rules.specs.Asking.{Is, AsksHead, AsksUnifier, Reads, ◌>>=◌}
use Rattle.lhs_rules.specs.Patterns.{AnswersWith}
use Rattle.lhs_rules.proofs.Comes.{then_comes}
use Rattle.lhs_elab.specs.declared.error.LhsError.{LhsError}
use Rattle.lhs_elab.specs.Answers.{Answers, RefusedBy}
use Rattle.lhs_elab.specs.Elaborator.{Over, Comes}
use Rattle.lhs_elab.proofs.Refusing.{refused-as}

module _ (o : Over) where
  pub on : {A B : Type 0} (m : Reads A) (k : A → Reads B) (a : A) (r : Outcome Refusal B) → Comes o m (Gives a) → Comes o (k a) r → Comes o (m >>= k) r
  on m k a r x y = then_comes o.signature o.solved o.fuel (AnswersWith o.signature o.full o.fuel o.depth) m k r (goes_on a x y)

  pub off : {A B : Type 0} (m : Reads A) (k : A → Reads B) (e : Refusal) → Comes o m (Refuses e) → Comes o (m >>= k) (Refuses e)
  off m k e x = then_comes o.signature o.solved o.fuel (AnswersWith o.signature o.full o.fuel o.depth) m k (Refuses e) (stops e x refl)

  -- three in a row
  pub regroup : {A B C : Type 0} (m : Reads A) (k : A → Reads B) (h : B → Reads C) (r : Outcome Refusal C) → Comes o ((m >>= k) >>= h) r → Comes o (m >>= (λ (a : A). k a >>= h)) r
  regroup (Is (Gives a)) k h r x = x
  regroup (Is (Refuses e)) k h r x = x
  regroup (AsksHead t f) k h r x = (x.0, x.1, regroup (f x.0) k h r x.2)
  regroup (AsksUnifier c es f) k h r x = (x.0, x.1, regroup (f x.0) k h r x.2)

  -- an error is that of the first one
  pub off-by : {A B : Type 0} (m : Reads A) (k : A → Reads B) (p : Pool) (e : LhsError) → RefusedBy p (λ (r : Refusal). Comes o m (Refuses r)) e → RefusedBy p (λ (r : Refusal). Comes o (m >>= k) (Refuses r)) e
  off-by {A} {B} m k p e h = refused-as p (λ (r : Refusal). Comes o m (Refuses r)) (λ (r : Refusal). Comes o (m >>= k) (Refuses r)) (λ (r : Refusal) (x : Comes o m (Refuses r)). off m k r x) e h

-- what holds of what is given holds of the answer
pub answers-as : {A B C : Type 0} (p : Pool) (G : A → (B → Type 0) → Type 0) (H : A → (C → Type 0) → Type 0) (P : Outcome Refusal B → Type 0) (Q : Outcome Refusal C → Type 0)
    → ((a : A) → G a (λ (b : B). P (Gives b)) → H a (λ (c : C). Q (Gives c))) → ((r : Refusal) → P (Refuses r) → Q (Refuses r)) → (x : Result A LhsError) → Answers G p P x → Answers H p Q x
answers-as p G H P Q f g (Ok a) h = f a h
answers-as p G H P Q f g (Err e) h = refused-as p (λ (r : Refusal). P (Refuses r)) (λ (r : Refusal). Q (Refuses r)) g e h
