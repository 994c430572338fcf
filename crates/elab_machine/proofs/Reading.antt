-- Readings one after another, and what is refused in them.
use Rattle.std.proofs.Common.{refl}
use Rattle.std.specs.Prelude.{Result, Ok, Err}
use Rattle.term_pool.specs.Pool.{Pool}
use Rattle.kernel_rules.specs.Outcome.{Outcome, Gives, Refuses, goes_on, stops}
use Rattle.written_rules.specs.Refusals.{Refusal, at}
use Rattle.written_rules.specs.Asking.{Reads, ◌>>=◌, gives}
use Rattle.written_rules.proofs.Comes.{then_comes}
use Rattle.elab_machine.specs.declared.error.WrittenError.{WrittenError}
use Rattle.elab_machine.specs.declared.error.WrittenError.TheVariants as W
use Rattle.elab_machine.specs.Answers.{RefusedBy, Answers, kind_in}
use Rattle.elab_machine.specs.Writer.{Over, Read}

pub refused-weaker : (p : Pool) (K L : Refusal → Type 0) → ((r : Refusal) → K r → L r) → (e : WrittenError) → RefusedBy p K e → RefusedBy p L e
refused-weaker p K L w (W.Refused e) h = (h.0, w (at e.pos (kind_in p e.kind)) h.1)
refused-weaker p K L w W.NoMemory h = tt

-- the outcome of a reading whose value is put into something
abbrev pub outcome_map : {A B : Type 0} → (A → B) → Outcome Refusal A → Outcome Refusal B
outcome_map f (Gives a) = Gives (f a)
outcome_map f (Refuses e) = Refuses e

module _ {A B : Type 0} (o : Over) (m : Reads A) (k : A → Reads B) where
  -- the first refusal counts
  pub read-first : (e : Refusal) → Read o m (Refuses e) → Read o (m >>= k) (Refuses e)
  read-first e h = then_comes o.signature o.fuel o.depth m k (Refuses e) (stops e h refl)

  pub read-next : (a : A) (r : Outcome Refusal B) → Read o m (Gives a) → Read o (k a) r → Read o (m >>= k) r
  read-next a r h j = then_comes o.signature o.fuel o.depth m k r (goes_on a h j)

  pub refused-first : (p : Pool) (e : WrittenError) → RefusedBy p (λ r. Read o m (Refuses r)) e → RefusedBy p (λ r. Read o (m >>= k) (Refuses r)) e
  refused-first p e h = refused-weaker p (λ r. Read o m (Refuses r)) (λ r. Read o (m >>= k) (Refuses r)) (λ r j. read-first r j) e h

  pub refused-next : (a : A) → Read o m (Gives a) → (p : Pool) (e : WrittenError) → RefusedBy p (λ r. Read o (k a) (Refuses r)) e → RefusedBy p (λ r. Read o (m >>= k) (Refuses r)) e
  refused-next a h p e j = refused-weaker p (λ r. Read o (k a) (Refuses r)) (λ r. Read o (m >>= k) (Refuses r)) (λ r i. read-next a (Refuses r) h i) e j

  pub answers-next : (a : A) → Read o m (Gives a) → (p : Pool) (r : Result B WrittenError) → Answers p (Read o (k a)) r → Answers p (Read o (m >>= k)) r
  answers-next a h p (Ok b) j = read-next a (Gives b) h j
  answers-next a h p (Err e) j = refused-next a h p e j

-- what is read last, put into something
pub read-last : {A B : Type 0} (o : Over) (m : Reads A) (f : A → B) (r : Outcome Refusal A) → Read o m r → Read o (m >>= (λ a. gives (f a))) (outcome_map f r)
read-last o m f (Gives a) h = read-next o m (λ a. gives (f a)) a (Gives (f a)) h refl
read-last o m f (Refuses e) h = read-first o m (λ a. gives (f a)) e h
