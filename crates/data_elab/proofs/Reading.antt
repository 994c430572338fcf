-- Readings one after another, and what is refused in them.
use Rattle.std.proofs.Common.{◌≡◌, refl, sym, ap, subst}
use Rattle.term_pool.specs.Pool.{Pool}
use Rattle.kernel_rules.specs.Outcome.{Outcome, Gives, Refuses, ThenAs, goes_on, stops}
use Rattle.written_rules.specs.Refusals as written
use Rattle.written_rules.specs.Asking.{Asking}
use Rattle.data_rules.specs.Refusals.{Refusal, at, elab}
use Rattle.data_rules.specs.Reading.{Reads, ◌>>=◌, elaborated, gives}
use Rattle.data_rules.proofs.Comes.{comes_then, then_comes}
use Rattle.elab_machine.specs.declared.error.WrittenError.{WrittenError}
use Rattle.elab_machine.specs.declared.error.WrittenError.TheVariants as W
use Rattle.elab_machine.specs.Answers as expr
use Rattle.data_elab.specs.declared.error.DataError.{DataError}
use Rattle.data_elab.specs.declared.error.DataError.TheVariants as D
use Rattle.data_elab.specs.Answers.{RefusedBy, kind_in, in_declaration}
use Rattle.data_elab.specs.Reader.{Over, Read, read_only}

pub refused-weaker : (p : Pool) (K L : Refusal → Type 0) → ((r : Refusal) → K r → L r) → (e : DataError) → RefusedBy p K e → RefusedBy p L e
refused-weaker p K L w (D.Bad q k) h = (h.0, w (at q (kind_in p k)) h.1)
refused-weaker p K L w D.NoMemory h = tt

-- the refusal of an expression
pub refused-expr : (p : Pool) (K : written.Refusal → Type 0) (L : Refusal → Type 0) → ((r : written.Refusal) → K r → L (elab r)) → (e : WrittenError) → expr.RefusedBy p K e → RefusedBy p L (in_declaration e)
refused-expr p K L w (W.Refused e) h = (h.0, w (written.at e.pos (expr.kind_in p e.kind)) h.1)
refused-expr p K L w W.NoMemory h = tt

-- ---- the reading of an expression

module _ {A : Type 0} (o : Over) (m : Asking (Outcome written.Refusal A)) where
  pub only-gives : (a : A) → Read o m (Gives a) → Read o (read_only m) (Gives a)
  only-gives a h = then_comes o.signature o.fuel o.depth elab m gives (Gives a) (goes_on a h refl)

  pub only-refuses : (e : written.Refusal) → Read o m (Refuses e) → Read o (read_only m) (Refuses (elab e))
  only-refuses e h = then_comes o.signature o.fuel o.depth elab m gives (Refuses (elab e)) (stops e h refl)

  pub given-only : (a : A) → Read o (read_only m) (Gives a) → Read o m (Gives a)
  given-only a h = back (comes_then o.signature o.fuel o.depth elab m gives (Gives a) h)
    where
      back : ThenAs elab (Read o m) (λ b. Read o (gives b)) (Gives a) → Read o m (Gives a)
      back (goes_on b x y) = let s : a ≡ b = cc y in subst (λ c. Read o m (Gives c)) (sym s) x
      back (stops e x y) = absurd cc

  module _ {B : Type 0} (k : A → Reads B) where
    pub expr-next : (a : A) (r : Outcome Refusal B) → Read o (read_only m) (Gives a) → Read o (k a) r → Read o (elaborated m k) r
    expr-next a r h j = then_comes o.signature o.fuel o.depth elab m k r (goes_on a (given-only a h) j)

    pub expr-first : (e : Refusal) → Read o (read_only m) (Refuses e) → Read o (elaborated m k) (Refuses e)
    expr-first e h = then_comes o.signature o.fuel o.depth elab m k (Refuses e) (forth (comes_then o.signature o.fuel o.depth elab m gives (Refuses e) h))
      where
        forth : ThenAs elab (Read o m) (λ b. Read o (gives b)) (Refuses e) → ThenAs elab (Read o m) (λ b. Read o (k b)) (Refuses e)
        forth (goes_on b x y) = absurd cc
        forth (stops d x y) = let i : e ≡ elab d = cc y in stops d x (ap Refuses i)

    pub expr-refused : (p : Pool) (e : DataError) → RefusedBy p (λ r. Read o (read_only m) (Refuses r)) e → RefusedBy p (λ r. Read o (elaborated m k) (Refuses r)) e
    expr-refused p e h = refused-weaker p (λ r. Read o (read_only m) (Refuses r)) (λ r. Read o (elaborated m k) (Refuses r)) (λ r j. expr-first r j) e h

    pub expr-refused_next : (a : A) → Read o (read_only m) (Gives a) → (p : Pool) (e : DataError) → RefusedBy p (λ r. Read o (k a) (Refuses r)) e → RefusedBy p (λ r. Read o (elaborated m k) (Refuses r)) e
    expr-refused_next a h p e j = refused-weaker p (λ r. Read o (k a) (Refuses r)) (λ r. Read o (elaborated m k) (Refuses r)) (λ r i. expr-next a (Refuses r) h i) e j

-- ---- readings of a declaration

module _ {A B : Type 0} (o : Over) (m : Reads A) (k : A → Reads B) where
  -- the first refusal counts
  pub read-first : (e : Refusal) → Read o m (Refuses e) → Read o (m >>= k) (Refuses e)
  read-first e h = then_comes o.signature o.fuel o.depth (λ (e : Refusal). e) m k (Refuses e) (stops e h refl)

  pub read-next : (a : A) (r : Outcome Refusal B) → Read o m (Gives a) → Read o (k a) r → Read o (m >>= k) r
  read-next a r h j = then_comes o.signature o.fuel o.depth (λ (e : Refusal). e) m k r (goes_on a h j)

  pub refused-first : (p : Pool) (e : DataError) → RefusedBy p (λ r. Read o m (Refuses r)) e → RefusedBy p (λ r. Read o (m >>= k) (Refuses r)) e
  refused-first p e h = refused-weaker p (λ r. Read o m (Refuses r)) (λ r. Read o (m >>= k) (Refuses r)) (λ r j. read-first r j) e h

  pub refused-next : (a : A) → Read o m (Gives a) → (p : Pool) (e : DataError) → RefusedBy p (λ r. Read o (k a) (Refuses r)) e → RefusedBy p (λ r. Read o (m >>= k) (Refuses r)) e
  refused-next a h p e j = refused-weaker p (λ r. Read o (k a) (Refuses r)) (λ r. Read o (m >>= k) (Refuses r)) (λ r i. read-next a (Refuses r) h i) e j
