-- Entries that a reader enters one after the other.
use Rattle.std.proofs.Common.{◌≡◌, ◌<◌, ℕ, [], ◌∷◌, ◌++◌, append_assoc, length, refl, sym, ap, subst, ◌∙◌, arith}
use Rattle.std.proofs.lemmas.List.{append-nil}
use Rattle.el_base.proofs.Throughout.{all-push}
use Rattle.core_rules.specs.declared.Flag.{Flag}
use Rattle.core_rules.specs.Term.{Term}
use Rattle.core_rules.specs.Signature.{Entry, Telescope}
use Rattle.term_pool.specs.Pool.{Pool}
use Rattle.term_pool.specs.Growth.{Extends-length}
use Rattle.kernel_rules.specs.Outcome.{Outcome, Gives, Refuses}
use Rattle.written_rules.specs.Rules.{Values}
use Rattle.data_rules.specs.Refusals.{Refusal}
use Rattle.data_rules.specs.Reading.{Reads}
use Rattle.data_rules.specs.Rules.{inside}
use Rattle.data_elab.specs.declared.error.DataError.{DataError}
use Rattle.data_elab.specs.declared.reader.Reader.{Reader}
use Rattle.data_elab.specs.Answers.{RefusedBy}
use Rattle.data_elab.specs.Reader.{IsReady, Grows, Keeps, Enters, Over, Read, over, context_of, term_of, values_of}
use Rattle.core_rules.specs.Substitution.{shift}
use Rattle.core_terms.proofs.SignatureGrowth.{Stands-extends}
use Rattle.declared_types.proofs.Grown.{entries-weaker}
use Rattle.elab_machine.proofs.Around.{telescope-push}
use Rattle.term_pool.specs.Pool.{StandsFor}
use Rattle.data_elab.specs.Params.{AreEntered, IsEntered}
use Rattle.data_elab.proofs.Kept.{context_kept}
use Rattle.data_elab.proofs.Reading.{refused-weaker}

-- with the entries es before those of r
abbrev pub prefixed : Telescope Term → Outcome Refusal (Telescope Term) → Outcome Refusal (Telescope Term)
prefixed es (Gives fs) = Gives (es ++ fs)
prefixed es (Refuses e) = Refuses e

pub inside-append : (es fs : Telescope Term) (vs : Values) → inside (es ++ fs) vs ≡ inside fs (inside es vs)
inside-append [] fs vs = refl
inside-append (e ∷ es) fs vs = inside-append es fs _

pub Enters-refl : (x : Reader) → IsReady x → Enters x x []
Enters-refl x r = record { signature = refl; limits = refl; context = sym (append-nil (context_of x)); ready = r }

pub Enters-trans : {x y z : Reader} (es fs : Telescope Term) → Enters x y es → Enters y z fs → Enters x z (es ++ fs)
Enters-trans {x} {y} {z} es fs h k = record {
  signature = k.signature ∙ h.signature;
  limits = k.limits ∙ h.limits;
  context = k.context ∙ (ap (λ cs. cs ++ fs) h.context ∙ append_assoc (context_of x) es fs);
  ready = k.ready;
}

-- after a call that enters nothing
pub kept_enters : {x y z : Reader} → IsReady x → Grows x y → Keeps x y → (es : Telescope Term) → Enters y z es → Enters x z es
kept_enters r g k es h = record {
  signature = h.signature ∙ k.signature;
  limits = h.limits ∙ k.limits;
  context = h.context ∙ ap (λ cs. cs ++ es) (context_kept r g k);
  ready = h.ready;
}

pub values_entered : {x y : Reader} (es : Telescope Term) → Enters x y es → values_of y ≡ inside es (values_of x)
values_entered {x} es h = ap (λ cs. inside cs []) h.context ∙ inside-append (context_of x) es []

-- the entries so far, which are those of all names before those of the names that are left
pub record AreSoFar (x y : Reader) (left all : Telescope Term) : Type 0 where
  pub entries : Telescope Term
  pub enters : Enters x y entries
  pub whole : entries ++ left ≡ all

pub none-so_far : (x : Reader) (all : Telescope Term) → IsReady x → AreSoFar x x all all
none-so_far x all r = record { entries = []; enters = Enters-refl x r; whole = refl }

pub more-so_far : {x y z : Reader} (es left more all : Telescope Term) → left ≡ es ++ more → AreSoFar x y left all → Enters y z es → AreSoFar x z more all
more-so_far es left more all split s h = record {
  entries = s.entries ++ es;
  enters = Enters-trans s.entries es s.enters h;
  whole = append_assoc s.entries es more ∙ (ap (λ fs. s.entries ++ fs) (sym split) ∙ s.whole);
}

pub all-so_far : {x y : Reader} (left all : Telescope Term) → left ≡ [] → AreSoFar x y left all → Enters x y all
all-so_far {x} {y} left all none s = subst (λ es. Enters x y es) (sym (append-nil s.entries) ∙ (ap (λ fs. s.entries ++ fs) (sym none) ∙ s.whole)) s.enters

-- what is left comes after what was read so far, and together they are the whole
pub record AreRead (x y : Reader) (left all : Reads (Telescope Term)) : Type 0 where
  pub entries : Telescope Term
  pub enters : Enters x y entries
  pub reading : (r : Outcome Refusal (Telescope Term)) → Read (over x) left r → Read (over x) all (prefixed entries r)

pub no-prefix : (o : Over) (m : Reads (Telescope Term)) (r : Outcome Refusal (Telescope Term)) → Read o m r → Read o m (prefixed [] r)
no-prefix o m (Gives es) h = h
no-prefix o m (Refuses e) h = h

pub none-read : (x : Reader) (all : Reads (Telescope Term)) → IsReady x → AreRead x x all all
none-read x all r = record { entries = []; enters = Enters-refl x r; reading = no-prefix (over x) all }

pub prefixed-twice : (es fs : Telescope Term) (r : Outcome Refusal (Telescope Term)) → prefixed es (prefixed fs r) ≡ prefixed (es ++ fs) r
prefixed-twice es fs (Gives gs) = ap Gives (sym (append_assoc es fs gs))
prefixed-twice es fs (Refuses e) = refl

pub more-read : {x y z : Reader} (es : Telescope Term) (left more all : Reads (Telescope Term)) → AreRead x y left all → Enters y z es
    → ((r : Outcome Refusal (Telescope Term)) → Read (over x) more r → Read (over x) left (prefixed es r)) → AreRead x z more all
more-read {x} es left more all s h step = record {
  entries = s.entries ++ es;
  enters = Enters-trans s.entries es s.enters h;
  reading = λ r k. subst (λ q. Read (over x) all q) (prefixed-twice s.entries es r) (s.reading (prefixed es r) (step r k));
}

pub read-refused : {x y : Reader} (left all : Reads (Telescope Term)) → AreRead x y left all → (p : Pool) (e : DataError) → RefusedBy p (λ r. Read (over x) left (Refuses r)) e → RefusedBy p (λ r. Read (over x) all (Refuses r)) e
read-refused {x} left all s p e h = refused-weaker p (λ r. Read (over x) left (Refuses r)) (λ r. Read (over x) all (Refuses r)) (λ r k. s.reading (Refuses r) k) e h

pub all-read : {x y : Reader} (left all : Reads (Telescope Term)) → Read (over x) left (Gives []) → AreRead x y left all → AreEntered x y all
all-read {x} left all none s = record { entries = s.entries; enters = s.enters; is = subst (λ es. Read (over x) all (Gives es)) (append-nil s.entries) (s.reading (Gives []) none) }

-- ---- one entry

pub entered : {x y : Reader} (f : Flag) (name a t : ℕ) → IsReady x → Grows x y → y.signature.now ≡ x.signature.now → y.limits ≡ x.limits → a < length x.pool.now.trees
    → y.context.now.items ≡ x.context.now.items ++ record { name = name; flag = f; ty = a } ∷ [] → StandsFor y.pool.now t (shift (term_of x a) 0 1) → IsEntered x y f name a t
entered {x} {y} f name a t r g s m l pushed is =
    let p = x.pool.now in
    let q = y.pool.now in
    let e : Entry ℕ = record { name = name; flag = f; ty = a } in
    let es = x.context.now.items in
    let n = Extends-length g.extends in
    record {
      enters = record {
        signature = s;
        limits = m;
        context = telescope-push p q es y.context.now.items e g.extends r.context l pushed;
        ready = record {
          signature = rw s (Stands-extends p q x.signature.now g.extends r.signature);
          context = rw pushed (all-push (λ (d : Entry ℕ). d.ty < length q.trees) es e (entries-weaker p q es g.extends r.context) (omega (arith, l, n)));
        };
      };
      ty = is;
    }
