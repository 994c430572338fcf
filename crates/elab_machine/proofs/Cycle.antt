-- Names, lambdas and function types, part by part.
use Rattle.std.proofs.Common.{◌≡◌, ℕ, List, length, take, refl, ap, ◌∙◌, arith}
use Rattle.std.specs.Prelude.{Some, None, Result, Ok, Err}
use Rattle.std.proofs.lemmas.List.{take-append-le, take_all}
use Rattle.core_rules.specs.Term.{Term, Sort}
use Rattle.core_rules.specs.Heads.{Answer}
use Rattle.kernel_rules.specs.Outcome.{Outcome, Gives, Refuses}
use Rattle.term_pool.specs.Pool.{Pool, tree}
use Rattle.el_outside.specs.declared.place.Pos.{Pos}
use Rattle.written_rules.specs.Refusals.{Refusal}
use Rattle.written_rules.specs.Asking.{Reads, ◌>>=◌, gives}
use Rattle.written_rules.specs.Rules.{Values, Types, Name, Found, ArgMeaning, wanted, started, start, spine, against, as_type, agrees, name_checked, name_typed, type_checked}
use Rattle.elab_machine.specs.declared.writer.Writer.{Writer}
use Rattle.elab_machine.specs.declared.error.WrittenError.{WrittenError}
use Rattle.elab_machine.specs.declared.binders.Typed as T
use Rattle.elab_machine.specs.Answers.{RefusedBy, AnswersTerm}
use Rattle.elab_machine.specs.Binders.{AnswersTyped}
use Rattle.elab_machine.specs.Writer.{Keeps, Enters, Over, Read}
use Rattle.elab_machine.proofs.Reading.{read-next, refused-first, refused-next, refused-weaker}

-- after the binders that were entered are left, what else expressions are read over is the same
pub kept_left : {x y z s : Writer} → Enters x y → Keeps y z → s.signature.now ≡ z.signature.now → s.limits ≡ z.limits → s.inside ≡ x.inside → (n : ℕ) → n ≡ length x.values.now.items → s.values.now.items ≡ take n z.values.now.items → Keeps x s
kept_left {x} {y} {z} {s} h k a b c n e f = record {
  signature = a ∙ (k.signature ∙ h.signature);
  values = f ∙ (ap (λ (m : ℕ). take m z.values.now.items) e ∙ (ap (take (length x.values.now.items)) (k.values ∙ h.values) ∙ (take-append-le (length x.values.now.items) x.values.now.items h.more (omega arith) ∙ take_all (length x.values.now.items) x.values.now.items (omega arith))));
  inside = c;
  limits = b ∙ (k.limits ∙ h.limits);
}

-- a name at its arguments, at the type b
module _ (o : Over) (p q : Pos) (x : Name) (xs : List ArgMeaning) (vs : Values) (b : Term) (w : Answer) (h : Read o (wanted p b) (Gives w)) where
  abbrev after_start : Found → Reads Term
  after_start s = spine o.signature p q vs xs s >>= against p q b

  abbrev after_wanted : Answer → Reads Term
  after_wanted w = started q (start o.signature vs (Some w) x) >>= after_start

  pub name-no_start : (k : Pool) (e : WrittenError) → RefusedBy k (λ r. Read o (started q (start o.signature vs (Some w) x)) (Refuses r)) e → RefusedBy k (λ r. Read o (name_checked o.signature p q x xs vs b) (Refuses r)) e
  name-no_start k e i = refused-next o (wanted p b) after_wanted w h k e (refused-first o (started q (start o.signature vs (Some w) x)) after_start k e i)

  module _ (s : Found) (j : Read o (started q (start o.signature vs (Some w) x)) (Gives s)) where
    pub name-no_spine : (k : Pool) (e : WrittenError) → RefusedBy k (λ r. Read o (spine o.signature p q vs xs s) (Refuses r)) e → RefusedBy k (λ r. Read o (name_checked o.signature p q x xs vs b) (Refuses r)) e
    name-no_spine k e i =
        refused-next o (wanted p b) after_wanted w h k e (refused-next o (started q (start o.signature vs (Some w) x)) after_start s j k e (refused-first o (spine o.signature p q vs xs s) (against p q b) k e i))

    pub name-against : (t : Found) → Read o (spine o.signature p q vs xs s) (Gives t) → (r : Outcome Refusal Term) → Read o (against p q b t) r → Read o (name_checked o.signature p q x xs vs b) r
    name-against t i r l = read-next o (wanted p b) after_wanted w r h (read-next o (started q (start o.signature vs (Some w) x)) after_start s r j (read-next o (spine o.signature p q vs xs s) (against p q b) t r i l))

-- and as a type
module _ (o : Over) (p q : Pos) (x : Name) (xs : List ArgMeaning) (vs : Values) where
  abbrev after_head : Found → Reads (Term × ℕ)
  after_head s = spine o.signature p q vs xs s >>= as_type p q

  pub type-no_start : (k : Pool) (e : WrittenError) → RefusedBy k (λ r. Read o (started q (start o.signature vs None x)) (Refuses r)) e → RefusedBy k (λ r. Read o (name_typed o.signature p q x xs vs) (Refuses r)) e
  type-no_start k e i = refused-first o (started q (start o.signature vs None x)) after_head k e i

  module _ (s : Found) (j : Read o (started q (start o.signature vs None x)) (Gives s)) where
    pub type-no_spine : (k : Pool) (e : WrittenError) → RefusedBy k (λ r. Read o (spine o.signature p q vs xs s) (Refuses r)) e → RefusedBy k (λ r. Read o (name_typed o.signature p q x xs vs) (Refuses r)) e
    type-no_spine k e i = refused-next o (started q (start o.signature vs None x)) after_head s j k e (refused-first o (spine o.signature p q vs xs s) (as_type p q) k e i)

    pub type-ends : (t : Found) → Read o (spine o.signature p q vs xs s) (Gives t) → (r : Outcome Refusal (Term × ℕ)) → Read o (as_type p q t) r → Read o (name_typed o.signature p q x xs vs) r
    type-ends t i r l = read-next o (started q (start o.signature vs None x)) after_head s r j (read-next o (spine o.signature p q vs xs s) (as_type p q) t r i l)

-- what is a type by its form, at the type b
module _ (o : Over) (p : Pos) (e : Types) (vs : Values) (b : Term) (w : Answer) (h : Read o (wanted p b) (Gives w)) where
  abbrev after_type : Term × ℕ → Reads Term
  after_type t = agrees p (Sort t.1) b >>= (λ (i : Unit {0}). gives t.0)

  pub form-no_type : (k : Pool) (d : WrittenError) → RefusedBy k (λ r. Read o (e vs) (Refuses r)) d → RefusedBy k (λ r. Read o (type_checked p e vs b) (Refuses r)) d
  form-no_type k d i = refused-next o (wanted p b) (λ (w : Answer). e vs >>= after_type) w h k d (refused-first o (e vs) after_type k d i)

  module _ (t : Term × ℕ) (j : Read o (e vs) (Gives t)) where
    pub form-other : (k : Pool) (d : WrittenError) → RefusedBy k (λ r. Read o (agrees p (Sort t.1) b) (Refuses r)) d → RefusedBy k (λ r. Read o (type_checked p e vs b) (Refuses r)) d
    form-other k d i = refused-next o (wanted p b) (λ (w : Answer). e vs >>= after_type) w h k d (refused-next o (e vs) after_type t j k d (refused-first o (agrees p (Sort t.1) b) (λ (i : Unit {0}). gives t.0) k d i))

    pub form-gives : Read o (agrees p (Sort t.1) b) (Gives tt) → Read o (type_checked p e vs b) (Gives t.0)
    form-gives i = read-next o (wanted p b) (λ (w : Answer). e vs >>= after_type) w (Gives t.0) h (read-next o (e vs) after_type t (Gives t.0) j (read-next o (agrees p (Sort t.1) b) (λ (i : Unit {0}). gives t.0) tt (Gives t.0) i refl))

-- the last part decides
module _ (q : Pool) (K L : Outcome Refusal Term → Type 0) (w : (r : Outcome Refusal Term) → K r → L r) where
  pub term-by : (r : Result ℕ WrittenError) → AnswersTerm q K r → AnswersTerm q L r
  term-by (Ok t) h = (h.0, w (Gives (tree q t)) h.1)
  term-by (Err e) h = refused-weaker q (λ r. K (Refuses r)) (λ r. L (Refuses r)) (λ r j. w (Refuses r) j) e h

module _ (q : Pool) (K L : Outcome Refusal (Term × ℕ) → Type 0) (w : (r : Outcome Refusal (Term × ℕ)) → K r → L r) where
  pub type-by : (r : Result T.Typed WrittenError) → AnswersTyped q K r → AnswersTyped q L r
  type-by (Ok t) h = (h.0, w (Gives (tree q t.term, t.level)) h.1)
  type-by (Err e) h = refused-weaker q (λ r. K (Refuses r)) (λ r. L (Refuses r)) (λ r j. w (Refuses r) j) e h
