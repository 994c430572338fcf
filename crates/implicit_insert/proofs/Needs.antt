-- An answer that is a need is one of which the same holds; and the table, place by place, is the whole table.
use Rattle.std.specs.Prelude.{◌≡◌, ℕ, List, [], ◌∷◌, Option, Some, None, option_map, unwrap_or, refl}
use Rattle.std.proofs.Common.{ap, sym, ◌∙◌}
use Rattle.core_rules.specs.declared.Flag.TheVariants as flag
use Rattle.core_rules.specs.Term.{Term, Var, Sort, Pi, Lam, App, Def, Fam, Con, Proj, Meta}
use Rattle.core_rules.specs.Elimination.{Elim, elims}
use Rattle.core_rules.specs.Signature.{Signature}
use Rattle.core_rules.specs.Heads.{Solutions, Answer, Form, Blocked, Within, HeadOf}
use Rattle.term_pool.specs.Pool.{Pool}
use Rattle.need_rules.specs.Needs.{Next, Plain, Braces, Named, Field, Need, OwnField, Explicit, Given, Insert, Project, End, NotAFunction, NotARecord, NoSuchName, Waits, NeedOf, need_of, own_field, project}
use Rattle.implicit_insert.specs.declared.need.Next as C
use Rattle.implicit_insert.specs.declared.need.Need as R
use Rattle.implicit_insert.specs.declared.need.Need.TheVariants as V
use Rattle.implicit_insert.specs.Answers.{Answers, Blank, IsAt, IsNeed, next_in}
use Rattle.implicit_insert.specs.Places.{by_family, by_function, other, takes}

-- what holds of needs holds of answers
pub answers_by : (P Q : Need Blank → Type 0) (O N : Type 0) → ((w : Need Blank) → P w → Q w) → (O → N) → (p : Pool) (r : R.Need) → Answers P O p r → Answers Q N p r
answers_by P Q O N f k p (V.Explicit a b) h = record { dom = h.dom; cod = h.cod; is = f (Explicit tt h.dom h.cod) h.is; dom_id = h.dom_id; cod_id = h.cod_id }
answers_by P Q O N f k p (V.Given a b) h = record { dom = h.dom; cod = h.cod; is = f (Given tt h.dom h.cod) h.is; dom_id = h.dom_id; cod_id = h.cod_id }
answers_by P Q O N f k p (V.Insert a b) h = record { dom = h.dom; cod = h.cod; is = f (Insert h.dom h.cod) h.is; dom_id = h.dom_id; cod_id = h.cod_id }
answers_by P Q O N f k p (V.Project d ids) h = record { field = h.field; is = f (Project h.field) h.is; fam = h.fam; params = h.params; below = h.below }
answers_by P Q O N f k p V.End h = f End h
answers_by P Q O N f k p (V.NotAFunction a) h = record { ty = h.ty; is = f (NotAFunction h.ty) h.is; id = h.id }
answers_by P Q O N f k p (V.NotARecord a) h = record { ty = h.ty; is = f (NotARecord h.ty) h.is; id = h.id }
answers_by P Q O N f k p V.NoSuchName h = f NoSuchName h
answers_by P Q O N f k p (V.Blocked m) h = f (Waits m) h
answers_by P Q O N f k p V.OutOfFuel h = k h
answers_by P Q O N f k p V.NoMemory h = tt

-- ---- the table, place by place

placed_field : (t : Term) (o : Option OwnField) → ◌≡◌ {A = Need Blank} (project t o) (unwrap_or (option_map Project o) (NotARecord t))
placed_field t None = refl
placed_field t (Some f) = refl

placed_family : (g : Signature Term) (d : ℕ) (es : List Elim) (n : Option (Next Blank)) → need_of g (Form (Fam d) es) n ≡ unwrap_or (by_family g d es n) (other (elims (Fam d) es) n)
placed_family g d es None = refl
placed_family g d es (Some (Plain e)) = refl
placed_family g d es (Some (Braces e)) = refl
placed_family g d es (Some (Named x e)) = refl
placed_family g d es (Some (Field k)) = placed_field (elims (Fam d) es) (own_field g d es k)

placed_explicit : (g : Signature Term) (x : ℕ) (a t : Term) (n : Option (Next Blank)) → need_of g (Form (Pi flag.Explicit x a t) []) n ≡ unwrap_or (by_function flag.Explicit x a t n) (other (Pi flag.Explicit x a t) n)
placed_explicit g x a t None = refl
placed_explicit g x a t (Some (Plain e)) = refl
placed_explicit g x a t (Some (Braces e)) = refl
placed_explicit g x a t (Some (Named y e)) = refl
placed_explicit g x a t (Some (Field k)) = refl

placed_implicit : (g : Signature Term) (x : ℕ) (a t : Term) (n : Option (Next Blank)) → need_of g (Form (Pi flag.Implicit x a t) []) n ≡ unwrap_or (by_function flag.Implicit x a t n) (other (Pi flag.Implicit x a t) n)
placed_implicit g x a t None = refl
placed_implicit g x a t (Some (Plain e)) = refl
placed_implicit g x a t (Some (Braces e)) = refl
placed_implicit g x a t (Some (Named y e)) = refl
placed_implicit g x a t (Some (Field k)) = refl

misplaced_form : (g : Signature Term) (h : Term) (es : List Elim) (n : Option (Next Blank)) → (need_of g (Form h es) None ≡ other {E = Blank} (elims h es) None) → ((m : Next Blank) → need_of g (Form h es) (Some m) ≡ other (elims h es) (Some m)) → need_of g (Form h es) n ≡ other (elims h es) n
misplaced_form g h es None a b = a
misplaced_form g h es (Some m) a b = b m

placed : (g : Signature Term) (n : Option (Next Blank)) (h : Term) (es : List Elim) → need_of g (Form h es) n ≡ unwrap_or (takes g n h es) (other (elims h es) n)
placed g n (Pi flag.Explicit x a t) [] = placed_explicit g x a t n
placed g n (Pi flag.Implicit x a t) [] = placed_implicit g x a t n
placed g n (Fam d) es = placed_family g d es n
placed g n (Pi flag.Explicit x a t) (e ∷ es) = misplaced_form g (Pi flag.Explicit x a t) (e ∷ es) n refl (λ m. refl)
placed g n (Pi flag.Implicit x a t) (e ∷ es) = misplaced_form g (Pi flag.Implicit x a t) (e ∷ es) n refl (λ m. refl)
placed g n (Var i) es = misplaced_form g (Var i) es n refl (λ m. refl)
placed g n (Sort i) es = misplaced_form g (Sort i) es n refl (λ m. refl)
placed g n (Lam b x a t) es = misplaced_form g (Lam b x a t) es n refl (λ m. refl)
placed g n (App b t u) es = misplaced_form g (App b t u) es n refl (λ m. refl)
placed g n (Def f) es = misplaced_form g (Def f) es n refl (λ m. refl)
placed g n (Con k ps) es = misplaced_form g (Con k ps) es n refl (λ m. refl)
placed g n (Proj f t) es = misplaced_form g (Proj f t) es n refl (λ m. refl)
placed g n (Meta m ts) es = misplaced_form g (Meta m ts) es n refl (λ m. refl)

-- what takes it is the need
taken_need : (g : Signature Term) (n : Option (Next Blank)) (h : Term) (es : List Elim) (w : Need Blank) → takes g n h es ≡ Some w → w ≡ need_of g (Form h es) n
taken_need g n h es w e = sym (placed g n h es ∙ ap (λ o. unwrap_or o (other (elims h es) n)) e)

pub taken_is : (g : Signature Term) (n : Option (Next Blank)) (h : Term) (es : List Elim) (p : Pool) (r : R.Need) → Answers (λ w. takes g n h es ≡ Some w) ⊥ p r → IsAt (need_of g (Form h es) n) p r
taken_is g n h es p r x = answers_by (λ w. takes g n h es ≡ Some w) (λ w. w ≡ need_of g (Form h es) n) ⊥ ⊥ (taken_need g n h es) (λ z. z) p r x

-- what nothing takes
pub other_is : (g : Signature Term) (n : Option (Next Blank)) (h : Term) (es : List Elim) → takes g n h es ≡ None → other (elims h es) n ≡ need_of g (Form h es) n
other_is g n h es e = sym (placed g n h es ∙ ap (λ o. unwrap_or o (other (elims h es) n)) e)

-- the need at a head form is that of the type
pub at_head : (q : Pool) (g : Signature Term) (s : Solutions) (t : Term) (next : C.Next) (fuel k : ℕ) (w : Answer) → HeadOf g s t fuel (Within w k)
    → (r : R.Need) → IsAt (need_of g w (next_in next)) q r → IsNeed g s t next fuel q r
at_head q g s t next fuel k w is r x =
    answers_by (λ v. v ≡ need_of g w (next_in next)) (λ v. NeedOf g s t (next_in next) fuel (Some v)) ⊥ (NeedOf {E = Blank} g s t (next_in next) fuel None)
    (λ v e. record { head = Within w k; is = is; need = ap Some e }) (λ z. absurd z) q r x

pub waits : (g : Signature Term) (m : ℕ) (h : Term) (es : List Elim) (n : Option (Next Blank)) → Waits m ≡ need_of g (Blocked m h es) n
waits g m h es None = refl
waits g m h es (Some x) = refl
