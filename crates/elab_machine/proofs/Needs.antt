-- One argument with a term, by the need of its type.
use Rattle.std.proofs.Common.{◌≡◌, ℕ, Bool, true, false, refl, sym, ap, subst, ◌∙◌, arith}
use Rattle.std.specs.Prelude.{List, [], ◌∷◌, map, take, eqb, cond, Option, Some, None, Result, Ok, Err}
use Rattle.core_rules.specs.declared.Flag.{Flag}
use Rattle.core_rules.specs.declared.Flag.TheVariants as flag
use Rattle.core_rules.specs.Term.{Term, Var, Sort, Pi, Lam, App, Def, Fam, Con, Proj, Meta}
use Rattle.core_rules.specs.Signature.{Signature}
use Rattle.core_rules.specs.Heads.{Answer, Form, Blocked, Bounded, Within, Out, HeadOf}
use Rattle.core_rules.specs.BoundedLaws.{no_solutions}
use Rattle.core_rules.specs.Heads as H
use Rattle.written_rules.specs.Asking.{◌>>=◌, gives}
use Rattle.term_pool.specs.Pool.{Pool, tree}
use Rattle.kernel_rules.specs.Outcome.{Outcome, Refuses}
use Rattle.el_outside.specs.declared.place.Pos.{Pos}
use Rattle.need_rules.specs.Needs.{Need, Explicit, Given, Insert, Project, End, NotAFunction, NotARecord, NoSuchName, Waits, NeedOf, need, need_within}
use Rattle.implicit_insert.specs.declared.need.Need as R
use Rattle.implicit_insert.specs.declared.need.Need.TheVariants as V
use Rattle.implicit_insert.specs.Answers.{Answers, Blank}
use Rattle.written_rules.specs.Refusals.{Refusal, at, OutOfFuel}
use Rattle.written_rules.specs.Rules.{Values, Checks, Found, one_argument, applied}
use Rattle.elab_machine.specs.declared.spine.Way as Y
use Rattle.elab_machine.specs.declared.spine.Way.TheVariants as W
use Rattle.elab_machine.specs.Spine.{way_next, fits, given, one_step, cod_under, AnswersFunction, AnswersFunctionAt, function_by}
use Rattle.elab_machine.specs.declared.spine.Function as G
use Rattle.elab_machine.specs.declared.error.WrittenError.{WrittenError}
use Rattle.core_rules.specs.Substitution.{over as traversed}
use Rattle.term_pool.specs.Placed.{filled, filled_var}
use Rattle.elab_machine.proofs.Filling.{under_none}
use Rattle.elab_machine.specs.Writer.{Over, Read}

-- the same need, of an argument that holds e
abbrev pub holds : {E : Type 0} → E → Need Blank → Need E
holds e (Explicit u a b) = Explicit e a b
holds e (Given u a b) = Given e a b
holds e (Insert a b) = Insert a b
holds e (Project f) = Project f
holds e End = End
holds e (NotAFunction t) = NotAFunction t
holds e (NotARecord t) = NotARecord t
holds e NoSuchName = NoSuchName
holds e (Waits m) = Waits m

module _ {E : Type 0} (g : Signature Term) (e : E) where
  by_name : (a b : Term) (o : Bool) → cond o (Given e a b) (Insert a b) ≡ holds e (cond o (Given tt a b) (Insert a b))
  by_name a b true = refl
  by_name a b false = refl

  -- what an argument holds is handed on
  pub need-holds : (y : Y.Way) (w : Answer) → need g w (way_next y e) ≡ holds e (need g w (way_next y tt))
  need-holds W.Plain (Form (Pi flag.Explicit x a b) []) = refl
  need-holds W.Braces (Form (Pi flag.Explicit x a b) []) = refl
  need-holds (W.Named z) (Form (Pi flag.Explicit x a b) []) = refl
  need-holds W.Plain (Form (Pi flag.Implicit x a b) []) = refl
  need-holds W.Braces (Form (Pi flag.Implicit x a b) []) = refl
  need-holds (W.Named z) (Form (Pi flag.Implicit x a b) []) = by_name a b (eqb z x)
  need-holds W.Plain (Form (Pi flag.Explicit x a b) (d ∷ es)) = refl
  need-holds W.Braces (Form (Pi flag.Explicit x a b) (d ∷ es)) = refl
  need-holds (W.Named z) (Form (Pi flag.Explicit x a b) (d ∷ es)) = refl
  need-holds W.Plain (Form (Pi flag.Implicit x a b) (d ∷ es)) = refl
  need-holds W.Braces (Form (Pi flag.Implicit x a b) (d ∷ es)) = refl
  need-holds (W.Named z) (Form (Pi flag.Implicit x a b) (d ∷ es)) = refl
  need-holds W.Plain (Form (Fam d) es) = refl
  need-holds W.Braces (Form (Fam d) es) = refl
  need-holds (W.Named z) (Form (Fam d) es) = refl
  need-holds W.Plain (Form (Var i) es) = refl
  need-holds W.Braces (Form (Var i) es) = refl
  need-holds (W.Named z) (Form (Var i) es) = refl
  need-holds W.Plain (Form (Sort n) es) = refl
  need-holds W.Braces (Form (Sort n) es) = refl
  need-holds (W.Named z) (Form (Sort n) es) = refl
  need-holds W.Plain (Form (Lam b x a t) es) = refl
  need-holds W.Braces (Form (Lam b x a t) es) = refl
  need-holds (W.Named z) (Form (Lam b x a t) es) = refl
  need-holds W.Plain (Form (App b t u) es) = refl
  need-holds W.Braces (Form (App b t u) es) = refl
  need-holds (W.Named z) (Form (App b t u) es) = refl
  need-holds W.Plain (Form (Def f) es) = refl
  need-holds W.Braces (Form (Def f) es) = refl
  need-holds (W.Named z) (Form (Def f) es) = refl
  need-holds W.Plain (Form (Con k ps) es) = refl
  need-holds W.Braces (Form (Con k ps) es) = refl
  need-holds (W.Named z) (Form (Con k ps) es) = refl
  need-holds W.Plain (Form (Proj f t) es) = refl
  need-holds W.Braces (Form (Proj f t) es) = refl
  need-holds (W.Named z) (Form (Proj f t) es) = refl
  need-holds W.Plain (Form (Meta m ts) es) = refl
  need-holds W.Braces (Form (Meta m ts) es) = refl
  need-holds (W.Named z) (Form (Meta m ts) es) = refl
  need-holds W.Plain (Blocked m h es) = refl
  need-holds W.Braces (Blocked m h es) = refl
  need-holds (W.Named z) (Blocked m h es) = refl

-- the step by a need that is known
module _ (o : Over) (p q x : Pos) (y : Y.Way) (a : Term) where
  abbrev pub IsNext : Option (Need Blank) → Type 0
  IsNext d = NeedOf o.signature no_solutions a (Some (way_next y tt)) o.fuel d

  module _ (t : Term) (vs : Values) (e : Checks) where
    abbrev this : Found
    this = record { term = t; ty = a }

    by_head : (b : Bounded) → HeadOf o.signature no_solutions a o.fuel b → (d : Need Blank) → Some d ≡ need_within o.signature (Some (way_next y tt)) b → (r : Outcome Refusal Found)
        → Read o (one_argument o.signature p q vs this (given x y e) (holds e d)) r → Read o (one_step o.signature p q vs this (given x y e)) r
    by_head (Within w k) h d n r i =
        let same : d ≡ need o.signature w (way_next y tt) = cc n in
        (Within w k, h, subst (λ (c : Need Checks). Read o (one_argument o.signature p q vs this (given x y e) c) r) (ap (holds e) same ∙ sym (need-holds o.signature e y w)) i)
    by_head Out h d n r i = absurd cc

    pub step-by : (d : Need Blank) → IsNext (Some d) → (r : Outcome Refusal Found) → Read o (one_argument o.signature p q vs this (given x y e) (holds e d)) r → Read o (one_step o.signature p q vs this (given x y e)) r
    step-by d n r i = by_head n.head n.is d n.need r i

    out_by : (b : Bounded) → HeadOf o.signature no_solutions a o.fuel b → ◌≡◌ {A = Option (Need Blank)} None (need_within o.signature (Some (way_next y tt)) b) → Read o (one_step o.signature p q vs this (given x y e)) (Refuses (at p OutOfFuel))
    out_by (Within w k) h n = absurd cc
    out_by Out h n = (Out, h, refl)

    pub step-out : IsNext None → Read o (one_step o.signature p q vs this (given x y e)) (Refuses (at p OutOfFuel))
    step-out n = out_by n.head n.is n.need

  -- the answer of the table of needs
  pub function-by : (new : Pool) (r : R.Need) → Answers (λ d. IsNext (Some d)) (IsNext None) new r → AnswersFunctionAt o p q x y new a (function_by p q x r)
  function-by new (V.Explicit s u) h = record {
    dom = h.dom_id.within;
    cod = h.cod_id.within;
    under = refl;
    reading = λ t vs e r i. step-by t vs e (Explicit tt h.dom h.cod) h.is r (rw (sym h.dom_id.is, sym h.cod_id.is) i);
  }
  function-by new (V.Given s u) h = record {
    dom = h.dom_id.within;
    cod = h.cod_id.within;
    under = refl;
    reading = λ t vs e r i. step-by t vs e (Given tt h.dom h.cod) h.is r (rw (sym h.dom_id.is, sym h.cod_id.is) i);
  }
  function-by new (V.Insert s u) h = λ t vs e. (tt, step-by t vs e (Insert h.dom h.cod) h.is _ refl)
  function-by new (V.NotAFunction s) h = λ t vs e. (h.id.within, step-by t vs e (NotAFunction h.ty) h.is _ (rw h.id.is refl))
  function-by new (V.NotARecord s) h = λ t vs e. (h.id.within, step-by t vs e (NotARecord h.ty) h.is _ (rw h.id.is refl))
  function-by new V.NoSuchName h = λ t vs e. (tt, step-by t vs e NoSuchName h _ refl)
  function-by new (V.Blocked m) h = λ t vs e. (tt, step-by t vs e (Waits m) h _ refl)
  function-by new V.OutOfFuel h = λ t vs e. (tt, step-out t vs e h)
  function-by new V.End h = λ t vs e. tt
  function-by new (V.Project d ids) h = λ t vs e. tt
  function-by new V.NoMemory h = λ t vs e. tt

-- a function type needs no head form
module _ (o : Over) (p q x : Pos) (n : ℕ) (s u t : Term) (vs : Values) (e : Checks) (r : Outcome Refusal Found) where
  abbrev function : Flag → Found
  function b = record { term = t; ty = Pi b n s u }

  pub fits-step : (y : Y.Way) (b : Flag) → fits y b n ≡ true → Read o (e vs s >>= (λ v. gives (applied b (function b) v u))) r → Read o (one_step o.signature p q vs (function b) (given x y e)) r
  fits-step W.Plain flag.Explicit f h = (Within (Form (Pi flag.Explicit n s u) []) 0, (H.form tt, omega arith), h)
  fits-step W.Braces flag.Implicit f h = (Within (Form (Pi flag.Implicit n s u) []) 0, (H.form tt, omega arith), h)
  fits-step (W.Named z) flag.Implicit f h =
      (Within (Form (Pi flag.Implicit n s u) []) 0, (H.form tt, omega arith), subst (λ (c : Bool). Read o (one_argument o.signature p q vs (function flag.Implicit) (given x (W.Named z) e) (cond c (Given e s u) (Insert s u))) r) (sym f) h)
  fits-step W.Plain flag.Implicit f h = absurd cc
  fits-step W.Braces flag.Explicit f h = absurd cc
  fits-step (W.Named z) flag.Explicit f h = absurd cc

-- the function type that a type under arguments is, put together
pub whole_as : (o : Over) (p q x : Pos) (y : Y.Way) (old new : Pool) (ts : List ℕ) (a : ℕ) (r : Result G.Function WrittenError) → AnswersFunctionAt o p q x y new (filled (map (tree old) ts) (tree old a)) r → AnswersFunction o p q x y old new ts a r
whole_as o p q x y old new ts a (Err d) h = h
whole_as o p q x y old new ts a (Ok w) h =
    let none : cod_under new ts w ≡ tree new w.cod = ap (λ (n : ℕ). traversed (filled_var (map (tree new) (take n ts))) 1 (tree new w.cod)) h.under ∙ under_none (tree new w.cod) in
    let T : Term = filled (map (tree old) ts) (tree old a) in
    record {
      dom = h.dom;
      cod = h.cod;
      under = let u = h.under in omega (arith, u);
      reading = λ t vs e r i. h.reading t vs e r (subst (λ (k : Term). Read o (e vs (tree new w.dom) >>= (λ u. gives (applied w.flag (record { term = t; ty = T }) u k))) r) none i);
    }
