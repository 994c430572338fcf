-- The left sides of a function that are reached step by step, by the head forms of their types, and when the constructors that are put in
-- them fit.
use Rattle.std.specs.Prelude.{◌≡◌, ℕ, false, List, [], ◌∷◌, ◌++◌, length, map, slice_get, Some}
use Rattle.core_rules.specs.declared.Flag.{Flag}
use Rattle.core_rules.specs.Term.{Term, Var, Pi, App, Def, Fam, Proj}
use Rattle.core_rules.specs.Substitution.{shift, under}
use Rattle.core_rules.specs.Signature.{Entry, Telescope, Context, onto, Branch, ConDecl, Signature, con_place}
use Rattle.core_rules.specs.Elimination.{Elim, args}
use Rattle.core_rules.specs.Typing.{Typing, Fits, entry, IsField, field_env}
use Rattle.core_rules.specs.Heads.{Form, Heads}
use Rattle.core_rules.specs.BoundedLaws.{no_solutions}
use Rattle.core_rules.specs.Unification.{Solution}
use Rattle.core_rules.specs.UnifierAnswers.{UnifiedBy, Answers}
use Rattle.core_rules.specs.TypedTree.{IsAt, splitting, con_context, with_con, new_con, into, index_equations}

-- entries without their names
abbrev pub nameless_entries : Telescope Term → Telescope Term
nameless_entries es = map (λ (e : Entry Term). record e { name = 0 }) es

module _ (g : Signature Term) (u : Answers) where
  -- the head form of a is h under es
  pub record HasForm (a h : Term) (es : List Elim) : Type 0 where
    pub steps : ℕ
    pub heads : Heads g no_solutions a [] (Form h es) steps

  -- a constructor is put for a variable of the context c, where t of type b is the left side: it is one of the family that the head form of
  -- the variable's type is, which is no coinductive record, and the answer on its index equations is a branch. Its arguments may have other
  -- names there
  pub record ConPut (c : Context Term) (t b : Term) : Type 0 where
    pub var : ℕ
    pub fam : ℕ
    pub is : IsAt g c var fam
    pub shows : HasForm is.entry.ty (Fam fam) (args is.decl.params is.params ++ args is.decl.indices is.indices)
    pub inductive : is.decl.coinductive ≡ false
    pub con_id : ℕ
    pub number : ℕ
    pub con : ConDecl Term
    pub place : con_place g con_id ≡ Some (fam, number)
    pub is_con : slice_get is.decl.cons number ≡ Some con
    pub entries : Telescope Term
    pub same : nameless_entries entries ≡ nameless_entries con.args
    pub solutions : List Solution
    pub branch : Branch Term
    pub solved : UnifiedBy solutions branch ≡ u (con_context (splitting is b t) con_id entries) (index_equations (splitting is b t) con)

  abbrev pub put_context : {c : Context Term} {t b : Term} → ConPut c t b → Context Term
  put_context p = onto p.branch.context []

  -- a term of the split's context in the branch
  abbrev pub put_term : {c : Context Term} {t b : Term} → ConPut c t b → Term → Term
  put_term {c} {t} {b} p v = under p.branch.values (with_con (splitting p.is b t) p.con_id p.con.args v)

  -- what the variables of the split's context are in the branch, innermost first
  abbrev pub put_values : {c : Context Term} {t b : Term} → ConPut c t b → List Term
  put_values {c} p = map (under p.branch.values) (into p.var (length c) (length p.con.args) (new_con p.con_id p.is.params p.con.args))

  module _ (f : ℕ) (a : Term) where
    -- Reached c t b: the left side t of f, of type b in the context c, is reached, where f has the type a
    pub data Reached : Context Term → Term → Term → Type 0 where
      start : Reached [] (Def f) a
      argument : {c : Context Term} {t b : Term} (o : Flag) (x y : ℕ) (s v : Term) → Reached c t b → HasForm b (Pi o x s v) [] → Reached (entry o y s ∷ c) (App o (shift t 0 1) (Var 0)) v
      projection : {c : Context Term} {t b : Term} (h : ℕ) (is : IsField g h) (ps : List Term) → Reached c t b → length ps ≡ length is.decl.params → HasForm b (Fam is.fam) (args is.decl.params ps)
          → Reached c (Proj h t) (under (field_env g h is ps t) is.entry.ty)
      constructor : {c : Context Term} {t b : Term} → Reached c t b → (p : ConPut c t b) → Reached (put_context p) (put_term p t) (put_term p b)

    -- where a constructor is put in a left side that is reached and has its type, what the variables become fits their context
    abbrev pub ConstructorsFit : Type 0
    ConstructorsFit = (c : Context Term) (t b : Term) → Reached c t b → Typing g c t b → (p : ConPut c t b) → Fits g (put_context p) (put_values p) c
