-- The kernel's reading of a term in a context: its type, or the first refusal. Parts are read from left to right.
use Rattle.std.specs.Prelude.{◌≡◌, ℕ, ◌+◌, max, ltb, eqb, cond, List, [], ◌∷◌, slice_get, Option, Some, None, option_map}
use Rattle.core_rules.specs.declared.Flag.{Flag}
use Rattle.core_rules.specs.Term.{Term, Terms, Var, Sort, Pi, Lam, App, Def, Fam, Con, Proj, Meta, End, And, env_of}
use Rattle.core_rules.specs.Substitution.{shift, subst, under}
use Rattle.core_rules.specs.Signature.{Entry, Telescope, Context, Signature, FamDecl, def_type, fam_decl}
use Rattle.core_rules.specs.Elimination.{Elim, Arg, elims, fam_type, con_type}
use Rattle.core_rules.specs.Typing.{entry, IsCon, IsField, field_env}
use Rattle.core_rules.specs.Heads.{Form, Blocked, Bounded, Within, Out, HeadOf}
use Rattle.core_rules.specs.Bounded.{Verdict, Yes, No, WaitsFor, same_flag, ConvOf}
use Rattle.core_rules.specs.Bounded as q
use Rattle.core_rules.specs.BoundedLaws.{no_solutions}
use Rattle.kernel_rules.specs.Outcome.{Outcome, Gives, Refuses, Then}
use Rattle.kernel_rules.specs.Refusals.{Refusal, Mismatch, NotAFunction, NotARecord, NotAType, LevelTooLarge, MetaLeft, OutOfFuel, OutOfDepth}

-- ---- what a bounded head form shows, and what a verdict says

-- the head and its eliminations
abbrev pub spine_shown : Bounded → Outcome Refusal (Term × List Elim)
spine_shown (Within (Form h es) n) = Gives (h, es)
spine_shown (Within (Blocked m h es) n) = Refuses (MetaLeft m)
spine_shown Out = Refuses OutOfFuel

-- the two as one term
abbrev pub form_shown : Bounded → Outcome Refusal Term
form_shown (Within (Form h es) n) = Gives (elims h es)
form_shown (Within (Blocked m h es) n) = Refuses (MetaLeft m)
form_shown Out = Refuses OutOfFuel

-- the level of the sort that a head form is
abbrev pub sort_level : Term → Outcome Refusal ℕ
sort_level (Sort n) = Gives n
sort_level t = Refuses (NotAType t)

-- the domain and the codomain of the function type of this flag that a head form is. One of the other flag is none
abbrev pub function_parts : Flag → Term → Outcome Refusal (Term × Term)
function_parts b (Pi c x s t) = cond (same_flag b c) (Gives (s, t)) (Refuses (NotAFunction (Pi c x s t)))
function_parts b t = Refuses (NotAFunction t)

-- the arguments of es, where they are as many as the entries and have their flags
abbrev pub arguments_for : Telescope Term → List Elim → Option (List Term)
arguments_for [] [] = Some []
arguments_for (e ∷ c) (Arg b u ∷ es) = cond (same_flag e.flag b) (option_map (λ us. u ∷ us) (arguments_for c es)) None
arguments_for _ _ = None

abbrev pub some_params : Term → Option (List Term) → Outcome Refusal (List Term)
some_params t None = Refuses (NotARecord t)
some_params t (Some ps) = Gives ps

-- the parameters of record d, where a head form is this record at all its parameters
abbrev pub record_params : ℕ → FamDecl Term → Term → List Elim → Outcome Refusal (List Term)
record_params d decl (Fam k) es = some_params (elims (Fam k) es) (cond (eqb k d) (arguments_for decl.params es) None)
record_params d decl h es = Refuses (NotARecord (elims h es))

-- where the inferred type a was compared with the wanted type b
abbrev pub agreement : Term → Term → Verdict → Outcome Refusal (Unit {0})
agreement a b Yes = Gives tt
agreement a b (No t u xs) = Refuses (Mismatch a b)
agreement a b q.OutOfFuel = Refuses OutOfFuel
agreement a b q.OutOfDepth = Refuses OutOfDepth
agreement a b (WaitsFor m) = Refuses (MetaLeft m)

-- the type of a sort, whose level is at most 1,000,000
abbrev pub sort_of_sort : ℕ → Outcome Refusal Term
sort_of_sort n = cond (ltb 1000000 n) (Refuses LevelTooLarge) (Gives (Sort (n + 1)))

-- over a signature, with this fuel for each head form, and to this depth in each comparison
module _ (g : Signature Term) (fuel depth : ℕ) where
  abbrev pub ShowsForm : Term → Outcome Refusal Term → Type 0
  ShowsForm a r = (b : Bounded) × HeadOf g no_solutions a fuel b × (r ≡ form_shown b)

  abbrev pub ShowsSpine : Term → Outcome Refusal (Term × List Elim) → Type 0
  ShowsSpine a r = (b : Bounded) × HeadOf g no_solutions a fuel b × (r ≡ spine_shown b)

  abbrev pub ShowsSort : Term → Outcome Refusal ℕ → Type 0
  ShowsSort a = Then (ShowsForm a) (λ t r. r ≡ sort_level t)

  abbrev pub ShowsFunction : Flag → Term → Outcome Refusal (Term × Term) → Type 0
  ShowsFunction b a = Then (ShowsForm a) (λ t r. r ≡ function_parts b t)

  abbrev pub ShowsRecord : ℕ → FamDecl Term → Term → Outcome Refusal (List Term) → Type 0
  ShowsRecord d decl a = Then (ShowsSpine a) (λ p r. r ≡ record_params d decl p.0 p.1)

  -- the inferred type a, on the left, agrees with the wanted type b
  abbrev pub Agrees : Term → Term → Outcome Refusal (Unit {0}) → Type 0
  Agrees a b r = (v : Verdict) × ConvOf g no_solutions fuel depth a b v × (r ≡ agreement a b v)

  -- I is the reading of a term by which its type is inferred. The term is a type, and of which level
  abbrev pub IsTypeBy : (Outcome Refusal Term → Type 0) → Outcome Refusal ℕ → Type 0
  IsTypeBy I = Then I ShowsSort

  -- the term has the type b
  abbrev pub ChecksBy : (Outcome Refusal Term → Type 0) → Term → Outcome Refusal (Unit {0}) → Type 0
  ChecksBy I b = Then I (λ a. Agrees a b)

  abbrev mutual
    -- the type of a term in context c, by the ten kinds of term. A variable that c does not have, an id that g does not have, and a
    -- constructor at another number of parameters have no outcome; terms in scope have none of these
    pub InferOf : Context Term → Term → Outcome Refusal Term → Type 0
    InferOf c (Var i) r = (e : Entry Term) × (slice_get c i ≡ Some e) × (r ≡ Gives (shift e.ty 0 (i + 1)))
    InferOf c (Sort n) r = r ≡ sort_of_sort n
    InferOf c (Pi b x s t) r = Then (IsTypeBy (InferOf c s)) (λ m. Then (IsTypeBy (InferOf (entry b x s ∷ c) t)) (λ n q. q ≡ Gives (Sort (max m n)))) r
    InferOf c (Lam b x s t) r = Then (IsTypeBy (InferOf c s)) (λ m. Then (InferOf (entry b x s ∷ c) t) (λ u q. q ≡ Gives (Pi b x s u))) r
    InferOf c (App b t u) r = Then (InferOf c t) (λ a. Then (ShowsFunction b a) (λ p. Then (ChecksBy (InferOf c u) p.0) (λ o q. q ≡ Gives (subst p.1 0 u)))) r
    InferOf c (Def f) r = (a : Term) × (def_type g f ≡ Some a) × (r ≡ Gives a)
    InferOf c (Fam d) r = (decl : FamDecl Term) × (fam_decl g d ≡ Some decl) × (r ≡ Gives (fam_type decl))
    InferOf c (Con k ps) r = (is : IsCon g k) × Then (FitsOf c ps is.decl.params []) (λ o q. q ≡ Gives (under (env_of ps) (con_type is.fam is.decl is.con))) r
    InferOf c (Proj f t) r = (is : IsField g f) × Then (InferOf c t) (λ a. Then (ShowsRecord is.fam is.decl a) (λ ps q. q ≡ Gives (under (field_env g f is ps t) is.entry.ty))) r
    InferOf c (Meta m ts) r = r ≡ Refuses (MetaLeft m)

    -- the terms are as many as the entries and are checked at the entries' types in order, each type under the terms before, innermost first
    pub FitsOf : Context Term → Terms → Telescope Term → List Term → Outcome Refusal (Unit {0}) → Type 0
    FitsOf c End [] e r = r ≡ Gives tt
    FitsOf c End (x ∷ es) e r = ⊥
    FitsOf c (And t ts) [] e r = ⊥
    FitsOf c (And t ts) (x ∷ es) e r = Then (ChecksBy (InferOf c t) (under e x.ty)) (λ o. FitsOf c ts es (t ∷ e)) r

  -- t is a type, and of which level
  abbrev pub IsTypeOf : Context Term → Term → Outcome Refusal ℕ → Type 0
  IsTypeOf c t = IsTypeBy (InferOf c t)

  -- t has the type a
  abbrev pub CheckOf : Context Term → Term → Term → Outcome Refusal (Unit {0}) → Type 0
  CheckOf c t a = ChecksBy (InferOf c t) a
