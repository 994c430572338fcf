-- When a case tree is typed.
use Rattle.std.specs.Prelude.{◌≡◌, ℕ, ◌+◌, ◌-◌, true, false, List, [], ◌∷◌, ◌++◌, length, map, reverse, slice_get, Some, zero, suc}
use Rattle.core_rules.specs.declared.Flag.{Flag}
use Rattle.core_rules.specs.Term.{Term, Var, Pi, App, Fam, Con, Proj, from_list}
use Rattle.core_rules.specs.Substitution.{shift, under}
use Rattle.core_rules.specs.Signature.{Entry, Telescope, Context, onto, Branch, Tree, Leaf, Intro, Cosplit, Split, RecordSplit, Absurd, CoBranches, NoField, OnField, ConBranches, NoCon, Refuted, Goes, ConDecl, FamDecl, Signature, fam_decl, con_place, numbers, cons_of, fields_of}
use Rattle.core_rules.specs.Mapped.{entry_map}
use Rattle.core_rules.specs.Elimination.{elims, args, vars_from}
use Rattle.core_rules.specs.Conversion.{Conv}
use Rattle.core_rules.specs.Typing.{Typing, entry}
use Rattle.core_rules.specs.Unification.{Equation, eq, Solution, Solves, Refutes, Realises}

-- n variables from k on, innermost first
abbrev pub vars : ℕ → ℕ → List Term
vars k n = map Var (numbers k n)

-- where m new variables stand in the place of variable k of n: an environment for the n variables, in which u, over the new ones and
-- those after them, stands for variable k
abbrev pub into : ℕ → ℕ → ℕ → Term → List Term
into k n m u = vars 0 k ++ shift u 0 k ∷ vars (k + m) (n - (k + 1))

-- entries at an environment for what they stand under, when i of them stand before
abbrev pub entries_under : List Term → ℕ → Telescope Term → Telescope Term
entries_under r i [] = []
entries_under r i (e ∷ es) = entry_map (under (vars 0 i ++ map (λ t. shift t 0 i) r)) e ∷ entries_under r (suc i) es

-- constructor k at the parameters ps, which m new variables stand after, with these as its arguments
abbrev pub new_con : ℕ → List Term → Telescope Term → Term
new_con k ps es = elims (Con k (from_list (map (λ t. shift t 0 (length es)) ps))) (args es (vars_from 0 (length es)))

-- the entries before variable k and, for it, those of the telescope; then those after it, with u for the variable
abbrev pub opened : ℕ → Term → Telescope Term → Context Term → Context Term
opened k u es [] = []
opened zero u es (e ∷ c) = onto es c
opened (suc k) u es (e ∷ c) = entry_map (under (into k (length c) (length es) u)) e ∷ opened k u es c

-- variable k of the context is of family d at parameters and indices
pub record IsAt (g : Signature Term) (c : Context Term) (k d : ℕ) : Type 0 where
  pub entry : Entry Term
  pub decl : FamDecl Term
  pub params : List Term
  pub indices : List Term
  pub stands : slice_get c k ≡ Some entry
  pub is_decl : fam_decl g d ≡ Some decl
  pub as_many : length params ≡ length decl.params
  pub as_many_indices : length indices ≡ length decl.indices
  pub is : Conv g entry.ty (elims (Fam d) (args decl.params params ++ args decl.indices indices))

-- a split: its context, its variable with the parameters and indices of the variable's type, the type, and the left side so far
pub record Splitting : Type 0 where
  pub context : Context Term
  pub var : ℕ
  pub params : List Term
  pub indices : List Term
  pub ty : Term
  pub left : Term

-- the arguments of a constructor, or the fields of a record, at the parameters
abbrev pub new_entries : Splitting → Telescope Term → Telescope Term
new_entries s es = entries_under (reverse s.params) 0 es

abbrev pub con_context : Splitting → ℕ → Telescope Term → Context Term
con_context s k es = opened s.var (new_con k s.params es) (new_entries s es) s.context

-- a term of the split's context in that of constructor k
abbrev pub with_con : Splitting → ℕ → Telescope Term → Term → Term
with_con s k es t = under (into s.var (length s.context) (length es) (new_con k s.params es)) t

abbrev pub equations : List Term → List Term → List Equation
equations [] us = []
equations (t ∷ ts) [] = []
equations (t ∷ ts) (u ∷ us) = eq t u ∷ equations ts us

-- the indices of the constructor (left) and of the variable's type (right), in the context of the constructor
abbrev pub index_equations : Splitting → ConDecl Term → List Equation
index_equations s c =
    let m = length c.args in
    equations (map (λ t. shift (under (vars 0 m ++ map (λ p. shift p 0 m) (reverse s.params)) t) 0 s.var) c.indices) (map (λ t. shift t 0 (s.var + m)) s.indices)

abbrev pub splitting : {g : Signature Term} {c : Context Term} {k d : ℕ} → IsAt g c k d → Term → Term → Splitting
splitting {g} {c} {k} {d} is a l = record { context = c; var = k; params = is.params; indices = is.indices; ty = a; left = l }

-- a data type, or a record without eta that is not coinductive
pub record CanSplit (d : FamDecl Term) : Type 0 where
  pub no_eta : d.eta ≡ false
  pub inductive : d.coinductive ≡ false

mutual
  -- TypedTree g c T a l: in context c the tree T gives terms of type a, where l is the left side so far
  pub data TypedTree (g : Signature Term) : Context Term → Tree Term → Term → Term → Type 0 where
    leaf : {c : Context Term} {t a l : Term} {n : ℕ} → Typing g c t a → TypedTree g c (Leaf t n) a l
    intro : {c : Context Term} {T : Tree Term} {a s t l : Term} {b : Flag} {x : ℕ} → Conv g a (Pi b x s t) → TypedTree g (entry b x s ∷ c) T t (App b (shift l 0 1) (Var 0)) → TypedTree g c (Intro T) a l
    cosplit : {c : Context Term} {bs : CoBranches Term} {a l : Term} {decl : FamDecl Term} (d : ℕ) (ps : List Term) → fam_decl g d ≡ Some decl → decl.is_record ≡ true → length ps ≡ length decl.params
        → Conv g a (elims (Fam d) (args decl.params ps)) → TypedFields g c l (reverse ps) (fields_of g d) decl.fields bs → TypedTree g c (Cosplit bs) a l
    split : {c : Context Term} {bs : ConBranches Term} {a l : Term} {k d : ℕ} (is : IsAt g c k d) → CanSplit is.decl
        → TypedBranches g (splitting is a l) (cons_of g d) is.decl.cons bs → TypedTree g c (Split k bs) a l
    record_split : {c : Context Term} {T : Tree Term} {a l : Term} {k d : ℕ} (n : ℕ) (is : IsAt g c k d) → is.decl.eta ≡ true → con_place g n ≡ Some (d, 0)
        → TypedTree g (con_context (splitting is a l) n is.decl.fields) T (with_con (splitting is a l) n is.decl.fields a) (with_con (splitting is a l) n is.decl.fields l) → TypedTree g c (RecordSplit k d T) a l
    absurd_split : {c : Context Term} {a l : Term} {k d : ℕ} (is : IsAt g c k d) → CanSplit is.decl → AllRefuted g (splitting is a l) (cons_of g d) is.decl.cons → TypedTree g c (Absurd k) a l

  -- a branch for each field in order, where r has the parameters and the fields before it, innermost first
  pub data TypedFields (g : Signature Term) : Context Term → Term → List Term → List ℕ → Telescope Term → CoBranches Term → Type 0 where
    no_field : {c : Context Term} {l : Term} {r : List Term} → TypedFields g c l r [] [] NoField
    on_field : {c : Context Term} {l : Term} {r : List Term} {f : ℕ} {fs : List ℕ} {e : Entry Term} {es : Telescope Term} {T : Tree Term} {bs : CoBranches Term}
        → TypedTree g c T (under r e.ty) (Proj f l) → TypedFields g c l (Proj f l ∷ r) fs es bs → TypedFields g c l r (f ∷ fs) (e ∷ es) (OnField f T bs)

  -- a branch for each constructor in order
  pub data TypedBranches (g : Signature Term) : Splitting → List ℕ → List (ConDecl Term) → ConBranches Term → Type 0 where
    no_con : {s : Splitting} → TypedBranches g s [] [] NoCon
    refuted : {s : Splitting} {k : ℕ} {ks : List ℕ} {con : ConDecl Term} {cons : List (ConDecl Term)} {bs : ConBranches Term}
        → Refutes g (con_context s k con.args) (index_equations s con) → TypedBranches g s ks cons bs → TypedBranches g s (k ∷ ks) (con ∷ cons) (Refuted k bs)
    goes : {s : Splitting} {k : ℕ} {ks : List ℕ} {con : ConDecl Term} {cons : List (ConDecl Term)} {b : Branch Term} {T : Tree Term} {bs : ConBranches Term} {ss : List Solution}
        → Solves g (con_context s k con.args) (index_equations s con) ss → Realises g (con_context s k con.args) ss (onto b.context []) b.values b.keep
        → TypedTree g (onto b.context []) T (under b.values (with_con s k con.args s.ty)) (under b.values (with_con s k con.args s.left))
        → TypedBranches g s ks cons bs → TypedBranches g s (k ∷ ks) (con ∷ cons) (Goes k b T bs)

  -- each constructor is refuted
  pub data AllRefuted (g : Signature Term) : Splitting → List ℕ → List (ConDecl Term) → Type 0 where
    none_left : {s : Splitting} → AllRefuted g s [] []
    one_refuted : {s : Splitting} {k : ℕ} {ks : List ℕ} {con : ConDecl Term} {cons : List (ConDecl Term)}
        → Refutes g (con_context s k con.args) (index_equations s con) → AllRefuted g s ks cons → AllRefuted g s (k ∷ ks) (con ∷ cons)
