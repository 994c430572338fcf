-- Bounded conversion: the verdict on two terms by their head forms, to a depth.
use Rattle.std.specs.Prelude.{◌≡◌, ◌≢◌, ℕ, ◌⊎◌, Bool, true, false, ◌&&◌, eqb, cond, List, [], ◌∷◌, ◌++◌, Option, Some, None, option_map, option_and_then, zero, suc}
use Rattle.core_rules.specs.declared.Flag.{Flag}
use Rattle.core_rules.specs.declared.Flag.TheVariants.{Explicit, Implicit}
use Rattle.core_rules.specs.Term.{Term, Var, Sort, Pi, Lam, App, Def, Fam, Con, IsSameTerm}
use Rattle.core_rules.specs.Substitution.{shift, replace, instantiate}
use Rattle.core_rules.specs.Signature.{Telescope, Signature, con_place, con_decl, fam_decl}
use Rattle.core_rules.specs.Elimination.{Elim, Arg, Field, elims, projections}
use Rattle.core_rules.specs.InScope.{IsAcyclic}
use Rattle.core_rules.specs.Heads.{Solutions, Form, Blocked, Bounded, Within, Out, HeadOf}

-- No carries the two head forms that differ, left first, and the names of the binders around them, outermost first
pub data Verdict : Type 0 where
  Yes : Verdict
  No : Term → Term → List ℕ → Verdict
  OutOfFuel : Verdict
  OutOfDepth : Verdict
  WaitsFor : ℕ → Verdict

-- two terms to be compared, under further binders of these names
pub data Part : Type 0 where
  Pair : List ℕ → Term → Term → Part

-- what two head forms ask for
pub data Decision : Type 0 where
  Now : Verdict → Decision
  Parts : List Part → Decision

abbrev pub same_flag : Flag → Flag → Bool
same_flag Explicit Explicit = true
same_flag Implicit Implicit = true
same_flag _ _ = false

abbrev pub with_part : Part → Option (List Part) → Option (List Part)
with_part p o = option_map (λ ps. p ∷ ps) o

-- arguments in order, where they are of equal number and flags and no projection is among them
abbrev pub argument_parts : List Elim → List Elim → Option (List Part)
argument_parts [] [] = Some []
argument_parts (Arg b u ∷ es) (Arg c v ∷ ds) = cond (same_flag b c) (with_part (Pair [] u v) (argument_parts es ds)) None
argument_parts _ _ = None

-- terms in order, where they are of equal number
abbrev pub term_parts : List Term → List Term → Option (List Part)
term_parts [] [] = Some []
term_parts (u ∷ us) (v ∷ vs) = with_part (Pair [] u v) (term_parts us vs)
term_parts _ _ = None

-- a projection with the eliminations before it and after it
pub record Cut : Type 0 where
  pub before : List Elim
  pub field : ℕ
  pub after : List Elim

abbrev pub cut_more : Elim → List Elim → Option Cut → Option Cut
cut_more e es (Some c) = Some (record { before = e ∷ c.before; field = c.field; after = c.after })
cut_more (Field f) es None = Some (record { before = []; field = f; after = es })
cut_more (Arg b u) es None = None

-- the last projection of es
abbrev pub last_field : List Elim → Option Cut
last_field [] = None
last_field (e ∷ es) = cut_more e es (last_field es)

pub record Lambda : Type 0 where
  pub flag : Flag
  pub name : ℕ
  pub body : Term

-- the lambda that a form is
abbrev pub lambda : Term → List Elim → Option Lambda
lambda (Lam b x a t) [] = Some (record { flag = b; name = x; body = t })
lambda _ _ = None

-- a form applied to a new variable
abbrev pub applied : Flag → Term → List Elim → Term
applied b h es = App b (shift (elims h es) 0 1) (Var 0)

-- the arguments of es, where they are as many as the entries and no projection is among them
abbrev pub fitting : Telescope Term → List Elim → Option (List Term)
fitting [] [] = Some []
fitting (e ∷ c) (Arg b u ∷ es) = option_map (λ us. u ∷ us) (fitting c es)
fitting _ _ = None

-- the fields of a value of a record that has eta
pub record RecordValue : Type 0 where
  pub fam : ℕ
  pub values : List Term

-- constructor k under es as a value of a record that has eta, with all its fields
abbrev pub record_value : Signature Term → ℕ → List Elim → Option RecordValue
record_value g k es =
    option_and_then (λ p. option_and_then (λ d. option_and_then (λ c.
    cond (d.eta && eqb p.1 0) (option_map (λ us. record { fam = p.0; values = us }) (fitting c.args es)) None)
    (con_decl g k)) (fam_decl g p.0)) (con_place g k)

-- a form as eta for records sees it: such a value, another constructor, or no constructor
pub data Kind : Type 0 where
  Value : RecordValue → Kind
  Constructor : Kind
  Neither : Kind

abbrev pub con_kind : Option RecordValue → Kind
con_kind None = Constructor
con_kind (Some v) = Value v

abbrev pub kind : Signature Term → Term → List Elim → Kind
kind g (Con k ps) es = con_kind (record_value g k es)
kind g _ es = Neither

abbrev pub parts_or : Decision → Option (List Part) → Decision
parts_or q None = q
parts_or q (Some ps) = Parts ps

-- the parts, where the ids are one
abbrev pub if_one : ℕ → ℕ → Decision → Option (List Part) → Decision
if_one i j q o = cond (eqb i j) (parts_or q o) q

-- two forms with arguments alone; q is the decision that they differ
abbrev pub same_heads : Decision → Term → List Elim → Term → List Elim → Decision
same_heads q (Var i) es (Var j) ds = if_one i j q (argument_parts es ds)
same_heads q (Def i) es (Def j) ds = if_one i j q (argument_parts es ds)
same_heads q (Fam i) es (Fam j) ds = if_one i j q (argument_parts es ds)
same_heads q (Con i ps) es (Con j qs) ds = if_one i j q (argument_parts es ds)
same_heads q (Sort i) [] (Sort j) [] = if_one i j q (Some [])
same_heads q (Pi b x a t) [] (Pi c y a' t') [] = cond (same_flag b c) (Parts (Pair [] a a' ∷ Pair (x ∷ []) t t' ∷ [])) q
same_heads q _ _ _ _ = q

-- two forms by their last projections, which stand at the head
abbrev pub by_field : Decision → Term → List Elim → Term → List Elim → Option Cut → Option Cut → Decision
by_field q h es h' ds None None = same_heads q h es h' ds
by_field q h es h' ds (Some c) (Some c') = if_one c.field c'.field q (with_part (Pair [] (elims h c.before) (elims h' c'.before)) (argument_parts c.after c'.after))
by_field q h es h' ds _ _ = q

-- two forms that are no lambdas
abbrev pub by_kind : Signature Term → Decision → Term → List Elim → Term → List Elim → Kind → Kind → Decision
by_kind g q h es h' ds (Value v) Neither = parts_or q (term_parts v.values (projections g v.fam (elims h' ds)))
by_kind g q h es h' ds Neither (Value v) = parts_or q (term_parts (projections g v.fam (elims h es)) v.values)
by_kind g q h es h' ds _ _ = by_field q h es h' ds (last_field es) (last_field ds)

-- two forms with the lambdas that they are
abbrev pub by_lambda : Signature Term → Decision → Term → List Elim → Term → List Elim → Option Lambda → Option Lambda → Decision
by_lambda g q h es h' ds (Some l) (Some k) = cond (same_flag l.flag k.flag) (Parts (Pair (l.name ∷ []) l.body k.body ∷ [])) q
by_lambda g q h es h' ds (Some l) None = Parts (Pair (l.name ∷ []) l.body (applied l.flag h' ds) ∷ [])
by_lambda g q h es h' ds None (Some k) = Parts (Pair (k.name ∷ []) (applied k.flag h es) k.body ∷ [])
by_lambda g q h es h' ds None None = by_kind g q h es h' ds (kind g h es) (kind g h' ds)

-- two bounded head forms: out of fuel first, then blocked left and right, then their parts, which are none at a difference
abbrev pub decide : Signature Term → Bounded → Bounded → Decision
decide g Out c = Now OutOfFuel
decide g (Within w n) Out = Now OutOfFuel
decide g (Within (Blocked m h es) n) (Within w k) = Now (WaitsFor m)
decide g (Within (Form h es) n) (Within (Blocked m h' ds) k) = Now (WaitsFor m)
decide g (Within (Form h es) n) (Within (Form h' ds) k) =
    by_lambda g (Now (No (elims h es) (elims h' ds) [])) h es h' ds (lambda h es) (lambda h' ds)

-- a verdict under further binders
abbrev pub below : List ℕ → Verdict → Verdict
below xs Yes = Yes
below xs (No t u ys) = No t u (xs ++ ys)
below xs OutOfFuel = OutOfFuel
below xs OutOfDepth = OutOfDepth
below xs (WaitsFor m) = WaitsFor m

-- V gives verdicts: the first part whose verdict is not Yes decides
abbrev pub InOrder : (Term → Term → Verdict → Type 0) → List Part → Verdict → Type 0
InOrder V [] q = q ≡ Yes
InOrder V (Pair xs t u ∷ ps) q = (V t u Yes × InOrder V ps q) ⊎ ((v : Verdict) × V t u v × (v ≢ Yes) × (q ≡ below xs v))

abbrev pub Decided : (Term → Term → Verdict → Type 0) → Decision → Verdict → Type 0
Decided V (Now v) q = q ≡ v
Decided V (Parts ps) q = InOrder V ps q

-- the solutions of s, each with the solutions of the metavariables in it put in, as deep as its rank tells
abbrev pub full : (s : Solutions) → IsAcyclic s → Solutions
full s a m = option_map (instantiate (a.rank m) s) (s m)

-- the solutions are acyclic, and with them put in t and u are the same term
pub record AreSame (s : Solutions) (t u : Term) : Type 0 where
  pub acyclic : IsAcyclic s
  pub same : IsSameTerm (replace (full s acyclic) t) (replace (full s acyclic) u)

-- q is the verdict on t and u by their head forms, where V gives the verdicts of parts
pub record ByHeads (g : Signature Term) (s : Solutions) (fuel : ℕ) (V : Term → Term → Verdict → Type 0) (t u : Term) (q : Verdict) : Type 0 where
  pub left : Bounded
  pub right : Bounded
  pub is_left : HeadOf g s t fuel left
  pub is_right : HeadOf g s u fuel right
  pub decided : Decided V (decide g left right) q

-- q is the verdict on t and u, with this fuel for each head form, to this depth
abbrev pub ConvOf : Signature Term → Solutions → ℕ → ℕ → Term → Term → Verdict → Type 0
ConvOf g s fuel zero t u q = q ≡ OutOfDepth
ConvOf g s fuel (suc depth) t u q = (AreSame s t u × (q ≡ Yes)) ⊎ ((AreSame s t u → ⊥) × ByHeads g s fuel (ConvOf g s fuel depth) t u q)
