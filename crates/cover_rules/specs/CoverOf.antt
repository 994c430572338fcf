-- The case tree of clauses, or the first reason why they have none.
use Rattle.std.specs.Prelude.{◌≡◌, ℕ, Bool, true, false, ◌&&◌, cond, List, [], ◌∷◌, ◌++◌, length, map, reverse, take, drop, slice_get, Option, Some, None, option_and_then, option_map, zero, suc}
use Rattle.std.specs.Option.{option_map_or}
use Rattle.core_rules.specs.declared.Flag.{Flag}
use Rattle.core_rules.specs.Term.{Term, Pi, Def, Fam, Proj}
use Rattle.core_rules.specs.Substitution.{under, value_at}
use Rattle.core_rules.specs.Signature.{Entry, Telescope, Context, CheckedLeft, Branch, Tree, Leaf, Intro, Cosplit, Split, RecordSplit, Absurd, CoBranches, NoField, OnField, ConBranches, NoCon, Refuted, Goes, ConDecl, FamDecl, Signature, fam_decl, con_decl, cons_of, fields_of}
use Rattle.core_rules.specs.Elimination.{Elim, elims}
use Rattle.core_rules.specs.Heads.{Solutions, Form, Bounded, Within, Out, HeadOf}
use Rattle.core_rules.specs.Unification.{Solution}
use Rattle.core_rules.specs.TypedTree.{Splitting, con_context, index_equations}
use Rattle.match_rules.specs.Matching.{Shape, Any, OfCon, OfRecord, Nothing, OfField, Shapes, NoShape, AndShape, Clause, Bound, values_from, among}
use Rattle.cover_rules.specs.Flagged.{flagged}
use Rattle.cover_rules.specs.LeftSide.{Node, taken, projected, opened, joined, left_of}
use Rattle.cover_rules.specs.Looking.{Clash, At, RecordAt, NothingAt, Unable, Odd, Spent, Look, Yes, Halts, LooksAll}
use Rattle.core_rules.specs.UnifierAnswers.{Unified, UnifiedBy, NeverUnified, StuckAt, NoFuel, NoDepth, Unifier}

pub data CoverError : Type 0 where
  Missing : CheckedLeft Term → CoverError
  Mixed : CoverError
  CannotSplit : CoverError
  UnifyStuck : Term → Term → CoverError
  OutOfFuel : CoverError
  OutOfDepth : CoverError

pub data Result (A : Type 0) : Type 0 where
  Done : A → Result A
  Failed : CoverError → Result A

abbrev pub result_map : {A B : Type 0} → (A → B) → Result A → Result B
result_map f (Done t) = Done (f t)
result_map f (Failed e) = Failed e

-- What is due

-- what stands next in a clause
pub data Kind : Type 0 where
  Argument : Kind
  Projection : Kind
  End : Kind

abbrev pub kind_of : Shape → Kind
kind_of (Any o) = Argument
kind_of (OfCon k ps) = Argument
kind_of (OfRecord d ps) = Argument
kind_of Nothing = Argument
kind_of (OfField f) = Projection

-- after n eliminations
abbrev pub kind_at : ℕ → Shapes → Kind
kind_at n NoShape = End
kind_at zero (AndShape p ps) = kind_of p
kind_at (suc n) (AndShape p ps) = kind_at n ps

abbrev pub same_kind : Kind → Kind → Bool
same_kind Argument Argument = true
same_kind Projection Projection = true
same_kind End End = true
same_kind _ _ = false

-- each clause that does not clash has this next
abbrev pub all_next : Kind → ℕ → List Clause → List Look → Bool
all_next k n [] ws = true
all_next k n (q ∷ qs) [] = true
all_next k n (q ∷ qs) (Halts Clash ∷ ws) = all_next k n qs ws
all_next k n (q ∷ qs) (w ∷ ws) = same_kind k (kind_at n q.shapes) && all_next k n qs ws

-- what the clauses ask for: the right side of a clause, a further argument or projection, a split, or nothing that can be had
pub data Asked : Type 0 where
  ARight : ℕ → Clause → Bound → Asked
  AnArgument : Asked
  AProjection : Asked
  ASplit : ℕ → Asked
  ARecordSplit : ℕ → Asked
  AnAbsurd : ℕ → Asked
  NoClause : Asked
  NotOneKind : Asked
  NoVariable : Asked
  NoFuelLeft : Asked

abbrev pub by_kind : Kind → Asked
by_kind Argument = AnArgument
by_kind Projection = AProjection
by_kind End = NotOneKind

-- the first clause that does not clash decides; i is its number, after n eliminations
abbrev pub asked_of : ℕ → ℕ → List Clause → List Look → Asked
asked_of i n [] ws = NoClause
asked_of i n (q ∷ qs) [] = NoClause
asked_of i n (q ∷ qs) (Yes σ NoShape ∷ ws) = ARight i q σ
asked_of i n (q ∷ qs) (Yes σ (AndShape p ps) ∷ ws) = cond (all_next (kind_of p) n qs ws) (by_kind (kind_of p)) NotOneKind
asked_of i n (q ∷ qs) (Halts Clash ∷ ws) = asked_of (suc i) n qs ws
asked_of i n (q ∷ qs) (Halts (At k) ∷ ws) = ASplit k
asked_of i n (q ∷ qs) (Halts (RecordAt k) ∷ ws) = ARecordSplit k
asked_of i n (q ∷ qs) (Halts (NothingAt k) ∷ ws) = AnAbsurd k
asked_of i n (q ∷ qs) (Halts Unable ∷ ws) = NoVariable
asked_of i n (q ∷ qs) (Halts Odd ∷ ws) = NotOneKind
asked_of i n (q ∷ qs) (Halts Spent ∷ ws) = NoFuelLeft

abbrev pub asked : ℕ → List Clause → Option (List Look) → Asked
asked n qs None = NoFuelLeft
asked n qs (Some ws) = asked_of 0 n qs ws

-- one look before others; out of fuel counts at once
abbrev pub look_first : Look → Option (List Look) → Option (List Look)
look_first (Halts Spent) o = None
look_first w o = option_map (λ ws. w ∷ ws) o

-- What is done

pub data Plan : Type 0 where
  Fails : CoverError → Plan
  Ends : ℕ → Term → Plan
  Takes : Flag → ℕ → Term → Term → Plan
  Shows : ℕ → FamDecl Term → List Term → Plan
  Splits : ℕ → ℕ → List Term → List Term → Plan
  Opens : ℕ → ℕ → ℕ → FamDecl Term → List Term → Plan
  Rejects : ℕ → ℕ → List Term → List Term → Plan

-- an argument needs a function type
abbrev pub argument_plan : Bounded → Plan
argument_plan Out = Fails OutOfFuel
argument_plan (Within (Form (Pi b x a t) []) n) = Takes b x a t
argument_plan (Within _ n) = Fails CannotSplit

-- a family at arguments, or none
pub data FamHead : Type 0 where
  OnlyFuel : FamHead
  IsFam : ℕ → FamDecl Term → List Elim → FamHead
  NoFam : FamHead

abbrev pub fam_with : ℕ → List Elim → Option (FamDecl Term) → FamHead
fam_with d es None = NoFam
fam_with d es (Some decl) = IsFam d decl es

abbrev pub fam_head : Signature Term → Bounded → FamHead
fam_head g Out = OnlyFuel
fam_head g (Within (Form (Fam d) es) n) = fam_with d es (fam_decl g d)
fam_head g (Within _ n) = NoFam

abbrev pub plan_or : Option Plan → Plan
plan_or None = Fails CannotSplit
plan_or (Some p) = p

-- a projection needs a record type
abbrev pub projection_plan : FamHead → Plan
projection_plan OnlyFuel = Fails OutOfFuel
projection_plan (IsFam d decl es) = cond decl.is_record (plan_or (option_map (λ us. Shows d decl us) (flagged decl.params es))) (Fails CannotSplit)
projection_plan NoFam = Fails CannotSplit

-- a split needs a data type, or a record without eta that is not coinductive
abbrev pub split_plan : (ℕ → List Term → List Term → Plan) → FamHead → Plan
split_plan p OnlyFuel = Fails OutOfFuel
split_plan p (IsFam d decl es) =
    let m = length decl.params in
    cond decl.eta (Fails CannotSplit) (cond decl.coinductive (Fails CannotSplit) (plan_or (option_map (λ us. p d (take m us) (drop m us)) (flagged (decl.params ++ decl.indices) es))))
split_plan p NoFam = Fails CannotSplit

-- a record split needs a record that has eta
abbrev pub record_plan : Signature Term → ℕ → FamHead → Plan
record_plan g k OnlyFuel = Fails OutOfFuel
record_plan g k (IsFam d decl es) = cond decl.eta (plan_or (option_and_then (λ us. option_map (λ c. Opens k d c decl us) (slice_get (cons_of g d) 0)) (flagged decl.params es))) (Fails CannotSplit)
record_plan g k NoFam = Fails CannotSplit

-- the clauses that have a right side and stand at no leaf
abbrev mutual
  pub leaves : Tree Term → List ℕ
  leaves (Leaf t i) = i ∷ []
  leaves (Intro T) = leaves T
  leaves (Cosplit bs) = co_leaves bs
  leaves (Split k bs) = con_leaves bs
  leaves (RecordSplit k d T) = leaves T
  leaves (Absurd k) = []

  pub co_leaves : CoBranches Term → List ℕ
  co_leaves NoField = []
  co_leaves (OnField f T bs) = leaves T ++ co_leaves bs

  pub con_leaves : ConBranches Term → List ℕ
  con_leaves NoCon = []
  con_leaves (Refuted k bs) = con_leaves bs
  con_leaves (Goes k b T bs) = leaves T ++ con_leaves bs

abbrev pub shadowed_from : ℕ → List Clause → List ℕ → List ℕ
shadowed_from i [] js = []
shadowed_from i (q ∷ qs) js = option_map_or (λ t. cond (among i js) [] (i ∷ [])) q.right [] ++ shadowed_from (suc i) qs js

abbrev pub shadowed : List Clause → Tree Term → List ℕ
shadowed qs T = shadowed_from 0 qs (leaves T)

-- the type of variable k, under the entries before it, as its parameters and indices are
abbrev pub entry_type : Context Term → ℕ → Term
entry_type c k = value_at (map (λ e. e.ty) c) k

-- f is the function, qs are its clauses, with this fuel for each head form
module _ (g : Signature Term) (s : Solutions) (fuel : ℕ) (U : Unifier) (f : ℕ) (qs : List Clause) where
  -- all clauses are matched, in order
  pub data Judges : List Clause → List Elim → Option (List Look) → Type 0 where
    none : {ls : List Elim} → Judges [] ls (Some [])
    one : {p : Clause} {ps : List Clause} {ls : List Elim} {w : Look} {o : Option (List Look)} → LooksAll g s fuel p.shapes ls w → Judges ps ls o → Judges (p ∷ ps) ls (look_first w o)

  -- what is done for what is asked
  pub data Planned (n : Node) : Asked → Plan → Type 0 where
    no_fuel : Planned n NoFuelLeft (Fails OutOfFuel)
    no_clause : Planned n NoClause (Fails (Missing (left_of n)))
    not_one_kind : Planned n NotOneKind (Fails Mixed)
    no_variable : Planned n NoVariable (Fails CannotSplit)
    right : {i : ℕ} {q : Clause} {σ : Bound} {t : Term} → q.right ≡ Some t → Planned n (ARight i q σ) (Ends i (under (values_from 0 q.size σ) t))
    argument : (b : Bounded) → HeadOf g s n.ty fuel b → Planned n AnArgument (argument_plan b)
    projection : (b : Bounded) → HeadOf g s n.ty fuel b → Planned n AProjection (projection_plan (fam_head g b))
    split : {k : ℕ} (b : Bounded) → HeadOf g s (entry_type n.context k) fuel b → Planned n (ASplit k) (split_plan (Splits k) (fam_head g b))
    record_split : {k : ℕ} (b : Bounded) → HeadOf g s (entry_type n.context k) fuel b → Planned n (ARecordSplit k) (record_plan g k (fam_head g b))
    absurd_split : {k : ℕ} (b : Bounded) → HeadOf g s (entry_type n.context k) fuel b → Planned n (AnAbsurd k) (split_plan (Rejects k) (fam_head g b))

  abbrev pub splitting_at : Node → ℕ → List Term → List Term → Splitting
  splitting_at n k ps is = record { context = n.context; var = k; params = ps; indices = is; ty = n.ty; left = elims (Def f) n.spine }

  mutual
    pub data CoverOf : Node → Result (Tree Term) → Type 0 where
      cover : {n : Node} {o : Option (List Look)} {p : Plan} {w : Result (Tree Term)} → Judges qs n.spine o → Planned n (asked (length n.spine) qs o) p → Built n p w → CoverOf n w

    pub data Built : Node → Plan → Result (Tree Term) → Type 0 where
      fails : {n : Node} {e : CoverError} → Built n (Fails e) (Failed e)
      ends : {n : Node} {i : ℕ} {t : Term} → Built n (Ends i t) (Done (Leaf t i))
      takes : {n : Node} {b : Flag} {x : ℕ} {a t : Term} {w : Result (Tree Term)} → CoverOf (taken n b x a t) w → Built n (Takes b x a t) (result_map Intro w)
      shows : {n : Node} {d : ℕ} {decl : FamDecl Term} {us : List Term} {w : Result (CoBranches Term)} → Fields n (reverse us) (fields_of g d) decl.fields w → Built n (Shows d decl us) (result_map Cosplit w)
      splits : {n : Node} {k d : ℕ} {ps is : List Term} {w : Result (ConBranches Term)} → Branches n (splitting_at n k ps is) (cons_of g d) w → Built n (Splits k d ps is) (result_map (Split k) w)
      opens : {n : Node} {k d c : ℕ} {decl : FamDecl Term} {ps : List Term} {con : ConDecl Term} {w : Result (Tree Term)} → con_decl g c ≡ Some con
          → CoverOf (opened n (splitting_at n k ps []) c con.args) w → Built n (Opens k d c decl ps) (result_map (RecordSplit k d) w)
      rejects : {n : Node} {k d : ℕ} {ps is : List Term} {w : Result Unit} → NoneLeft n (splitting_at n k ps is) (cons_of g d) w → Built n (Rejects k d ps is) (result_map (λ u. Absurd k) w)

    -- a tree for each field, in order; the first one that has none decides
    pub data Fields : Node → List Term → List ℕ → Telescope Term → Result (CoBranches Term) → Type 0 where
      no_field : {n : Node} {r : List Term} → Fields n r [] [] (Done NoField)
      on_field : {n : Node} {r : List Term} {h : ℕ} {hs : List ℕ} {e : Entry Term} {es : Telescope Term} {T : Tree Term} {w : Result (CoBranches Term)}
          → CoverOf (projected n h (under r e.ty)) (Done T) → Fields n (Proj h (elims (Def f) n.spine) ∷ r) hs es w → Fields n r (h ∷ hs) (e ∷ es) (result_map (OnField h T) w)
      not_on_field : {n : Node} {r : List Term} {h : ℕ} {hs : List ℕ} {e : Entry Term} {es : Telescope Term} {x : CoverError}
          → CoverOf (projected n h (under r e.ty)) (Failed x) → Fields n r (h ∷ hs) (e ∷ es) (Failed x)

    -- a branch for each constructor, in order: each is built before the next is unified
    pub data Branches : Node → Splitting → List ℕ → Result (ConBranches Term) → Type 0 where
      no_con : {n : Node} {a : Splitting} → Branches n a [] (Done NoCon)
      on_con : {n : Node} {a : Splitting} {k : ℕ} {ks : List ℕ} {con : ConDecl Term} {u : Unified} {w : Result (ConBranches Term)}
          → con_decl g k ≡ Some con → U (con_context a k con.args) (index_equations a con) u → Branched n a k con u ks w → Branches n a (k ∷ ks) w

    -- the same where constructor k is unified
    pub data Branched : Node → Splitting → ℕ → ConDecl Term → Unified → List ℕ → Result (ConBranches Term) → Type 0 where
      refuted : {n : Node} {a : Splitting} {k : ℕ} {con : ConDecl Term} {ks : List ℕ} {w : Result (ConBranches Term)} → Branches n a ks w → Branched n a k con NeverUnified ks (result_map (Refuted k) w)
      goes : {n : Node} {a : Splitting} {k : ℕ} {con : ConDecl Term} {ss : List Solution} {b : Branch Term} {ks : List ℕ} {T : Tree Term} {w : Result (ConBranches Term)}
          → CoverOf (joined (opened n a k con.args) b) (Done T) → Branches n a ks w → Branched n a k con (UnifiedBy ss b) ks (result_map (Goes k b T) w)
      not_built : {n : Node} {a : Splitting} {k : ℕ} {con : ConDecl Term} {ss : List Solution} {b : Branch Term} {ks : List ℕ} {x : CoverError}
          → CoverOf (joined (opened n a k con.args) b) (Failed x) → Branched n a k con (UnifiedBy ss b) ks (Failed x)
      stuck : {n : Node} {a : Splitting} {k : ℕ} {con : ConDecl Term} {t u : Term} {ks : List ℕ} → Branched n a k con (StuckAt t u) ks (Failed (UnifyStuck t u))
      no_fuel : {n : Node} {a : Splitting} {k : ℕ} {con : ConDecl Term} {ks : List ℕ} → Branched n a k con NoFuel ks (Failed OutOfFuel)
      no_depth : {n : Node} {a : Splitting} {k : ℕ} {con : ConDecl Term} {ks : List ℕ} → Branched n a k con NoDepth ks (Failed OutOfDepth)

    -- no constructor is left: the first one that is not refuted decides
    pub data NoneLeft : Node → Splitting → List ℕ → Result Unit → Type 0 where
      none_left : {n : Node} {a : Splitting} → NoneLeft n a [] (Done tt)
      next_con : {n : Node} {a : Splitting} {k : ℕ} {ks : List ℕ} {con : ConDecl Term} {u : Unified} {w : Result Unit}
          → con_decl g k ≡ Some con → U (con_context a k con.args) (index_equations a con) u → Rejected n a u ks w → NoneLeft n a (k ∷ ks) w

    pub data Rejected : Node → Splitting → Unified → List ℕ → Result Unit → Type 0 where
      is_refuted : {n : Node} {a : Splitting} {ks : List ℕ} {w : Result Unit} → NoneLeft n a ks w → Rejected n a NeverUnified ks w
      not_refuted : {n : Node} {a : Splitting} {ss : List Solution} {b : Branch Term} {ks : List ℕ} → Rejected n a (UnifiedBy ss b) ks (Failed CannotSplit)
      is_stuck : {n : Node} {a : Splitting} {t u : Term} {ks : List ℕ} → Rejected n a (StuckAt t u) ks (Failed (UnifyStuck t u))
      out_of_fuel : {n : Node} {a : Splitting} {ks : List ℕ} → Rejected n a NoFuel ks (Failed OutOfFuel)
      out_of_depth : {n : Node} {a : Splitting} {ks : List ℕ} → Rejected n a NoDepth ks (Failed OutOfDepth)
