-- When a case tree follows clauses in order, by matching on the left side that it has so far.
use Rattle.std.specs.Prelude.{◌≡◌, ◌≢◌, ℕ, ◌+◌, ◌-◌, List, [], ◌∷◌, ◌++◌, length, map, Option, Some, None}
use Rattle.core_rules.specs.declared.Flag.{Flag}
use Rattle.core_rules.specs.Term.{Term, Terms, Var, Con}
use Rattle.core_rules.specs.Substitution.{shift, under}
use Rattle.core_rules.specs.Signature.{Branch, Tree, Leaf, Intro, Cosplit, Split, RecordSplit, Absurd, CoBranches, ConBranches, co_branch, con_branch, ConDecl, Signature, con_decl}
use Rattle.core_rules.specs.Elimination.{Elim, Arg, Field, elims, args, projections}
use Rattle.core_rules.specs.Conversion.{IsEtaCon}
use Rattle.core_rules.specs.TypedTree.{into, new_con}
use Rattle.match_rules.specs.Matching.{Shape, Any, OfCon, OfRecord, Nothing, OfField, Shapes, NoShape, AndShape, eta_family, Clause, Bound, binds, values_from, HasHead, as_args}

-- what matching patterns on a left side says: they match, with what they bind and the patterns that are left; they clash; the variable
-- at which it is inconclusive, for a constructor or for a record that has eta; nothing more
pub data Verdict : Type 0 where
  Yes : Bound → Shapes → Verdict
  No : Verdict
  At : ℕ → Verdict
  RecordAt : ℕ → Verdict
  Stop : Verdict

abbrev pub whole : Verdict → Verdict
whole (Yes σ NoShape) = Yes σ NoShape
whole (Yes σ (AndShape p ps)) = Stop
whole No = No
whole (At k) = At k
whole (RecordAt k) = RecordAt k
whole Stop = Stop

abbrev pub join : Verdict → Verdict → Verdict
join (Yes σ rs) (Yes τ ps) = Yes (σ ++ τ) ps
join (Yes σ rs) No = No
join (Yes σ rs) (At k) = At k
join (Yes σ rs) (RecordAt k) = RecordAt k
join (Yes σ rs) Stop = Stop
join No w = No
join (At k) w = At k
join (RecordAt k) w = RecordAt k
join Stop w = Stop

-- t is itself the constructor of record d, which has eta, at the arguments us
pub record IsItself (g : Signature Term) (d : ℕ) (t : Term) (us : List Term) : Type 0 where
  pub con : ℕ
  pub params : Terms
  pub is_con : IsEtaCon g con d
  pub as_many : length us ≡ length is_con.con.args
  pub is : t ≡ elims (Con con params) (args is_con.con.args us)

mutual
  pub data Looks (g : Signature Term) : Shape → Term → Verdict → Type 0 where
    any : {o : Option ℕ} {t : Term} → Looks g (Any o) t (Yes (binds o t) NoShape)
    of_con : {k : ℕ} {ps : Shapes} {t : Term} {es : List Elim} {w : Verdict} → eta_family g k ≡ None → HasHead g t k es → LooksAll g ps es w → Looks g (OfCon k ps) t (whole w)
    other : {k j : ℕ} {ps : Shapes} {t : Term} {es : List Elim} → eta_family g j ≡ None → HasHead g t j es → j ≢ k → Looks g (OfCon k ps) t No
    at_var : {k i : ℕ} {ps : Shapes} → Looks g (OfCon k ps) (Var i) (At i)
    of_record : {d : ℕ} {ps : Shapes} {t : Term} {us : List Term} {w : Verdict} → IsItself g d t us → LooksAll g ps (as_args us) w → Looks g (OfRecord d ps) t (whole w)
    at_record : {d i : ℕ} {ps : Shapes} → Looks g (OfRecord d ps) (Var i) (RecordAt i)
    of_projections : {d : ℕ} {ps : Shapes} {t : Term} {w : Verdict} → LooksAll g ps (as_args (projections g d t)) w → Looks g (OfRecord d ps) t (whole w)
    unknown : {p : Shape} {t : Term} → Looks g p t Stop

  pub data LooksAll (g : Signature Term) : Shapes → List Elim → Verdict → Type 0 where
    end : {ps : Shapes} → LooksAll g ps [] (Yes [] ps)
    unsaid : {ps : Shapes} {es : List Elim} → LooksAll g ps es Stop
    arg : {p : Shape} {ps : Shapes} {b : Flag} {t : Term} {es : List Elim} {v w : Verdict} → Looks g p t v → LooksAll g ps es w → LooksAll g (AndShape p ps) (Arg b t ∷ es) (join v w)
    field : {f h : ℕ} {ps : Shapes} {es : List Elim} {w : Verdict} → h ≡ f → LooksAll g ps es w → LooksAll g (AndShape (OfField f) ps) (Field h ∷ es) w
    other_field : {f h : ℕ} {ps : Shapes} {es : List Elim} → h ≢ f → LooksAll g (AndShape (OfField f) ps) (Field h ∷ es) No

-- a pattern that an argument is for
pub data IsArg : Shape → Type 0 where
  any : {o : Option ℕ} → IsArg (Any o)
  of_con : {k : ℕ} {ps : Shapes} → IsArg (OfCon k ps)
  of_record : {d : ℕ} {ps : Shapes} → IsArg (OfRecord d ps)
  nothing : IsArg Nothing

-- what is due at a left side: the end of a clause, an argument, a projection, a split
pub data Due : Type 0 where
  Ends : Clause → Bound → Due
  NextArg : Due
  NextField : Due
  SplitAt : ℕ → Due
  RecordSplitAt : ℕ → Due

-- the first clause that does not clash decides
pub data IsDue (g : Signature Term) : List Clause → List Elim → Due → Type 0 where
  skip : {q : Clause} {qs : List Clause} {ls : List Elim} {d : Due} → LooksAll g q.shapes ls No → IsDue g qs ls d → IsDue g (q ∷ qs) ls d
  ends : {q : Clause} {qs : List Clause} {ls : List Elim} {σ : Bound} → LooksAll g q.shapes ls (Yes σ NoShape) → IsDue g (q ∷ qs) ls (Ends q σ)
  argument : {q : Clause} {qs : List Clause} {ls : List Elim} {σ : Bound} {p : Shape} {ps : Shapes} → LooksAll g q.shapes ls (Yes σ (AndShape p ps)) → IsArg p → IsDue g (q ∷ qs) ls NextArg
  projection : {q : Clause} {qs : List Clause} {ls : List Elim} {σ : Bound} {f : ℕ} {ps : Shapes} → LooksAll g q.shapes ls (Yes σ (AndShape (OfField f) ps)) → IsDue g (q ∷ qs) ls NextField
  at_split : {q : Clause} {qs : List Clause} {ls : List Elim} {k : ℕ} → LooksAll g q.shapes ls (At k) → IsDue g (q ∷ qs) ls (SplitAt k)
  at_record : {q : Clause} {qs : List Clause} {ls : List Elim} {k : ℕ} → LooksAll g q.shapes ls (RecordAt k) → IsDue g (q ∷ qs) ls (RecordSplitAt k)

abbrev pub elim_map : (Term → Term) → Elim → Elim
elim_map f (Arg b t) = Arg b (f t)
elim_map f (Field k) = Field k

abbrev pub elims_map : (Term → Term) → List Elim → List Elim
elims_map f es = map (elim_map f) es

-- Covers g qs n ls T: the tree T, in a context of n entries, follows the clauses where ls is the left side so far
pub data Covers (g : Signature Term) (qs : List Clause) : ℕ → List Elim → Tree Term → Type 0 where
  ends : {n j : ℕ} {ls : List Elim} {q : Clause} {σ : Bound} {t : Term} → IsDue g qs ls (Ends q σ) → q.right ≡ Some t → Covers g qs n ls (Leaf (under (values_from 0 q.size σ) t) j)
  next : {n : ℕ} {ls : List Elim} {T : Tree Term} (b : Flag) → IsDue g qs ls NextArg → Covers g qs (n + 1) (elims_map (λ t. shift t 0 1) ls ++ Arg b (Var 0) ∷ []) T → Covers g qs n ls (Intro T)
  fields : {n : ℕ} {ls : List Elim} {bs : CoBranches Term} → IsDue g qs ls NextField → ((f : ℕ) (T : Tree Term) → co_branch bs f ≡ Some T → Covers g qs n (ls ++ Field f ∷ []) T) → Covers g qs n ls (Cosplit bs)
  splits : {n k : ℕ} {ls : List Elim} {bs : ConBranches Term} (ps : List Term) → IsDue g qs ls (SplitAt k)
      → ((c : ℕ) (con : ConDecl Term) (b : Branch Term) (T : Tree Term) → con_decl g c ≡ Some con → con_branch bs c ≡ Some (b, T)
      → Covers g qs (length b.keep) (elims_map (λ t. under b.values (under (into k n (length con.args) (new_con c ps con.args)) t)) ls) T)
      → Covers g qs n ls (Split k bs)
  record_splits : {n k c d : ℕ} {ls : List Elim} {T : Tree Term} (ps : List Term) (is : IsEtaCon g c d) → IsDue g qs ls (RecordSplitAt k)
      → Covers g qs (n + length is.con.args - 1) (elims_map (λ t. under (into k n (length is.con.args) (new_con c ps is.con.args)) t) ls) T → Covers g qs n ls (RecordSplit k d T)
  -- nothing fits an absurd split
  absurds : {n k : ℕ} {ls : List Elim} → Covers g qs n ls (Absurd k)
