-- Why covering ends: the patterns that a left side has not shown yet are fewer below each split, argument and projection.
use Rattle.std.specs.Prelude.{◌≡◌, ◌≢◌, ℕ, ◌+◌, ◌≤◌, List, [], ◌∷◌, Option, Some}
use Rattle.core_rules.specs.declared.Flag.{Flag}
use Rattle.core_rules.specs.Term.{Term}
use Rattle.core_rules.specs.Signature.{Signature, Branch, ConDecl, FamDecl, con_decl}
use Rattle.core_rules.specs.Elimination.{Elim, Arg, Field, projections}
use Rattle.core_rules.specs.Heads.{Solutions}
use Rattle.core_rules.specs.BoundedLaws.{no_solutions}
use Rattle.core_rules.specs.Unification.{Solution}
use Rattle.core_rules.specs.TypedTree.{con_context, index_equations}
use Rattle.match_rules.specs.Matching.{Shape, Any, OfCon, OfRecord, Nothing, OfField, Shapes, NoShape, AndShape, Clause, HasHead, as_args}
use Rattle.cover_rules.specs.LeftSide.{Node, taken, projected, opened, joined}
use Rattle.cover_rules.specs.Looking.{Look, Faces, Constructor, Another, Itself, Through, record_face}
use Rattle.core_rules.specs.UnifierAnswers.{Unifier, UnifiedBy}
use Rattle.cover_rules.specs.CoverOf.{Plan, Takes, Shows, Splits, Opens, Judges, Planned, asked, splitting_at}
use Rattle.std.specs.Prelude.{length}

-- the constructors of patterns, and one for each pattern that is an elimination or an argument
abbrev mutual
  pub size : Shape → ℕ
  size (Any o) = 0
  size (OfCon k ps) = 1 + sizes ps
  size (OfRecord d ps) = 1 + sizes ps
  size Nothing = 0
  size (OfField f) = 0

  pub sizes : Shapes → ℕ
  sizes NoShape = 0
  sizes (AndShape p ps) = 1 + (size p + sizes ps)

module _ (g : Signature Term) where
  mutual
    -- at most n of the pattern is not shown by the term. A pattern of a constructor may always count in full; where the term has a
    -- constructor as its head form, only what its arguments do not show counts. A term whose head is a variable shows nothing, since
    -- it may still become a constructor
    pub data Rank : Shape → Term → ℕ → Type 0 where
      any : {o : Option ℕ} {t : Term} {n : ℕ} → Rank (Any o) t n
      nothing : {t : Term} {n : ℕ} → Rank Nothing t n
      of_field : {f : ℕ} {t : Term} {n : ℕ} → Rank (OfField f) t n
      con_unseen : {k : ℕ} {ps : Shapes} {t : Term} {n : ℕ} → 1 + sizes ps ≤ n → Rank (OfCon k ps) t n
      con_seen : {k : ℕ} {ps : Shapes} {t : Term} {es : List Elim} {n : ℕ} → HasHead g t k es → Ranks ps es n → Rank (OfCon k ps) t n
      con_other : {k j : ℕ} {ps : Shapes} {t : Term} {es : List Elim} {n : ℕ} → HasHead g t j es → j ≢ k → Rank (OfCon k ps) t n
      record_unseen : {d : ℕ} {ps : Shapes} {t : Term} {n : ℕ} → 1 + sizes ps ≤ n → Rank (OfRecord d ps) t n
      record_itself : {d k : ℕ} {ps : Shapes} {t : Term} {es : List Elim} {us : List Term} {n : ℕ} → Faces no_solutions t [] (Constructor k es) → record_face g d (Constructor k es) ≡ Itself us → Ranks ps (as_args us) n → Rank (OfRecord d ps) t n
      record_con : {d k : ℕ} {ps : Shapes} {t : Term} {es : List Elim} {n : ℕ} → Faces no_solutions t [] (Constructor k es) → record_face g d (Constructor k es) ≡ Through → Ranks ps (as_args (projections g d t)) n → Rank (OfRecord d ps) t n
      record_through : {d : ℕ} {ps : Shapes} {t : Term} {n : ℕ} → Faces no_solutions t [] Another → Ranks ps (as_args (projections g d t)) n → Rank (OfRecord d ps) t n

    pub data Ranks : Shapes → List Elim → ℕ → Type 0 where
      none : {es : List Elim} {n : ℕ} → Ranks NoShape es n
      ahead : {ps : Shapes} {n : ℕ} → sizes ps ≤ n → Ranks ps [] n
      arg : {p : Shape} {ps : Shapes} {b : Flag} {t : Term} {es : List Elim} {i j n : ℕ} → Rank p t i → Ranks ps es j → i + j ≤ n → Ranks (AndShape p ps) (Arg b t ∷ es) n
      field : {p : Shape} {ps : Shapes} {h : ℕ} {es : List Elim} {n : ℕ} → Ranks ps es n → Ranks (AndShape p ps) (Field h ∷ es) n

  -- the same over all clauses
  pub data RankOf : List Clause → List Elim → ℕ → Type 0 where
    none : {ls : List Elim} {n : ℕ} → RankOf [] ls n
    one : {q : Clause} {qs : List Clause} {ls : List Elim} {i j n : ℕ} → Ranks q.shapes ls i → RankOf qs ls j → i + j ≤ n → RankOf (q ∷ qs) ls n

  module _ (s : Solutions) (fuel : ℕ) (U : Unifier) (f : ℕ) (qs : List Clause) where
    -- the left sides that a plan leads to
    pub data Below (n : Node) : Plan → Node → Type 0 where
      takes : {b : Flag} {x : ℕ} {a t : Term} → Below n (Takes b x a t) (taken n b x a t)
      shows : {d : ℕ} {decl : FamDecl Term} {us : List Term} (h : ℕ) (a : Term) → Below n (Shows d decl us) (projected n h a)
      splits : {k d : ℕ} {ps is : List Term} (c : ℕ) (con : ConDecl Term) (ss : List Solution) (b : Branch Term) → con_decl g c ≡ Some con
          → U (con_context (splitting_at g s fuel U f qs n k ps is) c con.args) (index_equations (splitting_at g s fuel U f qs n k ps is) con) (UnifiedBy ss b)
          → Below n (Splits k d ps is) (joined (opened n (splitting_at g s fuel U f qs n k ps is) c con.args) b)
      opens : {k d c : ℕ} {decl : FamDecl Term} {ps : List Term} (con : ConDecl Term) → con_decl g c ≡ Some con
          → Below n (Opens k d c decl ps) (opened n (splitting_at g s fuel U f qs n k ps []) c con.args)

    -- n' is a left side that covering n asks for
    pub data Child (n n' : Node) : Type 0 where
      child : {o : Option (List Look)} {p : Plan} → Judges g s fuel U f qs qs n.spine o → Planned g s fuel U f qs n (asked (length n.spine) qs o) p → Below n p n' → Child n n'

    -- n is reached from m
    pub data Reaches (m : Node) : Node → Type 0 where
      here : Reaches m m
      further : {n n' : Node} → Reaches m n → Child n n' → Reaches m n'

    -- no endless way leads down from n
    pub data Terminates : Node → Type 0 where
      terminates : {n : Node} → ((n' : Node) → Child n n' → Terminates n') → Terminates n
