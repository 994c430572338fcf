-- What two forms ask for, where their lambdas and kinds are known.
use Rattle.std.specs.Prelude.{◌≡◌, cond, List, [], ◌∷◌, Option, Some, None}
use Rattle.core_rules.specs.Term.{Term}
use Rattle.core_rules.specs.Signature.{Signature}
use Rattle.core_rules.specs.Elimination.{Elim}
use Rattle.core_rules.specs.Bounded as B
use Rattle.core_rules.specs.Bounded.{Decision, Parts, Pair, applied, by_kind, by_lambda, kind, lambda, same_flag}

module _ (g : Signature Term) (q : Decision) (h : Term) (es : List Elim) (k : Term) (ds : List Elim) where
  abbrev whole : Decision
  whole = by_lambda g q h es k ds (lambda h es) (lambda k ds)

  at_lambdas : (o p : Option B.Lambda) → o ≡ lambda h es → p ≡ lambda k ds → by_lambda g q h es k ds o p ≡ whole
  at_lambdas o p e f = let a : _ = λ i. by_lambda g q h es k ds (e i) (f i) in a

  pub both_lambdas : (l m : B.Lambda) → Some l ≡ lambda h es → Some m ≡ lambda k ds → cond (same_flag l.flag m.flag) (Parts (Pair (l.name ∷ []) l.body m.body ∷ [])) q ≡ whole
  both_lambdas l m e f = at_lambdas (Some l) (Some m) e f

  pub left_lambda : (l : B.Lambda) → Some l ≡ lambda h es → None ≡ lambda k ds → Parts (Pair (l.name ∷ []) l.body (applied l.flag k ds) ∷ []) ≡ whole
  left_lambda l e f = at_lambdas (Some l) None e f

  pub right_lambda : (m : B.Lambda) → None ≡ lambda h es → Some m ≡ lambda k ds → Parts (Pair (m.name ∷ []) (applied m.flag h es) m.body ∷ []) ≡ whole
  right_lambda m e f = at_lambdas None (Some m) e f

  pub no_lambdas : None ≡ lambda h es → None ≡ lambda k ds → by_kind g q h es k ds (kind g h es) (kind g k ds) ≡ whole
  no_lambdas e f = at_lambdas None None e f

  pub at_kinds : (x y : B.Kind) → x ≡ kind g h es → y ≡ kind g k ds → by_kind g q h es k ds x y ≡ by_kind g q h es k ds (kind g h es) (kind g k ds)
  at_kinds x y e f = let a : _ = λ i. by_kind g q h es k ds (e i) (f i) in a
