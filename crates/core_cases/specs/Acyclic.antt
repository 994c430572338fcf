-- Solutions of one metavariable, or of none, are acyclic where no metavariable stands in the one.
use Rattle.std.specs.Prelude.{◌≡◌, ℕ, ◌<◌, eqb, cond, Bool, true, false, length, Option, Some, None, option_map}
use Rattle.std.proofs.Common.{sym, ◌∙◌, subst}
use Rattle.std.proofs.lemmas.Option.{same_Some}
use Rattle.core_rules.specs.Term.{Term, Sort, AllMetas}
use Rattle.core_rules.specs.InScope.{IsAcyclic}
use Rattle.term_pool.specs.Pool.{Pool, tree}
use Rattle.core_terms.specs.Solutions.{AreIn, solved_in}

-- m has the solution i
abbrev pub one : ℕ → ℕ → ℕ → Option ℕ
one m i k = cond (eqb k m) (Some i) None

pub one-in : (p : Pool) (m i : ℕ) → i < length p.trees → AreIn p (one m i)
one-in p m i l = record { within = λ k j e. by_test (eqb k m) j e }
  where
    by_test : (b : Bool) (j : ℕ) → cond b (Some i) None ≡ Some j → j < length p.trees
    by_test true j e = subst (λ x. x < length p.trees) (same_Some i j e) l
    by_test false j e = absurd cc

pub one-acyclic : (p : Pool) (m i n : ℕ) → tree p i ≡ Sort n → IsAcyclic (solved_in p (one m i))
one-acyclic p m i n h = record { rank = λ k. 0; falls = λ k t e. by_test (eqb k m) t e }
  where
    by_test : (b : Bool) (t : Term) → option_map (tree p) (cond b (Some i) None) ≡ Some t → AllMetas (λ k. 0 < 0) t
    by_test true t e = subst (AllMetas (λ k. 0 < 0)) (sym h ∙ same_Some (tree p i) t e) tt
    by_test false t e = absurd cc

abbrev pub none : ℕ → Option ℕ
none k = None

pub none-in : (p : Pool) → AreIn p none
none-in p = record { within = λ k j e. absurd cc }

pub none-acyclic : (p : Pool) → IsAcyclic (solved_in p none)
none-acyclic p = record { rank = λ k. 0; falls = λ k t e. absurd cc }
