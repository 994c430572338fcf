-- From turn to turn: what an answer of the state says of the question.
use Rattle.std.specs.Prelude.{◌≡◌, ◌<◌, ◌+◌, ℕ, List, [], ◌∷◌, ◌++◌, length, map, reverse, Option, refl, suc}
use Rattle.std.proofs.Common.{sym, ap, ◌∙◌, subst, arith}
use Rattle.el_base.proofs.Lists.{reverse_push}
use Rattle.el_base.proofs.Throughout.{all-reverse, map-same}
use Rattle.core_rules.specs.declared.Flag.{Flag}
use Rattle.core_rules.specs.Term.{Term}
use Rattle.core_rules.specs.Substitution.{replace}
use Rattle.core_rules.specs.Signature.{Entry, Context, Signature, Telescope, onto}
use Rattle.core_rules.specs.Mapped.{AllEntries, entry_map, telescope_map, signature_map}
use Rattle.core_rules.specs.InScope.{IsAcyclic}
use Rattle.core_rules.specs.Heads.{Solutions}
use Rattle.core_rules.specs.BoundedLaws.{IsFull}
use Rattle.core_rules.specs.Unification as U
use Rattle.core_rules.specs.Unification.{St, begin, whole_types}
use Rattle.core_rules.specs.UnifierAnswers.{UnifiedBy}
use Rattle.unify_rules.specs.Unifier as O
use Rattle.unify_rules.specs.Unifier.{Outcome, Turn, done, Unify, answers, goes, UnifyOf, after}
use Rattle.unify_rules.proofs.Ends.{turns_left, turn_falls}
use Rattle.term_pool.specs.Pool.{Pool, tree, Extends}
use Rattle.term_pool.specs.Growth.{Extends-tree}
use Rattle.core_terms.specs.Signature.{Stands, signature_in}
use Rattle.core_terms.specs.Solutions.{AreIn, solved_in}
use Rattle.weak_head.proofs.Turning.{whole_solutions, whole_full}
use Rattle.index_unify.specs.declared.equation.Equation.{Equation}
use Rattle.index_unify.specs.declared.unified.Reason.TheVariants.{Conflict, Cycle}
use Rattle.index_unify.specs.declared.unified.Unified as N
use Rattle.index_unify.specs.declared.unified.Unified.TheVariants as A
use Rattle.index_unify.specs.declared.rule.Ending.{Ending}
use Rattle.index_unify.specs.declared.rule.Ending.TheVariants as E
use Rattle.index_unify.specs.declared.state.State.{State}
use Rattle.index_unify.specs.Unified.{context_in, equation_in, EquationStands, IsUnified, ByOutcome, IsAnswered}
use Rattle.index_unify.specs.State.{AllSettled, EndingBelow, StateBelow, ending_in, ended, equations_of, state_in, replaced, solution_in, solutions_of}
use Rattle.index_unify.specs.Rules.{IsRuling}
use Rattle.index_unify.proofs.Grown.{IdStands, id_in, SolutionStands, ids, equations, solutions, all_more, still}
use Rattle.index_unify.proofs.Ruled.{to_smaller}
use Rattle.index_unify.proofs.Settled.{same_settled}
use Rattle.index_unify.proofs.Solving.{solutions_stay}

-- what an ending says
pub unified_by : (V : Outcome → Type 0) (p : Pool) (c : Context Term) (e : Ending) → EndingBelow (length p.trees) e → V (ending_in p e) → IsUnified V p c (ended e)
unified_by V p c (E.Refuted (Conflict j k)) b v = v
unified_by V p c (E.Refuted (Cycle x)) b v = v
unified_by V p c (E.Stuck t u) b v = record { left = b.0; right = b.1; is = v }
unified_by V p c E.OutOfFuel b v = v
unified_by V p c E.OutOfDepth b v = v

-- what is answered says to those who split what its outcome says
pub answered_by : (V : Outcome → Type 0) (p : Pool) (c : Context Term) (r : N.Unified) → IsUnified V p c r → IsAnswered (ByOutcome V c) p r
answered_by V p c (A.Solved b) h = (h.solutions, (O.Solved h.types h.solutions, h.is, ap (UnifiedBy h.solutions) h.branch))
answered_by V p c (A.Refuted (Conflict j k)) h = (O.Conflict j k, h, refl)
answered_by V p c (A.Refuted (Cycle x)) h = (O.Cycle x, h, refl)
answered_by V p c (A.Stuck t u) h = (O.Stuck (tree p t) (tree p u), h.is, refl)
answered_by V p c A.OutOfFuel h = (O.OutOfFuel, h, refl)
answered_by V p c A.OutOfDepth h = (O.OutOfDepth, h, refl)
answered_by V p c A.NoMemory h = tt

-- the turn from x to y, by any full solutions
abbrev pub Turns : Signature Term → Solutions → ℕ → ℕ → U.State → O.Next → Type 0
Turns g s fuel depth x y = (f : Solutions) → IsFull s f → Turn (signature_map (replace f) g) fuel depth x y

module _ (g : Signature Term) (s : Solutions) (fuel depth : ℕ) (c : Context Term) (es : List U.Equation) where
  abbrev Answered : Solutions → U.State → Outcome → Type 0
  Answered f x o = (n : ℕ) × Unify (signature_map (replace f) g) fuel depth x o n

  -- what the state has as its answer is the answer to the question
  pub record Leads (x : U.State) : Type 0 where
    pub leads : (f : Solutions) → IsFull s f → (o : Outcome) → Answered f x o → UnifyOf g f fuel depth c es o

  pub leads-first : (x : U.State) → ((f : Solutions) → IsFull s f → x ≡ begin (telescope_map (replace f) c) (map (replaced f) es)) → Leads x
  leads-first x e = record { leads = λ f h o a. subst (λ y. Answered f y o) (e f h) a }

  pub leads-on : (x y : U.State) → Turns g s fuel depth x (O.Goes y) → Leads x → Leads y
  leads-on x y t l = record { leads = λ f h o a. l.leads f h o (suc a.0, goes (t f h) a.1) }

  pub leads-end : (x : U.State) (p : Pool) (e : Ending) → EndingBelow (length p.trees) e → Turns g s fuel depth x (O.Answers (ending_in p e)) → Leads x → (d : Solutions → Context Term) → (f : Solutions) → IsFull s f → IsUnified (UnifyOf g f fuel depth c es) p (d f) (ended e)
  leads-end x p e b t l d f h = unified_by (UnifyOf g f fuel depth c es) p (d f) e b (l.leads f h (ending_in p e) (0, answers (t f h)))

  pub leads-done : (ts : List Term) (ss : List U.Solution) → Leads (St ts [] ss) → (f : Solutions) → IsFull s f → UnifyOf g f fuel depth c es (O.Solved ts ss)
  leads-done ts ss l f h = l.leads f h (O.Solved ts ss) (0, answers done)

abbrev typed : ℕ → Flag → Term → Entry Term
typed x b a = record { name = x; flag = b; ty = a }

-- the context stays as the pool grows
pub context_stays : (p q : Pool) (c : Telescope ℕ) → Extends p q → AllEntries (λ i. i < length p.trees) c → context_in q c ≡ context_in p c
context_stays p q c g h = ap (λ d. onto d []) (map-same (λ e. e.ty < length p.trees) (entry_map (tree q)) (entry_map (tree p)) (λ e l. ap (typed e.name e.flag) (Extends-tree e.ty g l)) c h)

length_map : {X Y : Type 0} (f : X → Y) (xs : List X) → length (map f xs) ≡ length xs
length_map f [] = refl
length_map f (x ∷ xs) = let e = length_map f xs in omega arith

-- lists that are equal under maps are equally long
pub as_many : {X Y Z A : Type 0} (f : X → Z) (h : A → Z) (k : Y → A) (xs : List X) (ys : List Y) → map f xs ≡ map h (map k ys) → length xs ≡ length ys
as_many f h k xs ys e = sym (length_map f xs) ∙ (ap length e ∙ (length_map h (map k ys) ∙ length_map k ys))

-- ---- the state as the pool grows

after_same : (r : O.Rule) {ts us : List Term} {es ds : List U.Equation} {ss cs : List U.Solution} → ts ≡ us → es ≡ ds → ss ≡ cs → after r ts es ss ≡ after r us ds cs
after_same r e f g = cc

module _ (p q : Pool) (g : Extends p q) (x : State) (below : StateBelow (length p.trees) x) where
  pub state_more : StateBelow (length q.trees) x
  state_more = record {
    types = all_more IdStands id_in ids p q g x.types.items below.types;
    equations = all_more EquationStands equation_in equations p q g x.equations.items below.equations;
    solutions = all_more SolutionStands solution_in solutions p q g x.solutions.items below.solutions;
  }

  pub still_settled : (s : Solutions) → AllSettled s p x.equations.items → AllSettled s q x.equations.items
  still_settled s h = same_settled s p q x.equations.items (still EquationStands equation_in equations p q g x.equations.items below.equations) h

  -- the turn by a rule for the first equation, which is taken out of the state
  pub turn_by_rule : (G : Signature Term) (s : Solutions) (fuel depth : ℕ) (e : Equation) (r : O.Rule) (y : O.Next) → IsRuling G s fuel depth (map (tree p) x.types.items) (tree p e.left) (tree p e.right) r
      → y ≡ after r (map (tree q) x.types.items) (equations_of q x.equations.items) (solutions_of q x.solutions.items)
      → Turns G s fuel depth (St (map (tree p) x.types.items) (equation_in (tree p) e ∷ equations_of p x.equations.items) (solutions_of p x.solutions.items)) y
  turn_by_rule G s fuel depth e r y h k f full =
      let es = equations_of p x.equations.items in
      let ss = solutions_of p x.solutions.items in
      let same =
      after_same r (still IdStands id_in ids p q g x.types.items below.types) (still EquationStands equation_in equations p q g (reverse x.equations.items) (all-reverse (EquationStands (length p.trees)) x.equations.items below.equations))
      (solutions_stay p q g x.solutions.items below.solutions) in
      subst (Turn (signature_map (replace f) G) fuel depth (St (map (tree p) x.types.items) (equation_in (tree p) e ∷ es) ss)) (sym (k ∙ same)) (h f full es ss)

-- ---- one turn of the loop

-- the first equation, which is the last one in code
pub first_equation : (p : Pool) (es rest : List Equation) (e : Equation) → es ≡ rest ++ e ∷ [] → equations_of p es ≡ equation_in (tree p) e ∷ equations_of p rest
first_equation p es rest e k = ap (λ es. map (equation_in (tree p)) (reverse es)) k ∙ ap (map (equation_in (tree p))) (reverse_push rest e)

module _ {p q : Pool} (g : Extends p q) (sig : Signature ℕ) (stands : Stands p sig) (F : ℕ → Option ℕ) (known : AreIn p F) (fuel depth : ℕ) where
  pub turn_at : (ts : List Term) (es rest : List Equation) (e : Equation) (ss : List U.Solution) (y : O.Next) → es ≡ rest ++ e ∷ []
      → Turns (signature_in q sig) (solved_in q F) fuel depth (St ts (equation_in (tree q) e ∷ equations_of q rest) ss) y → Turns (signature_in p sig) (solved_in p F) fuel depth (St ts (equations_of q es) ss) y
  turn_at ts es rest e ss y k t =
      subst (λ ds. Turns (signature_in p sig) (solved_in p F) fuel depth (St ts ds ss) y) (sym (first_equation q es rest e k))
      (to_smaller g sig stands F known (λ G s. Turns G s fuel depth (St ts (equation_in (tree q) e ∷ equations_of q rest) ss) y) t)

-- how many turns go on from a state
abbrev pub turns_from : Pool → Signature ℕ → (ℕ → Option ℕ) → ℕ → ℕ → U.State → ℕ
turns_from p sig F fuel depth x = turns_left (signature_map (replace (whole_solutions p F)) (signature_in p sig)) fuel depth x

pub fewer_turns : (p : Pool) (sig : Signature ℕ) (F : ℕ → Option ℕ) (fuel depth : ℕ) → AreIn p F → IsAcyclic (solved_in p F) → (x y : U.State)
    → Turns (signature_in p sig) (solved_in p F) fuel depth x (O.Goes y) → turns_from p sig F fuel depth y < turns_from p sig F fuel depth x
fewer_turns p sig F fuel depth known a x y t =
    let f = whole_solutions p F in
    turn_falls (signature_map (replace f) (signature_in p sig)) fuel depth x y (t f (whole_full p F known a))

-- ---- before the first turn

whole_length : (n : ℕ) (c : Context Term) → length (whole_types n c) ≡ length c
whole_length n [] = refl
whole_length n (e ∷ c) = let h = whole_length (n + 1) c in omega arith

-- there is a type for each variable
pub begun_count : (q : Pool) (x : State) (c : Context Term) (es : List U.Equation) → state_in q x ≡ begin c es → length x.types.items ≡ length c
begun_count q x c es e =
    let t : map (tree q) x.types.items ≡ whole_types 0 c = cc in
    sym (length_map (tree q) x.types.items) ∙ (ap length t ∙ whole_length 0 c)
