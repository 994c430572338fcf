-- The branch that the unifier's solutions give: the unsolved variables in an order of dependence, and the values of all.
use Rattle.std.specs.Prelude.{ℕ, ◌+◌, ◌-◌, Bool, true, ◌&&◌, eqb, ltb, not, cond, List, [], ◌∷◌, length, reverse, slice_get, Option, Some, None, zero, suc}
use Rattle.std.specs.Option.{option_map_or}
use Rattle.core_rules.specs.declared.Flag.TheVariants.{Explicit}
use Rattle.core_rules.specs.Term.{Term, Var, occurs}
use Rattle.core_rules.specs.Substitution.{over, value_at}
use Rattle.core_rules.specs.Signature.{Entry, Context, Branch}
use Rattle.core_rules.specs.Unification.{Solution}

-- the value of x, where it is solved
abbrev pub value_of : List Solution → ℕ → Option Term
value_of [] x = None
value_of (s ∷ ss) x = cond (eqb s.var x) (Some s.value) (value_of ss x)

abbrev pub where_none : {A : Type 0} → Option A → ℕ → List ℕ → List ℕ
where_none None i is = i ∷ is
where_none (Some a) i is = is

-- the variables of n that are not solved, outermost first
abbrev pub unsolved : List Solution → ℕ → List ℕ
unsolved ss zero = []
unsolved ss (suc n) = where_none (value_of ss n) n (unsolved ss n)

abbrev pub without : ℕ → List ℕ → List ℕ
without x [] = []
without x (j ∷ js) = cond (eqb j x) (without x js) (j ∷ without x js)

-- none of these variables occurs in t
abbrev pub has_none : List ℕ → Term → Bool
has_none [] t = true
has_none (j ∷ js) t = not (occurs j t) && has_none js t

-- the first of these variables whose type has none of those that wait
abbrev pub first_ready : List Term → List ℕ → List ℕ → Option ℕ
first_ready ts waiting [] = None
first_ready ts waiting (i ∷ is) = cond (has_none waiting (value_at ts i)) (Some i) (first_ready ts waiting is)

-- those placed, innermost first, in front of which the others are put one after the other
abbrev pub reverse_onto : List ℕ → List ℕ → List ℕ
reverse_onto [] ks = ks
reverse_onto (i ∷ is) ks = reverse_onto is (i ∷ ks)

-- repeatedly the first variable whose type has none of those that wait; is and ks are those that wait, outermost first, and those placed.
-- Where none is ready, which is so in no context, the others keep their order.
abbrev pub order : ℕ → List Term → List ℕ → List ℕ → List ℕ
order zero ts is ks = reverse_onto is ks
order (suc n) ts is ks = option_map_or (λ i. order n ts (without i is) (i ∷ ks)) (first_ready ts is is) (reverse_onto is ks)

-- for each variable of the branch, innermost first, the variable that it was
abbrev pub keep_of : ℕ → List Term → List Solution → List ℕ
keep_of n ts ss = order n ts (unsolved ss n) []

-- the place of variable i
abbrev pub place_in : List ℕ → ℕ → ℕ
place_in [] i = 0
place_in (k ∷ ks) i = cond (eqb k i) 0 (suc (place_in ks i))

abbrev pub rename_var : List ℕ → ℕ → ℕ → Term
rename_var ks d i = cond (ltb i d) (Var i) (Var (place_in ks (i - d) + d))

-- t in the context of the variables ks
abbrev pub rename : List ℕ → Term → Term
rename ks t = over (rename_var ks) 0 t

abbrev pub value_or_place : List ℕ → ℕ → Option Term → Term
value_or_place ks i None = Var (place_in ks i)
value_or_place ks i (Some t) = rename ks t

-- the terms for the variables from k on, n of them
abbrev pub values_from : List Solution → List ℕ → ℕ → ℕ → List Term
values_from ss ks k zero = []
values_from ss ks k (suc n) = value_or_place ks k (value_of ss k) ∷ values_from ss ks (suc k) n

abbrev pub with_type : Option (Entry Term) → Term → Entry Term
with_type None a = record { name = 0; flag = Explicit; ty = a }
with_type (Some e) a = record { name = e.name; flag = e.flag; ty = a }

-- the context of the variables ks, which have their names from c and their types from ts
abbrev pub entries_of : Context Term → List Term → List ℕ → Context Term
entries_of c ts [] = []
entries_of c ts (k ∷ ks) = with_type (slice_get c k) (rename ks (value_at ts k)) ∷ entries_of c ts ks

-- the branch of the context c where unification ends with these types and solutions
abbrev pub branch_of : Context Term → List Term → List Solution → Branch Term
branch_of c ts ss = record {
  context = reverse (entries_of c ts (keep_of (length c) ts ss));
  values = values_from ss (keep_of (length c) ts ss) 0 (length c);
  keep = keep_of (length c) ts ss;
}
