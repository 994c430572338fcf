-- What is put for the variables of a term, and for its metavariables.
use Rattle.std.specs.Prelude.{ℕ, ◌+◌, ◌-◌, eqb, ltb, cond, List, get_or, Option, Some, None, option_map, zero, suc}
use Rattle.core_rules.specs.Term.{Term, Terms, Var, Sort, Pi, Lam, App, Def, Fam, Con, Proj, Meta, End, And, env_of}

-- each variable i of t becomes f d i, where d counts on by one under each binder
abbrev mutual
  pub over : (ℕ → ℕ → Term) → ℕ → Term → Term
  over f d (Var i) = f d i
  over f d (Sort n) = Sort n
  over f d (Pi b x a t) = Pi b x (over f d a) (over f (d + 1) t)
  over f d (Lam b x a t) = Lam b x (over f d a) (over f (d + 1) t)
  over f d (App b t u) = App b (over f d t) (over f d u)
  over f d (Def k) = Def k
  over f d (Fam k) = Fam k
  over f d (Con k ts) = Con k (over_all f d ts)
  over f d (Proj k t) = Proj k (over f d t)
  over f d (Meta k ts) = Meta k (over_all f d ts)

  pub over_all : (ℕ → ℕ → Term) → ℕ → Terms → Terms
  over_all f d End = End
  over_all f d (And t ts) = And (over f d t) (over_all f d ts)

-- under d binders the variables from `from` on rise by `by`
abbrev pub shift_var : ℕ → ℕ → ℕ → ℕ → Term
shift_var from by d i = Var (cond (ltb i (from + d)) i (i + by))

-- t with its variables from `from` on raised by `by`
abbrev pub shift : Term → ℕ → ℕ → Term
shift t from by = over (shift_var from by) 0 t

abbrev pub subst_var : ℕ → Term → ℕ → ℕ → Term
subst_var at u d i = cond (ltb i (at + d)) (Var i) (cond (eqb i (at + d)) (shift u 0 d) (Var (i - 1)))

-- t with u for the variable `at`, where the later variables move down by one; u stands in the context of the result
abbrev pub subst : Term → ℕ → Term → Term
subst t at u = over (subst_var at u) 0 t

-- item i of the environment, which is a closed term where there is none, so that it is the same under every shift
abbrev pub value_at : List Term → ℕ → Term
value_at r i = get_or r i (Sort 0)

abbrev pub env_var : List Term → ℕ → ℕ → Term
env_var r d i = cond (ltb i d) (Var i) (shift (value_at r (i - d)) 0 d)

-- t[r]: item i of r for variable i
abbrev pub under : List Term → Term → Term
under r t = over (env_var r) 0 t

-- what stands for metavariable m at ts: its solution under these arguments, where it has one
abbrev pub put_solution : ℕ → Terms → Option Term → Term
put_solution m ts None = Meta m ts
put_solution m ts (Some t) = under (env_of ts) t

-- t with each metavariable that s solves replaced by its solution; what stands in the solutions is left as it is
abbrev mutual
  pub replace : (ℕ → Option Term) → Term → Term
  replace s (Var i) = Var i
  replace s (Sort n) = Sort n
  replace s (Pi b x a t) = Pi b x (replace s a) (replace s t)
  replace s (Lam b x a t) = Lam b x (replace s a) (replace s t)
  replace s (App b t u) = App b (replace s t) (replace s u)
  replace s (Def f) = Def f
  replace s (Fam d) = Fam d
  replace s (Con k ts) = Con k (replace_all s ts)
  replace s (Proj f t) = Proj f (replace s t)
  replace s (Meta m ts) = put_solution m (replace_all s ts) (s m)

  pub replace_all : (ℕ → Option Term) → Terms → Terms
  replace_all s End = End
  replace_all s (And t ts) = And (replace s t) (replace_all s ts)

-- t with solutions put in, and solutions in these, n deep. It does not unfold by itself, since n may be a large numeral
unfoldable pub instantiate : ℕ → (ℕ → Option Term) → Term → Term
instantiate zero s t = t
instantiate (suc n) s t = replace (λ m. option_map (instantiate n s) (s m)) t
