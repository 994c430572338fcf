-- A typing of a term of one kind comes from the rule of that kind, up to conversion of the type.
use Rattle.std.specs.Prelude.{ℕ, ◌+◌}
use Rattle.core_rules.specs.declared.Flag.{Flag}
use Rattle.core_rules.specs.Term.{Term, Terms, Var, Sort, Pi, Lam, App, Def, Fam, Con, Proj, Meta}
use Rattle.core_rules.specs.Signature.{Signature, Context}
use Rattle.core_rules.specs.Conversion as C
use Rattle.core_rules.specs.Conversion.{Conv}
use Rattle.core_rules.specs.Typing as T
use Rattle.core_rules.specs.Typing.{Typing}
use Rattle.core_rules.specs.Inversion.{OfVariable, OfPi, OfLam, OfApp, OfDef, OfFam, OfCon, OfProj}

module _ (g : Signature Term) (c : Context Term) where
  pub typing-variable : (i : ℕ) (a : Term) → Typing g c (Var i) a → OfVariable g c i a
  typing-variable i a (T.var {e = e} h) = record { entry = e; stands = h; is = C.same }
  typing-variable i a (T.convert h k) = let o = typing-variable i _ h in record { entry = o.entry; stands = o.stands; is = C.then o.is k }

  pub typing-sort : (n : ℕ) (a : Term) → Typing g c (Sort n) a → Conv g (Sort (n + 1)) a
  typing-sort n a T.sort = C.same
  typing-sort n a (T.convert h k) = C.then (typing-sort n _ h) k

  pub typing-pi : (b : Flag) (x : ℕ) (s t a : Term) → Typing g c (Pi b x s t) a → OfPi g c b x s t a
  typing-pi b x s t a (T.pi {m = m} {n = n} h k) = record { dom_level = m; cod_level = n; dom = h; cod = k; is = C.same }
  typing-pi b x s t a (T.convert h k) = let o = typing-pi b x s t _ h in record { dom_level = o.dom_level; cod_level = o.cod_level; dom = o.dom; cod = o.cod; is = C.then o.is k }

  pub typing-lam : (b : Flag) (x : ℕ) (s t a : Term) → Typing g c (Lam b x s t) a → OfLam g c b x s t a
  typing-lam b x s t a (T.lam {y = y} {m = m} {u = u} h k) = record { name = y; level = m; cod = u; dom = h; body = k; is = C.same }
  typing-lam b x s t a (T.convert h k) = let o = typing-lam b x s t _ h in record { name = o.name; level = o.level; cod = o.cod; dom = o.dom; body = o.body; is = C.then o.is k }

  pub typing-app : (b : Flag) (t u a : Term) → Typing g c (App b t u) a → OfApp g c b t u a
  typing-app b t u a (T.app {x = x} {s = s} {v = v} h k) = record { name = x; dom = s; cod = v; fun = h; arg = k; is = C.same }
  typing-app b t u a (T.convert h k) = let o = typing-app b t u _ h in record { name = o.name; dom = o.dom; cod = o.cod; fun = o.fun; arg = o.arg; is = C.then o.is k }

  pub typing-def : (f : ℕ) (a : Term) → Typing g c (Def f) a → OfDef g f a
  typing-def f a (T.def {a = b} h) = record { ty = b; declared = h; is = C.same }
  typing-def f a (T.convert h k) = let o = typing-def f _ h in record { ty = o.ty; declared = o.declared; is = C.then o.is k }

  pub typing-fam : (d : ℕ) (a : Term) → Typing g c (Fam d) a → OfFam g d a
  typing-fam d a (T.fam {decl = decl} h) = record { decl = decl; declared = h; is = C.same }
  typing-fam d a (T.convert h k) = let o = typing-fam d _ h in record { decl = o.decl; declared = o.declared; is = C.then o.is k }

  pub typing-con : (k : ℕ) (ps : Terms) (a : Term) → Typing g c (Con k ps) a → OfCon g c k ps a
  typing-con n ps a (T.con is h) = record { con = is; params = h; is = C.same }
  typing-con n ps a (T.convert h k) = let o = typing-con n ps _ h in record { con = o.con; params = o.params; is = C.then o.is k }

  pub typing-proj : (f : ℕ) (t a : Term) → Typing g c (Proj f t) a → OfProj g c f t a
  typing-proj f t a (T.proj is ps h k) = record { field = is; params = ps; as_many = h; of = k; is = C.same }
  typing-proj f t a (T.convert h k) = let o = typing-proj f t _ h in record { field = o.field; params = o.params; as_many = o.as_many; of = o.of; is = C.then o.is k }

  -- no rule types a metavariable
  pub typing-meta : (m : ℕ) (ts : Terms) (a : Term) → Typing g c (Meta m ts) a → ⊥
  typing-meta m ts a (T.convert h k) = typing-meta m ts _ h
