-- What a form in code is to the rules: a lambda, a value of a record that has eta, or another.
use Rattle.std.specs.Prelude.{ℕ, List, [], ◌∷◌, length, Bool, false, ◌&&◌, eqb}
use Rattle.core_rules.specs.Term.{Term}
use Rattle.core_rules.specs.Signature.{ConDecl, FamDecl}
use Rattle.core_rules.specs.Elimination.{Elim}
use Rattle.core_rules.specs.Bounded as B
use Rattle.weak_head.specs.Elims.{args_of, AreArgs}
use Rattle.conversion.specs.declared.form.Lambda as L
use Rattle.conversion.specs.declared.form.Kind as K
use Rattle.conversion.specs.declared.form.Kind.TheVariants as KV
use Rattle.conversion.specs.declared.form.Eta as E
use Rattle.conversion.specs.declared.form.Eta.TheVariants as EV

-- where f gives the trees of ids
abbrev pub lambda_in : (ℕ → Term) → L.Lambda → B.Lambda
lambda_in f l = record { flag = l.flag; name = l.name; body = f l.body }

-- the value of record d whose fields are the arguments es
abbrev pub value_of : List Elim → ℕ → B.RecordValue
value_of es d = record { fam = d; values = args_of es }

-- of a form under es
abbrev pub kind_in : List Elim → K.Kind → B.Kind
kind_in es (KV.Value d) = B.Value (value_of es d)
kind_in es KV.Constructor = B.Constructor
kind_in es KV.Neither = B.Neither

-- a value has arguments alone
abbrev pub ValueIsArgs : List Elim → K.Kind → Type 0
ValueIsArgs es (KV.Value d) = AreArgs es
ValueIsArgs es KV.Constructor = Unit {0}
ValueIsArgs es KV.Neither = Unit {0}

abbrev pub eta : K.Kind → K.Kind → E.Eta
eta (KV.Value d) KV.Neither = EV.Left d
eta KV.Neither (KV.Value d) = EV.Right d
eta _ _ = EV.None

-- the first of these constructors takes n arguments
abbrev pub first_takes : List (ConDecl ℕ) → ℕ → Bool
first_takes [] n = false
first_takes (c ∷ cs) n = eqb (length c.args) n

abbrev pub has_eta_with : FamDecl ℕ → ℕ → Bool
has_eta_with d n = d.eta && first_takes d.cons n
