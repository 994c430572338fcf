-- What an answer in code is to a reading of a declaration, over a pool. Nothing is said where memory ran out.
use Rattle.std.specs.Prelude.{ℕ, length, Result, Ok, Err}
use Rattle.term_pool.specs.Pool.{Pool}
use Rattle.kernel_rules.specs.Outcome.{Outcome, Gives, Refuses}
use Rattle.el_outside.specs.declared.place.Pos.{Pos}
use Rattle.elab_machine.specs.declared.error.WrittenError.{WrittenError}
use Rattle.elab_machine.specs.declared.error.WrittenError.TheVariants as W
use Rattle.elab_machine.specs.Answers as expr
use Rattle.data_rules.specs.Refusals.{Refusal, Kind, BadSort, ConShape, TooBig, Elab, at}
use Rattle.data_elab.specs.declared.error.DataKind.{DataKind}
use Rattle.data_elab.specs.declared.error.DataKind.TheVariants as K
use Rattle.data_elab.specs.declared.error.DataError.{DataError}
use Rattle.data_elab.specs.declared.error.DataError.TheVariants as D

-- the kind with the trees of its ids
abbrev pub kind_in : Pool → DataKind → Kind
kind_in p K.BadSort = BadSort
kind_in p K.ConShape = ConShape
kind_in p K.TooBig = TooBig
kind_in p (K.Elab k) = Elab (expr.kind_in p k)

-- its ids are below n
abbrev pub IsBelow : ℕ → DataKind → Type 0
IsBelow n K.BadSort = Unit {0}
IsBelow n K.ConShape = Unit {0}
IsBelow n K.TooBig = Unit {0}
IsBelow n (K.Elab k) = expr.IsBelow n k

-- a refusal in code
abbrev pub refused_at : Pos → DataKind → DataError
refused_at p k = D.Bad p k

-- the refusal of an expression as one of its declaration
abbrev pub in_declaration : WrittenError → DataError
in_declaration (W.Refused e) = D.Bad e.pos (K.Elab e.kind)
in_declaration W.NoMemory = D.NoMemory

-- K holds of the refusal that an error is; its ids stand in the pool
abbrev pub RefusedBy : Pool → (Refusal → Type 0) → DataError → Type 0
RefusedBy p K (D.Bad q k) = IsBelow (length p.trees) k × K (at q (kind_in p k))
RefusedBy p K D.NoMemory = Unit {0}

-- K holds of the outcome that an answer is: a value is what f makes of it, and W holds of it; an error is the refusal
abbrev pub Answers : {A B : Type 0} → Pool → (B → Type 0) → (B → A) → (Outcome Refusal A → Type 0) → Result B DataError → Type 0
Answers p W f K (Ok b) = W b × K (Gives (f b))
Answers p W f K (Err e) = RefusedBy p (λ r. K (Refuses r)) e
