-- Lambdas and function types around what stands inside them.
use Rattle.std.specs.Prelude.{ℕ, ◌<◌, max, List, [], ◌∷◌, length, map, Result, Ok, Err}
use Rattle.core_rules.specs.Term.{Term, Pi, Lam}
use Rattle.core_rules.specs.Signature.{Entry, Telescope}
use Rattle.core_rules.specs.Mapped.{AllEntries, telescope_map}
use Rattle.term_pool.specs.declared.node.Node.{Node}
use Rattle.term_pool.specs.declared.node.Node.TheVariants as N
use Rattle.el_outside.specs.declared.place.Pos.{Pos}
use Rattle.kernel_rules.specs.Outcome.{Outcome, Gives, Refuses}
use Rattle.written_rules.specs.Refusals.{Refusal}
use Rattle.written_rules.specs.Rules.{Checks, Types, BinderMeaning, agrees}
use Rattle.elab_machine.specs.declared.error.WrittenError.{WrittenError}
use Rattle.elab_machine.specs.declared.binders.Binding.{Binding}
use Rattle.elab_machine.specs.declared.binders.Binding.TheVariants.{Lambda, Function}
use Rattle.elab_machine.specs.declared.binders.Lambdas as L
use Rattle.elab_machine.specs.declared.binders.Domains as D
use Rattle.elab_machine.specs.declared.binders.Typed as T
use Rattle.resolved_tree.specs.declared.resolved.ResolvedExpr.{ResolvedExpr}
use Rattle.resolved_tree.specs.declared.resolved.ResolvedBinder.{ResolvedBinder}
use Rattle.resolved_tree.specs.declared.resolved.ResolvedName.{ResolvedName}
use Rattle.written_rules.specs.Expressions.{expr_meaning, binder_meaning}
use Rattle.term_pool.specs.Pool.{Pool, tree}
use Rattle.elab_machine.specs.declared.writer.Writer.{Writer}
use Rattle.elab_machine.specs.Answers.{RefusedBy}
use Rattle.elab_machine.specs.Writer.{Read, Enters, IsEntered, over, term_of, values_of, signature_of}

abbrev pub binder : Binding → Entry Term → Term → Term
binder Lambda e t = Lam e.flag e.name e.ty t
binder Function e t = Pi e.flag e.name e.ty t

-- the entries around t, the first one outermost
abbrev pub bound : Binding → Telescope Term → Term → Term
bound b [] t = t
bound b (e ∷ es) t = binder b e (bound b es t)

-- what a lambda comes to, by what its body comes to
abbrev pub in_lambdas : Telescope Term → Outcome Refusal Term → Outcome Refusal Term
in_lambdas es (Gives t) = Gives (bound Lambda es t)
in_lambdas es (Refuses e) = Refuses e

-- what a function type comes to, by what its codomain comes to; n is the greatest level of the domains
abbrev pub in_functions : Telescope Term → ℕ → Outcome Refusal (Term × ℕ) → Outcome Refusal (Term × ℕ)
in_functions es n (Gives c) = Gives (bound Function es c.0, max n c.1)
in_functions es n (Refuses e) = Refuses e

-- The binders that W puts around a body are entered: whatever is read inside them, the whole comes to what that comes to, with the entries
-- around it. b is the type at which the whole is checked
pub record AreLambdas (x y : Writer) (W : Checks → Checks) (b : Term) (w : L.Lambdas) : Type 0 where
  pub enters : Enters x y
  pub within : AllEntries (λ t. t < length y.pool.now.trees) w.entries.items
  pub wanted : w.wanted < length y.pool.now.trees
  pub reading : (e : Checks) (r : Outcome Refusal Term) → Read (over x) (e (values_of y) (term_of y w.wanted)) r
      → Read (over x) (W e (values_of x) b) (in_lambdas (telescope_map (term_of y) w.entries.items) r)

-- or they are refused, whatever would be inside
abbrev pub AnswersLambdas : Writer → Writer → (Checks → Checks) → Term → Result L.Lambdas WrittenError → Type 0
AnswersLambdas x y W b (Ok w) = AreLambdas x y W b w
AnswersLambdas x y W b (Err e) = (k : Checks) → RefusedBy y.pool.now (λ r. Read (over x) (W k (values_of x) b) (Refuses r)) e

-- the same of the domains that W puts before a codomain
pub record AreDomains (x y : Writer) (W : Types → Types) (w : D.Domains) : Type 0 where
  pub enters : Enters x y
  pub within : AllEntries (λ t. t < length y.pool.now.trees) w.entries.items
  pub reading : (e : Types) (r : Outcome Refusal (Term × ℕ)) → Read (over x) (e (values_of y)) r
      → Read (over x) (W e (values_of x)) (in_functions (telescope_map (term_of y) w.entries.items) w.level r)

abbrev pub AnswersDomains : Writer → Writer → (Types → Types) → Result D.Domains WrittenError → Type 0
AnswersDomains x y W (Ok w) = AreDomains x y W w
AnswersDomains x y W (Err e) = (k : Types) → RefusedBy y.pool.now (λ r. Read (over x) (W k (values_of x)) (Refuses r)) e

-- the node of an entry around id t
abbrev pub node_of : Binding → Entry ℕ → ℕ → Node
node_of Lambda e t = N.Lam e.flag e.name e.ty t
node_of Function e t = N.Pi e.flag e.name e.ty t

-- the name is bound before more names of its group, where id a is the wanted type b
abbrev pub AnswersCompared : Writer → Writer → Pos → ℕ → ℕ → ℕ → List ResolvedName → Result ℕ WrittenError → Type 0
AnswersCompared x y p name a b more (Ok t) = IsEntered x y name a more t × Read (over x) (agrees p (term_of x a) (term_of x b)) (Gives tt)
AnswersCompared x y p name a b more (Err e) = RefusedBy y.pool.now (λ r. Read (over x) (agrees p (term_of x a) (term_of x b)) (Refuses r)) e

-- ---- expressions

-- the expression at the type b, and as a type
abbrev pub ChecksExpr : Writer → ResolvedExpr → Term → Outcome Refusal Term → Type 0
ChecksExpr x e b = Read (over x) ((expr_meaning (signature_of x) e).checks (values_of x) b)

abbrev pub TypesExpr : Writer → ResolvedExpr → Outcome Refusal (Term × ℕ) → Type 0
TypesExpr x e = Read (over x) ((expr_meaning (signature_of x) e).types (values_of x))

-- the binders as the rules see them
abbrev pub binders_in : Writer → List ResolvedBinder → List BinderMeaning
binders_in x bs = map (binder_meaning (signature_of x)) bs

-- a type and its level
abbrev pub AnswersTyped : Pool → (Outcome Refusal (Term × ℕ) → Type 0) → Result T.Typed WrittenError → Type 0
AnswersTyped p K (Ok w) = (w.term < length p.trees) × K (Gives (tree p w.term, w.level))
AnswersTyped p K (Err e) = RefusedBy p (λ r. K (Refuses r)) e
