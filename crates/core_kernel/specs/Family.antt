-- The reading of telescopes and constructors by a checker.
use Rattle.std.specs.Prelude.{◌≡◌, ℕ, List, [], ◌++◌}
use Rattle.core_rules.specs.Term.{Term}
use Rattle.core_rules.specs.Signature.{Entry, ConDecl, FamDecl, Telescope, Signature, onto}
use Rattle.kernel_rules.specs.Outcome.{Outcome, Gives, Then}
use Rattle.kernel_rules.specs.Refusals.{Refusal, DeclRefusal}
use Rattle.kernel_rules.specs.FamilyReading.{LevelsOf, ConOf, ConsOf}
use Rattle.core_kernel.specs.declared.checker.Checker.{Checker}
use Rattle.core_kernel.specs.Checker.{Over}

-- the entries are the innermost ones of the context, and what else terms are read over is the same
pub record Enters (x y : Checker) (es : List (Entry ℕ)) : Type 0 where
  pub signature : y.signature.now ≡ x.signature.now
  pub context : y.context.now.items ≡ x.context.now.items ++ es
  pub limits : y.limits ≡ x.limits

abbrev pub Levels : Over → Telescope Term → Outcome Refusal (List ℕ) → Type 0
Levels o es = LevelsOf o.signature o.fuel o.depth o.context es

-- a constructor of family number n, whose parameters are the context
abbrev pub ReadsCon : Over → ℕ → FamDecl Term → ConDecl Term → Outcome DeclRefusal (Unit {0}) → Type 0
ReadsCon o n d k = ConOf o.signature o.fuel o.depth n d k

abbrev pub ReadsCons : Over → ℕ → FamDecl Term → List (ConDecl Term) → Outcome DeclRefusal (Unit {0}) → Type 0
ReadsCons o n d ks = ConsOf o.signature o.fuel o.depth n d ks

abbrev pub IsDone : Outcome Refusal (Unit {0}) → Type 0
IsDone r = r ≡ Gives tt

-- the parameters and the indices of a family
abbrev pub TelescopesOf : Signature Term → ℕ → ℕ → FamDecl Term → Outcome Refusal (Unit {0}) → Type 0
TelescopesOf g fuel depth d = Then (LevelsOf g fuel depth [] d.params) (λ ns. Then (LevelsOf g fuel depth (onto d.params []) d.indices) (λ ms. IsDone))
