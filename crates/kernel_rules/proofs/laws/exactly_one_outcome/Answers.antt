use Rattle.std.proofs.Common.{refl}
use Rattle.std.specs.Prelude.{length}
use Rattle.kernel_rules.proofs.OneTerm.{one_infer, one-is_type, one-checked}
use Rattle.kernel_rules.proofs.TermOutcome.{infer-outcome, is_type-outcome, checked-outcome}
use Rattle.kernel_rules.proofs.laws.exactly_one_outcome.Goals as goal

pub returns : goal.returns
returns c = λ g fuel depth k t a s.
    let i = infer-outcome g fuel depth k (length k) t refl s in
    let m = is_type-outcome g fuel depth k (length k) t refl s in
    let n = checked-outcome g fuel depth k (length k) t a refl s in
    ((i.0, i.1, λ q y. one_infer g fuel depth k t q i.0 y i.1), (m.0, m.1, λ q y. one-is_type g fuel depth k t q m.0 y m.1), (n.0, n.1, λ q y. one-checked g fuel depth k t a q n.0 y n.1))
