-- A term of a split is in scope in the context of a constructor.
use Rattle.core_rules.specs.InScope.{any_meta, in_store, solved_at}
use Rattle.core_rules.proofs.Scope.Opened.{with-in_scope}
use Rattle.core_rules.proofs.scope_laws.with_constructor_in_scope.Goals as goal

pub returns : goal.returns
returns c = (λ g s k con t e i h. with-in_scope g any_meta s k e i con.args t h, λ counts. λ g s k con t e i h. with-in_scope g (in_store counts) s k e i con.args t h, λ solved. λ g s k con t e i h. with-in_scope g (solved_at solved) s k e i con.args t h)
