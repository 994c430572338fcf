-- A term is printed with its solved metavariables replaced.
use Rattle.std.proofs.Common.{◌≡◌, ℕ, List, ap, ◌∙◌}
use Rattle.core_rules.specs.Bounded.{full}
use Rattle.core_rules.specs.Heads.{Solutions}
use Rattle.core_rules.proofs.Heads.FullSolutions.{full_is_full}
use Rattle.core_terms.specs.Solutions.{IsInstance}
use Rattle.term_pool.specs.Pool.{Pool, tree}
use Rattle.core_print.specs.Apart.{Text}
use Rattle.core_print.specs.Names.{World}
use Rattle.core_print.specs.Printed.{IsTextOf, term_text}

pub instance_is : (w : World) (p q : Pool) (s : Solutions) (ns : List Text) (t r : ℕ) (x : Text) → IsInstance q s (tree p t) r
    → x ≡ term_text w ns (tree q r) → IsTextOf w s ns (tree p t) x
instance_is w p q s ns t r x h e = λ a. e ∙ ap (term_text w ns) (h.is (full s a) (full_is_full s a))
