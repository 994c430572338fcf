-- A function with its clauses: derivable where it is without them, covered where the declared tree follows them, and then they hold.
use Rattle.std.specs.Prelude.{◌≡◌, ℕ, List, [], ◌∷◌, ◌++◌, map, Some}
use Rattle.std.proofs.Common.{sym, ◌∙◌, subst as transport}
use Rattle.core_rules.specs.Term.{Term}
use Rattle.core_rules.specs.Signature.{Signature, CoreClause, Tree, Function, def_decl}
use Rattle.core_rules.specs.Derivable as D
use Rattle.core_rules.specs.Derivable.{Derivable, Good}
use Rattle.core_rules.specs.Laws.{ClausesHaveNoMeta}
use Rattle.match_rules.specs.Matching.{clause_of}
use Rattle.match_rules.specs.Covering.{Covers}
use Rattle.core_rules.specs.InScope.{ClausesInScope, any_meta}
use Rattle.match_rules.specs.Laws.{IsCovered, HoldsByClauses}
use Rattle.core_rules.proofs.Signature.Growth.{derivable-extended}
use Rattle.core_rules.proofs.Typing.NoMeta.{good-no_meta}
use Rattle.core_rules.proofs.Trees.Scoped.{derivable-in_scope}
use Rattle.core_rules.proofs.Trees.Regular.{derivable-typed}
use Rattle.match_rules.proofs.Cover.First.{clause_holds}

-- its tree alone is typed
pub with_clauses : (g : Signature Term) (x : ℕ) (a : Term) (qs rs : List (CoreClause Term)) (T : Tree Term) → Derivable g → Good g (Function x a qs T) → ClausesHaveNoMeta (Function x a rs T) → Derivable (g ++ Function x a rs T ∷ [])
with_clauses g x a qs rs T d (D.function h t) k = derivable-extended g (Function x a rs T) d (D.function h t) (good-no_meta g (Function x a rs T) (D.function h t) k)

same_function : {x y : ℕ} {a b : Term} {qs rs : List (CoreClause Term)} {S R : Tree Term} → Some (Function x a qs S) ≡ Some (Function y b rs R) → (qs ≡ rs) × (S ≡ R)
same_function e = (cc e, cc e)

pub covered_as : (g : Signature Term) (f x : ℕ) (a : Term) (qs : List (CoreClause Term)) (T : Tree Term) → def_decl g f ≡ Some (Function x a qs T) → Covers g (map (clause_of g) qs) 0 [] T → IsCovered g f
covered_as g f x a qs T d c y b rs S e =
    let p = same_function (sym d ∙ e) in
    transport (λ S. Covers g (map (clause_of g) rs) 0 [] S) p.1 (transport (λ qs. Covers g (map (clause_of g) qs) 0 [] T) p.0 c)

pub holds_by_clauses : (g : Signature Term) (f : ℕ) → Derivable g → ClausesInScope g any_meta → IsCovered g f → HoldsByClauses g f
holds_by_clauses g f d s v = (d, s, v, λ i. clause_holds g (derivable-in_scope g d) (derivable-typed g d) f v i)
