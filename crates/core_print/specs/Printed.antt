-- Terms in print.
use Rattle.std.specs.Prelude.{◌≡◌, ℕ, Bool, true, false, cond, nat_eq, nat_lt, List, [], ◌∷◌, ◌++◌, get_or, codes}
use Rattle.std.specs.Option.{option_map_or}
use Rattle.std.specs.Fmt.{decimal}
use Rattle.core_rules.specs.declared.Flag.{Flag}
use Rattle.core_rules.specs.declared.Flag.TheVariants.{Explicit, Implicit}
use Rattle.core_rules.specs.Term.{Term, Var, Sort, Pi, Lam, App, Def, Fam, Con, Proj, Meta, size, occurs}
use Rattle.core_rules.specs.Substitution.{replace}
use Rattle.core_rules.specs.Heads.{Solutions}
use Rattle.core_rules.specs.InScope.{IsAcyclic}
use Rattle.core_rules.specs.Bounded.{full}
use Rattle.core_rules.specs.Signature.{Telescope}
use Rattle.core_print.specs.Apart.{Text}
use Rattle.core_print.specs.Names.{World, hole_from, unknown, def_text, fam_text, con_text, field_text, binder_name, context_names}

-- ---- the pieces

-- the arrow and the lambda are U+2192 and U+03BB, and stand in UTF-8
abbrev pub arrow : Text
arrow = 32 ∷ 226 ∷ 134 ∷ 146 ∷ 32 ∷ []

abbrev pub lambda : Text
lambda = 206 ∷ 187 ∷ 32 ∷ []

abbrev pub sort_text : ℕ → Text
sort_text n = cond (nat_eq n 0) (codes "Set") (codes "Set" ++ decimal n)

-- a hole is `?` and the number of its goal, any other metavariable `_`
abbrev pub meta_text : World → ℕ → Text
meta_text w m = option_map_or (λ n. codes "?" ++ decimal n) (hole_from 0 w.holes m) (codes "_")

abbrev pub parens_if : Bool → Text → Text
parens_if b x = cond b (codes "(" ++ (x ++ codes ")")) x

-- what stands before the codomain of a function type: `A → `, `(y : A) → ` or `{y : A} → `. The second is whether its variable
-- occurs, the last two are the domain in its parentheses and without
abbrev pub domain_text : Flag → Bool → Text → Text → Text → Text
domain_text Explicit false y within a = within ++ arrow
domain_text Explicit true y within a = codes "(" ++ (y ++ (codes " : " ++ (a ++ (codes ")" ++ arrow))))
domain_text Implicit o y within a = codes "{" ++ (y ++ (codes " : " ++ (a ++ (codes "}" ++ arrow))))

-- what stands before the body of a lambda: `λ y → ` or `λ {y} → `
abbrev pub lambda_text : Flag → Text → Text
lambda_text Explicit y = lambda ++ (y ++ arrow)
lambda_text Implicit y = lambda ++ (codes "{" ++ (y ++ (codes "}" ++ arrow)))

-- ---- parentheses, by what is printed

-- a function type or a lambda; an application or a projection; anything else. An implicit argument is not printed, so an
-- application to one is of the kind of what it applies
pub data Kind : Type 0 where
  Binds : Kind
  Applies : Kind
  Stands : Kind

abbrev pub kind : Term → Kind
kind (Var i) = Stands
kind (Sort n) = Stands
kind (Pi b x a t) = Binds
kind (Lam b x a t) = Binds
kind (App Explicit t u) = Applies
kind (App Implicit t u) = kind t
kind (Def f) = Stands
kind (Fam d) = Stands
kind (Con k ts) = Stands
kind (Proj f t) = Applies
kind (Meta m ts) = Stands

-- in front, as the domain of an arrow, the head of an application and the term before a projection, function types and lambdas are in
-- parentheses
abbrev pub in_front : Kind → Bool
in_front Binds = true
in_front Applies = false
in_front Stands = false

-- as an argument, what is no atom is in parentheses
abbrev pub as_argument : Kind → Bool
as_argument Binds = true
as_argument Applies = true
as_argument Stands = false

-- ---- terms

module _ (w : World) where
  -- t in print, where ns are the names of its variables, innermost first
  abbrev pub shown : List Text → Term → Text
  shown ns (Var i) = get_or ns i unknown
  shown ns (Sort n) = sort_text n
  shown ns (Pi b x a t) =
      domain_text b (occurs 0 t) (binder_name w ns x) (parens_if (in_front (kind a)) (shown ns a)) (shown ns a) ++ shown (binder_name w ns x ∷ ns) t
  shown ns (Lam b x a t) = lambda_text b (binder_name w ns x) ++ shown (binder_name w ns x ∷ ns) t
  shown ns (App Explicit t u) =
      parens_if (in_front (kind t)) (shown ns t) ++ (codes " " ++ parens_if (as_argument (kind u)) (shown ns u))
  shown ns (App Implicit t u) = shown ns t
  shown ns (Def f) = def_text w f
  shown ns (Fam d) = fam_text w d
  shown ns (Con k ts) = con_text w k
  shown ns (Proj f t) = parens_if (in_front (kind t)) (shown ns t) ++ (codes " ." ++ field_text w f)
  shown ns (Meta m ts) = meta_text w m

-- a term of more nodes than these is cut short
abbrev pub most_nodes : ℕ
most_nodes = 10000

-- the text of a term in which no metavariable is solved
abbrev pub term_text : World → List Text → Term → Text
term_text w ns t = cond (nat_lt most_nodes (size t)) (codes "...") (shown w ns t)

-- x is the text of t with the solved metavariables replaced, where ns are the names of its variables, innermost first
abbrev pub IsTextOf : World → Solutions → List Text → Term → Text → Type 0
IsTextOf w s ns t x = (a : IsAcyclic s) → x ≡ term_text w ns (replace (full s a) t)

-- x is the text of t in the context c, with the solved metavariables of t replaced
pub record PrintsTerm (w : World) (s : Solutions) (c : Telescope ℕ) (t : Term) (x : Text) : Type 0 where
  pub acyclic : IsAcyclic s
  pub is : x ≡ term_text w (context_names w c) (replace (full s acyclic) t)
