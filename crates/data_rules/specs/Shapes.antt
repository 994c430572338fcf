-- Types by their head forms: the function types that a type shows, and what it ends in.
use Rattle.std.specs.Prelude.{ℕ, ◌+◌, cond, eqb, ltb, List, [], ◌∷◌, ◌++◌, Option, Some, None, zero, suc}
use Rattle.core_rules.specs.declared.Flag.{Flag}
use Rattle.core_rules.specs.Term.{Term, Var, Sort, Pi, Fam}
use Rattle.core_rules.specs.Signature.{Telescope, FamDecl}
use Rattle.core_rules.specs.Typing.{entry}
use Rattle.core_rules.specs.Heads.{Answer, Form}
use Rattle.kernel_rules.specs.Outcome.{Outcome, Gives, Refuses}
use Rattle.kernel_rules.specs.TermReading.{arguments_for}
use Rattle.el_outside.specs.declared.place.Pos.{Pos}
use Rattle.written_rules.specs.Asking.{Is}
use Rattle.written_rules.specs.Rules.{shows}
use Rattle.data_rules.specs.Refusals.{Refusal, Kind, BadSort, ConShape, TooBig, at}
use Rattle.data_rules.specs.Reading.{Reads, ◌>>=◌, elaborated, gives, refused}

-- ---- function types

-- the domains of the function types that a type shows, outermost first, and the head form of what is below them
pub record Shown : Type 0 where
  pub entries : Telescope Term
  pub end : Answer

abbrev pub behind : Flag → ℕ → Term → Shown → Shown
behind b x a s = record { entries = entry b x a ∷ s.entries; end = s.end }

-- by a head form: that of a function type, whose codomain is read by `below`, or the end
abbrev pub by_head : Answer → (Term → Reads Shown) → Reads Shown
by_head (Form (Pi b x a t) []) below = below t >>= (λ s. gives (behind b x a s))
by_head w below = gives (record { entries = []; end = w })

-- The type a, in the test that stands at p: so many function types at most, each by its head form. One more is refused as k. It does not
-- unfold by itself, since the number is large
unfoldable pub telescope : Pos → Kind → ℕ → Term → Reads Shown
telescope p k zero a = elaborated (shows p a) (λ w. by_head w (λ t. refused p k))
telescope p k (suc n) a = elaborated (shows p a) (λ w. by_head w (telescope p k n))

-- so many function types may the type of a family and of a constructor show
abbrev pub most_shown : ℕ
most_shown = 2000

-- ---- the end of a family's type

-- the level of the sort that the end is
abbrev pub level_or : Pos → Answer → Outcome Refusal ℕ
level_or p (Form (Sort n) []) = Gives n
level_or p w = Refuses (at p BadSort)

-- ---- the end of a constructor's type

-- the arguments of family number d, where the end is this family at all its parameters and indices
abbrev pub own_arguments : ℕ → FamDecl Term → Answer → Option (List Term)
own_arguments d decl (Form (Fam k) es) = cond (eqb k d) (arguments_for (decl.params ++ decl.indices) es) None
own_arguments d decl w = None

abbrev pub arguments_or : Pos → Option (List Term) → Outcome Refusal (List Term)
arguments_or p None = Refuses (at p ConShape)
arguments_or p (Some us) = Gives us

-- the head form of an argument is variable i
abbrev pub is_variable : Pos → ℕ → Answer → Outcome Refusal (Unit {0})
is_variable p i (Form (Var j) []) = cond (eqb j i) (Gives tt) (Refuses (at p ConShape))
is_variable p i w = Refuses (at p ConShape)

-- the first n of the terms are, by their head forms, the n parameters in order, inside which there are k entries more: gives the others,
-- which are the indices
abbrev pub own_params : Pos → ℕ → ℕ → List Term → Reads (List Term)
own_params p k zero us = gives us
own_params p k (suc n) [] = refused p ConShape
own_params p k (suc n) (u ∷ us) = elaborated (shows p u) (λ w. Is (is_variable p (k + n) w) >>= (λ o. own_params p k n us))

-- ---- levels

-- the level n is not above the family's
abbrev pub level_fits : Pos → ℕ → ℕ → Outcome Refusal (Unit {0})
level_fits p l n = cond (ltb l n) (Refuses (at p TooBig)) (Gives tt)
