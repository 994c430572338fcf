-- Types that are families: what a constructor can be put for.
use Rattle.std.specs.Prelude.{ℕ, ◌++◌, not, ◌&&◌, eqb, cond, List, length, take, drop, Option, None, option_map, option_and_then}
use Rattle.core_rules.specs.Term.{Term, Fam}
use Rattle.core_rules.specs.Signature.{ConDecl, FamDecl, Signature, fam_decl, con_place, con_decl}
use Rattle.core_rules.specs.Heads.{Answer, Form, Blocked}
use Rattle.kernel_rules.specs.TermReading.{arguments_for}

pub record AtFamily : Type 0 where
  pub fam : ℕ
  pub decl : FamDecl Term
  pub params : List Term
  pub indices : List Term

abbrev pub at_arguments : ℕ → FamDecl Term → List Term → AtFamily
at_arguments d decl us = record { fam = d; decl = decl; params = take (length decl.params) us; indices = drop (length decl.params) us }

-- the family that a head form is, at all its parameters and indices
abbrev pub at_family : Signature Term → Answer → Option AtFamily
at_family g (Form (Fam d) es) = option_and_then (λ decl. option_map (at_arguments d decl) (arguments_for (decl.params ++ decl.indices) es)) (fam_decl g d)
at_family g (Form h es) = None
at_family g (Blocked m h es) = None

pub record AtCon : Type 0 where
  pub at : AtFamily
  pub con : ConDecl Term

-- a family that constructor k can be put for: its own, a data type or a record that is not coinductive
abbrev pub with_own : Signature Term → ℕ → AtFamily → Option AtCon
with_own g k a =
    option_and_then (λ p. cond (eqb p.0 a.fam && not a.decl.coinductive) (option_map (λ c. record { at = a; con = c }) (con_decl g k)) None) (con_place g k)

abbrev pub at_con : Signature Term → ℕ → Answer → Option AtCon
at_con g k w = option_and_then (with_own g k) (at_family g w)
