-- The case tree of addition is typed, so the natural numbers with it are derivable.
use Rattle.std.specs.Prelude.{◌≡◌, ℕ, [], ◌∷◌, ◌++◌, slice_get, Some, refl, zero, suc}
use Rattle.std.proofs.Common.{subst, arith}
use Rattle.core_rules.specs.declared.Flag.TheVariants.{Explicit}
use Rattle.core_rules.specs.Term.{Term, Var, Pi, Def, HasNoMeta}
use Rattle.core_rules.specs.Signature.{Signature, Context, Family, Open, Function, onto, def_type}
use Rattle.core_rules.specs.Mapped.{AllDecl}
use Rattle.core_rules.specs.Conversion as C
use Rattle.core_rules.specs.Typing as T
use Rattle.core_rules.specs.Typing.{Typing, entry}
use Rattle.core_rules.specs.Unification as U
use Rattle.core_rules.specs.Unification.{Realises}
use Rattle.core_rules.specs.TypedTree as Y
use Rattle.core_rules.specs.TypedTree.{IsAt, TypedTree}
use Rattle.core_rules.specs.Derivable as D
use Rattle.core_rules.specs.Derivable.{Derivable}
use Rattle.core_rules.specs.Examples.{nat, suc_con}
use Rattle.core_rules.specs.Addition.{addition, nat_type, plus_tree, plus_term, suc_term, at_zero, at_suc}
use Rattle.core_rules.proofs.Signature.Growth.{derivable-extended}
use Rattle.core_rules.proofs.Derivations.{derivable-empty, good_nat, no_metas}

abbrev pub plus_type : Term
plus_type = Pi Explicit 0 nat_type (Pi Explicit 0 nat_type nat_type)

-- with any declarations between, where plus is function 0
module _ (between : Signature Term) (is : def_type (Family nat ∷ (between ++ Open 3 plus_type ∷ [])) 0 ≡ Some plus_type) where
  abbrev known : Signature Term
  known = Family nat ∷ (between ++ Open 3 plus_type ∷ [])

  abbrev number : Context Term
  number = entry Explicit 0 nat_type ∷ []

  abbrev numbers : Context Term
  numbers = entry Explicit 0 nat_type ∷ number

  abbrev at_first : IsAt known numbers 1 0
  at_first = record { entry = entry Explicit 0 nat_type; decl = nat; params = []; indices = []; stands = refl; is_decl = refl; as_many = refl; as_many_indices = refl; is = C.same }

  var_typed : (c : Context Term) (i x : ℕ) → slice_get c i ≡ Some (entry Explicit x nat_type) → Typing known c (Var i) nat_type
  var_typed c i x e = T.var e

  keeps_one : (j k : ℕ) → slice_get (0 ∷ []) j ≡ Some k → slice_get (Var 0 ∷ []) k ≡ Some (Var j)
  keeps_one zero k e = let p : 0 ≡ k = cc e in subst (λ k. slice_get (Var 0 ∷ []) k ≡ Some (Var 0)) p refl
  keeps_one (suc j) k e = absurd cc

  keeps_two : (j k : ℕ) → slice_get (0 ∷ 1 ∷ []) j ≡ Some k → slice_get (Var 0 ∷ Var 1 ∷ []) k ≡ Some (Var j)
  keeps_two zero k e = let p : 0 ≡ k = cc e in subst (λ k. slice_get (Var 0 ∷ Var 1 ∷ []) k ≡ Some (Var 0)) p refl
  keeps_two (suc zero) k e = let p : 1 ≡ k = cc e in subst (λ k. slice_get (Var 0 ∷ Var 1 ∷ []) k ≡ Some (Var 1)) p refl
  keeps_two (suc (suc j)) k e = absurd cc

  zero_realises : Realises known number [] (onto at_zero.context []) at_zero.values at_zero.keep
  zero_realises = record {
    joins = record { long = refl; scoped = (omega arith, tt); values = tt; as_many = refl; kept = keeps_one };
    formed = T.extended T.empty (record { level = 0; holds = T.fam refl });
    fits = T.more T.none (var_typed number 0 0 refl);
  }

  -- the argument of suc, and the second number
  abbrev after_suc : Context Term
  after_suc = entry Explicit 0 nat_type ∷ entry Explicit 3 nat_type ∷ []

  suc_realises : Realises known after_suc [] (onto at_suc.context []) at_suc.values at_suc.keep
  suc_realises = record {
    joins = record { long = refl; scoped = (omega arith, (omega arith, tt)); values = tt; as_many = refl; kept = keeps_two };
    formed = T.extended (T.extended T.empty (record { level = 0; holds = T.fam refl })) (record { level = 0; holds = T.fam refl });
    fits = T.more (T.more T.none (var_typed numbers 1 0 refl)) (var_typed numbers 0 0 refl);
  }

  plus_typed_at : Typing known numbers (plus_term (Var 1) (Var 0)) nat_type
  plus_typed_at = T.app {v = nat_type} (T.app {v = Pi Explicit 0 nat_type nat_type} (T.def is) (var_typed numbers 1 0 refl)) (var_typed numbers 0 0 refl)

  suc_typed_at : Typing known numbers (suc_term (plus_term (Var 1) (Var 0))) nat_type
  suc_typed_at = T.app {v = nat_type} (T.con (record { fam = 0; at = 1; decl = nat; con = suc_con; place = refl; is_decl = refl; is_con = refl }) T.none) plus_typed_at

  pub plus_typed : TypedTree known [] plus_tree plus_type (Def 0)
  plus_typed = Y.intro C.same (Y.intro C.same (Y.split at_first (record { no_eta = refl; inductive = refl })
      (Y.goes {ss = []} (record { types = _; steps = U.stop }) zero_realises (Y.leaf (var_typed number 0 0 refl))
      (Y.goes {ss = []} (record { types = _; steps = U.stop }) suc_realises (Y.leaf suc_typed_at) Y.no_con))))

pub plus_no_meta : AllDecl HasNoMeta (Function 3 plus_type [] plus_tree)
plus_no_meta = (
  (tt, (tt, tt)),
  tt,
  (
    record { context = (tt, tt); values = (tt, tt) },
    tt,
    (record { context = (tt, (tt, tt)); values = (tt, (tt, tt)) }, (tt, ((tt, tt), tt)), tt),
  ),
)

pub derivation : Derivable addition
derivation =
    let a : Signature Term = Family nat ∷ [] in
    let one : Derivable a = derivable-extended [] (Family nat) derivable-empty good_nat no_metas.0 in
    let typed : Typing a [] plus_type (Rattle.core_rules.specs.Term.Sort 0) = T.pi {m = 0} {n = 0} (T.fam refl) (T.pi {m = 0} {n = 0} (T.fam refl) (T.fam refl)) in
    derivable-extended a (Function 3 plus_type [] plus_tree) one (D.function (record { level = 0; holds = typed }) (plus_typed [] refl)) plus_no_meta
