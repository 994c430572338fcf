-- The declarations read by hand that are refused, question by question.
use Rattle.std.proofs.Common.{[], ◌∷◌, refl}
use Rattle.core_rules.specs.declared.Flag.TheVariants.{Explicit}
use Rattle.core_rules.specs.Term.{Term, Var, Sort, Pi, App, Fam}
use Rattle.core_rules.specs.Signature.{Signature, Family, FamDecl}
use Rattle.core_rules.specs.Elimination.{Arg}
use Rattle.core_rules.specs.Typing.{entry}
use Rattle.core_rules.specs.Examples.{nat}
use Rattle.core_rules.specs.Addition.{nat_type}
use Rattle.core_rules.specs.Heads.{Form, Within}
use Rattle.core_rules.specs.Bounded.{Yes}
use Rattle.kernel_rules.specs.Outcome.{goes_on, stops}
use Rattle.resolved_tree.specs.declared.resolved.ResolvedExpr.TheVariants as r
use Rattle.written_rules.specs.Refusals.{NotAType}
use Rattle.written_rules.proofs.Forms.{arrow_means, pi_means, app_means, variable_means, family_means, con_means, set_means, record_means, plain_means, explicit_binds, implicit_binds}
use Rattle.written_rules.proofs.Told.{form_told, applied_told, twice_told, itself_told}
use Rattle.data_rules.specs.Shapes.{telescope}
use Rattle.data_rules.specs.Refusals.{BadSort, Elab, at}
use Rattle.data_rules.specs.Examples.{NoSorts, ParameterNoType, OwnRecord, EndsInSort, FirstCounts, ParametersSwapped, ParameterShadowed, SecondArgumentTooBig, FieldTooBig, numbers}
use Rattle.data_rules.proofs.Told.{form, alone, plain_family, S0, set_told}

pub no_sorts : NoSorts
unfolding telescope
no_sorts fuel d p a b c x =
    let to = Pi Explicit 0 nat_type S0 in (
      stops (at a.pos BadSort) (rw (family_means numbers a 0) (form S0, set_told numbers fuel 0, (form nat_type, form_told numbers fuel nat_type tt, refl))) refl,
      stops (at a.pos BadSort)
          (rw (arrow_means numbers a, family_means numbers b 0, set_means numbers c 0) (form S0, set_told numbers fuel 0, (form to, form_told numbers fuel to tt, refl))) refl,
    )

pub parameter_no_type : ParameterNoType
parameter_no_type fuel d p i a j b k l c x A y z = (
  stops (at a.pos (Elab (NotAType nat_type))) (rw (explicit_binds numbers i, con_means numbers a 0) (form nat_type, form_told numbers fuel nat_type tt, refl)) refl,
  stops (at a.pos (Elab (NotAType nat_type)))
      (rw (explicit_binds numbers i, implicit_binds numbers k, explicit_binds numbers k, set_means numbers j 0, variable_means numbers l 0, con_means numbers a 0)
      (form S0, set_told numbers fuel 0, (form nat_type, form_told numbers fuel nat_type tt, refl))) refl,
)

pub own_record : OwnRecord
unfolding telescope
own_record fuel d p a h i q k b c t v e x y z =
    let o = plain_family x.id [] 1 in
    let g = alone o in
    let to = Pi Explicit 0 (Fam 0) S0 in
    goes_on o (rw (set_means [] a 1) (form (Sort 1), set_told [] fuel 1, refl))
    (rw (pi_means g q, explicit_binds g k, arrow_means g k, family_means g b 0, set_means g c 0, app_means g t, variable_means g v 0, plain_means g (r.Record e []), record_means g e [])
    (form (Sort 1), set_told g fuel 1, (form to, form_told g fuel to tt, (form (Fam 0), form_told g fuel (Fam 0) tt, refl))))

pub ends_in_sort : EndsInSort
unfolding telescope
ends_in_sort fuel d p a i b x y =
    let o = plain_family x.id [] 0 in
    goes_on o (rw (set_means [] a 0) (form S0, set_told [] fuel 0, refl)) (rw (set_means (alone o) b 0) (form S0, set_told (alone o) fuel 0, refl))

-- what the signature knows beside the numbers
abbrev beside : FamDecl Term → Signature Term
beside o = Family nat ∷ Family o ∷ []

pub first_counts : FirstCounts
unfolding telescope
first_counts fuel d p a i b j c x y z =
    let o = plain_family x.id [] 0 in (
      goes_on o (rw (set_means numbers a 0) (form S0, set_told numbers fuel 0, refl)) (rw (set_means (beside o) b 0) (form S0, set_told (beside o) fuel 0, refl)),
      goes_on o (rw (set_means numbers a 0) (form S0, set_told numbers fuel 0, refl)) (rw (con_means (beside o) c 0) (form nat_type, form_told (beside o) fuel nat_type tt, refl)),
    )

pub parameters_swapped : ParametersSwapped
unfolding telescope
parameters_swapped fuel d p i j q k t u v w x A B y =
    let o = plain_family x.id (entry Explicit A.id S0 ∷ entry Explicit B.id S0 ∷ []) 0 in
    let g = alone o in
    let below = Pi Explicit B.id S0 S0 in
    let to = Pi Explicit A.id S0 below in
    let set = set_told g fuel 0 in
    let same = itself_told g fuel d S0 in
    goes_on o (rw (explicit_binds [] i, set_means [] j 0, set_means [] q 0) (form S0, set_told [] fuel 0, refl))
    (rw (app_means g t, family_means g u 0, plain_means g (r.Variable v 0), plain_means g (r.Variable w 1), variable_means g v 0, variable_means g w 1) (
      form to,
      form_told g fuel to tt,
      (
        form S0,
        set,
        (
          form S0,
          set,
          (
            Yes,
            same,
            (
              form below,
              form_told g fuel below tt,
              (
                form S0,
                set,
                (
                  form S0,
                  set,
                  (
                    Yes,
                    same,
                    (
                      form S0,
                      set,
                      (
                        Within (Form (Fam 0) (Arg Explicit (Var 0) ∷ Arg Explicit (Var 1) ∷ [])) 0,
                        twice_told g fuel Explicit Explicit (Fam 0) (Var 0) (Var 1) tt,
                        (form (Var 0), form_told g fuel (Var 0) tt, refl),
                      ),
                    ),
                  ),
                ),
              ),
            ),
          ),
        ),
      ),
    ))

pub parameter_shadowed : ParameterShadowed
unfolding telescope
parameter_shadowed fuel d p i j q k s l m t u v x A y =
    let o = plain_family x.id (entry Explicit A.id S0 ∷ []) 0 in
    let g = alone o in
    let to = Pi Explicit A.id S0 S0 in
    let whole = Pi Explicit A.id S0 (App Explicit (Fam 0) (Var 0)) in
    goes_on o (rw (explicit_binds [] i, set_means [] j 0, set_means [] q 0) (form S0, set_told [] fuel 0, refl))
    (rw (pi_means g s, explicit_binds g l, set_means g m 0, app_means g t, family_means g u 0, plain_means g (r.Variable v 0), variable_means g v 0) (
      form to,
      form_told g fuel to tt,
      (
        form S0,
        set_told g fuel 0,
        (
          form S0,
          set_told g fuel 0,
          (
            Yes,
            itself_told g fuel d S0,
            (
              form S0,
              set_told g fuel 0,
              (
                form whole,
                form_told g fuel whole tt,
                (Within (Form (Fam 0) (Arg Explicit (Var 0) ∷ [])) 0, applied_told g fuel Explicit (Fam 0) (Var 0) tt, (form (Var 0), form_told g fuel (Var 0) tt, refl)),
              ),
            ),
          ),
        ),
      ),
    ))

pub second_argument_too_big : SecondArgumentTooBig
unfolding telescope
second_argument_too_big fuel d p a i s b t c e x y =
    let o = plain_family x.id [] 0 in
    let g = alone o in
    let below = Pi Explicit 0 S0 (Fam 0) in
    let whole = Pi Explicit 0 (Fam 0) below in
    goes_on o (rw (set_means [] a 0) (form S0, set_told [] fuel 0, refl))
    (rw (arrow_means g s, family_means g b 0, arrow_means g t, set_means g c 0, family_means g e 0) (
      form S0,
      set_told g fuel 0,
      (
        form S0,
        set_told g fuel 0,
        (form whole, form_told g fuel whole tt, (form below, form_told g fuel below tt, (form (Fam 0), form_told g fuel (Fam 0) tt, refl))),
      ),
    ))

pub field_too_big : FieldTooBig
unfolding telescope
field_too_big fuel d p a h i b x y =
    let o = plain_family x.id [] 0 in
    goes_on o (rw (set_means [] a 0) (form S0, set_told [] fuel 0, refl)) (rw (set_means (alone o) b 0) refl)
