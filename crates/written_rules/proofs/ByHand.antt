-- The examples, question by question.
use Rattle.std.proofs.Common.{◌≡◌, ℕ, suc, [], ◌∷◌, refl, inl, inr}
use Rattle.core_rules.specs.declared.Flag.TheVariants.{Explicit, Implicit}
use Rattle.core_rules.specs.Term.{Term, Var, Sort, Pi, App, Def, Fam}
use Rattle.core_rules.specs.Elimination.{Arg}
use Rattle.core_rules.specs.Examples.{families, pair_type}
use Rattle.core_rules.specs.Addition.{nat_type, zero_term, suc_term}
use Rattle.core_rules.specs.Looping.{looping}
use Rattle.core_rules.proofs.Heads.Looping.{loop_has_no_head}
use Rattle.core_rules.specs.Heads.{Form, Bounded, Within, Out, HeadOf}
use Rattle.core_rules.specs.Bounded.{Yes, No, OutOfDepth, ConvOf}
use Rattle.core_rules.specs.BoundedLaws.{no_solutions}
use Rattle.resolved_tree.specs.declared.resolved.ResolvedExpr.TheVariants as r
use Rattle.written_rules.proofs.Forms.{arrow_means, pi_means, forall_means, lambda_means, app_means, variable_means, def_means, family_means, con_means, set_means, hole_means, underscore_means, record_means, plain_means, implicit_means, named_means, project_means, explicit_binds, name_binds, braced_binds, value_means}
use Rattle.source_tree.specs.declared.place.Place.{Place}
use Rattle.written_rules.specs.Expressions.{expr_meaning, value_meaning}
use Rattle.written_rules.proofs.Told.{form_told, applied_told, twice_told, itself_told}
use Rattle.written_rules.specs.Examples.{IdentityAccepted, TypedIdentityAccepted, OtherDomain, NamedArgument, ImplicitAtTheEnd, BracesRefused, NumberAsType, LambdaApplied, DotCompared, ImplicitLambdaAccepted, OthersAtImplicit, ImplicitLambdaLeftOut, LambdaOfOtherFlag, TooManyArguments, ConsAccepted, ImplicitArgumentLeftOut, ParameterLeftOut, ProjectionAccepted, ProjectionOfNoRecord, zero_at, no_numbers, RecordAccepted, FieldsNotEachOnce, RecordOfNoRecord, LoopOutOfFuel, LeftOutRefused, DomainLeftOut, ArrowTyped, GroupTyped, one_function, SetRefused, implicit_function, Names, expanded, expanding, ExpandedAccepted, ExpandedTooDeep, vec_type}

-- ---- answers

abbrev form : Term → Bounded
form t = Within (Form t []) 0

-- family d at two explicit arguments
abbrev at_two : ℕ → Term → Term → Bounded
at_two d t u = Within (Form (Fam d) (Arg Explicit t ∷ Arg Explicit u ∷ [])) 0

abbrev one : Term
one = suc_term zero_term

-- the type of cons for Nat, and what is left of it behind one argument and behind two
abbrev cons_type : Term
cons_type = Pi Implicit 7 nat_type (Pi Explicit 8 nat_type (Pi Explicit 9 (vec_type nat_type (Var 1)) (vec_type nat_type (suc_term (Var 2)))))

abbrev cons_behind_one : Term
cons_behind_one = Pi Explicit 8 nat_type (Pi Explicit 9 (vec_type nat_type zero_term) (vec_type nat_type one))

abbrev cons_behind_two : Term
cons_behind_two = Pi Explicit 9 (vec_type nat_type zero_term) (vec_type nat_type one)

-- `f = zero`
zero_means : (f : ℕ) (p : Place) → value_meaning families (zero_at f p) ≡ record { name = f; checks = (expr_meaning families (r.Con p 0)).checks }
zero_means f p = value_means families (record { id = f; place = p }) (r.Con p 0)

-- ---- what is left out

pub left_out_refused : LeftOutRefused
left_out_refused g fuel d vs p a = rw (hole_means g p, underscore_means g p) (refl, refl, refl, refl)

pub domain_left_out : DomainLeftOut
domain_left_out g fuel d vs p q x = rw (forall_means g p, name_binds g x) refl

pub implicit_lambda_left_out : ImplicitLambdaLeftOut
implicit_lambda_left_out fuel d n p q x =
    let a = Pi Implicit n nat_type nat_type in
    rw (lambda_means families p, name_binds families x) (form a, form_told families fuel a tt, refl)

pub others_at_implicit : OthersAtImplicit
others_at_implicit fuel d n p q s a x =
    let b = Pi Implicit n nat_type nat_type in
    rw (con_means families p 0, set_means families p 0, record_means families p [], app_means families p, lambda_means families q)
    ((form b, form_told families fuel b tt, refl), (form b, form_told families fuel b tt, refl), (form b, form_told families fuel b tt, refl), (form b, form_told families fuel b tt, refl))

pub parameter_left_out : ParameterLeftOut
parameter_left_out fuel d p =
    rw (con_means families p 2)
    ((form nat_type, form_told families fuel nat_type tt, refl), (at_two 2 nat_type nat_type, twice_told families fuel Explicit Explicit (Fam 2) nat_type nat_type tt, refl), refl)

pub implicit_at_the_end : ImplicitAtTheEnd
implicit_at_the_end fuel d f k p q s =
    let g = implicit_function f in
    let b = Pi Implicit 7 (Sort 1) (Sort 0) in
    rw (def_means g p 0, app_means g p, def_means g q 0, project_means g s k)
    ((form b, form_told g fuel b tt, refl), (form (Sort 1), form_told g fuel (Sort 1) tt, (form b, form_told g fuel b tt, refl)), (form b, form_told g fuel b tt, refl))

pub implicit_argument_left_out : ImplicitArgumentLeftOut
implicit_argument_left_out fuel d p q b c =
    rw (app_means families p, con_means families q 3, plain_means families)
    (at_two 1 nat_type one, twice_told families fuel Explicit Explicit (Fam 1) nat_type one tt, (form cons_type, form_told families fuel cons_type tt, refl))

pub lambda_applied : LambdaApplied
lambda_applied fuel d p q s a x =
    rw (app_means families p, lambda_means families q) ((form nat_type, form_told families fuel nat_type tt, refl), refl)

-- ---- what has another type

pub other_domain : OtherDomain
other_domain fuel d n p i a q x =
    let b = Pi Explicit n nat_type nat_type in
    rw (lambda_means families p, explicit_binds families i, set_means families a 0) (
      form b,
      form_told families fuel b tt,
      (
        No (Sort 0) nat_type [],
        inr (λ h. absurd (cc h.same), record { left = form (Sort 0); right = form nat_type; is_left = form_told families fuel (Sort 0) tt; is_right = form_told families fuel nat_type tt; decided = refl }),
        refl,
      ),
    )

pub braces_refused : BracesRefused
braces_refused fuel d p q i a =
    let b = Pi Explicit 3 nat_type nat_type in
    rw (app_means families p, con_means families q 1, implicit_means families i)
    (form nat_type, form_told families fuel nat_type tt, (form b, form_told families fuel b tt, refl))

pub number_as_type : NumberAsType
number_as_type fuel d p = rw (con_means families p 0) (form nat_type, form_told families fuel nat_type tt, refl)

pub lambda_of_other_flag : LambdaOfOtherFlag
lambda_of_other_flag fuel d n p i q x =
    let a = Pi Explicit n nat_type nat_type in
    rw (lambda_means families p, braced_binds families i x) (form a, form_told families fuel a tt, refl)

pub too_many_arguments : TooManyArguments
too_many_arguments fuel d p q s =
    rw (app_means families p, con_means families q 0, plain_means families, con_means families s 0)
    (form nat_type, form_told families fuel nat_type tt, (form nat_type, form_told families fuel nat_type tt, refl))

pub projection_of_no_record : ProjectionOfNoRecord
projection_of_no_record fuel d p q s =
    rw (app_means families p, con_means families q 0, project_means families s 0)
    (form nat_type, form_told families fuel nat_type tt, (form nat_type, form_told families fuel nat_type tt, refl))

pub record_of_no_record : RecordOfNoRecord
record_of_no_record fuel d p = rw (record_means families p []) (form nat_type, form_told families fuel nat_type tt, refl)

pub fields_not_each_once : FieldsNotEachOnce
fields_not_each_once fuel d p q s i = (
  rw (record_means families p, zero_means 12 q) (at_two 2 nat_type nat_type, pair_told, refl),
  rw (record_means families p, zero_means 12 q, zero_means 12 s) (at_two 2 nat_type nat_type, pair_told, refl),
  rw (record_means families p, zero_means 12 q, zero_means 13 s, zero_means 13 i) (at_two 2 nat_type nat_type, pair_told, refl),
  rw (record_means families p, zero_means 12 q, zero_means 13 s, zero_means 11 i) (at_two 2 nat_type nat_type, pair_told, refl),
)
  where
    pair_told : HeadOf families no_solutions (pair_type nat_type nat_type) fuel (at_two 2 nat_type nat_type)
    pair_told = twice_told families fuel Explicit Explicit (Fam 2) nat_type nat_type tt

pub loop_out_of_fuel : LoopOutOfFuel
loop_out_of_fuel fuel d p = rw (con_means looping p 0) (Out, (λ w n h. absurd (loop_has_no_head zero_term w n h)), refl)

-- ---- what is accepted

pub identity_accepted : IdentityAccepted
identity_accepted fuel d n p q x =
    let a = Pi Explicit n nat_type nat_type in
    rw (lambda_means families p, name_binds families x, variable_means families q 0) (
      form a,
      form_told families fuel a tt,
      (form nat_type, form_told families fuel nat_type tt, (form nat_type, form_told families fuel nat_type tt, (Yes, itself_told families fuel d nat_type, refl))),
    )

pub implicit_lambda_accepted : ImplicitLambdaAccepted
implicit_lambda_accepted fuel d n p i q x =
    let a = Pi Implicit n nat_type nat_type in
    rw (lambda_means families p, braced_binds families i x, variable_means families q 0) (
      form a,
      form_told families fuel a tt,
      (form nat_type, form_told families fuel nat_type tt, (form nat_type, form_told families fuel nat_type tt, (Yes, itself_told families fuel d nat_type, refl))),
    )

pub typed_identity_accepted : TypedIdentityAccepted
typed_identity_accepted fuel d n p i a q x =
    let b = Pi Explicit n nat_type nat_type in
    rw (lambda_means families p, explicit_binds families i, family_means families a 0, variable_means families q 0) (
      form b,
      form_told families fuel b tt,
      (
        form (Sort 0),
        form_told families fuel (Sort 0) tt,
        (
          Yes,
          itself_told families fuel d nat_type,
          (form nat_type, form_told families fuel nat_type tt, (form nat_type, form_told families fuel nat_type tt, (Yes, itself_told families fuel d nat_type, refl))),
        ),
      ),
    )

-- what is asked for cons with all its arguments behind the wanted type
module _ (fuel d : ℕ) where
  nat_told : HeadOf families no_solutions nat_type fuel (form nat_type)
  nat_told = form_told families fuel nat_type tt

  vec_told : (n : Term) → HeadOf families no_solutions (vec_type nat_type n) fuel (at_two 1 nat_type n)
  vec_told n = twice_told families fuel Explicit Explicit (Fam 1) nat_type n tt

pub cons_accepted : ConsAccepted
cons_accepted fuel d p q i a b c =
    rw (app_means families p, con_means families q 3, implicit_means families i, plain_means families (r.Con b 0), plain_means families (r.Con c 2), con_means families a 0, con_means families b 0, con_means families c 2) (
      at_two 1 nat_type one,
      vec_told fuel d one,
      (
        form cons_type,
        form_told families fuel cons_type tt,
        (
          form nat_type,
          nat_told fuel d,
          (
            form nat_type,
            nat_told fuel d,
            (
              Yes,
              itself_told families fuel d nat_type,
              (
                form cons_behind_one,
                form_told families fuel cons_behind_one tt,
                (
                  form nat_type,
                  nat_told fuel d,
                  (
                    form nat_type,
                    nat_told fuel d,
                    (
                      Yes,
                      itself_told families fuel d nat_type,
                      (
                        form cons_behind_two,
                        form_told families fuel cons_behind_two tt,
                        (
                          at_two 1 nat_type zero_term,
                          vec_told fuel d zero_term,
                          (
                            at_two 1 nat_type zero_term,
                            vec_told fuel d zero_term,
                            (
                              Yes,
                              itself_told families fuel d (vec_type nat_type zero_term),
                              (at_two 1 nat_type one, vec_told fuel d one, (Yes, itself_told families fuel d (vec_type nat_type one), refl)),
                            ),
                          ),
                        ),
                      ),
                    ),
                  ),
                ),
              ),
            ),
          ),
        ),
      ),
    )

pub named_argument : NamedArgument
named_argument fuel d f p q i x a =
    let g = implicit_function f in
    let b = Pi Implicit 7 (Sort 1) (Sort 0) in (
      rw (app_means g p, def_means g q 0, named_means g i (record { id = 7; place = x }), set_means g a 0)
          (form b, form_told g fuel b tt, (form (Sort 1), form_told g fuel (Sort 1) tt, (Yes, itself_told g fuel d (Sort 1), (form (Sort 0), form_told g fuel (Sort 0) tt, refl)))),
      rw (app_means g p, def_means g q 0, named_means g i (record { id = 8; place = x })) (form b, form_told g fuel b tt, refl),
    )

pub dot_compared : DotCompared
dot_compared fuel d p q =
    rw (con_means families q 0) (
      (form nat_type, nat_told fuel d, (form nat_type, nat_told fuel d, (Yes, itself_told families fuel d nat_type, (Yes, itself_told families fuel d zero_term, refl)))),
      (
        form nat_type,
        nat_told fuel d,
        (
          form nat_type,
          nat_told fuel d,
          (
            Yes,
            itself_told families fuel d nat_type,
            (
              No zero_term (Var 0) [],
              inr (λ h. absurd (cc h.same), record { left = form zero_term; right = form (Var 0); is_left = form_told families fuel zero_term refl; is_right = form_told families fuel (Var 0) tt; decided = refl }),
              refl,
            ),
          ),
        ),
      ),
    )

pub projection_accepted : ProjectionAccepted
projection_accepted fuel d x p q s = (
  rw (app_means families p, variable_means families q 0, project_means families s 0)
      (form nat_type, nat_told fuel d, (at_two 2 nat_type no_numbers, pair_told, (form nat_type, nat_told fuel d, (Yes, itself_told families fuel d nat_type, refl)))),
  rw (app_means families p, variable_means families q 0, project_means families s 1) (
    at_two 1 nat_type zero_term,
    vec_told fuel d zero_term,
    (
      at_two 2 nat_type no_numbers,
      pair_told,
      (at_two 1 nat_type zero_term, vec_told fuel d zero_term, (Yes, itself_told families fuel d no_numbers, refl)),
    ),
  ),
)
  where
    pair_told : HeadOf families no_solutions (pair_type nat_type no_numbers) fuel (at_two 2 nat_type no_numbers)
    pair_told = twice_told families fuel Explicit Explicit (Fam 2) nat_type no_numbers tt

pub record_accepted : RecordAccepted
record_accepted fuel d p q s a =
    rw (record_means families p, value_means families (record { id = 13; place = q }) (r.Con a 2), zero_means 12 s, con_means families a 2, con_means families s 0) (
      at_two 2 nat_type no_numbers,
      twice_told families fuel Explicit Explicit (Fam 2) nat_type no_numbers tt,
      (
        form nat_type,
        nat_told fuel d,
        (
          form nat_type,
          nat_told fuel d,
          (
            Yes,
            itself_told families fuel d nat_type,
            (at_two 1 nat_type zero_term, vec_told fuel d zero_term, (at_two 1 nat_type zero_term, vec_told fuel d zero_term, (Yes, itself_told families fuel d no_numbers, refl))),
          ),
        ),
      ),
    )

pub arrow_typed : ArrowTyped
arrow_typed g fuel d x p a b =
    rw (arrow_means g p (r.Variable a 0) (r.Variable b 1), variable_means g a 0, variable_means g b 1)
    (form (Sort 0), form_told g fuel (Sort 0) tt, (form (Sort 0), form_told g fuel (Sort 0) tt, refl))

pub group_typed : GroupTyped
group_typed g fuel d vs p i a q x y = rw (pi_means g p, explicit_binds g i, set_means g a 0, set_means g q 1) refl

-- ---- comparisons

pub set_refused : SetRefused
set_refused fuel d f n p q s =
    let g = one_function f n in
    let a = Pi Explicit n (Sort 0) (Sort 0) in
    rw (app_means g p, def_means g q 0, plain_means g, set_means g s 0) (
      form a,
      form_told g fuel a tt,
      (
        form (Sort 0),
        form_told g fuel (Sort 0) tt,
        (
          No (Sort 1) (Sort 0) [],
          inr (λ h. absurd (cc h.same), record { left = form (Sort 1); right = form (Sort 0); is_left = form_told g fuel (Sort 1) tt; is_right = form_told g fuel (Sort 0) tt; decided = refl }),
          refl,
        ),
      ),
    )

module _ (fuel : ℕ) (k : Names) where
  abbrev at_t : Term → Bounded
  at_t t = Within (Form (Def 2) (Arg Explicit t ∷ [])) 0

  t_told : (t : Term) → HeadOf (expanding k) no_solutions (App Explicit (Def 2) t) fuel (at_t t)
  t_told t = applied_told (expanding k) fuel Explicit (Def 2) t refl

  expanded_told : (d : ℕ) → ConvOf (expanding k) no_solutions fuel (suc (suc d)) (Def 1) (expanded k) Yes
  expanded_told d = inr (
    λ h. absurd (cc h.same),
    record {
      left = form (Def 1);
      right = form (expanded k);
      is_left = form_told (expanding k) fuel (Def 1) refl;
      is_right = form_told (expanding k) fuel (expanded k) tt;
      decided = inl (itself_told (expanding k) fuel d (App Explicit (Def 1) (Var 0)), refl);
    },
  )

  both_told : (d : ℕ) → ConvOf (expanding k) no_solutions fuel (suc (suc (suc d))) (App Explicit (Def 2) (Def 1)) (App Explicit (Def 2) (expanded k)) Yes
  both_told d = inr (
    λ h. absurd (cc h.same),
    record { left = at_t (Def 1); right = at_t (expanded k); is_left = t_told (Def 1); is_right = t_told (expanded k); decided = inl (expanded_told d, refl) },
  )

  deep_told : ConvOf (expanding k) no_solutions fuel (suc 0) (App Explicit (Def 2) (Def 1)) (App Explicit (Def 2) (expanded k)) OutOfDepth
  deep_told = inr (
    λ h. absurd (cc h.same),
    record { left = at_t (Def 1); right = at_t (expanded k); is_left = t_told (Def 1); is_right = t_told (expanded k); decided = inr (OutOfDepth, refl, (λ e. absurd cc), refl) },
  )

pub expanded_accepted : ExpandedAccepted
expanded_accepted fuel d k p q s =
    let g = expanding k in
    let a = Pi Explicit k.n (App Explicit (Def 2) (expanded k)) (Sort 0) in
    rw (app_means g p, def_means g q 4, plain_means g (r.Def s 3), def_means g s 3) (
      form a,
      form_told g fuel a tt,
      (
        at_t fuel k (expanded k),
        t_told fuel k (expanded k),
        (
          at_t fuel k (Def 1),
          t_told fuel k (Def 1),
          (
            Yes,
            both_told fuel k d,
            (form (Sort 0), form_told g fuel (Sort 0) tt, refl),
          ),
        ),
      ),
    )

pub expanded_too_deep : ExpandedTooDeep
expanded_too_deep fuel k p q s =
    let g = expanding k in
    let a = Pi Explicit k.n (App Explicit (Def 2) (expanded k)) (Sort 0) in
    rw (app_means g p, def_means g q 4, plain_means g (r.Def s 3), def_means g s 3)
    (form a, form_told g fuel a tt, (at_t fuel k (expanded k), t_told fuel k (expanded k), (at_t fuel k (Def 1), t_told fuel k (Def 1), (OutOfDepth, deep_told fuel k, refl))))
