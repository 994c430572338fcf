-- The declarations read by hand that are accepted, question by question.
use Rattle.std.proofs.Common.{◌≡◌, ℕ, suc, [], ◌∷◌, refl, sym, subst, arith}
use Rattle.std.specs.Prelude.{List, Some, ◌++◌, length, map}
use Rattle.core_rules.specs.declared.Flag.TheVariants.{Explicit, Implicit}
use Rattle.core_rules.specs.Term.{Term, Var, Sort, Pi, Fam}
use Rattle.core_rules.specs.Signature.{Signature, Family, FamDecl, fams}
use Rattle.core_rules.specs.Elimination.{Arg}
use Rattle.core_rules.specs.Typing.{entry}
use Rattle.core_rules.specs.Examples.{nat}
use Rattle.core_rules.specs.Addition.{nat_type, zero_term, suc_term}
use Rattle.core_rules.specs.Heads as H
use Rattle.core_rules.specs.Heads.{Form, Bounded, Within, HeadOf, IsForm}
use Rattle.core_rules.specs.Bounded.{Yes, ConvOf}
use Rattle.core_rules.specs.BoundedLaws.{no_solutions}
use Rattle.kernel_rules.specs.Outcome.{Gives, goes_on, Outcome}
use Rattle.source_tree.specs.declared.place.Place.{Place}
use Rattle.resolved_tree.specs.declared.resolved.ResolvedExpr.TheVariants as r
use Rattle.resolved_tree.specs.declared.resolved.ResolvedName.{ResolvedName}
use Rattle.resolved_tree.specs.declared.resolved.ResolvedExpr.{ResolvedExpr}
use Rattle.resolved_tree.specs.declared.resolved.ResolvedBinder.{ResolvedBinder}
use Rattle.resolved_tree.specs.declared.resolved.ResolvedSignature.{ResolvedSignature}
use Rattle.resolved_tree.specs.declared.resolved.ResolvedArg.TheVariants as ra
use Rattle.resolved_tree.specs.declared.resolved.ResolvedBinder.TheVariants as rb
use Rattle.resolved_tree.specs.declared.resolved.Resolved.TheVariants as decl
use Rattle.need_rules.specs.Needs as needs
use Rattle.written_rules.specs.Asking.{Comes}
use Rattle.written_rules.specs.Rules.{BinderMeaning, Typed, Types, Checks, Name, ArgMeaning, VariableName, FamilyName, ConName, name_typed, name_checked, grouped, known}
use Rattle.written_rules.specs.Expressions.{ExprMeaning, a_type, an_application, expr_meaning, binder_meaning}
use Rattle.written_rules.proofs.Forms.{arrow_means, pi_means, app_means, variable_means, family_means, con_means, set_means, plain_means, implicit_means, explicit_binds, implicit_binds}
use Rattle.written_rules.proofs.Told.{form_told, twice_told, itself_told}
use Rattle.data_rules.specs.Rules.{known_family, LineMeaning, heading}
use Rattle.data_rules.specs.Shapes.{telescope, most_shown}
use Rattle.data_rules.specs.Refusals.{Refusal}
use Rattle.data_rules.specs.Examples.{Naturals, Sigma, Pointed, Stream, WithoutEta, BoxOfSet, Groups, Equality, Vectors, numbers, vec_of, line, vec_written}
use Rattle.data_rules.specs.Families.{WrittenFamilyOf, data_read, line_meaning}
use Rattle.data_rules.proofs.Told.{form, alone, plain_family, S0, set_told}

pub naturals : Naturals
unfolding telescope
naturals fuel d p a i j b q c e x z y =
    let k = plain_family x.id [] 0 in
    let g = alone k in
    let sort = form_told g fuel (Sort 0) tt in
    let nat = form_told g fuel (Fam 0) tt in
    let to = Pi Explicit 0 (Fam 0) (Fam 0) in
    goes_on k
    (rw (set_means [] a 0) (form (Sort 0), form_told [] fuel (Sort 0) tt, refl))
    (rw (family_means g b 0, arrow_means g q, family_means g c 0, family_means g e 0)
    (form (Sort 0), sort, (form (Fam 0), nat, (form (Sort 0), sort, (form (Sort 0), sort, (form to, form_told g fuel to tt, (form (Fam 0), nat, refl)))))))

pub sigma : Sigma
unfolding telescope
sigma fuel d p i j k a b c q e h f m s t u v x A B w y z =
    let to = Pi Explicit 0 (Var 0) S0 in
    let o = plain_family x.id (entry Explicit A.id S0 ∷ entry Explicit B.id to ∷ []) 0 in
    let g = alone o in
    let at_fst = Pi Explicit 0 (Var 2) S0 in
    goes_on o
    (rw (explicit_binds [] i, explicit_binds [] k, set_means [] j 0, arrow_means [] a, variable_means [] b 0, set_means [] c 0, set_means [] q 0)
    (form S0, set_told [] fuel 0, (form S0, set_told [] fuel 0, refl)))
    (rw (variable_means g m 1, app_means g t, variable_means g u 1, plain_means g (r.Variable v 0), variable_means g v 0) (
      form S0,
      set_told g fuel 0,
      (
        form at_fst,
        form_told g fuel at_fst tt,
        (form (Var 2), form_told g fuel (Var 2) tt, (form (Var 2), form_told g fuel (Var 2) tt, (Yes, itself_told g fuel d (Var 2), (form S0, set_told g fuel 0, refl)))),
      ),
    ))

pub pointed : Pointed
unfolding telescope
pointed fuel d p a h f i k l b x y z =
    let o = plain_family x.id [] 1 in
    let g = alone o in
    goes_on o (rw (set_means [] a 1) (form (Sort 1), set_told [] fuel 1, refl)) (rw (set_means g i 0, variable_means g b 0) (form S0, set_told g fuel 0, refl))

pub stream : Stream
unfolding telescope
stream fuel d p i j q e h f m s t u v x A y z =
    let o = plain_family x.id (entry Explicit A.id S0 ∷ []) 0 in
    let g = alone o in
    let to = Pi Explicit A.id S0 S0 in
    goes_on o (rw (explicit_binds [] i, set_means [] j 0, set_means [] q 0) (form S0, set_told [] fuel 0, refl))
    (rw (variable_means g m 0, app_means g t, family_means g u 0, plain_means g (r.Variable v 1), variable_means g v 1) (
      form S0,
      set_told g fuel 0,
      (form to, form_told g fuel to tt, (form S0, set_told g fuel 0, (form S0, set_told g fuel 0, (Yes, itself_told g fuel d S0, (form S0, set_told g fuel 0, refl))))),
    ))

pub without_eta : WithoutEta
unfolding telescope
without_eta fuel d p a e h f b x y w =
    let o = plain_family x.id [] 0 in
    let g = alone o in (
      goes_on o (rw (set_means [] a 0) (form S0, set_told [] fuel 0, refl)) (rw (family_means g b 0) (form S0, set_told g fuel 0, refl)),
      goes_on o (rw (set_means [] a 0) (form S0, set_told [] fuel 0, refl)) refl,
    )

pub box_of_set : BoxOfSet
unfolding telescope
box_of_set fuel d p a i q b c x y =
    let o = plain_family x.id [] 1 in
    let g = alone o in
    let to = Pi Explicit 0 S0 (Fam 0) in
    goes_on o (rw (set_means [] a 1) (form (Sort 1), set_told [] fuel 1, refl))
    (rw (arrow_means g q, set_means g b 0, family_means g c 0) (form (Sort 1), set_told g fuel 1, (form to, form_told g fuel to tt, (form (Fam 0), form_told g fuel (Fam 0) tt, refl))))

pub groups : Groups
unfolding telescope
groups fuel d p i j q a b h f m x A y z =
    let o = plain_family x.id [] 0 in
    let k = plain_family x.id (entry Explicit A.id S0 ∷ []) 0 in (
      goes_on o (rw (set_means [] a 0) (form S0, set_told [] fuel 0, refl))
          (rw (family_means (alone o) b 0) (form S0, set_told (alone o) fuel 0, (form (Fam 0), form_told (alone o) fuel (Fam 0) tt, refl))),
      goes_on k (rw (explicit_binds [] i, set_means [] j 0, set_means [] q 0) (form S0, set_told [] fuel 0, refl))
          (rw (variable_means (alone k) m 0) (form S0, set_told (alone k) fuel 0, refl)),
    )

pub equality : Equality
unfolding telescope
equality fuel d p i j k l q m n t u a b c e x A y z =
    let o = known_family x.id (entry Implicit A.id S0 ∷ entry Explicit y.id (Var 0) ∷ []) (entry Explicit 0 (Var 1) ∷ []) 0 in
    let g = alone o in
    let to = Pi Explicit 0 (Var 1) S0 in
    let second = Pi Explicit y.id (Var 1) (Pi Explicit 0 (Var 2) S0) in
    let first = Pi Implicit A.id S0 (Pi Explicit y.id (Var 0) to) in
    let set = set_told g fuel 0 in
    let one = form_told g fuel (Var 1) tt in
    let same = itself_told g fuel d (Var 1) in
    goes_on o
    (rw (implicit_binds [] i, explicit_binds [] k, set_means [] j 0, variable_means [] l 0, arrow_means [] q, variable_means [] m 1, set_means [] n 0)
    (form S0, set_told [] fuel 0, (form S0, set_told [] fuel 0, (form to, form_told [] fuel to tt, (form S0, set_told [] fuel 0, refl)))))
    (rw (app_means g u, family_means g a 0, implicit_means g b (r.Variable b 1), plain_means g (r.Variable c 0), plain_means g (r.Variable e 0), variable_means g b 1, variable_means g c 0, variable_means g e 0) (
      form first,
      form_told g fuel first tt,
      (
        form S0,
        set,
        (
          form S0,
          set,
          (
            Yes,
            itself_told g fuel d S0,
            (
              form second,
              form_told g fuel second tt,
              (
                form (Var 1),
                one,
                (
                  form (Var 1),
                  one,
                  (
                    Yes,
                    same,
                    (
                      form to,
                      form_told g fuel to tt,
                      (
                        form (Var 1),
                        one,
                        (
                          form (Var 1),
                          one,
                          (
                            Yes,
                            same,
                            (
                              form S0,
                              set,
                              (
                                Within (Form (Fam 0) (Arg Implicit (Var 1) ∷ Arg Explicit (Var 0) ∷ Arg Explicit (Var 0) ∷ [])) 0,
                                (H.argument (H.argument (H.argument (H.form tt))), omega arith),
                                (form (Var 1), one, (form (Var 0), form_told g fuel (Var 0) tt, refl)),
                              ),
                            ),
                          ),
                        ),
                      ),
                    ),
                  ),
                ),
              ),
            ),
          ),
        ),
      ),
    ))

-- ---- vectors

-- the signature while nil and cons are read
abbrev with_vec : FamDecl Term → Signature Term
with_vec o = Family nat ∷ Family o ∷ []

module _ (o : FamDecl Term) (fuel d : ℕ) where
  abbrev to_set : Term
  to_set = Pi Explicit 0 nat_type S0

  abbrev at_vec : Term → Term → Bounded
  at_vec a n = Within (Form (Fam 1) (Arg Explicit a ∷ Arg Explicit n ∷ [])) 0

  told : (t : Term) → IsForm (with_vec o) t [] → HeadOf (with_vec o) no_solutions t fuel (form t)
  told t h = form_told (with_vec o) fuel t h

  vec_told : (a n : Term) → HeadOf (with_vec o) no_solutions (vec_of a n) fuel (at_vec a n)
  vec_told a n = twice_told (with_vec o) fuel Explicit Explicit (Fam 1) a n tt

  same : (t : Term) → ConvOf (with_vec o) no_solutions fuel (suc d) t t Yes
  same t = itself_told (with_vec o) fuel d t

-- a data type by the meanings of its parts
data_by : (g : Signature Term) (fuel d : ℕ) (p : Place) (x : ResolvedName) (bs : List ResolvedBinder) (e : ResolvedExpr) (ss : List ResolvedSignature) (bm : List BinderMeaning) (m : ExprMeaning) (o : FamDecl Term)
    (lm : List LineMeaning) (r : Outcome Refusal (FamDecl Term)) → map (binder_meaning g) bs ≡ bm → expr_meaning g e ≡ m → map (line_meaning (g ++ Family o ∷ [])) ss ≡ lm
    → Comes g fuel d (heading x.id most_shown bm m) (Gives o) → Comes (g ++ Family o ∷ []) fuel d (data_read (length (fams g)) o lm) r
    → WrittenFamilyOf g fuel d (decl.«Data» p x bs e ss) r
data_by g fuel d p x bs e ss bm m o lm r i j k h c = goes_on o
    (subst (λ bm. Comes g fuel d (heading x.id most_shown bm (expr_meaning g e)) (Gives o)) (sym i) (subst (λ m. Comes g fuel d (heading x.id most_shown bm m) (Gives o)) (sym j) h))
    (subst (λ lm. Comes (g ++ Family o ∷ []) fuel d (data_read (length (fams g)) o lm) r) (sym k) c)

module _ (o : FamDecl Term) (p : Place) (n y z : ResolvedName) where
  abbrev types_of : Name → List ArgMeaning → Types
  types_of k ms = name_typed (with_vec o) p.pos p.pos k ms

  abbrev checks_of : Name → List ArgMeaning → Checks
  checks_of k ms = name_checked (with_vec o) p.pos p.pos k ms

  abbrev plain_arg : Checks → ArgMeaning
  plain_arg c = record { pos = p.pos; next = needs.Plain c }

  abbrev vec_typed : Checks → Checks → Types
  vec_typed a n = types_of (FamilyName 1) (plain_arg a ∷ plain_arg n ∷ [])

  abbrev arrow_typed : Types → Types → Types
  arrow_typed a b = grouped Explicit (0 ∷ []) a b

  abbrev cons_typed : Types
  cons_typed = grouped Implicit (n.id ∷ []) (types_of (FamilyName 0) [])
      (arrow_typed (types_of (VariableName 1) []) (arrow_typed (vec_typed (checks_of (VariableName 2) []) (checks_of (VariableName 1) []))
      (vec_typed (checks_of (VariableName 3) []) (checks_of (ConName 1) (plain_arg (checks_of (VariableName 2) []) ∷ [])))))

  abbrev read_arg : ResolvedExpr → ArgMeaning
  read_arg e = record { pos = (expr_meaning (with_vec o) e).pos; next = needs.Plain (expr_meaning (with_vec o) e).checks }

  vec_means : (a b : ResolvedExpr) → (expr_meaning (with_vec o) (vec_written p p a b)).types ≡ types_of (FamilyName 1) (read_arg a ∷ read_arg b ∷ [])
  vec_means a b = rw (app_means (with_vec o) p, family_means (with_vec o) p 1, plain_means (with_vec o) a, plain_means (with_vec o) b) refl

  abbrev nil_source : ResolvedSignature
  nil_source = line p y (vec_written p p (r.Variable p 0) (r.Con p 0))

  nil_line : line_meaning (with_vec o) nil_source ≡ record { pos = p.pos; names = y.id ∷ []; types = vec_typed (checks_of (VariableName 0) []) (checks_of (ConName 0) []) }
  nil_line = rw (vec_means (r.Variable p 0) (r.Con p 0), variable_means (with_vec o) p 0, con_means (with_vec o) p 0) refl

  abbrev below_source : ResolvedExpr
  below_source = r.Arrow p (vec_written p p (r.Variable p 2) (r.Variable p 1)) (vec_written p p (r.Variable p 3) (r.App p (r.Con p 1) (ra.Plain (r.Variable p 2) ∷ [])))

  suc_means : expr_meaning (with_vec o) (r.App p (r.Con p 1) (ra.Plain (r.Variable p 2) ∷ [])) ≡ an_application (with_vec o) p.pos p.pos (Some (ConName 1)) (plain_arg (checks_of (VariableName 2) []) ∷ [])
  suc_means = rw (app_means (with_vec o) p, con_means (with_vec o) p 1, plain_means (with_vec o) (r.Variable p 2), variable_means (with_vec o) p 2) refl

  below_means : (expr_meaning (with_vec o) below_source).types ≡ arrow_typed (vec_typed (checks_of (VariableName 2) []) (checks_of (VariableName 1) [])) (vec_typed (checks_of (VariableName 3) []) (checks_of (ConName 1) (plain_arg (checks_of (VariableName 2) []) ∷ [])))
  below_means = rw (arrow_means (with_vec o) p, vec_means (r.Variable p 2) (r.Variable p 1), vec_means (r.Variable p 3) (r.App p (r.Con p 1) (ra.Plain (r.Variable p 2) ∷ [])), suc_means, variable_means (with_vec o) p 1, variable_means (with_vec o) p 2, variable_means (with_vec o) p 3) refl

  abbrev cons_source : ResolvedSignature
  cons_source = line p z (r.Pi p (rb.Implicit p (n ∷ []) (r.Family p 0) ∷ []) (r.Arrow p (r.Variable p 1) below_source))

  cons_line : line_meaning (with_vec o) cons_source ≡ record { pos = p.pos; names = z.id ∷ []; types = cons_typed }
  cons_line = rw (pi_means (with_vec o) p, implicit_binds (with_vec o) p, arrow_means (with_vec o) p (r.Variable p 1) below_source, below_means, family_means (with_vec o) p 0, variable_means (with_vec o) p 1) refl

pub vectors : Vectors
unfolding telescope
vectors fuel d p x A y z n =
    let o = known_family x.id (entry Explicit A.id S0 ∷ []) (entry Explicit 0 nat_type ∷ []) 0 in
    let vec_type = Pi Explicit A.id S0 (to_set o fuel d) in
    let suc_type = Pi Explicit 3 nat_type nat_type in
    let below_two = Pi Explicit 0 (vec_of (Var 2) (Var 1)) (vec_of (Var 3) (suc_term (Var 2))) in
    let below_one = Pi Explicit 0 (Var 1) below_two in
    let cons_type = Pi Implicit n.id nat_type below_one in
    let set = told o fuel d S0 tt in
    let number = told o fuel d nat_type tt in
    data_by numbers fuel (suc d) p x (rb.Explicit p (A ∷ []) (r.SetLevel p 0) ∷ []) (r.Arrow p (r.Family p 0) (r.SetLevel p 0)) (nil_source o p n y z ∷ cons_source o p n y z ∷ [])
    (Typed Explicit (A.id ∷ []) (known S0 1) ∷ []) (a_type p.pos (grouped Explicit (0 ∷ []) (name_typed numbers p.pos p.pos (FamilyName 0) []) (known S0 1))) o
    (record { pos = p.pos; names = y.id ∷ []; types = vec_typed o p n y z (checks_of o p n y z (VariableName 0) []) (checks_of o p n y z (ConName 0) []) } ∷ record { pos = p.pos; names = z.id ∷ []; types = cons_typed o p n y z } ∷ []) _
    (rw (explicit_binds numbers p, set_means numbers p 0) refl)
    (rw (arrow_means numbers p, family_means numbers p 0, set_means numbers p 0) refl)
    (rw (nil_line o p n y z, cons_line o p n y z) refl)
    (form S0, set_told numbers fuel 0, (form (to_set o fuel d), form_told numbers fuel (to_set o fuel d) tt, (form S0, set_told numbers fuel 0, refl)))
    (form vec_type, told o fuel d vec_type tt, (form S0, set, (form S0, set, (Yes, same o fuel d S0, (form (to_set o fuel d), told o fuel d (to_set o fuel d) tt, (form nat_type, number, (form nat_type, number, (Yes, same o fuel d nat_type, (form S0, set, (at_vec o fuel d (Var 0) zero_term, vec_told o fuel d (Var 0) zero_term, (form (Var 0), told o fuel d (Var 0) tt, (form S0, set, (form S0, set, (form vec_type, told o fuel d vec_type tt, (form S0, set, (form S0, set, (Yes, same o fuel d S0, (form (to_set o fuel d), told o fuel d (to_set o fuel d) tt, (form nat_type, number, (form nat_type, number, (Yes, same o fuel d nat_type, (form S0, set, (form vec_type, told o fuel d vec_type tt, (form S0, set, (form S0, set, (Yes, same o fuel d S0, (form (to_set o fuel d), told o fuel d (to_set o fuel d) tt, (form nat_type, number, (form suc_type, told o fuel d suc_type tt, (form nat_type, number, (form nat_type, number, (Yes, same o fuel d nat_type, (form nat_type, number, (Yes, same o fuel d nat_type, (form S0, set, (form cons_type, told o fuel d cons_type tt, (form below_one, told o fuel d below_one tt, (form below_two, told o fuel d below_two tt, (at_vec o fuel d (Var 3) (suc_term (Var 2)), vec_told o fuel d (Var 3) (suc_term (Var 2)), (form (Var 3), told o fuel d (Var 3) tt, refl))))))))))))))))))))))))))))))))))))))))
