-- The declarations read by hand whose types take steps to their head forms, or show many function types.
use Rattle.std.proofs.Common.{◌≡◌, ◌+◌, ◌∙◌, ℕ, suc, [], ◌∷◌, refl, sym, subst, arith}
use Rattle.std.specs.Prelude.{Some, ◌++◌, ◌<◌, ◌≤◌, zero}
use Rattle.core_rules.specs.declared.Flag.TheVariants.{Explicit, Implicit}
use Rattle.core_rules.specs.Term.{Term, Var, Sort, Pi, App, Def, Fam}
use Rattle.core_rules.specs.Signature.{Signature, Family, Tree, Leaf, tree_of}
use Rattle.core_rules.specs.Elimination.{Arg}
use Rattle.core_rules.specs.Substitution.{over, env_var}
use Rattle.core_rules.specs.Typing.{entry}
use Rattle.core_rules.specs.Addition.{nat_type}
use Rattle.core_rules.specs.Heads as H
use Rattle.core_rules.specs.Heads.{Answer, Form, Within, Out, HeadOf, IsForm}
use Rattle.core_rules.specs.Bounded.{Yes}
use Rattle.core_rules.specs.BoundedLaws.{no_solutions}
use Rattle.kernel_rules.specs.Outcome.{Gives, Refuses, goes_on, stops}
use Rattle.el_outside.specs.declared.place.Pos.{Pos}
use Rattle.source_tree.specs.declared.place.Place.{Place}
use Rattle.resolved_tree.specs.declared.resolved.ResolvedExpr.TheVariants as r
use Rattle.resolved_tree.specs.declared.resolved.ResolvedArg.TheVariants as ra
use Rattle.written_rules.specs.Asking.{Comes}
use Rattle.written_rules.specs.Rules.{known}
use Rattle.written_rules.specs.Expressions.{a_type}
use Rattle.written_rules.specs.Refusals.{OutOfFuel}
use Rattle.written_rules.proofs.Forms.{app_means, variable_means, def_means, family_means, set_means, plain_means, explicit_binds}
use Rattle.written_rules.proofs.Told.{form_told, applied_told, itself_told}
use Rattle.data_rules.specs.Rules.{known_family, heading}
use Rattle.data_rules.specs.Shapes.{telescope, most_shown}
use Rattle.data_rules.specs.Refusals.{Kind, BadSort, ConShape, Elab, at}
use Rattle.data_rules.specs.Examples.{SortByStep, ParameterByStep, WithoutEnd, ShapeOutOfFuel, MostIndices, arrows, domains, deep, stepping, hiding}
use Rattle.data_rules.proofs.Comes.{then_comes}
use Rattle.data_rules.proofs.Told.{form, plain_family, S0, set_told}

-- ---- head forms that take a step

-- where function 0 unfolds to t, it does so with a step
module _ (g : Signature Term) (t : Term) (q : ℕ) (is : tree_of g 0 ≡ Some (Leaf t q)) where
  leaf_out : (T : Tree Term) (w : Answer) (n : ℕ) → T ≡ Leaf t q → H.Follows g no_solutions (Def 0) [] T [] [] w n → 0 < n
  leaf_out T w n e (H.leaf f) = omega arith
  leaf_out T w n e (H.split f h) = absurd cc
  leaf_out T w n e (H.record_split f) = absurd cc
  leaf_out T w n e (H.stuck h) = absurd (subst (λ T. H.IsStuck T []) e h)

  its_tree : (T : Tree Term) → tree_of g 0 ≡ Some T → T ≡ Leaf t q
  its_tree T e = let same : Some T ≡ Some (Leaf t q) = sym e ∙ is in cc same

  def_out : (w : Answer) (n : ℕ) → H.Heads g no_solutions (Def 0) [] w n → 0 < n
  def_out w n (H.form e) = absurd (cc (e, is))
  def_out w n (H.call {T = T} e f) = leaf_out T w n (its_tree T e) f

pub sort_by_step : SortByStep
unfolding telescope
sort_by_step fuel d p a x =
    let o = plain_family x.id [] 0 in (
      goes_on o
          (rw (def_means stepping a 0) (form (Sort 1), set_told stepping (suc fuel) 1, (Within (Form S0 []) 1, (H.call refl (H.leaf (H.form tt)), omega arith), refl))) refl,
      stops (at a.pos (Elab OutOfFuel)) (subst (λ m. Comes stepping 0 d (heading x.id most_shown [] m) (Refuses (at a.pos (Elab OutOfFuel)))) (sym (def_means stepping a 0))
          (form (Sort 1), set_told stepping 0 1, (Out, def_out stepping S0 0 refl, refl))) refl,
    )

pub parameter_by_step : ParameterByStep
unfolding telescope
parameter_by_step fuel d p i j q k t u v w z x A y =
    let o = plain_family x.id (entry Explicit A.id S0 ∷ []) 0 in
    let g = stepping ++ Family o ∷ [] in
    let to = Pi Explicit A.id S0 S0 in
    let same = Pi Explicit 0 S0 S0 in
    let set = set_told g (suc fuel) 0 in
    let agree = itself_told g (suc fuel) d S0 in
    goes_on o (rw (explicit_binds stepping i, set_means stepping j 0, set_means stepping q 0) (form S0, set_told stepping (suc fuel) 0, refl))
    (rw (app_means g t, family_means g u 0, plain_means g (r.App v (r.Def w 1) (ra.Plain (r.Variable z 0) ∷ [])), app_means g v, def_means g w 1, plain_means g (r.Variable z 0), variable_means g z 0) (
      form to,
      form_told g (suc fuel) to tt,
      (
        form S0,
        set,
        (
          form same,
          form_told g (suc fuel) same tt,
          (
            form S0,
            set,
            (
              form S0,
              set,
              (
                Yes,
                agree,
                (
                  form S0,
                  set,
                  (
                    Yes,
                    agree,
                    (
                      form S0,
                      set,
                      (
                        Within (Form (Fam 0) (Arg Explicit (App Explicit (Def 1) (Var 0)) ∷ [])) 0,
                        applied_told g (suc fuel) Explicit (Fam 0) (App Explicit (Def 1) (Var 0)) tt,
                        (Within (Form (Var 0) []) 1, (H.argument (H.call refl (H.intro (H.leaf (H.form tt)))), omega arith), refl),
                      ),
                    ),
                  ),
                ),
              ),
            ),
          ),
        ),
      ),
    ))

-- ---- many function types

never_changed : (k n : ℕ) → over (env_var []) k (arrows n) ≡ arrows n
never_changed k zero = refl
never_changed k (suc n) = rw (never_changed (k + 1) n) refl

arrows_form : (g : Signature Term) (n : ℕ) → IsForm g (arrows n) []
arrows_form g zero = tt
arrows_form g (suc n) = tt

-- a type whose head form is the type with n arrows, which is found in u steps
module _ (g : Signature Term) (fuel d : ℕ) (p : Pos) (k : Kind) where
  all_shown : (room n u : ℕ) (t : Term) → HeadOf g no_solutions t fuel (Within (Form (arrows n) []) u) → n ≤ room
      → Comes g fuel d (telescope p k room t) (Gives (record { entries = domains n; end = Form S0 [] }))
  unfolding telescope
  all_shown zero zero u t h l = (Within (Form S0 []) u, h, refl)
  all_shown zero (suc n) u t h l = absurd (omega (arith, l))
  all_shown (suc room) zero u t h l = (Within (Form S0 []) u, h, refl)
  all_shown (suc room) (suc n) u t h l =
      (Within (Form (arrows (suc n)) []) u, h, then_comes g fuel d _ _ _ _ (goes_on _ (all_shown room n 0 (arrows n) (form_told g fuel (arrows n) (arrows_form g n)) (omega (arith, l))) refl))

  one_more : (room n u : ℕ) (t : Term) → HeadOf g no_solutions t fuel (Within (Form (arrows n) []) u) → room < n → Comes g fuel d (telescope p k room t) (Refuses (at p k))
  unfolding telescope
  one_more room zero u t h l = absurd (omega (arith, l))
  one_more zero (suc n) u t h l = (Within (Form (arrows (suc n)) []) u, h, refl)
  one_more (suc room) (suc n) u t h l =
      (Within (Form (arrows (suc n)) []) u, h, then_comes g fuel d _ _ _ _ (stops _ (one_more room n 0 (arrows n) (form_told g fuel (arrows n) (arrows_form g n)) (omega (arith, l))) refl))

deep_told : (fuel n : ℕ) → HeadOf (deep n) no_solutions (Def 0) (suc fuel) (Within (Form (arrows n) []) 1)
deep_told fuel n = (H.call refl (H.leaf (rw (never_changed 0 n) (H.form (arrows_form (deep n) n)))), omega arith)

pub most_indices : MostIndices
most_indices fuel d n p a x =
    let o = known_family x.id [] (domains n) 0 in
    let g = deep n in
    let set = form_told g (suc fuel) (Sort 1) tt in (
      λ l. goes_on o (rw (def_means g a 0) (form (Sort 1), set, then_comes g (suc fuel) d _ _ _ _ (goes_on _ (all_shown g (suc fuel) d a.pos BadSort most_shown n 1 (Def 0) (deep_told fuel n) l) refl))) refl,
      λ l. stops (at a.pos BadSort) (rw (def_means g a 0) (form (Sort 1), set, then_comes g (suc fuel) d _ _ _ _ (stops _ (one_more g (suc fuel) d a.pos BadSort most_shown n 1 (Def 0) (deep_told fuel n) l) refl))) refl,
    )

-- ---- function types without end

-- in any signature in which function 0 unfolds so
module _ (g : Signature Term) (n : ℕ) (is : tree_of g 0 ≡ Some (Leaf (Pi Implicit n nat_type (Def 0)) 0)) where
  unfolds : (fuel : ℕ) → HeadOf g no_solutions (Def 0) (suc fuel) (Within (Form (Pi Implicit n nat_type (Def 0)) []) 1)
  unfolds fuel = (H.call is (H.leaf (H.form tt)), omega arith)

  endless : (fuel d : ℕ) (p : Pos) (k : Kind) (room : ℕ) → Comes g (suc fuel) d (telescope p k room (Def 0)) (Refuses (at p k))
  unfolding telescope
  endless fuel d p k zero = (Within (Form (Pi Implicit n nat_type (Def 0)) []) 1, unfolds fuel, refl)
  endless fuel d p k (suc room) = (Within (Form (Pi Implicit n nat_type (Def 0)) []) 1, unfolds fuel, then_comes g (suc fuel) d _ _ _ _ (stops _ (endless fuel d p k room) refl))

-- `data D : Set where`
set_heading : (g : Signature Term) (fuel d x : ℕ) (a : Place) → Comes g fuel d (heading x most_shown [] (a_type a.pos (known S0 1))) (Gives (plain_family x [] 0))
unfolding telescope
set_heading g fuel d x a = (form S0, set_told g fuel 0, refl)

pub without_end : WithoutEnd
without_end fuel d n p a i b x y =
    let o = plain_family x.id [] 0 in
    let g = hiding n ++ Family o ∷ [] in (
      stops (at a.pos BadSort) (rw (def_means (hiding n) a 0)
          (form S0, set_told (hiding n) (suc fuel) 0, then_comes (hiding n) (suc fuel) d _ _ _ _ (stops _ (endless (hiding n) n refl fuel d a.pos BadSort most_shown) refl))) refl,
      goes_on o (rw (set_means (hiding n) a 0) (set_heading (hiding n) (suc fuel) d x.id a)) (rw (def_means g b 0) (
        form S0,
        set_told g (suc fuel) 0,
        then_comes g (suc fuel) d _ _ _ _ (stops _ (then_comes g (suc fuel) d _ _ _ _ (stops _ (then_comes g (suc fuel) d _ _ _ _ (stops _ (endless g n refl fuel d i.pos ConShape most_shown) refl)) refl)) refl),
      )),
    )

pub shape_out_of_fuel : ShapeOutOfFuel
unfolding telescope
shape_out_of_fuel d n p a i b x y =
    let o = plain_family x.id [] 0 in
    let g = hiding n ++ Family o ∷ [] in
    goes_on o (rw (set_means (hiding n) a 0) (form S0, set_told (hiding n) 0 0, refl))
    (rw (def_means g b 0) (form S0, set_told g 0 0, (Out, def_out g (Pi Implicit n nat_type (Def 0)) 0 refl, refl)))
