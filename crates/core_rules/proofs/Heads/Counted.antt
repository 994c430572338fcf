-- Counted steps of terms with addition.
use Rattle.std.specs.Prelude.{[], ◌∷◌, refl}
use Rattle.core_rules.specs.declared.Flag.TheVariants.{Explicit}
use Rattle.core_rules.specs.Term.{App, Con, End}
use Rattle.core_rules.specs.Elimination.{Arg}
use Rattle.core_rules.specs.Heads.{Form, Heads, form, argument, beta, call, leaf, intro, split, enters}
use Rattle.core_rules.specs.BoundedLaws.{no_solutions}
use Rattle.core_rules.specs.Addition.{addition, zero_term, suc_term, plus_term, doubling}

zero_form : Heads addition no_solutions zero_term [] (Form zero_term []) 0
zero_form = form refl

pub plus_once : Heads addition no_solutions (plus_term (suc_term zero_term) zero_term) [] (Form (Con 1 End) (Arg Explicit (plus_term zero_term zero_term) ∷ [])) 1
plus_once = argument (argument (call refl (intro (intro (split {v = Form (Con 1 End) (Arg Explicit zero_term ∷ [])} {m = 0} {n = 1} (argument (form refl)) (enters (leaf (argument (form refl)))))))))

plus_zero : Heads addition no_solutions (plus_term zero_term zero_term) [] (Form zero_term []) 1
plus_zero = argument (argument (call refl (intro (intro (split {v = Form zero_term []} {m = 0} {n = 1} zero_form (enters (leaf zero_form)))))))

pub doubled : Heads addition no_solutions (App Explicit doubling (plus_term zero_term zero_term)) [] (Form zero_term []) 4
doubled = argument (beta refl (argument (argument (call refl (intro (intro (split {v = Form zero_term []} {m = 1} {n = 2} plus_zero (enters (leaf plus_zero)))))))))
