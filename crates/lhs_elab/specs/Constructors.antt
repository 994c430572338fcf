-- How constructor and absurd patterns are read in code, step by step.
use Rattle.std.specs.Prelude.{ℕ, List, length, Result, Ok, Err}
use Rattle.std.specs.declared.vec.Vec.{Vec}
use Rattle.std.specs.Prelude.{Bool}
use Rattle.core_rules.specs.Term.{Term}
use Rattle.core_rules.specs.Signature.{ConDecl, Telescope, Signature, ConPat}
use Rattle.core_rules.specs.TypedTree.{Splitting, con_context, index_equations}
use Rattle.kernel_rules.specs.Outcome.{Outcome, Refuses}
use Rattle.el_outside.specs.declared.place.Pos.{Pos}
use Rattle.lhs_rules.specs.Refusals.{Refusal}
use Rattle.lhs_rules.specs.Asking.{Is, Reads, ◌>>=◌, gives}
use Rattle.lhs_rules.specs.Families.{AtCon, AtFamily, at_con, at_family}
use Rattle.lhs_rules.specs.Spots.{Left, put}
use Rattle.lhs_rules.specs.Rules.{ElimMeaning, Read, ReadAll, reads, con_or, data_or, shows, unified, refuted, constructor, visit_all}
use Rattle.lhs_elab.specs.declared.elaborator.Elaborator.{Elaborator}
use Rattle.lhs_elab.specs.declared.error.LhsError.{LhsError}
use Rattle.lhs_elab.specs.Answers.{RefusedBy}
use Rattle.lhs_elab.specs.Elaborator.{Over, Comes, left_of, signature_of}
use Rattle.lhs_elab.specs.Slots.{slots_of}

-- the family for which constructor k can be put that a type shows to the pattern at p
abbrev pub con_read : Signature Term → Pos → ℕ → Term → Reads AtCon
con_read g p k t = shows p t >>= (λ w. Is (con_or p (at_con g k w)))

-- the data type that a type shows to `()` at p
abbrev pub data_read : Signature Term → Pos → Term → Reads AtFamily
data_read g p t = shows p t >>= (λ w. Is (data_or p (at_family g w)))

-- the left side with constructor k at the arguments es, of which so many are not written, for the variable outside i entries
abbrev pub con_put : Pos → ℕ → ConDecl Term → Telescope Term → ℕ → ℕ → Splitting → Left → Reads Left
con_put p k con es hidden i s l = unified p (con_context s k es) (index_equations s con) >>= (λ b. gives (put l s i k con.args hidden (con_context s k es) b))

-- one constructor is refuted
abbrev pub con_refuted : Pos → ℕ → ConDecl Term → Splitting → Reads (Unit {0})
con_refuted p k con s = refuted p (con_context s k con.args) (index_equations s con)

-- P holds of the left side of y
abbrev pub IsLeft : {S : Type 0} → Elaborator S → Unit {0} → (Left → Type 0) → Type 0
IsLeft y a P = P (left_of y)

-- the pattern of a constructor with these patterns of its arguments
abbrev pub of_pats : ℕ → ReadAll → Reads Read
of_pats k r = gives (reads (ConPat k r.pats) r.left)

-- constructor k, which has the patterns ms, is put for variable j of x: what is left to be read in y are the patterns of its arguments
abbrev pub AnswersEntered : {S : Type 0} → Over → Elaborator S → Elaborator S → List ElimMeaning → Pos → ℕ → ℕ → {G : Type 0} → Result (Vec Bool G) LhsError → Type 0
AnswersEntered o x y ms p k j (Ok v) = (r : Outcome Refusal Read) → Comes o (visit_all (slots_of v.items ms) (length (left_of x).spots) (left_of y) >>= of_pats k) r
    → Comes o (constructor (signature_of x) x.function p k ms j (left_of x)) r
AnswersEntered o x y ms p k j (Err e) = RefusedBy y.pool.now (λ r. Comes o (constructor (signature_of x) x.function p k ms j (left_of x)) (Refuses r)) e
