-- How patterns are read in code.
use Rattle.std.specs.Prelude.{◌≡◌, ℕ, List, [], map, Option, Some, None, Result, Ok, Err}
use Rattle.std.specs.declared.vec.Vec.{Vec}
use Rattle.core_rules.specs.Term.{Term}
use Rattle.core_rules.specs.Signature.{Pat, AbsurdPat, ConDecl, FamDecl, Signature, fam_decl}
use Rattle.core_rules.specs.Mapped.{con_map}
use Rattle.core_terms.specs.Pattern.{shape_of}
use Rattle.core_terms.specs.Patterns.{pats_of}
use Rattle.core_terms.specs.declared.pattern.PatShape.{PatShape as CodeShape}
use Rattle.term_pool.specs.Pool.{tree}
use Rattle.kernel_rules.specs.Outcome.{Outcome, Gives, Refuses}
use Rattle.resolved_tree.specs.declared.resolved.ResolvedPattern.{ResolvedPattern}
use Rattle.lhs_rules.specs.Refusals.{Refusal}
use Rattle.lhs_rules.specs.Asking.{Reads, ◌>>=◌}
use Rattle.lhs_rules.specs.Spots.{AtCon, AtValue, AtVar, Left, Sketch, SketchShape, Spot}
use Rattle.lhs_rules.specs.Rules.{Read, ReadAll, Slot, ElimMeaning, reads, read_all, shows, elim_by_need}
use Rattle.lhs_rules.specs.Patterns.{pattern_meaning}
use Rattle.need_rules.specs.Needs.{need}
use Rattle.lhs_elab.specs.declared.elaborator.Elaborator.{Elaborator}
use Rattle.lhs_elab.specs.declared.error.LhsError.{LhsError}
use Rattle.lhs_elab.specs.declared.walk.Step.{Step}
use Rattle.lhs_elab.specs.declared.walk.Step.TheVariants as W
use Rattle.lhs_elab.specs.Answers.{RefusedBy}
use Rattle.lhs_elab.specs.Elaborator.{Over, Comes, left_of, signature_of}

-- what patterns mean in the left side of x
abbrev pub meanings : {S : Type 0} → Elaborator S → List ResolvedPattern → List ElimMeaning
meanings x ps = map (pattern_meaning (signature_of x) x.function) ps

-- how many entries stand outside what stands at a spot, where n are all
abbrev pub level_of : ℕ → Spot → ℕ
level_of n (AtVar i) = i
level_of n (AtValue v) = n
level_of n AtCon = n

abbrev pub decl_cons : {A : Type 0} → Option (FamDecl A) → List (ConDecl A)
decl_cons None = []
decl_cons (Some d) = d.cons

-- the constructors of family d
abbrev pub cons_in : {S : Type 0} → Elaborator S → ℕ → List (ConDecl Term)
cons_in x d = map (con_map (tree x.pool.now)) (decl_cons (fam_decl x.signature.now d))

-- P holds of `()` in the left side of x
abbrev pub IsAbsurd : {S : Type 0} → Elaborator S → Unit {0} → (Read → Type 0) → Type 0
IsAbsurd x a P = P (reads AbsurdPat (left_of x))

-- P holds of a pattern of this shape in the left side of y
abbrev pub IsRead : {S : Type 0} → Elaborator S → CodeShape → (Read → Type 0) → Type 0
IsRead y s P = P (reads (shape_of s) (left_of y))

-- P holds of the patterns in the left side of y
abbrev pub AreRead : {S G : Type 0} → Elaborator S → Vec Sketch G → (ReadAll → Type 0) → Type 0
AreRead y v P = P (read_all (pats_of v.items) (left_of y))

-- P holds of the pattern of the slot q in the left side of y
abbrev pub IsSlotRead : {S : Type 0} → Elaborator S → Slot → Sketch → (Read → Type 0) → Type 0
IsSlotRead y q t P = (s : SketchShape) × (t ≡ Pat s q.origin q.braces) × P (reads s (left_of y))

-- what stands next, where `again` goes on when a pattern was inserted before it
abbrev pub step_read : Signature Term → ℕ → ElimMeaning → Left → (Left → Reads Left) → Reads Left
step_read g f m l again = shows m.pos l.ty >>= (λ w. elim_by_need g f m l w again (need g w m.next))

-- in y, what stands next is taken, or a pattern is inserted before it
abbrev pub AnswersStep : {S : Type 0} → Over → Elaborator S → ((Left → Reads Left) → Reads Left) → Result Step LhsError → Type 0
AnswersStep o y M (Ok W.Taken) = (again : Left → Reads Left) → Comes o (M again) (Gives (left_of y))
AnswersStep o y M (Ok W.Inserted) = (again : Left → Reads Left) (r : Outcome Refusal Left) → Comes o (again (left_of y)) r → Comes o (M again) r
AnswersStep o y M (Err e) = RefusedBy y.pool.now (λ r. (again : Left → Reads Left) → Comes o (M again) (Refuses r)) e
