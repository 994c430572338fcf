-- A data or record declaration has exactly one answer.
use Rattle.std.specs.Prelude.{ℕ, ◌++◌, List, [], ◌∷◌, length, map}
use Rattle.core_rules.specs.Term.{Term}
use Rattle.core_rules.specs.Signature.{Signature, FamDecl, Family, fams}
use Rattle.core_rules.specs.BoundedLaws.{ExactlyOne}
use Rattle.resolved_tree.specs.declared.resolved.Resolved.{Resolved}
use Rattle.resolved_tree.specs.declared.resolved.Resolved.TheVariants as decl
use Rattle.resolved_tree.specs.declared.resolved.ResolvedSignature.{ResolvedSignature}
use Rattle.written_rules.specs.Expressions.{expr_meaning, binder_meaning}
use Rattle.written_rules.proofs.Comes.{comes-exactly}
use Rattle.data_rules.specs.Reading.{Reads}
use Rattle.data_rules.specs.Shapes.{most_shown}
use Rattle.data_rules.specs.Rules.{LineMeaning, heading}
use Rattle.data_rules.specs.Families.{IsFamily, Followed, WrittenFamilyOf, line_meaning, lines_of, data_read, record_read}
use Rattle.data_rules.proofs.Comes.{then-exactly}

module _ (g : Signature Term) (fuel depth : ℕ) where
  followed-exactly : (m : Reads (FamDecl Term)) (k : FamDecl Term → List LineMeaning → Reads (FamDecl Term)) (ss : List ResolvedSignature) → ExactlyOne (Followed g fuel depth m k ss)
  followed-exactly m k ss =
      then-exactly (comes-exactly g fuel depth m) (λ d. comes-exactly (g ++ Family d ∷ []) fuel depth (k d (map (line_meaning (g ++ Family d ∷ [])) ss)))

  pub family-exactly : (e : Resolved) → IsFamily e → ExactlyOne (WrittenFamilyOf g fuel depth e)
  family-exactly (decl.«Data» p x bs e ss) h = followed-exactly (heading x.id most_shown (map (binder_meaning g) bs) (expr_meaning g e)) (data_read (length (fams g))) ss
  family-exactly (decl.Record p x bs e is) h = followed-exactly (heading x.id 0 (map (binder_meaning g) bs) (expr_meaning g e)) (λ d. record_read (length (fams g)) d is) (lines_of is)
  family-exactly (decl.Postulate p ss) h = absurd h
  family-exactly (decl.Function p s qs) h = absurd h
  family-exactly (decl.Open p n b) h = absurd h
