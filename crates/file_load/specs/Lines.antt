-- What the load says of a declaration that is resolved: of a block of postulates line by line, and of a data or record type.
use Rattle.std.specs.Prelude.{◌≡◌, ℕ, List, [], ◌∷◌, ◌++◌, map, Result, Ok, Err}
use Rattle.core_rules.specs.Term.{Term}
use Rattle.core_rules.specs.Signature.{Signature, FamDecl, Postulate, Family}
use Rattle.kernel_rules.specs.TermReading.{IsTypeOf}
use Rattle.kernel_rules.specs.FamilyReading.{FamilyOf}
use Rattle.written_rules.specs.Expressions.{WrittenTypeOf}
use Rattle.data_rules.specs.Families.{WrittenFamilyOf}
use Rattle.el_outside.specs.declared.place.Pos.{Pos}
use Rattle.resolved_tree.specs.declared.resolved.ResolvedName.{ResolvedName}
use Rattle.resolved_tree.specs.declared.resolved.ResolvedSignature.{ResolvedSignature}
use Rattle.resolved_tree.specs.declared.resolved.Resolved.{Resolved}
use Rattle.resolved_tree.specs.declared.resolved.Resolved.TheVariants as r
use Rattle.session_text.specs.declared.error.LoadError.{LoadError}
use Rattle.session_text.specs.declared.error.LoadKind.TheVariants as kind
use Rattle.file_load.specs.Kinds.{elab_kind, kernel_kind, family_kind, decl_kind}
use Rattle.file_load.specs.Sizes.{terms_of}
use Rattle.file_load.specs.Passes.{Passes, error_at}

-- the signature behind a part of a file, or the part's error
abbrev pub Judgement : Type 0
Judgement = Result (Signature Term) LoadError

-- the signature g with what f makes of what passed, or the error
abbrev pub added : {A : Type 0} → Signature Term → (A → Signature Term) → Result A LoadError → Judgement
added g f (Ok a) = Ok (g ++ f a)
added g f (Err e) = Err e

-- what passed by P is declared
pub record Declared {A : Type 0} (P : Result A LoadError → Type 0) (g : Signature Term) (f : A → Signature Term) (j : Judgement) : Type 0 where
  pub passed : Result A LoadError
  pub passes : P passed
  pub is : j ≡ added g f passed

-- the postulates of these names with the type t
abbrev pub postulates : List ResolvedName → Term → Signature Term
postulates xs t = map (λ (x : ResolvedName). Postulate x.id t) xs

-- with this fuel for each head form, and to this depth in each comparison
module _ (fuel depth : ℕ) where
  -- the type of a line over the signature g, with its level: it has one term
  abbrev pub TypePasses : Signature Term → ResolvedSignature → Result (Term × ℕ) LoadError → Type 0
  TypePasses g s = Passes (WrittenTypeOf g fuel depth [] s.ty) (λ e. error_at e.pos (elab_kind e.kind)) (λ q. q.0 ∷ [])
      (λ q. IsTypeOf g fuel depth [] q.0) kernel_kind s.place.pos

  -- A line over the signature g. Its names are declarations of one type, which is elaborated, measured and checked once for all of them,
  -- over the signature before the line; what is refused of a declaration, and not of its expression, stands at the first name
  abbrev pub LineOf : Signature Term → ResolvedSignature → Judgement → Type 0
  LineOf g s = Declared (TypePasses g s) g (λ q. postulates s.names q.0)

  -- lines in order, each over the signature behind those before it; the first error ends them
  pub data LinesOf : Signature Term → List ResolvedSignature → Judgement → Type 0 where
    none : {g : Signature Term} → LinesOf g [] (Ok g)
    stopped : {g : Signature Term} {s : ResolvedSignature} {ss : List ResolvedSignature} {e : LoadError} → LineOf g s (Err e) → LinesOf g (s ∷ ss) (Err e)
    further : {g h : Signature Term} {s : ResolvedSignature} {ss : List ResolvedSignature} {j : Judgement} → LineOf g s (Ok h) → LinesOf h ss j
        → LinesOf g (s ∷ ss) j

  -- a data or record declaration over g, whose name stands at p
  abbrev pub FamilyPasses : Signature Term → Pos → Resolved → Result (FamDecl Term) LoadError → Type 0
  FamilyPasses g p x = Passes (WrittenFamilyOf g fuel depth x) (λ e. error_at e.pos (family_kind e.kind)) terms_of (FamilyOf g fuel depth) decl_kind p

  abbrev pub FamilyDeclOf : Signature Term → Pos → Resolved → Judgement → Type 0
  FamilyDeclOf g p x = Declared (FamilyPasses g p x) g (λ d. Family d ∷ [])

  -- A declaration that is resolved. `open` declares nothing: what it brings into scope is known where names are resolved. One of a form
  -- that is not built is refused at its beginning
  abbrev pub DeclOf : Signature Term → Resolved → Judgement → Type 0
  DeclOf g (r.Postulate p ss) j = LinesOf g ss j
  DeclOf g (r.Function p s cs) j = j ≡ Err (error_at p.pos kind.Unsupported)
  DeclOf g (r.Open p d b) j = j ≡ Ok g
  DeclOf g (r.«Data» p x bs a ss) j = FamilyDeclOf g x.place.pos (r.«Data» p x bs a ss) j
  DeclOf g (r.Record p x bs a xs) j = FamilyDeclOf g x.place.pos (r.Record p x bs a xs) j
