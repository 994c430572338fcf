-- Data and record declarations in code.
use Rattle.std.specs.Prelude.{◌≡◌, ℕ, ◌<◌, List, [], ◌∷◌, length, map, Bool, true, false, Option, Result}
use Rattle.core_rules.specs.Term.{Term}
use Rattle.core_rules.specs.Signature.{ConDecl, Entry, FamDecl, Family, Signature}
use Rattle.core_rules.specs.Mapped.{AllFamily, fam_map}
use Rattle.term_pool.specs.Pool.{Pool, tree}
use Rattle.core_terms.specs.declared.signature.CoreDecl.{CoreDecl}
use Rattle.core_terms.specs.Signature.{decl_of, fam_of}
use Rattle.kernel_rules.specs.Outcome.{Outcome}
use Rattle.resolved_tree.specs.declared.resolved.Resolved.{Resolved}
use Rattle.resolved_tree.specs.declared.resolved.Resolved.TheVariants as decl
use Rattle.written_rules.specs.Asking.{Comes}
use Rattle.written_rules.specs.Expressions.{binder_meaning, expr_meaning}
use Rattle.data_rules.specs.Refusals.{Refusal}
use Rattle.data_rules.specs.Rules.{heading}
use Rattle.data_rules.specs.Shapes.{most_shown}
use Rattle.data_elab.specs.declared.error.DataError.{DataError}
use Rattle.data_elab.specs.declared.heading.Heading.{Heading}
use Rattle.data_elab.specs.Answers.{Answers}

-- a data declaration
abbrev pub IsData : Resolved → Type 0
IsData (decl.«Data» p x bs e ss) = Unit {0}
IsData (decl.Record p x bs e is) = ⊥
IsData (decl.Postulate p ss) = ⊥
IsData (decl.Function p s qs) = ⊥
IsData (decl.Open p n b) = ⊥

-- a record declaration
abbrev pub IsRecord : Resolved → Type 0
IsRecord (decl.Record p x bs e is) = Unit {0}
IsRecord (decl.«Data» p x bs e ss) = ⊥
IsRecord (decl.Postulate p ss) = ⊥
IsRecord (decl.Function p s qs) = ⊥
IsRecord (decl.Open p n b) = ⊥

-- what is read before the constructors or fields of a data or record declaration
abbrev pub HeadingOf : Signature Term → ℕ → ℕ → Resolved → Outcome Refusal (FamDecl Term) → Type 0
HeadingOf g fuel depth (decl.«Data» p x bs e ss) = Comes g fuel depth (heading x.id most_shown (map (binder_meaning g) bs) (expr_meaning g e))
HeadingOf g fuel depth (decl.Record p x bs e is) = Comes g fuel depth (heading x.id 0 (map (binder_meaning g) bs) (expr_meaning g e))
HeadingOf g fuel depth (decl.Postulate p ss) = λ r. ⊥
HeadingOf g fuel depth (decl.Function p s qs) = λ r. ⊥
HeadingOf g fuel depth (decl.Open p n b) = λ r. ⊥

-- the data type with these constructors
abbrev pub data_of : Heading → List (ConDecl ℕ) → FamDecl ℕ
data_of h ks = record {
  name = h.name;
  params = h.params.items;
  indices = h.indices.items;
  level = h.level;
  is_record = false;
  cons = ks;
  fields = [];
  eta = false;
  coinductive = false;
}

-- the family as it is known first, over ids
abbrev pub known_of : Heading → FamDecl ℕ
known_of h = data_of h []

-- the record with these fields
abbrev pub record_of : Heading → Option ℕ → List (Entry ℕ) → Bool → Bool → FamDecl ℕ
record_of h x fs eta k = record {
  name = h.name;
  params = h.params.items;
  indices = h.indices.items;
  level = h.level;
  is_record = true;
  cons = record { name = x; args = fs; indices = [] } ∷ [];
  fields = fs;
  eta = eta;
  coinductive = k;
}

-- it is a family, and its ids stand in the pool
pub record IsCoreFamily (p : Pool) (d : CoreDecl) : Type 0 where
  pub family : decl_of d ≡ Family (fam_of d)
  pub within : AllFamily (λ t. t < length p.trees) (fam_of d)

-- an answer is what a reading of a declaration comes to: its family, or its first refusal
abbrev pub AnswersFamily : Pool → (Outcome Refusal (FamDecl Term) → Type 0) → Result CoreDecl DataError → Type 0
AnswersFamily p K r = Answers p (IsCoreFamily p) (λ (d : CoreDecl). fam_map (tree p) (fam_of d)) K r
