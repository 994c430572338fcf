-- What printing knows beside a term, and the names of globals, binders and contexts.
use Rattle.std.specs.Prelude.{ℕ, ◌+◌, Bool, cond, List, [], ◌∷◌, ◌++◌, map, reverse, get_or, codes, Option, Some, None}
use Rattle.std.specs.Option.{option_map_or}
use Rattle.core_rules.specs.Signature.{Telescope, ConDecl, FamDecl, Signature, defs, fams, decl_name, def_decl, fam_decl, con_decl, field_entry}
use Rattle.core_print.specs.Apart.{Text, is_among, different}
use Rattle.core_print.specs.Variables.{is_at}

-- the texts of names by id, the signature, and for each goal its metavariable
pub record World : Type 0 where
  pub names : List Text
  pub signature : Signature ℕ
  pub holes : List (Option ℕ)

-- the text of a name, which is empty where there is none
abbrev pub name_text : List Text → ℕ → Text
name_text xs x = get_or xs x []

-- ---- globals: all names of declarations, constructors and fields, a field also where its record is not opened

abbrev pub con_names : {A : Type 0} → List (ConDecl A) → List ℕ
con_names [] = []
con_names (c ∷ cs) = option_map_or (λ x. x ∷ con_names cs) c.name (con_names cs)

abbrev pub family_names : {A : Type 0} → FamDecl A → List ℕ
family_names d = d.name ∷ (con_names d.cons ++ map (λ e. e.name) d.fields)

abbrev pub families_names : {A : Type 0} → List (FamDecl A) → List ℕ
families_names [] = []
families_names (d ∷ ds) = family_names d ++ families_names ds

abbrev pub global_names : {A : Type 0} → Signature A → List ℕ
global_names g = map decl_name (defs g) ++ families_names (fams g)

abbrev pub globals : World → List Text
globals w = map (name_text w.names) (global_names w.signature)

-- ---- what an id of the signature is called. One that stands for nothing is called `_`

abbrev pub unknown : Text
unknown = codes "_"

abbrev pub def_text : World → ℕ → Text
def_text w f = option_map_or (λ d. name_text w.names (decl_name d)) (def_decl w.signature f) unknown

abbrev pub fam_text : World → ℕ → Text
fam_text w d = option_map_or (λ d. name_text w.names d.name) (fam_decl w.signature d) unknown

-- a constructor without a name is called `record`
abbrev pub con_text : World → ℕ → Text
con_text w k = option_map_or (λ c. option_map_or (name_text w.names) c.name (codes "record")) (con_decl w.signature k) unknown

abbrev pub field_text : World → ℕ → Text
field_text w f = option_map_or (λ e. name_text w.names e.name) (field_entry w.signature f) unknown

-- ---- metavariables

-- the first place at which metavariable m stands in hs, where the first of these has number n
abbrev pub hole_from : ℕ → List (Option ℕ) → ℕ → Option ℕ
hole_from n [] m = None
hole_from n (h ∷ hs) m = cond (is_at h m) (Some n) (hole_from (n + 1) hs m)

-- ---- binders and contexts

-- a name that names nothing
abbrev pub is_blank : Text → Bool
is_blank x = is_among x ([] ∷ codes "_" ∷ [])

-- what a binder is called where no other name is in its way: one without a name, or named `_`, is `x`
abbrev pub called : Text → Text
called x = cond (is_blank x) (codes "x") x

-- the name of a binder in a term, where ns are the names of the variables in scope: those of the context and of the binders around
abbrev pub binder_name : World → List Text → ℕ → Text
binder_name w ns x = different (ns ++ globals w) (called (name_text w.names x))

-- what the entries of a context are called in the source, innermost first
abbrev pub source_names : {A : Type 0} → World → Telescope A → List Text
source_names w c = map (λ e. name_text w.names e.name) (reverse c)

-- the names of entries of which the source has these, both innermost first, where ns are the names of the entries inside them: the
-- innermost chooses first, and an entry differs from those inside it alone
abbrev pub names_outside : List Text → List Text → List Text
names_outside ns [] = []
names_outside ns (x ∷ xs) = different ns (called x) ∷ names_outside (different ns (called x) ∷ ns) xs

-- the names of a context, innermost first
abbrev pub context_names : {A : Type 0} → World → Telescope A → List Text
context_names w c = names_outside [] (source_names w c)
