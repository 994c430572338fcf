-- The parts of a data or record declaration (parameters, the type after the colon, constructors, fields), given how their expressions are read.
use Rattle.std.specs.Prelude.{ℕ, List, [], ◌∷◌, ◌++◌, length, map, Some, false}
use Rattle.core_rules.specs.declared.Flag.{Flag}
use Rattle.core_rules.specs.declared.Flag.TheVariants.{Explicit}
use Rattle.core_rules.specs.Term.{Term}
use Rattle.core_rules.specs.Substitution.{shift}
use Rattle.core_rules.specs.Signature.{Telescope, ConDecl, FamDecl}
use Rattle.core_rules.specs.Typing.{entry}
use Rattle.el_outside.specs.declared.place.Pos.{Pos}
use Rattle.written_rules.specs.Refusals.{CannotInfer}
use Rattle.written_rules.specs.Asking.{Is}
use Rattle.written_rules.specs.Rules.{Values, Types, binding, BinderMeaning, Typed, Untyped}
use Rattle.written_rules.specs.Expressions.{ExprMeaning}
use Rattle.data_rules.specs.Refusals.{BadSort, ConShape, Elab}
use Rattle.data_rules.specs.Reading.{Reads, ◌>>=◌, elaborated, gives, refused}
use Rattle.data_rules.specs.Shapes.{Shown, telescope, most_shown, level_or, own_arguments, arguments_or, own_params, level_fits}

-- ---- names of one type

-- the type is that of the first name, and shifted for the later ones
abbrev pub group : Flag → List ℕ → Term → Telescope Term
group f [] a = []
group f (x ∷ xs) a = entry f x a ∷ group f xs (shift a 0 1)

-- the source variables, where the entries are variables more
abbrev pub inside : Telescope Term → Values → Values
inside [] vs = vs
inside (e ∷ es) vs = inside es (binding e.name e.ty vs)

-- ---- parameters

-- their types are read in order, each under the parameters before it. A binder without a type has the type `_`
abbrev pub params : List BinderMeaning → Values → Reads (Telescope Term)
params [] vs = gives []
params (Typed f xs a ∷ bs) vs = elaborated (a vs) (λ t. params bs (inside (group f xs t.0) vs) >>= (λ es. gives (group f xs t.0 ++ es)))
params (Untyped q f x ∷ bs) vs = refused q (Elab CannotInfer)

-- ---- the type after the colon

-- a family of this name as it is known before its constructors and fields
abbrev pub known_family : ℕ → Telescope Term → Telescope Term → ℕ → FamDecl Term
known_family x ps is l = record { name = x; params = ps; indices = is; level = l; is_record = false; cons = []; fields = []; eta = false; coinductive = false }

-- The type m stands under the parameters, and shows function types, so many at most, that end in a sort. These are the indices
abbrev pub indexed : ℕ → ℕ → ExprMeaning → Telescope Term → Reads (FamDecl Term)
indexed x room m ps = elaborated (m.types (inside ps [])) (λ t. telescope m.pos BadSort room t.0 >>= (λ s. Is (level_or m.pos s.end) >>= (λ l. gives (known_family x ps s.entries l))))

-- the parameters and then the type
abbrev pub heading : ℕ → ℕ → List BinderMeaning → ExprMeaning → Reads (FamDecl Term)
heading x room bs m = params bs [] >>= indexed x room m

-- ---- lines of constructors and of fields

-- a line `x y : A`: where it stands, which is at its first name, its names, and how its type is read
pub record LineMeaning : Type 0 where
  pub pos : Pos
  pub names : List ℕ
  pub types : Types

-- ---- constructors of family number n, which is known as d

abbrev pub con_named : Telescope Term → List Term → ℕ → ConDecl Term
con_named es us x = record { name = Some x; args = es; indices = us }

-- the end of a constructor's type, whose test stands at p: the indices
abbrev pub own_indices : Pos → ℕ → FamDecl Term → Shown → Reads (List Term)
own_indices p n d s = Is (arguments_or p (own_arguments n d s.end)) >>= own_params p (length s.entries) (length d.params)

-- A line of constructors. Their type stands under the parameters, and shows function types that end in the family at its own parameters.
-- The level of the type is the greatest one of its arguments' levels and of its end's, which is the family's: so it is above the family's
-- where an argument's is
abbrev pub con_line : ℕ → FamDecl Term → LineMeaning → Reads (List (ConDecl Term))
con_line n d m =
    elaborated (m.types (inside d.params [])) (λ t. telescope m.pos ConShape most_shown t.0 >>= (λ s. own_indices m.pos n d s >>= (λ us.
    Is (level_fits m.pos d.level t.1) >>= (λ o. gives (map (con_named s.entries us) m.names)))))

-- the lines in order
abbrev pub con_lines : ℕ → FamDecl Term → List LineMeaning → Reads (List (ConDecl Term))
con_lines n d [] = gives []
con_lines n d (m ∷ ms) = con_line n d m >>= (λ ks. con_lines n d ms >>= (λ ls. gives (ks ++ ls)))

-- ---- fields of a record of level l

-- a line of fields under the source variables vs: their type stands under the parameters and the fields before, and its level is not above
-- the record's
abbrev pub field_line : ℕ → Values → LineMeaning → Reads (Telescope Term)
field_line l vs m = elaborated (m.types vs) (λ t. Is (level_fits m.pos l t.1) >>= (λ o. gives (group Explicit m.names t.0)))

-- the lines in order
abbrev pub field_lines : ℕ → Values → List LineMeaning → Reads (Telescope Term)
field_lines l vs [] = gives []
field_lines l vs (m ∷ ms) = field_line l vs m >>= (λ es. field_lines l (inside es vs) ms >>= (λ fs. gives (es ++ fs)))
