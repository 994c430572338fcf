-- A text that is on its way: what is written, the names in scope, and what is still to be written.
use Rattle.std.specs.Prelude.{◌≡◌, ℕ, ◌<◌, List, [], ◌∷◌, ◌++◌, Bool, false, map, reverse, length, Option, Some, None, string_bytes, codes}
use Rattle.std.specs.List.{AllByRecursion}
use Rattle.core_rules.specs.declared.Flag.TheVariants.{Explicit, Implicit}
use Rattle.core_rules.specs.Term.{Term, Var, Sort, Pi, Lam, App, Def, Fam, Con, Proj, Meta}
use Rattle.core_rules.specs.Signature.{Solved}
use Rattle.term_pool.specs.Pool.{Pool, tree}
use Rattle.core_print.specs.Apart.{Text}
use Rattle.core_print.specs.Labels.{label_text, primed}
use Rattle.core_print.specs.Names.{World, field_text, globals, name_text, unknown}
use Rattle.core_print.specs.Views.{world_of}
use Rattle.term_pool.specs.declared.node.Node.{Node}
use Rattle.term_pool.specs.declared.node.Node.TheVariants as N
use Rattle.core_print.specs.Printed.{arrow, shown, Kind, Binds, Applies, Stands, kind, in_front, as_argument, parens_if}
use Rattle.core_print.specs.declared.label.Label.{Label}
use Rattle.core_print.specs.declared.pattern_names.Bound.{Bound}
use Rattle.core_print.specs.declared.page.Place.{Place}
use Rattle.core_print.specs.declared.page.Place.TheVariants as P
use Rattle.core_print.specs.declared.page.Piece.{Piece}
use Rattle.core_print.specs.declared.page.Piece.TheVariants as C
use Rattle.core_print.specs.declared.page.Work.{Work}
use Rattle.core_print.specs.declared.page.Work.TheVariants as W
use Rattle.core_print.specs.declared.page.Page.{Page}
use Rattle.core_print.specs.declared.page.Source.{Source}

abbrev pub placed : Place → World → List Text → Term → Text
placed P.Alone w ns t = shown w ns t
placed P.InFront w ns t = parens_if (in_front (kind t)) (shown w ns t)
placed P.Argument w ns t = parens_if (as_argument (kind t)) (shown w ns t)

abbrev pub without_first : List Text → List Text
without_first [] = []
without_first (n ∷ ns) = ns

-- the names that labels are, the innermost first
abbrev pub names_in : List Text → List Label → List Text
names_in xs ls = map (label_text xs) (reverse ls)

-- variables with their names, the last first
abbrev pub bound_in : List Text → List Bound → List (ℕ × Text)
bound_in xs bs = map (λ b. (b.place, label_text xs b.label)) (reverse bs)

-- what stands between terms
abbrev pub piece_text : Piece → Text
piece_text C.Close = codes ")"
piece_text C.Space = codes " "
piece_text C.Dot = codes " ."
piece_text C.Arrow = arrow
piece_text C.CloseArrow = codes ")" ++ arrow
piece_text C.CloseBraceArrow = codes "}" ++ arrow

-- what is still to be written, the next first
module _ (w : World) (p : Pool) where
  abbrev pub rest : List Text → List Work → Text
  rest ns [] = []
  rest ns (W.Show q t ∷ ws) = placed q w ns (tree p t) ++ rest ns ws
  rest ns (W.Write x ∷ ws) = piece_text x ++ rest ns ws
  rest ns (W.Field f ∷ ws) = field_text w f ++ rest ns ws
  rest ns (W.Enter x n ∷ ws) = rest (primed (name_text w.names x) n ∷ ns) ws
  rest ns (W.EnterBlank n ∷ ws) = rest (primed (codes "x") n ∷ ns) ws
  rest ns (W.EnterUnwritten n ∷ ws) = rest (primed unknown n ∷ ns) ws
  rest ns (W.Leave ∷ ws) = rest (without_first ns) ws

  -- the text that a page comes to
  abbrev pub whole : Page → Text
  whole x = string_bytes x.out ++ rest (names_in w.names x.inside.items) (reverse x.left.items)

  -- the text that a page comes to with x written first
  abbrev pub with_text : Text → Page → Text
  with_text x y = string_bytes y.out ++ (x ++ rest (names_in w.names y.inside.items) (reverse y.left.items))

-- the terms of a solved name stand in the pool
abbrev pub SolvedIn : Pool → Solved ℕ → Type 0
SolvedIn p s = (s.value < length p.trees) × (s.ty < length p.trees)

-- the terms of a work stand in the pool
abbrev pub WorkIn : Pool → Work → Type 0
WorkIn p (W.Show q t) = t < length p.trees
WorkIn p (W.Write x) = Unit {0}
WorkIn p (W.Field f) = Unit {0}
WorkIn p (W.Enter x n) = Unit {0}
WorkIn p (W.EnterBlank n) = Unit {0}
WorkIn p (W.EnterUnwritten n) = Unit {0}
WorkIn p W.Leave = Unit {0}

abbrev pub WorksIn : Pool → Page → Type 0
WorksIn p x = AllByRecursion (WorkIn p) x.left.items

-- page y is page x with the text written, or with works that come to it
pub record Comes (w : World) (p : Pool) (x y : Page) (text : Text) : Type 0 where
  pub is : whole w p y ≡ with_text w p text x
  pub works : WorksIn p x → WorksIn p y

-- works ys are works xs with some before them that come to this text, which the names in scope decide
pub record Adds (w : World) (p : Pool) (xs ys : List Work) (text : List Text → Text) : Type 0 where
  pub is : (ns : List Text) → rest w p ns (reverse ys) ≡ text ns ++ rest w p ns (reverse xs)
  pub works : AllByRecursion (WorkIn p) xs → AllByRecursion (WorkIn p) ys

-- the names of globals are at hand
abbrev pub IsGiven : Source → Type 0
IsGiven s = map (label_text s.view.names.now) s.globals.now ≡ globals (world_of s.view)

-- what is printed for t: what it applies, as long as the arguments are implicit
abbrev pub visible : Term → Term
visible (App Implicit t u) = visible t
visible (App Explicit t u) = App Explicit t u
visible (Var i) = Var i
visible (Sort n) = Sort n
visible (Pi b x a t) = Pi b x a t
visible (Lam b x a t) = Lam b x a t
visible (Def f) = Def f
visible (Fam d) = Fam d
visible (Con k ts) = Con k ts
visible (Proj f t) = Proj f t
visible (Meta m ts) = Meta m ts

abbrev pub implicit_head : Node → Option ℕ
implicit_head (N.App Implicit t u) = Some t
implicit_head (N.App Explicit t u) = None
implicit_head (N.Var i) = None
implicit_head (N.Sort n) = None
implicit_head (N.Pi b x a t) = None
implicit_head (N.Lam b x a t) = None
implicit_head (N.Def f) = None
implicit_head (N.Fam d) = None
implicit_head (N.Con k a) = None
implicit_head (N.Proj f t) = None
implicit_head (N.Meta m a) = None

-- the kind of a node that is no application to an implicit argument
abbrev pub node_kind : Node → Kind
node_kind (N.App b t u) = Applies
node_kind (N.Var i) = Stands
node_kind (N.Sort n) = Stands
node_kind (N.Pi b x a t) = Binds
node_kind (N.Lam b x a t) = Binds
node_kind (N.Def f) = Stands
node_kind (N.Fam d) = Stands
node_kind (N.Con k a) = Stands
node_kind (N.Proj f t) = Applies
node_kind (N.Meta m a) = Stands

abbrev pub encloses : Place → Kind → Bool
encloses P.Alone k = false
encloses P.InFront k = in_front k
encloses P.Argument k = as_argument k
