-- The checked left side of a left side in scope is in scope.
use Rattle.std.proofs.Common.{◌≡◌, ◌+◌, ◌<◌, refl, sym, subst, arith}
use Rattle.std.proofs.lemmas.List.{length-reverse}
use Rattle.std.specs.Prelude.{ℕ, List, [], ◌∷◌, length, reverse, slice_get, Option, Some, None, suc}
use Rattle.std.specs.List.{AllByRecursion}
use mathlib.Core.List.{reverse_aux}
use Rattle.core_rules.specs.Term.{Term}
use Rattle.core_rules.specs.Signature.{Telescope, Context, Signature, PatShape, CorePats, Pat, VarPat, SolvedPat, DottedPat, ConPat, AbsurdPat, ProjectionPat, NoPat, AndPat, Origin, Written, Variable, Underscore, Inserted, Solved, Dot}
use Rattle.core_rules.specs.InScope.{TelescopeInScope, ShapeInScope, PatsInScope, LeftInScope}
use Rattle.core_rules.specs.ScopeLaws.{ContextInScope}
use Rattle.core_rules.specs.Unification.{whole_types}
use Rattle.core_rules.proofs.Scope.Changed.{each_at}
use Rattle.core_rules.proofs.Scope.Declared.{all_got, all_append}
use Rattle.core_rules.proofs.Scope.Unified.{begin-in_scope}
use Rattle.cover_rules.specs.LeftSide.{Held, shape_values, pats_values, shape_named, pats_named}
use Rattle.lhs_rules.specs.Spots.{Spot, AtVar, AtValue, AtCon, Sketch, SketchShape, Left, index_of, spot_at, spot_or}
use Rattle.lhs_rules.specs.Patterns.{settled_var, settled_value, variable_held, placed_held, settled_spot, settled_shape, settled_pats, pats_in, shape_dotted, pats_dotted, dots_from, left_of}
use Rattle.lhs_rules.proofs.Scoped.Lefts.{In, SketchIn, SketchesIn, PatIn, SpotIn, LeftIn, raised-in}

module _ (g : Signature Term) (M : ℕ → ℕ → Type 0) where
  -- ---- contexts as telescopes

  reversed-in : (c : Context Term) (es : Telescope Term) → ContextInScope g M c → TelescopeInScope g M (length c) es → TelescopeInScope g M 0 (reverse_aux c es)
  reversed-in [] es h k = k
  reversed-in (e ∷ c) es h k = reversed-in c (e ∷ es) h.1 (h.0, let p : suc (length c) ≡ length c + 1 = omega arith in subst (λ n. TelescopeInScope g M n es) p k)

  -- ---- values with their types

  abbrev HeldIn : ℕ → Held → Type 0
  HeldIn n v = In g M n v.value × In g M n v.ty

  abbrev SolvedIn : ℕ → Solved Term → Type 0
  SolvedIn n v = In g M n v.value × In g M n v.ty

  -- a shape, its names and its dotted patterns
  record ShapeIn (n : ℕ) (o : Origin) (s : PatShape Held) : Type 0 where
    shape : ShapeInScope g M n (shape_values s)
    named : AllByRecursion (SolvedIn n) (shape_named s o)
    dotted : AllByRecursion (HeldIn n) (shape_dotted s)

  record PatsIn (n : ℕ) (ps : CorePats Held) : Type 0 where
    pats : PatsInScope g M n (pats_values ps)
    named : AllByRecursion (SolvedIn n) (pats_named ps)
    dotted : AllByRecursion (HeldIn n) (pats_dotted ps)

  absurd-in : (n : ℕ) (o : Origin) → ShapeIn n o AbsurdPat
  absurd-in n o = record { shape = tt; named = tt; dotted = tt }

  var-in : (n : ℕ) (o : Origin) (k : ℕ) (v : Held) → k < n → HeldIn n v → ShapeIn n o (settled_var o k v)
  var-in n Written k v l h = record { shape = h.0; named = tt; dotted = (h, tt) }
  var-in n (Variable x b) k v l h = record { shape = l; named = tt; dotted = tt }
  var-in n Underscore k v l h = record { shape = l; named = tt; dotted = tt }
  var-in n Inserted k v l h = record { shape = l; named = tt; dotted = tt }

  value-in : (n : ℕ) (o : Origin) (v : Held) → HeldIn n v → ShapeIn n o (settled_value o v)
  value-in n Written v h = record { shape = h.0; named = tt; dotted = (h, tt) }
  value-in n (Variable x b) v h = record { shape = h.0; named = (h, tt); dotted = tt }
  value-in n Underscore v h = record { shape = h.0; named = tt; dotted = tt }
  value-in n Inserted v h = record { shape = h.0; named = tt; dotted = tt }

  module _ (l : Left) (h : LeftIn g M l) where
    abbrev size : ℕ
    size = length l.context

    spot-in : (o : Origin) (s : Spot) → SpotIn g M size s → ShapeIn size o (settled_spot l.context o s)
    spot-in o (AtVar i) k =
        let p : index_of l.context i < size = omega (arith, k) in
        var-in size o (index_of l.context i) (variable_held l.context (index_of l.context i)) p
        (p, each_at g M size (whole_types 0 l.context) (index_of l.context i) (begin-in_scope g M l.context [] h.context tt).0)
    spot-in o (AtValue v) k = value-in size o (placed_held l.context v) (raised-in g M l.context v.outer v.value k.0 k.1, raised-in g M l.context v.outer v.ty k.0 k.2)
    spot-in o AtCon k = absurd-in size o

    -- a spot that is not there is that of no variable
    some_spot-in : (j : ℕ) (o : Option Spot) → slice_get l.spots j ≡ o → SpotIn g M size (spot_or o)
    some_spot-in j None e = tt
    some_spot-in j (Some s) e = all_got (SpotIn g M size) l.spots j s h.spots e

    mutual
      shape-in : (o : Origin) (s : SketchShape) → SketchIn g M s → ShapeIn size o (settled_shape l o s)
      shape-in o (VarPat j) k = spot-in o (spot_at l j) (some_spot-in j (slice_get l.spots j) refl)
      shape-in o (SolvedPat v) k = absurd-in size o
      shape-in o (DottedPat v) k = absurd-in size o
      shape-in o (ConPat c ps) k = let x = pats-in ps k.1 in record { shape = (k.0, x.pats); named = x.named; dotted = x.dotted }
      shape-in o AbsurdPat k = absurd-in size o
      shape-in o (ProjectionPat f) k = record { shape = k; named = tt; dotted = tt }

      pats-in : (ps : CorePats ℕ) → SketchesIn g M ps → PatsIn size (settled_pats l ps)
      pats-in NoPat k = record { pats = tt; named = tt; dotted = tt }
      pats-in (AndPat (Pat s o b) ps) k =
          let x = shape-in o s k.0 in
          let y = pats-in ps k.1 in
          record {
            pats = (x.shape, y.pats);
            named = all_append (SolvedIn size) (shape_named (settled_shape l o s) o) (pats_named (settled_pats l ps)) x.named y.named;
            dotted = all_append (HeldIn size) (shape_dotted (settled_shape l o s)) (pats_dotted (settled_pats l ps)) x.dotted y.dotted;
          }

    listed-in : (ps : List Sketch) → AllByRecursion (PatIn g M) ps → SketchesIn g M (pats_in ps)
    listed-in [] k = tt
    listed-in (Pat s o b ∷ ps) k = (k.0, listed-in ps k.1)

    dots-in : (n i : ℕ) (vs : List Held) → AllByRecursion (HeldIn n) vs → AllByRecursion (λ d. In g M n d.value × In g M n d.ty) (dots_from i vs)
    dots-in n i [] k = tt
    dots-in n i (v ∷ vs) k = (k.0, dots-in n (i + 1) vs k.1)

    pub left-in : LeftInScope g M (left_of l)
    left-in =
        let x = pats-in (pats_in l.pats) (listed-in l.pats h.pats) in
        let n : size ≡ length (reverse l.context) = sym (length-reverse l.context) in
        record {
          context = reversed-in l.context [] h.context tt;
          pats = subst (λ n. PatsInScope g M n (pats_values (settled_pats l (pats_in l.pats)))) n x.pats;
          ty = subst (λ n. In g M n l.ty) n h.ty;
          named = subst (λ n. AllByRecursion (SolvedIn n) (pats_named (settled_pats l (pats_in l.pats)))) n x.named;
          dots = subst (λ n. AllByRecursion (λ (d : Dot Term). In g M n d.value × In g M n d.ty) (dots_from 0 (pats_dotted (settled_pats l (pats_in l.pats))))) n (dots-in size 0 (pats_dotted (settled_pats l (pats_in l.pats))) x.dotted);
        }
