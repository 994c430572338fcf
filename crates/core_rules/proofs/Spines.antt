-- A change passes spines, lists of arguments and environments.
use Rattle.std.specs.Prelude.{◌≡◌, ℕ, List, [], ◌∷◌, map, reverse, refl}
use Rattle.std.proofs.Common.{ap, sym, ◌∙◌}
use Rattle.std.proofs.Math.ListN.{get_or-map}
use Rattle.std.proofs.lemmas.List.{map-append, take-map, drop-map}
use mathlib.Core.List.{reverse_aux}
use Rattle.core_rules.specs.Term.{Term, Terms, Sort, App, Proj, End, And, to_list, env_of}
use Rattle.core_rules.specs.Substitution.{over, over_all, value_at}
use Rattle.core_rules.specs.Signature.{Telescope, Signature, fields_of, Branch}
use Rattle.core_rules.specs.Elimination.{Elim, Arg, Field, elims, args, projections, elims_over}
use Rattle.core_rules.specs.Run.{spread, kept}

pub map-reverse_onto : {X Y : Type 0} (f : X → Y) (xs ys : List X) → map f (reverse_aux xs ys) ≡ reverse_aux (map f xs) (map f ys)
map-reverse_onto f [] ys = refl
map-reverse_onto f (x ∷ xs) ys = map-reverse_onto f xs (x ∷ ys)

pub map-reverse : {X Y : Type 0} (f : X → Y) (xs : List X) → map f (reverse xs) ≡ reverse (map f xs)
map-reverse f xs = map-reverse_onto f xs []

pub to_list-over : (f : ℕ → ℕ → Term) (d : ℕ) (ts : Terms) → to_list (over_all f d ts) ≡ map (over f d) (to_list ts)
to_list-over f d End = refl
to_list-over f d (And t ts) = ap (λ us. over f d t ∷ us) (to_list-over f d ts)

pub env_of-over : (f : ℕ → ℕ → Term) (d : ℕ) (ts : Terms) → env_of (over_all f d ts) ≡ map (over f d) (env_of ts)
env_of-over f d ts = ap reverse (to_list-over f d ts) ∙ sym (map-reverse (over f d) (to_list ts))

pub over-elims : (f : ℕ → ℕ → Term) (d : ℕ) (t : Term) (es : List Elim) → over f d (elims t es) ≡ elims (over f d t) (elims_over f d es)
over-elims f d t [] = refl
over-elims f d t (Arg b u ∷ es) = over-elims f d (App b t u) es
over-elims f d t (Field k ∷ es) = over-elims f d (Proj k t) es

pub args-over : (f : ℕ → ℕ → Term) (d : ℕ) (es : Telescope Term) (ts : List Term) → elims_over f d (args es ts) ≡ args es (map (over f d) ts)
args-over f d [] ts = refl
args-over f d (e ∷ es) [] = refl
args-over f d (e ∷ es) (t ∷ ts) = ap (λ us. Arg e.flag (over f d t) ∷ us) (args-over f d es ts)

each_projection : (f : ℕ → ℕ → Term) (d : ℕ) (t : Term) (ks : List ℕ) → map (over f d) (map (λ k. Proj k t) ks) ≡ map (λ k. Proj k (over f d t)) ks
each_projection f d t [] = refl
each_projection f d t (k ∷ ks) = ap (λ us. Proj k (over f d t) ∷ us) (each_projection f d t ks)

pub projections-over : (f : ℕ → ℕ → Term) (d : ℕ) (g : Signature Term) (k : ℕ) (t : Term) → map (over f d) (projections g k t) ≡ projections g k (over f d t)
projections-over f d g k t = each_projection f d t (fields_of g k)

pub value_at-over : (f : ℕ → ℕ → Term) (d : ℕ) (r : List Term) (k : ℕ) → value_at (map (over f d) r) k ≡ over f d (value_at r k)
value_at-over f d r k = get_or-map (over f d) r k (Sort 0)

pub spread-over : (f : ℕ → ℕ → Term) (d k : ℕ) (us r : List Term) → map (over f d) (spread k us r) ≡ spread k (map (over f d) us) (map (over f d) r)
spread-over f d k us r = simp (map-append, map-reverse, take-map, drop-map) refl

each_kept : (f : ℕ → ℕ → Term) (d : ℕ) (r : List Term) (ks : List ℕ) → map (over f d) (map (value_at r) ks) ≡ map (value_at (map (over f d) r)) ks
each_kept f d r [] = refl
each_kept f d r (k ∷ ks) = cc (value_at-over f d r k, each_kept f d r ks)

pub kept-over : (f : ℕ → ℕ → Term) (d : ℕ) (b : Branch Term) (r : List Term) → map (over f d) (kept b r) ≡ kept b (map (over f d) r)
kept-over f d b r = each_kept f d r b.keep
