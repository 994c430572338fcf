-- What a pool keeps of a term beside its node: how far it reaches, whether a metavariable stands in it, and how large it is.
use Rattle.std.specs.Prelude.{◌≡◌, ℕ, min, Bool, false, true, ◌||◌}
use Rattle.core_rules.specs.Term.{Term, Terms, Var, Sort, Pi, Lam, App, Def, Fam, Con, Proj, Meta, End, And, size, size_all, depth, depth_all}
use Rattle.term_pool.specs.declared.measures.Extent.{Extent}
use Rattle.term_pool.specs.declared.measures.Measures.{Measures}
use Rattle.term_pool.specs.declared.measures.Known.{Known}
use Rattle.term_pool.specs.Lists.{items}
use Rattle.term_pool.specs.Reach.{reach}

-- whether a metavariable stands in t
abbrev mutual
  pub has_meta : Term → Bool
  has_meta (Var i) = false
  has_meta (Sort n) = false
  has_meta (Pi b x a t) = has_meta a || has_meta t
  has_meta (Lam b x a t) = has_meta a || has_meta t
  has_meta (App b t u) = has_meta t || has_meta u
  has_meta (Def f) = false
  has_meta (Fam d) = false
  has_meta (Con k ts) = has_meta_in ts
  has_meta (Proj f t) = has_meta t
  has_meta (Meta m ts) = true

  pub has_meta_in : Terms → Bool
  has_meta_in End = false
  has_meta_in (And t ts) = has_meta t || has_meta_in ts

-- n nodes and d levels, each counted no further than one past its limit
pub record IsExtent (n d : ℕ) (e : Extent) : Type 0 where
  pub nodes : e.nodes ≡ min n 1048577
  pub depth : e.depth ≡ min d 2001

-- the second extent is that of the items, where t is an argument list
pub record IsMeasured (t : Term) (k : Measures) : Type 0 where
  pub reach : k.reach ≡ reach t
  pub metas : k.has_meta ≡ has_meta t
  pub whole : IsExtent (size t) (depth t) k.whole
  pub items : IsExtent (size_all (items t)) (depth_all (items t)) k.items

abbrev pub no_extent : Extent
no_extent = record { nodes = 0; depth = 0 }

-- what stands for a list of these where it ends
abbrev pub nothing_known : Known
nothing_known = record { measures = record { reach = 0; has_meta = false; whole = no_extent; items = no_extent }; class = 0 }
