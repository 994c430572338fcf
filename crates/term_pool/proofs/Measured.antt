-- What a term without names measures, and what a list measures as its items.
use Rattle.std.specs.Prelude.{◌≡◌, ℕ, min, refl}
use Rattle.std.proofs.Common.{sym, ap, ◌∙◌}
use Rattle.core_rules.specs.Term.{Term, Terms, Var, Sort, Pi, Lam, App, Def, Fam, Con, Proj, Meta, End, And, nameless, nameless_all, size, size_all, depth, depth_all}
use Rattle.term_pool.specs.declared.measures.Extent.{Extent}
use Rattle.term_pool.specs.declared.measures.Measures.{Measures}
use Rattle.term_pool.specs.Lists.{list, items, IsList}
use Rattle.term_pool.specs.Reach.{reach, reach_all}
use Rattle.term_pool.specs.Measures.{has_meta, has_meta_in, IsExtent, IsMeasured}

-- ---- a list and its items

reach_list : (ts : Terms) → reach (list ts) ≡ reach_all ts
reach_list End = refl
reach_list (And t ts) = cc (reach_list ts)

pub reach_items : (t : Term) → IsList t → reach t ≡ reach_all (items t)
reach_items t h = ap reach h ∙ reach_list (items t)

has_meta_list : (ts : Terms) → has_meta (list ts) ≡ has_meta_in ts
has_meta_list End = refl
has_meta_list (And t ts) = cc (has_meta_list ts)

pub has_meta_items : (t : Term) → IsList t → has_meta t ≡ has_meta_in (items t)
has_meta_items t h = ap has_meta h ∙ has_meta_list (items t)

pub Extent-is : (m n i j : ℕ) (e : Extent) → m ≡ n → i ≡ j → IsExtent m i e → IsExtent n j e
Extent-is m n i j e h k x = record { nodes = x.nodes ∙ ap (λ n. min n 1048577) h; depth = x.depth ∙ ap (λ n. min n 2001) k }

-- ---- without names

mutual
  pub nameless_twice : (t : Term) → nameless (nameless t) ≡ nameless t
  nameless_twice (Var i) = refl
  nameless_twice (Sort n) = refl
  nameless_twice (Pi b x a t) = cc (nameless_twice a, nameless_twice t)
  nameless_twice (Lam b x a t) = cc (nameless_twice a, nameless_twice t)
  nameless_twice (App b t u) = cc (nameless_twice t, nameless_twice u)
  nameless_twice (Def f) = refl
  nameless_twice (Fam d) = refl
  nameless_twice (Con k ts) = cc (nameless_all_twice ts)
  nameless_twice (Proj f t) = cc (nameless_twice t)
  nameless_twice (Meta m ts) = cc (nameless_all_twice ts)

  nameless_all_twice : (ts : Terms) → nameless_all (nameless_all ts) ≡ nameless_all ts
  nameless_all_twice End = refl
  nameless_all_twice (And t ts) = cc (nameless_twice t, nameless_all_twice ts)

mutual
  nameless-reach : (t : Term) → reach (nameless t) ≡ reach t
  nameless-reach (Var i) = refl
  nameless-reach (Sort n) = refl
  nameless-reach (Pi b x a t) = cc (nameless-reach a, nameless-reach t)
  nameless-reach (Lam b x a t) = cc (nameless-reach a, nameless-reach t)
  nameless-reach (App b t u) = cc (nameless-reach t, nameless-reach u)
  nameless-reach (Def f) = refl
  nameless-reach (Fam d) = refl
  nameless-reach (Con k ts) = nameless-reach_all ts
  nameless-reach (Proj f t) = nameless-reach t
  nameless-reach (Meta m ts) = nameless-reach_all ts

  nameless-reach_all : (ts : Terms) → reach_all (nameless_all ts) ≡ reach_all ts
  nameless-reach_all End = refl
  nameless-reach_all (And t ts) = cc (nameless-reach t, nameless-reach_all ts)

mutual
  nameless-metas : (t : Term) → has_meta (nameless t) ≡ has_meta t
  nameless-metas (Var i) = refl
  nameless-metas (Sort n) = refl
  nameless-metas (Pi b x a t) = cc (nameless-metas a, nameless-metas t)
  nameless-metas (Lam b x a t) = cc (nameless-metas a, nameless-metas t)
  nameless-metas (App b t u) = cc (nameless-metas t, nameless-metas u)
  nameless-metas (Def f) = refl
  nameless-metas (Fam d) = refl
  nameless-metas (Con k ts) = nameless-metas_in ts
  nameless-metas (Proj f t) = nameless-metas t
  nameless-metas (Meta m ts) = refl

  nameless-metas_in : (ts : Terms) → has_meta_in (nameless_all ts) ≡ has_meta_in ts
  nameless-metas_in End = refl
  nameless-metas_in (And t ts) = cc (nameless-metas t, nameless-metas_in ts)

mutual
  nameless-size : (t : Term) → size (nameless t) ≡ size t
  nameless-size (Var i) = refl
  nameless-size (Sort n) = refl
  nameless-size (Pi b x a t) = cc (nameless-size a, nameless-size t)
  nameless-size (Lam b x a t) = cc (nameless-size a, nameless-size t)
  nameless-size (App b t u) = cc (nameless-size t, nameless-size u)
  nameless-size (Def f) = refl
  nameless-size (Fam d) = refl
  nameless-size (Con k ts) = cc (nameless-size_all ts)
  nameless-size (Proj f t) = cc (nameless-size t)
  nameless-size (Meta m ts) = cc (nameless-size_all ts)

  nameless-size_all : (ts : Terms) → size_all (nameless_all ts) ≡ size_all ts
  nameless-size_all End = refl
  nameless-size_all (And t ts) = cc (nameless-size t, nameless-size_all ts)

mutual
  nameless-depth : (t : Term) → depth (nameless t) ≡ depth t
  nameless-depth (Var i) = refl
  nameless-depth (Sort n) = refl
  nameless-depth (Pi b x a t) = cc (nameless-depth a, nameless-depth t)
  nameless-depth (Lam b x a t) = cc (nameless-depth a, nameless-depth t)
  nameless-depth (App b t u) = cc (nameless-depth t, nameless-depth u)
  nameless-depth (Def f) = refl
  nameless-depth (Fam d) = refl
  nameless-depth (Con k ts) = cc (nameless-depth_all ts)
  nameless-depth (Proj f t) = cc (nameless-depth t)
  nameless-depth (Meta m ts) = cc (nameless-depth_all ts)

  nameless-depth_all : (ts : Terms) → depth_all (nameless_all ts) ≡ depth_all ts
  nameless-depth_all End = refl
  nameless-depth_all (And t ts) = cc (nameless-depth t, nameless-depth_all ts)

pub nameless-items : (t : Term) → items (nameless t) ≡ nameless_all (items t)
nameless-items (Var i) = refl
nameless-items (Sort n) = refl
nameless-items (Pi b x a t) = refl
nameless-items (Lam b x a t) = refl
nameless-items (App b t u) = cc (nameless-items u)
nameless-items (Def f) = refl
nameless-items (Fam d) = refl
nameless-items (Con k ts) = refl
nameless-items (Proj f t) = refl
nameless-items (Meta m ts) = refl

nameless-list : (ts : Terms) → nameless (list ts) ≡ list (nameless_all ts)
nameless-list End = refl
nameless-list (And t ts) = cc (nameless-list ts)

pub IsList-nameless : (t : Term) → IsList t → IsList (nameless t)
IsList-nameless t h = ap nameless h ∙ (nameless-list (items t) ∙ ap list (sym (nameless-items t)))

pub nameless-IsMeasured : (t : Term) (k : Measures) → IsMeasured t k → IsMeasured (nameless t) k
nameless-IsMeasured t k h = record {
  reach = h.reach ∙ sym (nameless-reach t);
  metas = h.metas ∙ sym (nameless-metas t);
  whole = Extent-is _ _ _ _ k.whole (sym (nameless-size t)) (sym (nameless-depth t)) h.whole;
  items = Extent-is _ _ _ _ k.items
      (sym (ap size_all (nameless-items t) ∙ nameless-size_all (items t)))
      (sym (ap depth_all (nameless-items t) ∙ nameless-depth_all (items t)))
      h.items;
}
