-- The parts of two heads, by their nodes.
use Rattle.std.specs.Prelude.{◌≡◌, ◌==◌, ℕ, true, false, eqb, cond, List, [], ◌∷◌, ◌++◌, length, Option, Some, None, option_map, refl}
use Rattle.std.proofs.Common.{rules, ap, ◌∙◌}
use Rattle.weak_head.specs.declared.elim.Elim as E
use Rattle.weak_head.specs.Elims.{elim_in, spine_in}
use Rattle.core_rules.specs.Term.{Term}
use Rattle.core_rules.specs.Elimination.{Elim}
use Rattle.core_rules.specs.Bounded as B
use Rattle.core_rules.specs.Bounded.{Decision, Parts, Pair, argument_parts, parts_or, same_flag, same_heads}
use Rattle.term_pool.specs.Pool.{node_tree}
use Rattle.term_pool.specs.declared.node.Node.{Node}
use Rattle.term_pool.specs.declared.node.Node.TheVariants as N
use Rattle.conversion.specs.declared.arguments.Part.{Part}
use Rattle.std.specs.declared.vec.Vec.{Vec}
use Rattle.conversion.specs.Part.{all_in, parts_in}
use Rattle.conversion.specs.Heads.{is_same_head, rigid, bare, bare_parts, items_of}
use Rattle.conversion.proofs.Zip.{spine_cons}

-- parts that two heads have where nothing is applied
abbrev pub if_bare : Decision → Option (List B.Part) → List Elim → List Elim → Decision
if_bare q None es ds = q
if_bare q (Some ps) [] [] = Parts ps
if_bare q (Some ps) _ _ = q

module _ (f : ℕ → Term) (q : Decision) where
  abbrev by_nodes : Node → Node → List Elim → List Elim → Decision
  by_nodes a b es ds = cond (is_same_head (rigid a) (rigid b)) (parts_or q (argument_parts es ds)) (if_bare q (option_map (all_in f) (bare_parts (bare a) (bare b))) es ds)

  pub heads_by_nodes : (a b : Node) (es ds : List Elim) → same_heads q (node_tree f a) es (node_tree f b) ds ≡ by_nodes a b es ds
  heads_by_nodes (N.Var i) (N.Var j) es ds = refl
  heads_by_nodes (N.Var i) (N.Sort j) es ds = refl
  heads_by_nodes (N.Var i) (N.Pi c y u v) es ds = refl
  heads_by_nodes (N.Var i) (N.Lam c y u v) es ds = refl
  heads_by_nodes (N.Var i) (N.App c u v) es ds = refl
  heads_by_nodes (N.Var i) (N.Def j) es ds = refl
  heads_by_nodes (N.Var i) (N.Fam j) es ds = refl
  heads_by_nodes (N.Var i) (N.Con j d) es ds = refl
  heads_by_nodes (N.Var i) (N.Proj j u) es ds = refl
  heads_by_nodes (N.Var i) (N.Meta j d) es ds = refl
  heads_by_nodes (N.Sort i) (N.Var j) [] ds = refl
  heads_by_nodes (N.Sort i) (N.Var j) (e ∷ es) ds = refl
  heads_by_nodes (N.Sort i) (N.Sort j) [] [] = elim (eqb i j) as (λ o. cond o (Parts []) q ≡ if_bare q (option_map (all_in f) (cond o (Some []) None)) [] []) [ true ↦ refl | false ↦ refl ]
  heads_by_nodes (N.Sort i) (N.Sort j) [] (e ∷ ds) = elim (eqb i j) as (λ o. q ≡ if_bare q (option_map (all_in f) (cond o (Some []) None)) [] (e ∷ ds)) [ true ↦ refl | false ↦ refl ]
  heads_by_nodes (N.Sort i) (N.Sort j) (e ∷ es) ds = elim (eqb i j) as (λ o. q ≡ if_bare q (option_map (all_in f) (cond o (Some []) None)) (e ∷ es) ds) [ true ↦ refl | false ↦ refl ]
  heads_by_nodes (N.Sort i) (N.Pi c y u v) [] ds = refl
  heads_by_nodes (N.Sort i) (N.Pi c y u v) (e ∷ es) ds = refl
  heads_by_nodes (N.Sort i) (N.Lam c y u v) [] ds = refl
  heads_by_nodes (N.Sort i) (N.Lam c y u v) (e ∷ es) ds = refl
  heads_by_nodes (N.Sort i) (N.App c u v) [] ds = refl
  heads_by_nodes (N.Sort i) (N.App c u v) (e ∷ es) ds = refl
  heads_by_nodes (N.Sort i) (N.Def j) [] ds = refl
  heads_by_nodes (N.Sort i) (N.Def j) (e ∷ es) ds = refl
  heads_by_nodes (N.Sort i) (N.Fam j) [] ds = refl
  heads_by_nodes (N.Sort i) (N.Fam j) (e ∷ es) ds = refl
  heads_by_nodes (N.Sort i) (N.Con j d) [] ds = refl
  heads_by_nodes (N.Sort i) (N.Con j d) (e ∷ es) ds = refl
  heads_by_nodes (N.Sort i) (N.Proj j u) [] ds = refl
  heads_by_nodes (N.Sort i) (N.Proj j u) (e ∷ es) ds = refl
  heads_by_nodes (N.Sort i) (N.Meta j d) [] ds = refl
  heads_by_nodes (N.Sort i) (N.Meta j d) (e ∷ es) ds = refl
  heads_by_nodes (N.Pi b x s t) (N.Var j) [] ds = refl
  heads_by_nodes (N.Pi b x s t) (N.Var j) (e ∷ es) ds = refl
  heads_by_nodes (N.Pi b x s t) (N.Sort j) [] ds = refl
  heads_by_nodes (N.Pi b x s t) (N.Sort j) (e ∷ es) ds = refl
  heads_by_nodes (N.Pi b x s t) (N.Pi c y u v) [] [] = elim (same_flag b c) as (λ o. cond o (Parts (Pair [] (f s) (f u) ∷ Pair (x ∷ []) (f t) (f v) ∷ [])) q ≡ if_bare q (option_map (all_in f) (cond o (Some (record { binds = Some x; left = t; right = v } ∷ record { binds = None; left = s; right = u } ∷ [])) None)) [] []) [ true ↦ refl | false ↦ refl ]
  heads_by_nodes (N.Pi b x s t) (N.Pi c y u v) [] (e ∷ ds) = elim (same_flag b c) as (λ o. q ≡ if_bare q (option_map (all_in f) (cond o (Some (record { binds = Some x; left = t; right = v } ∷ record { binds = None; left = s; right = u } ∷ [])) None)) [] (e ∷ ds)) [ true ↦ refl | false ↦ refl ]
  heads_by_nodes (N.Pi b x s t) (N.Pi c y u v) (e ∷ es) ds = elim (same_flag b c) as (λ o. q ≡ if_bare q (option_map (all_in f) (cond o (Some (record { binds = Some x; left = t; right = v } ∷ record { binds = None; left = s; right = u } ∷ [])) None)) (e ∷ es) ds) [ true ↦ refl | false ↦ refl ]
  heads_by_nodes (N.Pi b x s t) (N.Lam c y u v) [] ds = refl
  heads_by_nodes (N.Pi b x s t) (N.Lam c y u v) (e ∷ es) ds = refl
  heads_by_nodes (N.Pi b x s t) (N.App c u v) [] ds = refl
  heads_by_nodes (N.Pi b x s t) (N.App c u v) (e ∷ es) ds = refl
  heads_by_nodes (N.Pi b x s t) (N.Def j) [] ds = refl
  heads_by_nodes (N.Pi b x s t) (N.Def j) (e ∷ es) ds = refl
  heads_by_nodes (N.Pi b x s t) (N.Fam j) [] ds = refl
  heads_by_nodes (N.Pi b x s t) (N.Fam j) (e ∷ es) ds = refl
  heads_by_nodes (N.Pi b x s t) (N.Con j d) [] ds = refl
  heads_by_nodes (N.Pi b x s t) (N.Con j d) (e ∷ es) ds = refl
  heads_by_nodes (N.Pi b x s t) (N.Proj j u) [] ds = refl
  heads_by_nodes (N.Pi b x s t) (N.Proj j u) (e ∷ es) ds = refl
  heads_by_nodes (N.Pi b x s t) (N.Meta j d) [] ds = refl
  heads_by_nodes (N.Pi b x s t) (N.Meta j d) (e ∷ es) ds = refl
  heads_by_nodes (N.Lam b x s t) n es ds = refl
  heads_by_nodes (N.App b s t) n es ds = refl
  heads_by_nodes (N.Def i) (N.Var j) es ds = refl
  heads_by_nodes (N.Def i) (N.Sort j) es ds = refl
  heads_by_nodes (N.Def i) (N.Pi c y u v) es ds = refl
  heads_by_nodes (N.Def i) (N.Lam c y u v) es ds = refl
  heads_by_nodes (N.Def i) (N.App c u v) es ds = refl
  heads_by_nodes (N.Def i) (N.Def j) es ds = refl
  heads_by_nodes (N.Def i) (N.Fam j) es ds = refl
  heads_by_nodes (N.Def i) (N.Con j d) es ds = refl
  heads_by_nodes (N.Def i) (N.Proj j u) es ds = refl
  heads_by_nodes (N.Def i) (N.Meta j d) es ds = refl
  heads_by_nodes (N.Fam i) (N.Var j) es ds = refl
  heads_by_nodes (N.Fam i) (N.Sort j) es ds = refl
  heads_by_nodes (N.Fam i) (N.Pi c y u v) es ds = refl
  heads_by_nodes (N.Fam i) (N.Lam c y u v) es ds = refl
  heads_by_nodes (N.Fam i) (N.App c u v) es ds = refl
  heads_by_nodes (N.Fam i) (N.Def j) es ds = refl
  heads_by_nodes (N.Fam i) (N.Fam j) es ds = refl
  heads_by_nodes (N.Fam i) (N.Con j d) es ds = refl
  heads_by_nodes (N.Fam i) (N.Proj j u) es ds = refl
  heads_by_nodes (N.Fam i) (N.Meta j d) es ds = refl
  heads_by_nodes (N.Con i a) (N.Var j) es ds = refl
  heads_by_nodes (N.Con i a) (N.Sort j) es ds = refl
  heads_by_nodes (N.Con i a) (N.Pi c y u v) es ds = refl
  heads_by_nodes (N.Con i a) (N.Lam c y u v) es ds = refl
  heads_by_nodes (N.Con i a) (N.App c u v) es ds = refl
  heads_by_nodes (N.Con i a) (N.Def j) es ds = refl
  heads_by_nodes (N.Con i a) (N.Fam j) es ds = refl
  heads_by_nodes (N.Con i a) (N.Con j d) es ds = refl
  heads_by_nodes (N.Con i a) (N.Proj j u) es ds = refl
  heads_by_nodes (N.Con i a) (N.Meta j d) es ds = refl
  heads_by_nodes (N.Proj i t) n es ds = refl
  heads_by_nodes (N.Meta i a) n es ds = refl

  pub heads_apart : (a b : Node) (es ds : List Elim) → is_same_head (rigid a) (rigid b) ≡ false → same_heads q (node_tree f a) es (node_tree f b) ds ≡ if_bare q (option_map (all_in f) (bare_parts (bare a) (bare b))) es ds
  heads_apart a b es ds e = heads_by_nodes a b es ds ∙ ap (λ t. cond t (parts_or q (argument_parts es ds)) (if_bare q (option_map (all_in f) (bare_parts (bare a) (bare b))) es ds)) e

  bare_push : (o : Option (List B.Part)) (es ds : List Elim) (e : Elim) → if_bare q o (es ++ e ∷ []) ds ≡ q
  bare_push None es ds e = refl
  bare_push (Some ps) [] ds e = refl
  bare_push (Some ps) (d ∷ es) ds e = refl

  pub not_bare : (o : Option (List B.Part)) (xs : List E.Elim) (ds : List Elim) → (length xs == 0) ≡ false → if_bare q o (spine_in f xs) ds ≡ q
  not_bare o [] ds n = search rules
  not_bare o (x ∷ xs) ds n = ap (λ es. if_bare q o es ds) (spine_cons f x xs) ∙ bare_push o (spine_in f xs) ds (elim_in f x)

  pub all_bare : (o : Option (List B.Part)) → parts_or q o ≡ if_bare q o [] []
  all_bare None = refl
  all_bare (Some ps) = refl

pub made_parts : {A : Type 0} (f : ℕ → Term) (o : Option (Vec Part A)) (x : Option (List Part)) → items_of o ≡ x → parts_in f o ≡ option_map (all_in f) x
made_parts f None x e = ap (option_map (all_in f)) e
made_parts f (Some v) x e = ap (option_map (all_in f)) e
