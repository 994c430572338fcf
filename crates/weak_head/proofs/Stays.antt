-- What states of a run stand for stays as the pool grows.
use Rattle.std.specs.Prelude.{◌≡◌, ℕ, ◌<◌, List, [], ◌∷◌, ◌++◌, length, map, reverse, drop, refl}
use Rattle.std.proofs.Common.{arith, ap}
use Rattle.core_rules.specs.Term.{Term, Sort}
use Rattle.core_rules.specs.Signature.{Tree, Leaf, Split, ConBranches, NoCon, Decl, Postulate, Family, Open, Function}
use Rattle.core_rules.specs.Mapped.{tree_map, con_branches_map, AllTree, AllConBranches}
use Rattle.core_rules.specs.Elimination.{Arg}
use Rattle.core_terms.specs.TreeView.{con_of}
use Rattle.term_pool.specs.Pool.{Pool, tree, Extends}
use Rattle.term_pool.specs.Growth.{Extends-tree, Extends-length}
use Rattle.core_terms.proofs.Mapped.{signature_map-same, AllDecls-weaker}
use Rattle.el_base.proofs.Lists.{reverse_push}
use Rattle.el_base.proofs.Throughout.{map-same, all-reverse, all-weaker}
use Rattle.weak_head.specs.declared.elim.Elim as E
use Rattle.weak_head.specs.declared.elim.Elim.TheVariants as V
use Rattle.weak_head.specs.declared.state.Applied as A
use Rattle.weak_head.specs.declared.state.Call as C
use Rattle.weak_head.specs.declared.state.Frame as F
use Rattle.weak_head.specs.Elims.{elim_in, spine_in, Below, AllBelow}
use Rattle.weak_head.specs.States.{frame_in, frames_in, AppliedBelow, CallBelow, FrameBelow, FramesBelow}
use Rattle.weak_head.proofs.Environments.{ids_more, env_stays}

-- the tree of the first function, or another
abbrev first_tree : List (Decl Term) → Tree Term → Tree Term
first_tree [] T = T
first_tree (Function x a qs U ∷ g) T = U
first_tree (Postulate x a ∷ g) T = T
first_tree (Family d ∷ g) T = T
first_tree (Open x a ∷ g) T = T

abbrev branches_of : Tree Term → ConBranches Term
branches_of (Split k bs) = bs
branches_of _ = NoCon

module _ {p q : Pool} (g : Extends p q) where
  elim_stays : (e : E.Elim) → Below (length p.trees) e → elim_in (tree q) e ≡ elim_in (tree p) e
  elim_stays (V.Arg b u) h = ap (Arg b) (Extends-tree u g h)
  elim_stays (V.Field k) h = refl

  pub spine_stays : (xs : List E.Elim) → AllBelow (length p.trees) xs → spine_in (tree q) xs ≡ spine_in (tree p) xs
  spine_stays xs h = map-same (Below (length p.trees)) (elim_in (tree q)) (elim_in (tree p)) elim_stays (reverse xs) (all-reverse (Below (length p.trees)) xs h)

  elim_more : (e : E.Elim) → Below (length p.trees) e → Below (length q.trees) e
  elim_more (V.Arg b u) h = omega (arith, h, Extends-length g)
  elim_more (V.Field k) h = tt

  pub spine_more : (xs : List E.Elim) → AllBelow (length p.trees) xs → AllBelow (length q.trees) xs
  spine_more xs h = all-weaker (Below (length p.trees)) (Below (length q.trees)) elim_more xs h

  pub tree_stays : (a : ℕ) (T : Tree ℕ) → a < length p.trees → AllTree (λ i. i < length p.trees) T → tree_map (tree q) T ≡ tree_map (tree p) T
  tree_stays a T l h =
      ap (λ ds. first_tree ds (Leaf (Sort 0) 0)) (signature_map-same (λ t. t < length p.trees) (tree q) (tree p) (λ t l. Extends-tree t g l) (Function 0 a [] T ∷ []) ((l, tt, h), tt))

  pub branches_stay : (a : ℕ) (bs : ConBranches ℕ) → a < length p.trees → AllConBranches (λ i. i < length p.trees) bs → con_branches_map (tree q) bs ≡ con_branches_map (tree p) bs
  branches_stay a bs l h = ap branches_of (tree_stays a (Split 0 bs) l h)

  pub tree_more : (a : ℕ) (T : Tree ℕ) → a < length p.trees → AllTree (λ i. i < length p.trees) T → AllTree (λ i. i < length q.trees) T
  tree_more a T l h = (AllDecls-weaker (λ t. t < length p.trees) (λ t. t < length q.trees) (λ t l. omega (arith, l, Extends-length g)) (Function 0 a [] T ∷ []) ((l, tt, h), tt)).0.2

  pub branches_more : (a : ℕ) (bs : ConBranches ℕ) → a < length p.trees → AllConBranches (λ i. i < length p.trees) bs → AllConBranches (λ i. i < length q.trees) bs
  branches_more a bs l h = tree_more a (Split 0 bs) l h

  pub applied_more : (a : A.Applied) → AppliedBelow (length p.trees) a → AppliedBelow (length q.trees) a
  applied_more a h = (let l = h.0 in omega (arith, l, Extends-length g), spine_more a.spine.items h.1)

  pub call_more : (c : C.Call) → CallBelow (length p.trees) c → CallBelow (length q.trees) c
  call_more c h = (applied_more c.term h.0, ids_more g c.env.items h.1)

  pub frame_more : (x : F.Frame) → FrameBelow (length p.trees) x → FrameBelow (length q.trees) x
  frame_more x h = (call_more x.call h.0, branches_more x.call.term.head (con_of x.branches.now) h.0.0.0 h.1)

  pub frames_more : (xs : List F.Frame) → FramesBelow (length p.trees) xs → FramesBelow (length q.trees) xs
  frames_more xs h = all-weaker (FrameBelow (length p.trees)) (FrameBelow (length q.trees)) frame_more xs h

  pub frame_stays : (x : F.Frame) → FrameBelow (length p.trees) x → frame_in (tree q) x ≡ frame_in (tree p) x
  frame_stays x h =
      let head = Extends-tree x.call.term.head g h.0.0.0 in
      let all = spine_stays x.call.term.spine.items h.0.0.1 in
      let bs = branches_stay x.call.term.head (con_of x.branches.now) h.0.0.0 h.1 in
      let env = env_stays g x.call.env.items h.0.1 in
      let rest = ap (drop x.call.taken) all in
      λ i. record { head = head i; all = all i; place = x.at; branches = bs i; values = env i; rest = rest i }

  pub frames_stay : (xs : List F.Frame) → FramesBelow (length p.trees) xs → frames_in (tree q) xs ≡ frames_in (tree p) xs
  frames_stay xs h = map-same (FrameBelow (length p.trees)) (frame_in (tree q)) (frame_in (tree p)) frame_stays (reverse xs) (all-reverse (FrameBelow (length p.trees)) xs h)

pub frames_push : (f : ℕ → Term) (xs : List F.Frame) (x : F.Frame) → frames_in f (xs ++ x ∷ []) ≡ frame_in f x ∷ frames_in f xs
frames_push f xs x = ap (map (frame_in f)) (reverse_push xs x)
