-- What a signature over ids says of constructors and fields, which is what the signature over trees says.
use Rattle.std.specs.Prelude.{◌≡◌, ◌≢◌, ℕ, zero, suc, ◌+◌, ◌<◌, ◌≤◌, Bool, true, false, ◌&&◌, eqb, cond, List, [], ◌∷◌, length, map, sum, take, get_or, slice_get, Option, Some, None, option_map, option_and_then, refl}
use Rattle.std.specs.Option.{option_map_or}
use Rattle.std.proofs.Common.{arith, sym, ap, ap₂, ◌∙◌, subst}
use Rattle.std.proofs.lemmas.Grind.{common_steps}
use Rattle.std.proofs.lemmas.List.{length-map, length-append, get_or_past}
use Rattle.std.proofs.lemmas.Option.{slice_get_past}
use Rattle.std.proofs.lemmas.List.Sums.{sum_by-cons}
use Rattle.core_rules.specs.Term.{Term, Proj}
use Rattle.core_rules.specs.Elimination.{projections}
use Rattle.core_rules.specs.Signature.{Tree, Decl, Postulate, Family, Open, Function, defs, decl_tree, ConDecl, FamDecl, Signature, numbers, places, fams, con_counts, field_counts, con_place, field_place, fam_decl, con_decl, fields_of, tree_of}
use Rattle.core_rules.specs.Mapped.{con_map, entry_map, tree_map, AllDecl, AllTree}
use Rattle.core_rules.specs.Run.{takes}
use Rattle.core_rules.specs.Heads.{argument_of, is_first}
use Rattle.std.specs.List.{AllByRecursion}
use Rattle.core_rules.proofs.Heads.OneAnswer.{one_some}
use Rattle.core_rules.proofs.Heads.Mapped.{tree_of-map, con_place-map, field_place-map, con_decl-map, fields_of-map}
use Rattle.core_rules.proofs.Signature.Places.{length-numbers}
use Rattle.term_pool.specs.Pool.{Pool, tree}
use Rattle.core_terms.specs.Signature.{signature_in, con_total, field_total, Stands}

pub length_places : (b : ℕ) (ns : List ℕ) → length (places b ns) ≡ sum ns
length_places b [] = refl
length_places b (n ∷ ns) =
    let f : ℕ → ℕ × ℕ = λ i. (b, i) in
    length-append (map f (numbers 0 n)) (places (b + 1) ns) ∙ ap₂ (λ x y. x + y) (length-map (numbers 0 n) f ∙ length-numbers 0 n) (length_places (b + 1) ns) ∙ sym (sum_by-cons (λ i. i) n ns)

neither : (b : Bool) → ◌≡◌ {A = Option Term} (cond b None None) None
neither true = refl
neither false = refl

defs_stand : (P : ℕ → Type 0) (g : Signature ℕ) → AllByRecursion (AllDecl P) g → AllByRecursion (AllDecl P) (defs g)
defs_stand P [] h = tt
defs_stand P (Postulate x a ∷ g) h = (h.0, defs_stand P g h.1)
defs_stand P (Family d ∷ g) h = defs_stand P g h.1
defs_stand P (Open x a ∷ g) h = (h.0, defs_stand P g h.1)
defs_stand P (Function x a qs T ∷ g) h = (h.0, defs_stand P g h.1)

decl_stands : (P : ℕ → Type 0) (d : Decl ℕ) (T : Tree ℕ) → decl_tree d ≡ Some T → AllDecl P d → AllTree P T
decl_stands P (Function x a qs U) T e h = subst (AllTree P) (one_some e) h.2
decl_stands P (Postulate x a) T e h = absurd cc
decl_stands P (Family d) T e h = absurd cc
decl_stands P (Open x a) T e h = absurd cc

at_stands : (P : ℕ → Type 0) (ds : List (Decl ℕ)) (f : ℕ) (T : Tree ℕ) → option_and_then decl_tree (slice_get ds f) ≡ Some T → AllByRecursion (AllDecl P) ds → AllTree P T
at_stands P [] f T e h = absurd cc
at_stands P (d ∷ ds) zero T e h = decl_stands P d T e h.0
at_stands P (d ∷ ds) (suc f) T e h = at_stands P ds f T e h.1

-- the ids of a tree stand in the pool
pub tree_stands : (p : Pool) (g : Signature ℕ) → Stands p g → (f : ℕ) (T : Tree ℕ) → tree_of g f ≡ Some T → AllTree (λ i. i < length p.trees) T
tree_stands p g h f T e = at_stands (λ i. i < length p.trees) (defs g) f T e (defs_stand (λ i. i < length p.trees) g h)

-- ids that the signature does not have
pub no_con : (g : Signature ℕ) (k : ℕ) → con_total g ≤ k → con_place g k ≡ None
no_con g k h = slice_get_past (places 0 (con_counts g)) k (omega (arith, h, length_places 0 (con_counts g)))

pub no_field : (g : Signature ℕ) (f : ℕ) → field_total g ≤ f → field_place g f ≡ None
no_field g f h = slice_get_past (places 0 (field_counts g)) f (omega (arith, h, length_places 0 (field_counts g)))

pub no_fam : (g : Signature ℕ) (d : ℕ) → length (fams g) ≤ d → fam_decl g d ≡ None
no_fam g d h = slice_get_past (fams g) d h

module _ (p : Pool) (g : Signature ℕ) where
  pub tree_in : (f : ℕ) (o : Option (Tree ℕ)) → tree_of g f ≡ o → tree_of (signature_in p g) f ≡ option_map (tree_map (tree p)) o
  tree_in f o e = tree_of-map (tree p) g f ∙ ap (option_map (tree_map (tree p))) e

  pub fields_past : (d : ℕ) → length (fams g) ≤ d → fields_of (signature_in p g) d ≡ []
  fields_past d h =
      let f : FamDecl ℕ → ℕ = λ d. length d.fields in
      let l = length-map (fams g) f in
      let e : get_or (field_counts g) d 0 ≡ 0 = get_or_past (field_counts g) d 0 (omega (arith, h, l)) in
      fields_of-map (tree p) g d ∙ ap (numbers (sum (take d (field_counts g)))) e

  pub fields_in : (d : ℕ) → fields_of (signature_in p g) d ≡ fields_of g d
  fields_in d = fields_of-map (tree p) g d

  -- a constructor that is the first of a family
  first_by : (k d : ℕ) (o : Option (ℕ × ℕ)) → con_place g k ≡ o → is_first (signature_in p g) k d ≡ option_map_or (λ q. eqb q.0 d && eqb q.1 0) o false
  first_by k d o e = ap (λ o. option_map_or (λ q. eqb q.0 d && eqb q.1 0) o false) (con_place-map (tree p) g k ∙ e)

  pub first_none : (k d : ℕ) → con_place g k ≡ None → false ≡ is_first (signature_in p g) k d
  first_none k d e = sym (first_by k d None e)

  pub first_other : (k d a b : ℕ) → con_place g k ≡ Some (a, b) → a ≢ d → false ≡ is_first (signature_in p g) k d
  first_other k d a b e n =
      let t : eqb a d ≡ false = grind (arith, common_steps) in
      sym (first_by k d (Some (a, b)) e ∙ ap (λ x. x && eqb b 0) t)

  pub first_same : (k d a b : ℕ) → con_place g k ≡ Some (a, b) → a ≡ d → eqb b 0 ≡ is_first (signature_in p g) k d
  first_same k d a b e n =
      let t : eqb a d ≡ true = grind (arith, common_steps) in
      sym (first_by k d (Some (a, b)) e ∙ ap (λ x. x && eqb b 0) t)

  -- a constructor that takes so many arguments
  takes_by : (k n : ℕ) (o : Option (ConDecl ℕ)) → con_decl g k ≡ o → takes (signature_in p g) k n ≡ option_map_or (λ c. eqb (length c.args) n) (option_map (con_map (tree p)) o) false
  takes_by k n o e = ap (λ o. option_map_or (λ c. eqb (length c.args) n) o false) (con_decl-map (tree p) g k ∙ ap (option_map (con_map (tree p))) e)

  decl_by : (k : ℕ) (o : Option (ℕ × ℕ)) → con_place g k ≡ o → con_decl g k ≡ option_and_then (λ p. option_and_then (λ d. slice_get d.cons p.1) (fam_decl g p.0)) o
  decl_by k o e = ap (option_and_then (λ p. option_and_then (λ d. slice_get d.cons p.1) (fam_decl g p.0))) e

  pub takes_none : (k n : ℕ) → con_place g k ≡ None → false ≡ takes (signature_in p g) k n
  takes_none k n e = sym (takes_by k n None (decl_by k None e))

  pub takes_past : (k n a b : ℕ) → con_place g k ≡ Some (a, b) → fam_decl g a ≡ None → false ≡ takes (signature_in p g) k n
  takes_past k n a b e h = sym (takes_by k n None (decl_by k (Some (a, b)) e ∙ ap (option_and_then (λ d. slice_get d.cons b)) h))

  decl_in : (k a b : ℕ) (d : FamDecl ℕ) (o : Option (ConDecl ℕ)) → con_place g k ≡ Some (a, b) → fam_decl g a ≡ Some d → slice_get d.cons b ≡ o → con_decl g k ≡ o
  decl_in k a b d o e h i = decl_by k (Some (a, b)) e ∙ ap (option_and_then (λ d. slice_get d.cons b)) h ∙ i

  pub takes_other : (k n a b : ℕ) (d : FamDecl ℕ) → con_place g k ≡ Some (a, b) → fam_decl g a ≡ Some d → slice_get d.cons b ≡ None → false ≡ takes (signature_in p g) k n
  takes_other k n a b d e h i = sym (takes_by k n None (decl_in k a b d None e h i))

  pub takes_some : (k n a b l : ℕ) (d : FamDecl ℕ) (c : ConDecl ℕ) → con_place g k ≡ Some (a, b) → fam_decl g a ≡ Some d → slice_get d.cons b ≡ Some c → length c.args ≡ l → eqb l n ≡ takes (signature_in p g) k n
  takes_some k n a b l d c e h i j = sym (takes_by k n (Some c) (decl_in k a b d (Some c) e h i) ∙ ap (λ m. eqb m n) (length-map c.args (entry_map (tree p)) ∙ j))

  -- the argument for a projection
  argument_by : (k f n : ℕ) (us : List Term) (o : Option (ℕ × ℕ)) → field_place g f ≡ o → length us ≡ n
      → argument_of (signature_in p g) k us f ≡ option_and_then (λ q. cond (takes (signature_in p g) k n && is_first (signature_in p g) k q.0) (slice_get us q.1) None) o
  argument_by k f n us o e l =
      ap (option_and_then (λ q. cond (takes (signature_in p g) k (length us) && is_first (signature_in p g) k q.0) (slice_get us q.1) None)) (field_place-map (tree p) g f ∙ e)
      ∙ ap (λ n. option_and_then (λ q. cond (takes (signature_in p g) k n && is_first (signature_in p g) k q.0) (slice_get us q.1) None) o) l

  pub argument_none : (k f n : ℕ) (us : List Term) → field_place g f ≡ None → length us ≡ n → argument_of (signature_in p g) k us f ≡ None
  argument_none k f n us e l = argument_by k f n us None e l

  pub argument_past : (k f n a b : ℕ) (us : List Term) → field_place g f ≡ Some (a, b) → length us ≡ n → n ≤ b → argument_of (signature_in p g) k us f ≡ None
  argument_past k f n a b us e l h =
      argument_by k f n us (Some (a, b)) e l ∙ ap (λ o. cond (takes (signature_in p g) k n && is_first (signature_in p g) k a) o None) (slice_get_past us b (omega (arith, h, l)))
      ∙ neither (takes (signature_in p g) k n && is_first (signature_in p g) k a)

  pub argument_short : (k f n a b : ℕ) (us : List Term) → field_place g f ≡ Some (a, b) → length us ≡ n → false ≡ takes (signature_in p g) k n → argument_of (signature_in p g) k us f ≡ None
  argument_short k f n a b us e l h = argument_by k f n us (Some (a, b)) e l ∙ ap (λ x. cond (x && is_first (signature_in p g) k a) (slice_get us b) None) (sym h)

  pub argument_other : (k f n a b : ℕ) (us : List Term) → field_place g f ≡ Some (a, b) → length us ≡ n → true ≡ takes (signature_in p g) k n → false ≡ is_first (signature_in p g) k a → argument_of (signature_in p g) k us f ≡ None
  argument_other k f n a b us e l h i = argument_by k f n us (Some (a, b)) e l ∙ ap₂ (λ x y. cond (x && y) (slice_get us b) None) (sym h) (sym i)

  pub argument_some : (k f n a b : ℕ) (us : List Term) → field_place g f ≡ Some (a, b) → length us ≡ n → true ≡ takes (signature_in p g) k n → true ≡ is_first (signature_in p g) k a → argument_of (signature_in p g) k us f ≡ slice_get us b
  argument_some k f n a b us e l h i = argument_by k f n us (Some (a, b)) e l ∙ ap₂ (λ x y. cond (x && y) (slice_get us b) None) (sym h) (sym i)

-- projections, in whichever pool
pub projections_in : (p q : Pool) (g : Signature ℕ) (d : ℕ) {t u : Term} → t ≡ u → projections (signature_in p g) d t ≡ projections (signature_in q g) d u
projections_in p q g d {t} {u} e = ap₂ (λ fs t. map (λ f. Proj f t) fs) (fields_in p g d ∙ sym (fields_in q g d)) e
