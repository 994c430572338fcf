-- Lists of what ids stand for, as the pool grows and more is put behind them.
use Rattle.std.specs.Prelude.{◌≡◌, ℕ, ◌+◌, ◌<◌, ◌≤◌, List, [], ◌∷◌, ◌++◌, length, map, take, get_or, refl, zero, suc}
use Rattle.std.specs.List.{AllByRecursion}
use Rattle.std.proofs.Common.{sym, ap, ap₂, ◌∙◌, subst, arith}
use Rattle.std.proofs.Math.Seq.{take-length}
use Rattle.std.proofs.lemmas.List.{map-append}
use Rattle.el_base.proofs.Throughout.{all-push, all-weaker, map-same}
use Rattle.core_rules.specs.declared.Flag.{Flag}
use Rattle.core_rules.specs.Term.{Term}
use Rattle.core_rules.specs.Signature.{Entry}
use Rattle.core_rules.specs.Mapped.{entry_map}
use Rattle.core_rules.specs.Unification as U
use Rattle.term_pool.specs.Pool.{Pool, tree, Extends}
use Rattle.term_pool.specs.Growth.{Extends-length, Extends-tree}
use Rattle.index_unify.specs.declared.equation.Solution.{Solution}
use Rattle.index_unify.specs.State.{solution_in}
use Rattle.index_unify.specs.Unified.{equation_in, EquationStands}

-- P n says that the ids of an item are below n, and F f is what it is where f gives the trees
module _ {X Y : Type 0} (P : ℕ → X → Type 0) (F : (ℕ → Term) → X → Y) where
  pub record Keeps : Type 0 where
    pub weaker : (n m : ℕ) (x : X) → n ≤ m → P n x → P m x
    pub same : (f h : ℕ → Term) (n : ℕ) (x : X) → ((i : ℕ) → i < n → f i ≡ h i) → P n x → F f x ≡ F h x

  -- the items xs stand in p for ys
  pub record Made (p : Pool) (xs : List X) (ys : List Y) : Type 0 where
    pub within : AllByRecursion (P (length p.trees)) xs
    pub is : map (F (tree p)) xs ≡ ys

  module _ (k : Keeps) (p q : Pool) (g : Extends p q) where
    pub grown : (xs : List X) (ys : List Y) → Made p xs ys → Made q xs ys
    grown xs ys m = record {
      within = all-weaker (P (length p.trees)) (P (length q.trees)) (λ x h. k.weaker (length p.trees) (length q.trees) x (Extends-length g) h) xs m.within;
      is = map-same (P (length p.trees)) (F (tree q)) (F (tree p)) (λ x h. k.same (tree q) (tree p) (length p.trees) x (λ i l. Extends-tree i g l) h) xs m.within ∙ m.is;
    }

    pub all_more : (xs : List X) → AllByRecursion (P (length p.trees)) xs → AllByRecursion (P (length q.trees)) xs
    all_more xs a = (grown xs (map (F (tree p)) xs) (record { within = a; is = refl })).within

    pub still : (xs : List X) → AllByRecursion (P (length p.trees)) xs → map (F (tree q)) xs ≡ map (F (tree p)) xs
    still xs a = (grown xs (map (F (tree p)) xs) (record { within = a; is = refl })).is

    pub pushed : (xs zs : List X) (ys us : List Y) (x : X) (y : Y) → Made p xs ys → P (length q.trees) x → F (tree q) x ≡ y → zs ≡ xs ++ x ∷ [] → us ≡ ys ++ y ∷ [] → Made q zs us
    pushed xs zs ys us x y m h e d c =
        let n = grown xs ys m in
        subst (λ us. Made q zs us) (sym c)
        (subst (λ zs. Made q zs (ys ++ y ∷ [])) (sym d)
        (record { within = all-push (P (length q.trees)) xs x n.within h; is = map-append (F (tree q)) xs (x ∷ []) ∙ ap₂ (λ vs v. vs ++ v ∷ []) n.is e }))

-- ---- one item further

take_at : {X : Type 0} (xs : List X) (i : ℕ) (o : X) → i < length xs → take (suc i) xs ≡ take i xs ++ get_or xs i o ∷ []
take_at [] i o l = absurd (omega arith)
take_at (x ∷ xs) zero o l = refl
take_at (x ∷ xs) (suc i) o l = ap (λ r. x ∷ r) (take_at xs i o (omega arith))

pub maps_next : {X A Y : Type 0} (F : X → A) (H : A → Y) (xs : List X) (i : ℕ) (o : X) → i < length xs → map H (map F (take (i + 1) xs)) ≡ map H (map F (take i xs)) ++ H (F (get_or xs i o)) ∷ []
maps_next F H xs i o l =
    let s : i + 1 ≡ suc i = omega arith in
    ap (λ k. map H (map F (take k xs))) s
    ∙ (ap (λ zs. map H (map F zs)) (take_at xs i o l) ∙ (ap (map H) (map-append F (take i xs) (get_or xs i o ∷ [])) ∙ map-append H (map F (take i xs)) (F (get_or xs i o) ∷ [])))

pub all_taken : {X : Type 0} (xs : List X) (n : ℕ) → n ≡ length xs → take n xs ≡ xs
all_taken xs n e = ap (λ k. take k xs) e ∙ take-length xs

pub got : {X : Type 0} (P : X → Type 0) (xs : List X) (i : ℕ) (o : X) → i < length xs → AllByRecursion P xs → P (get_or xs i o)
got P [] i o l a = absurd (omega arith)
got P (x ∷ xs) zero o l a = a.0
got P (x ∷ xs) (suc i) o l a = got P xs i o (omega arith) a.1

module _ {X : Type 0} (xs : List X) (i : ℕ) (x : X) (l : i < length xs) (e : x ≡ get_or xs i x) where
  pub item_has : (P : X → Type 0) → AllByRecursion P xs → P x
  item_has P a = subst P (sym e) (got P xs i x l a)

  pub item_next : {A Y : Type 0} (F : X → A) (H : A → Y) → map H (map F (take (i + 1) xs)) ≡ map H (map F (take i xs)) ++ H (F x) ∷ []
  item_next F H = maps_next F H xs i x l ∙ ap (λ z. map H (map F (take i xs)) ++ H (F z) ∷ []) (sym e)

-- ---- ids, entries, equations, solutions

abbrev pub IdStands : ℕ → ℕ → Type 0
IdStands n i = i < n

abbrev pub id_in : (ℕ → Term) → ℕ → Term
id_in f i = f i

abbrev pub SolutionStands : ℕ → Solution → Type 0
SolutionStands n s = s.value < n

pub ids : Keeps IdStands id_in
ids = record { weaker = λ n m x l h. omega arith; same = λ f h n x e l. e x l }

abbrev pub EntryStands : ℕ → Entry ℕ → Type 0
EntryStands n e = e.ty < n

abbrev pub entry_in : (ℕ → Term) → Entry ℕ → Entry Term
entry_in f e = entry_map f e

abbrev typed : ℕ → Flag → Term → Entry Term
typed x b t = record { name = x; flag = b; ty = t }

pub entries : Keeps EntryStands entry_in
entries = record {
  weaker = λ n m x l h. omega arith;
  same = λ f h n x e l. ap (typed x.name x.flag) (e x.ty l);
}

pub equations : Keeps EquationStands equation_in
equations = record {
  weaker = λ n m x l h. (omega (arith, h.0, l), omega (arith, h.1, l));
  same = λ f h n x e l. ap₂ U.eq (e x.left l.0) (e x.right l.1);
}

abbrev pub solved_as : ℕ → Term → U.Solution
solved_as x t = record { var = x; value = t }

pub solutions : Keeps SolutionStands solution_in
solutions = record {
  weaker = λ n m x l h. omega arith;
  same = λ f h n x e l. ap (solved_as x.var) (e x.value l);
}
