-- The left side as a term, step by step; a term at its own new variable.
use Rattle.std.proofs.Common.{◌≡◌, ◌+◌, ◌-◌, ◌<◌, ◌≤◌, ◌∙◌, refl, sym, ap, arith}
use Rattle.std.proofs.lemmas.Grind.{common_steps}
use Rattle.std.specs.Prelude.{ℕ, Bool, true, false, eqb, ltb, cond, List, [], ◌∷◌, ◌++◌, length, map, take, drop, suc}
use Rattle.std.specs.List.{AllByRecursion}
use Rattle.core_rules.specs.Term.{Term, Var, App, Def, Proj}
use Rattle.core_rules.specs.Substitution.{over, shift, shift_var, subst, subst_var, env_var, under}
use Rattle.core_rules.specs.Signature.{Entry, Telescope, Context}
use Rattle.core_rules.specs.Elimination.{Elim, Arg, Field, elims, args, elim_over, elims_over}
use Rattle.core_rules.proofs.Spines.{over-elims}
use Rattle.core_rules.proofs.Substitution.Lifted.{shift_none, shift_variable, shift_twice, over_shift}
use Rattle.core_rules.proofs.Substitution.Traversal.{over-over, over_id}
use Rattle.match_rules.specs.Covering.{elim_map}
use Rattle.lhs_rules.specs.Spots.{Taken, raised, raised_elim}

-- ---- spines

pub elims-append : (h : Term) (es ds : List Elim) → elims h (es ++ ds) ≡ elims (elims h es) ds
elims-append h [] ds = refl
elims-append h (Arg b u ∷ es) ds = elims-append (App b h u) es ds
elims-append h (Field f ∷ es) ds = elims-append (Proj f h) es ds

pub args-split : (c d : Telescope Term) (us : List Term) → length us ≡ length (c ++ d) → args (c ++ d) us ≡ args c (take (length c) us) ++ args d (drop (length c) us)
args-split [] d us e = refl
args-split (x ∷ c) d [] e = absurd (omega (arith, e))
args-split (x ∷ c) d (u ∷ us) e = ap (λ es. Arg x.flag u ∷ es) (args-split c d us (omega (arith, e)))

pub lengths-split : (c d : Telescope Term) (us : List Term) → length us ≡ length (c ++ d) → (length (take (length c) us) ≡ length c) × (length (drop (length c) us) ≡ length d)
lengths-split [] d us e = (refl, e)
lengths-split (x ∷ c) d [] e = absurd (omega (arith, e))
lengths-split (x ∷ c) d (u ∷ us) e = let h = lengths-split c d us (omega (arith, e)) in (omega (arith, h.0), h.1)

-- ---- a term under a new variable, at this variable

own_two : (d i : ℕ) (p q : Bool) → i < 1 + d → ltb i (0 + d) ≡ p → eqb i (0 + d) ≡ q → cond p (Var i) (cond q (shift (Var 0) 0 d) (Var (i - 1))) ≡ Var i
own_two d i true q l x y = refl
own_two d i false true l x y = let z : 0 + d ≡ i = grind (arith, common_steps) in shift_variable 0 d ∙ ap Var z
own_two d i false false l x y = let m : 0 + d ≤ i = grind (arith, common_steps) in let n : i ≡ 0 + d → ⊥ = grind (arith, common_steps) in absurd (n (omega (arith, l, m)))

own_new : (d i : ℕ) → over (subst_var 0 (Var 0)) d (shift_var 1 1 d i) ≡ Var i
own_new d i = by_test (ltb i (1 + d)) refl
  where
    by_test : (b : Bool) → ltb i (1 + d) ≡ b → subst_var 0 (Var 0) d (cond b i (i + 1)) ≡ Var i
    by_test true e = own_two d i (ltb i (0 + d)) (eqb i (0 + d)) (let l : i < 1 + d = grind (arith, common_steps) in l) refl refl
    by_test false e =
        let l : 1 + d ≤ i = grind (arith, common_steps) in
        let p : ltb (i + 1) (0 + d) ≡ false = grind (arith, common_steps) in
        let q : eqb (i + 1) (0 + d) ≡ false = grind (arith, common_steps) in
        let r : i + 1 - 1 ≡ i = omega arith in
        rw (p, q, r) refl

pub at_own : (t : Term) → subst (over (shift_var 0 1) 1 t) 0 (Var 0) ≡ t
at_own t =
    let p : over (shift_var 0 1) 1 t ≡ shift t 1 1 = over_shift 0 1 1 t in
    ap (λ t. subst t 0 (Var 0)) p ∙ (over-over (subst_var 0 (Var 0)) (shift_var 1 1) (λ d i. Var i) own_new 0 t ∙ over_id (λ d i. Var i) (λ d i. refl) 0 t)

-- ---- eliminations in a context of one entry more

abbrev pub Outer : ℕ → Taken → Type 0
Outer n e = e.outer ≤ n

raised_once : (c : Context Term) (x : Entry Term) (e : Taken) → Outer (length c) e → elim_over (shift_var 0 1) 0 (raised_elim c e) ≡ raised_elim (x ∷ c) e
raised_once c x e h = by_elim e.it
  where
    by_elim : (y : Elim) → elim_over (shift_var 0 1) 0 (elim_map (raised c e.outer) y) ≡ elim_map (raised (x ∷ c) e.outer) y
    by_elim (Arg b u) = let p : length c - e.outer + 1 ≡ suc (length c) - e.outer = omega (arith, h) in ap (Arg b) (shift_twice u (length c - e.outer) 1 ∙ ap (shift u 0) p)
    by_elim (Field f) = refl

all_raised_once : (c : Context Term) (x : Entry Term) (es : List Taken) → AllByRecursion (Outer (length c)) es → elims_over (shift_var 0 1) 0 (map (raised_elim c) es) ≡ map (raised_elim (x ∷ c)) es
all_raised_once c x [] h = refl
all_raised_once c x (e ∷ es) h = cc (raised_once c x e h.0, all_raised_once c x es h.1)

pub term_raised : (f : ℕ) (c : Context Term) (x : Entry Term) (es : List Taken) → AllByRecursion (Outer (length c)) es → elims (Def f) (map (raised_elim (x ∷ c)) es) ≡ shift (elims (Def f) (map (raised_elim c) es)) 0 1
term_raised f c x es h = ap (elims (Def f)) (sym (all_raised_once c x es h)) ∙ sym (over-elims (shift_var 0 1) 0 (Def f) (map (raised_elim c) es))

-- ---- eliminations under two environments

module _ (r q : List Term) where
  abbrev both : Term → Term
  both t = under r (under q t)

  put_elim : (c d : Context Term) (n : ℕ) (e : Taken) → length d ≡ n
      → raised_elim d (record { it = elim_map (λ t. both (raised c e.outer t)) e.it; outer = n }) ≡ elim_over (env_var r) 0 (elim_over (env_var q) 0 (raised_elim c e))
  put_elim c d n e h = by_elim e.it
    where
      by_elim : (y : Elim) → elim_map (raised d n) (elim_map (λ t. both (raised c e.outer t)) y) ≡ elim_over (env_var r) 0 (elim_over (env_var q) 0 (elim_map (raised c e.outer) y))
      by_elim (Arg b u) = let p : length d - n ≡ 0 = omega (arith, h) in ap (Arg b) (ap (shift (both (raised c e.outer u)) 0) p ∙ shift_none (both (raised c e.outer u)) 0)
      by_elim (Field f) = refl

  put_elims : (c d : Context Term) (n : ℕ) (es : List Taken) → length d ≡ n
      → map (raised_elim d) (map (λ (e : Taken). record { it = elim_map (λ t. both (raised c e.outer t)) e.it; outer = n }) es) ≡ elims_over (env_var r) 0 (elims_over (env_var q) 0 (map (raised_elim c) es))
  put_elims c d n [] h = refl
  put_elims c d n (e ∷ es) h = cc (put_elim c d n e h, put_elims c d n es h)

  pub term_put : (f : ℕ) (c d : Context Term) (n : ℕ) (es : List Taken) → length d ≡ n
      → elims (Def f) (map (raised_elim d) (map (λ (e : Taken). record { it = elim_map (λ t. both (raised c e.outer t)) e.it; outer = n }) es)) ≡ both (elims (Def f) (map (raised_elim c) es))
  term_put f c d n es h =
      let xs = map (raised_elim c) es in
      ap (elims (Def f)) (put_elims c d n es h) ∙ (sym (over-elims (env_var r) 0 (Def f) (elims_over (env_var q) 0 xs)) ∙ ap (under r) (sym (over-elims (env_var q) 0 (Def f) xs)))
