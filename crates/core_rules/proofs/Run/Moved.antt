-- The run of a tree passes, up to conversion, to another signature that knows what the first one knows, and to changed terms: where a
-- term becomes a record's constructor, a record split takes its arguments in place of projections, and the projection rule joins them.
use Rattle.std.specs.Prelude.{◌≡◌, ℕ, Bool, true, false, cond, eqb, List, [], ◌∷◌, length, map, slice_get, Option, Some, None, option_and_then, unwrap_or, refl, suc}
use Rattle.std.proofs.Common.{ap, sym, ◌∙◌, subst, arith}
use Rattle.core_rules.specs.Term.{Term, Proj}
use Rattle.core_rules.specs.Substitution.{over, under, value_at}
use Rattle.core_rules.specs.Signature.{Signature, Branch, Tree, Leaf, Intro, Cosplit, Split, RecordSplit, Absurd, CoBranches, NoField, OnField, ConBranches, NoCon, Refuted, Goes, co_branch, con_branch, fields_of}
use Rattle.core_rules.specs.Elimination.{Elim, elims, projections, elims_over}
use Rattle.core_rules.specs.Run as run
use Rattle.core_rules.specs.Run.{Run, ConApp, is_record_con, full_con, parts, spread, kept}
use Rattle.core_rules.specs.Conversion as C
use Rattle.core_rules.specs.Conversion.{Conv}
use Rattle.core_rules.specs.Laws.{IsLifted, RunsTo}
use Rattle.core_rules.specs.InScope.{FamiliesHaveShape}
use Rattle.core_rules.proofs.Substitution.Lifted.{over-under}
use Rattle.core_rules.proofs.Spines.{over-elims}
use Rattle.core_rules.proofs.Pairwise.{Pairwise, nil, one, pairwise-spread, pairwise-value, pairwise-kept}
use Rattle.core_rules.proofs.Run.Constructors.{full_con-over, con_over}
use Rattle.core_rules.proofs.Conversion.Changed.{conv-elims, conv_by}
use Rattle.core_rules.proofs.Conversion.Shifted.{ConvEnv, conv-under}
use Rattle.core_rules.proofs.Conversion.Shifted as W
use Rattle.core_rules.proofs.Run.Records.{record_term, argument}

-- What stands in the environment after the change f for w: w changed, or, where w is no constructor, any term that is convertible to that
module _ (g h : Signature Term) (f : ℕ → ℕ → Term) (d : ℕ) where
  pub data Moved : Term → Term → Type 0 where
    exact : {w : Term} → Moved w (over f d w)
    other : {w w' : Term} → full_con g w ≡ None → Conv h (over f d w) w' → Moved w w'

  abbrev pub AllMoved : List Term → List Term → Type 0
  AllMoved r q = Pairwise Moved r q

module _ (g h : Signature Term) (f : ℕ → ℕ → Term) (d : ℕ) where
  exact_all : (r : List Term) → AllMoved g h f d r (map (over f d) r)
  exact_all [] = nil
  exact_all (w ∷ r) = one exact (exact_all r)

  moved-conv : {w w' : Term} → Moved g h f d w w' → Conv h w' (over f d w)
  moved-conv exact = C.same
  moved-conv (other e k) = C.back k

  moved-env : {r r' : List Term} → AllMoved g h f d r r' → ConvEnv h r' (map (over f d) r)
  moved-env nil = W.none
  moved-env (one e m) = W.more (moved-conv e) (moved-env m)

  -- projections of w, which is no constructor, to the fields ks
  moved_each : (w : Term) (ks : List ℕ) (us : List Term) → ((i k : ℕ) (u : Term) → slice_get ks i ≡ Some k → slice_get us i ≡ Some u → Conv h (Proj k (over f d w)) u) → length ks ≡ length us
      → AllMoved g h f d (map (λ k. Proj k w) ks) us
  moved_each w [] [] p e = nil
  moved_each w [] (u ∷ us) p e = absurd (omega (arith, e))
  moved_each w (k ∷ ks) [] p e = absurd (omega (arith, e))
  moved_each w (k ∷ ks) (u ∷ us) p e = one (other refl (p 0 k u refl refl)) (moved_each w ks us (λ i. p (suc i)) (omega (arith, e)))

  projected : (w w' : Term) (ks : List ℕ) → Conv h (over f d w) w' → AllMoved g h f d (map (λ k. Proj k w) ks) (map (λ k. Proj k w') ks)
  projected w w' [] c = nil
  projected w w' (k ∷ ks) c = one (other refl (C.proj c)) (projected w w' ks c)

-- each record split of the tree is one of a record with the property R
module _ (R : ℕ → Type 0) where
  abbrev mutual
    pub RecordsOf : Tree Term → Type 0
    RecordsOf (Leaf t n) = Unit {0}
    RecordsOf (Intro T) = RecordsOf T
    RecordsOf (Cosplit bs) = RecordsOfFields bs
    RecordsOf (Split k bs) = RecordsOfCons bs
    RecordsOf (RecordSplit k n T) = R n × RecordsOf T
    RecordsOf (Absurd k) = Unit {0}

    pub RecordsOfFields : CoBranches Term → Type 0
    RecordsOfFields NoField = Unit {0}
    RecordsOfFields (OnField k T bs) = RecordsOf T × RecordsOfFields bs

    pub RecordsOfCons : ConBranches Term → Type 0
    RecordsOfCons NoCon = Unit {0}
    RecordsOfCons (Refuted k bs) = RecordsOfCons bs
    RecordsOfCons (Goes k b T bs) = RecordsOf T × RecordsOfCons bs

  same_tree : {x T : Tree Term} → Some x ≡ Some T → x ≡ T
  same_tree e = cc e

  same_pair : {p q : Branch Term × Tree Term} → Some p ≡ Some q → p ≡ q
  same_pair e = cc e

  on_field : (bs : CoBranches Term) (k : ℕ) (T : Tree Term) → RecordsOfFields bs → co_branch bs k ≡ Some T → RecordsOf T
  on_field NoField k T r e = absurd cc
  on_field (OnField n x bs) k T r e = by_test (eqb n k) e (on_field bs k T r.1)
    where
      by_test : (b : Bool) → cond b (Some x) (co_branch bs k) ≡ Some T → (co_branch bs k ≡ Some T → RecordsOf T) → RecordsOf T
      by_test true e later = subst RecordsOf (same_tree e) r.0
      by_test false e later = later e

  on_con : (bs : ConBranches Term) (k : ℕ) (p : Branch Term × Tree Term) → RecordsOfCons bs → con_branch bs k ≡ Some p → RecordsOf p.1
  on_con NoCon k p r e = absurd cc
  on_con (Refuted n bs) k p r e = by_test (eqb n k) e (on_con bs k p r)
    where
      by_test : (b : Bool) → cond b None (con_branch bs k) ≡ Some p → (con_branch bs k ≡ Some p → RecordsOf p.1) → RecordsOf p.1
      by_test true e later = absurd cc
      by_test false e later = later e
  on_con (Goes n b x bs) k p r e = by_test (eqb n k) e (on_con bs k p r.1)
    where
      by_test : (t : Bool) → cond t (Some (b, x)) (con_branch bs k) ≡ Some p → (con_branch bs k ≡ Some p → RecordsOf p.1) → RecordsOf p.1
      by_test true e later = subst (λ p. RecordsOf p.1) (same_pair e) r.0
      by_test false e later = later e

module _ (g h : Signature Term) (shapes : FamiliesHaveShape h) (known : (w : Term) (c : ConApp) → full_con g w ≡ Some c → full_con h w ≡ Some c)
    (R : ℕ → Type 0) (fields : (n : ℕ) → R n → fields_of h n ≡ fields_of g n) (own : (n : ℕ) (w : Term) (c : ConApp) → R n → full_con g w ≡ Some c → is_record_con h c.con n ≡ is_record_con g c.con n)
    (f : ℕ → ℕ → Term) (l : IsLifted f) (d : ℕ) where
  same_projections : (n : ℕ) (t : Term) → R n → projections h n t ≡ projections g n t
  same_projections n t r = ap (map (λ k. Proj k t)) (fields n r)

  own_parts : (n : ℕ) (w w' : Term) (s : ConApp) (b : Bool) → is_record_con h s.con n ≡ b → full_con h w' ≡ Some s → Conv h (over f d w) w'
      → AllMoved g h f d (projections h n w) (unwrap_or (cond b (Some s.args) None) (projections h n w'))
  own_parts n w w' s false e full c = projected g h f d w w' (fields_of h n) c
  own_parts n w w' s true e full c =
      let is = record_term h shapes n w' s full e in
      moved_each g h f d w (fields_of h n) s.args (λ i k u p e. C.then (C.proj c) (C.field (argument h n w' s full is i k u p e))) is.as_many

  other_parts : (n : ℕ) (w w' : Term) (o : Option ConApp) → full_con h w' ≡ o → Conv h (over f d w) w'
      → AllMoved g h f d (projections h n w) (unwrap_or (option_and_then (λ s. cond (is_record_con h s.con n) (Some s.args) None) o) (projections h n w'))
  other_parts n w w' None full c = projected g h f d w w' (fields_of h n) c
  other_parts n w w' (Some s) full c = own_parts n w w' s (is_record_con h s.con n) refl full c

  exact_parts : (n : ℕ) (w : Term) (o : Option ConApp) → R n → full_con g w ≡ o
      → AllMoved g h f d (unwrap_or (option_and_then (λ s. cond (is_record_con g s.con n) (Some s.args) None) o) (projections g n w)) (parts h n (over f d w))
  exact_parts n w None r full = rw (← same_projections n w r) (other_parts n w (over f d w) (full_con h (over f d w)) refl C.same)
  exact_parts n w (Some s) r full = rw (full_con-over h f d w s (known w s full), own n w s r full) (by_test (is_record_con g s.con n))
    where
      by_test : (b : Bool) → AllMoved g h f d (unwrap_or (cond b (Some s.args) None) (projections g n w)) (unwrap_or (cond b (Some (map (over f d) s.args)) None) (projections h n (over f d w)))
      by_test true = exact_all g h f d s.args
      by_test false = rw (same_projections n (over f d w) r) (projected g h f d w (over f d w) (fields_of g n) C.same)

  moved-parts : (n : ℕ) (w w' : Term) → R n → Moved g h f d w w' → AllMoved g h f d (parts g n w) (parts h n w')
  moved-parts n w w' r exact = exact_parts n w (full_con g w) r refl
  moved-parts n w w' r (other e c) = rw e (rw (← same_projections n w r) (other_parts n w w' (full_con h w') refl c))

  moved-full : (w w' : Term) (c : ConApp) → full_con g w ≡ Some c → Moved g h f d w w' → full_con h w' ≡ Some (con_over f d c)
  moved-full w w' c e exact = full_con-over h f d w c (known w c e)
  moved-full w w' c e (other p k) = absurd (none_some (sym p ∙ e))
    where
      none_some : {c : ConApp} → None ≡ Some c → ⊥
      none_some e = cc e

  pub run-moved : {T : Tree Term} {r r' : List Term} {es : List Elim} {t : Term} → RecordsOf R T → Run g T r es t → AllMoved g h f d r r' → RunsTo h T r' (elims_over f d es) (over f d t)
  run-moved {r' = r'} rs (run.leaf {t = t} {r = r} {es = es}) m = record {
    to = elims (under r' t) (elims_over f d es);
    runs = run.leaf;
    is = C.then (conv-elims (elims_over f d es) (conv-under t (moved-env g h f d m)))
        (conv_by (sym (over-elims f d (under r t) es ∙ ap (λ u. elims u (elims_over f d es)) (over-under f l d r t))));
  }
  run-moved rs (run.intro p) m = let i = run-moved rs p (one exact m) in record { to = i.to; runs = run.intro i.runs; is = i.is }
  run-moved rs (run.cosplit {bs = bs} {T = T} {f = k} e p) m = let i = run-moved (on_field R bs k T rs e) p m in record { to = i.to; runs = run.cosplit e i.runs; is = i.is }
  run-moved {r' = r'} rs (run.split {bs = bs} {b = b} {T = T} {r = r} {k = k} {c = c} e w p) m =
      let i = run-moved (on_con R bs c.con (b, T) rs w) p (pairwise-kept b.keep exact (pairwise-spread k (exact_all g h f d c.args) m)) in
      record { to = i.to; runs = run.split (moved-full (value_at r k) (value_at r' k) c e (pairwise-value k exact m)) w i.runs; is = i.is }
  run-moved {r' = r'} rs (run.record_split {r = r} {k = k} {d = n} p) m =
      let i = run-moved rs.1 p (pairwise-spread k (moved-parts n (value_at r k) (value_at r' k) rs.0 (pairwise-value k exact m)) m) in
      record { to = i.to; runs = run.record_split i.runs; is = i.is }

-- every tree, where nothing is asked
mutual
  every_record : (T : Tree Term) → RecordsOf (λ n. Unit {0}) T
  every_record (Leaf t n) = tt
  every_record (Intro T) = every_record T
  every_record (Cosplit bs) = every_field bs
  every_record (Split k bs) = every_con bs
  every_record (RecordSplit k n T) = (tt, every_record T)
  every_record (Absurd k) = tt

  every_field : (bs : CoBranches Term) → RecordsOfFields (λ n. Unit {0}) bs
  every_field NoField = tt
  every_field (OnField k T bs) = (every_record T, every_field bs)

  every_con : (bs : ConBranches Term) → RecordsOfCons (λ n. Unit {0}) bs
  every_con NoCon = tt
  every_con (Refuted k bs) = every_con bs
  every_con (Goes k b T bs) = (every_record T, every_con bs)

-- over one signature
pub run-changed : (g : Signature Term) → FamiliesHaveShape g → (f : ℕ → ℕ → Term) → IsLifted f → (d : ℕ) (T : Tree Term) (es : List Elim) (t : Term) → Run g T [] es t → RunsTo g T [] (elims_over f d es) (over f d t)
run-changed g shapes f l d T es t p =
    run-moved g g shapes (λ w c e. e) (λ n. Unit {0}) (λ n r. refl) (λ n w c r e. refl) f l d (every_record T) p nil
