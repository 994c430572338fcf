-- Constructor and absurd patterns, step by step.
use Rattle.std.proofs.Common.{◌≡◌, ◌<◌, ℕ, List, length, refl, ap, sym, subst}
use Rattle.std.specs.Prelude.{Option, Some, None, IfSome}
use Rattle.core_rules.specs.Term.{Term}
use Rattle.core_rules.specs.Heads.{Answer}
use Rattle.core_rules.specs.Signature.{Branch, ConDecl, Signature, Telescope, fams}
use Rattle.core_rules.specs.TypedTree.{Splitting, con_context, index_equations}
use Rattle.core_terms.specs.Signature.{signature_in}
use Rattle.kernel_rules.specs.Outcome.{Outcome, Gives, Refuses}
use Rattle.el_outside.specs.declared.place.Pos.{Pos}
use Rattle.term_pool.specs.Pool.{Pool}
use Rattle.lhs_rules.specs.Asking.{Is, Reads, ◌>>=◌, gives}
use Rattle.lhs_rules.specs.Families as R
use Rattle.lhs_rules.specs.Families.{at_con, at_family}
use Rattle.lhs_rules.specs.Refusals.{Refusal, CannotSplit, ForcedConstructor, NotAbsurd, at}
use Rattle.lhs_rules.specs.Rules.{ElimMeaning, Read, Slot, aligned, all_inserted, con_or, constructor, data_or, put_con, shows, slot_entries, split_at, unified, variable_or, visit_all}
use Rattle.lhs_rules.specs.Spots.{AtValue, AtVar, Left, Spot, put, spot_at, type_at}
use Rattle.lhs_rules.specs.Spots as spot
use Rattle.lhs_elab.specs.declared.error.LhsError.{LhsError}
use Rattle.lhs_elab.specs.declared.families.AtFamily.{AtFamily}
use Rattle.lhs_elab.specs.Answers.{RefusedBy}
use Rattle.lhs_elab.specs.Constructors.{con_put, con_read, data_read, of_pats}
use Rattle.lhs_elab.specs.Elaborator.{Over, Comes}
use Rattle.lhs_elab.specs.Families.{IsFamily}
use Rattle.lhs_elab.proofs.FamilyCons.{family-below}
use Rattle.lhs_elab.proofs.Refusing.{refused-as}
use Rattle.lhs_elab.proofs.Stepping.{off, off-by, on, regroup}

module _ (o : Over) (g : Signature Term) (p : Pos) (t : Term) (w : Answer) (x : Comes o (shows p t) (Gives w)) where
  pub con-found : (k : ℕ) (c : R.AtCon) → at_con g k w ≡ Some c → Comes o (con_read g p k t) (Gives c)
  con-found k c e = on o (shows p t) (λ (v : Answer). Is (con_or p (at_con g k v))) w (Gives c) x (sym (ap (con_or p) e))

  pub con-missing : (k : ℕ) → at_con g k w ≡ None → Comes o (con_read g p k t) (Refuses (at p CannotSplit))
  con-missing k e = on o (shows p t) (λ (v : Answer). Is (con_or p (at_con g k v))) w (Refuses (at p CannotSplit)) x (sym (ap (con_or p) e))

  pub data-found : (a : R.AtFamily) → data_or p (at_family g w) ≡ Gives a → Comes o (data_read g p t) (Gives a)
  data-found a e = on o (shows p t) (λ (v : Answer). Is (data_or p (at_family g v))) w (Gives a) x (sym e)

  pub data-missing : data_or p (at_family g w) ≡ Refuses (at p NotAbsurd) → Comes o (data_read g p t) (Refuses (at p NotAbsurd))
  data-missing e = on o (shows p t) (λ (v : Answer). Is (data_or p (at_family g v))) w (Refuses (at p NotAbsurd)) x (sym e)

pub found-below : (p : Pool) (g : Signature ℕ) (o : Option R.AtFamily) (x : Option AtFamily) → IsFamily p (signature_in p g) o x → IfSome x (λ (a : AtFamily). a.fam < length (fams g))
found-below p g o (Some a) h = family-below p g o a h
found-below p g o None h = tt

-- ---- a constructor is put for a variable

module _ (o : Over) (p : Pos) (k : ℕ) (con : ConDecl Term) (es : Telescope Term) (hidden i : ℕ) (s : Splitting) (l : Left) where
  abbrev asked : Reads (Branch Term)
  asked = unified p (con_context s k es) (index_equations s con)

  abbrev putting : Branch Term → Reads Left
  putting b = gives (put l s i k con.args hidden (con_context s k es) b)

  pub con-put : (b : Branch Term) (m : Left) → Comes o asked (Gives b) → m ≡ put l s i k con.args hidden (con_context s k es) b → Comes o (con_put p k con es hidden i s l) (Gives m)
  con-put b m x e = on o asked putting b (Gives m) x (ap Gives e)

  pub con-not_put : (q : Pool) (e : LhsError) → RefusedBy q (λ (r : Refusal). Comes o asked (Refuses r)) e → RefusedBy q (λ (r : Refusal). Comes o (con_put p k con es hidden i s l) (Refuses r)) e
  con-not_put q e h = off-by o asked putting q e h

-- ---- a constructor is entered: its patterns are left to be read

module _ (o : Over) (g : Signature Term) (f : ℕ) (p : Pos) (k : ℕ) (ms : List ElimMeaning) (j : ℕ) (l : Left) where
  abbrev T : Term
  T = type_at l.context (spot_at l j)

  abbrev after_spot : R.AtCon → List Slot → ℕ → Reads Read
  after_spot a qs i = put_con p k a.con qs i (split_at f l i a.at) l

  abbrev after_slots : R.AtCon → List Slot → Reads Read
  after_slots a qs = Is (variable_or p (spot_at l j)) >>= after_spot a qs

  abbrev after_con : R.AtCon → Reads Read
  after_con a = Is (aligned g p ms a.con.args) >>= after_slots a

  -- the constructor's family first
  pub con-first : (r : Outcome Refusal Read) → Comes o (con_read g p k T >>= after_con) r → Comes o (constructor g f p k ms j l) r
  con-first r x = regroup o (shows p T) (λ (w : Answer). Is (con_or p (at_con g k w))) after_con r x

  pub con-refused : (q : Pool) (e : LhsError) → RefusedBy q (λ (r : Refusal). Comes o (con_read g p k T) (Refuses r)) e → RefusedBy q (λ (r : Refusal). Comes o (constructor g f p k ms j l) (Refuses r)) e
  con-refused q e h = refused-as q (λ (r : Refusal). Comes o (con_read g p k T) (Refuses r)) (λ (r : Refusal). Comes o (constructor g f p k ms j l) (Refuses r))
      (λ (r : Refusal) (x : Comes o (con_read g p k T) (Refuses r)). con-first (Refuses r) (off o (con_read g p k T) after_con r x)) e h

  module _ (a : R.AtCon) (x : Comes o (con_read g p k T) (Gives a)) where
    from-con : (r : Outcome Refusal Read) → Comes o (after_con a) r → Comes o (constructor g f p k ms j l) r
    from-con r y = con-first r (on o (con_read g p k T) after_con a r x y)

    pub not-aligned : (e : Refusal) → Refuses e ≡ aligned g p ms a.con.args → Comes o (constructor g f p k ms j l) (Refuses e)
    not-aligned e h = from-con (Refuses e) (subst (λ (v : Outcome Refusal (List Slot)). Comes o (Is v >>= after_slots a) (Refuses e)) h refl)

    module _ (qs : List Slot) (h : Gives qs ≡ aligned g p ms a.con.args) where
      from-slots : (r : Outcome Refusal Read) → Comes o (after_slots a qs) r → Comes o (constructor g f p k ms j l) r
      from-slots r y = from-con r (subst (λ (v : Outcome Refusal (List Slot)). Comes o (Is v >>= after_slots a) r) h y)

      pub not-variable : ((i : ℕ) → spot_at l j ≡ AtVar i → ⊥) → Comes o (constructor g f p k ms j l) (Refuses (at p ForcedConstructor))
      not-variable n = from-slots (Refuses (at p ForcedConstructor)) (by_spot (spot_at l j) refl)
        where
          by_spot : (s : Spot) → spot_at l j ≡ s → Comes o (after_slots a qs) (Refuses (at p ForcedConstructor))
          by_spot (AtVar i) e = absurd (n i e)
          by_spot (AtValue v) e = subst (λ (s : Spot). Comes o (Is (variable_or p s) >>= after_spot a qs) (Refuses (at p ForcedConstructor))) (sym e) refl
          by_spot spot.AtCon e = subst (λ (s : Spot). Comes o (Is (variable_or p s) >>= after_spot a qs) (Refuses (at p ForcedConstructor))) (sym e) refl

      module _ (i : ℕ) (e : spot_at l j ≡ AtVar i) (es : Telescope Term) (hidden : ℕ) (n : es ≡ slot_entries qs a.con.args) (m : hidden ≡ all_inserted qs) where
        abbrev placed : Reads Left
        placed = con_put p k a.con es hidden i (split_at f l i a.at) l

        abbrev visited : Left → Reads Read
        visited v = visit_all qs (length l.spots) v >>= of_pats k

        from-put : (r : Outcome Refusal Read) → Comes o (placed >>= visited) r → Comes o (constructor g f p k ms j l) r
        from-put r y =
            from-slots r (subst (λ (s : Spot). Comes o (Is (variable_or p s) >>= after_spot a qs) r) (sym e)
            (subst (λ (xs : Telescope Term). Comes o (unified p (con_context (split_at f l i a.at) k xs) (index_equations (split_at f l i a.at) a.con) >>= (λ (b : Branch Term). visited (put l (split_at f l i a.at) i k a.con.args (all_inserted qs) (con_context (split_at f l i a.at) k xs) b))) r) n
            (subst (λ (y : ℕ). Comes o (unified p (con_context (split_at f l i a.at) k es) (index_equations (split_at f l i a.at) a.con) >>= (λ (b : Branch Term). visited (put l (split_at f l i a.at) i k a.con.args y (con_context (split_at f l i a.at) k es) b))) r) m
            (regroup o (unified p (con_context (split_at f l i a.at) k es) (index_equations (split_at f l i a.at) a.con)) (λ (b : Branch Term). gives (put l (split_at f l i a.at) i k a.con.args hidden (con_context (split_at f l i a.at) k es) b)) visited r y))))

        pub not-put : (q : Pool) (x : LhsError) → RefusedBy q (λ (r : Refusal). Comes o placed (Refuses r)) x → RefusedBy q (λ (r : Refusal). Comes o (constructor g f p k ms j l) (Refuses r)) x
        not-put q x h = refused-as q (λ (r : Refusal). Comes o placed (Refuses r)) (λ (r : Refusal). Comes o (constructor g f p k ms j l) (Refuses r))
            (λ (r : Refusal) (y : Comes o placed (Refuses r)). from-put (Refuses r) (off o placed visited r y)) x h

        pub is-put : (v : Left) → Comes o placed (Gives v) → (r : Outcome Refusal Read) → Comes o (visit_all qs (length l.spots) v >>= of_pats k) r → Comes o (constructor g f p k ms j l) r
        is-put v y r z = from-put r (on o placed visited v r y z)
