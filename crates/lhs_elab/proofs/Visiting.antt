-- The patterns of a constructor's arguments, one after the other.
use Rattle.std.proofs.Common.{◌≡◌, ◌<◌, ◌≤◌, ℕ, zero, suc, ◌+◌, List, [], ◌∷◌, ◌++◌, length, map, drop, get_or, refl, ap, sym, subst, ◌∙◌, arith}
use Rattle.std.specs.Prelude.{true, Result, Bool, false}
use Rattle.core_rules.specs.declared.Flag.{Flag}
use Rattle.core_rules.specs.Heads.{Answer}
use Rattle.core_rules.specs.Signature.{Braces, ConPat, CorePat, CorePats, NoPat, AndPat, Pat, Signature, Inserted, Plain, VarPat}
use Rattle.core_rules.specs.Term.{Term}
use Rattle.core_terms.specs.Patterns.{pats_of}
use Rattle.el_base.proofs.Lists.{drop_next}
use Rattle.kernel_rules.specs.Outcome.{Outcome, Gives, Refuses}
use Rattle.term_pool.specs.Pool.{Pool}
use Rattle.resolved_tree.specs.declared.resolved.ResolvedPattern.{ResolvedPattern}
use Rattle.lhs_rules.specs.Refusals.{Refusal}
use Rattle.lhs_rules.specs.Asking.{Reads, ◌>>=◌, gives}
use Rattle.lhs_rules.specs.Spots.{Left, Sketch, SketchShape, taken, with_pat}
use Rattle.lhs_rules.specs.Rules.{ElimMeaning, PatternMeaning, Read, ReadAll, Slot, binder_of, pattern_taken, read_all, reads, visit_all, unwritten_slot}
use Rattle.lhs_rules.specs.Patterns.{pattern_meaning}
use Rattle.lhs_elab.specs.declared.error.LhsError.{LhsError}
use Rattle.lhs_elab.specs.Answers.{Answers}
use Rattle.lhs_elab.specs.Constructors.{of_pats}
use Rattle.lhs_elab.specs.Elaborator.{Over, Comes, left_of}
use Rattle.lhs_elab.specs.Slots.{rest_by, slot_by}
use Rattle.lhs_elab.proofs.SplitContexts.{drop-map}
use Rattle.lhs_elab.specs.declared.elaborator.Elaborator.{Elaborator}
use Rattle.lhs_elab.specs.Reading.{IsSlotRead}
use Rattle.lhs_elab.proofs.Stepping.{off, on}

-- patterns, and others after them
abbrev pub joined : {A : Type 0} → List (CorePat A) → CorePats A → CorePats A
joined [] ps = ps
joined (q ∷ qs) ps = AndPat q (joined qs ps)

pub joined-none : (qs : List Sketch) → joined qs NoPat ≡ pats_of qs
joined-none [] = refl
joined-none (q ∷ qs) = ap (AndPat q) (joined-none qs)

pub joined-more : {A : Type 0} (qs : List (CorePat A)) (q : CorePat A) (ps : CorePats A) → joined (qs ++ q ∷ []) ps ≡ joined qs (AndPat q ps)
joined-more [] q ps = refl
joined-more (x ∷ qs) q ps = ap (AndPat x) (joined-more qs q ps)

-- the slots all were read from j on in l, as far as the patterns made; those that are left are read from i on in k
pub record VisitedTo (o : Over) (all : List Slot) (j : ℕ) (l : Left) (made : List Sketch) (left : List Slot) (i : ℕ) (k : Left) : Type 0 where
  pub gives_all : (ps : CorePats ℕ) (m : Left) → Comes o (visit_all left i k) (Gives (read_all ps m)) → Comes o (visit_all all j l) (Gives (read_all (joined made ps) m))
  pub refuses_all : (e : Refusal) → Comes o (visit_all left i k) (Refuses e) → Comes o (visit_all all j l) (Refuses e)

pub visited-none : (o : Over) (all : List Slot) (j : ℕ) (l : Left) → VisitedTo o all j l [] all j l
visited-none o all j l = record { gives_all = λ ps m h. h; refuses_all = λ e h. h }

module _ (o : Over) (all : List Slot) (j : ℕ) (l : Left) (made : List Sketch) (left : List Slot) (i : ℕ) (k : Left) (v : VisitedTo o all j l made left i k) where
  module _ (q : Slot) (rest : List Slot) (e : left ≡ q ∷ rest) where
    abbrev then_rest : Read → Reads ReadAll
    then_rest r = visit_all rest (i + 1) r.left >>= (λ (rs : ReadAll). gives (read_all (AndPat (Pat r.shape q.origin q.braces) rs.pats) rs.left))

    -- one slot more
    pub visited-next : (s : SketchShape) (m : Left) (t : Sketch) (new : List Sketch) (n : ℕ) → n ≡ i + 1 → t ≡ Pat s q.origin q.braces → new ≡ made ++ t ∷ [] → Comes o (q.visits i k) (Gives (reads s m)) → VisitedTo o all j l new rest n m
    visited-next s m t new n en et ew h = record {
      gives_all = λ ps w x.
          let y : Comes o (visit_all rest (i + 1) m) (Gives (read_all ps w)) = subst (λ (b : ℕ). Comes o (visit_all rest b m) (Gives (read_all ps w))) en x in
          let z : Comes o (visit_all left i k) (Gives (read_all (AndPat (Pat s q.origin q.braces) ps) w)) =
          subst (λ (qs : List Slot). Comes o (visit_all qs i k) (Gives (read_all (AndPat (Pat s q.origin q.braces) ps) w))) (sym e)
          (on o (q.visits i k) then_rest (reads s m) (Gives (read_all (AndPat (Pat s q.origin q.braces) ps) w)) h
          (on o (visit_all rest (i + 1) m) (λ (rs : ReadAll). gives (read_all (AndPat (Pat s q.origin q.braces) rs.pats) rs.left)) (read_all ps w) (Gives (read_all (AndPat (Pat s q.origin q.braces) ps) w)) y refl)) in
          let p : joined made (AndPat (Pat s q.origin q.braces) ps) ≡ joined new ps = ap (λ (a : Sketch). joined made (AndPat a ps)) (sym et) ∙ (sym (joined-more made t ps) ∙ ap (λ (xs : List Sketch). joined xs ps) (sym ew)) in
          subst (λ (a : CorePats ℕ). Comes o (visit_all all j l) (Gives (read_all a w))) p (v.gives_all (AndPat (Pat s q.origin q.braces) ps) w z);
      refuses_all = λ r x.
          let y : Comes o (visit_all rest (i + 1) m) (Refuses r) = subst (λ (b : ℕ). Comes o (visit_all rest b m) (Refuses r)) en x in
          v.refuses_all r (subst (λ (qs : List Slot). Comes o (visit_all qs i k) (Refuses r)) (sym e)
          (on o (q.visits i k) then_rest (reads s m) (Refuses r) h (off o (visit_all rest (i + 1) m) (λ (rs : ReadAll). gives (read_all (AndPat (Pat s q.origin q.braces) rs.pats) rs.left)) r y)));
    }

    -- it is refused
    pub visited-refused : (r : Refusal) → Comes o (q.visits i k) (Refuses r) → Comes o (visit_all all j l) (Refuses r)
    visited-refused r h = v.refuses_all r (subst (λ (qs : List Slot). Comes o (visit_all qs i k) (Refuses r)) (sym e) (off o (q.visits i k) then_rest r h))

  -- none is left
  pub visited-all : left ≡ [] → Comes o (visit_all all j l) (Gives (read_all (pats_of made) k))
  visited-all e =
      subst (λ (a : CorePats ℕ). Comes o (visit_all all j l) (Gives (read_all a k))) (joined-none made)
      (v.gives_all NoPat k (subst (λ (qs : List Slot). Comes o (visit_all qs i k) (Gives (read_all NoPat k))) (sym e) refl))

-- ---- a pattern that is visited is the same one, over the same

pub visits-same : (o n : Over) (m k : PatternMeaning) (j i : ℕ) (l h : Left) → o ≡ n → m ≡ k → j ≡ i → l ≡ h → (r : Outcome Refusal Read) → Comes o (m.visits j l) r → Comes n (k.visits i h) r
visits-same o n m k j i l h a b c d r x =
    subst (λ (v : Over). Comes v (k.visits i h) r) a (subst (λ (v : PatternMeaning). Comes o (v.visits i h) r) b (subst (λ (v : ℕ). Comes o (m.visits v h) r) c (subst (λ (v : Left). Comes o (m.visits j v) r) d x)))

-- by the meaning of the pattern
pub visits-as : {A : Type 0} (o : Over) (H : A → (Read → Type 0) → Type 0) (p : Pool) (j : ℕ) (l : Left) (m n : PatternMeaning) → m ≡ n → (r : Result A LhsError) → Answers H p (Comes o (m.visits j l)) r → Answers H p (Comes o (n.visits j l)) r
visits-as o H p j l m n e r h = subst (λ (v : PatternMeaning). Answers H p (Comes o (v.visits j l)) r) e h

-- ---- for the variable of a function type

module _ (o : Over) (l : Left) (b : Flag) (w : Answer) (a t : Term) (c : Braces) (m : PatternMeaning) where
  abbrev first : Reads Read
  first = m.visits (length l.spots) (taken l b (binder_of w) a t m.origin)

  pub pattern-read : (r : Read) → Comes o first (Gives r) → Comes o (pattern_taken l b w a t c m) (Gives (with_pat r.left r.shape m.origin c))
  pattern-read r x = on o first (λ (v : Read). gives (with_pat v.left v.shape m.origin c)) r (Gives (with_pat r.left r.shape m.origin c)) x refl

  pub pattern-refused : (e : Refusal) → Comes o first (Refuses e) → Comes o (pattern_taken l b w a t c m) (Refuses e)
  pattern-refused e x = off o first (λ (v : Read). gives (with_pat v.left v.shape m.origin c)) e x

-- ---- the patterns of a constructor

module _ (o : Over) (k : ℕ) (m : Reads ReadAll) where
  pub con-read : (r : ReadAll) → Comes o m (Gives r) → Comes o (m >>= of_pats k) (Gives (reads (ConPat k r.pats) r.left))
  con-read r x = on o m (of_pats k) r (Gives (reads (ConPat k r.pats) r.left)) x refl

  pub con-unread : (e : Refusal) → Comes o m (Refuses e) → Comes o (m >>= of_pats k) (Refuses e)
  con-unread e x = off o m (of_pats k) e x

pub all-same : (o n : Over) (qs us : List Slot) (j i : ℕ) (l : Left) → o ≡ n → qs ≡ us → j ≡ i → (r : Outcome Refusal ReadAll) → Comes o (visit_all qs j l) r → Comes n (visit_all us i l) r
all-same o n qs us j i l a b c r x =
    subst (λ (v : Over). Comes v (visit_all us i l) r) a (subst (λ (v : List Slot). Comes o (visit_all v i l) r) b (subst (λ (v : ℕ). Comes o (visit_all qs v l) r) c x))

-- ---- the patterns that are left

pub rest-next : (ms : List ElimMeaning) (at : ℕ) → rest_by true (drop at ms) ≡ drop (suc at) ms
rest-next [] zero = refl
rest-next (m ∷ ms) zero = refl
rest-next [] (suc at) = refl
rest-next (m ∷ ms) (suc at) = rest-next ms at

pub rest-none : (h : Bool) → rest_by h [] ≡ []
rest-none true = refl
rest-none false = refl

pub none-from : {X : Type 0} (xs : List X) (at : ℕ) → length xs ≤ at → drop at xs ≡ []
none-from [] zero l = refl
none-from [] (suc at) l = refl
none-from (x ∷ xs) zero l = absurd (omega (arith, l))
none-from (x ∷ xs) (suc at) l = none-from xs at (omega (arith, l))

pub first-from : (g : Signature Term) (f : ℕ) (ps : List ResolvedPattern) (at : ℕ) (p : ResolvedPattern) → at < length ps → p ≡ get_or ps at p
    → drop at (map (pattern_meaning g f) ps) ≡ pattern_meaning g f p ∷ map (pattern_meaning g f) (drop (at + 1) ps)
first-from g f ps at p l e = drop-map (pattern_meaning g f) at ps ∙ ap (map (pattern_meaning g f)) (drop_next ps at p l e)

-- ---- the pattern of an argument

pub nothing-left : (h : Bool) → slot_by h [] ≡ unwritten_slot
nothing-left true = refl
nothing-left false = refl

pub slot-unwritten : {S : Type 0} (o : Over) (x : Elaborator S) (h : Bool) (ms : List ElimMeaning) (j : ℕ) (t : Sketch) → t ≡ Pat (VarPat j) Inserted Plain → slot_by h ms ≡ unwritten_slot
    → IsSlotRead x (slot_by h ms) t (λ (r : Read). Comes o ((slot_by h ms).visits j (left_of x)) (Gives r))
slot-unwritten o x h ms j t e n = subst (λ (q : Slot). IsSlotRead x q t (λ (r : Read). Comes o (q.visits j (left_of x)) (Gives r))) (sym n) (VarPat j, e, refl)

module _ (n o : Over) (h : Bool) (at j : ℕ) (us ms : List ElimMeaning) (l : Left) (a : n ≡ o) (b : us ≡ ms) where
  pub slot-over : (r : Outcome Refusal Read) → Comes n ((slot_by h (drop at us)).visits j l) r → Comes o ((slot_by h (drop at ms)).visits j l) r
  slot-over r x = subst (λ (v : Over). Comes v ((slot_by h (drop at ms)).visits j l) r) a (subst (λ (v : List ElimMeaning). Comes n ((slot_by h (drop at v)).visits j l) r) b x)

pub slot-same : {S : Type 0} (n o : Over) (y : Elaborator S) (h : Bool) (at j : ℕ) (us ms : List ElimMeaning) (l : Left) (t : Sketch) → n ≡ o → us ≡ ms
    → IsSlotRead y (slot_by h (drop at us)) t (λ (r : Read). Comes n ((slot_by h (drop at us)).visits j l) (Gives r)) → IsSlotRead y (slot_by h (drop at ms)) t (λ (r : Read). Comes o ((slot_by h (drop at ms)).visits j l) (Gives r))
slot-same n o y h at j us ms l t a b x =
    subst (λ (v : Over). IsSlotRead y (slot_by h (drop at ms)) t (λ (r : Read). Comes v ((slot_by h (drop at ms)).visits j l) (Gives r))) a
    (subst (λ (v : List ElimMeaning). IsSlotRead y (slot_by h (drop at v)) t (λ (r : Read). Comes n ((slot_by h (drop at v)).visits j l) (Gives r))) b x)
