-- What a reading that gives something has done: step by step, with what was asked for each step.
use Rattle.std.proofs.Common.{◌≡◌, refl, sym, ap, subst}
use Rattle.std.specs.Prelude.{ℕ, List, [], ◌∷◌, length, Option, Some, None, zero, suc}
use Rattle.core_rules.specs.declared.Flag.{Flag}
use Rattle.core_rules.specs.declared.Flag.TheVariants.{Explicit, Implicit}
use Rattle.core_rules.specs.Term.{Term, Pi, Fam}
use Rattle.core_rules.specs.Signature.{Entry, Telescope, Context, Branch, Signature, Inserted, VarPat, ConPat, AbsurdPat}
use Rattle.core_rules.specs.Signature as S
use Rattle.core_rules.specs.Elimination.{Elim}
use Rattle.core_rules.specs.Heads.{Solutions, Answer, Form, Heads, HeadOf, Bounded, Within, Out}
use Rattle.core_rules.specs.Unification.{Equation, Solution}
use Rattle.core_rules.specs.UnifierAnswers.{Unified, Unifier, UnifiedBy, NeverUnified, StuckAt, NoFuel, NoDepth}
use Rattle.core_rules.specs.TypedTree.{con_context, index_equations}
use Rattle.kernel_rules.specs.Outcome.{Outcome, Gives, Refuses}
use Rattle.kernel_rules.proofs.Outcome.{one_gives}
use Rattle.need_rules.specs.Needs.{Need, Field, OwnField, own_field, need}
use Rattle.need_rules.specs.Needs as needs
use Rattle.el_outside.specs.declared.place.Pos.{Pos}
use Rattle.lhs_rules.specs.Refusals.{Refusal, WrongArity}
use Rattle.lhs_rules.specs.Asking.{Is, Reads, gives, Comes}
use Rattle.lhs_rules.specs.Spots.{Spot, AtVar, AtValue, Left, spot_at, type_at, taken, with_pat, projected, put}
use Rattle.lhs_rules.specs.Spots as spot
use Rattle.lhs_rules.specs.Families.{at_family, AtCon, at_con}
use Rattle.lhs_rules.specs.Rules.{Read, reads, PatternMeaning, ElimMeaning, within, shows, refused, braces_of, Slot, with_slot, written_slot, unwritten_slot, slot_left, slots_by, binder_need, aligned, ReadAll, visit_all, slot_entries, all_inserted, con_or, variable_or, branch_or, unified, split_at, put_con, constructor, absurd_pattern, data_or, absurd_split, all_refuted, pattern_taken, pattern_inserted, field_type, elim_by_need, one_elim}
use Rattle.lhs_rules.proofs.Comes.{then_gives}
use Rattle.lhs_rules.proofs.Needed.{held_of, NeedIs, need_is}

-- the one of two equal outcomes gives what the other gives
pub gave : {A : Type 0} (x y : A) → ◌≡◌ {A = Outcome Refusal A} (Gives x) (Gives y) → y ≡ x
gave x y e = sym (one_gives {x = x} {y = y} e)

module _ (g : Signature Term) (s : Solutions) (fuel : ℕ) (U : Unifier) where
  -- the head form of a, with the number of its steps
  pub record HeadIs (a : Term) (w : Answer) : Type 0 where
    pub steps : ℕ
    pub heads : Heads g s a [] w steps

  pub shown_is : (p : Pos) (a : Term) (w : Answer) → Comes g s fuel U (shows p a) (Gives w) → HeadIs a w
  shown_is p a w c = by_bound c.0 c.1 c.2
    where
      by_bound : (b : Bounded) → HeadOf g s a fuel b → Gives w ≡ within p b → HeadIs a w
      by_bound (Within v n) h e = record { steps = n; heads = subst (λ v. Heads g s a [] v n) (gave w v e) h.0 }
      by_bound Out h e = absurd cc

  -- ---- a constructor

  -- each argument has the slot of a pattern, in order, or that of none
  pub data AlignIs : List ElimMeaning → Telescope Term → List Slot → Type 0 where
    none : AlignIs [] [] []
    unwritten : {ms : List ElimMeaning} {e : Entry Term} {es : Telescope Term} {qs : List Slot} → AlignIs ms es qs → AlignIs ms (e ∷ es) (unwritten_slot ∷ qs)
    written : {m : ElimMeaning} {ms : List ElimMeaning} {e : Entry Term} {es : Telescope Term} {qs : List Slot} (w : PatternMeaning) → held_of m.next ≡ Some w → AlignIs ms es qs
        → AlignIs (m ∷ ms) (e ∷ es) (written_slot (braces_of m.next) w ∷ qs)

  pub aligned_length : {ms : List ElimMeaning} {es : Telescope Term} {qs : List Slot} → AlignIs ms es qs → length qs ≡ length es
  aligned_length none = refl
  aligned_length (unwritten h) = ap suc (aligned_length h)
  aligned_length (written w e h) = ap suc (aligned_length h)

  with_slot_is : (ms : List ElimMeaning) (e : Entry Term) (es : Telescope Term) (q : Slot) (o : Outcome Refusal (List Slot)) (qs : List Slot)
      → ((rs : List Slot) → Gives rs ≡ o → AlignIs ms (e ∷ es) (q ∷ rs)) → Gives qs ≡ with_slot q o → AlignIs ms (e ∷ es) qs
  with_slot_is ms e es q (Gives rs) qs k x = subst (AlignIs ms (e ∷ es)) (gave qs (q ∷ rs) x) (k rs refl)
  with_slot_is ms e es q (Refuses y) qs k x = absurd cc

  slot_left_is : (p : Pos) (b : Flag) (e : Entry Term) (es : Telescope Term) (o : Outcome Refusal (List Slot)) (qs : List Slot)
      → ((rs : List Slot) → Gives rs ≡ o → AlignIs [] es rs) → Gives qs ≡ slot_left p b o → AlignIs [] (e ∷ es) qs
  slot_left_is p Explicit e es o qs k x = absurd cc
  slot_left_is p Implicit e es o qs k x = with_slot_is [] e es unwritten_slot o qs (λ rs y. unwritten (k rs y)) x

  slots_by_is : (p : Pos) (m : ElimMeaning) (ms : List ElimMeaning) (e : Entry Term) (es : Telescope Term) (w : Answer) (o v : Outcome Refusal (List Slot)) (n : Need PatternMeaning) (qs : List Slot)
      → NeedIs PatternMeaning g w m.next n → ((rs : List Slot) → Gives rs ≡ o → AlignIs ms es rs) → ((rs : List Slot) → Gives rs ≡ v → AlignIs (m ∷ ms) es rs)
      → Gives qs ≡ slots_by p m o v n → AlignIs (m ∷ ms) (e ∷ es) qs
  slots_by_is p m ms e es w o v (needs.Explicit q a t) qs i h k x = with_slot_is (m ∷ ms) e es (written_slot (braces_of m.next) q) o qs (λ rs y. written q i.0 (h rs y)) x
  slots_by_is p m ms e es w o v (needs.Given q a t) qs i h k x = with_slot_is (m ∷ ms) e es (written_slot (braces_of m.next) q) o qs (λ rs y. written q i.0 (h rs y)) x
  slots_by_is p m ms e es w o v (needs.Insert a t) qs i h k x = with_slot_is (m ∷ ms) e es unwritten_slot v qs (λ rs y. unwritten (k rs y)) x
  slots_by_is p m ms e es w o v (needs.Project is) qs i h k x = absurd cc
  slots_by_is p m ms e es w o v needs.End qs i h k x = absurd cc
  slots_by_is p m ms e es w o v (needs.NotAFunction t) qs i h k x = absurd cc
  slots_by_is p m ms e es w o v (needs.NotARecord t) qs i h k x = absurd cc
  slots_by_is p m ms e es w o v needs.NoSuchName qs i h k x = absurd cc
  slots_by_is p m ms e es w o v (needs.Waits y) qs i h k x = absurd cc

  align_is : (p : Pos) (ms : List ElimMeaning) (es : Telescope Term) (qs : List Slot) → Gives qs ≡ aligned g p ms es → AlignIs ms es qs
  align_is p [] [] qs x = subst (AlignIs [] []) (gave qs [] x) none
  align_is p (m ∷ ms) [] qs x = absurd cc
  align_is p [] (e ∷ es) qs x = slot_left_is p e.flag e es (aligned g p [] es) qs (align_is p [] es) x
  align_is p (m ∷ ms) (e ∷ es) qs x =
      slots_by_is p m ms e es (Form (Pi e.flag e.name e.ty e.ty) []) (aligned g p ms es) (aligned g p (m ∷ ms) es) (binder_need g e m.next) qs
      (need_is PatternMeaning g (Form (Pi e.flag e.name e.ty e.ty) []) m.next) (align_is p ms es) (align_is p (m ∷ ms) es) x

  -- constructor k is put for the variable outside i entries, of a family at which it can be, with a slot for each argument, in the branch
  -- that the unifier answers
  pub record PutIs (f k i : ℕ) (l : Left) (a : AtCon) (qs : List Slot) (b : Branch Term) : Type 0 where
    pub place : ℕ
    pub spot : spot_at l place ≡ AtVar i
    pub head : Answer
    pub shown : HeadIs (type_at l.context (AtVar i)) head
    pub at : at_con g k head ≡ Some a
    pub as_many : length qs ≡ length a.con.args
    pub solutions : List Solution
    pub unified : U (con_context (split_at f l i a.at) k (slot_entries qs a.con.args)) (index_equations (split_at f l i a.at) a.con) (UnifiedBy solutions b)

  abbrev pub put_left : (f k i : ℕ) → Left → AtCon → List Slot → Branch Term → Left
  put_left f k i l a qs b =
      put l (split_at f l i a.at) i k a.con.args (all_inserted qs) (con_context (split_at f l i a.at) k (slot_entries qs a.con.args)) b

  -- and then its patterns are read
  pub record ConIs (f k : ℕ) (ms : List ElimMeaning) (j : ℕ) (l : Left) (r : Read) : Type 0 where
    pub index : ℕ
    pub at : AtCon
    pub slots : List Slot
    pub branch : Branch Term
    pub aligned : AlignIs ms at.con.args slots
    pub put : PutIs f k index l at slots branch
    pub rest : ReadAll
    pub visited : Comes g s fuel U (visit_all slots (length l.spots) (put_left f k index l at slots branch)) (Gives rest)
    pub is : r ≡ reads (ConPat k rest.pats) rest.left

  some_con : (p : Pos) (o : Option AtCon) (a : AtCon) → Gives a ≡ con_or p o → o ≡ Some a
  some_con p None a e = absurd cc
  some_con p (Some b) a e = let x = gave a b e in cc

  at_variable : (p : Pos) (o : Spot) (i : ℕ) → Gives i ≡ variable_or p o → o ≡ AtVar i
  at_variable p (AtVar k) i e = let x = gave i k e in cc
  at_variable p (AtValue v) i e = absurd cc
  at_variable p spot.AtCon i e = absurd cc

  record Joined (c : Context Term) (es : List Equation) (b : Branch Term) : Type 0 where
    solutions : List Solution
    answered : U c es (UnifiedBy solutions b)

  joined : (p : Pos) (c : Context Term) (es : List Equation) (b : Branch Term) → Comes g s fuel U (unified p c es) (Gives b) → Joined c es b
  joined p c es b (v, u, e) = by_answer v u e
    where
      by_answer : (v : Unified) → U c es v → Gives b ≡ branch_or p c v → Joined c es b
      by_answer (UnifiedBy ss d) u e = record { solutions = ss; answered = subst (λ d. U c es (UnifiedBy ss d)) (gave b d e) u }
      by_answer NeverUnified u e = absurd cc
      by_answer (StuckAt t w) u e = absurd cc
      by_answer NoFuel u e = absurd cc
      by_answer NoDepth u e = absurd cc

  pub con_is : (f : ℕ) (p : Pos) (k : ℕ) (ms : List ElimMeaning) (j : ℕ) (l : Left) (r : Read) → Comes g s fuel U (constructor g f p k ms j l) (Gives r) → ConIs f k ms j l r
  con_is f p k ms j l r c =
      let w = then_gives g s fuel U (shows p (type_at l.context (spot_at l j))) _ r c in
      let a = then_gives g s fuel U (Is (con_or p (at_con g k w.0))) _ r w.2 in
      let q = then_gives g s fuel U (Is (aligned g p ms a.0.con.args)) _ r a.2 in
      let i = then_gives g s fuel U (Is (variable_or p (spot_at l j))) (λ i. put_con p k a.0.con q.0 i (split_at f l i a.0.at) l) r q.2 in
      let z = split_at f l i.0 a.0.at in
      let d = con_context z k (slot_entries q.0 a.0.con.args) in
      let b = then_gives g s fuel U (unified p d (index_equations z a.0.con)) _ r i.2 in
      let v = then_gives g s fuel U (visit_all q.0 (length l.spots) (put_left f k i.0 l a.0 q.0 b.0)) (λ v. gives (reads (ConPat k v.pats) v.left)) r b.2 in
      let x = at_variable p (spot_at l j) i.0 i.1 in
      let u = joined p d (index_equations z a.0.con) b.0 b.1 in
      record {
        index = i.0;
        at = a.0;
        slots = q.0;
        branch = b.0;
        aligned = align_is p ms a.0.con.args q.0 q.1;
        put = record {
          place = j;
          spot = x;
          head = w.0;
          shown = subst (λ o. HeadIs (type_at l.context o) w.0) x (shown_is p (type_at l.context (spot_at l j)) w.0 w.1);
          at = some_con p (at_con g k w.0) a.0 a.1;
          as_many = aligned_length (align_is p ms a.0.con.args q.0 q.1);
          solutions = u.solutions;
          unified = u.answered;
        };
        rest = v.0;
        visited = v.1;
        is = one_gives v.2;
      }

  -- ---- `()` leaves the left side as it is

  pub absurd_is : (f : ℕ) (p : Pos) (j : ℕ) (l : Left) (r : Read) → Comes g s fuel U (absurd_pattern g f p j l) (Gives r) → r ≡ reads AbsurdPat l
  absurd_is f p j l r c =
      let w = then_gives g s fuel U (shows p (type_at l.context (spot_at l j))) _ r c in
      let a = then_gives g s fuel U (Is (data_or p (at_family g w.0))) _ r w.2 in
      let o = then_gives g s fuel U (all_refuted p (absurd_split f l a.0 (spot_at l j)) (S.cons_of g a.0.fam) a.0.decl.cons) (λ o. gives (reads AbsurdPat l)) r a.2 in
      one_gives o.2

  -- ---- what stands next

  module _ (f : ℕ) (m : ElimMeaning) where
    -- what stands next makes one left side of another
    pub data ElimIs : Left → Left → Type 0 where
      inserted : {l k : Left} (x : ℕ) (a t : Term) → HeadIs l.ty (Form (Pi Implicit x a t) []) → ElimIs (with_pat (taken l Implicit x a t Inserted) (VarPat (length l.spots)) Inserted S.Plain) k → ElimIs l k
      pattern : {l k : Left} (b : Flag) (x : ℕ) (a t : Term) (w : PatternMeaning) (r : Read) → held_of m.next ≡ Some w → HeadIs l.ty (Form (Pi b x a t) [])
          → Comes g s fuel U (w.visits (length l.spots) (taken l b x a t w.origin)) (Gives r) → k ≡ with_pat r.left r.shape w.origin (braces_of m.next) → ElimIs l k
      field : {l k : Left} (h d : ℕ) (es : List Elim) (is : OwnField) → m.next ≡ Field h → HeadIs l.ty (Form (Fam d) es) → own_field g d es h ≡ Some is
          → k ≡ projected l is.field (field_type g f l is) → ElimIs l k

    -- the answer w is a function type, whose name is that of its binder
    taken_is : (b : Flag) (l k : Left) (w : Answer) (x : ℕ) (a t : Term) (p : PatternMeaning) → held_of m.next ≡ Some p → HeadIs l.ty w → w ≡ Form (Pi b x a t) []
        → Comes g s fuel U (pattern_taken l b w a t (braces_of m.next) p) (Gives k) → ElimIs l k
    taken_is b l k w x a t p e h i c =
        let y : Comes g s fuel U (pattern_taken l b (Form (Pi b x a t) []) a t (braces_of m.next) p) (Gives k) = subst (λ w. Comes g s fuel U (pattern_taken l b w a t (braces_of m.next) p) (Gives k)) i c in
        let r = then_gives g s fuel U (p.visits (length l.spots) (taken l b x a t p.origin)) (λ r. gives (with_pat r.left r.shape p.origin (braces_of m.next))) k y in
        pattern b x a t p r.0 e (subst (HeadIs l.ty) i h) r.1 (one_gives r.2)

    by_need : (l k : Left) (w : Answer) (again : Left → Reads Left) (n : Need PatternMeaning) → HeadIs l.ty w → NeedIs PatternMeaning g w m.next n
        → ((j : Left) → Comes g s fuel U (again j) (Gives k) → ElimIs j k) → Comes g s fuel U (elim_by_need g f m l w again n) (Gives k) → ElimIs l k
    by_need l k w again (needs.Explicit p a t) h i go c = taken_is Explicit l k w i.1 a t p i.0 h i.2 c
    by_need l k w again (needs.Given p a t) h i go c = taken_is Implicit l k w i.1 a t p i.0 h i.2 c
    by_need l k w again (needs.Insert a t) h i go c =
        inserted i.0 a t (subst (HeadIs l.ty) i.1 h) (subst (λ w. ElimIs (pattern_inserted l w a t) k) i.1 (go (pattern_inserted l w a t) c))
    by_need l k w again (needs.Project is) h i go c = field i.0 i.2 i.3 is i.1 (subst (HeadIs l.ty) i.4 h) i.5 (one_gives c)
    by_need l k w again needs.End h i go c = absurd cc
    by_need l k w again (needs.NotAFunction t) h i go c = absurd cc
    by_need l k w again (needs.NotARecord t) h i go c = absurd cc
    by_need l k w again needs.NoSuchName h i go c = absurd cc
    by_need l k w again (needs.Waits x) h i go c = absurd cc

    pub elim_is : (room : ℕ) (l k : Left) → Comes g s fuel U (one_elim g f m room l) (Gives k) → ElimIs l k
    unfolding one_elim
    elim_is zero l k c =
        let w = then_gives g s fuel U (shows m.pos l.ty) (λ w. elim_by_need g f m l w (λ k. refused m.pos WrongArity) (need g w m.next)) k c in
        by_need l k w.0 (λ k. refused m.pos WrongArity) (need g w.0 m.next) (shown_is m.pos l.ty w.0 w.1) (need_is PatternMeaning g w.0 m.next) (λ j d. absurd cc) w.2
    elim_is (suc room) l k c =
        let w = then_gives g s fuel U (shows m.pos l.ty) (λ w. elim_by_need g f m l w (one_elim g f m room) (need g w m.next)) k c in
        by_need l k w.0 (one_elim g f m room) (need g w.0 m.next) (shown_is m.pos l.ty w.0 w.1) (need_is PatternMeaning g w.0 m.next) (λ j d. elim_is room j k d) w.2
