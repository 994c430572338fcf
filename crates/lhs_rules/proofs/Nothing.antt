-- A clause that has a pattern `()` is read to a left side that has one.
use Rattle.std.proofs.Common.{◌≡◌, refl, sym, ap, subst, ◌∙◌, inl, inr, ◌⊎◌, ◌≢◌}
use Rattle.std.specs.Prelude.{ℕ, ◌+◌, Bool, true, false, ◌||◌, List, [], ◌∷◌, ◌++◌, length, map, Option, Some, None, is_some}
use Rattle.std.specs.List.{AllByRecursion, list_any}
use Rattle.core_rules.specs.Term.{Term}
use Rattle.core_rules.specs.Signature.{Telescope, Signature, CorePats, Pat, VarPat, SolvedPat, DottedPat, ConPat, AbsurdPat, ProjectionPat, NoPat, AndPat, CoreClause, Origin}
use Rattle.core_rules.specs.Heads.{Solutions}
use Rattle.core_rules.specs.UnifierAnswers.{Unifier}
use Rattle.kernel_rules.specs.Outcome.{Gives}
use Rattle.kernel_rules.proofs.Outcome.{one_gives}
use Rattle.match_rules.specs.Matching.{Shapes, clause_of, con_shape, eta_family, shape_of, pats_shapes, pats_vars}
use Rattle.cover_rules.specs.LeftSide.{shape_values, pats_values}
use Rattle.cover_rules.specs.Ready.{HasNothing, OneNothing, it, in_con, in_record, here, later, AllReady}
use Rattle.cover_rules.specs.Ready as ready
use Rattle.cover_rules.specs.Laws.{ClausesPlain}
use Rattle.need_rules.specs.Needs.{Next}
use Rattle.need_rules.specs.Needs as needs
use Rattle.resolved_tree.specs.declared.resolved.ResolvedClause.{ResolvedClause}
use Rattle.resolved_tree.specs.declared.resolved.ResolvedPattern.{ResolvedPattern, map-ResolvedPattern, roll-ResolvedPattern, out-roll-ResolvedPattern, ind-ResolvedPattern, fold_out-ResolvedPattern}
use Rattle.resolved_tree.specs.declared.resolved.ResolvedPattern.TheOpen.{ResolvedPattern-F}
use Rattle.lhs_rules.specs.Asking.{gives, Comes}
use Rattle.lhs_rules.specs.Spots.{Sketch, SketchShape, Left, start, taken}
use Rattle.lhs_rules.specs.Rules.{Visits, Read, PatternMeaning, ElimMeaning, Slot, ReadAll, read_all, visit_all, constructor, one_elim, most_inserted, all_elims}
use Rattle.lhs_rules.specs.Patterns.{inside, pattern_step, pattern_meaning, pats_in, settled_shape, settled_pats, left_of, LeftOf, AnswersWith}
use Rattle.lhs_rules.specs.Absurd.{absurd_step, is_absurd, is_ended}
use Rattle.lhs_rules.specs.Laws.{ClausesRead}
use Rattle.lhs_rules.specs.Laws as laws
use Rattle.lhs_rules.proofs.Comes.{then_gives}
use Rattle.lhs_rules.proofs.Forms.{pattern_out}
use Rattle.lhs_rules.proofs.Needed.{held_of}
use Rattle.lhs_rules.proofs.Steps.{put_left, AlignIs, none, unwritten, written, con_is, absurd_is, ElimIs, inserted, pattern, field, elim_is}
use Rattle.lhs_rules.proofs.Kept.{pattern_keeps, ElimKeeps}

-- ---- shapes that hold `()`

abbrev mutual
  HoldsAbsurd : SketchShape → Type 0
  HoldsAbsurd (VarPat i) = ⊥
  HoldsAbsurd (SolvedPat v) = ⊥
  HoldsAbsurd (DottedPat v) = ⊥
  HoldsAbsurd (ConPat k ps) = OneAbsurd ps
  HoldsAbsurd AbsurdPat = Unit {0}
  HoldsAbsurd (ProjectionPat f) = ⊥

  OneAbsurd : CorePats ℕ → Type 0
  OneAbsurd NoPat = ⊥
  OneAbsurd (AndPat (Pat s o b) ps) = HoldsAbsurd s ⊎ OneAbsurd ps

in_shape : (o : Option ℕ) (k : ℕ) (ps : Shapes) → OneNothing ps → HasNothing (con_shape o k ps)
in_shape None k ps h = in_con h
in_shape (Some d) k ps h = in_record h

-- the checked pattern as matching sees it has it too
module _ (g : Signature Term) (l : Left) where
  mutual
    settled_has : (seen : List ℕ) (o : Origin) (s : SketchShape) → HoldsAbsurd s → HasNothing (shape_of g seen (shape_values (settled_shape l o s)))
    settled_has seen o (VarPat i) h = absurd h
    settled_has seen o (SolvedPat v) h = absurd h
    settled_has seen o (DottedPat v) h = absurd h
    settled_has seen o (ConPat k ps) h = in_shape (eta_family g k) k (pats_shapes g seen (pats_values (settled_pats l ps))) (one_has seen ps h)
    settled_has seen o AbsurdPat h = it
    settled_has seen o (ProjectionPat f) h = absurd h

    one_has : (seen : List ℕ) (ps : CorePats ℕ) → OneAbsurd ps → OneNothing (pats_shapes g seen (pats_values (settled_pats l ps)))
    one_has seen NoPat h = absurd h
    one_has seen (AndPat (Pat s o b) ps) (inl h) = here (settled_has seen o s h)
    one_has seen (AndPat (Pat s o b) ps) (inr h) = later (one_has _ ps h)

-- ---- patterns in order

abbrev Among : List Sketch → Type 0
Among ps = OneAbsurd (pats_in ps)

among-left : (ps qs : List Sketch) → Among ps → Among (ps ++ qs)
among-left [] qs h = absurd h
among-left (Pat s o b ∷ ps) qs (inl h) = inl h
among-left (Pat s o b ∷ ps) qs (inr h) = inr (among-left ps qs h)

among-right : (ps qs : List Sketch) → Among qs → Among (ps ++ qs)
among-right [] qs h = h
among-right (Pat s o b ∷ ps) qs h = inr (among-right ps qs h)

module _ (g : Signature Term) (s : Solutions) (fuel : ℕ) (U : Unifier) (f : ℕ) where
  -- a pattern leaves the patterns before it as they are
  pats_kept : (ps : List Sketch) (q : ResolvedPattern) → ElimKeeps g s fuel U f (λ l. l.pats ≡ ps) (λ s. Unit {0}) (pattern_meaning g f q)
  pats_kept ps q = pattern_keeps g s fuel U f (λ l. l.pats ≡ ps) (λ s. Unit {0}) (λ j. tt) tt (λ k i l a qs b ps x y. tt) (λ k i l a qs b h x. h) q

  -- what a pattern does makes a shape that holds `()`
  abbrev Makes : Visits → Type 0
  Makes v = (j : ℕ) (l : Left) (r : Read) → Comes g s fuel U (v j l) (Gives r) → HoldsAbsurd r.shape

  abbrev ElimMakes : ElimMeaning → Type 0
  ElimMakes m = (w : PatternMeaning) → held_of m.next ≡ Some w → Makes w.visits

  abbrev OneMakes : List ElimMeaning → Type 0
  OneMakes [] = ⊥
  OneMakes (m ∷ ms) = ElimMakes m ⊎ OneMakes ms

  abbrev SlotMakes : List Slot → Type 0
  SlotMakes [] = ⊥
  SlotMakes (q ∷ qs) = Makes q.visits ⊎ SlotMakes qs

  slot_makes : {ms : List ElimMeaning} {es : Telescope Term} {qs : List Slot} → OneMakes ms → AlignIs g s fuel U ms es qs → SlotMakes qs
  slot_makes h none = absurd h
  slot_makes h (unwritten a) = inr (slot_makes h a)
  slot_makes (inl h) (written w e a) = inl (h w e)
  slot_makes (inr h) (written w e a) = inr (slot_makes h a)

  visit_makes : (qs : List Slot) (j : ℕ) (l : Left) (r : ReadAll) → SlotMakes qs → Comes g s fuel U (visit_all qs j l) (Gives r) → OneAbsurd r.pats
  visit_makes [] j l r h c = absurd h
  visit_makes (q ∷ qs) j l r h c =
      let x = then_gives g s fuel U (q.visits j l) _ r c in
      let y = then_gives g s fuel U (visit_all qs (j + 1) x.0.left) (λ rs. gives (read_all (AndPat (Pat x.0.shape q.origin q.braces) rs.pats) rs.left)) r x.2 in
      subst (λ (r : ReadAll). OneAbsurd r.pats) (sym (one_gives y.2)) (by_slot h x.0 x.1 y.0 (λ h. visit_makes qs (j + 1) x.0.left y.0 h y.1))
    where
      by_slot : Makes q.visits ⊎ SlotMakes qs → (x : Read) → Comes g s fuel U (q.visits j l) (Gives x) → (y : ReadAll) → (SlotMakes qs → OneAbsurd y.pats) → HoldsAbsurd x.shape ⊎ OneAbsurd y.pats
      by_slot (inl h) x c y d = inl (h j l x c)
      by_slot (inr h) x c y d = inr (d h)

  con_makes : (p : _) (k : ℕ) (ms : List ElimMeaning) → OneMakes ms → Makes (constructor g f p k ms)
  con_makes p k ms h j l r c =
      let x = con_is g s fuel U f p k ms j l r c in
      subst (λ (r : Read). HoldsAbsurd r.shape) (sym x.is) (visit_makes x.slots (length l.spots) (put_left g s fuel U f k x.index l x.at x.slots x.branch) x.rest (slot_makes h x.aligned) x.visited)

  inside_makes : (m : ElimMeaning) → ElimMakes m → Makes (inside m).visits
  inside_makes m h = by_next m.next (λ w e. h w e)
    where
      by_next : (n : Next PatternMeaning) → ((w : PatternMeaning) → held_of n ≡ Some w → Makes w.visits) → Makes (inside (record { pos = m.pos; next = n })).visits
      by_next (needs.Plain w) h = h w refl
      by_next (needs.Braces w) h = h w refl
      by_next (needs.Named x w) h = h w refl
      by_next (needs.Field x) h = λ j l r c. absurd cc

  only : (w : PatternMeaning) → Makes w.visits → (v : PatternMeaning) → ◌≡◌ {A = Option PatternMeaning} (Some w) (Some v) → Makes v.visits
  only w h v e = let x : w ≡ v = cc in subst (λ v. Makes v.visits) x h

  -- ---- forms of pattern

  -- what a pattern that holds `()` means makes a shape that does, and it is no projection
  record GoodElim (m : ElimMeaning) : Type 0 where
    makes : ElimMakes m
    held : held_of m.next ≢ None

  abbrev Good : ResolvedPattern → Type 0
  Good q = is_absurd q ≡ true → GoodElim (pattern_meaning g f q)

  abbrev SomePattern : Type 0
  SomePattern = (q : ResolvedPattern) × Good q

  good_plain : (w : PatternMeaning) → Makes w.visits → GoodElim (record { pos = w.pos; next = needs.Plain w })
  good_plain w h = record { makes = only w h; held = λ e. cc }

  one_good : (qs : List SomePattern) → list_any is_absurd (map (λ q. q.0) qs) ≡ true → OneMakes (map (pattern_meaning g f) (map (λ q. q.0) qs))
  one_good [] e = absurd cc
  one_good (q ∷ qs) e = by_first (is_absurd q.0) refl e (one_good qs)
    where
      by_first : (b : Bool) → is_absurd q.0 ≡ b → (b || list_any is_absurd (map (λ q. q.0) qs)) ≡ true → (list_any is_absurd (map (λ q. q.0) qs) ≡ true → OneMakes (map (pattern_meaning g f) (map (λ q. q.0) qs)))
          → OneMakes (map (pattern_meaning g f) (map (λ q. q.0) (q ∷ qs)))
      by_first true x e k = inl (q.1 x).makes
      by_first false x e k = inr (k e)

  any_each : (qs : List ResolvedPattern) → list_any (λ b. b) (map is_absurd qs) ≡ list_any is_absurd qs
  any_each [] = refl
  any_each (q ∷ qs) = rw (any_each qs) refl

  form_good : (y : ResolvedPattern-F SomePattern) → absurd_step (map-ResolvedPattern ResolvedPattern Bool is_absurd (map-ResolvedPattern SomePattern ResolvedPattern (λ q. q.0) y)) ≡ true
      → GoodElim (pattern_step g f (map-ResolvedPattern ResolvedPattern ElimMeaning (pattern_meaning g f) (map-ResolvedPattern SomePattern ResolvedPattern (λ q. q.0) y)))
  form_good (ResolvedPattern-F.Implicit p q) e = record { makes = only _ (inside_makes (pattern_meaning g f q.0) (q.1 e).makes); held = λ e. cc }
  form_good (ResolvedPattern-F.Named p x q) e = record { makes = only _ (inside_makes (pattern_meaning g f q.0) (q.1 e).makes); held = λ e. cc }
  form_good (ResolvedPattern-F.Project p h) e = absurd cc
  form_good (ResolvedPattern-F.Variable x) e = absurd cc
  form_good (ResolvedPattern-F.Con p k qs) e = good_plain _ (con_makes p.pos k (map (pattern_meaning g f) (map (λ q. q.0) qs)) (one_good qs (sym (any_each (map (λ q. q.0) qs)) ∙ e)))
  form_good (ResolvedPattern-F.Underscore p) e = absurd cc
  form_good (ResolvedPattern-F.Absurd p) e = good_plain _ (λ j l r c. subst (λ (r : Read). HoldsAbsurd r.shape) (sym (absurd_is g s fuel U f p.pos j l r c)) tt)
  form_good (ResolvedPattern-F.Dotted p x) e = absurd cc

  absurd_rolled : (l : ResolvedPattern-F ResolvedPattern) → is_absurd (roll-ResolvedPattern l) ≡ absurd_step (map-ResolvedPattern ResolvedPattern Bool is_absurd l)
  unfolding is_absurd
  absurd_rolled l = fold_out-ResolvedPattern Bool absurd_step (roll-ResolvedPattern l) ∙ ap (λ l. absurd_step (map-ResolvedPattern ResolvedPattern Bool is_absurd l)) (out-roll-ResolvedPattern l)

  meaning_rolled : (l : ResolvedPattern-F ResolvedPattern) → pattern_meaning g f (roll-ResolvedPattern l) ≡ pattern_step g f (map-ResolvedPattern ResolvedPattern ElimMeaning (pattern_meaning g f) l)
  meaning_rolled l = pattern_out g f (roll-ResolvedPattern l) ∙ ap (λ l. pattern_step g f (map-ResolvedPattern ResolvedPattern ElimMeaning (pattern_meaning g f) l)) (out-roll-ResolvedPattern l)

  pattern_good : (q : ResolvedPattern) → Good q
  pattern_good = ind-ResolvedPattern Good (λ x y is e. subst GoodElim (sym (meaning_rolled x)) (subst (λ l. absurd_step (map-ResolvedPattern ResolvedPattern Bool is_absurd l) ≡ true → GoodElim (pattern_step g f (map-ResolvedPattern ResolvedPattern ElimMeaning (pattern_meaning g f) l))) is (form_good y) (sym (absurd_rolled x) ∙ e)))

  -- ---- what stands next, and all of it

  elim_keeps : (q : ResolvedPattern) (l k : Left) → ElimIs g s fuel U f (pattern_meaning g f q) l k → Among l.pats → Among k.pats
  elim_keeps q l k (inserted x a t h e) i = elim_keeps q _ k e (among-left l.pats _ i)
  elim_keeps q l k (pattern b x a t w r e h c is) i =
      let p = (pats_kept l.pats q w e (length l.spots) (taken l b x a t w.origin) r refl c).0 in
      subst (λ (k : Left). Among k.pats) (sym is) (among-left r.left.pats _ (subst Among (sym p) i))
  elim_keeps q l k (field h d es is x y z same) i = subst (λ (k : Left). Among k.pats) (sym same) (among-left l.pats _ i)

  elim_makes : (m : ElimMeaning) (l k : Left) → ElimIs g s fuel U f m l k → GoodElim m → Among k.pats
  elim_makes m l k (inserted x a t h e) i = elim_makes m _ k e i
  elim_makes m l k (pattern b x a t w r e h c is) i =
      subst (λ (k : Left). Among k.pats) (sym is) (among-right r.left.pats _ (inl (i.makes w e (length l.spots) (taken l b x a t w.origin) r c)))
  elim_makes m l k (field h d es is x y z same) i = absurd (i.held (ap held_of x))

  all_keep : (qs : List ResolvedPattern) (l k : Left) → Comes g s fuel U (all_elims g f (map (pattern_meaning g f) qs) l) (Gives k) → Among l.pats → Among k.pats
  all_keep [] l k c h = subst (λ (k : Left). Among k.pats) (sym (one_gives c)) h
  all_keep (q ∷ qs) l k c h =
      let x = then_gives g s fuel U (one_elim g f (pattern_meaning g f q) most_inserted l) (all_elims g f (map (pattern_meaning g f) qs)) k c in
      all_keep qs x.0 k x.2 (elim_keeps q l x.0 (elim_is g s fuel U f (pattern_meaning g f q) most_inserted l x.0 x.1) h)

  all_make : (qs : List ResolvedPattern) (l k : Left) → list_any is_absurd qs ≡ true → Comes g s fuel U (all_elims g f (map (pattern_meaning g f) qs) l) (Gives k) → Among k.pats
  all_make [] l k e c = absurd cc
  all_make (q ∷ qs) l k e c =
      let x = then_gives g s fuel U (one_elim g f (pattern_meaning g f q) most_inserted l) (all_elims g f (map (pattern_meaning g f) qs)) k c in
      by_first (is_absurd q) refl e x.0 (elim_is g s fuel U f (pattern_meaning g f q) most_inserted l x.0 x.1) x.2 (λ e. all_make qs x.0 k e x.2)
    where
      by_first : (b : Bool) → is_absurd q ≡ b → (b || list_any is_absurd qs) ≡ true → (j : Left) → ElimIs g s fuel U f (pattern_meaning g f q) l j → Comes g s fuel U (all_elims g f (map (pattern_meaning g f) qs) j) (Gives k) → (list_any is_absurd qs ≡ true → Among k.pats) → Among k.pats
      by_first true y e j d c m = all_keep qs j k c (elim_makes (pattern_meaning g f q) l j d (pattern_good q y))
      by_first false y e j d c m = m e

-- ---- the laws

pub keeps_nothing : (g : Signature Term) (s f : Solutions) (fuel depth : ℕ) (a : Term) (q : ResolvedClause) (c : CoreClause Term) → list_any is_absurd q.patterns ≡ true → LeftOf g s f fuel depth a q (Gives c.left) → OneNothing (clause_of g c).shapes
keeps_nothing g s f fuel depth a q c e h =
    let U = AnswersWith g f fuel depth in
    let x = then_gives g s fuel U (all_elims g q.function (map (pattern_meaning g q.function) q.patterns) (start a)) (λ l. gives (left_of l)) c.left h in
    let k = all_make g s fuel U q.function q.patterns (start a) x.0 e x.1 in
    subst (λ l. OneNothing (pats_shapes g (pats_vars l.pats) l.pats)) (sym (one_gives x.2)) (one_has g x.0 (pats_vars (pats_values (settled_pats x.0 (pats_in x.0.pats)))) (pats_in x.0.pats) k)

ended : (b d : Bool) → b ≡ false → (b || d) ≡ true → d ≡ true
ended true d x e = absurd cc
ended false d x e = e

-- together with what covering says of the patterns of a program's clauses
pub clauses_ready : ClausesPlain → (g : Signature Term) (s f : Solutions) (fuel depth : ℕ) (a : Term) (qs : List ResolvedClause) (cs : List (CoreClause Term)) → AllByRecursion (λ q. is_ended q ≡ true) qs → ClausesRead g s f fuel depth a qs cs
    → AllReady g (map (clause_of g) cs)
clauses_ready plain g s f fuel depth a qs cs e laws.none = ready.none
clauses_ready plain g s f fuel depth a qs cs e (laws.one {q = q} {c = c} {qs = rs} {cs = ds} h k) =
    ready.one (record { plain = plain g c; right = λ n. keeps_nothing g s f fuel depth a q c (ended (is_some q.right) (list_any is_absurd q.patterns) (sym h.right ∙ ap is_some n) e.0) h.left })
    (clauses_ready plain g s f fuel depth a rs ds e.1 k)
