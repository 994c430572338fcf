-- What is kept by each step of reading a pattern is kept by all of it, and each shape that is read is as it must be.
use Rattle.std.proofs.Common.{◌≡◌, refl, sym, ap, subst, ◌∙◌}
use Rattle.std.specs.Prelude.{ℕ, ◌+◌, List, [], ◌∷◌, length, map, Option, Some}
use Rattle.core_rules.specs.Term.{Term}
use Rattle.core_rules.specs.Signature.{Branch, Telescope, Signature, CorePats, Pat, VarPat, ConPat, AbsurdPat, NoPat, AndPat}
use Rattle.core_rules.specs.Heads.{Solutions}
use Rattle.core_rules.specs.UnifierAnswers.{Unifier}
use Rattle.kernel_rules.specs.Outcome.{Gives}
use Rattle.kernel_rules.proofs.Outcome.{one_gives}
use Rattle.need_rules.specs.Needs.{Next}
use Rattle.need_rules.specs.Needs as needs
use Rattle.resolved_tree.specs.declared.resolved.ResolvedPattern.{ResolvedPattern, map-ResolvedPattern, roll-ResolvedPattern, out-roll-ResolvedPattern, ind-ResolvedPattern}
use Rattle.resolved_tree.specs.declared.resolved.ResolvedPattern.TheOpen.{ResolvedPattern-F}
use Rattle.lhs_rules.specs.Asking.{gives, Comes}
use Rattle.lhs_rules.specs.Spots.{SketchShape, Left}
use Rattle.lhs_rules.specs.Families.{AtCon}
use Rattle.lhs_rules.specs.Rules.{Visits, Read, PatternMeaning, ElimMeaning, Slot, ReadAll, read_all, visit_all, constructor, absurd_pattern}
use Rattle.lhs_rules.specs.Patterns.{inside, pattern_step, pattern_meaning}
use Rattle.lhs_rules.proofs.Comes.{then_gives}
use Rattle.lhs_rules.proofs.Forms.{pattern_out}
use Rattle.lhs_rules.proofs.Needed.{held_of}
use Rattle.lhs_rules.proofs.Steps.{PutIs, put_left, AlignIs, none, unwritten, written, con_is, absurd_is}

-- each of the patterns has such a shape
abbrev pub AllShapes : (SketchShape → Type 0) → CorePats ℕ → Type 0
AllShapes S NoPat = Unit {0}
AllShapes S (AndPat (Pat s o b) ps) = S s × AllShapes S ps

-- over a signature with solutions and a unifier, in a left side of f: I holds of left sides, S of shapes
module _ (g : Signature Term) (s : Solutions) (fuel : ℕ) (U : Unifier) (f : ℕ) (I : Left → Type 0) (S : SketchShape → Type 0) where
  abbrev pub PutKeeps : Type 0
  PutKeeps = (k i : ℕ) (l : Left) (a : AtCon) (qs : List Slot) (b : Branch Term) → I l → PutIs g s fuel U f k i l a qs b → I (put_left g s fuel U f k i l a qs b)

  abbrev pub ConShapes : Type 0
  ConShapes = (k i : ℕ) (l : Left) (a : AtCon) (qs : List Slot) (b : Branch Term) (ps : CorePats ℕ) → PutIs g s fuel U f k i l a qs b → AllShapes S ps → S (ConPat k ps)

  -- what a pattern does keeps I, and makes a shape
  abbrev pub VisitsKeep : Visits → Type 0
  VisitsKeep v = (j : ℕ) (l : Left) (r : Read) → I l → Comes g s fuel U (v j l) (Gives r) → I r.left × S r.shape

  abbrev pub ElimKeeps : ElimMeaning → Type 0
  ElimKeeps m = (w : PatternMeaning) → held_of m.next ≡ Some w → VisitsKeep w.visits

  abbrev AllKeep : List ElimMeaning → Type 0
  AllKeep [] = Unit {0}
  AllKeep (m ∷ ms) = ElimKeeps m × AllKeep ms

  abbrev SlotsKeep : List Slot → Type 0
  SlotsKeep [] = Unit {0}
  SlotsKeep (q ∷ qs) = VisitsKeep q.visits × SlotsKeep qs

  module _ (variable : (j : ℕ) → S (VarPat j)) (nothing : S AbsurdPat) (con : ConShapes) (put : PutKeeps) where
    stay_keeps : VisitsKeep (λ j l. gives (record { shape = VarPat j; left = l }))
    stay_keeps j l r h c = subst (λ (r : Read). I r.left × S r.shape) (sym (one_gives c)) (h, variable j)

    slots_keep : {ms : List ElimMeaning} {es : Telescope Term} {qs : List Slot} → AllKeep ms → AlignIs g s fuel U ms es qs → SlotsKeep qs
    slots_keep h none = tt
    slots_keep h (unwritten a) = (stay_keeps, slots_keep h a)
    slots_keep h (written w e a) = (h.0 w e, slots_keep h.1 a)

    visit_keeps : (qs : List Slot) (j : ℕ) (l : Left) (r : ReadAll) → SlotsKeep qs → I l → Comes g s fuel U (visit_all qs j l) (Gives r) → I r.left × AllShapes S r.pats
    visit_keeps [] j l r k h c = subst (λ (r : ReadAll). I r.left × AllShapes S r.pats) (sym (one_gives c)) (h, tt)
    visit_keeps (q ∷ qs) j l r k h c =
        let x = then_gives g s fuel U (q.visits j l) _ r c in
        let a = k.0 j l x.0 h x.1 in
        let y = then_gives g s fuel U (visit_all qs (j + 1) x.0.left) (λ rs. gives (read_all (AndPat (Pat x.0.shape q.origin q.braces) rs.pats) rs.left)) r x.2 in
        let b = visit_keeps qs (j + 1) x.0.left y.0 k.1 a.0 y.1 in
        subst (λ (r : ReadAll). I r.left × AllShapes S r.pats) (sym (one_gives y.2)) (b.0, (a.1, b.1))

    con_keeps : (p : _) (k : ℕ) (ms : List ElimMeaning) → AllKeep ms → VisitsKeep (constructor g f p k ms)
    con_keeps p k ms h j l r i c =
        let x = con_is g s fuel U f p k ms j l r c in
        let v = visit_keeps x.slots (length l.spots) (put_left g s fuel U f k x.index l x.at x.slots x.branch) x.rest (slots_keep h x.aligned) (put k x.index l x.at x.slots x.branch i x.put) x.visited in
        subst (λ (r : Read). I r.left × S r.shape) (sym x.is) (v.0, con k x.index l x.at x.slots x.branch x.rest.pats x.put v.1)

    absurd_keeps : (p : _) → VisitsKeep (absurd_pattern g f p)
    absurd_keeps p j l r i c = subst (λ (r : Read). I r.left × S r.shape) (sym (absurd_is g s fuel U f p j l r c)) (i, nothing)

    inside_keeps : (m : ElimMeaning) → ElimKeeps m → VisitsKeep (inside m).visits
    inside_keeps m h = by_next m.next (λ w e. h w e)
      where
        by_next : (n : Next PatternMeaning) → ((w : PatternMeaning) → held_of n ≡ Some w → VisitsKeep w.visits) → VisitsKeep (inside (record { pos = m.pos; next = n })).visits
        by_next (needs.Plain w) h = h w refl
        by_next (needs.Braces w) h = h w refl
        by_next (needs.Named x w) h = h w refl
        by_next (needs.Field x) h = λ j l r i c. absurd cc

    only : (w : PatternMeaning) → VisitsKeep w.visits → (v : PatternMeaning) → ◌≡◌ {A = Option PatternMeaning} (Some w) (Some v) → VisitsKeep v.visits
    only w h v e = let x : w ≡ v = cc in subst (λ v. VisitsKeep v.visits) x h

    abbrev Keeps : ResolvedPattern → Type 0
    Keeps q = ElimKeeps (pattern_meaning g f q)

    abbrev SomePattern : Type 0
    SomePattern = (q : ResolvedPattern) × Keeps q

    all_keep : (qs : List SomePattern) → AllKeep (map (pattern_meaning g f) (map (λ q. q.0) qs))
    all_keep [] = tt
    all_keep (q ∷ qs) = (q.1, all_keep qs)

    form_keeps : (y : ResolvedPattern-F SomePattern) → ElimKeeps (pattern_step g f (map-ResolvedPattern ResolvedPattern ElimMeaning (pattern_meaning g f) (map-ResolvedPattern SomePattern ResolvedPattern (λ q. q.0) y)))
    form_keeps (ResolvedPattern-F.Implicit p q) = only _ (inside_keeps (pattern_meaning g f q.0) q.1)
    form_keeps (ResolvedPattern-F.Named p x q) = only _ (inside_keeps (pattern_meaning g f q.0) q.1)
    form_keeps (ResolvedPattern-F.Project p h) = λ w e. absurd cc
    form_keeps (ResolvedPattern-F.Variable x) = only _ stay_keeps
    form_keeps (ResolvedPattern-F.Con p k qs) = only _ (con_keeps p.pos k (map (pattern_meaning g f) (map (λ q. q.0) qs)) (all_keep qs))
    form_keeps (ResolvedPattern-F.Underscore p) = only _ stay_keeps
    form_keeps (ResolvedPattern-F.Absurd p) = only _ (absurd_keeps p.pos)
    form_keeps (ResolvedPattern-F.Dotted p e) = only _ stay_keeps

    pub pattern_keeps : (q : ResolvedPattern) → Keeps q
    pattern_keeps = ind-ResolvedPattern Keeps (λ x y is. subst ElimKeeps (sym (rolled x)) (subst (λ l. ElimKeeps (pattern_step g f (map-ResolvedPattern ResolvedPattern ElimMeaning (pattern_meaning g f) l))) is (form_keeps y)))
      where
        rolled : (l : ResolvedPattern-F ResolvedPattern) → pattern_meaning g f (roll-ResolvedPattern l) ≡ pattern_step g f (map-ResolvedPattern ResolvedPattern ElimMeaning (pattern_meaning g f) l)
        rolled l = pattern_out g f (roll-ResolvedPattern l) ∙ ap (λ l. pattern_step g f (map-ResolvedPattern ResolvedPattern ElimMeaning (pattern_meaning g f) l)) (out-roll-ResolvedPattern l)
