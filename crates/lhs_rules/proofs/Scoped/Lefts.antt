-- When the left side so far is in scope; its context, a pattern and a projection more keep it so.
use Rattle.std.proofs.Common.{◌≡◌, ◌+◌, ◌-◌, ◌<◌, ◌≤◌, sym, subst, arith}
use Rattle.std.proofs.lemmas.Option.{slice_get_within}
use Rattle.std.specs.Prelude.{ℕ, List, [], ◌∷◌, length, map, sum, Some, zero, suc}
use Rattle.std.specs.List.{AllByRecursion}
use Rattle.core_rules.specs.declared.Flag.{Flag}
use Rattle.core_rules.specs.Term.{Term, Var, Pi, Def, Fam}
use Rattle.core_rules.specs.Substitution.{value_at}
use Rattle.core_rules.specs.Signature.{Telescope, Context, Signature, CorePats, Pat, VarPat, SolvedPat, DottedPat, ConPat, AbsurdPat, ProjectionPat, NoPat, AndPat, Origin, Written, Braces, Without, defs, con_counts, field_counts, places}
use Rattle.core_rules.specs.Elimination.{Elim, Arg, Field, args}
use Rattle.core_rules.specs.InScope.{InScope, SignatureInScope, SolutionsInScope}
use Rattle.core_rules.specs.ScopeLaws.{ElimInScope, AnswerInScope, ContextInScope}
use Rattle.core_rules.specs.Heads.{Solutions, Answer, Form}
use Rattle.core_rules.specs.UnifierAnswers.{Unifier}
use Rattle.core_rules.proofs.Scope.Changed.{Each, shift-in_scope}
use Rattle.core_rules.proofs.Scope.Declared.{all_append, elims-in_scope, projected-in_scope}
use Rattle.core_rules.proofs.Scope.HeadForms.{heads-in_scope}
use Rattle.core_rules.proofs.Typing.Scoped.{length-places}
use Rattle.kernel_rules.specs.TermReading.{arguments_for}
use Rattle.kernel_rules.proofs.Sound.{arguments-are}
use Rattle.need_rules.specs.Needs.{OwnField, own_field}
use Rattle.match_rules.specs.Covering.{elim_map}
use Rattle.lhs_rules.specs.Spots.{Placed, Spot, AtVar, AtValue, AtCon, Taken, Sketch, SketchShape, Left, raised, raised_elim, left_term, own_types, taken, with_pat, projected}
use Rattle.lhs_rules.specs.Rules.{field_type}
use Rattle.lhs_rules.proofs.Steps.{HeadIs}
use Rattle.lhs_rules.proofs.Families.{own_field_is}
use Rattle.lhs_rules.proofs.Kept.{AllShapes}

module _ (g : Signature Term) (M : ℕ → ℕ → Type 0) where
  abbrev pub In : ℕ → Term → Type 0
  In n t = InScope g M n t

  pub at_same : (n m : ℕ) (t : Term) → n ≡ m → In n t → In m t
  at_same n m t e h = subst (λ n. In n t) e h

  -- ---- patterns by spots: their constructors and fields are declared

  abbrev mutual
    pub SketchIn : SketchShape → Type 0
    SketchIn (VarPat j) = Unit {0}
    SketchIn (SolvedPat v) = Unit {0}
    SketchIn (DottedPat v) = Unit {0}
    SketchIn (ConPat k ps) = (k < sum (con_counts g)) × SketchesIn ps
    SketchIn AbsurdPat = Unit {0}
    SketchIn (ProjectionPat f) = f < sum (field_counts g)

    pub SketchesIn : CorePats ℕ → Type 0
    SketchesIn NoPat = Unit {0}
    SketchesIn (AndPat (Pat s o b) ps) = SketchIn s × SketchesIn ps

  abbrev pub PatIn : Sketch → Type 0
  PatIn (Pat s o b) = SketchIn s

  pub sketches_in : (ps : CorePats ℕ) → AllShapes SketchIn ps → SketchesIn ps
  sketches_in NoPat h = tt
  sketches_in (AndPat (Pat s o b) ps) h = (h.0, sketches_in ps h.1)

  -- ---- the left side so far

  abbrev pub PlacedIn : ℕ → Placed → Type 0
  PlacedIn n v = (v.outer ≤ n) × In v.outer v.value × In v.outer v.ty

  -- in a context of n entries
  abbrev pub SpotIn : ℕ → Spot → Type 0
  SpotIn n (AtVar i) = i < n
  SpotIn n (AtValue v) = PlacedIn n v
  SpotIn n AtCon = Unit {0}

  abbrev pub TakenIn : ℕ → Taken → Type 0
  TakenIn n e = (e.outer ≤ n) × ElimInScope g M e.outer e.it

  pub record LeftIn (l : Left) : Type 0 where
    pub context : ContextInScope g M l.context
    pub spine : AllByRecursion (TakenIn (length l.context)) l.spine
    pub spots : AllByRecursion (SpotIn (length l.context)) l.spots
    pub pats : AllByRecursion PatIn l.pats
    pub ty : In (length l.context) l.ty

  -- ---- terms in the whole context

  pub raised-in : (c : Context Term) (n : ℕ) (t : Term) → n ≤ length c → In n t → In (length c) (raised c n t)
  raised-in c n t l h = at_same (n + (length c - n)) (length c) (raised c n t) (omega arith) (shift-in_scope g M n 0 (length c - n) t h)

  pub elim-in : (c : Context Term) (e : Taken) → TakenIn (length c) e → ElimInScope g M (length c) (raised_elim c e)
  elim-in c e h = by_elim e.it h.1
    where
      by_elim : (x : Elim) → ElimInScope g M e.outer x → ElimInScope g M (length c) (elim_map (raised c e.outer) x)
      by_elim (Arg b u) k = raised-in c e.outer u h.0 k
      by_elim (Field f) k = k

  spine-in : (c : Context Term) (es : List Taken) → AllByRecursion (TakenIn (length c)) es → AllByRecursion (ElimInScope g M (length c)) (map (raised_elim c) es)
  spine-in c [] h = tt
  spine-in c (e ∷ es) h = (elim-in c e h.0, spine-in c es h.1)

  pub left_term-in : (f : ℕ) (l : Left) → f < length (defs g) → LeftIn l → In (length l.context) (left_term f l)
  left_term-in f l d h = elims-in_scope g M (length l.context) (Def f) (map (raised_elim l.context) l.spine) d (spine-in l.context l.spine h.spine)

  -- the type of a variable, in the context of its own entry
  pub own_type-in : (c : Context Term) (k : ℕ) → ContextInScope g M c → k < length c → In (length c - (k + 1)) (value_at (own_types c) k)
  own_type-in [] k h l = absurd (omega (arith, l))
  own_type-in (e ∷ c) zero h l = at_same (length c) (suc (length c) - (0 + 1)) e.ty (omega arith) h.0
  own_type-in (e ∷ c) (suc k) h l =
      at_same (length c - (k + 1)) (suc (length c) - (suc k + 1)) (value_at (own_types c) k) (omega arith) (own_type-in c k h.1 (omega (arith, l)))

  -- ---- in a context of one entry more

  more-spots : (n : ℕ) (ss : List Spot) → AllByRecursion (SpotIn n) ss → AllByRecursion (SpotIn (suc n)) ss
  more-spots n [] h = tt
  more-spots n (AtVar i ∷ ss) h = (let l = h.0 in omega (arith, l), more-spots n ss h.1)
  more-spots n (AtValue v ∷ ss) h = ((let l = h.0.0 in omega (arith, l), h.0.1, h.0.2), more-spots n ss h.1)
  more-spots n (AtCon ∷ ss) h = (tt, more-spots n ss h.1)

  more-spine : (n : ℕ) (es : List Taken) → AllByRecursion (TakenIn n) es → AllByRecursion (TakenIn (suc n)) es
  more-spine n [] h = tt
  more-spine n (e ∷ es) h = ((let l = h.0.0 in omega (arith, l), h.0.1), more-spine n es h.1)

  pub with_pat-in : (l : Left) (s : SketchShape) (o : Origin) (b : Braces) → LeftIn l → SketchIn s → LeftIn (with_pat l s o b)
  with_pat-in l s o b h k = record { context = h.context; spine = h.spine; spots = h.spots; pats = all_append PatIn l.pats (Pat s o b ∷ []) h.pats (k, tt); ty = h.ty }

  -- the arguments of a spine in scope
  args-each : (n : ℕ) (c : Telescope Term) (us : List Term) → length us ≡ length c → AllByRecursion (ElimInScope g M n) (args c us) → Each g M n us
  args-each n [] [] e h = tt
  args-each n [] (u ∷ us) e h = absurd (omega (arith, e))
  args-each n (x ∷ c) [] e h = absurd (omega (arith, e))
  args-each n (x ∷ c) (u ∷ us) e h = (h.0, args-each n c us (omega (arith, e)) h.1)

  pub arguments-in : (n : ℕ) (c : Telescope Term) (es : List Elim) (us : List Term) → arguments_for c es ≡ Some us → AllByRecursion (ElimInScope g M n) es → (length us ≡ length c) × Each g M n us
  arguments-in n c es us e h =
      let f = arguments-are c es us (sym e) in
      (f.as_many, args-each n c us f.as_many (subst (AllByRecursion (ElimInScope g M n)) f.is h))

  module _ (s : Solutions) (fuel : ℕ) (U : Unifier) (sig : SignatureInScope g M) (sol : SolutionsInScope g M s) where
    pub head-in : (n : ℕ) (a : Term) (w : Answer) → In n a → HeadIs g s fuel U a w → AnswerInScope g M n w
    head-in n a w h k = heads-in_scope g M n s sig sol k.heads h tt

    pub taken-in : (l : Left) (b : Flag) (x : ℕ) (a t : Term) (o : Origin) → LeftIn l → HeadIs g s fuel U l.ty (Form (Pi b x a t) []) → LeftIn (taken l b x a t o)
    taken-in l b x a t o h k =
        let n = length l.context in
        let i = head-in n l.ty (Form (Pi b x a t) []) h.ty k in
        record {
          context = (i.0.0, h.context);
          spine = all_append (TakenIn (suc n)) l.spine (record { it = Arg b (Var 0); outer = n + 1 } ∷ []) (more-spine n l.spine h.spine) ((omega arith, omega arith), tt);
          spots = all_append (SpotIn (suc n)) l.spots (AtVar n ∷ []) (more-spots n l.spots h.spots) (omega arith, tt);
          pats = h.pats;
          ty = at_same (n + 1) (suc n) t (omega arith) i.0.1;
        }

    pub projected-in : (f h d : ℕ) (es : List Elim) (is : OwnField) (l : Left) → f < length (defs g) → LeftIn l → HeadIs g s fuel U l.ty (Form (Fam d) es) → own_field g d es h ≡ Some is
        → LeftIn (projected l is.field (field_type g f l is))
    projected-in f h d es is l def i k e =
        let n = length l.context in
        let x = own_field_is g d es h is e in
        let w = head-in n l.ty (Form (Fam d) es) i.ty k in
        let ps = arguments-in n x.field.decl.params es x.params x.arguments w.1 in
        let ty = projected-in_scope g M sig h n x.params (left_term f l) x.field ps.1 (left_term-in f l def i) in
        let below : h < sum (field_counts g) = rw length-places at (slice_get_within (places 0 (field_counts g)) h (x.field.fam, x.field.at) x.field.place) in
        subst (λ (is : OwnField). LeftIn (projected l is.field (field_type g f l is))) (sym x.are)
        (record {
          context = i.context;
          spine = all_append (TakenIn n) l.spine (record { it = Field h; outer = n } ∷ []) i.spine ((omega arith, below), tt);
          spots = i.spots;
          pats = all_append PatIn l.pats (Pat (ProjectionPat h) Written Without ∷ []) i.pats (below, tt);
          ty = ty;
        })
