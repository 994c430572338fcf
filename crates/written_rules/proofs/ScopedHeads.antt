-- What head forms show, what names stand for and what arguments make is in scope.
use Rattle.std.proofs.Common.{◌≡◌, ◌+◌, ℕ, [], ◌∷◌, sym, subst, arith, map}
use Rattle.core_rules.specs.declared.Flag.{Flag}
use Rattle.core_rules.specs.declared.Flag.TheVariants.{Explicit, Implicit}
use Rattle.core_rules.specs.Term.{Term, Var, Sort, Pi, Lam, App, Def, Fam, Con, Proj, Meta}
use Rattle.core_rules.specs.Signature.{Signature}
use Rattle.core_rules.specs.InScope.{InScope, SignatureInScope, SolutionsInScope, any_meta}
use Rattle.core_rules.specs.ScopeLaws.{AnswerInScope}
use Rattle.core_rules.specs.BoundedLaws.{no_solutions}
use Rattle.core_rules.specs.Heads.{Answer, Form, Blocked, Bounded, Within, Out, HeadOf}
use Rattle.core_rules.proofs.Scope.Changed.{shift-in_scope}
use Rattle.core_rules.proofs.Scope.HeadForms.{heads-in_scope}
use Rattle.kernel_rules.specs.Outcome.{Gives}
use Rattle.kernel_rules.proofs.Outcome.{one_gives}
use Rattle.need_rules.specs.Needs.{Need, Explicit as GivenPlain, Given, Insert, Project, End, NotAFunction, NotARecord, NoSuchName, Waits, need_at_end}
use Rattle.el_outside.specs.declared.place.Pos.{Pos}
use Rattle.written_rules.specs.Asking.{Is, Comes}
use Rattle.written_rules.specs.Rules.{Values, Checks, Types, binding, raised, within, shows, not_inserted, uninserted, wanted, function_shown, function_wanted}
use Rattle.written_rules.specs.Laws.{ValuesInScope}
use Rattle.written_rules.proofs.Comes.{comes_gives}

module _ (g : Signature Term) (fuel depth : ℕ) where
  -- a reading of checks, and one of types, gives what is in scope
  abbrev pub GoodChecks : Checks → Type 0
  GoodChecks m = (n : ℕ) (vs : Values) (a t : Term) → ValuesInScope g n vs → InScope g any_meta n a → Comes g fuel depth (m vs a) (Gives t) → InScope g any_meta n t

  abbrev pub GoodTypes : Types → Type 0
  GoodTypes m = (n : ℕ) (vs : Values) (q : Term × ℕ) → ValuesInScope g n vs → Comes g fuel depth (m vs) (Gives q) → InScope g any_meta n q.0

  abbrev pub AnswerIn : ℕ → Answer → Type 0
  AnswerIn n w = AnswerInScope g any_meta n w

  raised-in_scope : (n : ℕ) (vs : Values) → ValuesInScope g n vs → ValuesInScope g (n + 1) (map raised vs)
  raised-in_scope n [] h = tt
  raised-in_scope n (v ∷ vs) h = ((shift-in_scope g any_meta n 0 1 v.value h.0.0, shift-in_scope g any_meta n 0 1 v.ty h.0.1), raised-in_scope n vs h.1)

  pub binding-in_scope : (n x : ℕ) (a : Term) (vs : Values) → InScope g any_meta n a → ValuesInScope g n vs → ValuesInScope g (n + 1) (binding x a vs)
  binding-in_scope n x a vs h k = ((omega arith, shift-in_scope g any_meta n 0 1 a h), raised-in_scope n vs k)

  module _ (sig : SignatureInScope g any_meta) where
    nothing_solved : SolutionsInScope g any_meta no_solutions
    nothing_solved = λ m n t x e. absurd cc

    by_bound : (n : ℕ) (p : Pos) (a : Term) (w : Answer) (b : Bounded) → InScope g any_meta n a → HeadOf g no_solutions a fuel b → Gives w ≡ within p b → AnswerIn n w
    by_bound n p a w (Within v k) h d e = subst (AnswerIn n) (sym (one_gives e)) (heads-in_scope g any_meta n no_solutions sig nothing_solved d.0 h tt)
    by_bound n p a w Out h d e = absurd cc

    pub shown-in_scope : (n : ℕ) (p : Pos) (a : Term) (w : Answer) → InScope g any_meta n a → Comes g fuel depth (shows p a) (Gives w) → AnswerIn n w
    shown-in_scope n p a w h c = by_bound n p a w c.0 h c.1 c.2

    same_answer : (d : Need Checks) (p : Pos) (v w : Answer) → Gives v ≡ not_inserted p w d → v ≡ w
    same_answer (Insert a b) p v w e = absurd cc
    same_answer (GivenPlain m a b) p v w e = one_gives e
    same_answer (Given m a b) p v w e = one_gives e
    same_answer (Project f) p v w e = one_gives e
    same_answer End p v w e = one_gives e
    same_answer (NotAFunction t) p v w e = one_gives e
    same_answer (NotARecord t) p v w e = one_gives e
    same_answer NoSuchName p v w e = one_gives e
    same_answer (Waits m) p v w e = one_gives e

    pub uninserted-same : (p : Pos) (v w : Answer) → Gives v ≡ uninserted p w → v ≡ w
    uninserted-same p v w e = same_answer (need_at_end w) p v w e

    pub wanted-in_scope : (n : ℕ) (p : Pos) (a : Term) (w : Answer) → InScope g any_meta n a → Comes g fuel depth (wanted p a) (Gives w) → AnswerIn n w
    wanted-in_scope n p a w h c =
        let k = comes_gives g fuel depth (shows p a) (λ w. Is (uninserted p w)) w c in
        subst (AnswerIn n) (sym (uninserted-same p w k.0 k.2)) (shown-in_scope n p a k.0 h k.1)

    parts-in_scope : (n : ℕ) (p : Pos) (f : Flag) (w : Answer) (q : Term × Term) → Gives q ≡ function_shown p f w → AnswerIn n w → InScope g any_meta n q.0 × InScope g any_meta (n + 1) q.1
    parts-in_scope n p Explicit (Form (Pi Explicit x a b) []) q e h = subst (λ (q : Term × Term). InScope g any_meta n q.0 × InScope g any_meta (n + 1) q.1) (sym (one_gives e)) (h.0.0, h.0.1)
    parts-in_scope n p Implicit (Form (Pi Implicit x a b) []) q e h = subst (λ (q : Term × Term). InScope g any_meta n q.0 × InScope g any_meta (n + 1) q.1) (sym (one_gives e)) (h.0.0, h.0.1)
    parts-in_scope n p Explicit (Form (Pi Implicit x a b) []) q e h = absurd cc
    parts-in_scope n p Implicit (Form (Pi Explicit x a b) []) q e h = absurd cc
    parts-in_scope n p f (Form (Pi c x a b) (d ∷ es)) q e h = absurd (flagged f c e)
      where
        flagged : (f c : Flag) → Gives q ≡ function_shown p f (Form (Pi c x a b) (d ∷ es)) → ⊥
        flagged Explicit Explicit e = cc
        flagged Explicit Implicit e = cc
        flagged Implicit Explicit e = cc
        flagged Implicit Implicit e = cc
    parts-in_scope n p Explicit (Form (Var i) es) q e h = absurd cc
    parts-in_scope n p Explicit (Form (Sort i) es) q e h = absurd cc
    parts-in_scope n p Explicit (Form (Lam c x a b) es) q e h = absurd cc
    parts-in_scope n p Explicit (Form (App c a b) es) q e h = absurd cc
    parts-in_scope n p Explicit (Form (Def i) es) q e h = absurd cc
    parts-in_scope n p Explicit (Form (Fam i) es) q e h = absurd cc
    parts-in_scope n p Explicit (Form (Con i ts) es) q e h = absurd cc
    parts-in_scope n p Explicit (Form (Proj i a) es) q e h = absurd cc
    parts-in_scope n p Explicit (Form (Meta i ts) es) q e h = absurd cc
    parts-in_scope n p Explicit (Blocked m a es) q e h = absurd cc
    parts-in_scope n p Implicit (Form (Var i) es) q e h = absurd cc
    parts-in_scope n p Implicit (Form (Sort i) es) q e h = absurd cc
    parts-in_scope n p Implicit (Form (Lam c x a b) es) q e h = absurd cc
    parts-in_scope n p Implicit (Form (App c a b) es) q e h = absurd cc
    parts-in_scope n p Implicit (Form (Def i) es) q e h = absurd cc
    parts-in_scope n p Implicit (Form (Fam i) es) q e h = absurd cc
    parts-in_scope n p Implicit (Form (Con i ts) es) q e h = absurd cc
    parts-in_scope n p Implicit (Form (Proj i a) es) q e h = absurd cc
    parts-in_scope n p Implicit (Form (Meta i ts) es) q e h = absurd cc
    parts-in_scope n p Implicit (Blocked m a es) q e h = absurd cc

    pub function-in_scope : (n : ℕ) (p : Pos) (f : Flag) (a : Term) (q : Term × Term) → InScope g any_meta n a → Comes g fuel depth (function_wanted p f a) (Gives q) → InScope g any_meta n q.0 × InScope g any_meta (n + 1) q.1
    function-in_scope n p f a q h c =
        let k = comes_gives g fuel depth (shows p a) (λ w. Is (function_shown p f w)) q c in
        parts-in_scope n p f k.0 q k.2 (shown-in_scope n p a k.0 h k.1)
