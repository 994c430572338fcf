-- The type after the colon, read part by part.
use Rattle.std.proofs.Common.{◌≡◌, ℕ, List, [], ◌∷◌, ◌++◌, refl, sym, ap, subst, ◌∙◌}
use Rattle.std.specs.Prelude.{Option, Some, None}
use Rattle.core_rules.specs.Term.{Term, Var, Sort, Pi, Lam, App, Def, Fam, Con, Proj, Meta}
use Rattle.core_rules.specs.Signature.{FamDecl, Signature, Telescope}
use Rattle.core_rules.specs.Heads.{Answer, Form, Blocked}
use Rattle.term_pool.specs.Pool.{Pool}
use Rattle.kernel_rules.specs.Outcome.{Outcome, Gives, Refuses}
use Rattle.el_outside.specs.declared.place.Pos.{Pos}
use Rattle.resolved_tree.specs.declared.resolved.ResolvedBinder.{ResolvedBinder}
use Rattle.resolved_tree.specs.declared.resolved.ResolvedExpr.{ResolvedExpr}
use Rattle.written_rules.specs.Asking.{Is}
use Rattle.written_rules.specs.Rules.{ArgMeaning, BinderMeaning, Name}
use Rattle.written_rules.specs.Expressions.{ExprMeaning, an_application, expr_meaning}
use Rattle.elab_machine.specs.Writer.{level_of}
use Rattle.data_rules.specs.Refusals.{Refusal, BadSort, at}
use Rattle.data_rules.specs.Reading.{Reads, ◌>>=◌, gives}
use Rattle.data_rules.specs.Rules.{heading, indexed, inside, known_family, params}
use Rattle.data_rules.specs.Shapes.{Shown, level_or, telescope}
use Rattle.data_elab.specs.declared.error.DataError.{DataError}
use Rattle.data_elab.specs.declared.reader.Reader.{Reader}
use Rattle.data_elab.specs.Answers.{RefusedBy}
use Rattle.std.specs.Prelude.{Result, Ok, Err}
use Rattle.data_elab.specs.declared.heading.Heading.{Heading}
use Rattle.data_elab.specs.Heading.{AnswersHeading, heading_in}
use Rattle.data_elab.specs.Params.{AreEntered, binders_in}
use Rattle.data_elab.specs.Reader.{IsReady, Grows, Keeps, Over, Read, context_of, over, read_only, signature_of, term_of, values_of}
use Rattle.data_elab.proofs.Kept.{over_kept, over_same}
use Rattle.data_elab.proofs.Reading.{expr-next, expr-refused, expr-refused_next, read-next, refused-first, refused-weaker}

pub application-pos : (g : Signature Term) (p q : Pos) (x : Option Name) (xs : List ArgMeaning) → (an_application g p q x xs).pos ≡ p
application-pos g p q None xs = refl
application-pos g p q (Some x) xs = refl

-- ---- the end of a family's type

abbrev leveled : Pos → Option ℕ → Outcome Refusal ℕ
leveled p None = Refuses (at p BadSort)
leveled p (Some n) = Gives n

level-is : (p : Pos) (w : Answer) → level_or p w ≡ leveled p (level_of w)
level-is p (Form (Sort n) []) = refl
level-is p (Form (Sort n) (e ∷ es)) = refl
level-is p (Form (Var i) es) = refl
level-is p (Form (Pi b x a t) es) = refl
level-is p (Form (Lam b x a t) es) = refl
level-is p (Form (App b t u) es) = refl
level-is p (Form (Def f) es) = refl
level-is p (Form (Fam k) es) = refl
level-is p (Form (Con k ts) es) = refl
level-is p (Form (Proj f t) es) = refl
level-is p (Form (Meta m ts) es) = refl
level-is p (Blocked m t es) = refl

-- ---- the type after the colon

abbrev pub ended : ℕ → Telescope Term → Pos → Shown → Reads (FamDecl Term)
ended x ps p s = Is (level_or p s.end) >>= (λ l. gives (known_family x ps s.entries l))

abbrev pub shown_after : ℕ → ℕ → Telescope Term → Pos → Term × ℕ → Reads (FamDecl Term)
shown_after x room ps p t = telescope p BadSort room t.0 >>= ended x ps p

pub indices-no_type : (o : Over) (x room : ℕ) (m : ExprMeaning) (ps : Telescope Term) (q : Pool) (e : DataError) → RefusedBy q (λ r. Read o (read_only (m.types (inside ps []))) (Refuses r)) e → RefusedBy q (λ r. Read o (indexed x room m ps) (Refuses r)) e
indices-no_type o x room m ps q e h = expr-refused o (m.types (inside ps [])) (shown_after x room ps m.pos) q e h

-- y is the reader after the type, which is id t
module _ {x y : Reader} (rx : IsReady x) (gx : Grows x y) (kx : Keeps x y) (name room : ℕ) (m : ExprMeaning) (p : Pos) (same : m.pos ≡ p) (t n : ℕ) (found : Read (over x) (read_only (m.types (values_of x))) (Gives (term_of y t, n))) where
  abbrev all : Reads (FamDecl Term)
  all = indexed name room m (context_of x)

  here : (r : Outcome Refusal Shown) → Read (over y) (telescope p BadSort room (term_of y t)) r → Read (over x) (telescope m.pos BadSort room (term_of y t)) r
  here r h = subst (λ q. Read (over x) (telescope q BadSort room (term_of y t)) r) (sym same) (subst (λ o. Read o (telescope p BadSort room (term_of y t)) r) (over_kept rx gx kx) h)

  pub indices-no_end : (q : Pool) (e : DataError) → RefusedBy q (λ r. Read (over y) (telescope p BadSort room (term_of y t)) (Refuses r)) e → RefusedBy q (λ r. Read (over x) all (Refuses r)) e
  indices-no_end q e h =
      expr-refused_next (over x) (m.types (values_of x)) (shown_after name room (context_of x) m.pos) (term_of y t, n) found q e
      (refused-first (over x) (telescope m.pos BadSort room (term_of y t)) (ended name (context_of x) m.pos) q e
      (refused-weaker q (λ r. Read (over y) (telescope p BadSort room (term_of y t)) (Refuses r)) (λ r. Read (over x) (telescope m.pos BadSort room (term_of y t)) (Refuses r)) (λ r k. here (Refuses r) k) e h))

  module _ (s : Shown) (h : Read (over y) (telescope p BadSort room (term_of y t)) (Gives s)) where
    after : (r : Outcome Refusal (FamDecl Term)) → Read (over x) (ended name (context_of x) m.pos s) r → Read (over x) all r
    after r k =
        expr-next (over x) (m.types (values_of x)) (shown_after name room (context_of x) m.pos) (term_of y t, n) r found
        (read-next (over x) (telescope m.pos BadSort room (term_of y t)) (ended name (context_of x) m.pos) s r (here (Gives s) h) k)

    level : (w : Option ℕ) → level_of s.end ≡ w → level_or m.pos s.end ≡ leveled m.pos w
    level w e = level-is m.pos s.end ∙ ap (leveled m.pos) e

    pub indices-no_sort : level_of s.end ≡ None → Read (over x) all (Refuses (at p BadSort))
    indices-no_sort e =
        subst (λ q. Read (over x) all (Refuses (at q BadSort))) same
        (after (Refuses (at m.pos BadSort)) (subst (λ v. Read (over x) (Is v >>= (λ l. gives (known_family name (context_of x) s.entries l))) (Refuses (at m.pos BadSort))) (sym (level None e)) refl))

    pub indices-gives : (l : ℕ) → level_of s.end ≡ Some l → (ps : Telescope Term) → ps ≡ context_of x → Read (over x) all (Gives (known_family name ps s.entries l))
    indices-gives l e ps are =
        subst (λ es. Read (over x) all (Gives (known_family name es s.entries l))) (sym are)
        (after (Gives (known_family name (context_of x) s.entries l)) (subst (λ v. Read (over x) (Is v >>= (λ l. gives (known_family name (context_of x) s.entries l))) (Gives (known_family name (context_of x) s.entries l))) (sym (level (Some l) e)) refl))

-- ---- the parameters and the type after the colon

pub heading-no_param : (o : Over) (x room : ℕ) (bs : List BinderMeaning) (m : ExprMeaning) (q : Pool) (e : DataError) → RefusedBy q (λ r. Read o (params bs []) (Refuses r)) e → RefusedBy q (λ r. Read o (heading x room bs m) (Refuses r)) e
heading-no_param o x room bs m q e h = refused-first o (params bs []) (indexed x room m) q e h

-- y is the reader after the parameters
module _ {x y : Reader} (rx : IsReady x) (gx : Grows x y) (empty : context_of x ≡ []) (name room : ℕ) (binders : List ResolvedBinder) (ty : ResolvedExpr) (h : AreEntered x y (params (binders_in x binders) (values_of x))) where
  over_x : over y ≡ over x
  over_x = over_same rx gx h.enters.signature h.enters.limits

  params_are : h.entries ≡ context_of y
  params_are = sym (h.enters.context ∙ ap (λ cs. cs ++ h.entries) empty)

  abbrev whole : Reads (FamDecl Term)
  whole = heading name room (binders_in x binders) (expr_meaning (signature_of x) ty)

  pub heading-after : (r : Outcome Refusal (FamDecl Term)) → Read (over y) (indexed name room (expr_meaning (signature_of y) ty) (context_of y)) r → Read (over x) whole r
  heading-after r k =
      let first : Read (over x) (params (binders_in x binders) []) (Gives h.entries) = subst (λ cs. Read (over x) (params (binders_in x binders) (inside cs [])) (Gives h.entries)) empty h.is in
      let second : Read (over x) (indexed name room (expr_meaning (signature_of x) ty) (context_of y)) r = subst (λ (o : Over). Read o (indexed name room (expr_meaning o.signature ty) (context_of y)) r) over_x k in
      read-next (over x) (params (binders_in x binders) []) (indexed name room (expr_meaning (signature_of x) ty)) h.entries r first
      (subst (λ cs. Read (over x) (indexed name room (expr_meaning (signature_of x) ty) cs) r) (sym params_are) second)

  pub heading-refused : (q : Pool) (e : DataError) → RefusedBy q (λ r. Read (over y) (indexed name room (expr_meaning (signature_of y) ty) (context_of y)) (Refuses r)) e → RefusedBy q (λ r. Read (over x) whole (Refuses r)) e
  heading-refused q e k =
      refused-weaker q (λ r. Read (over y) (indexed name room (expr_meaning (signature_of y) ty) (context_of y)) (Refuses r)) (λ r. Read (over x) whole (Refuses r)) (λ r j. heading-after (Refuses r) j) e k

  pub heading-answers : (q : Pool) (w : Result Heading DataError) → AnswersHeading q (Read (over y) (indexed name room (expr_meaning (signature_of y) ty) (context_of y))) w → AnswersHeading q (Read (over x) whole) w
  heading-answers q (Ok v) k = (k.0, heading-after (Gives (heading_in q v)) k.1)
  heading-answers q (Err e) k = heading-refused q e k
