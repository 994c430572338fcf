-- Groups of names, and parameters one after the other.
use Rattle.std.proofs.Common.{◌≡◌, ℕ, List, [], ◌∷◌, ◌++◌, refl, sym, ap, subst, ◌∙◌}
use Rattle.std.proofs.lemmas.List.{append-nil}
use Rattle.core_rules.specs.declared.Flag.{Flag}
use Rattle.core_rules.specs.Term.{Term}
use Rattle.core_rules.specs.Signature.{Telescope}
use Rattle.core_rules.specs.Typing.{entry}
use Rattle.kernel_rules.specs.Outcome.{Outcome, Gives, Refuses, ThenAs, goes_on, stops}
use Rattle.term_pool.specs.Pool.{Pool}
use Rattle.resolved_tree.specs.declared.resolved.ResolvedName.{ResolvedName}
use Rattle.written_rules.specs.Rules.{Values, Types, BinderMeaning, Typed, Untyped}
use Rattle.resolved_tree.specs.declared.resolved.ResolvedBinder.{ResolvedBinder}
use Rattle.written_rules.specs.Expressions.{ids, binder_meaning}
use Rattle.data_rules.specs.Refusals.{Refusal, elab}
use Rattle.data_rules.specs.Reading.{Reads, ◌>>=◌, gives}
use Rattle.data_rules.specs.Rules.{group, inside, params}
use Rattle.data_rules.proofs.Comes.{comes_then, then_comes}
use Rattle.data_elab.specs.declared.reader.Reader.{Reader}
use Rattle.data_elab.specs.declared.error.DataError.{DataError}
use Rattle.data_elab.specs.Answers.{RefusedBy}
use Rattle.data_elab.specs.Reader.{IsReady, Grows, Keeps, Enters, Over, Read, over, read_only, signature_of, term_of, values_of}
use Rattle.data_elab.specs.Params.{AreEntered, IsEntered, binders_in}
use Rattle.data_elab.proofs.Reading.{expr-next, expr-refused, read-first, read-next, refused-weaker}
use Rattle.data_elab.proofs.Kept.{over_same}
use Rattle.data_elab.proofs.Entering.{AreRead, AreSoFar, all-read, kept_enters, more-read, more-so_far, prefixed, read-refused, values_entered}

-- ---- names of one type

pub group-next : {x y z : Reader} (f : Flag) (left more : List ResolvedName) (name : ResolvedName) (ty next : ℕ) (all : Telescope Term) → left ≡ name ∷ more → IsEntered y z f name.id ty next
    → AreSoFar x y (group f (ids left) (term_of y ty)) all → AreSoFar x z (group f (ids more) (term_of z next)) all
group-next {x} {y} {z} f left more name ty next all first h s =
    let one : Telescope Term = entry f name.id (term_of y ty) ∷ [] in
    let split : group f (ids left) (term_of y ty) ≡ one ++ group f (ids more) (term_of z next) =
    ap (λ (xs : List ResolvedName). group f (ids xs) (term_of y ty)) first ∙ ap (λ (t : Term). one ++ group f (ids more) t) (sym h.ty.is) in
    more-so_far one (group f (ids left) (term_of y ty)) (group f (ids more) (term_of z next)) all split s h.enters

pub group-none : (f : Flag) (left : List ResolvedName) (a : Term) → left ≡ [] → group f (ids left) a ≡ []
group-none f left a none = ap (λ (xs : List ResolvedName). group f (ids xs) a) none

-- ---- parameters

-- what follows the type of a binder
abbrev pub after_type : Flag → List ℕ → List BinderMeaning → Values → Term × ℕ → Reads (Telescope Term)
after_type f xs bs vs t = params bs (inside (group f xs t.0) vs) >>= (λ es. gives (group f xs t.0 ++ es))

module _ (o : Over) where
  pub typed-gives : (f : Flag) (xs : List ℕ) (a : Types) (vs : Values) (t : Term × ℕ) → Read o (read_only (a vs)) (Gives t) → Read o (params (Typed f xs a ∷ []) vs) (Gives (group f xs t.0))
  typed-gives f xs a vs t h = expr-next o (a vs) (after_type f xs [] vs) t (Gives (group f xs t.0)) h (ap Gives (sym (append-nil (group f xs t.0))))

  pub typed-refused : (f : Flag) (xs : List ℕ) (a : Types) (vs : Values) (p : Pool) (e : DataError) → RefusedBy p (λ r. Read o (read_only (a vs)) (Refuses r)) e → RefusedBy p (λ r. Read o (params (Typed f xs a ∷ []) vs) (Refuses r)) e
  typed-refused f xs a vs p e h = expr-refused o (a vs) (after_type f xs [] vs) p e h

  pub params-next : (b : BinderMeaning) (bs : List BinderMeaning) (vs : Values) (es : Telescope Term) (r : Outcome Refusal (Telescope Term)) → Read o (params (b ∷ []) vs) (Gives es) → Read o (params bs (inside es vs)) r → Read o (params (b ∷ bs) vs) (prefixed es r)
  params-next (Typed f xs a) bs vs es r h k = on (comes_then o.signature o.fuel o.depth elab (a vs) (after_type f xs [] vs) (Gives es) h)
    where
      last : (fs : Telescope Term) (q : Outcome Refusal (Telescope Term)) → Read o (params bs (inside fs vs)) q → Read o (params bs (inside fs vs) >>= (λ es. gives (fs ++ es))) (prefixed fs q)
      last fs (Gives gs) k = read-next o (params bs (inside fs vs)) (λ es. gives (fs ++ es)) gs (Gives (fs ++ gs)) k refl
      last fs (Refuses e) k = read-first o (params bs (inside fs vs)) (λ es. gives (fs ++ es)) e k

      on : ThenAs elab (Read o (a vs)) (λ t. Read o (after_type f xs [] vs t)) (Gives es) → Read o (params (Typed f xs a ∷ bs) vs) (prefixed es r)
      on (goes_on t x y) =
          let j : es ≡ group f xs t.0 ++ [] = cc y in
          let i : es ≡ group f xs t.0 = j ∙ append-nil (group f xs t.0) in
          then_comes o.signature o.fuel o.depth elab (a vs) (after_type f xs bs vs) (prefixed es r)
          (goes_on t x (subst (λ fs. Read o (params bs (inside fs vs) >>= (λ es. gives (fs ++ es))) (prefixed es r)) i (last es r k)))
      on (stops e x y) = absurd cc
  params-next (Untyped q f x) bs vs es r h k = absurd cc

  pub params-first : (b : BinderMeaning) (bs : List BinderMeaning) (vs : Values) (e : Refusal) → Read o (params (b ∷ []) vs) (Refuses e) → Read o (params (b ∷ bs) vs) (Refuses e)
  params-first (Typed f xs a) bs vs e h = on (comes_then o.signature o.fuel o.depth elab (a vs) (after_type f xs [] vs) (Refuses e) h)
    where
      on : ThenAs elab (Read o (a vs)) (λ t. Read o (after_type f xs [] vs t)) (Refuses e) → Read o (params (Typed f xs a ∷ bs) vs) (Refuses e)
      on (goes_on t x y) = absurd cc
      on (stops d x y) = then_comes o.signature o.fuel o.depth elab (a vs) (after_type f xs bs vs) (Refuses e) (stops d x y)
  params-first (Untyped q f x) bs vs e h = h

-- the group of a binder is entered after its type is read
pub typed-entered : {x y z : Reader} → IsReady x → Grows x y → Keeps x y → (f : Flag) (xs : List ℕ) (a : Types) (t n : ℕ) → Read (over x) (read_only (a (values_of x))) (Gives (term_of y t, n)) → Enters y z (group f xs (term_of y t))
    → AreEntered x z (params (Typed f xs a ∷ []) (values_of x))
typed-entered {x} {y} {z} r g k f xs a t n h e = record {
  entries = group f xs (term_of y t);
  enters = kept_enters r g k (group f xs (term_of y t)) e;
  is = typed-gives (over x) f xs a (values_of x) (term_of y t, n) h;
}

-- y is the reader before the binder b
module _ {x y : Reader} (rx : IsReady x) (gx : Grows x y) (left more : List ResolvedBinder) (b : ResolvedBinder) (first : left ≡ b ∷ more) (all : Reads (Telescope Term))
    (s : AreRead x y (params (binders_in x left) (values_of y)) all) where
  over_x : over y ≡ over x
  over_x = over_same rx gx s.enters.signature s.enters.limits

  abbrev B : BinderMeaning
  B = binder_meaning (signature_of x) b

  pub param-read : {z : Reader} → AreEntered y z (params (binder_meaning (signature_of y) b ∷ []) (values_of y)) → AreRead x z (params (binders_in x more) (values_of z)) all
  param-read h =
      let es = h.entries in
      let vs = values_of y in
      let one : Read (over x) (params (B ∷ []) vs) (Gives es) = subst (λ (o : Over). Read o (params (binder_meaning o.signature b ∷ []) vs) (Gives es)) over_x h.is in
      more-read es (params (binders_in x left) vs) (params (binders_in x more) _) all s h.enters
      (λ r k. subst (λ (bs : List ResolvedBinder). Read (over x) (params (binders_in x bs) vs) (prefixed es r)) (sym first)
      (params-next (over x) B (binders_in x more) vs es r one (subst (λ (us : Values). Read (over x) (params (binders_in x more) us) r) (values_entered es h.enters) k)))

  pub param-refused : (p : Pool) (e : DataError) → RefusedBy p (λ r. Read (over y) (params (binder_meaning (signature_of y) b ∷ []) (values_of y)) (Refuses r)) e → RefusedBy p (λ r. Read (over x) all (Refuses r)) e
  param-refused p e h =
      let vs = values_of y in
      read-refused (params (binders_in x left) vs) all s p e
      (refused-weaker p (λ r. Read (over y) (params (binder_meaning (signature_of y) b ∷ []) vs) (Refuses r)) (λ r. Read (over x) (params (binders_in x left) vs) (Refuses r))
      (λ r k. subst (λ (bs : List ResolvedBinder). Read (over x) (params (binders_in x bs) vs) (Refuses r)) (sym first)
      (params-first (over x) B (binders_in x more) vs r (subst (λ (o : Over). Read o (params (binder_meaning o.signature b ∷ []) vs) (Refuses r)) over_x k))) e h)

pub params-read : {x y : Reader} (left : List ResolvedBinder) (all : Reads (Telescope Term)) → left ≡ [] → AreRead x y (params (binders_in x left) (values_of y)) all → AreEntered x y all
params-read {x} {y} left all none s =
    let base : Read (over x) (params [] (values_of y)) (Gives []) = refl in
    all-read (params (binders_in x left) (values_of y)) all (subst (λ (bs : List ResolvedBinder). Read (over x) (params (binders_in x bs) (values_of y)) (Gives [])) (sym none) base) s
