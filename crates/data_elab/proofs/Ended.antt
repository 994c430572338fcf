-- The function types that a type shows, one after the other.
use Rattle.std.proofs.Common.{◌≡◌, ◌<◌, ℕ, zero, suc, List, [], ◌∷◌, ◌++◌, append_assoc, length, refl, sym, ap, subst, ◌∙◌}
use Rattle.std.specs.Prelude.{Some, None}
use Rattle.std.proofs.lemmas.List.{append-nil}
use Rattle.core_rules.specs.Term.{Term, Var, Sort, Pi, Lam, App, Def, Fam, Con, Proj, Meta}
use Rattle.core_rules.specs.Signature.{Entry, Telescope}
use Rattle.core_rules.specs.Typing.{entry}
use Rattle.core_rules.specs.Mapped.{AllEntries, telescope_map}
use Rattle.core_rules.specs.Heads.{Answer, Form, Blocked}
use Rattle.term_pool.specs.Pool.{Pool}
use Rattle.kernel_rules.specs.Outcome.{Outcome, Gives, Refuses}
use Rattle.el_outside.specs.declared.place.Pos.{Pos}
use Rattle.written_rules.specs.Rules.{shows}
use Rattle.elab_machine.proofs.Entered.{entries-join, telescope-join}
use Rattle.data_rules.specs.Refusals.{Refusal, Kind, at}
use Rattle.data_rules.specs.Reading.{Reads, ◌>>=◌, gives, refused}
use Rattle.data_rules.specs.Shapes.{Shown, behind, by_head, telescope}
use Rattle.data_elab.specs.declared.error.DataError.{DataError}
use Rattle.data_elab.specs.declared.reader.Reader.{Reader}
use Rattle.data_elab.specs.Answers.{RefusedBy, refused_at}
use Rattle.data_elab.specs.declared.shapes.Tested.{Tested}
use Rattle.data_elab.specs.declared.shapes.Tested.TheVariants as T
use Rattle.data_elab.specs.Shapes.{Parts, function_of, kind_of, refusal_of}
use Rattle.data_elab.specs.Reader.{IsReady, Grows, Keeps, Over, Read, over, read_only, term_of}
use Rattle.data_elab.proofs.Kept.{over_kept}
use Rattle.data_elab.proofs.Reading.{expr-next, expr-refused, read-first, read-next, refused-weaker}

-- ---- by a head form

pub head-none : (w : Answer) → function_of w ≡ None → (below : Term → Reads Shown) → by_head w below ≡ gives (record { entries = []; end = w })
head-none (Form (Pi b x a t) []) h below = absurd cc
head-none (Form (Pi b x a t) (e ∷ es)) h below = refl
head-none (Form (Var i) es) h below = refl
head-none (Form (Sort n) es) h below = refl
head-none (Form (Lam b x a t) es) h below = refl
head-none (Form (App b t u) es) h below = refl
head-none (Form (Def f) es) h below = refl
head-none (Form (Fam k) es) h below = refl
head-none (Form (Con k ts) es) h below = refl
head-none (Form (Proj f t) es) h below = refl
head-none (Form (Meta m ts) es) h below = refl
head-none (Blocked m t es) h below = refl

abbrev pub function_shown : Parts → (Term → Reads Shown) → Reads Shown
function_shown t below = below t.cod >>= (λ s. gives (behind t.flag t.name t.dom s))

pub head-some : (w : Answer) (t : Parts) → function_of w ≡ Some t → (below : Term → Reads Shown) → by_head w below ≡ function_shown t below
head-some (Form (Pi b x a c) []) t h below = let e : record { flag = b; name = x; dom = a; cod = c } ≡ t = cc h in ap (λ (s : Parts). function_shown s below) e
head-some (Form (Pi b x a c) (e ∷ es)) t h below = absurd cc
head-some (Form (Var i) es) t h below = absurd cc
head-some (Form (Sort n) es) t h below = absurd cc
head-some (Form (Lam b x a c) es) t h below = absurd cc
head-some (Form (App b s u) es) t h below = absurd cc
head-some (Form (Def f) es) t h below = absurd cc
head-some (Form (Fam k) es) t h below = absurd cc
head-some (Form (Con k ts) es) t h below = absurd cc
head-some (Form (Proj f s) es) t h below = absurd cc
head-some (Form (Meta m ts) es) t h below = absurd cc
head-some (Blocked m s es) t h below = absurd cc

-- ---- what is shown, behind entries

abbrev pub before : Telescope Term → Outcome Refusal Shown → Outcome Refusal Shown
before es (Gives s) = Gives (record { entries = es ++ s.entries; end = s.end })
before es (Refuses e) = Refuses e

before-none : (r : Outcome Refusal Shown) → before [] r ≡ r
before-none (Gives s) = refl
before-none (Refuses e) = refl

before-twice : (es fs : Telescope Term) (r : Outcome Refusal Shown) → before es (before fs r) ≡ before (es ++ fs) r
before-twice es fs (Gives s) = ap (λ ds. Gives (record { entries = ds; end = s.end })) (sym (append_assoc es fs s.entries))
before-twice es fs (Refuses e) = refl

module _ (o : Over) (p : Pos) (k : Kind) where
  pub type-refused : (n : ℕ) (a : Term) (q : Pool) (e : DataError) → RefusedBy q (λ r. Read o (read_only (shows p a)) (Refuses r)) e → RefusedBy q (λ r. Read o (telescope p k n a) (Refuses r)) e
  unfolding telescope
  type-refused zero a q e h = expr-refused o (shows p a) (λ w. by_head w (λ t. refused p k)) q e h
  type-refused (suc n) a q e h = expr-refused o (shows p a) (λ w. by_head w (telescope p k n)) q e h

  ends-by : (w : Answer) (below : Term → Reads Shown) → function_of w ≡ None → Read o (by_head w below) (Gives (record { entries = []; end = w }))
  ends-by w below f = subst (λ m. Read o m (Gives (record { entries = []; end = w }))) (sym (head-none w f below)) refl

  pub type-ends : (n : ℕ) (a : Term) (w : Answer) → Read o (read_only (shows p a)) (Gives w) → function_of w ≡ None → Read o (telescope p k n a) (Gives (record { entries = []; end = w }))
  unfolding telescope
  type-ends zero a w h f = expr-next o (shows p a) (λ w. by_head w (λ t. refused p k)) w _ h (ends-by w (λ t. refused p k) f)
  type-ends (suc n) a w h f = expr-next o (shows p a) (λ w. by_head w (telescope p k n)) w _ h (ends-by w (telescope p k n) f)

  module _ (a : Term) (w : Answer) (t : Parts) (h : Read o (read_only (shows p a)) (Gives w)) (f : function_of w ≡ Some t) where
    pub type-many : Read o (telescope p k zero a) (Refuses (at p k))
    unfolding telescope
    type-many = expr-next o (shows p a) (λ w. by_head w (λ t. refused p k)) w _ h (subst (λ m. Read o m (Refuses (at p k))) (sym (head-some w t f (λ t. refused p k))) refl)

    abbrev one : Telescope Term
    one = entry t.flag t.name t.dom ∷ []

    last : (m : Reads Shown) (r : Outcome Refusal Shown) → Read o m r → Read o (m >>= (λ s. gives (behind t.flag t.name t.dom s))) (before one r)
    last m (Gives s) j = read-next o m (λ s. gives (behind t.flag t.name t.dom s)) s _ j refl
    last m (Refuses e) j = read-first o m (λ s. gives (behind t.flag t.name t.dom s)) e j

    pub type-next : (n : ℕ) (r : Outcome Refusal Shown) → Read o (telescope p k n t.cod) r → Read o (telescope p k (suc n) a) (before one r)
    unfolding telescope
    type-next n r j =
        expr-next o (shows p a) (λ w. by_head w (telescope p k n)) w (before one r) h
        (subst (λ m. Read o m (before one r)) (sym (head-some w t f (telescope p k n))) (last (telescope p k n t.cod) r j))

-- ---- the loop: x is the reader at its start, y the one before a head form

abbrev pub Readings : Over → Reads Shown → Pos → Kind → Telescope Term → ℕ → Term → Type 0
Readings o all p k es n a = (r : Outcome Refusal Shown) → Read o (telescope p k n a) r → Read o all (before es r)

pub none-shown : (o : Over) (p : Pos) (k : Kind) (n : ℕ) (a : Term) (es : Telescope Term) → es ≡ [] → Readings o (telescope p k n a) p k es n a
none-shown o p k n a es none r h = subst (λ ds. Read o (telescope p k n a) (before ds r)) (sym none) (subst (λ q. Read o (telescope p k n a) q) (sym (before-none r)) h)

module _ {x y : Reader} (rx : IsReady x) (gx : Grows x y) (kx : Keeps x y) (p : Pos) (k : Kind) (all : Reads Shown) (es : List (Entry ℕ)) (n ty : ℕ) (s : Readings (over x) all p k (telescope_map (term_of y) es) n (term_of y ty)) where
  pub shown-refused : (q : Pool) (e : DataError) → RefusedBy q (λ r. Read (over y) (read_only (shows p (term_of y ty))) (Refuses r)) e → RefusedBy q (λ r. Read (over x) all (Refuses r)) e
  shown-refused q e h =
      refused-weaker q (λ r. Read (over x) (telescope p k n (term_of y ty)) (Refuses r)) (λ r. Read (over x) all (Refuses r)) (λ r j. s (Refuses r) j) e
      (type-refused (over x) p k n (term_of y ty) q e (subst (λ o. RefusedBy q (λ r. Read o (read_only (shows p (term_of y ty))) (Refuses r)) e) (over_kept rx gx kx) h))

  module _ (w : Answer) (h : Read (over y) (read_only (shows p (term_of y ty))) (Gives w)) where
    here : Read (over x) (read_only (shows p (term_of y ty))) (Gives w)
    here = subst (λ o. Read o (read_only (shows p (term_of y ty))) (Gives w)) (over_kept rx gx kx) h

    pub shown-ends : (fs : Telescope Term) → fs ≡ telescope_map (term_of y) es → function_of w ≡ None → Read (over x) all (Gives (record { entries = fs; end = w }))
    shown-ends fs same f =
        let r : Read (over x) all (Gives (record { entries = telescope_map (term_of y) es ++ []; end = w })) = s _ (type-ends (over x) p k n (term_of y ty) w here f) in
        subst (λ ds. Read (over x) all (Gives (record { entries = ds; end = w }))) (append-nil (telescope_map (term_of y) es) ∙ sym same) r

    pub shown-many : (t : Parts) → function_of w ≡ Some t → n ≡ 0 → Read (over x) all (Refuses (at p k))
    shown-many t f z = s (Refuses (at p k)) (subst (λ i. Read (over x) (telescope p k i (term_of y ty)) (Refuses (at p k))) (sym z) (type-many (over x) p k (term_of y ty) w t here f))

    pub shown-next : (t : Parts) → function_of w ≡ Some t → (m : ℕ) → n ≡ suc m → (c : Term) → c ≡ t.cod → (fs : Telescope Term) → fs ≡ telescope_map (term_of y) es ++ entry t.flag t.name t.dom ∷ [] → Readings (over x) all p k fs m c
    shown-next t f m count c cod fs same r j =
        let one : Telescope Term = entry t.flag t.name t.dom ∷ [] in
        let i : Read (over x) (telescope p k m t.cod) r = subst (λ d. Read (over x) (telescope p k m d) r) cod j in
        let u : Read (over x) (telescope p k n (term_of y ty)) (before one r) = subst (λ i. Read (over x) (telescope p k i (term_of y ty)) (before one r)) (sym count) (type-next (over x) p k (term_of y ty) w t here f m r i) in
        subst (λ ds. Read (over x) all (before ds r)) (sym same) (subst (λ q. Read (over x) all q) (before-twice (telescope_map (term_of y) es) one r) (s (before one r) u))

-- ---- one domain more

pub shown-pushed : {y z : Reader} (es new : List (Entry ℕ)) (e : Entry ℕ) → Grows y z → AllEntries (λ t. t < length y.pool.now.trees) es → new ≡ es ++ e ∷ []
    → telescope_map (term_of z) new ≡ telescope_map (term_of y) es ++ entry e.flag e.name (term_of z e.ty) ∷ []
shown-pushed {y} {z} es new e g a pushed = telescope-join y.pool.now z.pool.now es (e ∷ []) new g.extends a pushed

pub shown-within : {y z : Reader} (es new : List (Entry ℕ)) (e : Entry ℕ) → Grows y z → AllEntries (λ t. t < length y.pool.now.trees) es → e.ty < length z.pool.now.trees → new ≡ es ++ e ∷ [] → AllEntries (λ t. t < length z.pool.now.trees) new
shown-within {y} {z} es new e g a l pushed = entries-join y.pool.now z.pool.now es (e ∷ []) new g.extends a (l, tt) pushed

-- the refusal of a type that does not end in what is tested
pub refusal-is : (t : Tested) (q : Pool) (K : Refusal → Type 0) (p : Pos) → K (at p (kind_of t)) → RefusedBy q K (refused_at p (refusal_of t))
refusal-is T.Sort q K p h = (tt, h)
refusal-is T.Family q K p h = (tt, h)
