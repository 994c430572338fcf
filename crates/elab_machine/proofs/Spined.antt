-- Arguments with a term, and spines argument after argument.
use Rattle.std.proofs.Common.{◌≡◌, ◌<◌, ◌≤◌, ℕ, zero, suc, ◌+◌, ◌-◌, List, ◌∷◌, length, map, take, drop, set, refl, sym, ap, subst, ◌∙◌, arith}
use Rattle.std.specs.List.{AllByRecursion}
use Rattle.std.proofs.lemmas.List.{drop-set, take-take, length-drop, length-take-le}
use Rattle.core_rules.specs.Term.{Term, Sort, App}
use Rattle.core_rules.specs.Heads.{Answer}
use Rattle.core_rules.specs.Substitution.{subst as put}
use Rattle.core_rules.proofs.Scope.Declared.{all_taken}
use Rattle.elab_machine.proofs.Items.{all-dropped}
use Rattle.term_pool.specs.Pool.{Pool, Extends, tree}
use Rattle.term_pool.specs.Growth.{Extends-tree, Extends-trans}
use Rattle.term_pool.specs.Placed.{filled, items-stay}
use Rattle.kernel_rules.specs.Outcome.{Outcome, Gives, Refuses, Then, goes_on, stops}
use Rattle.el_outside.specs.declared.place.Pos.{Pos}
use Rattle.need_rules.specs.Needs.{need}
use Rattle.resolved_tree.specs.declared.resolved.ResolvedArg.{ResolvedArg}
use Rattle.written_rules.specs.Refusals.{Refusal}
use Rattle.written_rules.specs.Asking.{Reads, ◌>>=◌}
use Rattle.written_rules.specs.Rules.{Values, Found, ArgMeaning, shows, one_argument, applied, spine}
use Rattle.written_rules.specs.Expressions.{arg_meaning}
use Rattle.written_rules.proofs.Comes.{comes_then, comes_gives}
use Rattle.elab_machine.specs.declared.writer.Writer.{Writer}
use Rattle.elab_machine.specs.declared.error.WrittenError.{WrittenError}
use Rattle.elab_machine.specs.declared.spine.Function as G
use Rattle.elab_machine.specs.Answers.{RefusedBy}
use Rattle.elab_machine.specs.Spine.{args_in, cod_under, found_at, one_step, under_args}
use Rattle.elab_machine.specs.Writer.{IsReady, Grows, Keeps, Over, Read, over, term_of, values_of, signature_of}
use Rattle.elab_machine.proofs.Filling.{filled_none, filled_more}
use Rattle.elab_machine.proofs.Kept.{over_kept, values_kept, term_kept}
use Rattle.elab_machine.proofs.Reading.{read-first, read-next, refused-weaker}

-- ---- one argument

-- what is said of a sort and of a term in the writer v, said of them at x, where v began; w is what v becomes
pub agreed-before : {x v w : Writer} → Grows v w → IsReady x → Grows x v → Keeps x v → (K : Over → Term → Term → Type 0) (a n b : ℕ) → term_of v a ≡ Sort n → b < length x.pool.now.trees → K (over v) (term_of v a) (term_of v b) → K (over x) (Sort n) (term_of x b)
agreed-before {x} {v} l r g k K a n b is low h =
    subst (λ (t : Term). K (over x) (Sort n) t) (term_kept r g k b low)
    (subst (λ (t : Term). K (over x) t (term_of v b)) is (subst (λ (o : Over). K o (term_of v a) (term_of v b)) (over_kept r g k) h))

-- z is the pool after the argument n was read, v after the application m was added
module _ {y z v : Pool} (g : Extends y z) (h : Extends z v) (ts : List ℕ) (low : AllByRecursion (λ i. i < length y.trees) ts) (w : G.Function) (cod : w.cod < length y.trees) (n : ℕ) (arg : n < length z.trees) where
  its_type : put (cod_under y ts w) 0 (tree z n) ≡ filled (map (tree v) (n ∷ take w.under ts)) (tree v w.cod)
  its_type =
      let us : List ℕ = take w.under ts in
      let a : tree v n ≡ tree z n = Extends-tree n h arg in
      let b : map (tree v) us ≡ map (tree y) us = items-stay y v us (Extends-trans g h) (all_taken (λ i. i < length y.trees) w.under ts low) in
      let c : tree v w.cod ≡ tree y w.cod = Extends-tree w.cod (Extends-trans g h) cod in
      filled_more (map (tree y) us) (tree y w.cod) (tree z n)
      ∙ (ap (λ (t : Term). filled (t ∷ map (tree y) us) (tree y w.cod)) (sym a)
      ∙ (ap (λ (rs : List Term). filled (tree v n ∷ rs) (tree y w.cod)) (sym b)
      ∙ ap (filled (map (tree v) (n ∷ us))) (sym c)))

  pub applied-taken : (old : Pool) (t : Term) (a m used : ℕ) → used ≡ w.under + 1 → tree v m ≡ App w.flag t (tree z n)
      → applied w.flag (under_args old t ts a) (tree z n) (cod_under y ts w) ≡ under_args v (tree v m) (take used (n ∷ ts)) w.cod
  applied-taken old t a m used count is =
      let k : used ≡ suc w.under = omega (arith, count) in
      ap (λ (u : Term). found_at u (put (cod_under y ts w) 0 (tree z n))) (sym is)
      ∙ (ap (found_at (tree v m)) its_type
      ∙ ap (λ (i : ℕ). found_at (tree v m) (filled (map (tree v) (take i (n ∷ ts))) (tree v w.cod))) (sym k))

-- ---- the arguments that were taken

pub all-between : {X : Type 0} (P : X → Type 0) (n i : ℕ) (xs : List X) → AllByRecursion P xs → AllByRecursion P (take n (drop i xs))
all-between P n i xs a = all_taken P n (drop i xs) (all-dropped P i xs a)

-- under no arguments
pub under_nothing : (p : Pool) (t : Term) (ts : List ℕ) (n a : ℕ) → n ≡ 0 → under_args p t (take n ts) a ≡ found_at t (tree p a)
under_nothing p t ts n a e = ap (λ (i : ℕ). under_args p t (take i ts) a) e ∙ ap (found_at t) (filled_none (tree p a))

pub count-between : (ts : List ℕ) (i k : ℕ) → k ≤ length ts → length (take (k - i) (drop i ts)) ≡ k - i
count-between ts i k l = length-take-le (k - i) (drop i ts) (omega (arith, length-drop i ts, l))

take_first : (a : ℕ) (ts : List ℕ) (n used : ℕ) → used ≤ n + 1 → take used (a ∷ ts) ≡ take used (a ∷ take n ts)
take_first a ts n zero l = refl
take_first a ts n (suc k) l = ap (λ (us : List ℕ). a ∷ us) (sym (take-take k n ts (omega (arith, l))))

-- one more is put before place i + 1, and so many of it and those after it are left
pub taken-next : (ts new : List ℕ) (a i j k used n : ℕ) → new ≡ set ts i a → i + 1 ≡ j → i < length ts → used ≤ k - j + 1 → n ≡ i + used → take (n - i) (drop i new) ≡ take used (a ∷ take (k - j) (drop j ts))
taken-next ts new a i j k used n is next low count end =
    let e : n - i ≡ used = omega (arith, end) in
    ap (λ (us : List ℕ). take (n - i) (drop i us)) is
    ∙ (ap (λ (us : List ℕ). take (n - i) us) (drop-set ts i a low)
    ∙ (ap (λ (m : ℕ). take m (a ∷ drop (i + 1) ts)) e
    ∙ (ap (λ (m : ℕ). take used (a ∷ drop m ts)) next ∙ take_first a (drop j ts) (k - j) used count)))

-- ---- spines

module _ {A B C : Type 0} (o : Over) (m : Reads A) (k : A → Reads B) (l : B → Reads C) where
  read-both : (b : B) (r : Outcome Refusal C) → Read o (m >>= k) (Gives b) → Read o (l b) r → Read o (m >>= (λ a. k a >>= l)) r
  read-both b r h j =
      let w = comes_gives o.signature o.fuel o.depth m k b h in
      read-next o m (λ a. k a >>= l) w.0 r w.1 (read-next o (k w.0) l b r w.2 j)

  read-stops : (e : Refusal) → Read o (m >>= k) (Refuses e) → Read o (m >>= (λ a. k a >>= l)) (Refuses e)
  read-stops e h = by (comes_then o.signature o.fuel o.depth m k (Refuses e) h)
    where
      by : Then (Read o m) (λ a. Read o (k a)) (Refuses e) → Read o (m >>= (λ a. k a >>= l)) (Refuses e)
      by (goes_on a x y) = read-next o m (λ a. k a >>= l) a (Refuses e) x (read-first o (k a) l e y)
      by (stops d x y) = let same : d ≡ e = cc y in subst (λ (r : Refusal). Read o (m >>= (λ a. k a >>= l)) (Refuses r)) same (read-first o m (λ a. k a >>= l) d x)

-- y is the writer before an argument, x at the head of the spine
module _ {x y : Writer} (ready : IsReady x) (g : Grows x y) (h : Keeps x y) (p q : Pos) (left more : List ResolvedArg) (arg : ResolvedArg) (first : left ≡ arg ∷ more) (s : Found) where
  abbrev this : ArgMeaning
  this = arg_meaning (signature_of x) arg

  step_here : (r : Outcome Refusal Found) → Read (over y) (one_step (signature_of y) p q (values_of y) s (arg_meaning (signature_of y) arg)) r → Read (over x) (one_step (signature_of x) p q (values_of x) s this) r
  step_here r i =
      let K : Over → Values → Type 0 = λ o vs. Read o (one_step o.signature p q vs s (arg_meaning o.signature arg)) r in
      subst (λ (vs : Values). K (over x) vs) (values_kept ready g h) (subst (λ (o : Over). K o (values_of y)) (over_kept ready g h) i)

  whole : (r : Outcome Refusal Found) → Read (over x) (spine (signature_of x) p q (values_of x) (this ∷ args_in x more) s) r → Read (over x) (spine (signature_of x) p q (values_of x) (args_in x left) s) r
  whole r i = subst (λ (l : List ResolvedArg). Read (over x) (spine (signature_of x) p q (values_of x) (args_in x l) s) r) (sym first) i

  abbrev by_head : Answer → Reads Found
  by_head w = one_argument (signature_of x) p q (values_of x) s this (need (signature_of x) w this.next)

  pub args-next : (t : Found) → Read (over y) (one_step (signature_of y) p q (values_of y) s (arg_meaning (signature_of y) arg)) (Gives t)
      → (r : Outcome Refusal Found) → Read (over x) (spine (signature_of x) p q (values_of x) (args_in x more) t) r → Read (over x) (spine (signature_of x) p q (values_of x) (args_in x left) s) r
  args-next t i r j = whole r (read-both (over x) (shows p s.ty) by_head (spine (signature_of x) p q (values_of x) (args_in x more)) t r (step_here (Gives t) i) j)

  pub args-refused : (l : Pool) (d : WrittenError) → RefusedBy l (λ r. Read (over y) (one_step (signature_of y) p q (values_of y) s (arg_meaning (signature_of y) arg)) (Refuses r)) d
      → RefusedBy l (λ r. Read (over x) (spine (signature_of x) p q (values_of x) (args_in x left) s) (Refuses r)) d
  args-refused l d i =
      refused-weaker l (λ r. Read (over y) (one_step (signature_of y) p q (values_of y) s (arg_meaning (signature_of y) arg)) (Refuses r)) (λ r. Read (over x) (spine (signature_of x) p q (values_of x) (args_in x left) s) (Refuses r))
      (λ r j. whole (Refuses r) (read-stops (over x) (shows p s.ty) by_head (spine (signature_of x) p q (values_of x) (args_in x more)) r (step_here (Refuses r) j))) d i
