-- What a line or a family passes: one answer at most, one at least, and what comes of each step.
use Rattle.std.proofs.Common.{◌≡◌, Bool, true, false, List, Ok, Err, refl, sym, ap, subst, ◌∙◌}
use Rattle.std.specs.Prelude.{Result}
use Rattle.core_rules.specs.Term.{Term}
use Rattle.kernel_rules.specs.Outcome.{Outcome, Gives, Refuses}
use Rattle.kernel_rules.proofs.Outcome.{IsOne, one_gives, one_refuses}
use Rattle.kernel_rules.proofs.TermOutcome.{HasOutcome}
use Rattle.el_outside.specs.declared.place.Pos.{Pos}
use Rattle.session_text.specs.declared.error.LoadError.{LoadError}
use Rattle.session_text.specs.declared.error.LoadKind.{LoadKind}
use Rattle.file_load.specs.declared.stop.Stop.{Stop}
use Rattle.file_load.specs.declared.stop.Stop.TheVariants as stop
use Rattle.file_load.specs.Sizes.{are_too_large}
use Rattle.file_load.specs.Passes.{Passes, error_at}
use Rattle.file_load.specs.Judged.{Stops, IsRefused, IsGiven, Measures, Checks}

module _ {E A F B : Type 0} (El : Outcome E A → Type 0) (refusal : E → LoadError) (terms : A → List Term) (Ch : A → Outcome F B → Type 0) (kind_of : F → LoadKind) (p : Pos) where
  abbrev Goes : Result A LoadError → Type 0
  Goes o = Passes El refusal terms Ch kind_of p o

  -- ---- one answer

  module _ (one : IsOne El) where
    value_once : (a b : A) → El (Gives a) → El (Gives b) → a ≡ b
    value_once a b x y = one_gives (one (Gives a) (Gives b) x y)

    not_both : {P : Type 0} (e : E) (a : A) → El (Refuses e) → El (Gives a) → P
    not_both e a x y = let same = one (Refuses e) (Gives a) x y in absurd cc

    size_once : {P : Type 0} (a b : A) → El (Gives a) → El (Gives b) → are_too_large (terms a) ≡ true → are_too_large (terms b) ≡ false → P
    size_once a b x y m n = let more = sym (ap (λ (a : A). are_too_large (terms a)) (value_once a b x y)) ∙ m in absurd (cc (more, n))

    module _ (each : (a : A) → IsOne (Ch a)) where
      check_once : (a b : A) (r q : Outcome F B) → El (Gives a) → El (Gives b) → Ch a r → Ch b q → r ≡ q
      check_once a b r q x y k l = each a r q k (subst (λ (b : A). Ch b q) (sym (value_once a b x y)) l)

      check_not_both : {P : Type 0} (a b : A) (e : F) (v : B) → El (Gives a) → El (Gives b) → Ch a (Refuses e) → Ch b (Gives v) → P
      check_not_both a b e v x y k l = let same = check_once a b (Refuses e) (Gives v) x y k l in absurd cc

      pub passes_once : {u v : Result A LoadError} → Goes u → Goes v → u ≡ v
      passes_once (Passes.unelaborated d x) (Passes.unelaborated e y) = ap (λ (e : E). Err (refusal e)) (one_refuses (one (Refuses d) (Refuses e) x y))
      passes_once (Passes.unelaborated d x) (Passes.too_large b y n) = not_both d b x y
      passes_once (Passes.unelaborated d x) (Passes.unchecked b e y n l) = not_both d b x y
      passes_once (Passes.unelaborated d x) (Passes.passed b v y n l) = not_both d b x y
      passes_once (Passes.too_large a x m) (Passes.unelaborated e y) = not_both e a y x
      passes_once (Passes.too_large a x m) (Passes.too_large b y n) = refl
      passes_once (Passes.too_large a x m) (Passes.unchecked b e y n l) = size_once a b x y m n
      passes_once (Passes.too_large a x m) (Passes.passed b v y n l) = size_once a b x y m n
      passes_once (Passes.unchecked a d x m k) (Passes.unelaborated e y) = not_both e a y x
      passes_once (Passes.unchecked a d x m k) (Passes.too_large b y n) = size_once b a y x n m
      passes_once (Passes.unchecked a d x m k) (Passes.unchecked b e y n l) = ap (λ (e : F). Err (error_at p (kind_of e))) (one_refuses (check_once a b (Refuses d) (Refuses e) x y k l))
      passes_once (Passes.unchecked a d x m k) (Passes.passed b v y n l) = check_not_both a b d v x y k l
      passes_once (Passes.passed a u x m k) (Passes.unelaborated e y) = not_both e a y x
      passes_once (Passes.passed a u x m k) (Passes.too_large b y n) = size_once b a y x n m
      passes_once (Passes.passed a u x m k) (Passes.unchecked b e y n l) = check_not_both b a e u y x l k
      passes_once (Passes.passed a u x m k) (Passes.passed b v y n l) = ap Ok (value_once a b x y)

  -- ---- some answer

  pub passes_some : HasOutcome El → ((a : A) → El (Gives a) → HasOutcome (Ch a)) → (o : Result A LoadError) × Goes o
  passes_some h each = elaborated h.0 h.1
    where
      checked : (a : A) → El (Gives a) → are_too_large (terms a) ≡ false → (r : Outcome F B) → Ch a r → (o : Result A LoadError) × Goes o
      checked a x m (Gives v) k = (_, Passes.passed a v x m k)
      checked a x m (Refuses e) k = (_, Passes.unchecked a e x m k)

      measured : (a : A) → El (Gives a) → (b : Bool) → are_too_large (terms a) ≡ b → (o : Result A LoadError) × Goes o
      measured a x true m = (_, Passes.too_large a x m)
      measured a x false m = let k = each a x in checked a x m k.0 k.1

      elaborated : (r : Outcome E A) → El r → (o : Result A LoadError) × Goes o
      elaborated (Refuses e) x = (_, Passes.unelaborated e x)
      elaborated (Gives a) x = measured a x (are_too_large (terms a)) refl

  -- what passed was elaborated, and accepted by the kernel
  pub was_passed : {a : A} → Goes (Ok a) → El (Gives a) × ((b : B) × Ch a (Gives b))
  was_passed (Passes.passed a b x m k) = (x, (b, k))

  -- ---- steps

  pub not_elaborated : (s : Stop) → Stops (IsRefused El refusal) s → Stops (λ e. Goes (Err e)) s
  not_elaborated (stop.Error e) h = subst (λ (e : LoadError). Goes (Err e)) (sym h.error) (Passes.unelaborated h.refusal h.is)
  not_elaborated stop.NoMemory h = tt

  pub not_measured : (a : A) → El (Gives a) → (s : Stop) → Measures p (terms a) (Err s) → Stops (λ e. Goes (Err e)) s
  not_measured a x (stop.Error e) h = subst (λ (e : LoadError). Goes (Err e)) (sym h.0) (Passes.too_large a x h.1)
  not_measured a x stop.NoMemory h = tt

  pub not_checked : (a : A) → El (Gives a) → are_too_large (terms a) ≡ false → (s : Stop) → Checks (Ch a) kind_of p (Err s) → Stops (λ e. Goes (Err e)) s
  not_checked a x m (stop.Error e) h = subst (λ (e : LoadError). Goes (Err e)) (sym h.error) (Passes.unchecked a h.refusal x m h.is)
  not_checked a x m stop.NoMemory h = tt

  pub all_passed : (a : A) → El (Gives a) → are_too_large (terms a) ≡ false → IsGiven (Ch a) → Goes (Ok a)
  all_passed a x m h = Passes.passed a h.value x m h.is
