-- Verdicts under binders, and answers that are verdicts.
use Rattle.std.specs.Prelude.{◌≡◌, ◌≢◌, ℕ, List, [], ◌++◌, refl}
use Rattle.std.proofs.Common.{ap, sym, append_assoc, subst}
use Rattle.std.proofs.lemmas.List.{append-nil}
use Rattle.core_rules.specs.Bounded as B
use Rattle.core_rules.specs.Bounded.{below}
use Rattle.term_pool.specs.Pool.{Pool, tree}
use Rattle.conversion.specs.declared.conv.Conv.{Conv}
use Rattle.conversion.specs.declared.conv.Conv.TheVariants as N
use Rattle.conversion.specs.declared.outcome.Refusal.{Refusal}
use Rattle.conversion.specs.declared.outcome.Refusal.TheVariants.{Differ, OutOfFuel, WaitsFor}
use Rattle.conversion.specs.Conv.{IsVerdict}
use Rattle.conversion.specs.Outcome.{refusal, RefusalStands}
use Rattle.conversion.specs.Pending.{Decides}

pub below_below : (xs ys : List ℕ) (q : B.Verdict) → below xs (below ys q) ≡ below (xs ++ ys) q
below_below xs ys B.Yes = refl
below_below xs ys (B.No t u zs) = ap (B.No t u) (sym (append_assoc xs ys zs))
below_below xs ys B.OutOfFuel = refl
below_below xs ys B.OutOfDepth = refl
below_below xs ys (B.WaitsFor m) = refl

pub below_none : (q : B.Verdict) → below [] q ≡ q
below_none B.Yes = refl
below_none (B.No t u zs) = refl
below_none B.OutOfFuel = refl
below_none B.OutOfDepth = refl
below_none (B.WaitsFor m) = refl

pub below_not_yes : (xs : List ℕ) (q : B.Verdict) → q ≢ B.Yes → below xs q ≢ B.Yes
below_not_yes xs B.Yes n e = n refl
below_not_yes xs (B.No t u zs) n e = cc
below_not_yes xs B.OutOfFuel n e = cc
below_not_yes xs B.OutOfDepth n e = cc
below_not_yes xs (B.WaitsFor m) n e = cc

-- what follows of the verdict
pub verdict_weaker : (V W : B.Verdict → Type 0) (p : Pool) (c : Conv) → ((v : B.Verdict) → V v → W v) → IsVerdict V p c → IsVerdict W p c
verdict_weaker V W p N.Yes f h = f B.Yes h
verdict_weaker V W p (N.No t u xs) f h = record { left = h.left; right = h.right; is = f _ h.is }
verdict_weaker V W p N.OutOfFuel f h = f B.OutOfFuel h
verdict_weaker V W p N.OutOfDepth f h = f B.OutOfDepth h
verdict_weaker V W p (N.Blocked m) f h = f (B.WaitsFor m) h
verdict_weaker V W p N.NoMemory f h = tt

-- the verdict of a refusal
pub decides : (V : B.Verdict → Type 0) (p : Pool) (path : List ℕ) (r : Refusal) (c : Conv) → Decides r path c → RefusalStands p r → V (below path (refusal p r)) → IsVerdict V p c
decides V p path (Differ t u) c e h k = subst (IsVerdict V p) (sym e) (record { left = h.0; right = h.1; is = subst (λ xs. V (B.No (tree p t) (tree p u) xs)) (append-nil path) k })
decides V p path OutOfFuel c e h k = subst (IsVerdict V p) (sym e) k
decides V p path (WaitsFor m) c e h k = subst (IsVerdict V p) (sym e) k
