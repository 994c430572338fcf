-- The meaning of a pattern by that of its parts.
use Rattle.std.proofs.Common.{◌≡◌, ◌∙◌, ◌<◌, ◌≤◌, ◌+◌, List, [], ◌∷◌, ◌++◌, map, drop, length, get_or, ℕ, Bool, false, ◌||◌, Option, Some, None, reverse, refl, ap, append_assoc, Ok}
use Rattle.std.proofs.lemmas.List.{drop_all, reverse-append}
use Rattle.std.specs.List.{list_any}
use Rattle.source_tree.specs.declared.place.Place.{Place}
use Rattle.source_tree.specs.declared.place.Name.{Name}
use Rattle.source_tree.specs.declared.pattern.Pattern.{Pattern, fold_out-Pattern, out-Pattern, map-Pattern}
use Rattle.source_tree.specs.declared.pattern.Pattern.TheOpen.{Pattern-F}
use Rattle.scope_check.specs.declared.depth.Depth.{Depth}
use Rattle.scope_check.specs.Answers.{and_then}
use Rattle.scope_table.specs.Known.{Known, Texts}
use Rattle.scope_check.specs.Exprs.{Locals}
use Rattle.scope_check.specs.Patterns.{PatternMeaning, absurd_step, is_absurd, absurd_in, con_named, variables_of, variables_named, variables_step, variables, variables_in, pattern_step, pattern, pattern_of, pattern_named, pattern_in, patterns_from, inside}
use Rattle.el_base.proofs.Lists.{drop_next}

any_each : (qs : List Pattern) → list_any (λ b. b) (map is_absurd qs) ≡ list_any is_absurd qs
any_each [] = refl
any_each (q ∷ qs) = rw (any_each qs) refl

pub absurd_at : (q : Pattern) → is_absurd q ≡ absurd_in (out-Pattern q)
unfolding is_absurd
absurd_at q = fold_out-Pattern Bool absurd_step q ∙ by (out-Pattern q)
  where
    by : (l : Pattern-F Pattern) → absurd_step (map-Pattern Pattern Bool is_absurd l) ≡ absurd_in l
    by (Pattern-F.Implicit p r) = refl
    by (Pattern-F.Named p x r) = refl
    by (Pattern-F.Project p x) = refl
    by (Pattern-F.ProjectQualified p x) = refl
    by (Pattern-F.Name p x qs) = any_each qs
    by (Pattern-F.Underscore p) = refl
    by (Pattern-F.Absurd p) = refl
    by (Pattern-F.Dotted p e) = refl

variables_each : (k : Known) (o : Option ℕ) (x : Name) (qs : List Pattern) → variables_of o x (map (variables k) qs) ≡ variables_named k o x qs
variables_each k (Some c) x qs = refl
variables_each k None x [] = refl
variables_each k None x (q ∷ qs) = refl

pub variables_at : (k : Known) (q : Pattern) → variables k q ≡ variables_in k (out-Pattern q)
unfolding variables
variables_at k q = fold_out-Pattern Texts (variables_step k) q ∙ by (out-Pattern q)
  where
    by : (l : Pattern-F Pattern) → variables_step k (map-Pattern Pattern Texts (variables k) l) ≡ variables_in k l
    by (Pattern-F.Implicit p r) = refl
    by (Pattern-F.Named p x r) = refl
    by (Pattern-F.Project p x) = refl
    by (Pattern-F.ProjectQualified p x) = refl
    by (Pattern-F.Name p x qs) = variables_each k (con_named k x) x qs
    by (Pattern-F.Underscore p) = refl
    by (Pattern-F.Absurd p) = refl
    by (Pattern-F.Dotted p e) = refl

module _ (k : Known) (ls : Locals) where
  pattern_each : (seen : Texts) (p : Place) (x : Name) (qs : List Pattern) (o : Option ℕ) → pattern_of k seen p x (map (pattern k ls) qs) o ≡ pattern_named k ls seen p x qs o
  pattern_each seen p x qs (Some c) = refl
  pattern_each seen p x [] None = refl
  pattern_each seen p x (q ∷ qs) None = refl

  pub pattern_at : (depth : Depth) (seen : Texts) (q : Pattern) → pattern k ls q depth seen ≡ pattern_in k ls depth seen (out-Pattern q)
  unfolding pattern
  pattern_at depth seen q = ap (λ (m : PatternMeaning). m depth seen) (fold_out-Pattern PatternMeaning (pattern_step k ls) q) ∙ by (out-Pattern q)
    where
      by : (l : Pattern-F Pattern) → pattern_step k ls (map-Pattern Pattern PatternMeaning (pattern k ls) l) depth seen ≡ pattern_in k ls depth seen l
      by (Pattern-F.Implicit p r) = refl
      by (Pattern-F.Named p x r) = refl
      by (Pattern-F.Project p x) = refl
      by (Pattern-F.ProjectQualified p x) = refl
      by (Pattern-F.Name p x qs) = pattern_each seen p x qs (con_named k x)
      by (Pattern-F.Underscore p) = refl
      by (Pattern-F.Absurd p) = refl
      by (Pattern-F.Dotted p e) = refl

  module _ (depth : Depth) (xs : List Pattern) (i : ℕ) (seen : Texts) where
    pub patterns_next : (x : Pattern) (found : List _) → i < length xs → x ≡ get_or xs i x
        → patterns_from depth found (map (pattern k ls) (drop i xs)) seen ≡ and_then (pattern k ls x depth seen) (λ q. patterns_from depth (found ++ q.0 ∷ []) (map (pattern k ls) (drop (i + 1) xs)) q.1)
    unfolding patterns_from
    patterns_next x found lt e = ap (λ (l : List Pattern). patterns_from depth found (map (pattern k ls) l) seen) (drop_next xs i x lt e)

    pub patterns_end : (found : List _) → length xs ≤ i → patterns_from depth found (map (pattern k ls) (drop i xs)) seen ≡ Ok (found, seen)
    unfolding patterns_from
    patterns_end found le = ap (λ (l : List Pattern). patterns_from depth found (map (pattern k ls) l) seen) (drop_all i xs le)

-- ---- lists, one item further

module _ {A : Type 0} (f : A → Bool) (xs : List A) (i : ℕ) where
  pub any_next : (x : A) → i < length xs → x ≡ get_or xs i x → list_any f (drop i xs) ≡ (f x || list_any f (drop (i + 1) xs))
  any_next x lt e = ap (λ (l : List A). list_any f l) (drop_next xs i x lt e)

  pub any_end : length xs ≤ i → list_any f (drop i xs) ≡ false
  any_end le = ap (λ (l : List A). list_any f l) (drop_all i xs le)

pub inside_more : (ls xs ys : Texts) → inside ls (xs ++ ys) ≡ inside (inside ls xs) ys
inside_more ls xs ys = ap (λ (l : Texts). l ++ ls) (reverse-append xs ys) ∙ append_assoc (reverse ys) (reverse xs) ls
