-- Names, and the lookahead that goes over them.
use Rattle.std.proofs.Common.{◌≡◌, ℕ, zero, suc, ◌≤◌, true, false, List, [], ◌∷◌, ◌++◌, length, map, Ok, refl, sym, ap, ◌∙◌, arith}
use Rattle.source_tree.specs.declared.place.Name.{Name}
use Rattle.agda_grammar.specs.declared.sign.Kind.TheVariants as k
use Rattle.agda_grammar.specs.declared.sign.Mark.{Mark}
use Rattle.agda_grammar.specs.declared.sign.Sign.{Sign}
use Rattle.agda_grammar.specs.Names.{name_of}
use Rattle.agda_grammar.specs.Signs.{Input, tok}
use Rattle.expr_parser.specs.Cursor.{same_kind, is, expect, names_colon, colon_follows, equals_follows}
use Rattle.agda_grammar.specs.Grammar.{names_then}
use Rattle.expr_parser.specs.Syntax.{name, one_name, names}
use Rattle.parse_laws.specs.Parser.{pure, one, next_is, many_from}
use Rattle.parse_laws.proofs.Good.{Language, Family, Good, Agree, bind_good, pure_good, weaken, UpTo}
use Rattle.parse_laws.proofs.Many.{AllOf, Item, Behind, many_good, optional_good}
use Rattle.parse_laws.proofs.Look.{lined, Eats, LooksOver}
use Rattle.expr_parser.proofs.Steps.{Gives, both, single, nothing, As, long_as, all_of, is_tok, Is, expect_good}

-- ---- names

abbrev pub IsName : List ℕ → Language Sign Name
IsName text = As (λ (m : Mark). λ rest. tok k.Name m ∷ rest) (name_of text)

pub name_good : (text : List ℕ) (s n : ℕ) → Good (IsName text) (λ j. name text) s n
unfolding name
name_good text s n = weaken _ _ _ s n (λ y c r. record { derivation = r.value; gives = r.second.0; spells = record { at = (both r.whole (single k.Name _ _ r.first) (nothing _ r.second.1)).at } })
    (bind_good (Is k.Name) (λ m. Gives (name_of text m)) (λ j. expect k.Name) (λ m j. pure (name_of text m)) s n (expect_good k.Name s n) (λ m. pure_good (name_of text m) s n))

pub one_name_good : (text : List ℕ) (found : List Name) (s n : ℕ) → Good (Item (λ _. IsName text) found) (λ j. one_name text) s n
unfolding one_name
one_name_good text found s n = optional_good (is k.Name) (λ _. IsName text) found (λ j. name text) s n (name_good text s n) (long_as _ _ (λ d. omega arith))

pub names_good : (text : List ℕ) (found : List Name) (n : ℕ) → Good (Behind (λ _. IsName text) found) (λ j. names text j found) 0 n
unfolding names one_name
names_good text found n = many_good (λ _. IsName text) (λ j _. one_name text) 0 n (λ f. one_name_good text f 0 n) (λ m f. refl) (omega arith) found

pub all_names : (text : List ℕ) (found xs : List Name) (c : Input) → AllOf (λ _. IsName text) found xs c → As names_then (map (name_of text)) xs c
all_names text = all_of (λ (m : Mark). λ rest. tok k.Name m ∷ rest) (name_of text) names_then (map (name_of text)) [] ◌∷◌ (λ rest. refl) refl (λ d ds rest. refl) (λ d ds. refl)

-- ---- what looks over names

pub name_is : (s : Sign) → is k.Name s ≡ true → (m : Mark) × (s ≡ tok k.Name m)
name_is s e = (s.mark, is_tok k.Name s e)

pub over_colon : LooksOver (is k.Name) (tok k.Name) colon_follows
unfolding colon_follows names_colon same_kind
over_colon [] [] [] st ag = refl
over_colon [] [] (v ∷ vs) st ag = absurd ag
over_colon [] (u ∷ us) [] st ag = absurd ag
over_colon [] (u ∷ us) (v ∷ vs) st ag = rw (st, ← ag, st) refl
over_colon (x ∷ xs) u v st ag = go xs
  where
    go : (xs : List Mark) → names_colon (lined (tok k.Name) xs u) ≡ names_colon (lined (tok k.Name) xs v)
    go [] = last u v st ag
      where
        last : (u v : Input) → next_is (is k.Name) u ≡ false → Agree u v → names_colon u ≡ names_colon v
        last [] [] st ag = refl
        last [] (v ∷ vs) st ag = absurd ag
        last (u ∷ us) [] st ag = absurd ag
        last (u ∷ us) (v ∷ vs) st ag = rw (st, ← ag, st) refl
    go (y ∷ ys) = go ys

pub over_equals : LooksOver (is k.Name) (tok k.Name) equals_follows
unfolding same_kind
over_equals [] [] [] st ag = refl
over_equals [] [] (v ∷ vs) st ag = absurd ag
over_equals [] (u ∷ us) [] st ag = absurd ag
over_equals [] (u ∷ us) (v ∷ vs) st ag = go us vs
  where
    none : (t : Sign) → is k.Name t ≡ false → (us : Input) → equals_follows (t ∷ us) ≡ false
    none t e [] = refl
    none t e (w ∷ ws) = rw e refl

    go : (us vs : Input) → equals_follows (u ∷ us) ≡ equals_follows (v ∷ vs)
    go us vs = none u st us ∙ sym (none v (ap (is k.Name) (sym ag) ∙ st) vs)
over_equals (x ∷ []) [] [] st ag = refl
over_equals (x ∷ []) [] (v ∷ vs) st ag = absurd ag
over_equals (x ∷ []) (u ∷ us) [] st ag = absurd ag
over_equals (x ∷ []) (u ∷ us) (v ∷ vs) st ag = rw (← ag) refl
over_equals (x ∷ y ∷ xs) u v st ag = refl

-- names are taken as names
pub names_eat : (text : List ℕ) (m : ℕ) (found : List Name) (xs : List Mark) (u : Input) → length xs ≤ m → next_is (is k.Name) u ≡ false → (ys : List Name) × (many_from (λ _. one_name text) m found (lined (tok k.Name) xs u) ≡ Ok (ys, u))
unfolding many_from one_name name expect one same_kind
names_eat text zero found [] u le st = (found, refl)
names_eat text (suc m) found [] u le st = (found, rw st refl)
names_eat text zero found (x ∷ xs) u le st = absurd (omega arith)
names_eat text (suc m) found (x ∷ xs) u le st = names_eat text m (found ++ name_of text x ∷ []) xs u (omega arith) st

pub lined_count : (xs : List Mark) (u : Input) → length xs ≤ length (lined (tok k.Name) xs u)
lined_count [] u = omega arith
lined_count (x ∷ xs) u = omega (arith, lined_count xs u)

pub names_up : (text : List ℕ) (m : ℕ) (found : List Name) (xs : List Mark) (u : Input) → length xs ≤ m → next_is (is k.Name) u ≡ false → UpTo (length u) (many_from (λ _. one_name text) m found (lined (tok k.Name) xs u))
names_up text m found xs u le st = let r = names_eat text m found xs u le st in rw r.1 (omega arith)

-- names in front of other signs are all taken
abbrev pub left_eats : {A : Type 0} → Family Sign A → ℕ → ℕ → Type 0
left_eats p s n = Eats (is k.Name) (tok k.Name) p s n
