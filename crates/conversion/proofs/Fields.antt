-- The fields of a value against the projections of another term.
use Rattle.std.specs.Prelude.{◌≡◌, ◌≢◌, ℕ, suc, true, cond, List, [], ◌∷◌, length, map, reverse, Option, Some, None, IfSome, refl}
use Rattle.std.proofs.Common.{ap, sym, ◌∙◌, subst}
use Rattle.std.proofs.lemmas.List.{length-map, length-reverse}
use Rattle.el_base.proofs.Lists.{map-reverse}
use Rattle.core_rules.specs.declared.Flag.{Flag}
use Rattle.core_rules.specs.declared.Flag.TheVariants.{Explicit, Implicit}
use Rattle.core_rules.specs.Term.{Term, Proj}
use Rattle.core_rules.specs.Signature.{Signature}
use Rattle.core_rules.specs.Elimination.{Elim, Arg, Field, elims, projections}
use Rattle.core_rules.specs.Bounded.{Decision, Pair, argument_parts, by_field, by_kind, last_field, parts_or, same_flag, term_parts, with_part}
use Rattle.weak_head.specs.declared.elim.Elim as E
use Rattle.weak_head.specs.declared.elim.Elim.TheVariants as V
use Rattle.weak_head.specs.Elims.{elim_in, spine_in, AllBelow, AreArgs, args_of}
use Rattle.conversion.specs.declared.form.Kind as K
use Rattle.conversion.specs.declared.form.Kind.TheVariants as KV
use Rattle.conversion.specs.declared.form.Eta as X
use Rattle.conversion.specs.declared.form.Eta.TheVariants as XV
use Rattle.conversion.specs.Form.{eta, kind_in, ValueIsArgs}
use Rattle.std.specs.declared.vec.Vec.{Vec}
use Rattle.conversion.specs.Arguments.{flag_of, IsProjected, AreLike}

-- ---- arguments of the same flags

abbrev flag : Elim → Flag
flag (Arg b u) = b
flag (Field k) = Explicit

one_flag : (b : Flag) → same_flag b b ≡ true
one_flag Explicit = refl
one_flag Implicit = refl

flags_in : (f : ℕ → Term) (xs : List E.Elim) → map flag (map (elim_in f) xs) ≡ map flag_of xs
flags_in f [] = refl
flags_in f (V.Arg b u ∷ xs) = ap (λ l. b ∷ l) (flags_in f xs)
flags_in f (V.Field k ∷ xs) = ap (λ l. Explicit ∷ l) (flags_in f xs)

spine_flags : (f : ℕ → Term) (xs : List E.Elim) → map flag (spine_in f xs) ≡ reverse (map flag_of xs)
spine_flags f xs = flags_in f (reverse xs) ∙ map-reverse flag_of xs

abbrev head_of : Flag → List Flag → Flag
head_of b [] = b
head_of b (c ∷ bs) = c

abbrev tail_of : List Flag → List Flag
tail_of [] = []
tail_of (b ∷ bs) = bs

pub like_parts : (es ds : List Elim) → AreArgs es → AreArgs ds → map flag es ≡ map flag ds → argument_parts es ds ≡ term_parts (args_of es) (args_of ds)
like_parts [] [] h k e = refl
like_parts [] (Arg c v ∷ ds) h k e = absurd cc
like_parts [] (Field j ∷ ds) h k e = absurd k.0
like_parts (Arg b u ∷ es) [] h k e = absurd cc
like_parts (Arg b u ∷ es) (Field j ∷ ds) h k e = absurd k.0
like_parts (Field i ∷ es) ds h k e = absurd h.0
like_parts (Arg b u ∷ es) (Arg c v ∷ ds) h k e =
    let i : same_flag b c ≡ true = subst (λ x. same_flag b x ≡ true) (ap (head_of b) e) (one_flag b) in
    ap (λ o. cond o (with_part (Pair [] u v) (argument_parts es ds)) None) i ∙ ap (with_part (Pair [] u v)) (like_parts es ds h.1 k.1 (ap tail_of e))

pub terms_apart : (us vs : List Term) → length us ≢ length vs → term_parts us vs ≡ None
terms_apart [] [] n = absurd (n refl)
terms_apart [] (v ∷ vs) n = refl
terms_apart (u ∷ us) [] n = refl
terms_apart (u ∷ us) (v ∷ vs) n = ap (with_part (Pair [] u v)) (terms_apart us vs (λ e. n (ap suc e)))

length_args : (es : List Elim) → AreArgs es → length (args_of es) ≡ length es
length_args [] h = refl
length_args (Arg b u ∷ es) h = ap suc (length_args es h.1)
length_args (Field k ∷ es) h = absurd h.0

pub length_spine_args : (f : ℕ → Term) (xs : List E.Elim) → AreArgs (spine_in f xs) → length (args_of (spine_in f xs)) ≡ length xs
length_spine_args f xs h = length_args (spine_in f xs) h ∙ length-map (reverse xs) (elim_in f) ∙ length-reverse xs

-- ---- which side is a value

abbrev pub by_eta : (g : Signature Term) (q : Decision) (h : Term) (es : List Elim) (h' : Term) (ds : List Elim) → X.Eta → Decision
by_eta g q h es h' ds (XV.Left d) = parts_or q (term_parts (args_of es) (projections g d (elims h' ds)))
by_eta g q h es h' ds (XV.Right d) = parts_or q (term_parts (projections g d (elims h es)) (args_of ds))
by_eta g q h es h' ds XV.None = by_field q h es h' ds (last_field es) (last_field ds)

pub kinds_by_eta : (g : Signature Term) (q : Decision) (h : Term) (es : List Elim) (h' : Term) (ds : List Elim) (k l : K.Kind) → by_kind g q h es h' ds (kind_in es k) (kind_in ds l) ≡ by_eta g q h es h' ds (eta k l)
kinds_by_eta g q h es h' ds (KV.Value d) (KV.Value e) = refl
kinds_by_eta g q h es h' ds (KV.Value d) KV.Constructor = refl
kinds_by_eta g q h es h' ds (KV.Value d) KV.Neither = refl
kinds_by_eta g q h es h' ds KV.Constructor (KV.Value e) = refl
kinds_by_eta g q h es h' ds KV.Constructor KV.Constructor = refl
kinds_by_eta g q h es h' ds KV.Constructor KV.Neither = refl
kinds_by_eta g q h es h' ds KV.Neither (KV.Value e) = refl
kinds_by_eta g q h es h' ds KV.Neither KV.Constructor = refl
kinds_by_eta g q h es h' ds KV.Neither KV.Neither = refl

pub left_args : (es : List Elim) (k l : K.Kind) (d : ℕ) → eta k l ≡ XV.Left d → ValueIsArgs es k → AreArgs es
left_args es (KV.Value d) l c e h = h
left_args es KV.Constructor l c e h = absurd cc
left_args es KV.Neither (KV.Value d) c e h = absurd cc
left_args es KV.Neither KV.Constructor c e h = absurd cc
left_args es KV.Neither KV.Neither c e h = absurd cc

pub right_args : (ds : List Elim) (k l : K.Kind) (d : ℕ) → eta k l ≡ XV.Right d → ValueIsArgs ds l → AreArgs ds
right_args ds k (KV.Value d) c e h = h
right_args ds (KV.Value d) KV.Constructor c e h = absurd cc
right_args ds KV.Constructor KV.Constructor c e h = absurd cc
right_args ds KV.Neither KV.Constructor c e h = absurd cc
right_args ds (KV.Value d) KV.Neither c e h = absurd cc
right_args ds KV.Constructor KV.Neither c e h = absurd cc
right_args ds KV.Neither KV.Neither c e h = absurd cc

-- ---- the fields of a value, where f gives the trees of ids

module _ (f : ℕ → Term) (fields : List ℕ) (t : Term) (ys : List E.Elim) (a : AreArgs (spine_in f ys)) where
  abbrev pub fields_at : List Term
  fields_at = map (λ k. Proj k t) fields

  pub apart_left : length fields ≢ length ys → term_parts (args_of (spine_in f ys)) fields_at ≡ None
  apart_left n = terms_apart (args_of (spine_in f ys)) fields_at (λ e. n (sym (length-map fields (λ k. Proj k t)) ∙ sym e ∙ length_spine_args f ys a))

  pub apart_right : length fields ≢ length ys → term_parts fields_at (args_of (spine_in f ys)) ≡ None
  apart_right n = terms_apart fields_at (args_of (spine_in f ys)) (λ e. n (sym (length-map fields (λ k. Proj k t)) ∙ e ∙ length_spine_args f ys a))

  module _ (xs : List E.Elim) (h : IsProjected f fields t ys xs) where
    same_flags : map flag (spine_in f xs) ≡ map flag (spine_in f ys)
    same_flags = spine_flags f xs ∙ ap reverse h.flags ∙ sym (spine_flags f ys)

    pub value_left : argument_parts (spine_in f ys) (spine_in f xs) ≡ term_parts (args_of (spine_in f ys)) fields_at
    value_left = like_parts (spine_in f ys) (spine_in f xs) a h.args (sym same_flags) ∙ ap (term_parts (args_of (spine_in f ys))) h.terms

    pub value_right : argument_parts (spine_in f xs) (spine_in f ys) ≡ term_parts fields_at (args_of (spine_in f ys))
    value_right = like_parts (spine_in f xs) (spine_in f ys) h.args a same_flags ∙ ap (λ us. term_parts us (args_of (spine_in f ys))) h.terms

-- ---- what the code has found

pub like_none : {A : Type 0} (f : ℕ → Term) (fields : List ℕ) (t : Term) (ys : List E.Elim) (o : Option (Vec E.Elim A)) → ((v : Vec E.Elim A) → o ≡ Some v → ⊥) → AreLike f fields t ys o → length fields ≢ length ys
like_none f fields t ys None n h = h
like_none f fields t ys (Some v) n h = absurd (n v refl)

pub like_some : {A : Type 0} (f : ℕ → Term) (fields : List ℕ) (t : Term) (ys : List E.Elim) (o : Option (Vec E.Elim A)) (v : Vec E.Elim A) → o ≡ Some v → AreLike f fields t ys o → IsProjected f fields t ys v.items
like_some f fields t ys o v e h = subst (AreLike f fields t ys) e h

pub below_some : {A : Type 0} (n : ℕ) (o : Option (Vec E.Elim A)) (v : Vec E.Elim A) → o ≡ Some v → IfSome o (λ xs. AllBelow n xs.items) → AllBelow n v.items
below_some n o v e h = subst (λ o. IfSome o (λ xs. AllBelow n xs.items)) e h
