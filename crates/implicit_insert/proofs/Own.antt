-- The field of a record is its own at all its parameters.
use Rattle.std.specs.Prelude.{◌≡◌, ℕ, eqb, cond, List, map, Option, Some, None, option_map, refl}
use Rattle.std.proofs.Common.{◌<◌, ap, sym, ◌∙◌, Result, Ok, Err}
use Rattle.std.specs.Prelude.{length, IfOk, IfSome}
use Rattle.std.specs.List.{AllByRecursion}
use Rattle.std.specs.declared.vec.Vec.{Vec}
use Rattle.std.proofs.lemmas.Bool.{ne_eqb}
use Rattle.core_rules.proofs.Heads.Sound.{eqb_same}
use Rattle.core_rules.specs.Term.{Term}
use Rattle.core_rules.specs.Elimination.{Elim}
use Rattle.core_rules.specs.Signature.{Signature, field_place}
use Rattle.core_rules.specs.Typing.{IsField}
use Rattle.kernel_rules.specs.TermReading.{arguments_for}
use Rattle.term_pool.specs.Pool.{Pool, tree}
use Rattle.el_base.specs.declared.no_memory.NoMemory.{NoMemory}
use Rattle.need_rules.specs.Needs.{OwnField, own_field}
use Rattle.implicit_insert.specs.Answers.{IsOwn}

-- field f at these parameters
abbrev pub at_params : (g : Signature Term) (f : ℕ) → IsField g f → List Term → OwnField
at_params g f is ps = record { field = f; fam = is.fam; at = is.at; params = ps; ty = is.entry.ty }

pub own_field-is : (g : Signature Term) (d : ℕ) (es : List Elim) (f : ℕ) (is : IsField g f)
    → own_field g d es f ≡ cond (eqb is.fam d) (option_map (at_params g f is) (arguments_for is.decl.params es)) None
own_field-is g d es f is = rw (is.place, is.is_decl, is.is_entry) refl

pub no_own_field : (g : Signature Term) (d : ℕ) (es : List Elim) (f : ℕ) → field_place g f ≡ None → own_field g d es f ≡ None
no_own_field g d es f e = rw e refl

pub other_fam : (g : Signature Term) (d : ℕ) (es : List Elim) (f : ℕ) (is : IsField g f) → (is.fam ≡ d → ⊥) → own_field g d es f ≡ None
other_fam g d es f is n = own_field-is g d es f is ∙ ap (λ b. cond b (option_map (at_params g f is) (arguments_for is.decl.params es)) None) (ne_eqb is.fam d n)

own_fam : (g : Signature Term) (d : ℕ) (es : List Elim) (f : ℕ) (is : IsField g f) → is.fam ≡ d → own_field g d es f ≡ option_map (at_params g f is) (arguments_for is.decl.params es)
own_fam g d es f is e = own_field-is g d es f is ∙ ap (λ b. cond b (option_map (at_params g f is) (arguments_for is.decl.params es)) None) (ap (λ i. eqb i d) e ∙ eqb_same d)

module _ {G : Type 0} (p : Pool) (g : Signature Term) (d : ℕ) (es : List Elim) (f : ℕ) (is : IsField g f) (e : is.fam ≡ d) where
  own_at : (o : Option (Vec ℕ G)) → option_map (λ v. map (tree p) v.items) o ≡ arguments_for is.decl.params es → IfSome o (λ v. AllByRecursion (λ i. i < length p.trees) v.items) → IsOwn p d (own_field g d es f) o
  own_at None h b = own_fam g d es f is e ∙ ap (option_map (at_params g f is)) (sym h)
  own_at (Some v) h b = record {
    field = at_params g f is (map (tree p) v.items);
    is = own_fam g d es f is e ∙ ap (option_map (at_params g f is)) (sym h);
    fam = e;
    params = refl;
    below = b;
  }

  all_below : (o : Option (Vec ℕ G)) (P : ℕ → Type 0) → P (length p.trees) → IfSome o (λ v. (n : ℕ) → P n → AllByRecursion (λ i. i < n) v.items) → IfSome o (λ v. AllByRecursion (λ i. i < length p.trees) v.items)
  all_below None P x h = tt
  all_below (Some v) P x h = h (length p.trees) x

  pub own_is : (r : Result (Option (Vec ℕ G)) NoMemory) (P : ℕ → Type 0) (w : (ℕ → Term) → Option (List Term)) → P (length p.trees) → w (tree p) ≡ arguments_for is.decl.params es
      → IfOk r (λ o. (k : ℕ → Term) → option_map (λ v. map k v.items) o ≡ w k) → IfOk r (λ o. IfSome o (λ v. (n : ℕ) → P n → AllByRecursion (λ i. i < n) v.items))
      → IfOk r (IsOwn p d (own_field g d es f))
  own_is (Err x) P w a b h k = tt
  own_is (Ok o) P w a b h k = own_at o (h (tree p) ∙ b) (all_below o P a k)
