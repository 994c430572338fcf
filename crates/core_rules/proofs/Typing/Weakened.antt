-- Typing is kept where entries are put into the context.
use Rattle.std.specs.Prelude.{◌≡◌, ℕ, ◌+◌, [], ◌∷◌, ◌++◌, length, slice_get, Some, refl, zero, suc}
use Rattle.std.proofs.Common.{ap, sym, ◌∙◌, arith, zero-add, add-zero}
use Rattle.core_rules.specs.Term.{Term, Var}
use Rattle.core_rules.specs.Substitution.{over, shift, shift_var}
use Rattle.core_rules.specs.Signature.{Signature, Entry, Context}
use Rattle.core_rules.specs.InScope.{SignatureInScope}
use Rattle.core_rules.specs.Typing as T
use Rattle.core_rules.specs.Typing.{Typing, entry}
use Rattle.core_rules.specs.Laws.{IsLifted, inserted}
use Rattle.core_rules.proofs.Substitution.Lifted.{over-shift, over_shift, shift_twice, shift_variable}
use Rattle.core_rules.proofs.Substitution.Changes.{shift_lifted}
use Rattle.core_rules.proofs.Typing.Closed.{def-closed, fam-closed, closed-over}
use Rattle.core_rules.proofs.Conversion.Shifted.{conv-shift_under}
use Rattle.core_rules.proofs.Typing.Changed.{typing-over}

-- variable i, which has the entry e, becomes a variable of c' with the changed type
pub record IsRenamed (f : ℕ → ℕ → Term) (d i : ℕ) (e : Entry Term) (c' : Context Term) : Type 0 where
  pub to : ℕ
  pub there : Entry Term
  pub is : f d i ≡ Var to
  pub stands : slice_get c' to ≡ Some there
  pub ty : shift there.ty 0 (to + 1) ≡ over f d (shift e.ty 0 (i + 1))

abbrev pub Renames : (ℕ → ℕ → Term) → ℕ → Context Term → Context Term → Type 0
Renames f d c c' = (i : ℕ) (e : Entry Term) → slice_get c i ≡ Some e → IsRenamed f d i e c'

module _ (f : ℕ → ℕ → Term) (l : IsLifted f) where
  same_entry : {e e' : Entry Term} → Some e ≡ Some e' → e ≡ e'
  same_entry h = cc h

  pub lift-renames : (d : ℕ) (c c' : Context Term) (e : Entry Term) → Renames f d c c' → Renames f (d + 1) (e ∷ c) (entry e.flag e.name (over f d e.ty) ∷ c')
  lift-renames d c c' e k zero e' h = record {
    to = 0;
    there = entry e.flag e.name (over f d e.ty);
    is = l.own d;
    stands = refl;
    ty = rw (← same_entry h) (rw zero-add (sym (over-shift f l 1 d e.ty)));
  }
  lift-renames d c c' e k (suc j) e' h =
      let r : IsRenamed f d j e' c' = k j e' h in
      let p : suc j ≡ j + 1 = omega arith in
      record {
        to = suc r.to;
        there = r.there;
        is = rw p (l.later d j ∙ (ap (λ t. shift t 0 1) r.is ∙ (shift_variable r.to 1 ∙ ap Var (omega arith))));
        stands = r.stands;
        ty = (ap (shift r.there.ty 0) (let q : suc r.to + 1 ≡ r.to + 1 + 1 = omega arith in q) ∙ sym (shift_twice r.there.ty (r.to + 1) 1))
            ∙ (ap (λ t. shift t 0 1) r.ty ∙ (sym (over-shift f l 1 d (shift e'.ty 0 (j + 1))) ∙ ap (over f (d + 1)) (shift_twice e'.ty (j + 1) 1 ∙ ap (shift e'.ty 0) (let q : j + 1 + 1 ≡ suc j + 1 = omega arith in q))));
      }

stands_after : (new c : Context Term) (i : ℕ) (e : Entry Term) → slice_get c i ≡ Some e → slice_get (new ++ c) (i + length new) ≡ Some e
stands_after [] c i e h = rw add-zero h
stands_after (x ∷ new) c i e h = let p : i + suc (length new) ≡ suc (i + length new) = omega arith in rw p (stands_after new c i e h)

base : (new c : Context Term) → Renames (shift_var 0 (length new)) 0 c (new ++ c)
base new c i e h = record {
  to = i + length new;
  there = e;
  is = shift_variable i (length new);
  stands = stands_after new c i e h;
  ty = ap (shift e.ty 0) (let q : i + length new + 1 ≡ i + 1 + length new = omega arith in q) ∙ sym (shift_twice e.ty (i + 1) (length new));
}

pub renames-inserted : (inner new c : Context Term) → Renames (shift_var 0 (length new)) (length inner) (inner ++ c) (inserted inner new c)
renames-inserted [] new c = base new c
renames-inserted (e ∷ inner) new c =
    let k = lift-renames (shift_var 0 (length new)) (shift_lifted 0 (length new)) (length inner) (inner ++ c) (inserted inner new c) e (renames-inserted inner new c) in
    let p : length inner + 1 ≡ suc (length inner) = omega arith in
    let q : over (shift_var 0 (length new)) (length inner) e.ty ≡ shift e.ty (length inner) (length new) = rw zero-add at (over_shift 0 (length new) (length inner) e.ty) in
    rw (p, q) at k

pub variable-renamed : (g : Signature Term) (f : ℕ → ℕ → Term) (d i : ℕ) (c c' : Context Term) (e : Entry Term) → Renames f d c c' → slice_get c i ≡ Some e → Typing g c' (f d i) (over f d (shift e.ty 0 (i + 1)))
variable-renamed g f d i c c' e k h = let r = k i e h in rw r.is (rw (← r.ty) (T.var r.stands))

module _ (g : Signature Term) (M : ℕ → ℕ → Type 0) (s : SignatureInScope g M) where
  pub typing-renamed : (from by d : ℕ) (c c' : Context Term) (t a : Term) → Renames (shift_var from by) d c c' → Typing g c t a → Typing g c' (over (shift_var from by) d t) (over (shift_var from by) d a)
  typing-renamed from by d c c' t a k h = typing-over (shift_var from by) (shift_lifted from by) g (Renames (shift_var from by))
      (λ d t u j. conv-shift_under from by d j)
      (λ d n a e. closed-over (shift_var from by) (shift_lifted from by) M d a (def-closed M g s n a e))
      (λ d n b e. closed-over (shift_var from by) (shift_lifted from by) M d _ (fam-closed M g s n b e))
      (λ d i c c' e k h. variable-renamed g (shift_var from by) d i c c' e k h)
      (λ d c c' e k. lift-renames (shift_var from by) (shift_lifted from by) d c c' e k)
      d k h

  -- entries put into the context
  pub typing-inserted : (inner new c : Context Term) (t a : Term) → Typing g (inner ++ c) t a → Typing g (inserted inner new c) (shift t (length inner) (length new)) (shift a (length inner) (length new))
  typing-inserted inner new c t a h =
      let p : (t : Term) → over (shift_var 0 (length new)) (length inner) t ≡ shift t (length inner) (length new) = λ t. rw zero-add at (over_shift 0 (length new) (length inner) t) in
      rw (p t, p a) at (typing-renamed 0 (length new) (length inner) (inner ++ c) (inserted inner new c) t a (renames-inserted inner new c) h)
