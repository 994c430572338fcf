-- A scope that only grows.
use Rattle.std.proofs.Common.{◌≡◌, ◌∙◌, ℕ, Bool, true, false, List, [], ◌∷◌, ◌++◌, take, length, refl, sym, ap, append_assoc, Option, is_some, if◌then◌else◌}
use Rattle.std.proofs.lemmas.List.{append-nil}
use Rattle.std.proofs.Math.Seq.{take-append_seam}
use Rattle.scope_table.specs.declared.global.GlobalId.{GlobalId}
use Rattle.scope_table.specs.declared.scope.Fields.{Fields}
use Rattle.scope_table.specs.Known.{Known, Longer, Grows, global_in, place_of, with_global_in, with_global, with_def, with_con, with_nameless_con, with_field, with_family, with_families, with_names, mark_of, Texts, with_text, with_texts}

pub longer-refl : {A : Type 0} (xs : List A) → Longer xs xs
longer-refl xs = record { more = []; is = sym (append-nil xs) }

pub longer-push : {A : Type 0} (xs : List A) (x : A) → Longer xs (xs ++ x ∷ [])
longer-push xs x = record { more = x ∷ []; is = refl }

pub longer-trans : {A : Type 0} (xs ys zs : List A) → Longer xs ys → Longer ys zs → Longer xs zs
longer-trans xs ys zs a b = record { more = a.more ++ b.more; is = b.is ∙ ap (λ (l : List _). l ++ b.more) a.is ∙ append_assoc xs a.more b.more }

pub longer-take : {A : Type 0} (xs ys : List A) → Longer xs ys → take (length xs) ys ≡ xs
longer-take xs ys a = ap (λ (l : List _). take (length xs) l) a.is ∙ take-append_seam xs a.more

longer-global : (gs : List (List ℕ × GlobalId)) (x : List ℕ) (i : GlobalId) → Longer gs (with_global_in gs x i)
longer-global gs x i = by (is_some (global_in gs x))
  where
    by : (b : Bool) → Longer gs (if b then gs else gs ++ (x, i) ∷ [])
    by true = longer-refl gs
    by false = longer-push gs (x, i)

longer-text : (ns : Texts) (x : List ℕ) → Longer ns (with_text ns x)
longer-text ns x = by (is_some (place_of ns x))
  where
    by : (b : Bool) → Longer ns (if b then ns else ns ++ x ∷ [])
    by true = longer-refl ns
    by false = longer-push ns x

longer-texts : (ns xs : Texts) → Longer ns (with_texts ns xs)
unfolding with_texts
longer-texts ns [] = longer-refl ns
longer-texts ns (x ∷ xs) = longer-trans ns (with_text ns x) (with_texts (with_text ns x) xs) (longer-text ns x) (longer-texts (with_text ns x) xs)

pub grows-refl : (k : Known) → Grows k k
grows-refl k = record { names = longer-refl k.names; globals = longer-refl k.globals; families = longer-refl k.families }

pub grows-trans : (k m n : Known) → Grows k m → Grows m n → Grows k n
grows-trans k m n a b = record {
  names = longer-trans k.names m.names n.names a.names b.names;
  globals = longer-trans k.globals m.globals n.globals a.globals b.globals;
  families = longer-trans k.families m.families n.families a.families b.families;
}

pub grows-names : (k : Known) (xs : Texts) → Grows k (with_names k (with_texts k.names xs))
grows-names k xs = record { names = longer-texts k.names xs; globals = longer-refl k.globals; families = longer-refl k.families }

pub grows-name : (k : Known) (x : List ℕ) → Grows k (with_names k (with_text k.names x))
grows-name k x = record { names = longer-text k.names x; globals = longer-refl k.globals; families = longer-refl k.families }

pub grows-global : (k : Known) (x : List ℕ) (i : GlobalId) → Grows k (with_global k x i)
grows-global k x i = record { names = longer-refl k.names; globals = longer-global k.globals x i; families = longer-refl k.families }

pub grows-def : (k : Known) (x : List ℕ) → Grows k (with_def k x)
grows-def k x = record { names = longer-refl k.names; globals = longer-global k.globals x _; families = longer-refl k.families }

pub grows-con : (k : Known) (x : List ℕ) → Grows k (with_con k x)
grows-con k x = record { names = longer-refl k.names; globals = longer-global k.globals x _; families = longer-refl k.families }

pub grows-nameless : (k : Known) → Grows k (with_nameless_con k)
grows-nameless k = record { names = longer-refl k.names; globals = longer-refl k.globals; families = longer-refl k.families }

pub grows-field : (k : Known) (x f : List ℕ) → Grows k (with_field k x f)
grows-field k x f = record { names = longer-refl k.names; globals = longer-global k.globals (x ++ 46 ∷ f) _; families = longer-refl k.families }

pub grows-family : (k : Known) (x : List ℕ) → Grows k (with_family k x)
grows-family k x = record { names = longer-refl k.names; globals = longer-global k.globals x _; families = longer-refl k.families }

pub grows-families : (k : Known) (o : Option Fields) → Grows k (with_families k o)
grows-families k o = record { names = longer-refl k.names; globals = longer-refl k.globals; families = longer-push k.families o }

-- ---- back to a mark

pub cut-to : (k m : Known) (n g f d c e : ℕ) → (n, g, f, d, c, e) ≡ mark_of k → Grows k m
    → record { names = take n m.names; globals = take g m.globals; families = take f m.families; defs = d; cons = c; fields = e } ≡ k
cut-to k m n g f d c e is grown =
    let e0 : n ≡ length k.names = ap (λ (t : ℕ × ℕ × ℕ × ℕ × ℕ × ℕ). t.0) is in
    let e1 : g ≡ length k.globals = ap (λ (t : ℕ × ℕ × ℕ × ℕ × ℕ × ℕ). t.1) is in
    let e2 : f ≡ length k.families = ap (λ (t : ℕ × ℕ × ℕ × ℕ × ℕ × ℕ). t.2) is in
    let e3 : d ≡ k.defs = ap (λ (t : ℕ × ℕ × ℕ × ℕ × ℕ × ℕ). t.3) is in
    let e4 : c ≡ k.cons = ap (λ (t : ℕ × ℕ × ℕ × ℕ × ℕ × ℕ). t.4) is in
    let e5 : e ≡ k.fields = ap (λ (t : ℕ × ℕ × ℕ × ℕ × ℕ × ℕ). t.5) is in
    rw (e0, e1, e2, e3, e4, e5, longer-take k.names m.names grown.names, longer-take k.globals m.globals grown.globals, longer-take k.families m.families grown.families) refl

pub ruleset grows = (grows-refl, grows-trans, grows-names, grows-name, grows-global, grows-def, grows-con, grows-nameless, grows-field, grows-family, grows-families)
