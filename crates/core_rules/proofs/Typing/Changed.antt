-- Typing is kept by a change that is lifted under binders, where conversion is and each variable gets a term of its type.
use Rattle.std.specs.Prelude.{◌≡◌, ℕ, ◌+◌, List, [], ◌∷◌, ◌++◌, map, reverse, take, slice_get, Some}
use Rattle.std.proofs.Common.{ap, sym, ◌∙◌, subst}
use Rattle.std.proofs.lemmas.List.{map-append, take-map, length-map}
use Rattle.core_rules.specs.Term.{Term, Terms, Fam, env_of}
use Rattle.core_rules.specs.Substitution.{over, over_all, shift, under}
use Rattle.core_rules.specs.Signature.{Signature, Entry, Context, onto, def_type, fam_decl, FamDecl}
use Rattle.core_rules.specs.Elimination.{elims, args, projections, fam_type, con_type}
use Rattle.core_rules.specs.Conversion.{Conv}
use Rattle.core_rules.specs.Typing as T
use Rattle.core_rules.specs.Typing.{Typing, Fits, IsField, entry, field_env}
use Rattle.core_rules.specs.Laws.{IsLifted}
use Rattle.core_rules.proofs.Substitution.Lifted.{over-under}
use Rattle.core_rules.proofs.Conversion.Changed.{over-beta}
use Rattle.core_rules.proofs.Spines.{over-elims, args-over, projections-over, env_of-over, map-reverse}

retype : {g : Signature Term} {c : Context Term} {t a b : Term} → a ≡ b → Typing g c t a → Typing g c t b
retype {g = g} {c = c} {t = t} e h = subst (Typing g c t) e h

module _ (f : ℕ → ℕ → Term) (l : IsLifted f) (d : ℕ) (g : Signature Term) where
  pub over-record_type : (n : ℕ) (es : Context Term) (ps : List Term) → over f d (elims (Fam n) (args es ps)) ≡ elims (Fam n) (args es (map (over f d) ps))
  over-record_type n es ps = over-elims f d (Fam n) (args es ps) ∙ ap (elims (Fam n)) (args-over f d es ps)

  pub field_env-over : (k : ℕ) (is : IsField g k) (ps : List Term) (t : Term) → map (over f d) (field_env g k is ps t) ≡ field_env g k is (map (over f d) ps) (over f d t)
  field_env-over k is ps t = map-reverse (over f d) (ps ++ take is.at (projections g is.fam t))
      ∙ ap reverse (map-append (over f d) ps (take is.at (projections g is.fam t))
      ∙ ap (λ us. map (over f d) ps ++ us) (sym (take-map (over f d) is.at (projections g is.fam t)) ∙ ap (take is.at) (projections-over f d g is.fam t)))

  pub field_type-over : (k : ℕ) (is : IsField g k) (ps : List Term) (t : Term) → over f d (under (field_env g k is ps t) is.entry.ty) ≡ under (field_env g k is (map (over f d) ps) (over f d t)) is.entry.ty
  field_type-over k is ps t = over-under f l d (field_env g k is ps t) is.entry.ty ∙ ap (λ r. under r is.entry.ty) (field_env-over k is ps t)

  pub con_type-over : (ps : Terms) (a : Term) → over f d (under (env_of ps) a) ≡ under (env_of (over_all f d ps)) a
  con_type-over ps a = over-under f l d (env_of ps) a ∙ ap (λ r. under r a) (sym (env_of-over f d ps))

-- K d c c': under d binders the change takes terms in the context c to terms in c'
module _ (f : ℕ → ℕ → Term) (l : IsLifted f) (g : Signature Term) (K : ℕ → Context Term → Context Term → Type 0)
    (conv : (d : ℕ) (t u : Term) → Conv g t u → Conv g (over f d t) (over f d u))
    (defs_stay : (d k : ℕ) (a : Term) → def_type g k ≡ Some a → over f d a ≡ a)
    (fams_stay : (d k : ℕ) (e : FamDecl Term) → fam_decl g k ≡ Some e → over f d (fam_type e) ≡ fam_type e)
    (variable : (d i : ℕ) (c c' : Context Term) (e : Entry Term) → K d c c' → slice_get c i ≡ Some e → Typing g c' (f d i) (over f d (shift e.ty 0 (i + 1))))
    (lift : (d : ℕ) (c c' : Context Term) (e : Entry Term) → K d c c' → K (d + 1) (e ∷ c) (entry e.flag e.name (over f d e.ty) ∷ c')) where
  mutual
    pub typing-over : {c c' : Context Term} {t a : Term} (d : ℕ) → K d c c' → Typing g c t a → Typing g c' (over f d t) (over f d a)
    typing-over {c = c} {c' = c'} d k (T.var {i = i} {e = e} h) = variable d i c c' e k h
    typing-over d k T.sort = T.sort
    typing-over {c = c} {c' = c'} d k (T.pi {b = b} {x = x} {s = s} h j) = T.pi (typing-over d k h) (typing-over (d + 1) (lift d c c' (entry b x s) k) j)
    typing-over {c = c} {c' = c'} d k (T.lam {b = b} {x = x} {s = s} h j) = T.lam (typing-over d k h) (typing-over (d + 1) (lift d c c' (entry b x s) k) j)
    typing-over d k (T.app {u = u} {v = v} h j) = retype (sym (over-beta f l d v u)) (T.app (typing-over d k h) (typing-over d k j))
    typing-over d k (T.def {f = n} {a = a} h) = retype (sym (defs_stay d n a h)) (T.def h)
    typing-over d k (T.fam {d = n} {decl = e} h) = retype (sym (fams_stay d n e h)) (T.fam h)
    typing-over {c' = c'} d k (T.con {ps = ps} is h) =
        retype (sym (con_type-over f l d g ps (con_type is.fam is.decl is.con)))
        (T.con is (subst (λ r. Fits g c' r (onto is.decl.params [])) (sym (env_of-over f d ps)) (fits-over d k h)))
    typing-over d k (T.proj {f = n} {t = t} is ps h j) =
        retype (sym (field_type-over f l d g n is ps t))
        (T.proj is (map (over f d) ps) (length-map ps (over f d) ∙ h) (retype (over-record_type f l d g is.fam is.decl.params ps) (typing-over d k j)))
    typing-over d k (T.convert {s = s} {a = a} h j) = T.convert (typing-over d k h) (conv d s a j)

    pub fits-over : {c c' es : Context Term} {r : List Term} (d : ℕ) → K d c c' → Fits g c r es → Fits g c' (map (over f d) r) es
    fits-over d k T.none = T.none
    fits-over d k (T.more {r = r} {e = e} h j) = T.more (fits-over d k h) (retype (over-under f l d r e.ty) (typing-over d k j))
