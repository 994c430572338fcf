-- Arguments that have the flags of a telescope are the telescope's arguments at as many terms.
use Rattle.std.specs.Prelude.{◌≡◌, ℕ, true, ◌&&◌, eqb, cond, List, [], ◌∷◌, length, refl, Option, Some, None, option_map, option_and_then, suc}
use Rattle.std.proofs.Common.{ap, ap₂, sym, ◌∙◌, subst as transport, eqb-true}
use Rattle.core_rules.specs.Term.{Term, Terms, Con}
use Rattle.core_rules.specs.Signature.{Telescope, FamDecl, ConDecl, Signature, con_place, con_decl, fam_decl}
use Rattle.core_rules.specs.Elimination.{Elim, Arg, Field, args}
use Rattle.core_rules.specs.Conversion.{IsEtaCon}
use Rattle.core_rules.specs.Bounded.{same_flag, RecordValue}
use Rattle.core_rules.proofs.Heads.OneAnswer.{one_some}
use Rattle.core_rules.proofs.Heads.Next.{same_flag-true}
use Rattle.core_rules.proofs.Heads.Sound.{and_true, cond_some}
use Rattle.cover_rules.specs.Flagged.{flagged, flagged_value}

flagged_is : (c : Telescope Term) (es : List Elim) (us : List Term) → flagged c es ≡ Some us → es ≡ args c us
flagged_is [] [] us e = refl
flagged_is [] (d ∷ es) us e = absurd cc
flagged_is (x ∷ c) [] us e = absurd cc
flagged_is (x ∷ c) (Field f ∷ es) us e = absurd cc
flagged_is (x ∷ c) (Arg b u ∷ es) us e =
    let h = cond_some (same_flag x.flag b) (option_map (λ us. u ∷ us) (flagged c es)) us e in
    by_rest (flagged c es) (λ vs k. flagged_is c es vs k) refl h.0 h.1
  where
    by_rest : (o : Option (List Term)) → ((vs : List Term) → flagged c es ≡ Some vs → es ≡ args c vs) → flagged c es ≡ o → same_flag x.flag b ≡ true → option_map (λ us. u ∷ us) o ≡ Some us → Arg b u ∷ es ≡ args (x ∷ c) us
    by_rest None r k s e = absurd cc
    by_rest (Some vs) r k s e = transport (λ us. Arg b u ∷ es ≡ args (x ∷ c) us) (one_some e) (ap₂ (λ b es. Arg b u ∷ es) (sym (same_flag-true x.flag b s)) (r vs k))

flagged_length : (c : Telescope Term) (es : List Elim) (us : List Term) → flagged c es ≡ Some us → length us ≡ length c
flagged_length [] [] us e = ap length (sym (one_some e))
flagged_length [] (d ∷ es) us e = absurd cc
flagged_length (x ∷ c) [] us e = absurd cc
flagged_length (x ∷ c) (Field f ∷ es) us e = absurd cc
flagged_length (x ∷ c) (Arg b u ∷ es) us e =
    let h = cond_some (same_flag x.flag b) (option_map (λ us. u ∷ us) (flagged c es)) us e in
    by_rest (flagged c es) (λ vs k. flagged_length c es vs k) refl h.1
  where
    by_rest : (o : Option (List Term)) → ((vs : List Term) → flagged c es ≡ Some vs → length vs ≡ length c) → flagged c es ≡ o → option_map (λ us. u ∷ us) o ≡ Some us → length us ≡ length (x ∷ c)
    by_rest None r k e = absurd cc
    by_rest (Some vs) r k e = ap length (sym (one_some e)) ∙ ap suc (r vs k)

-- a form that is a value of a record that has eta
pub record IsValue (g : Signature Term) (h : Term) (es : List Elim) (v : RecordValue) : Type 0 where
  pub con : ℕ
  pub params : Terms
  pub is : IsEtaCon g con v.fam
  pub head : h ≡ Con con params
  pub spine : es ≡ args is.con.args v.values
  pub as_many : length v.values ≡ length is.con.args

pub flagged_value_is : (g : Signature Term) (k : ℕ) (ps : Terms) (es : List Elim) (v : RecordValue) → flagged_value g k es ≡ Some v → IsValue g (Con k ps) es v
flagged_value_is g k ps es v = by_place (con_place g k) refl
  where
    at_values : (p : ℕ × ℕ) → con_place g k ≡ Some p → (d : FamDecl Term) → fam_decl g p.0 ≡ Some d → (c : ConDecl Term) → con_decl g k ≡ Some c → d.eta ≡ true → eqb p.1 0 ≡ true
        → (o : Option (List Term)) → flagged c.args es ≡ o → ◌≡◌ {A = Option RecordValue} (option_map (λ us. record { fam = p.0; values = us }) o) (Some v) → IsValue g (Con k ps) es v
    at_values p a d b c x y z None i e = absurd cc
    at_values p a d b c x y z (Some us) i e =
        let q : con_place g k ≡ Some (p.0, 0) = a ∙ ap (λ j. Some (p.0, j)) (eqb-true p.1 0 z) in
        transport (λ v. IsValue g (Con k ps) es v) (one_some e)
        (record { con = k; params = ps; is = record { decl = d; con = c; is_decl = b; is_con = x; place = q; eta = y }; head = refl; spine = flagged_is c.args es us i; as_many = flagged_length c.args es us i })

    by_con : (p : ℕ × ℕ) → con_place g k ≡ Some p → (d : FamDecl Term) → fam_decl g p.0 ≡ Some d → (o : Option (ConDecl Term)) → con_decl g k ≡ o
        → option_and_then (λ c. cond (d.eta && eqb p.1 0) (option_map (λ us. record { fam = p.0; values = us }) (flagged c.args es)) None) o ≡ Some v → IsValue g (Con k ps) es v
    by_con p a d b None x e = absurd cc
    by_con p a d b (Some c) x e =
        let h = cond_some (d.eta && eqb p.1 0) (option_map (λ us. record { fam = p.0; values = us }) (flagged c.args es)) v e in
        let t = and_true d.eta (eqb p.1 0) h.0 in
        at_values p a d b c x t.0 t.1 (flagged c.args es) refl h.1

    by_family : (p : ℕ × ℕ) → con_place g k ≡ Some p → (o : Option (FamDecl Term)) → fam_decl g p.0 ≡ o
        → option_and_then (λ d. option_and_then (λ c. cond (d.eta && eqb p.1 0) (option_map (λ us. record { fam = p.0; values = us }) (flagged c.args es)) None) (con_decl g k)) o ≡ Some v → IsValue g (Con k ps) es v
    by_family p a None b e = absurd cc
    by_family p a (Some d) b e = by_con p a d b (con_decl g k) refl e

    by_place : (o : Option (ℕ × ℕ)) → con_place g k ≡ o
        → option_and_then (λ p. option_and_then (λ d. option_and_then (λ c. cond (d.eta && eqb p.1 0) (option_map (λ us. record { fam = p.0; values = us }) (flagged c.args es)) None) (con_decl g k)) (fam_decl g p.0)) o ≡ Some v → IsValue g (Con k ps) es v
    by_place None a e = absurd cc
    by_place (Some p) a e = by_family p a (fam_decl g p.0) refl e
