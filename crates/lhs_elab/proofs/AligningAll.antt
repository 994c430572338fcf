-- All patterns of a constructor are aligned, argument by argument.
use Rattle.std.proofs.Common.{◌≡◌, ℕ, List, [], ◌∷◌, ◌++◌, refl, ap, ap₂, sym, ◌∙◌}
use Rattle.std.specs.Prelude.{Bool, map}
use Rattle.core_rules.specs.Term.{Term}
use Rattle.core_rules.specs.Signature.{Entry, Signature}
use Rattle.core_rules.specs.Mapped.{telescope_map}
use Rattle.kernel_rules.specs.Outcome.{Outcome, Gives, Refuses}
use Rattle.el_outside.specs.declared.place.Pos.{Pos}
use Rattle.term_pool.specs.Pool.{Pool, tree}
use Rattle.resolved_tree.specs.declared.resolved.ResolvedPattern.{ResolvedPattern}
use Rattle.lhs_rules.specs.Refusals.{Refusal}
use Rattle.lhs_rules.specs.Rules.{ElimMeaning, Slot, aligned, with_slot}
use Rattle.lhs_rules.specs.Patterns.{pattern_meaning}
use Rattle.lhs_elab.specs.Slots.{slot_by, rest_by, slots_of}

abbrev with_slots : List Slot → Outcome Refusal (List Slot) → Outcome Refusal (List Slot)
with_slots [] r = r
with_slots (q ∷ qs) r = with_slot q (with_slots qs r)

abbrev rest_of : List Bool → List ElimMeaning → List ElimMeaning
rest_of [] ms = ms
rest_of (w ∷ ws) ms = rest_of ws (rest_by w ms)

slots-more : (ws : List Bool) (w : Bool) (ms : List ElimMeaning) (r : Outcome Refusal (List Slot))
    → with_slots (slots_of (ws ++ w ∷ []) ms) r ≡ with_slots (slots_of ws ms) (with_slot (slot_by w (rest_of ws ms)) r)
slots-more [] w ms r = refl
slots-more (v ∷ ws) w ms r = ap (with_slot (slot_by v ms)) (slots-more ws w (rest_by v ms) r)

rest-more : (ws : List Bool) (w : Bool) (ms : List ElimMeaning) → rest_of (ws ++ w ∷ []) ms ≡ rest_by w (rest_of ws ms)
rest-more [] w ms = refl
rest-more (v ∷ ws) w ms = rest-more ws w (rest_by v ms)

slots-given : (qs : List Slot) → with_slots qs (Gives []) ≡ Gives qs
slots-given [] = refl
slots-given (q ∷ qs) = ap (with_slot q) (slots-given qs)

slots-refused : (qs : List Slot) (e : Refusal) → with_slots qs (Refuses e) ≡ Refuses e
slots-refused [] e = refl
slots-refused (q ∷ qs) e = ap (with_slot q) (slots-refused qs e)

-- the patterns ps at the entries es are aligned so far, at ws; left and others are those that are left
pub record AlignedSo (q : Pos) (ps : List ResolvedPattern) (es : List (Entry ℕ)) (ws : List Bool) (left : List ResolvedPattern) (others : List (Entry ℕ)) : Type 0 where
  pub rest : (g : Signature Term) (f : ℕ) → map (pattern_meaning g f) left ≡ rest_of ws (map (pattern_meaning g f) ps)
  pub is : (g : Signature Term) (f : ℕ) (p : Pool) → aligned g q (map (pattern_meaning g f) ps) (telescope_map (tree p) es) ≡ with_slots (slots_of ws (map (pattern_meaning g f) ps)) (aligned g q (map (pattern_meaning g f) left) (telescope_map (tree p) others))

pub aligned-first : (q : Pos) (ps : List ResolvedPattern) (es : List (Entry ℕ)) → AlignedSo q ps es [] ps es
aligned-first q ps es = record { rest = λ g f. refl; is = λ g f p. refl }

module _ (q : Pos) (ps : List ResolvedPattern) (es : List (Entry ℕ)) (ws : List Bool) (left : List ResolvedPattern) (others : List (Entry ℕ)) (so : AlignedSo q ps es ws left others) where
  -- one argument more
  pub aligned-next : (w : Bool) (new : List Bool) (e : Entry ℕ) (more : List (Entry ℕ)) (rest : List ResolvedPattern) → new ≡ ws ++ w ∷ [] → others ≡ e ∷ more
      → ((g : Signature Term) (f : ℕ) → map (pattern_meaning g f) rest ≡ rest_by w (map (pattern_meaning g f) left))
      → ((g : Signature Term) (f : ℕ) (p : Pool) → aligned g q (map (pattern_meaning g f) left) (telescope_map (tree p) (e ∷ more)) ≡ with_slot (slot_by w (map (pattern_meaning g f) left)) (aligned g q (rest_by w (map (pattern_meaning g f) left)) (telescope_map (tree p) more)))
      → AlignedSo q ps es new rest more
  aligned-next w new e more rest n o r s = record {
    rest = λ g f. r g f ∙ (ap (rest_by w) (so.rest g f) ∙ (sym (rest-more ws w (map (pattern_meaning g f) ps)) ∙ ap (λ (vs : List Bool). rest_of vs (map (pattern_meaning g f) ps)) (sym n)));
    is = λ g f p.
        let M = map (pattern_meaning g f) ps in
        so.is g f p
        ∙ (ap (λ (xs : List (Entry ℕ)). with_slots (slots_of ws M) (aligned g q (map (pattern_meaning g f) left) (telescope_map (tree p) xs))) o
        ∙ (ap (with_slots (slots_of ws M)) (s g f p)
        ∙ (ap₂ (λ (ms ns : List ElimMeaning). with_slots (slots_of ws M) (with_slot (slot_by w ms) (aligned g q ns (telescope_map (tree p) more)))) (so.rest g f) (sym (r g f))
        ∙ (sym (slots-more ws w M (aligned g q (map (pattern_meaning g f) rest) (telescope_map (tree p) more)))
        ∙ ap (λ (vs : List Bool). with_slots (slots_of vs M) (aligned g q (map (pattern_meaning g f) rest) (telescope_map (tree p) more))) (sym n)))));
  }

  -- what is left is refused
  pub aligned-stops : (g : Signature Term) (f : ℕ) (p : Pool) (e : Refusal) → aligned g q (map (pattern_meaning g f) left) (telescope_map (tree p) others) ≡ Refuses e
      → Refuses e ≡ aligned g q (map (pattern_meaning g f) ps) (telescope_map (tree p) es)
  aligned-stops g f p e h = sym (so.is g f p ∙ (ap (with_slots (slots_of ws (map (pattern_meaning g f) ps))) h ∙ slots-refused (slots_of ws (map (pattern_meaning g f) ps)) e))

  -- nothing is left
  pub aligned-ends : left ≡ [] → others ≡ [] → (g : Signature Term) (f : ℕ) (p : Pool) → Gives (slots_of ws (map (pattern_meaning g f) ps)) ≡ aligned g q (map (pattern_meaning g f) ps) (telescope_map (tree p) es)
  aligned-ends l o g f p =
      sym (so.is g f p ∙ (ap₂ (λ (ls : List ResolvedPattern) (os : List (Entry ℕ)). with_slots (slots_of ws (map (pattern_meaning g f) ps)) (aligned g q (map (pattern_meaning g f) ls) (telescope_map (tree p) os))) l o ∙ slots-given (slots_of ws (map (pattern_meaning g f) ps))))
