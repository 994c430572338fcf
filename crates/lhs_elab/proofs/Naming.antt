-- The arguments of a constructor under the names of their patterns, one after the other.
use Rattle.std.proofs.Common.{◌≡◌, ◌<◌, ℕ, drop, suc, ◌+◌, List, [], ◌∷◌, ◌++◌, length, map, refl, ap, ap₂, sym, subst, ◌∙◌, append_assoc, arith}
use Rattle.std.specs.Prelude.{Bool}
use Rattle.std.proofs.lemmas.List.{map-append}
use Rattle.std.proofs.Common.{append-nil}
use Rattle.el_base.proofs.Throughout.{all-push}
use Rattle.core_rules.specs.Term.{Term}
use Rattle.core_rules.specs.Signature.{Entry, Origin, Signature, Telescope}
use Rattle.core_rules.specs.Mapped.{AllEntries, entry_map, telescope_map}
use Rattle.term_pool.specs.Pool.{Pool, tree}
use Rattle.resolved_tree.specs.declared.resolved.ResolvedPattern.{ResolvedPattern}
use Rattle.lhs_rules.specs.Spots.{inserted_by, name_by}
use Rattle.lhs_rules.specs.Rules.{ElimMeaning, Slot, all_inserted, slot_entries}
use Rattle.lhs_rules.specs.Patterns.{pattern_meaning}
use Rattle.lhs_elab.specs.Slots.{first_named, rest_by, slot_by, slots_of}

-- named so far: made, of which so many are hidden; flags, left and others are those that are left
pub record NamedSo (given : List (Entry ℕ)) (ws : List Bool) (ps : List ResolvedPattern) (made : List (Entry ℕ)) (hidden : ℕ) (flags : List Bool) (left : List ResolvedPattern) (others : List (Entry ℕ)) : Type 0 where
  pub entries : (g : Signature Term) (f : ℕ) (p : Pool) → telescope_map (tree p) made ++ slot_entries (slots_of flags (map (pattern_meaning g f) left)) (telescope_map (tree p) others) ≡ slot_entries (slots_of ws (map (pattern_meaning g f) ps)) (telescope_map (tree p) given)
  pub below : (m : ℕ) → AllEntries (λ t. t < m) given → AllEntries (λ t. t < m) made × AllEntries (λ t. t < m) others
  pub hidden_is : (g : Signature Term) (f : ℕ) → hidden + all_inserted (slots_of flags (map (pattern_meaning g f) left)) ≡ all_inserted (slots_of ws (map (pattern_meaning g f) ps))

pub named-first : (given : List (Entry ℕ)) (ws : List Bool) (ps : List ResolvedPattern) → NamedSo given ws ps [] 0 ws ps given
named-first given ws ps = record { entries = λ g f p. refl; below = λ m a. (tt, a); hidden_is = λ g f. omega arith }

module _ (given : List (Entry ℕ)) (ws : List Bool) (ps : List ResolvedPattern) (made : List (Entry ℕ)) (hidden : ℕ) (flags : List Bool) (left : List ResolvedPattern) (others : List (Entry ℕ)) (so : NamedSo given ws ps made hidden flags left others)
    (w : Bool) (rest : List Bool) (after : List ResolvedPattern) (more_hidden : ℕ) (o : Origin) (e : flags ≡ w ∷ rest) (origin : (g : Signature Term) (f : ℕ) → o ≡ (slot_by w (map (pattern_meaning g f) left)).origin)
    (r : (g : Signature Term) (f : ℕ) → map (pattern_meaning g f) after ≡ rest_by w (map (pattern_meaning g f) left)) (h : more_hidden ≡ hidden + inserted_by o) where
  hidden-next : (g : Signature Term) (f : ℕ) → more_hidden + all_inserted (slots_of rest (map (pattern_meaning g f) after)) ≡ all_inserted (slots_of ws (map (pattern_meaning g f) ps))
  hidden-next g f =
      let M = map (pattern_meaning g f) left in
      let a : all_inserted (slots_of flags M) ≡ inserted_by (slot_by w M).origin + all_inserted (slots_of rest (rest_by w M)) = ap (λ (fs : List Bool). all_inserted (slots_of fs M)) e in
      let b : all_inserted (slots_of rest (map (pattern_meaning g f) after)) ≡ all_inserted (slots_of rest (rest_by w M)) = ap (λ (ms : List ElimMeaning). all_inserted (slots_of rest ms)) (r g f) in
      let d : inserted_by o ≡ inserted_by (slot_by w M).origin = ap inserted_by (origin g f) in
      let k = so.hidden_is g f in
      omega (arith, a, b, d, k, h)

  -- an argument more
  pub named-next : (x y : Entry ℕ) (new : List (Entry ℕ)) (more : List (Entry ℕ)) → others ≡ x ∷ more → new ≡ made ++ y ∷ [] → y ≡ record x { name = name_by o x.name } → NamedSo given ws ps new more_hidden rest after more
  named-next x y new more q n z = record {
    entries = λ g f p.
        let M = map (pattern_meaning g f) left in
        let E : Telescope Term = telescope_map (tree p) more in
        let one : entry_map (tree p) y ≡ record (entry_map (tree p) x) { name = name_by (slot_by w M).origin x.name } =
        ap (entry_map (tree p)) z ∙ ap (λ (i : Origin). record (entry_map (tree p) x) { name = name_by i x.name }) (origin g f) in
        ap (λ (xs : List (Entry ℕ)). telescope_map (tree p) xs ++ slot_entries (slots_of rest (map (pattern_meaning g f) after)) E) n
        ∙ (ap (λ (xs : Telescope Term). xs ++ slot_entries (slots_of rest (map (pattern_meaning g f) after)) E) (map-append (entry_map (tree p)) made (y ∷ []))
        ∙ (append_assoc (telescope_map (tree p) made) (entry_map (tree p) y ∷ []) (slot_entries (slots_of rest (map (pattern_meaning g f) after)) E)
        ∙ (ap₂ (λ (v : Entry Term) (ms : List ElimMeaning). telescope_map (tree p) made ++ v ∷ slot_entries (slots_of rest ms) E) one (r g f)
        ∙ (ap₂ (λ (fs : List Bool) (xs : List (Entry ℕ)). telescope_map (tree p) made ++ slot_entries (slots_of fs M) (telescope_map (tree p) xs)) (sym e) (sym q) ∙ so.entries g f p))));
    below = λ m a.
        let b = so.below m a in
        let u : AllEntries (λ t. t < m) (x ∷ more) = subst (AllEntries (λ t. t < m)) q b.1 in (
          subst (AllEntries (λ t. t < m)) (sym n) (all-push (λ (v : Entry ℕ). v.ty < m) made y b.0 (subst (λ (v : Entry ℕ). v.ty < m) (sym z) u.0)),
          u.1,
        );
    hidden_is = hidden-next;
  }

  -- no argument is left
  pub named-none : others ≡ [] → NamedSo given ws ps made more_hidden rest after others
  named-none q = record {
    entries = λ g f p.
        let M = map (pattern_meaning g f) left in
        ap₂ (λ (xs : List (Entry ℕ)) (ms : List ElimMeaning). telescope_map (tree p) made ++ slot_entries (slots_of rest ms) (telescope_map (tree p) xs)) q (r g f)
        ∙ (ap (λ (xs : Telescope Term). telescope_map (tree p) made ++ xs) (none_left (slots_of rest (rest_by w M)))
        ∙ (ap₂ (λ (fs : List Bool) (xs : List (Entry ℕ)). telescope_map (tree p) made ++ slot_entries (slots_of fs M) (telescope_map (tree p) xs)) (sym e) (sym q) ∙ so.entries g f p));
    below = so.below;
    hidden_is = hidden-next;
  }
    where
      none_left : (qs : List Slot) → slot_entries qs [] ≡ []
      none_left [] = refl
      none_left (q ∷ qs) = refl

  pub named-step : (new more : List (Entry ℕ)) → new ≡ made ++ first_named o others → more ≡ drop 1 others → NamedSo given ws ps new more_hidden rest after more
  named-step new more n q = by_first others refl
    where
      by_first : (os : List (Entry ℕ)) → others ≡ os → NamedSo given ws ps new more_hidden rest after more
      by_first [] x =
          let z : new ≡ made = n ∙ (ap (λ (ys : List (Entry ℕ)). made ++ first_named o ys) x ∙ append-nil made) in
          let y : more ≡ [] = q ∙ ap (drop 1) x in
          subst (λ (ms : List (Entry ℕ)). NamedSo given ws ps ms more_hidden rest after more) (sym z) (subst (λ (ys : List (Entry ℕ)). NamedSo given ws ps made more_hidden rest after ys) (x ∙ sym y) (named-none x))
      by_first (y ∷ ys) x =
          named-next y (record y { name = name_by o y.name }) new more (x ∙ ap (λ (zs : List (Entry ℕ)). y ∷ zs) (sym (q ∙ ap (drop 1) x))) (n ∙ ap (λ (zs : List (Entry ℕ)). made ++ first_named o zs) x) refl

pub slot_entries-length : (qs : List Slot) (es : Telescope Term) → length (slot_entries qs es) ≡ length es
slot_entries-length [] es = refl
slot_entries-length (q ∷ qs) [] = refl
slot_entries-length (q ∷ qs) (e ∷ es) = ap suc (slot_entries-length qs es)
