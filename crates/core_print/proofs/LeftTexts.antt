-- The patterns of a left side, as they are written one after the other.
use Rattle.std.proofs.Common.{◌≡◌, ℕ, ◌+◌, ◌<◌, ◌≤◌, List, ◌++◌, length, drop, get_or, sym, ap, ap₂, ◌∙◌, append_assoc}
use Rattle.std.proofs.lemmas.List.{append-nil, length-map}
use Rattle.core_rules.specs.Term.{Term}
use Rattle.core_rules.specs.Signature.{CheckedLeft, CorePat, CorePats}
use Rattle.core_rules.specs.Mapped.{entry_map, left_map, pat_map, pats_map, telescope_map}
use Rattle.core_terms.specs.Patterns.{pats_of}
use Rattle.core_print.specs.Apart.{Text}
use Rattle.core_print.specs.LeftSide.{left_text, pat_text, pats_text, pattern_names, value_names}
use Rattle.core_print.specs.Names.{World, name_text}
use Rattle.core_print.specs.Variables.{WrittenVar, variables_all}
use Rattle.core_print.proofs.Collecting.{all-map, pats_next, pats_end}

module _ (w : World) (names : List (ℕ × Text)) (ns : List Text) (f : ℕ → Term) where
  pub text_next : (a b : Text) (ps : List (CorePat ℕ)) (i : ℕ) (p : CorePat ℕ) → i < length ps → p ≡ get_or ps i p → b ≡ a ++ pat_text w names ns (pat_map f p)
      → a ++ pats_text w names ns (pats_map f (pats_of (drop i ps))) ≡ b ++ pats_text w names ns (pats_map f (pats_of (drop (i + 1) ps)))
  text_next a b ps i p l e h =
      let rest : Text = pats_text w names ns (pats_map f (pats_of (drop (i + 1) ps))) in
      ap (λ (qs : CorePats ℕ). a ++ pats_text w names ns (pats_map f qs)) (pats_next ps i p l e)
      ∙ (sym (append_assoc a (pat_text w names ns (pat_map f p)) rest) ∙ ap (λ (x : Text). x ++ rest) (sym h))

  pub text_end : (a : Text) (ps : List (CorePat ℕ)) (i : ℕ) → length ps ≤ i → a ++ pats_text w names ns (pats_map f (pats_of (drop i ps))) ≡ a
  text_end a ps i l = ap (λ (qs : CorePats ℕ). a ++ pats_text w names ns (pats_map f qs)) (pats_end ps i l) ∙ append-nil a

-- the whole left side
pub left_is : (w : World) (f : ℕ) (h : ℕ → Term) (l : CheckedLeft ℕ) (vs : List WrittenVar) (bs : List (ℕ × Text)) (ns : List Text) (n : ℕ) (x y o : Text)
    → vs ≡ variables_all l.pats → bs ≡ pattern_names w vs → ns ≡ value_names bs n → n ≡ length l.context → x ≡ name_text w.names f → y ≡ pats_text w bs ns (pats_map h l.pats) → o ≡ x ++ y
    → o ≡ left_text w f (left_map h l)
left_is w f h l vs bs ns n x y o ev eb en el ex ey eo =
    let e1 : vs ≡ variables_all (pats_map h l.pats) = ev ∙ sym (all-map h l.pats) in
    let e2 : bs ≡ pattern_names w (variables_all (pats_map h l.pats)) = eb ∙ ap (pattern_names w) e1 in
    let e3 : ns ≡ value_names (pattern_names w (variables_all (pats_map h l.pats))) (length (telescope_map h l.context)) =
    en ∙ ap₂ value_names e2 (el ∙ sym (length-map l.context (entry_map h))) in
    eo ∙ (ap₂ (λ (a b : Text). a ++ b) ex ey ∙ ap₂ (λ (bs : List (ℕ × Text)) (ns : List Text). name_text w.names f ++ pats_text w bs ns (pats_map h l.pats)) e2 e3)
