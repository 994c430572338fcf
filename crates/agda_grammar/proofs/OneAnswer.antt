-- A list of signs has one answer at most, and one that is refused has no derivation in which nothing is nested too deep.
use Rattle.std.proofs.Common.{◌≡◌, ◌≢◌, ℕ, zero, suc, ◌≤◌, ◌<◌, List, [], ◌∷◌, ◌++◌, length, Result, Ok, Err, refl, sym, ap, subst, ◌∙◌, append_assoc, arith}
use Rattle.std.proofs.lemmas.List.{append-nil, length-append}
use Rattle.el_outside.specs.declared.place.Pos.{Pos}
use Rattle.agda_grammar.specs.declared.error.ParseError.{ParseError}
use Rattle.agda_grammar.specs.declared.error.ParseError.TheVariants.{Bad, NoMemory}
use Rattle.agda_grammar.specs.declared.error.ParseKind.{ParseKind}
use Rattle.agda_grammar.specs.declared.error.ParseKind.TheVariants.{Unexpected, TooNested}
use Rattle.agda_grammar.specs.Nesting.{origin, shallow}
use Rattle.agda_grammar.specs.Reading.{IsCause, IsRefused, Settles, place_at, end_pos}
use Rattle.parse_laws.specs.Reading.{IsViable, IsWrong}
use Rattle.agda_grammar.specs.Signs.{Input}

module _ {D : Type 0} (f : D → Input → Input) where
  -- the front of a list that has a derivation is viable, and so is the front of what is viable
  viable_front : (d : D) (c r : Input) → f d [] ≡ c ++ r → IsViable f c
  viable_front d c r e = record { derivation = d; more = r; whole = e }

  shorter : (c r : Input) → IsViable f (c ++ r) → IsViable f c
  shorter c r v = record { derivation = v.derivation; more = r ++ v.more; whole = v.whole ∙ append_assoc c r v.more }

  -- of two fronts of a list the shorter is one of the longer
  record Within (c d : Input) : Type 0 where
    pub between : Input
    pub whole : d ≡ c ++ between

  within : (c r d s : Input) → c ++ r ≡ d ++ s → length c ≤ length d → Within c d
  within [] r d s e le = record { between = d; whole = refl }
  within (t ∷ c) r [] s e le = absurd (omega arith)
  within (t ∷ c) r (u ∷ d) s e le =
      let one : t ≡ u = cc in let tail : c ++ r ≡ d ++ s = cc in
      let w = within c r d s tail (omega arith) in record { between = w.between; whole = λ i. sym one i ∷ w.whole i }

  -- what is wrong is not in front of what is viable
  none_behind : (c rest d s : Input) → c ++ rest ≡ d ++ s → IsWrong f c rest → length c < length d → IsViable f d → ⊥
  none_behind c [] d s e w lt v = absurd (omega (arith, ap length e, length-append c [], length-append d s))
  none_behind c (t ∷ rest) d s e w lt v =
      let i = within (c ++ t ∷ []) rest d s (append_assoc c (t ∷ []) rest ∙ e) (omega (arith, length-append c (t ∷ []))) in
      w (shorter (c ++ t ∷ []) i.between (subst (IsViable f) i.whole v))

  same_back : (c r d s : Input) → c ++ r ≡ d ++ s → length c ≡ length d → r ≡ s
  same_back [] r [] s e l = e
  same_back [] r (u ∷ d) s e l = absurd (omega arith)
  same_back (t ∷ c) r [] s e l = absurd (omega arith)
  same_back (t ∷ c) r (u ∷ d) s e l = let tail : c ++ r ≡ d ++ s = cc in same_back c r d s tail (omega arith)

  underivable : (kind : ParseKind) (c rest : Input) → IsCause f kind c rest → (d : D) → c ++ rest ≡ f d [] → shallow origin (c ++ rest) ≡ length (c ++ rest) → ⊥
  underivable Unexpected c [] x d e s = x.1 d (sym e ∙ append-nil c)
  underivable Unexpected c (t ∷ rest) x d e s = x.1 (viable_front d (c ++ t ∷ []) rest (sym e ∙ sym (append_assoc c (t ∷ []) rest)))
  underivable TooNested c [] x d e s = absurd x
  underivable TooNested c (t ∷ rest) x d e s = absurd (omega (arith, x.1, s, length-append c (t ∷ rest)))

  module _ (text : List ℕ) (i : Input) where
    pub refused_underivable : (kind : ParseKind) (at : Pos) → IsRefused f text i kind at → (d : D) → i ≡ f d [] → shallow origin i ≡ length i → ⊥
    refused_underivable kind at r d e s = underivable kind r.front r.rest r.cause d (sym r.split ∙ e) (subst (λ (y : Input). shallow origin y ≡ length y) r.split s)

    -- the fronts of two refusals are equally long, and their kinds the same
    fronts : (k1 k2 : ParseKind) (c r d s : Input) → c ++ r ≡ d ++ s → IsCause f k1 c r → IsCause f k2 d s → (length c ≡ length d) × (k1 ≡ k2)
    fronts Unexpected Unexpected c r d s e x y = (go (none_behind c r d s e x.1) (none_behind d s c r (sym e) y.1), refl)
      where
        go : (length c < length d → IsViable f d → ⊥) → (length d < length c → IsViable f c → ⊥) → length c ≡ length d
        go p q = cases (length c) (length d) (λ lt. p lt y.0) (λ lt. q lt x.0)
          where
            cases : (m n : ℕ) → (m < n → ⊥) → (n < m → ⊥) → m ≡ n
            cases zero zero p q = refl
            cases zero (suc n) p q = absurd (p (omega arith))
            cases (suc m) zero p q = absurd (q (omega arith))
            cases (suc m) (suc n) p q = ap suc (cases m n (λ lt. p (omega arith)) (λ lt. q (omega arith)))
    fronts Unexpected TooNested c r d [] e x y = absurd y
    fronts Unexpected TooNested c r d (t ∷ s) e x y = absurd (none_behind c r (d ++ t ∷ []) s (e ∙ sym (append_assoc d (t ∷ []) s)) x.1 (omega (arith, x.2, y.1, ap (shallow origin) e, length-append d (t ∷ []))) y.0)
    fronts TooNested Unexpected c [] d s e x y = absurd x
    fronts TooNested Unexpected c (t ∷ r) d s e x y = absurd (none_behind d s (c ++ t ∷ []) r (sym e ∙ sym (append_assoc c (t ∷ []) r)) y.1 (omega (arith, y.2, x.1, ap (shallow origin) e, length-append c (t ∷ []))) x.0)
    fronts TooNested TooNested c [] d s e x y = absurd x
    fronts TooNested TooNested c (t ∷ r) d [] e x y = absurd y
    fronts TooNested TooNested c (t ∷ r) d (u ∷ s) e x y = (x.1 ∙ ap (shallow origin) e ∙ sym y.1, refl)

    one_refusal : (k1 k2 : ParseKind) (p1 p2 : Pos) → IsRefused f text i k1 p1 → IsRefused f text i k2 p2 → (p1 ≡ p2) × (k1 ≡ k2)
    one_refusal k1 k2 p1 p2 a b =
        let e : a.front ++ a.rest ≡ b.front ++ b.rest = sym a.split ∙ b.split in
        let h = fronts k1 k2 a.front a.rest b.front b.rest e a.cause b.cause in
        (a.place ∙ ap (place_at (end_pos text)) (same_back a.front a.rest b.front b.rest e h.0) ∙ sym b.place, h.1)

    pub one_answer : {A : Type 0} (g : D → A) (r s : Result A ParseError) → r ≢ Err NoMemory → s ≢ Err NoMemory → Settles f g text i r → Settles f g text i s → r ≡ s
    one_answer g (Ok x) (Ok y) m n a b = ap Ok (a.1 b.0.derivation b.0.signs ∙ sym b.0.gives)
    one_answer g (Ok x) (Err (Bad p kind)) m n a b = absurd (refused_underivable kind p b a.0.derivation a.0.signs a.0.within)
    one_answer g (Ok x) (Err NoMemory) m n a b = absurd (n refl)
    one_answer g (Err (Bad p kind)) (Ok y) m n a b = absurd (refused_underivable kind p a b.0.derivation b.0.signs b.0.within)
    one_answer g (Err (Bad p k1)) (Err (Bad q k2)) m n a b = let h = one_refusal k1 k2 p q a b in λ j. Err (Bad (h.0 j) (h.1 j))
    one_answer g (Err (Bad p kind)) (Err NoMemory) m n a b = absurd (n refl)
    one_answer g (Err NoMemory) s m n a b = absurd (m refl)
