-- A line of constructors, read part by part.
use Rattle.std.proofs.Common.{◌≡◌, ◌<◌, ◌≤◌, ◌++◌, ℕ, List, [], length, map, refl, sym, ap, subst, ◌∙◌, true, false, arith}
use Rattle.std.specs.Prelude.{Option, Some, None, option_map, Bool, cond, ltb, Result}
use Rattle.std.specs.declared.vec.Vec.{Vec}
use Rattle.std.proofs.lemmas.Grind.{common_steps}
use Rattle.std.proofs.lemmas.List.{map-append}
use Rattle.core_rules.specs.Term.{Term}
use Rattle.core_rules.specs.Signature.{ConDecl, Entry, FamDecl}
use Rattle.core_rules.specs.Mapped.{entry_map, telescope_map}
use Rattle.term_pool.specs.Pool.{Pool, Extends, tree}
use Rattle.declared_types.proofs.Grown.{telescope-stays, entries-weaker}
use Rattle.kernel_rules.specs.Outcome.{Outcome, Gives, Refuses}
use Rattle.el_outside.specs.declared.place.Pos.{Pos}
use Rattle.written_rules.specs.Asking.{Is}
use Rattle.data_rules.specs.Refusals.{Refusal, ConShape, TooBig, at}
use Rattle.data_rules.specs.Reading.{Reads, ◌>>=◌, gives}
use Rattle.data_rules.specs.Rules.{LineMeaning, con_line, con_named, inside, own_indices}
use Rattle.data_rules.specs.Shapes.{Shown, arguments_or, level_fits, most_shown, own_arguments, own_params, telescope}
use Rattle.data_elab.specs.declared.error.DataError.{DataError}
use Rattle.data_elab.specs.declared.heading.Heading.{Heading}
use Rattle.data_elab.specs.Answers.{RefusedBy}
use Rattle.data_elab.specs.Heading.{IsHeading, heading_in}
use Rattle.data_elab.specs.Shapes.{AnswersTerms}
use Rattle.data_elab.specs.Reader.{Over, Read, read_only}
use Rattle.data_elab.proofs.Reading.{expr-next, expr-refused, expr-refused_next, read-next, refused-first, refused-next}

pub heading-stays : (p q : Pool) (h : Heading) → Extends p q → IsHeading p h → heading_in q h ≡ heading_in p h
heading-stays p q h e w =
    let a = telescope-stays p q h.params.items e w.params in
    let b = telescope-stays p q h.indices.items e w.indices in
    cc (a, b)

pub heading-weaker : (p q : Pool) (h : Heading) → Extends p q → IsHeading p h → IsHeading q h
heading-weaker p q h e w = record { params = entries-weaker p q h.params.items e w.params; indices = entries-weaker p q h.indices.items e w.indices }

pub heading-whole : (p : Pool) (h : Heading) (es : List (Entry ℕ)) → es ≡ h.params.items ++ h.indices.items → (heading_in p h).params ++ (heading_in p h).indices ≡ telescope_map (tree p) es
heading-whole p h es e = sym (ap (telescope_map (tree p)) e ∙ map-append (entry_map (tree p)) h.params.items h.indices.items)

-- ---- the end

module _ (o : Over) (p : Pos) (n : ℕ) (d : FamDecl Term) (s : Shown) where
  pub other-end : own_arguments n d s.end ≡ None → Read o (own_indices p n d s) (Refuses (at p ConShape))
  other-end e = subst (λ us. Read o (Is (arguments_or p us) >>= own_params p (length s.entries) (length d.params)) (Refuses (at p ConShape))) (sym e) refl

  pub own-end : {G : Type 0} (us : List Term) → own_arguments n d s.end ≡ Some us → (i k : ℕ) → i ≡ length s.entries → k ≡ length d.params → (q : Pool) (w : Result (Vec ℕ G) DataError)
      → AnswersTerms q (Read o (own_params p i k us)) w → AnswersTerms q (Read o (own_indices p n d s)) w
  own-end us e i k a b q w h =
      subst (λ vs. AnswersTerms q (Read o (Is (arguments_or p vs) >>= own_params p (length s.entries) (length d.params))) w) (sym e)
      (subst (λ j. AnswersTerms q (Read o (own_params p j (length d.params) us)) w) a (subst (λ j. AnswersTerms q (Read o (own_params p i j us)) w) b h))

-- ---- levels

pub level-above : (p : Pos) (l n : ℕ) → l < n → level_fits p l n ≡ Refuses (at p TooBig)
level-above p l n h = let e : ltb l n ≡ true = grind (arith, common_steps) in ap (λ (b : Bool). cond b (Refuses (at p TooBig)) (Gives tt)) e

pub level-within : (p : Pos) (l n : ℕ) → n ≤ l → level_fits p l n ≡ Gives tt
level-within p l n h = let e : ltb l n ≡ false = grind (arith, common_steps) in ap (λ (b : Bool). cond b (Refuses (at p TooBig)) (Gives tt)) e

-- ---- a line

module _ (o : Over) (n : ℕ) (d : FamDecl Term) (m : LineMeaning) where
  abbrev fitted : Term × ℕ → Shown → List Term → Reads (List (ConDecl Term))
  fitted t s us = Is (level_fits m.pos d.level t.1) >>= (λ o. gives (map (con_named s.entries us) m.names))

  abbrev indexed_by : Term × ℕ → Shown → Reads (List (ConDecl Term))
  indexed_by t s = own_indices m.pos n d s >>= fitted t s

  abbrev shown_by : Term × ℕ → Reads (List (ConDecl Term))
  shown_by t = telescope m.pos ConShape most_shown t.0 >>= indexed_by t

  abbrev line : Outcome Refusal (List (ConDecl Term)) → Type 0
  line r = Read o (con_line n d m) r

  pub line-no_type : (q : Pool) (e : DataError) → RefusedBy q (λ r. Read o (read_only (m.types (inside d.params []))) (Refuses r)) e → RefusedBy q (λ r. line (Refuses r)) e
  line-no_type q e h = expr-refused o (m.types (inside d.params [])) shown_by q e h

  module _ (t : Term × ℕ) (found : Read o (read_only (m.types (inside d.params []))) (Gives t)) where
    pub line-no_end : (q : Pool) (e : DataError) → RefusedBy q (λ r. Read o (telescope m.pos ConShape most_shown t.0) (Refuses r)) e → RefusedBy q (λ r. line (Refuses r)) e
    line-no_end q e h = expr-refused_next o (m.types (inside d.params [])) shown_by t found q e (refused-first o (telescope m.pos ConShape most_shown t.0) (indexed_by t) q e h)

    module _ (s : Shown) (ends : Read o (telescope m.pos ConShape most_shown t.0) (Gives s)) where
      pub line-no_indices : (q : Pool) (e : DataError) → RefusedBy q (λ r. Read o (own_indices m.pos n d s) (Refuses r)) e → RefusedBy q (λ r. line (Refuses r)) e
      line-no_indices q e h =
          expr-refused_next o (m.types (inside d.params [])) shown_by t found q e
          (refused-next o (telescope m.pos ConShape most_shown t.0) (indexed_by t) s ends q e (refused-first o (own_indices m.pos n d s) (fitted t s) q e h))

      module _ (us : List Term) (own : Read o (own_indices m.pos n d s) (Gives us)) where
        after : (r : Outcome Refusal (List (ConDecl Term))) → Read o (fitted t s us) r → line r
        after r h =
            expr-next o (m.types (inside d.params [])) shown_by t r found
            (read-next o (telescope m.pos ConShape most_shown t.0) (indexed_by t) s r ends (read-next o (own_indices m.pos n d s) (fitted t s) us r own h))

        pub line-too_big : d.level < t.1 → line (Refuses (at m.pos TooBig))
        line-too_big l = after (Refuses (at m.pos TooBig)) (subst (λ v. Read o (Is v >>= (λ o. gives (map (con_named s.entries us) m.names))) (Refuses (at m.pos TooBig))) (sym (level-above m.pos d.level t.1 l)) refl)

        pub line-gives : t.1 ≤ d.level → line (Gives (map (con_named s.entries us) m.names))
        line-gives l = after _ (subst (λ v. Read o (Is v >>= (λ o. gives (map (con_named s.entries us) m.names))) (Gives (map (con_named s.entries us) m.names))) (sym (level-within m.pos d.level t.1 l)) refl)

-- ---- terms that are looked for

pub none-found : {V : Type 0} (f : V → List Term) (o : Option V) (w : Option (List Term)) → option_map f o ≡ w → o ≡ None → w ≡ None
none-found f o w h e = sym h ∙ ap (option_map f) e

pub some-found : {V : Type 0} (f : V → List Term) (o : Option V) (v : V) (us : List Term) (w : Option (List Term)) → option_map f o ≡ w → o ≡ Some v → us ≡ f v → w ≡ Some us
some-found f o v us w h e same = sym h ∙ (ap (option_map f) e ∙ ap (λ ts. Some ts) (sym same))
