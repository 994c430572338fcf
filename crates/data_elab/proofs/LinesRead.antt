-- A line of constructors, as a reader reads it.
use Rattle.std.proofs.Common.{◌≡◌, ◌<◌, ◌≤◌, ℕ, List, [], length, map, sym, ap, subst}
use Rattle.core_rules.specs.Term.{Term}
use Rattle.core_rules.specs.Signature.{ConDecl, FamDecl}
use Rattle.core_rules.specs.Mapped.{AllEntries, telescope_map}
use Rattle.term_pool.specs.Pool.{Pool}
use Rattle.declared_types.proofs.Grown.{entries-weaker, telescope-stays}
use Rattle.kernel_rules.specs.Outcome.{Outcome, Gives, Refuses}
use Rattle.resolved_tree.specs.declared.resolved.ResolvedSignature.{ResolvedSignature}
use Rattle.written_rules.specs.Expressions.{expr_meaning, ids}
use Rattle.data_rules.specs.Families.{line_meaning}
use Rattle.data_rules.specs.Refusals.{Refusal, ConShape, TooBig, at}
use Rattle.data_rules.specs.Rules.{LineMeaning, con_line, con_named, inside, own_indices}
use Rattle.data_rules.specs.Shapes.{Shown, most_shown, telescope}
use Rattle.data_elab.specs.declared.error.DataError.{DataError}
use Rattle.data_elab.specs.declared.heading.Heading.{Heading}
use Rattle.data_elab.specs.declared.reader.Reader.{Reader}
use Rattle.data_elab.specs.declared.shapes.Ended as E
use Rattle.data_elab.specs.Answers.{RefusedBy}
use Rattle.data_elab.specs.Heading.{IsHeading, heading_in}
use Rattle.data_elab.specs.Shapes.{IsEnded, ended_in}
use Rattle.data_elab.specs.Reader.{IsReady, Grows, Keeps, Read, over, read_only, signature_of, term_of, values_of}
use Rattle.data_elab.proofs.Kept.{Grows-trans, Keeps-trans, over_kept}
use Rattle.data_elab.proofs.Lines.{heading-stays, line-gives, line-no_end, line-no_indices, line-no_type, line-too_big}
use Rattle.data_elab.proofs.Reading.{refused-weaker}

-- x is the reader before the line
module _ (x : Reader) (fam : ℕ) (head : Heading) (s : ResolvedSignature) (params : x.context.now.items ≡ head.params.items) where
  abbrev D : FamDecl Term
  D = heading_in x.pool.now head

  abbrev M : LineMeaning
  M = line_meaning (signature_of x) s

  abbrev Line : Outcome Refusal (List (ConDecl Term)) → Type 0
  Line r = Read (over x) (con_line fam D M) r

  values_are : values_of x ≡ inside D.params []
  values_are = ap (λ es. inside (telescope_map (term_of x) es) []) params

  abbrev Typed : Outcome Refusal (Term × ℕ) → Type 0
  Typed r = Read (over x) (read_only ((expr_meaning (signature_of x) s.ty).types (values_of x))) r

  typed : (r : Outcome Refusal (Term × ℕ)) → Typed r → Read (over x) (read_only (M.types (inside D.params []))) r
  typed r h = subst (λ vs. Read (over x) (read_only ((expr_meaning (signature_of x) s.ty).types vs)) r) values_are h

  pub read-line-no_type : (q : Pool) (e : DataError) → RefusedBy q (λ r. Typed (Refuses r)) e → RefusedBy q (λ r. Line (Refuses r)) e
  read-line-no_type q e h =
      line-no_type (over x) fam D M q e (refused-weaker q (λ r. Typed (Refuses r)) (λ r. Read (over x) (read_only (M.types (inside D.params []))) (Refuses r)) (λ r k. typed (Refuses r) k) e h)

  -- y is the reader after the type, which is id t
  module _ {y : Reader} (rx : IsReady x) (gx : Grows x y) (kx : Keeps x y) (t n : ℕ) (found : Typed (Gives (term_of y t, n))) where
    shown : (r : Outcome Refusal Shown) → Read (over y) (telescope s.place.pos ConShape most_shown (term_of y t)) r → Read (over x) (telescope s.place.pos ConShape most_shown (term_of y t)) r
    shown r h = subst (λ o. Read o (telescope s.place.pos ConShape most_shown (term_of y t)) r) (over_kept rx gx kx) h

    pub read-line-no_end : (q : Pool) (e : DataError) → RefusedBy q (λ r. Read (over y) (telescope s.place.pos ConShape most_shown (term_of y t)) (Refuses r)) e → RefusedBy q (λ r. Line (Refuses r)) e
    read-line-no_end q e h =
        line-no_end (over x) fam D M (term_of y t, n) (typed _ found) q e
        (refused-weaker q (λ r. Read (over y) (telescope s.place.pos ConShape most_shown (term_of y t)) (Refuses r)) (λ r. Read (over x) (telescope s.place.pos ConShape most_shown (term_of y t)) (Refuses r)) (λ r k. shown (Refuses r) k) e h)

    -- z is the reader after the end
    module _ {z : Reader} (gy : Grows y z) (ky : Keeps y z) (w : E.Ended) (ended : IsEnded z.pool.now w) (ends : Read (over y) (telescope s.place.pos ConShape most_shown (term_of y t)) (Gives (ended_in z.pool.now w))) (is : IsHeading x.pool.now head) where
      gz : Grows x z
      gz = Grows-trans gx gy

      abbrev S : Shown
      S = ended_in z.pool.now w

      indices : (r : Outcome Refusal (List Term)) → Read (over z) (own_indices s.place.pos fam (heading_in z.pool.now head) S) r → Read (over x) (own_indices s.place.pos fam D S) r
      indices r h =
          subst (λ (d : FamDecl Term). Read (over x) (own_indices s.place.pos fam d S) r) (heading-stays x.pool.now z.pool.now head gz.extends is)
          (subst (λ o. Read o (own_indices s.place.pos fam (heading_in z.pool.now head) S) r) (over_kept rx gz (Keeps-trans kx ky)) h)

      pub read-line-no_indices : (q : Pool) (e : DataError) → RefusedBy q (λ r. Read (over z) (own_indices s.place.pos fam (heading_in z.pool.now head) S) (Refuses r)) e → RefusedBy q (λ r. Line (Refuses r)) e
      read-line-no_indices q e h =
          line-no_indices (over x) fam D M (term_of y t, n) (typed _ found) S (shown _ ends) q e
          (refused-weaker q (λ r. Read (over z) (own_indices s.place.pos fam (heading_in z.pool.now head) S) (Refuses r)) (λ r. Read (over x) (own_indices s.place.pos fam D S) (Refuses r)) (λ r k. indices (Refuses r) k) e h)

      -- u is the reader after the indices
      module _ {u : Reader} (gu : Grows z u) (us : List ℕ) (own : Read (over z) (own_indices s.place.pos fam (heading_in z.pool.now head) S) (Gives (map (term_of u) us))) where
        pub read-line-too_big : head.level < n → Line (Refuses (at s.place.pos TooBig))
        read-line-too_big l = line-too_big (over x) fam D M (term_of y t, n) (typed _ found) S (shown _ ends) (map (term_of u) us) (indices _ own) l

        args_are : telescope_map (term_of u) w.entries.items ≡ S.entries
        args_are = telescope-stays z.pool.now u.pool.now w.entries.items gu.extends ended.entries

        pub read-line-gives : AllEntries (λ i. i < length u.pool.now.trees) w.entries.items × (n ≤ head.level → Line (Gives (map (con_named (telescope_map (term_of u) w.entries.items) (map (term_of u) us)) (ids s.names))))
        read-line-gives = (
          entries-weaker z.pool.now u.pool.now w.entries.items gu.extends ended.entries,
          λ l. subst (λ es. Line (Gives (map (con_named es (map (term_of u) us)) (ids s.names)))) (sym args_are)
              (line-gives (over x) fam D M (term_of y t, n) (typed _ found) S (shown _ ends) (map (term_of u) us) (indices _ own) l),
        )
