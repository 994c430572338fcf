-- The values of fields, one after another.
use Rattle.std.proofs.Common.{◌≡◌, ◌<◌, ◌≤◌, ◌+◌, ◌-◌, ℕ, Bool, true, false, List, [], ◌∷◌, length, map, drop, get_or, set, refl, sym, ap, subst, ◌∙◌, arith}
use Rattle.std.specs.Prelude.{◌&&◌, cond, eqb, reverse, Option, Some, Result, Ok, Err}
use Rattle.std.specs.List.{list_all}
use Rattle.std.proofs.lemmas.List.{length-map, length-set, drop-set}
use Rattle.core_rules.specs.Term.{Term, App}
use Rattle.core_rules.specs.Substitution.{under}
use Rattle.core_rules.specs.Heads.{Answer}
use Rattle.core_rules.specs.Signature.{Entry, Signature, Telescope}
use Rattle.core_rules.specs.Elimination.{elims, args}
use Rattle.core_rules.specs.Mapped.{entry_map, telescope_map}
use Rattle.el_base.proofs.Lists.{drop_next}
use Rattle.std.specs.List.{AllByRecursion}
use Rattle.term_pool.specs.Placed.{items-stay}
use Rattle.term_pool.specs.Pool.{Pool}
use Rattle.kernel_rules.specs.Outcome.{Outcome, Gives, Refuses, Then, goes_on, stops}
use Rattle.el_outside.specs.declared.place.Pos.{Pos}
use Rattle.resolved_tree.specs.declared.resolved.ResolvedExpr.{ResolvedExpr}
use Rattle.resolved_tree.specs.declared.resolved.ResolvedValue.{ResolvedValue}
use Rattle.written_rules.specs.Expressions.{expr_meaning}
use Rattle.written_rules.specs.Refusals.{Refusal, at, BadField}
use Rattle.written_rules.specs.Asking.{Reads, Is, ◌>>=◌, gives}
use Rattle.written_rules.specs.Rules.{Values, Checks, ValueMeaning, are_fields, times, value_of, field_checked, fields_checked, wanted, record_shown, names_checked, record_checked, record_value}
use Rattle.written_rules.specs.Rules as rules
use Rattle.written_rules.proofs.Comes.{comes_then, comes_gives}
use Rattle.elab_machine.specs.declared.error.WrittenError.{WrittenError}
use Rattle.elab_machine.specs.declared.error.WrittenError.TheVariants as W
use Rattle.elab_machine.specs.declared.record.AtRecord.{AtRecord}
use Rattle.elab_machine.specs.declared.labels.Label.{Label}
use Rattle.elab_machine.specs.Answers.{RefusedBy}
use Rattle.elab_machine.specs.Labels.{is_once, labelled}
use Rattle.elab_machine.specs.declared.record.Put.{Put}
use Rattle.elab_machine.specs.declared.writer.Writer.{Writer}
use Rattle.elab_machine.specs.Records.{AnswersAt, AnswersRecord, AreLabels, IsPut, fields_put, record_put, record_wanted, values_meant}
use Rattle.elab_machine.specs.Writer.{IsReady, Grows, Keeps, Over, Read, over, term_of, values_of, signature_of}
use Rattle.elab_machine.proofs.Items.{all-set}
use Rattle.elab_machine.proofs.Kept.{over_kept, values_kept, term_kept}
use Rattle.elab_machine.proofs.Reading.{read-next, read-first, refused-weaker}
use Rattle.elab_machine.proofs.Labelled.{meanings, once-times}

-- the test of labels is that of the rules
pub fields-tested : (g : Signature Term) (m : List (ℕ × Label)) (vs : List ResolvedValue) (es : Telescope Term) → AreLabels m vs
    → are_fields es (meanings g vs) ≡ (eqb (length vs) (length es) && list_all (λ e. is_once (labelled m e.name)) es)
fields-tested g m vs es l = ap (λ n. eqb n (length es) && list_all (λ e. eqb (times e.name (meanings g vs)) 1) es) (length-map vs _) ∙ ap (λ b. eqb (length vs) (length es) && b) (all es)
  where
    all : (es : Telescope Term) → list_all (λ e. eqb (times e.name (meanings g vs)) 1) es ≡ list_all (λ e. is_once (labelled m e.name)) es
    all [] = refl
    all (e ∷ es) = ap (λ b. b && list_all (λ e. eqb (times e.name (meanings g vs)) 1) es) (once-times g e.name 0 vs ∙ sym (ap is_once (l e.name))) ∙ ap (λ b. is_once (labelled m e.name) && b) (all es)

module _ (o : Over) (p : Pos) (vs : Values) (ms : List ValueMeaning) where
  abbrev put : Telescope Term → Term → List Term → Reads Term
  put es t us = gives (elims t (args es us))

  module _ (e : Entry Term) (es : Telescope Term) (r : List Term) (t : Term) where
    abbrev pub first : Reads Term
    first = field_checked p (value_of e.name ms) vs (under r e.ty)

    abbrev rest : Term → Reads (List Term)
    rest u = fields_checked p vs ms es (u ∷ r) >>= (λ us. gives (u ∷ us))

    -- the value of a field, and then of the others
    pub field-next : (u : Term) (q : Outcome Refusal Term) → Read o first (Gives u) → Read o (fields_put p vs ms es (u ∷ r) (App e.flag t u)) q → Read o (fields_put p vs ms (e ∷ es) r t) q
    field-next u q h k = of q (comes_then o.signature o.fuel o.depth (fields_checked p vs ms es (u ∷ r)) (put es (App e.flag t u)) q k)
      where
        of : (q : Outcome Refusal Term) → Then (Read o (fields_checked p vs ms es (u ∷ r))) (λ us. Read o (put es (App e.flag t u) us)) q → Read o (fields_put p vs ms (e ∷ es) r t) q
        of q (goes_on us m n) =
            let all : Read o (fields_checked p vs ms (e ∷ es) r) (Gives (u ∷ us)) = read-next o first rest u (Gives (u ∷ us)) h (read-next o (fields_checked p vs ms es (u ∷ r)) (λ us. gives (u ∷ us)) us (Gives (u ∷ us)) m refl) in
            read-next o (fields_checked p vs ms (e ∷ es) r) (put (e ∷ es) t) (u ∷ us) q all n
        of q (stops d m n) =
            let all : Read o (fields_checked p vs ms (e ∷ es) r) (Refuses d) = read-next o first rest u (Refuses d) h (read-first o (fields_checked p vs ms es (u ∷ r)) (λ us. gives (u ∷ us)) d m) in
            subst (Read o (fields_put p vs ms (e ∷ es) r t)) (sym n) (read-first o (fields_checked p vs ms (e ∷ es) r) (put (e ∷ es) t) d all)

    pub field-refused : (d : Refusal) → Read o first (Refuses d) → Read o (fields_put p vs ms (e ∷ es) r t) (Refuses d)
    field-refused d h = read-first o (fields_checked p vs ms (e ∷ es) r) (put (e ∷ es) t) d (read-first o first rest d h)

  pub fields-end : (r : List Term) (t : Term) → Read o (fields_put p vs ms [] r t) (Gives t)
  fields-end r t = refl

-- ---- the record

module _ (o : Over) (p : Pos) (vs : Values) (ms : List ValueMeaning) (b : Term) where
  abbrev put_in : rules.AtRecord → Reads Term
  put_in d = fields_checked p vs ms d.fields (reverse d.params) >>= (λ us. gives (record_value d us))

  abbrev named : rules.AtRecord → Reads Term
  named d = Is (names_checked p d ms) >>= (λ u. put_in d)

  abbrev after : Answer → Reads Term
  after w = Is (record_shown o.signature p w) >>= named

  abbrev is_at : Answer → Reads rules.AtRecord
  is_at w = Is (record_shown o.signature p w)

  -- what is no record of which there is a value
  pub no-record : (d : Refusal) → Read o (record_wanted o.signature p b) (Refuses d) → Read o (record_checked o.signature p ms vs b) (Refuses d)
  no-record d h = of (comes_then o.signature o.fuel o.depth (wanted p b) is_at (Refuses d) h)
    where
      of : Then (Read o (wanted p b)) (λ w. Read o (is_at w)) (Refuses d) → Read o (record_checked o.signature p ms vs b) (Refuses d)
      of (goes_on w m n) = read-next o (wanted p b) after w (Refuses d) m (subst (λ z. Read o (Is z >>= named) (Refuses d)) n refl)
      of (stops e m n) = let same : e ≡ d = cc in subst (λ z. Read o (record_checked o.signature p ms vs b) (Refuses z)) same (read-first o (wanted p b) after e m)

  module _ (d : rules.AtRecord) (is : Read o (record_wanted o.signature p b) (Gives d)) where
    at_named : (q : Outcome Refusal Term) → Read o (named d) q → Read o (record_checked o.signature p ms vs b) q
    at_named q k =
        let h = comes_gives o.signature o.fuel o.depth (wanted p b) is_at d is in
        read-next o (wanted p b) after h.0 q h.1 (subst (λ z. Read o (Is z >>= named) q) h.2 k)

    pub other-fields : are_fields d.fields ms ≡ false → Read o (record_checked o.signature p ms vs b) (Refuses (at p BadField))
    other-fields e = at_named (Refuses (at p BadField)) (subst (λ (c : Bool). Read o (Is (cond c (Gives tt) (Refuses (at p BadField))) >>= (λ u. put_in d)) (Refuses (at p BadField))) (sym e) refl)

    pub its-fields : are_fields d.fields ms ≡ true → (q : Outcome Refusal Term) → Read o (record_put p vs ms d) q → Read o (record_checked o.signature p ms vs b) q
    its-fields e q k = at_named q (subst (λ (c : Bool). Read o (Is (cond c (Gives tt) (Refuses (at p BadField))) >>= (λ u. put_in d)) q) (sym e) k)

-- what a head form is, by what its reading comes to
pub at-by : (q : Pool) (n : ℕ) (g : Signature Term) (K : Outcome Refusal rules.AtRecord → Type 0) (r : Outcome Refusal rules.AtRecord) → K r → (w : Result AtRecord WrittenError) → AnswersRecord q n g r w → AnswersAt q n g K w
at-by q n g K r k (Ok a) h = (h.0, subst K h.1 k)
at-by q n g K r k (Err (W.Refused e)) h = (h.0, subst K h.1 k)
at-by q n g K r k (Err W.NoMemory) h = tt

-- ---- one field more, in code

-- the value of field e as y reads it, with these values, under these terms
abbrev pub FieldRead : Pos → List ResolvedValue → Writer → Entry ℕ → List ℕ → Outcome Refusal Term → Type 0
FieldRead p values y e ts = Read (over y) (field_checked p (value_of e.name (values_meant (signature_of y) values)) (values_of y) (under (map (term_of y) ts) (term_of y e.ty)))

module _ {x y : Writer} (r : IsReady x) (g : Grows x y) (k : Keeps x y) (p : Pos) (values : List ResolvedValue) (d : rules.AtRecord) (fields : List (Entry ℕ)) (i : ℕ) (e : Entry ℕ) (within : i < length fields)
    (is : e ≡ get_or fields i e) (low : e.ty < length x.pool.now.trees) (ts : List ℕ) (t : ℕ)
    (reading : (q : Outcome Refusal Term) → Read (over x) (fields_put p (values_of x) (values_meant (signature_of x) values) (telescope_map (term_of x) (drop i fields)) (map (term_of y) ts) (term_of y t)) q
    → Read (over x) (record_put p (values_of x) (values_meant (signature_of x) values) d) q) where
  abbrev means : List ValueMeaning
  means = values_meant (signature_of x) values

  abbrev entry : Entry Term
  entry = entry_map (term_of x) e

  abbrev later : Telescope Term
  later = telescope_map (term_of x) (drop (i + 1) fields)

  at_field : telescope_map (term_of x) (drop i fields) ≡ entry ∷ later
  at_field = ap (telescope_map (term_of x)) (drop_next fields i e within is)

  abbrev value_read : Outcome Refusal Term → Type 0
  value_read = Read (over x) (first (over x) p (values_of x) means entry later (map (term_of y) ts) (term_of y t))

  before : (q : Outcome Refusal Term) → FieldRead p values y e ts q → value_read q
  before q h =
      let one = subst (λ (o : Over). Read o (field_checked p (value_of e.name (values_meant o.signature values)) (values_of y) (under (map (term_of y) ts) (term_of y e.ty))) q) (over_kept r g k) h in
      let two = subst (λ (vs : Values). Read (over x) (field_checked p (value_of e.name means) vs (under (map (term_of y) ts) (term_of y e.ty))) q) (values_kept r g k) one in
      subst (λ (a : Term). Read (over x) (field_checked p (value_of e.name means) (values_of x) (under (map (term_of y) ts) a)) q) (term_kept r g k e.ty low) two

  pub field-no : (q : Pool) (w : WrittenError) → RefusedBy q (λ d. FieldRead p values y e ts (Refuses d)) w → RefusedBy q (λ z. Read (over x) (record_put p (values_of x) means d) (Refuses z)) w
  field-no q w h = refused-weaker q (λ z. FieldRead p values y e ts (Refuses z)) (λ z. Read (over x) (record_put p (values_of x) means d) (Refuses z))
      (λ z j. reading (Refuses z) (subst (λ (es : Telescope Term). Read (over x) (fields_put p (values_of x) means es (map (term_of y) ts) (term_of y t)) (Refuses z)) (sym at_field)
      (field-refused (over x) p (values_of x) means entry later (map (term_of y) ts) (term_of y t) z (before (Refuses z) j)))) w h

  module _ {z : Writer} (gz : Grows y z) (w : Put) (h : IsPut z.pool.now e.flag (term_of y t) (λ u. FieldRead p values y e ts (Gives u)) w) (all : List ℕ) (new : all ≡ w.arg ∷ ts) (lows : AllByRecursion (λ n. n < length y.pool.now.trees) ts) where
    terms : map (term_of z) all ≡ term_of z w.arg ∷ map (term_of y) ts
    terms = ap (map (term_of z)) new ∙ ap (λ us. term_of z w.arg ∷ us) (items-stay y.pool.now z.pool.now ts gz.extends lows)

    pub field-yes : (q : Outcome Refusal Term) → Read (over x) (fields_put p (values_of x) means later (map (term_of z) all) (term_of z w.term)) q → Read (over x) (record_put p (values_of x) means d) q
    field-yes q j =
        let one = subst (λ (us : List Term). Read (over x) (fields_put p (values_of x) means later us (term_of z w.term)) q) terms j in
        let two = subst (λ (u : Term). Read (over x) (fields_put p (values_of x) means later (term_of z w.arg ∷ map (term_of y) ts) u) q) h.term.is one in
        reading q (subst (λ (es : Telescope Term). Read (over x) (fields_put p (values_of x) means es (map (term_of y) ts) (term_of y t)) q) (sym at_field)
        (field-next (over x) p (values_of x) means entry later (map (term_of y) ts) (term_of y t) (term_of z w.arg) q (before (Gives (term_of z w.arg)) h.is) two))

-- the terms with the value of the field before those that are there
pub put_before : (n start arg : ℕ) (env : List ℕ) → 0 < start → start ≤ length env → AllByRecursion (λ t. t < n) env → arg < n
    → AllByRecursion (λ t. t < n) (set env (start - 1) arg) × (length (set env (start - 1) arg) ≡ length env) × (drop (start - 1) (set env (start - 1) arg) ≡ arg ∷ drop start env)
put_before n start arg env pos within all low =
    let next : start - 1 + 1 ≡ start = omega (arith, pos) in (
      all-set (λ t. t < n) env (start - 1) arg all low,
      length-set env (start - 1) arg,
      drop-set env (start - 1) arg (omega (arith, pos, within)) ∙ ap (λ k. arg ∷ drop k env) next,
    )

-- the value of field e of x, as it is read after the type of the field
pub field-value : {x y : Writer} (r : IsReady x) (g : Grows x y) (k : Keeps x y) (p : Pos) (values : List ResolvedValue) (e : Entry ℕ) (ts : List ℕ) (v : ResolvedExpr) (a : ℕ) (q : Outcome Refusal Term)
    → Some (expr_meaning (signature_of x) v).checks ≡ value_of e.name (values_meant (signature_of x) values) → term_of y a ≡ under (map (term_of x) ts) (term_of x e.ty)
    → Read (over y) ((expr_meaning (signature_of y) v).checks (values_of y) (term_of y a)) q → FieldRead p values x e ts q
field-value {x} {y} r g k p values e ts v a q some type h =
    let one = subst (λ (o : Over). Read o ((expr_meaning o.signature v).checks (values_of y) (term_of y a)) q) (over_kept r g k) h in
    let two = subst (λ (vs : Values). Read (over x) ((expr_meaning (signature_of x) v).checks vs (term_of y a)) q) (values_kept r g k) one in
    let three = subst (λ (t : Term). Read (over x) ((expr_meaning (signature_of x) v).checks (values_of x) t) q) type two in
    subst (λ (c : Option Checks). Read (over x) (field_checked p c (values_of x) (under (map (term_of x) ts) (term_of x e.ty))) q) some three
