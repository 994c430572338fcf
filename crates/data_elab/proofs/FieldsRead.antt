-- The fields of a record, line after line.
use Rattle.std.proofs.Common.{◌≡◌, ◌<◌, ◌≤◌, ◌+◌, ◌-◌, ℕ, zero, suc, List, [], ◌∷◌, ◌++◌, length, map, drop, take, refl, sym, ap, subst, ◌∙◌, arith}
use Rattle.std.proofs.lemmas.List.{drop-map, length-drop, length-append, length-map, map-append}
use Rattle.std.proofs.Math.Seq.{drop-append_seam, take-length}
use Rattle.core_rules.specs.Signature.{Entry}
use Rattle.core_rules.specs.Mapped.{AllEntries, entry_map, telescope_map}
use Rattle.core_rules.specs.declared.Flag.TheVariants.{Explicit}
use Rattle.core_rules.specs.Term.{Term}
use Rattle.core_rules.specs.Signature.{Telescope}
use Rattle.term_pool.specs.Pool.{Pool}
use Rattle.kernel_rules.specs.Outcome.{Outcome, Gives, Refuses, ThenAs, goes_on, stops}
use Rattle.resolved_tree.specs.declared.resolved.ResolvedItem.{ResolvedItem}
use Rattle.resolved_tree.specs.declared.resolved.ResolvedSignature.{ResolvedSignature}
use Rattle.written_rules.specs.Asking.{Is}
use Rattle.written_rules.specs.Rules.{Values}
use Rattle.data_rules.specs.Families.{line_meaning, lines_of}
use Rattle.data_rules.specs.Refusals.{Refusal, TooBig, at}
use Rattle.data_rules.specs.Reading.{Reads, ◌>>=◌, gives}
use Rattle.data_rules.specs.Rules.{LineMeaning, field_line, field_lines, group, inside}
use Rattle.data_rules.specs.Shapes.{level_fits}
use Rattle.data_rules.proofs.Comes.{comes_then, then_comes}
use Rattle.data_elab.specs.declared.error.DataError.{DataError}
use Rattle.data_elab.specs.declared.reader.Reader.{Reader}
use Rattle.data_elab.specs.Answers.{RefusedBy}
use Rattle.data_elab.specs.Constructors.{lines_in}
use Rattle.data_elab.specs.Params.{AreEntered}
use Rattle.data_elab.specs.Reader.{IsReady, Grows, Keeps, Enters, Over, Read, over, read_only, signature_of, term_of, values_of}
use Rattle.data_elab.proofs.Entering.{AreRead, all-read, inside-append, kept_enters, more-read, no-prefix, prefixed, prefixed-twice, read-refused, values_entered}
use Rattle.data_elab.proofs.Kept.{over_same}
use Rattle.data_elab.proofs.Lines.{level-above, level-within}
use Rattle.data_elab.proofs.Reading.{expr-next, expr-refused, read-first, read-next, refused-first, refused-weaker}

-- ---- a line

module _ (o : Over) (l : ℕ) (vs : Values) (m : LineMeaning) where
  abbrev fitted : Term × ℕ → Reads (Telescope Term)
  fitted t = Is (level_fits m.pos l t.1) >>= (λ o. gives (group Explicit m.names t.0))

  pub field-no_type : (q : Pool) (e : DataError) → RefusedBy q (λ r. Read o (read_only (m.types vs)) (Refuses r)) e → RefusedBy q (λ r. Read o (field_line l vs m) (Refuses r)) e
  field-no_type q e h = expr-refused o (m.types vs) fitted q e h

  module _ (t : Term × ℕ) (found : Read o (read_only (m.types vs)) (Gives t)) where
    pub field-too_big : l < t.1 → Read o (field_line l vs m) (Refuses (at m.pos TooBig))
    field-too_big h = expr-next o (m.types vs) fitted t _ found (subst (λ v. Read o (Is v >>= (λ o. gives (group Explicit m.names t.0))) (Refuses (at m.pos TooBig))) (sym (level-above m.pos l t.1 h)) refl)

    pub field-gives : t.1 ≤ l → Read o (field_line l vs m) (Gives (group Explicit m.names t.0))
    field-gives h = expr-next o (m.types vs) fitted t _ found (subst (λ v. Read o (Is v >>= (λ o. gives (group Explicit m.names t.0))) (Gives (group Explicit m.names t.0))) (sym (level-within m.pos l t.1 h)) refl)

-- the fields of a line are entered after their type is read
pub field-entered : {x y z : Reader} → IsReady x → Grows x y → Keeps x y → (l : ℕ) (m : LineMeaning) (t n : ℕ) → Read (over x) (read_only (m.types (values_of x))) (Gives (term_of y t, n)) → n ≤ l → Enters y z (group Explicit m.names (term_of y t))
    → AreEntered x z (field_line l (values_of x) m)
field-entered {x} {y} {z} r g k l m t n h w e = record {
  entries = group Explicit m.names (term_of y t);
  enters = kept_enters r g k (group Explicit m.names (term_of y t)) e;
  is = field-gives (over x) l (values_of x) m (term_of y t, n) h w;
}

-- ---- lines

module _ (o : Over) (l : ℕ) where
  abbrev rest : Values → List LineMeaning → Telescope Term → Reads (Telescope Term)
  rest vs ms es = field_lines l (inside es vs) ms >>= (λ fs. gives (es ++ fs))

  last : (m : Reads (Telescope Term)) (es : Telescope Term) (r : Outcome Refusal (Telescope Term)) → Read o m r → Read o (m >>= (λ fs. gives (es ++ fs))) (prefixed es r)
  last m es (Gives fs) h = read-next o m (λ fs. gives (es ++ fs)) fs (Gives (es ++ fs)) h refl
  last m es (Refuses e) h = read-first o m (λ fs. gives (es ++ fs)) e h

  pub fields-next : (vs : Values) (m : LineMeaning) (ms : List LineMeaning) (es : Telescope Term) → Read o (field_line l vs m) (Gives es) → (r : Outcome Refusal (Telescope Term)) → Read o (field_lines l (inside es vs) ms) r → Read o (field_lines l vs (m ∷ ms)) (prefixed es r)
  fields-next vs m ms es h r k = read-next o (field_line l vs m) (rest vs ms) es (prefixed es r) h (last (field_lines l (inside es vs) ms) es r k)

  pub fields-refused : (vs : Values) (m : LineMeaning) (ms : List LineMeaning) (q : Pool) (e : DataError) → RefusedBy q (λ r. Read o (field_line l vs m) (Refuses r)) e → RefusedBy q (λ r. Read o (field_lines l vs (m ∷ ms)) (Refuses r)) e
  fields-refused vs m ms q e h = refused-first o (field_line l vs m) (rest vs ms) q e h

  -- ---- lines after others

  -- the fields of a line and of those after it
  record Split (vs : Values) (m : LineMeaning) (ms : List LineMeaning) (es : Telescope Term) : Type 0 where
    here : Telescope Term
    later : Telescope Term
    line : Read o (field_line l vs m) (Gives here)
    lines : Read o (field_lines l (inside here vs) ms) (Gives later)
    whole : es ≡ here ++ later

  split : (vs : Values) (m : LineMeaning) (ms : List LineMeaning) (es : Telescope Term) → Read o (field_lines l vs (m ∷ ms)) (Gives es) → Split vs m ms es
  split vs m ms es h = first (comes_then o.signature o.fuel o.depth (λ (e : Refusal). e) (field_line l vs m) (rest vs ms) (Gives es) h)
    where
      second : (fs : Telescope Term) → Read o (field_line l vs m) (Gives fs) → ThenAs (λ (e : Refusal). e) (Read o (field_lines l (inside fs vs) ms)) (λ gs. Read o (gives (fs ++ gs))) (Gives es) → Split vs m ms es
      second fs x (goes_on gs u v) = record { here = fs; later = gs; line = x; lines = u; whole = cc v }
      second fs x (stops e u v) = absurd cc

      first : ThenAs (λ (e : Refusal). e) (Read o (field_line l vs m)) (λ fs. Read o (rest vs ms fs)) (Gives es) → Split vs m ms es
      first (goes_on fs x y) = second fs x (comes_then o.signature o.fuel o.depth (λ (e : Refusal). e) (field_lines l (inside fs vs) ms) (λ gs. gives (fs ++ gs)) (Gives es) y)
      first (stops e x y) = absurd cc

  pub fields-more : (vs : Values) (ms ns : List LineMeaning) (es : Telescope Term) → Read o (field_lines l vs ms) (Gives es) → (r : Outcome Refusal (Telescope Term)) → Read o (field_lines l (inside es vs) ns) r → Read o (field_lines l vs (ms ++ ns)) (prefixed es r)
  fields-more vs [] ns es h r k =
      let none : es ≡ [] = cc h in
      subst (λ ds. Read o (field_lines l vs ns) (prefixed ds r)) (sym none) (no-prefix o (field_lines l vs ns) r (subst (λ ds. Read o (field_lines l (inside ds vs) ns) r) none k))
  fields-more vs (m ∷ ms) ns es h r k =
      let s = split vs m ms es h in
      let later : Read o (field_lines l (inside s.later (inside s.here vs)) ns) r = subst (λ us. Read o (field_lines l us ns) r) (ap (λ ds. inside ds vs) s.whole ∙ inside-append s.here s.later vs) k in
      subst (λ q. Read o (field_lines l vs (m ∷ (ms ++ ns))) q) (prefixed-twice s.here s.later r ∙ ap (λ ds. prefixed ds r) (sym s.whole))
      (fields-next vs m (ms ++ ns) s.here s.line (prefixed s.later r) (fields-more (inside s.here vs) ms ns s.later s.lines r later))

  -- where a line or one of those after it is refused
  no_more-by : (vs : Values) (m : LineMeaning) (ms ns : List LineMeaning) (e : Refusal) → Read o (field_lines l vs (m ∷ ms)) (Refuses e)
      → ((fs : Telescope Term) → Read o (field_lines l (inside fs vs) ms) (Refuses e) → Read o (field_lines l (inside fs vs) (ms ++ ns)) (Refuses e)) → Read o (field_lines l vs (m ∷ (ms ++ ns))) (Refuses e)
  no_more-by vs m ms ns e h again = first (comes_then o.signature o.fuel o.depth (λ (e : Refusal). e) (field_line l vs m) (rest vs ms) (Refuses e) h)
    where
      second : (fs : Telescope Term) → Read o (field_line l vs m) (Gives fs) → ThenAs (λ (e : Refusal). e) (Read o (field_lines l (inside fs vs) ms)) (λ gs. Read o (gives (fs ++ gs))) (Refuses e) → Read o (field_lines l vs (m ∷ (ms ++ ns))) (Refuses e)
      second fs x (goes_on gs u v) = absurd cc
      second fs x (stops d u v) = let same : d ≡ e = cc v in fields-next vs m (ms ++ ns) fs x (Refuses e) (again fs (subst (λ c. Read o (field_lines l (inside fs vs) ms) (Refuses c)) same u))

      first : ThenAs (λ (e : Refusal). e) (Read o (field_line l vs m)) (λ fs. Read o (rest vs ms fs)) (Refuses e) → Read o (field_lines l vs (m ∷ (ms ++ ns))) (Refuses e)
      first (goes_on fs x y) = second fs x (comes_then o.signature o.fuel o.depth (λ (e : Refusal). e) (field_lines l (inside fs vs) ms) (λ gs. gives (fs ++ gs)) (Refuses e) y)
      first (stops d x y) = then_comes o.signature o.fuel o.depth (λ (e : Refusal). e) (field_line l vs m) (rest vs (ms ++ ns)) (Refuses e) (stops d x y)

  pub fields-no_more : (vs : Values) (ms ns : List LineMeaning) (e : Refusal) → Read o (field_lines l vs ms) (Refuses e) → Read o (field_lines l vs (ms ++ ns)) (Refuses e)
  fields-no_more vs [] ns e h = absurd cc
  fields-no_more vs (m ∷ ms) ns e h = no_more-by vs m ms ns e h (λ fs k. fields-no_more (inside fs vs) ms ns e k)

-- ---- the loops: x is the reader at the start, y the one before what is read next

module _ {x y : Reader} (rx : IsReady x) (gx : Grows x y) (l : ℕ) (all : Reads (Telescope Term)) where
  -- a line
  module _ (left more : List ResolvedSignature) (s : ResolvedSignature) (first : left ≡ s ∷ more) (reads : AreRead x y (field_lines l (values_of y) (lines_in x left)) all) where
    line_over : over y ≡ over x
    line_over = over_same rx gx reads.enters.signature reads.enters.limits

    pub line-entered : {z : Reader} → AreEntered y z (field_line l (values_of y) (line_meaning (signature_of y) s)) → AreRead x z (field_lines l (values_of z) (lines_in x more)) all
    line-entered h =
        let es = h.entries in
        let vs = values_of y in
        let one : Read (over x) (field_line l vs (line_meaning (signature_of x) s)) (Gives es) = subst (λ (o : Over). Read o (field_line l vs (line_meaning o.signature s)) (Gives es)) line_over h.is in
        more-read es (field_lines l vs (lines_in x left)) (field_lines l _ (lines_in x more)) all reads h.enters
        (λ r k. subst (λ (ss : List ResolvedSignature). Read (over x) (field_lines l vs (lines_in x ss)) (prefixed es r)) (sym first)
        (fields-next (over x) l vs (line_meaning (signature_of x) s) (lines_in x more) es one r (subst (λ (us : Values). Read (over x) (field_lines l us (lines_in x more)) r) (values_entered es h.enters) k)))

    pub line-not_entered : (q : Pool) (e : DataError) → RefusedBy q (λ r. Read (over y) (field_line l (values_of y) (line_meaning (signature_of y) s)) (Refuses r)) e → RefusedBy q (λ r. Read (over x) all (Refuses r)) e
    line-not_entered q e h =
        let vs = values_of y in
        read-refused (field_lines l vs (lines_in x left)) all reads q e
        (subst (λ (ss : List ResolvedSignature). RefusedBy q (λ r. Read (over x) (field_lines l vs (lines_in x ss)) (Refuses r)) e) (sym first)
        (fields-refused (over x) l vs (line_meaning (signature_of x) s) (lines_in x more) q e (subst (λ (o : Over). RefusedBy q (λ r. Read o (field_line l vs (line_meaning o.signature s)) (Refuses r)) e) line_over h)))

  -- a block
  module _ (left more : List ResolvedItem) (ss : List ResolvedSignature) (first : lines_of left ≡ ss ++ lines_of more) (reads : AreRead x y (field_lines l (values_of y) (lines_in x (lines_of left))) all) where
    block_over : over y ≡ over x
    block_over = over_same rx gx reads.enters.signature reads.enters.limits

    block_first : lines_in x ss ++ lines_in x (lines_of more) ≡ lines_in x (lines_of left)
    block_first = sym (ap (lines_in x) first ∙ map-append (line_meaning (signature_of x)) ss (lines_of more))

    pub block-entered : {z : Reader} → AreEntered y z (field_lines l (values_of y) (lines_in y ss)) → AreRead x z (field_lines l (values_of z) (lines_in x (lines_of more))) all
    block-entered h =
        let es = h.entries in
        let vs = values_of y in
        let ms = lines_in x ss in
        let ns = lines_in x (lines_of more) in
        let one : Read (over x) (field_lines l vs ms) (Gives es) = subst (λ (o : Over). Read o (field_lines l vs (map (line_meaning o.signature) ss)) (Gives es)) block_over h.is in
        more-read es (field_lines l vs (lines_in x (lines_of left))) (field_lines l _ ns) all reads h.enters
        (λ r k. subst (λ (ls : List LineMeaning). Read (over x) (field_lines l vs ls) (prefixed es r)) block_first
        (fields-more (over x) l vs ms ns es one r (subst (λ (us : Values). Read (over x) (field_lines l us ns) r) (values_entered es h.enters) k)))

    pub block-not_entered : (q : Pool) (e : DataError) → RefusedBy q (λ r. Read (over y) (field_lines l (values_of y) (lines_in y ss)) (Refuses r)) e → RefusedBy q (λ r. Read (over x) all (Refuses r)) e
    block-not_entered q e h =
        let vs = values_of y in
        let ms = lines_in x ss in
        let ns = lines_in x (lines_of more) in
        read-refused (field_lines l vs (lines_in x (lines_of left))) all reads q e
        (subst (λ (ls : List LineMeaning). RefusedBy q (λ r. Read (over x) (field_lines l vs ls) (Refuses r)) e) block_first
        (refused-weaker q (λ r. Read (over x) (field_lines l vs ms) (Refuses r)) (λ r. Read (over x) (field_lines l vs (ms ++ ns)) (Refuses r)) (λ r k. fields-no_more (over x) l vs ms ns r k) e
        (subst (λ (o : Over). RefusedBy q (λ r. Read o (field_lines l vs (map (line_meaning o.signature) ss)) (Refuses r)) e) block_over h)))

pub lines-entered : {x y : Reader} (l : ℕ) (ms : List LineMeaning) (all : Reads (Telescope Term)) → ms ≡ [] → AreRead x y (field_lines l (values_of y) ms) all → AreEntered x y all
lines-entered {x} {y} l ms all none s =
    let base : Read (over x) (field_lines l (values_of y) []) (Gives []) = refl in
    all-read (field_lines l (values_of y) ms) all (subst (λ ns. Read (over x) (field_lines l (values_of y) ns) (Gives [])) (sym none) base) s

-- ---- the fields, which are the entries after the parameters

all-drop : (n m : ℕ) (es : List (Entry ℕ)) → AllEntries (λ t. t < m) es → AllEntries (λ t. t < m) (drop n es)
all-drop zero m es a = a
all-drop (suc n) m [] a = tt
all-drop (suc n) m (e ∷ es) a = all-drop n m es a.1

module _ {x y : Reader} (m : Reads (Telescope Term)) (h : AreEntered x y m) (start : ℕ) (count : start ≡ length x.context.now.items) where
  pub fields-count : start ≤ length y.context.now.items
  fields-count =
      let a : length (telescope_map (term_of x) x.context.now.items) ≡ length x.context.now.items = length-map x.context.now.items (entry_map (term_of x)) in
      let b : length (telescope_map (term_of y) y.context.now.items) ≡ length y.context.now.items = length-map y.context.now.items (entry_map (term_of y)) in
      let c : length (telescope_map (term_of y) y.context.now.items) ≡ length (telescope_map (term_of x) x.context.now.items) + length h.entries = ap length h.enters.context ∙ length-append (telescope_map (term_of x) x.context.now.items) h.entries in
      omega (arith, a, b, c, count)

  pub fields-answer : (es : List (Entry ℕ)) → es ≡ drop start y.context.now.items → AllEntries (λ t. t < length y.pool.now.trees) es × Read (over x) m (Gives (telescope_map (term_of y) es))
  fields-answer es is =
      let xs : Telescope Term = telescope_map (term_of x) x.context.now.items in
      let a : start ≡ length xs = count ∙ sym (length-map x.context.now.items (entry_map (term_of x))) in
      let b : telescope_map (term_of y) es ≡ h.entries =
      ap (telescope_map (term_of y)) is ∙ (sym (drop-map (entry_map (term_of y)) start y.context.now.items)
      ∙ (ap (λ (ds : Telescope Term). drop start ds) h.enters.context ∙ (ap (λ n. drop n (xs ++ h.entries)) a ∙ drop-append_seam xs h.entries))) in
      (rw is (all-drop start (length y.pool.now.trees) y.context.now.items h.enters.ready.context), subst (λ fs. Read (over x) m (Gives fs)) (sym b) h.is)

-- the items of a slice from one place on
pub slice-rest : (n : ℕ) (xs ys es : List (Entry ℕ)) → xs ≡ ys → es ≡ take (length xs - n) (drop n xs) → es ≡ drop n ys
slice-rest n xs ys es same is = is ∙ (ap (λ k. take k (drop n xs)) (sym (length-drop n xs)) ∙ (take-length (drop n xs) ∙ ap (drop n) same))
