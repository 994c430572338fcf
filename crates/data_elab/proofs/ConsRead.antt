-- The constructors of a data type, line after line.
use Rattle.std.proofs.Common.{◌≡◌, ◌<◌, ℕ, List, [], ◌∷◌, ◌++◌, append_assoc, length, map, refl, sym, ap, subst, ◌∙◌}
use Rattle.std.specs.List.{AllByRecursion}
use Rattle.std.proofs.lemmas.List.{append-nil, map-append}
use Rattle.el_base.proofs.Throughout.{all-append, all-weaker, map-same}
use Rattle.core_rules.specs.Term.{Term}
use Rattle.core_rules.specs.Signature.{ConDecl, Entry, FamDecl}
use Rattle.core_rules.specs.Mapped.{AllCon, AllEntries, con_map, telescope_map}
use Rattle.term_pool.specs.Pool.{Pool, Extends, tree}
use Rattle.declared_types.proofs.Grown.{con-stays, con-within}
use Rattle.kernel_rules.specs.Outcome.{Outcome, Gives, Refuses}
use Rattle.resolved_tree.specs.declared.resolved.ResolvedSignature.{ResolvedSignature}
use Rattle.data_rules.specs.Families.{line_meaning}
use Rattle.data_rules.specs.Refusals.{Refusal}
use Rattle.data_rules.specs.Reading.{Reads, ◌>>=◌, gives}
use Rattle.data_rules.specs.Rules.{LineMeaning, con_line, con_lines, con_named}
use Rattle.data_elab.specs.declared.constructors.Line as L
use Rattle.data_elab.specs.declared.error.DataError.{DataError}
use Rattle.data_elab.specs.declared.heading.Heading.{Heading}
use Rattle.data_elab.specs.declared.reader.Reader.{Reader}
use Rattle.data_elab.specs.Answers.{RefusedBy}
use Rattle.data_elab.specs.Constructors.{AreCons, IsLine, line_in, lines_in, named}
use Rattle.data_elab.specs.Heading.{IsHeading, heading_in}
use Rattle.data_elab.specs.Reader.{IsReady, Grows, Keeps, Over, Read, over, signature_of, term_of}
use Rattle.data_elab.proofs.Kept.{over_kept}
use Rattle.data_elab.proofs.Lines.{heading-stays}
use Rattle.data_elab.proofs.Reading.{read-first, read-next, refused-first, refused-weaker}

-- ---- constructors over a pool

pub cons-stay : (p q : Pool) (ks : List (ConDecl ℕ)) → Extends p q → AreCons p ks → map (con_map (tree q)) ks ≡ map (con_map (tree p)) ks
cons-stay p q ks h a = map-same (AllCon (λ t. t < length p.trees)) (con_map (tree q)) (con_map (tree p)) (λ k l. con-stays p q h k l) ks a

pub cons-weaker : (p q : Pool) (ks : List (ConDecl ℕ)) → Extends p q → AreCons p ks → AreCons q ks
cons-weaker p q ks h a = all-weaker (AllCon (λ t. t < length p.trees)) (AllCon (λ t. t < length q.trees)) (λ k l. con-within p q h k l) ks a

named-in : (f : ℕ → Term) (es : List (Entry ℕ)) (is : List ℕ) (xs : List ℕ) → map (con_map f) (map (named es is) xs) ≡ map (con_named (telescope_map f es) (map f is)) xs
named-in f es is [] = refl
named-in f es is (x ∷ xs) = ap (λ (ks : List (ConDecl Term)). con_named (telescope_map f es) (map f is) x ∷ ks) (named-in f es is xs)

named-within : (n : ℕ) (es : List (Entry ℕ)) (is : List ℕ) → AllEntries (λ t. t < n) es → AllByRecursion (λ t. t < n) is → (xs : List ℕ) → AllByRecursion (AllCon (λ t. t < n)) (map (named es is) xs)
named-within n es is a b [] = tt
named-within n es is a b (x ∷ xs) = (record { args = a; indices = b }, named-within n es is a b xs)

pub cons-joined : (p q : Pool) (ks new : List (ConDecl ℕ)) (l : L.Line) (xs : List ℕ) → Extends p q → AreCons p ks → new ≡ ks ++ map (named l.args.items l.indices.items) xs → map (con_map (tree q)) new ≡ map (con_map (tree p)) ks ++ line_in xs q l
cons-joined p q ks new l xs h a is =
    ap (map (con_map (tree q))) is ∙ (map-append (con_map (tree q)) ks (map (named l.args.items l.indices.items) xs)
    ∙ (ap (λ (cs : List (ConDecl Term)). cs ++ map (con_map (tree q)) (map (named l.args.items l.indices.items) xs)) (cons-stay p q ks h a)
    ∙ ap (λ (cs : List (ConDecl Term)). map (con_map (tree p)) ks ++ cs) (named-in (tree q) l.args.items l.indices.items xs)))

pub cons-within : (p q : Pool) (ks new : List (ConDecl ℕ)) (l : L.Line) (xs : List ℕ) → Extends p q → AreCons p ks → IsLine q l → new ≡ ks ++ map (named l.args.items l.indices.items) xs → AreCons q new
cons-within p q ks new l xs h a w is =
    rw is (all-append (AllCon (λ t. t < length q.trees)) ks (map (named l.args.items l.indices.items) xs) (cons-weaker p q ks h a) (named-within (length q.trees) l.args.items l.indices.items w.args w.indices xs))

-- ---- the lines

abbrev pub behind : List (ConDecl Term) → Outcome Refusal (List (ConDecl Term)) → Outcome Refusal (List (ConDecl Term))
behind ks (Gives ls) = Gives (ks ++ ls)
behind ks (Refuses e) = Refuses e

behind-none : (r : Outcome Refusal (List (ConDecl Term))) → behind [] r ≡ r
behind-none (Gives ls) = refl
behind-none (Refuses e) = refl

behind-twice : (ks ls : List (ConDecl Term)) (r : Outcome Refusal (List (ConDecl Term))) → behind ks (behind ls r) ≡ behind (ks ++ ls) r
behind-twice ks ls (Gives ms) = ap (λ (ns : List (ConDecl Term)). Gives ns) (sym (append_assoc ks ls ms))
behind-twice ks ls (Refuses e) = refl

module _ (o : Over) (n : ℕ) (d : FamDecl Term) (m : LineMeaning) (ms : List LineMeaning) where
  abbrev rest : List (ConDecl Term) → Reads (List (ConDecl Term))
  rest ks = con_lines n d ms >>= (λ ls. gives (ks ++ ls))

  lines-next : (ks : List (ConDecl Term)) → Read o (con_line n d m) (Gives ks) → (r : Outcome Refusal (List (ConDecl Term))) → Read o (con_lines n d ms) r → Read o (con_lines n d (m ∷ ms)) (behind ks r)
  lines-next ks h r k = read-next o (con_line n d m) rest ks (behind ks r) h (last r k)
    where
      last : (r : Outcome Refusal (List (ConDecl Term))) → Read o (con_lines n d ms) r → Read o (rest ks) (behind ks r)
      last (Gives ls) k = read-next o (con_lines n d ms) (λ ls. gives (ks ++ ls)) ls (Gives (ks ++ ls)) k refl
      last (Refuses e) k = read-first o (con_lines n d ms) (λ ls. gives (ks ++ ls)) e k

abbrev pub Readings : Over → Reads (List (ConDecl Term)) → ℕ → FamDecl Term → List (ConDecl Term) → List LineMeaning → Type 0
Readings o all n d ks ms = (r : Outcome Refusal (List (ConDecl Term))) → Read o (con_lines n d ms) r → Read o all (behind ks r)

pub none-read : (o : Over) (n : ℕ) (d : FamDecl Term) (ms : List LineMeaning) (ks : List (ConDecl Term)) → ks ≡ [] → Readings o (con_lines n d ms) n d ks ms
none-read o n d ms ks none r h = subst (λ cs. Read o (con_lines n d ms) (behind cs r)) (sym none) (subst (λ q. Read o (con_lines n d ms) q) (sym (behind-none r)) h)

pub all-read : (o : Over) (all : Reads (List (ConDecl Term))) (n : ℕ) (d : FamDecl Term) (ks : List (ConDecl Term)) (ms : List LineMeaning) → Readings o all n d ks ms → ms ≡ [] → Read o all (Gives ks)
all-read o all n d ks ms s none =
    let base : Read o (con_lines n d []) (Gives []) = refl in
    subst (λ cs. Read o all (Gives cs)) (append-nil ks) (s (Gives []) (subst (λ xs. Read o (con_lines n d xs) (Gives [])) (sym none) base))

-- x is the reader at the start, y the one before the line s
module _ (x y : Reader) (rx : IsReady x) (gx : Grows x y) (kx : Keeps x y) (fam : ℕ) (head : Heading) (is : IsHeading x.pool.now head) (all : Reads (List (ConDecl Term))) (ks : List (ConDecl ℕ))
    (left more : List ResolvedSignature) (s : ResolvedSignature) (first : left ≡ s ∷ more) (reads : Readings (over x) all fam (heading_in x.pool.now head) (map (con_map (term_of y)) ks) (lines_in x left)) where
  abbrev D : FamDecl Term
  D = heading_in x.pool.now head

  here : (r : Outcome Refusal (List (ConDecl Term))) → Read (over y) (con_line fam (heading_in y.pool.now head) (line_meaning (signature_of y) s)) r → Read (over x) (con_line fam D (line_meaning (signature_of x) s)) r
  here r h =
      subst (λ (d : FamDecl Term). Read (over x) (con_line fam d (line_meaning (signature_of x) s)) r) (heading-stays x.pool.now y.pool.now head gx.extends is)
      (subst (λ (o : Over). Read o (con_line fam (heading_in y.pool.now head) (line_meaning o.signature s)) r) (over_kept rx gx kx) h)

  after : (r : Outcome Refusal (List (ConDecl Term))) → Read (over x) (con_lines fam D (lines_in x (s ∷ more))) r → Read (over x) all (behind (map (con_map (term_of y)) ks) r)
  after r h = reads r (subst (λ ss. Read (over x) (con_lines fam D (lines_in x ss)) r) (sym first) h)

  pub line-refused : (q : Pool) (e : DataError) → RefusedBy q (λ r. Read (over y) (con_line fam (heading_in y.pool.now head) (line_meaning (signature_of y) s)) (Refuses r)) e → RefusedBy q (λ r. Read (over x) all (Refuses r)) e
  line-refused q e h =
      refused-weaker q (λ r. Read (over x) (con_lines fam D (lines_in x (s ∷ more))) (Refuses r)) (λ r. Read (over x) all (Refuses r)) (λ r k. after (Refuses r) k) e
      (refused-first (over x) (con_line fam D (line_meaning (signature_of x) s)) (rest (over x) fam D (line_meaning (signature_of x) s) (lines_in x more)) q e
      (refused-weaker q (λ r. Read (over y) (con_line fam (heading_in y.pool.now head) (line_meaning (signature_of y) s)) (Refuses r)) (λ r. Read (over x) (con_line fam D (line_meaning (signature_of x) s)) (Refuses r)) (λ r k. here (Refuses r) k) e h))

  pub line-read : (ls new : List (ConDecl Term)) → Read (over y) (con_line fam (heading_in y.pool.now head) (line_meaning (signature_of y) s)) (Gives ls) → new ≡ map (con_map (term_of y)) ks ++ ls → Readings (over x) all fam D new (lines_in x more)
  line-read ls new h joined r k =
      subst (λ cs. Read (over x) all (behind cs r)) (sym joined)
      (subst (λ q. Read (over x) all q) (behind-twice (map (con_map (term_of y)) ks) ls r)
      (after (behind ls r) (lines-next (over x) fam D (line_meaning (signature_of x) s) (lines_in x more) ls (here (Gives ls) h) r k)))
