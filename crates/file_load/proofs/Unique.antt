-- One thing at most is said of a text.
use Rattle.std.proofs.Common.{◌≡◌, ◌≢◌, ◌<◌, ℕ, List, [], ◌∷◌, length, take, Some, None, Ok, Err, refl, sym, ap, ◌∙◌, arith}
use Rattle.std.proofs.Common.{subst as along}
use Rattle.std.specs.Prelude.{Result}
use Rattle.std.specs.Str.{IsUtf8, IsValidUpTo}
use Rattle.std.proofs.lemmas.List.{take_all}
use Rattle.el_outside.specs.declared.Pos.{Pos}
use Rattle.el_outside.specs.Place.{pos_of}
use Rattle.agda_lexer.specs.declared.Lexed.{Lexed}
use Rattle.agda_lexer.specs.declared.LexKind.{LexKind}
use Rattle.agda_lexer.specs.Tokens.{lex_of}
use Rattle.agda_layout.specs.declared.laid.Laid.{Laid}
use Rattle.agda_layout.specs.Blocks.{laid}
use Rattle.agda_grammar.specs.declared.error.ParseKind.{ParseKind}
use Rattle.agda_grammar.specs.declared.error.ParseError.{ParseError}
use Rattle.agda_grammar.specs.declared.error.ParseError.TheVariants.{Bad, NoMemory}
use Rattle.agda_grammar.specs.Declarations.{file_then, file_tree}
use Rattle.agda_grammar.specs.Reading.{Settles}
use Rattle.agda_parser.specs.Laid.{laid_signs}
use Rattle.agda_grammar.proofs.OneAnswer.{one_answer as parsed_as}
use Rattle.source_tree.specs.declared.decl.Decl.{Decl}
use Rattle.source_tree.specs.declared.decl.File.{File}
use Rattle.resolved_tree.specs.declared.resolved.Resolved.{Resolved}
use Rattle.scope_check.specs.Answers.{Checked}
use Rattle.scope_table.specs.Known.{Known}
use Rattle.scope_check.proofs.DeclCases.{one_answer as resolved_once}
use Rattle.core_rules.specs.Term.{Term}
use Rattle.core_rules.specs.Signature.{Signature, Family}
use Rattle.session_text.specs.declared.error.LoadError.{LoadError}
use Rattle.session_text.specs.declared.error.LoadKind.TheVariants as kind
use Rattle.file_load.specs.Unbuilt.{in_file}
use Rattle.kernel_rules.specs.TermReading.{IsTypeOf}
use Rattle.kernel_rules.specs.FamilyReading.{FamilyOf}
use Rattle.kernel_rules.proofs.OneTerm.{one-is_type}
use Rattle.kernel_rules.proofs.OneDecl.{one-family}
use Rattle.data_rules.specs.Families.{IsFamily, WrittenFamilyOf}
use Rattle.data_rules.proofs.Exactly.{family-exactly}
use Rattle.written_rules.specs.Expressions.{WrittenTypeOf, expr_meaning}
use Rattle.written_rules.proofs.Comes.{comes_once}
use Rattle.resolved_tree.specs.declared.resolved.ResolvedSignature.{ResolvedSignature}
use Rattle.resolved_tree.specs.declared.resolved.Resolved.TheVariants as rd
use Rattle.file_load.specs.Kinds.{elab_kind, kernel_kind, family_kind, decl_kind}
use Rattle.file_load.specs.Passes.{error_at}
use Rattle.file_load.specs.Sizes.{terms_of}
use Rattle.file_load.specs.Lines.{Judgement, LineOf, LinesOf, FamilyDeclOf, DeclOf, added, postulates}
use Rattle.file_load.proofs.Passing.{passes_once}
use Rattle.file_load.specs.Load.{Declares, DeclaresFile, HasVerdict, IsInError, IsLexed, IsLoaded, IsParsed, Made, Outcome, Reads, Verdict, complete_report, lex_kind, parse_kind, place_of_byte}

-- ---- the stages

-- a text that is not UTF-8 is valid up to one byte
valid_once : (bs : List ℕ) (n m : ℕ) → IsValidUpTo bs n → IsValidUpTo bs m → n ≡ m
valid_once bs n m v w = by_order (v.longest m) (w.longest n)
  where
    by_order : (n < m → ¬ (IsUtf8 (take m bs))) → (m < n → ¬ (IsUtf8 (take n bs))) → n ≡ m
    by_order a b = grind (arith, no_less, no_more)
      where
        no_less : ¬ (n < m)
        no_less l = a l w.front

        no_more : ¬ (m < n)
        no_more l = b l v.front

not_valid : (bs : List ℕ) (n : ℕ) → IsUtf8 bs → IsValidUpTo bs n → ⊥
not_valid bs n u v = v.longest (length bs) v.short (along IsUtf8 (sym (take_all (length bs) bs (omega arith))) u)

lexed_once : {text : List ℕ} {l m : Lexed} → IsLexed text l → IsLexed text m → l ≡ m
lexed_once a b = let at_first = a.tokens in let at_second = b.tokens in cc

-- the parser has one answer
parsed_once : {text : List ℕ} {a b : Result File ParseError} → a ≢ Err NoMemory → b ≢ Err NoMemory → IsParsed text a → IsParsed text b → a ≡ b
parsed_once {text = text} {a = a} {b = b} na nb p q =
    let tokens : p.lexed ≡ q.lexed = lexed_once p.lexes q.lexes in
    let lays : laid p.lexed.tokens ≡ Ok q.signs = along (λ (l : Lexed). laid l.tokens ≡ Ok q.signs) (sym tokens) q.lays in
    let signs : p.signs ≡ q.signs = let first = p.lays in cc in
    let moved : Settles file_then (file_tree text) text (laid_signs p.lexed.tokens q.signs) b = along (λ (l : Lexed). Settles file_then (file_tree text) text (laid_signs l.tokens q.signs) b) (sym tokens) q.parses in
    parsed_as file_then text (laid_signs p.lexed.tokens p.signs) (file_tree text) a b na nb p.parses
    (along (λ (s : List Laid). Settles file_then (file_tree text) text (laid_signs p.lexed.tokens s) b) (sym signs) moved)

files_once : {text : List ℕ} {f g : File} → IsParsed text (Ok f) → IsParsed text (Ok g) → f ≡ g
files_once p q = let one = parsed_once (λ e. absurd cc) (λ e. absurd cc) p q in cc

abbrev failed : LoadError → Result File LoadError
failed e = Err e

token_once : (text : List ℕ) {p q : Pos} {j k : LexKind} → lex_of text ≡ Err (p, j) → lex_of text ≡ Err (q, k) → failed (error_at p (lex_kind j)) ≡ failed (error_at q (lex_kind k))
token_once text {p = p} {q = q} {j = j} {k = k} e d =
    let pair : (p, j) ≡ (q, k) = cc in
    ap (λ (t : Pos × LexKind). failed (error_at t.0 (lex_kind t.1))) pair

unbuilt_once : (text : List ℕ) {f g : File} {n m : ℕ} → f ≡ g → in_file f ≡ Some n → in_file g ≡ Some m → failed (error_at (place_of_byte text n) kind.Unsupported) ≡ failed (error_at (place_of_byte text m) kind.Unsupported)
unbuilt_once text same e d = cc

module _ {text : List ℕ} where
  not_lexed : {p : Pos} {k : LexKind} {l : Lexed} → lex_of text ≡ Err (p, k) → IsLexed text l → ⊥
  not_lexed e l = let tokens = l.tokens in absurd cc

  outside_once : {p q : Pos} {l m : Lexed} → IsLexed text l → laid l.tokens ≡ Err p → IsLexed text m → laid m.tokens ≡ Err q → failed (error_at p kind.Layout) ≡ failed (error_at q kind.Layout)
  outside_once l e m f = let same = lexed_once l m in cc

  not_laid : {p : Pos} {l : Lexed} {answer : Result File ParseError} → IsLexed text l → laid l.tokens ≡ Err p → IsParsed text answer → ⊥
  not_laid l e q = let same = lexed_once l q.lexes in let lays = q.lays in absurd cc

  refused_once : {p q : Pos} {j k : ParseKind} → IsParsed text (Err (Bad p j)) → IsParsed text (Err (Bad q k)) → failed (error_at p (parse_kind j)) ≡ failed (error_at q (parse_kind k))
  refused_once a b = let one = parsed_once (λ e. absurd cc) (λ e. absurd cc) a b in cc

  not_parsed : {p : Pos} {k : ParseKind} {file : File} → IsParsed text (Err (Bad p k)) → IsParsed text (Ok file) → ⊥
  not_parsed a b = let one = parsed_once (λ e. absurd cc) (λ e. absurd cc) a b in absurd cc

  not_built : {f g : File} {n : ℕ} → IsParsed text (Ok f) → in_file f ≡ Some n → IsParsed text (Ok g) → in_file g ≡ None → ⊥
  not_built p e q d = let same = files_once p q in absurd cc

  -- the constructors of Reads exclude each other, and each has one result
  reads_once : {a b : Result File LoadError} → Reads text a → Reads text b → a ≡ b
  reads_once (Reads.too_long h) (Reads.too_long h1) = refl
  reads_once (Reads.too_long h) (Reads.not_utf8 s1 v1) = absurd (omega (arith, h, s1))
  reads_once (Reads.too_long h) (Reads.no_token s1 u1 e1) = absurd (omega (arith, h, s1))
  reads_once (Reads.too_long h) (Reads.outside l1 e1) = absurd (omega (arith, h, l1.short))
  reads_once (Reads.too_long h) (Reads.no_file p1) = absurd (omega (arith, h, p1.lexes.short))
  reads_once (Reads.too_long h) (Reads.unbuilt p1 e1) = absurd (omega (arith, h, p1.lexes.short))
  reads_once (Reads.too_long h) (Reads.built p1 e1) = absurd (omega (arith, h, p1.lexes.short))
  reads_once (Reads.not_utf8 s v) (Reads.too_long h1) = absurd (omega (arith, h1, s))
  reads_once (Reads.not_utf8 s v) (Reads.not_utf8 s1 v1) = ap (λ n. Err (error_at (pos_of text n) kind.NotUtf8)) (valid_once text _ _ v v1)
  reads_once (Reads.not_utf8 s v) (Reads.no_token s1 u1 e1) = absurd (not_valid text _ u1 v)
  reads_once (Reads.not_utf8 s v) (Reads.outside l1 e1) = absurd (not_valid text _ l1.utf8 v)
  reads_once (Reads.not_utf8 s v) (Reads.no_file p1) = absurd (not_valid text _ p1.lexes.utf8 v)
  reads_once (Reads.not_utf8 s v) (Reads.unbuilt p1 e1) = absurd (not_valid text _ p1.lexes.utf8 v)
  reads_once (Reads.not_utf8 s v) (Reads.built p1 e1) = absurd (not_valid text _ p1.lexes.utf8 v)
  reads_once (Reads.no_token s u e) (Reads.too_long h1) = absurd (omega (arith, h1, s))
  reads_once (Reads.no_token s u e) (Reads.not_utf8 s1 v1) = absurd (not_valid text _ u v1)
  reads_once (Reads.no_token s u e) (Reads.no_token s1 u1 e1) = token_once text e e1
  reads_once (Reads.no_token s u e) (Reads.outside l1 e1) = absurd (not_lexed e l1)
  reads_once (Reads.no_token s u e) (Reads.no_file p1) = absurd (not_lexed e p1.lexes)
  reads_once (Reads.no_token s u e) (Reads.unbuilt p1 e1) = absurd (not_lexed e p1.lexes)
  reads_once (Reads.no_token s u e) (Reads.built p1 e1) = absurd (not_lexed e p1.lexes)
  reads_once (Reads.outside l e) (Reads.too_long h1) = absurd (omega (arith, h1, l.short))
  reads_once (Reads.outside l e) (Reads.not_utf8 s1 v1) = absurd (not_valid text _ l.utf8 v1)
  reads_once (Reads.outside l e) (Reads.no_token s1 u1 e1) = absurd (not_lexed e1 l)
  reads_once (Reads.outside l e) (Reads.outside l1 e1) = outside_once l e l1 e1
  reads_once (Reads.outside l e) (Reads.no_file p1) = absurd (not_laid l e p1)
  reads_once (Reads.outside l e) (Reads.unbuilt p1 e1) = absurd (not_laid l e p1)
  reads_once (Reads.outside l e) (Reads.built p1 e1) = absurd (not_laid l e p1)
  reads_once (Reads.no_file p) (Reads.too_long h1) = absurd (omega (arith, h1, p.lexes.short))
  reads_once (Reads.no_file p) (Reads.not_utf8 s1 v1) = absurd (not_valid text _ p.lexes.utf8 v1)
  reads_once (Reads.no_file p) (Reads.no_token s1 u1 e1) = absurd (not_lexed e1 p.lexes)
  reads_once (Reads.no_file p) (Reads.outside l1 e1) = absurd (not_laid l1 e1 p)
  reads_once (Reads.no_file p) (Reads.no_file p1) = refused_once p p1
  reads_once (Reads.no_file p) (Reads.unbuilt p1 e1) = absurd (not_parsed p p1)
  reads_once (Reads.no_file p) (Reads.built p1 e1) = absurd (not_parsed p p1)
  reads_once (Reads.unbuilt p e) (Reads.too_long h1) = absurd (omega (arith, h1, p.lexes.short))
  reads_once (Reads.unbuilt p e) (Reads.not_utf8 s1 v1) = absurd (not_valid text _ p.lexes.utf8 v1)
  reads_once (Reads.unbuilt p e) (Reads.no_token s1 u1 e1) = absurd (not_lexed e1 p.lexes)
  reads_once (Reads.unbuilt p e) (Reads.outside l1 e1) = absurd (not_laid l1 e1 p)
  reads_once (Reads.unbuilt p e) (Reads.no_file p1) = absurd (not_parsed p1 p)
  reads_once (Reads.unbuilt p e) (Reads.unbuilt p1 e1) = let file = files_once p p1 in let first = e in let second = e1 in unbuilt_once text file first second
  reads_once (Reads.unbuilt p e) (Reads.built p1 e1) = absurd (not_built p e p1 e1)
  reads_once (Reads.built p e) (Reads.too_long h1) = absurd (omega (arith, h1, p.lexes.short))
  reads_once (Reads.built p e) (Reads.not_utf8 s1 v1) = absurd (not_valid text _ p.lexes.utf8 v1)
  reads_once (Reads.built p e) (Reads.no_token s1 u1 e1) = absurd (not_lexed e1 p.lexes)
  reads_once (Reads.built p e) (Reads.outside l1 e1) = absurd (not_laid l1 e1 p)
  reads_once (Reads.built p e) (Reads.no_file p1) = absurd (not_parsed p1 p)
  reads_once (Reads.built p e) (Reads.unbuilt p1 e1) = absurd (not_built p1 e1 p e)
  reads_once (Reads.built p e) (Reads.built p1 e1) = ap Ok (files_once p p1)

-- ---- lines

module _ (fuel depth : ℕ) where
  line_once : (g : Signature Term) (s : ResolvedSignature) {a b : Judgement} → LineOf fuel depth g s a → LineOf fuel depth g s b → a ≡ b
  line_once g s x y =
      let one = passes_once (WrittenTypeOf g fuel depth [] s.ty) (λ e. error_at e.pos (elab_kind e.kind)) (λ q. q.0 ∷ []) (λ q. IsTypeOf g fuel depth [] q.0) kernel_kind s.place.pos
      (λ a b w v. comes_once g fuel depth ((expr_meaning g s.ty).types []) a b w v) (λ q a b k l. one-is_type g fuel depth [] q.0 a b k l) x.passes y.passes in
      x.is ∙ ap (added g (λ q. postulates s.names q.0)) one ∙ sym y.is

  family_once : (g : Signature Term) (p : Pos) (x : Resolved) {a b : Judgement} → IsFamily x → FamilyDeclOf fuel depth g p x a → FamilyDeclOf fuel depth g p x b → a ≡ b
  family_once g p x f y z =
      let each = (family-exactly g fuel depth x f).2 in
      let one = passes_once (WrittenFamilyOf g fuel depth x) (λ e. error_at e.pos (family_kind e.kind)) terms_of (FamilyOf g fuel depth) decl_kind p
      (λ a b w v. each a w ∙ sym (each b v)) (λ d a b k l. one-family g fuel depth d a b k l) y.passes z.passes in
      y.is ∙ ap (added g (λ d. Family d ∷ [])) one ∙ sym z.is

abbrev stopped : LoadError → Judgement
stopped e = Err e

abbrev judged_to : Signature Term → Judgement
judged_to g = Ok g

one_signature_of : (g h : Signature Term) → judged_to g ≡ judged_to h → g ≡ h
one_signature_of g h e = cc

lines_once : {fuel depth : ℕ} {g : Signature Term} {ss : List ResolvedSignature} {a b : Judgement} → LinesOf fuel depth g ss a → LinesOf fuel depth g ss b → a ≡ b
lines_once LinesOf.none LinesOf.none = refl
lines_once {fuel = fuel} {depth = depth} (LinesOf.stopped {g = g} {s = s} l) (LinesOf.stopped m) = line_once fuel depth g s l m
lines_once {fuel = fuel} {depth = depth} (LinesOf.stopped {g = g} {s = s} l) (LinesOf.further m ms) = let one = line_once fuel depth g s l m in absurd cc
lines_once {fuel = fuel} {depth = depth} (LinesOf.further {g = g} {s = s} l ls) (LinesOf.stopped m) = let one = line_once fuel depth g s l m in absurd cc
lines_once {fuel = fuel} {depth = depth} {b = b} (LinesOf.further {g = g} {h = f} {s = s} {ss = ss} l ls) (LinesOf.further {h = h} m ms) =
    lines_once ls (along (λ (i : Signature Term). LinesOf fuel depth i ss b) (one_signature_of h f (line_once fuel depth g s m l)) ms)

-- ---- the declarations

abbrev resolves_to : Resolved → Known → Checked (Resolved × Known)
resolves_to r m = Ok (r, m)

-- the trees and what is known, of two equal answers
pair_once : {m n : Known} {r q : Resolved} → resolves_to r m ≡ resolves_to q n → (r ≡ q) × (m ≡ n)
pair_once {m = m} {n = n} {r = r} {q = q} e = let pair : (r, m) ≡ (q, n) = cc in (ap (λ (t : Resolved × Known). t.0) pair, ap (λ (t : Resolved × Known). t.1) pair)

decl_once : (fuel depth : ℕ) (g : Signature Term) (a b : Judgement) (r : Resolved) → DeclOf fuel depth g r a → DeclOf fuel depth g r b → a ≡ b
decl_once fuel depth g a b (rd.Postulate p ss) j i = lines_once j i
decl_once fuel depth g a b (rd.Function p s cs) j i = j ∙ sym i
decl_once fuel depth g a b (rd.Open p x e) j i = j ∙ sym i
decl_once fuel depth g a b (rd.«Data» p x bs c ss) j i = family_once fuel depth g x.place.pos (rd.«Data» p x bs c ss) tt j i
decl_once fuel depth g a b (rd.Record p x bs c xs) j i = family_once fuel depth g x.place.pos (rd.Record p x bs c xs) tt j i

judgement_once : (fuel depth : ℕ) (g : Signature Term) (a b : Judgement) (r q : Resolved) → r ≡ q → DeclOf fuel depth g r a → DeclOf fuel depth g q b → a ≡ b
judgement_once fuel depth g a b r q e j i = decl_once fuel depth g a b r j (along (λ (q : Resolved). DeclOf fuel depth g q b) (sym e) i)

abbrev stopped_with : LoadError → Outcome
stopped_with e = Err e

error_once : {e f : LoadError} → stopped e ≡ stopped f → e ≡ f
error_once e = cc

declares_once : {fuel depth : ℕ} {k : Known} {g : Signature Term} {ds : List Decl} {a b : Outcome} → Declares fuel depth k g ds a → Declares fuel depth k g ds b → a ≡ b
declares_once Declares.none Declares.none = refl
declares_once (Declares.unresolved {k = k} {d = d} e) (Declares.unresolved f) = let one = resolved_once k d _ _ e f in cc
declares_once (Declares.unresolved {k = k} {d = d} e) (Declares.refused f r) = let one = resolved_once k d _ _ e f in absurd cc
declares_once (Declares.unresolved {k = k} {d = d} e) (Declares.declared f r more) = let one = resolved_once k d _ _ e f in absurd cc
declares_once (Declares.refused {k = k} {d = d} e r) (Declares.unresolved f) = let one = resolved_once k d _ _ e f in absurd cc
declares_once {fuel = fuel} {depth = depth} (Declares.refused {k = k} {g = g} {d = d} {r = x} {e = a} e r) (Declares.refused {r = y} {e = b} f s) =
    ap stopped_with (error_once (judgement_once fuel depth g (Err a) (Err b) x y (pair_once (resolved_once k d _ _ e f)).0 r s))
declares_once {fuel = fuel} {depth = depth} (Declares.refused {k = k} {g = g} {d = d} {r = x} {e = a} e r) (Declares.declared {h = i} {r = y} f s more) =
    let one = judgement_once fuel depth g (Err a) (Ok i) x y (pair_once (resolved_once k d _ _ e f)).0 r s in absurd cc
declares_once (Declares.declared {k = k} {d = d} e r more) (Declares.unresolved f) = let one = resolved_once k d _ _ e f in absurd cc
declares_once {fuel = fuel} {depth = depth} (Declares.declared {k = k} {g = g} {h = h} {d = d} {r = x} e r more) (Declares.refused {r = y} {e = b} f s) =
    let one = judgement_once fuel depth g (Ok h) (Err b) x y (pair_once (resolved_once k d _ _ e f)).0 r s in absurd cc
declares_once {fuel = fuel} {depth = depth} (Declares.declared {k = k} {g = g} {h = h} {d = d} {ds = ds} {r = x} e r more) (Declares.declared {m = m} {h = i} {r = y} {result = b} f s more1) =
    let same = pair_once (resolved_once k d _ _ e f) in
    let signature : h ≡ i = one_signature_of h i (judgement_once fuel depth g (Ok h) (Ok i) x y same.0 r s) in
    declares_once more (along (λ (l : Known). Declares fuel depth l h ds b) (sym same.1) (along (λ (i : Signature Term). Declares fuel depth m i ds b) (sym signature) more1))

-- ---- the verdict

module _ (fuel depth : ℕ) (text : List ℕ) where
  file_once : {f g : File} → Reads text (Ok f) → Reads text (Ok g) → f ≡ g
  file_once r s = let one = reads_once r s in cc

  loads_once : {f g : File} {a b : Outcome} → Reads text (Ok f) → DeclaresFile fuel depth f a → Reads text (Ok g) → DeclaresFile fuel depth g b → a ≡ b
  loads_once {b = b} r d s c = declares_once d (along (λ (h : File). DeclaresFile fuel depth h b) (sym (file_once r s)) c)

  errors_once : {e f : LoadError} → IsInError fuel depth text e → IsInError fuel depth text f → e ≡ f
  errors_once (IsInError.unread r) (IsInError.unread s) = let one = reads_once r s in cc
  errors_once (IsInError.unread r) (IsInError.undeclared s d) = let one = reads_once r s in absurd cc
  errors_once (IsInError.undeclared r d) (IsInError.unread s) = let one = reads_once r s in absurd cc
  errors_once (IsInError.undeclared r d) (IsInError.undeclared s c) = let one = loads_once r d s c in cc

  not_both : {e : LoadError} {m : Made} → IsInError fuel depth text e → IsLoaded fuel depth text m → ⊥
  not_both (IsInError.unread r) b = let one = reads_once r b.reads in absurd cc
  not_both (IsInError.undeclared r d) b = let one = loads_once r d b.reads b.made.loads in absurd cc

  abbrev declared_to : Known × Signature Term → Outcome
  declared_to p = Ok p

  ends_once : (p q : Known × Signature Term) → declared_to p ≡ declared_to q → p ≡ q
  ends_once p q e = cc

  made_once : {m n : Made} → IsLoaded fuel depth text m → IsLoaded fuel depth text n → m ≡ n
  made_once {m = m} {n = n} a b =
      let one = loads_once a.reads a.made.loads b.reads b.made.loads in
      let ends : (a.made.known, m.signature) ≡ (b.made.known, n.signature) = ends_once (a.made.known, m.signature) (b.made.known, n.signature) one in
      let known : a.made.known ≡ b.made.known = ap (λ (p : Known × Signature Term). p.0) ends in
      let signature : m.signature ≡ n.signature = ap (λ (p : Known × Signature Term). p.1) ends in
      let names : m.names ≡ n.names = a.made.names ∙ ap (λ (k : Known). k.names) known ∙ sym b.made.names in
      let report : m.report ≡ n.report = a.made.report ∙ ap (λ (g : Signature Term). complete_report (length g)) signature ∙ sym b.made.report in
      λ i. record { report = report i; names = names i; signature = signature i }

pub one_verdict : (fuel depth : ℕ) (text : List ℕ) (v w : Verdict) → HasVerdict fuel depth text v → HasVerdict fuel depth text w → v ≡ w
one_verdict fuel depth text (Err e) (Err f) a b = ap Err (errors_once fuel depth text a b)
one_verdict fuel depth text (Err e) (Ok m) a b = absurd (not_both fuel depth text a b)
one_verdict fuel depth text (Ok m) (Err e) a b = absurd (not_both fuel depth text b a)
one_verdict fuel depth text (Ok m) (Ok n) a b = ap Ok (made_once fuel depth text a b)

pub one_signature : (fuel depth : ℕ) (text : List ℕ) (m n : Made) → IsLoaded fuel depth text m → IsLoaded fuel depth text n → m.signature ≡ n.signature
one_signature fuel depth text m n a b = ap (λ (x : Made). x.signature) (made_once fuel depth text a b)
