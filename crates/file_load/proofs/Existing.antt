-- Something is said of each text.
use Rattle.std.proofs.Common.{◌≡◌, ◌<◌, ◌≤◌, ◌+◌, ℕ, zero, suc, Bool, true, false, List, [], ◌∷◌, length, take, map, Some, None, Ok, Err, refl, sym, subst, arith}
use Rattle.std.specs.declared.option.Option.{Option}
use Rattle.std.specs.Prelude.{Result, nat_lt}
use Rattle.std.specs.Str.{IsUtf8, IsValidUpTo, is_utf8}
use Rattle.std.proofs.lemmas.Bool.Decides.{nat_tests}
use Rattle.std.proofs.lemmas.List.{take_all}
use Rattle.std.proofs.lemmas.Str.{IsUtf8-from_is_utf8, IsUtf8-nil, is_utf8-from_IsUtf8}
use Rattle.el_outside.specs.declared.place.Pos.{Pos}
use Rattle.agda_lexer.specs.declared.Lexed.{Lexed}
use Rattle.agda_lexer.specs.Tokens.{Outcome as Tokens, lex_of}
use Rattle.agda_layout.specs.declared.laid.Laid.{Laid}
use Rattle.agda_layout.specs.Blocks.{laid}
use Rattle.agda_grammar.specs.declared.sign.Sign.{Sign}
use Rattle.agda_grammar.specs.declared.error.ParseKind.{ParseKind}
use Rattle.agda_grammar.specs.declared.error.ParseError.TheVariants.{Bad}
use Rattle.agda_parser.specs.DeclarationSyntax.{whole_file}
use Rattle.agda_grammar.specs.Declarations.{file_then, file_tree}
use Rattle.agda_grammar.specs.Nesting.{origin, shallow}
use Rattle.agda_grammar.specs.Reading.{Settles}
use Rattle.agda_parser.specs.Laid.{laid_signs}
use Rattle.expr_parser.proofs.Verdict.{all_ok, all_err, cut_ok, cut_end, cut_err}
use Rattle.agda_parser.proofs.DeclarationRules.{whole_file_good}
use Rattle.agda_parser.proofs.DeclarationComplete.{file_size, whole_file_read}
use Rattle.agda_parser.proofs.Whole.{file_ends}
use Rattle.expr_parser.proofs.Whole.{none_deep}
use Rattle.source_tree.specs.declared.decl.Decl.{Decl}
use Rattle.source_tree.specs.declared.decl.File.{File}
use Rattle.scope_check.specs.declared.error.ScopeError.TheVariants as scope
use Rattle.resolved_tree.specs.declared.resolved.Resolved.{Resolved}
use Rattle.scope_check.specs.Answers.{Checked}
use Rattle.scope_check.specs.Decls.{resolved}
use Rattle.scope_table.specs.Known.{Known, nothing_known}
use Rattle.scope_check.specs.Resolves.{Resolves}
use Rattle.scope_check.proofs.DeclCases.{resolved_holds}
use Rattle.core_rules.specs.Term.{Term}
use Rattle.core_rules.specs.Signature.{Signature}
use Rattle.session_text.specs.declared.error.LoadError.{LoadError}
use Rattle.core_rules.specs.Derivable.{Derivable}
use Rattle.core_rules.proofs.Derivations.{derivable-empty}
use Rattle.kernel_rules.specs.TermReading.{IsTypeOf}
use Rattle.kernel_rules.specs.FamilyReading.{FamilyOf}
use Rattle.kernel_rules.proofs.TermOutcome.{is_type-outcome}
use Rattle.kernel_rules.proofs.DeclOutcome.{family-outcome}
use Rattle.written_rules.specs.Expressions.{WrittenTypeOf, expr_meaning}
use Rattle.written_rules.proofs.Comes.{comes-exactly}
use Rattle.resolved_tree.specs.declared.resolved.ResolvedSignature.{ResolvedSignature}
use Rattle.resolved_tree.specs.declared.resolved.Resolved.TheVariants as rd
use Rattle.data_rules.specs.Families.{IsFamily, WrittenFamilyOf}
use Rattle.data_rules.proofs.Exactly.{family-exactly}
use Rattle.file_load.specs.Kinds.{elab_kind, kernel_kind, family_kind, decl_kind}
use Rattle.file_load.specs.Passes.{error_at}
use Rattle.file_load.specs.Sizes.{terms_of}
use Rattle.file_load.specs.Lines.{Judgement, LineOf, LinesOf, FamilyDeclOf, DeclOf}
use Rattle.file_load.proofs.Passing.{passes_some}
use Rattle.file_load.specs.Load.{Declares, DeclaresFile, HasVerdict, IsInError, IsLexed, IsParsed, Made, Outcome, Reads, Verdict, complete_report, limit}
use Rattle.file_load.specs.Unbuilt.{first_of, in_decl, in_file, or_else}
use Rattle.file_load.proofs.Accepted.{type_in_scope, family_in_scope, line_derivable, decl_derivable, signature_derivable}
use Rattle.file_load.proofs.Told.{IsTold, resolves_told}

-- ---- bytes

not_before : (k m : ℕ) → k < m → ((suc k < m) → ⊥) → ((suc k ≡ m) → ⊥) → ⊥
not_before k m l a b = absurd (grind (arith, no_more, no_same))
  where
    no_more : ¬ (suc k < m)
    no_more l = a l

    no_same : ¬ (suc k ≡ m)
    no_same e = b e

broken : (bs : List ℕ) → is_utf8 bs ≡ false → ¬ (IsUtf8 bs)
broken bs e u = let t = is_utf8-from_IsUtf8 bs u in absurd (cc (t, e))

-- of the fronts up to k bytes the longest that is UTF-8, where no longer one is
front_of : (bs : List ℕ) (k : ℕ) → k < length bs → ((m : ℕ) → k < m → ¬ (IsUtf8 (take m bs))) → (n : ℕ) × IsValidUpTo bs n
front_of bs zero lt none = (zero, record { short = lt; front = IsUtf8-nil; longest = none })
front_of bs (suc k) lt none = by (is_utf8 (take (suc k) bs)) refl (front_of bs k (omega arith))
  where
    by : (b : Bool) → is_utf8 (take (suc k) bs) ≡ b → (((m : ℕ) → k < m → ¬ (IsUtf8 (take m bs))) → (n : ℕ) × IsValidUpTo bs n) → (n : ℕ) × IsValidUpTo bs n
    by true e less = (suc k, record { short = lt; front = IsUtf8-from_is_utf8 (take (suc k) bs) e; longest = none })
    by false e less = less (λ m l u. not_before k m l (λ more. none m more u) (λ same. broken (take (suc k) bs) e (subst (λ (j : ℕ). IsUtf8 (take j bs)) (sym same) u)))

valid_front : (bs : List ℕ) → is_utf8 bs ≡ false → (n : ℕ) × IsValidUpTo bs n
valid_front [] e = absurd (broken [] e (IsUtf8-nil))
valid_front (b ∷ bs) e = front_of (b ∷ bs) (length bs) (omega arith) (λ m l u. broken (b ∷ bs) e (subst IsUtf8 (take_all m (b ∷ bs) (omega arith)) u))

-- ---- the parse

module _ (text : List ℕ) where
  -- a tree, or a place where the signs are refused
  data IsSettled (i : List Sign) : Type 0 where
    read : {file : File} → Settles file_then (file_tree text) text i (Ok file) → IsSettled i
    refused : {p : Pos} {k : ParseKind} → Settles file_then (file_tree text) text i (Err (Bad p k)) → IsSettled i

  settled : (i : List Sign) → IsSettled i
  settled i = by_depth (nat_lt (shallow origin i) (length i)) refl
    where
      turns : ℕ
      turns = length i + 2

      whole : shallow origin i ≡ length i → (o : Result (File × List Sign) ℕ) → whole_file text turns i ≡ o → IsSettled i
      whole within (Ok x) e = read (all_ok file_then (file_tree text) (whole_file text) file_size (whole_file_good text) (file_ends text) (whole_file_read text) text turns i x.0 x.1 (omega arith) within e)
      whole within (Err k) e = refused (all_err file_then (file_tree text) (whole_file text) file_size (whole_file_good text) (file_ends text) (whole_file_read text) text turns i k (omega arith) within e)

      cut : shallow origin i < length i → (o : Result (File × List Sign) ℕ) → whole_file text turns (take (shallow origin i + 1) i) ≡ o → IsSettled i
      cut deep (Ok x) e = refused (cut_ok file_then (file_tree text) (whole_file text) file_size (whole_file_good text) (file_ends text) (whole_file_read text) text turns i (shallow origin i) x.0 x.1 refl deep (omega arith) e)
      cut deep (Err zero) e = refused (cut_end file_then (file_tree text) (whole_file text) file_size (whole_file_good text) (file_ends text) (whole_file_read text) text turns i (shallow origin i) refl deep (omega arith) e)
      cut deep (Err (suc k)) e = refused (cut_err file_then (file_tree text) (whole_file text) file_size (whole_file_good text) (file_ends text) (whole_file_read text) text turns i (shallow origin i) (suc k) refl deep (omega arith) (omega arith) e)

      by_depth : (b : Bool) → nat_lt (shallow origin i) (length i) ≡ b → IsSettled i
      by_depth true e = cut (grind (arith, nat_tests)) (whole_file text turns (take (shallow origin i + 1) i)) refl
      by_depth false e = let all : shallow origin i ≡ length i = grind (arith, nat_tests, none_deep origin i) in whole all (whole_file text turns i) refl

-- ---- the declarations

later_none : (a b : Option ℕ) → or_else a b ≡ None → b ≡ None
later_none None b e = e
later_none (Some n) b e = absurd cc

first_none : (a b : Option ℕ) → or_else a b ≡ None → a ≡ None
first_none None b e = refl
first_none (Some n) b e = absurd cc

module _ (fuel depth : ℕ) where
  -- a line over a derivable signature
  line : (g : Signature Term) (s : ResolvedSignature) → Derivable g → (j : Judgement) × LineOf fuel depth g s j
  line g s d =
      let w = comes-exactly g fuel depth ((expr_meaning g s.ty).types []) in
      let o = passes_some (WrittenTypeOf g fuel depth [] s.ty) (λ e. error_at e.pos (elab_kind e.kind)) (λ q. q.0 ∷ []) (λ q. IsTypeOf g fuel depth [] q.0) kernel_kind s.place.pos
      (w.0, w.1) (λ q v. is_type-outcome g fuel depth [] 0 q.0 refl (type_in_scope fuel depth g s.ty q d v)) in
      (_, record { passed = o.0; passes = o.1; is = refl })

  -- a data or record declaration over a derivable signature
  family : (g : Signature Term) (p : Pos) (x : Resolved) → IsFamily x → Derivable g → (j : Judgement) × FamilyDeclOf fuel depth g p x j
  family g p x f d =
      let w = family-exactly g fuel depth x f in
      let o = passes_some (WrittenFamilyOf g fuel depth x) (λ e. error_at e.pos (family_kind e.kind)) terms_of (FamilyOf g fuel depth) decl_kind p
      (w.0, w.1) (λ c v. family-outcome g fuel depth c (family_in_scope fuel depth g x c d v)) in
      (_, record { passed = o.0; passes = o.1; is = refl })

  lines : (ss : List ResolvedSignature) (g : Signature Term) → Derivable g → (j : Judgement) × LinesOf fuel depth g ss j
  lines [] g d = (_, LinesOf.none)
  lines (s ∷ ss) g d = let l = line g s d in of l.0 l.1 (lines ss)
    where
      of : (j : Judgement) → LineOf fuel depth g s j → ((h : Signature Term) → Derivable h → (j : Judgement) × LinesOf fuel depth h ss j) → (j : Judgement) × LinesOf fuel depth g (s ∷ ss) j
      of (Err e) l more = (_, LinesOf.stopped l)
      of (Ok h) l more = let rest = more h (line_derivable fuel depth g s d h l) in (rest.0, LinesOf.further l rest.1)

  judgement : (g : Signature Term) (r : Resolved) → Derivable g → (j : Judgement) × DeclOf fuel depth g r j
  judgement g (rd.Postulate p ss) d = lines ss g d
  judgement g (rd.Function p s cs) d = (_, refl)
  judgement g (rd.Open p x b) d = (_, refl)
  judgement g (rd.«Data» p x bs a ss) d = family g x.place.pos (rd.«Data» p x bs a ss) tt d
  judgement g (rd.Record p x bs a xs) d = family g x.place.pos (rd.Record p x bs a xs) tt d

  declared : (ds : List Decl) (k : Known) (g : Signature Term) → Derivable g → first_of (map in_decl ds) ≡ None → (o : Outcome) × Declares fuel depth k g ds o
  declared [] k g d e = (Ok (k, g), Declares.none)
  declared (x ∷ ds) k g d e = of (resolved k x) (resolved_holds k x) (resolves_told k x (first_none (in_decl x) (first_of (map in_decl ds)) e) (resolved_holds k x))
      (λ m h i. declared ds m h i (later_none (in_decl x) (first_of (map in_decl ds)) e))
    where
      judged : (r : Resolved) (m : Known) → Resolves k x (Ok (r, m)) → (j : Judgement) → DeclOf fuel depth g r j
          → ((m : Known) (h : Signature Term) → Derivable h → (o : Outcome) × Declares fuel depth m h ds o) → (o : Outcome) × Declares fuel depth k g (x ∷ ds) o
      judged r m is (Err e) j more = (_, Declares.refused is j)
      judged r m is (Ok h) j more = let rest = more m h (decl_derivable fuel depth g h r d j) in (rest.0, Declares.declared is j rest.1)

      of : (m : Checked (Resolved × Known)) → Resolves k x m → IsTold m → ((m : Known) (h : Signature Term) → Derivable h → (o : Outcome) × Declares fuel depth m h ds o) → (o : Outcome) × Declares fuel depth k g (x ∷ ds) o
      of (Ok y) is t more = let j = judgement g y.0 d in judged y.0 y.1 is j.0 j.1 more
      of (Err (scope.Bad p j n)) is t more = (_, Declares.unresolved is)
      of (Err scope.NoMemory) is t more = absurd t

-- ---- the stages

abbrev SomeReading : List ℕ → Type 0
SomeReading text = (r : Result File LoadError) × Reads text r

module _ (text : List ℕ) where
  formed : (file : File) → IsParsed text (Ok file) → (o : Option ℕ) → in_file file ≡ o → SomeReading text
  formed file p None e = (_, Reads.built p e)
  formed file p (Some n) e = (_, Reads.unbuilt p e)

  parsed : (l : Lexed) → IsLexed text l → (signs : List Laid) → laid l.tokens ≡ Ok signs → IsSettled text (laid_signs l.tokens signs) → SomeReading text
  parsed l is signs lays (IsSettled.read {file = file} s) = formed file (record { lexed = l; lexes = is; signs = signs; lays = lays; parses = s }) (in_file file) refl
  parsed l is signs lays (IsSettled.refused s) = (_, Reads.no_file (record { lexed = l; lexes = is; signs = signs; lays = lays; parses = s }))

  laid_out : (l : Lexed) → IsLexed text l → (o : Result (List Laid) Pos) → laid l.tokens ≡ o → SomeReading text
  laid_out l is (Ok signs) e = parsed l is signs e (settled text (laid_signs l.tokens signs))
  laid_out l is (Err p) e = (_, Reads.outside is e)

  lexed : length text ≤ limit → IsUtf8 text → (o : Tokens) → lex_of text ≡ o → SomeReading text
  lexed short utf8 (Ok l) e = laid_out l (record { short = short; utf8 = utf8; tokens = e }) (laid l.tokens) refl
  lexed short utf8 (Err f) e = (_, Reads.no_token short utf8 e)

  decoded : length text ≤ limit → (b : Bool) → is_utf8 text ≡ b → SomeReading text
  decoded short true e = lexed short (IsUtf8-from_is_utf8 text e) (lex_of text) refl
  decoded short false e = let front = valid_front text e in (_, Reads.not_utf8 short front.1)

  some_reading : SomeReading text
  some_reading = by (nat_lt limit (length text)) refl
    where
      by : (b : Bool) → nat_lt limit (length text) ≡ b → SomeReading text
      by true e = (_, Reads.too_long (grind (arith, nat_tests)))
      by false e = decoded (grind (arith, nat_tests)) (is_utf8 text) refl

  loaded : (fuel depth : ℕ) (file : File) → Reads text (Ok file) → (o : Outcome) → DeclaresFile fuel depth file o → (v : Verdict) × HasVerdict fuel depth text v
  loaded fuel depth file r (Err e) h = (Err e, IsInError.undeclared r h)
  loaded fuel depth file r (Ok p) h =
      let m : Made = record { report = complete_report (length p.1); names = p.0.names; signature = p.1 } in
      (Ok m, record { file = file; reads = r; made = record { known = p.0; loads = h; names = refl; report = refl }; derivable = signature_derivable fuel depth file p.0 p.1 h })

  verdict : (fuel depth : ℕ) (r : Result File LoadError) → Reads text r → (v : Verdict) × HasVerdict fuel depth text v
  verdict fuel depth (Err e) r = (Err e, IsInError.unread r)
  verdict fuel depth (Ok file) r = let d = declared fuel depth file.decls nothing_known [] derivable-empty (built r) in loaded fuel depth file r d.0 d.1
    where
      -- a file that was read on has forms that are built alone
      built : Reads text (Ok file) → in_file file ≡ None
      built (Reads.built p e) = e

pub some_verdict : (fuel depth : ℕ) (text : List ℕ) → (v : Verdict) × HasVerdict fuel depth text v
some_verdict fuel depth text = let r = some_reading text in verdict text fuel depth r.0 r.1
