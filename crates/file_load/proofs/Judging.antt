-- Lines and declarations are judged, one further.
use Rattle.std.proofs.Common.{◌≡◌, ◌≢◌, ◌<◌, ◌≤◌, ℕ, ◌+◌, List, [], ◌∷◌, ◌++◌, drop, length, get_or, Ok, Err, refl, sym, ap, subst, ◌∙◌, append_assoc}
use Rattle.std.specs.Prelude.{Result}
use Rattle.std.proofs.lemmas.List.{drop_all}
use Rattle.el_base.proofs.Throughout.{all-append}
use Rattle.el_base.proofs.Lists.{drop_next}
use Rattle.core_rules.specs.Term.{Term}
use Rattle.core_rules.specs.Signature.{Signature, FamDecl, Postulate, Family}
use Rattle.core_rules.specs.Mapped.{AllFamily, decl_map}
use Rattle.core_rules.specs.Derivable.{Derivable}
use Rattle.core_rules.proofs.Derivations.{derivable-empty}
use Rattle.term_pool.specs.Pool.{Pool, tree, Extends}
use Rattle.session_text.specs.declared.error.LoadError.{LoadError}
use Rattle.core_terms.specs.declared.signature.CoreDecl.{CoreDecl}
use Rattle.core_terms.specs.Signature.{Stands, decl_of, fam_of, signature_in}
use Rattle.core_terms.proofs.SignatureGrowth.{signature_in-extends, Stands-extends}
use Rattle.kernel_rules.specs.Outcome.{Outcome}
use Rattle.kernel_rules.specs.Outcome as outcome
use Rattle.kernel_rules.specs.Refusals as kernel
use Rattle.core_kernel.specs.declared.error.KernelError.{KernelError}
use Rattle.core_kernel.specs.declared.error.KernelError.TheVariants as K
use Rattle.core_kernel.specs.declared.error.FamilyError.{FamilyError}
use Rattle.core_kernel.specs.declared.error.FamilyError.TheVariants as F
use Rattle.core_kernel.specs.Answers as checks
use Rattle.written_rules.specs.Refusals as written
use Rattle.elab_machine.specs.declared.error.ElabKind.{ElabKind}
use Rattle.elab_machine.specs.declared.error.ElabKind.TheVariants as E
use Rattle.elab_machine.specs.declared.error.WrittenError.{WrittenError}
use Rattle.elab_machine.specs.declared.error.WrittenError.TheVariants as W
use Rattle.elab_machine.specs.Answers as exprs
use Rattle.data_rules.specs.Refusals as families
use Rattle.data_elab.specs.declared.error.DataKind.{DataKind}
use Rattle.data_elab.specs.declared.error.DataKind.TheVariants as J
use Rattle.data_elab.specs.declared.error.DataError.{DataError}
use Rattle.data_elab.specs.declared.error.DataError.TheVariants as D
use Rattle.data_elab.specs.Answers as declared_answers
use Rattle.el_outside.specs.declared.place.Pos.{Pos}
use Rattle.resolved_tree.specs.declared.resolved.ResolvedName.{ResolvedName}
use Rattle.resolved_tree.specs.declared.resolved.ResolvedSignature.{ResolvedSignature}
use Rattle.file_load.specs.declared.state.Core.{Core}
use Rattle.file_load.specs.declared.stop.Stop.{Stop}
use Rattle.file_load.specs.declared.stop.Stop.TheVariants as stop
use Rattle.file_load.specs.Kinds.{elab_kind, kernel_kind, family_kind, decl_kind}
use Rattle.resolved_tree.specs.declared.resolved.Resolved.{Resolved}
use Rattle.scope_table.specs.Known.{Known}
use Rattle.scope_check.specs.declared.error.ScopeError.{ScopeError}
use Rattle.scope_check.specs.declared.error.ScopeError.TheVariants as scope
use Rattle.scope_check.specs.Resolves.{Resolves}
use Rattle.source_tree.specs.declared.decl.Decl.{Decl}
use Rattle.file_load.specs.Passes.{error_at}
use Rattle.file_load.specs.Lines.{Judgement, Declared, DeclOf, LineOf, LinesOf, postulates}
use Rattle.file_load.specs.Load.{Declares, Outcome as Loads}
use Rattle.file_load.specs.Stops.{kind_of_elab, kind_of_family, not_elaborated, not_checked, family_not_elaborated, family_not_checked}
use Rattle.file_load.specs.Judged.{Agrees, IsDeclared, IsNew, IsNotResolved, IsRefused, Stops, Judges, LoadsDecl, LoadsDecls, declared, family_in, postulates_of}

-- ---- refusals

module _ (p : Pool) where
  same_kind : (k : ElabKind) → kind_of_elab k ≡ elab_kind (exprs.kind_in p k)
  same_kind (E.Mismatch a b ys) = refl
  same_kind (E.DotWrong a b ys) = refl
  same_kind (E.NotAFunction a) = refl
  same_kind (E.NotARecord a) = refl
  same_kind (E.NotAType a) = refl
  same_kind E.NoSuchName = refl
  same_kind E.CannotInfer = refl
  same_kind E.BadField = refl
  same_kind E.OutOfFuel = refl
  same_kind E.OutOfDepth = refl

  same_family_kind : (k : DataKind) → kind_of_family k ≡ family_kind (declared_answers.kind_in p k)
  same_family_kind J.BadSort = refl
  same_family_kind J.ConShape = refl
  same_family_kind J.TooBig = refl
  same_family_kind (J.Elab k) = same_kind k

  -- what the written rules refuse
  pub elab_stops : {A : Type 0} (P : Outcome written.Refusal A → Type 0) (e : WrittenError) → exprs.RefusedBy p (λ r. P (outcome.Refuses r)) e → Stops (IsRefused P (λ e. error_at e.pos (elab_kind e.kind))) (not_elaborated e)
  elab_stops P (W.Refused e) h = record { refusal = written.at e.pos (exprs.kind_in p e.kind); error = ap (error_at e.pos) (same_kind e.kind); is = h.1 }
  elab_stops P W.NoMemory h = tt

  -- of a data or record declaration
  pub family_stops : {A : Type 0} (P : Outcome families.Refusal A → Type 0) (e : DataError) → declared_answers.RefusedBy p (λ r. P (outcome.Refuses r)) e
      → Stops (IsRefused P (λ e. error_at e.pos (family_kind e.kind))) (family_not_elaborated e)
  family_stops P (D.Bad q k) h = record { refusal = families.at q (declared_answers.kind_in p k); error = ap (error_at q) (same_family_kind k); is = h.1 }
  family_stops P D.NoMemory h = tt

  -- what the kernel refuses
  pub kernel_stops : {A : Type 0} (P : Outcome kernel.Refusal A → Type 0) (q : Pos) (e : KernelError) → checks.RefusedBy p (λ r. P (outcome.Refuses r)) e → Stops (IsRefused P (λ e. error_at q (kernel_kind e))) (not_checked q e)
  kernel_stops P q (K.Mismatch a b) h = record { refusal = kernel.Mismatch (tree p a) (tree p b); error = refl; is = h.2 }
  kernel_stops P q (K.NotAFunction a) h = record { refusal = kernel.NotAFunction (tree p a); error = refl; is = h.1 }
  kernel_stops P q (K.NotARecord a) h = record { refusal = kernel.NotARecord (tree p a); error = refl; is = h.1 }
  kernel_stops P q (K.NotAType a) h = record { refusal = kernel.NotAType (tree p a); error = refl; is = h.1 }
  kernel_stops P q K.LevelTooLarge h = record { refusal = kernel.LevelTooLarge; error = refl; is = h }
  kernel_stops P q (K.MetaLeft m) h = record { refusal = kernel.MetaLeft m; error = refl; is = h }
  kernel_stops P q K.OutOfFuel h = record { refusal = kernel.OutOfFuel; error = refl; is = h }
  kernel_stops P q K.OutOfDepth h = record { refusal = kernel.OutOfDepth; error = refl; is = h }
  kernel_stops P q K.NoMemory h = tt

  -- of a term of a family
  abbrev in_decl : Outcome kernel.Refusal (Unit {0}) → Outcome kernel.DeclRefusal (Unit {0})
  in_decl (outcome.Gives o) = outcome.Gives o
  in_decl (outcome.Refuses e) = outcome.Refuses (kernel.OfKernel e)

  of_term : (P : Outcome kernel.DeclRefusal (Unit {0}) → Type 0) (q : Pos) (s : Stop) → Stops (IsRefused (λ (r : Outcome kernel.Refusal (Unit {0})). P (in_decl r)) (λ e. error_at q (kernel_kind e))) s
      → Stops (IsRefused P (λ e. error_at q (decl_kind e))) s
  of_term P q (stop.Error e) h = record { refusal = kernel.OfKernel h.refusal; error = h.error; is = h.is }
  of_term P q stop.NoMemory h = tt

  -- of a family
  pub check_stops : (P : Outcome kernel.DeclRefusal (Unit {0}) → Type 0) (q : Pos) (e : FamilyError) → checks.AnswersFamily p P (Err e) → Stops (IsRefused P (λ e. error_at q (decl_kind e))) (family_not_checked q e)
  check_stops P q (F.Kernel e) h = of_term P q (not_checked q e) (kernel_stops (λ (r : Outcome kernel.Refusal (Unit {0})). P (in_decl r)) q e h.1)
  check_stops P q F.ConShape h = record { refusal = kernel.ConShape; error = refl; is = h }
  check_stops P q F.TooBig h = record { refusal = kernel.TooBig; error = refl; is = h }
  check_stops P q F.NoMemory h = tt

-- ---- what was declared, in the pool

stand : (p : Pool) (xs : List ResolvedName) (t : ℕ) → t < length p.trees → Stands p (postulates_of xs t)
stand p [] t l = tt
stand p (x ∷ xs) t l = (l, stand p xs t l)

in_pool : (p : Pool) (xs : List ResolvedName) (t : ℕ) → signature_in p (postulates_of xs t) ≡ postulates xs (tree p t)
in_pool p [] t = refl
in_pool p (x ∷ xs) t = ap (λ (g : Signature Term). Postulate x.id (tree p t) ∷ g) (in_pool p xs t)

in_append : (p : Pool) (g h : Signature ℕ) → signature_in p (g ++ h) ≡ signature_in p g ++ signature_in p h
in_append p [] h = refl
in_append p (d ∷ g) h = ap (λ (l : Signature Term). decl_map (tree p) d ∷ l) (in_append p g h)

pub one_more : (g : Signature ℕ) (xs : List ResolvedName) (t i : ℕ) (x : ResolvedName) → i < length xs → x ≡ get_or xs i x
    → g ++ postulates_of (drop i xs) t ≡ (g ++ Postulate x.id t ∷ []) ++ postulates_of (drop (i + 1) xs) t
one_more g xs t i x lt is = ap (λ (l : List ResolvedName). g ++ postulates_of l t) (drop_next xs i x lt is) ∙ sym (append_assoc g (Postulate x.id t ∷ []) (postulates_of (drop (i + 1) xs) t))

-- ---- what passed is declared

-- h was added, whose trees are hs
accepts : (old new : Core) (h : Signature ℕ) (hs : Signature Term) (J : Judgement → Type 0) → Agrees old → Extends old.pool new.pool → new.signature ≡ old.signature ++ h → new.scope ≡ old.scope
    → Stands new.pool h → signature_in new.pool h ≡ hs → J (Ok (declared old ++ hs)) → ((g : Signature Term) → J (Ok g) → Derivable g) → IsDeclared old new J
accepts old new h hs J a e signature scope stands trees judged derivable =
    let kept : signature_in new.pool old.signature ≡ declared old = signature_in-extends old.pool new.pool old.signature e a.stands in
    let now : declared new ≡ declared old ++ hs =
    ap (signature_in new.pool) signature ∙ in_append new.pool old.signature h
    ∙ ap (λ (g : Signature Term). g ++ signature_in new.pool h) kept
    ∙ ap (λ (g : Signature Term). declared old ++ g) trees in
    let accepted : J (Ok (declared new)) = subst (λ (g : Signature Term). J (Ok g)) (sym now) judged in
    record {
      agrees = record {
        stands = rw signature (all-append _ old.signature h (Stands-extends old.pool new.pool old.signature e a.stands) stands);
        derivable = derivable (declared new) accepted;
      };
      scope = scope;
      accepted = accepted;
    }

-- the type t of the line passed, and its names were declared
pub line_accepts : (P : Result (Term × ℕ) LoadError → Type 0) (old new : Core) (s : ResolvedSignature) (t n : ℕ) → Agrees old → Extends old.pool new.pool → t < length new.pool.trees
    → P (Ok (tree new.pool t, n)) → new.signature ≡ old.signature ++ postulates_of s.names t → new.scope ≡ old.scope
    → ((g : Signature Term) → Declared P (declared old) (λ q. postulates s.names q.0) (Ok g) → Derivable g) → IsDeclared old new (Declared P (declared old) (λ q. postulates s.names q.0))
line_accepts P old new s t n a e within is signature scope derivable =
    accepts old new (postulates_of s.names t) (postulates s.names (tree new.pool t)) (Declared P (declared old) (λ q. postulates s.names q.0)) a e signature scope (stand new.pool s.names t within)
    (in_pool new.pool s.names t) (record { passed = Ok (tree new.pool t, n); passes = is; is = refl }) derivable

-- a family passed, and was declared
pub family_accepts : (P : Result (FamDecl Term) LoadError → Type 0) (old new : Core) (d : CoreDecl) → Agrees old → Extends old.pool new.pool → decl_of d ≡ Family (fam_of d)
    → AllFamily (λ t. t < length new.pool.trees) (fam_of d) → P (Ok (family_in new.pool d)) → new.signature ≡ old.signature ++ decl_of d ∷ [] → new.scope ≡ old.scope
    → ((g : Signature Term) → Declared P (declared old) (λ d. Family d ∷ []) (Ok g) → Derivable g) → IsDeclared old new (Declared P (declared old) (λ d. Family d ∷ []))
family_accepts P old new d a e family within is signature scope derivable =
    accepts old new (Family (fam_of d) ∷ []) (Family (family_in new.pool d) ∷ []) (Declared P (declared old) (λ d. Family d ∷ [])) a e (rw family at signature) scope (within, tt)
    refl (record { passed = Ok (family_in new.pool d); passes = is; is = refl }) derivable

-- ---- blocks

module _ (fuel depth : ℕ) where
  pub line_further : (g h : Signature Term) (ss : List ResolvedSignature) (i : ℕ) (s : ResolvedSignature) (j : Judgement) → i < length ss → s ≡ get_or ss i s
      → LineOf fuel depth g s (Ok h) → LinesOf fuel depth h (drop (i + 1) ss) j → LinesOf fuel depth g (drop i ss) j
  line_further g h ss i s j lt is l m = subst (λ (ss : List ResolvedSignature). LinesOf fuel depth g ss j) (sym (drop_next ss i s lt is)) (LinesOf.further l m)

  pub lines_stop : (old mid new : Core) (ss : List ResolvedSignature) (i : ℕ) (s : ResolvedSignature) → i < length ss → s ≡ get_or ss i s
      → ((j : Judgement) → LinesOf fuel depth (declared mid) (drop i ss) j → LinesOf fuel depth (declared old) ss j)
      → (r : Stop) → Judges mid new (LineOf fuel depth (declared mid) s) (Err r) → Judges old new (LinesOf fuel depth (declared old) ss) (Err r)
  lines_stop old mid new ss i s lt is left (stop.Error e) l = left (Err e) (subst (λ (ss : List ResolvedSignature). LinesOf fuel depth (declared mid) ss (Err e)) (sym (drop_next ss i s lt is)) (LinesOf.stopped l))
  lines_stop old mid new ss i s lt is left stop.NoMemory l = tt

  pub lines_end : (g : Signature Term) (ss : List ResolvedSignature) (i : ℕ) → length ss ≤ i → LinesOf fuel depth g (drop i ss) (Ok g)
  lines_end g ss i le = subst (λ (ss : List ResolvedSignature). LinesOf fuel depth g ss (Ok g)) (sym (drop_all i ss le)) LinesOf.none

-- ---- declarations

module _ (fuel depth : ℕ) where
  -- a declaration that is resolved to x, which is judged over what was declared before
  pub decl_loads : (old mid new : Core) (d : Decl) (x : Resolved) → Resolves old.scope d (Ok (x, mid.scope)) → declared mid ≡ declared old
      → (o : Result (Unit {0}) Stop) → Judges mid new (DeclOf fuel depth (declared mid) x) o → LoadsDecl fuel depth old new d o
  decl_loads old mid new d x is same (Ok o) j = record {
    agrees = j.agrees;
    goes_on = λ ds result h. Declares.declared is (subst (λ (g : Signature Term). DeclOf fuel depth g x (Ok (declared new))) same j.accepted)
        (subst (λ (k : Known). Declares fuel depth k (declared new) ds result) j.scope h);
  }
  decl_loads old mid new d x is same (Err (stop.Error e)) j = λ ds. Declares.refused is (subst (λ (g : Signature Term). DeclOf fuel depth g x (Err e)) same j)
  decl_loads old mid new d x is same (Err stop.NoMemory) j = tt

  -- a declaration in which a name is refused
  pub name_stops : (old new : Core) (d : Decl) (o : ScopeError) (r : Stop) → (o ≢ scope.NoMemory → Resolves old.scope d (Err o)) → IsNotResolved o r → LoadsDecl fuel depth old new d (Err r)
  name_stops old new d (scope.Bad p j x) (stop.Error e) is n = λ ds. subst (λ (e : LoadError). Declares fuel depth old.scope (declared old) (d ∷ ds) (Err e)) (sym n) (Declares.unresolved (is (λ h. cc h)))
  name_stops old new d scope.NoMemory (stop.Error e) is n = absurd n
  name_stops old new d o stop.NoMemory is n = tt

  pub decls_stop : (old mid new : Core) (ds : List Decl) (i : ℕ) (d : Decl) → i < length ds → d ≡ get_or ds i d
      → ((result : Loads) → Declares fuel depth mid.scope (declared mid) (drop i ds) result → Declares fuel depth old.scope (declared old) ds result)
      → (r : Stop) → LoadsDecl fuel depth mid new d (Err r) → LoadsDecls fuel depth old new ds (Err r)
  decls_stop old mid new ds i d lt is left (stop.Error e) l = left (Err e) (subst (λ (ds : List Decl). Declares fuel depth mid.scope (declared mid) ds (Err e)) (sym (drop_next ds i d lt is)) (l (drop (i + 1) ds)))
  decls_stop old mid new ds i d lt is left stop.NoMemory l = tt

pub agrees_so : (old new : Core) → new.pool ≡ old.pool → new.signature ≡ old.signature → Agrees old → Agrees new
agrees_so old new p g a = record {
  stands = rw (p, g) a.stands;
  derivable = rw (p, g) a.derivable;
}

pub agrees_new : (k : Core) → IsNew k → Agrees k
agrees_new k n = record {
  stands = rw n.signature tt;
  derivable = rw n.signature derivable-empty;
}
