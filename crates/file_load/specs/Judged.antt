-- What the private parts that judge declarations say of their state.
use Rattle.std.specs.Prelude.{◌≡◌, ◌<◌, ℕ, true, false, List, [], ◌∷◌, length, map, Result, Ok, Err}
use Rattle.core_rules.specs.Term.{Term}
use Rattle.core_rules.specs.Signature.{FamDecl, Signature, Postulate}
use Rattle.core_rules.specs.Mapped.{fam_map}
use Rattle.source_tree.specs.declared.decl.Decl.{Decl}
use Rattle.core_terms.specs.declared.signature.CoreDecl.{CoreDecl}
use Rattle.core_terms.specs.Signature.{Stands, fam_of, signature_in}
use Rattle.resolved_tree.specs.declared.resolved.ResolvedName.{ResolvedName}
use Rattle.scope_table.specs.Known.{nothing_known}
use Rattle.file_load.specs.declared.state.Core.{Core}
use Rattle.el_outside.specs.declared.place.Pos.{Pos}
use Rattle.session_text.specs.declared.error.LoadError.{LoadError}
use Rattle.session_text.specs.declared.error.LoadKind.{LoadKind}
use Rattle.session_text.specs.declared.error.LoadKind.TheVariants as kind
use Rattle.core_rules.specs.Derivable.{Derivable}
use Rattle.file_load.specs.declared.stop.Stop.{Stop}
use Rattle.file_load.specs.declared.stop.Stop.TheVariants as stop
use Rattle.term_pool.specs.Pool.{Pool, tree}
use Rattle.kernel_rules.specs.Outcome.{Outcome, Gives, Refuses}
use Rattle.file_load.specs.Sizes.{are_too_large}
use Rattle.file_load.specs.Passes.{error_at}
use Rattle.file_load.specs.Lines.{Judgement}
use Rattle.scope_check.specs.declared.error.ScopeError.{ScopeError}
use Rattle.scope_check.specs.declared.error.ScopeError.TheVariants as scope
use Rattle.file_load.specs.Load.{Declares, Outcome as Loads, named_error, scope_kind}

-- ---- the state

-- the signature of trees that was declared so far
abbrev pub declared : Core → Signature Term
declared k = signature_in k.pool k.signature

-- the ids of what was declared stand in the pool, and the signature is derivable
pub record Agrees (k : Core) : Type 0 where
  pub stands : Stands k.pool k.signature
  pub derivable : Derivable (declared k)

-- nothing was declared
pub record IsNew (k : Core) : Type 0 where
  pub scope : k.scope ≡ nothing_known
  pub signature : k.signature ≡ []

-- the postulates of these names, whose type has this id
abbrev pub postulates_of : List ResolvedName → ℕ → Signature ℕ
postulates_of xs a = map (λ (x : ResolvedName). Postulate x.id a) xs

-- ---- what a part passes

-- K holds of the error that ends the load. Nothing is said where memory ran out
abbrev pub Stops : (LoadError → Type 0) → Stop → Type 0
Stops K (stop.Error e) = K e
Stops K stop.NoMemory = Unit {0}

-- a reading is refused, and the refusal is told as this error
pub record IsRefused {E A : Type 0} (P : Outcome E A → Type 0) (f : E → LoadError) (e : LoadError) : Type 0 where
  pub refusal : E
  pub error : e ≡ f refusal
  pub is : P (Refuses refusal)

-- a reading gives something
pub record IsGiven {E A : Type 0} (P : Outcome E A → Type 0) : Type 0 where
  pub value : A
  pub is : P (Gives value)

-- the value is what a reading gives, where W holds of it; or the refusal is told
abbrev pub Elaborates : {E A B : Type 0} → (Outcome E A → Type 0) → (E → LoadError) → (B → Type 0) → (B → A) → Result B Stop → Type 0
Elaborates P f W at (Ok b) = W b × P (Gives (at b))
Elaborates P f W at (Err s) = Stops (IsRefused P f) s

-- the terms are not too large
abbrev pub Measures : Pos → List Term → Result (Unit {0}) Stop → Type 0
Measures p ts (Ok o) = are_too_large ts ≡ false
Measures p ts (Err s) = Stops (λ e. (e ≡ error_at p kind.TooLarge) × (are_too_large ts ≡ true)) s

-- the kernel's reading gives something, or the refusal is told as a kind at p
abbrev pub Checks : {E A : Type 0} → (Outcome E A → Type 0) → (E → LoadKind) → Pos → Result (Unit {0}) Stop → Type 0
Checks P f p (Ok o) = IsGiven P
Checks P f p (Err s) = Stops (IsRefused P (λ e. error_at p (f e))) s

-- P holds of the value, and W, or of the error
abbrev pub Passed : {A B : Type 0} → (Result A LoadError → Type 0) → (B → Type 0) → (B → A) → Result B Stop → Type 0
Passed P W at (Ok b) = W b × P (Ok (at b))
Passed P W at (Err s) = Stops (λ e. P (Err e)) s

-- a term with the level of its type
abbrev pub is_within : Pool → ℕ × ℕ → Type 0
is_within p q = q.0 < length p.trees

abbrev pub typed_in : Pool → ℕ × ℕ → Term × ℕ
typed_in p q = (tree p q.0, q.1)

-- a family
abbrev pub family_in : Pool → CoreDecl → FamDecl Term
family_in p d = fam_map (tree p) (fam_of d)

-- ---- what a part of the walk answers

-- a part of a declaration was judged; J is what is said of it
pub record IsDeclared (old new : Core) (J : Judgement → Type 0) : Type 0 where
  pub agrees : Agrees new
  pub scope : new.scope ≡ old.scope
  pub accepted : J (Ok (declared new))

abbrev pub Judges : Core → Core → (Judgement → Type 0) → Result (Unit {0}) Stop → Type 0
Judges old new J (Ok o) = IsDeclared old new J
Judges old new J (Err s) = Stops (λ e. J (Err e)) s

-- what stops the load at a name that is refused
abbrev pub IsNotResolved : ScopeError → Stop → Type 0
IsNotResolved (scope.Bad p j x) (stop.Error e) = e ≡ named_error p (scope_kind j) x
IsNotResolved scope.NoMemory (stop.Error e) = ⊥
IsNotResolved o stop.NoMemory = Unit {0}

module _ (fuel depth : ℕ) where
  -- behind a declaration the load goes on from what is known then, or it ends with the error
  pub record GoesOn (old new : Core) (d : Decl) : Type 0 where
    pub agrees : Agrees new
    pub goes_on : (ds : List Decl) (result : Loads) → Declares fuel depth new.scope (declared new) ds result
        → Declares fuel depth old.scope (declared old) (d ∷ ds) result

  abbrev pub LoadsDecl : Core → Core → Decl → Result (Unit {0}) Stop → Type 0
  LoadsDecl old new d (Ok o) = GoesOn old new d
  LoadsDecl old new d (Err s) = Stops (λ e. (ds : List Decl) → Declares fuel depth old.scope (declared old) (d ∷ ds) (Err e)) s

  -- all of the declarations were loaded, or the load ends with the error
  abbrev pub LoadsDecls : Core → Core → List Decl → Result (Unit {0}) Stop → Type 0
  LoadsDecls old new ds (Ok o) = Declares fuel depth old.scope (declared old) ds (Ok (new.scope, declared new)) × Agrees new
  LoadsDecls old new ds (Err s) = Stops (λ e. Declares fuel depth old.scope (declared old) ds (Err e)) s
