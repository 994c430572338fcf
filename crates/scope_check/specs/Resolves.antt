-- What a declaration stands for behind the names so far, with what is known behind it; or its first refusal from left to right: a
-- relation by cases, one for each form and one for each refusal.
use Rattle.std.specs.Prelude.{◌≡◌, ℕ, ◌+◌, Bool, true, false, List, [], ◌∷◌, Option, Some, None, is_some, Ok, Err}
use Rattle.std.specs.Str.{bytes_eq}
use Rattle.source_tree.specs.declared.place.Place.{Place}
use Rattle.source_tree.specs.declared.place.Name.{Name}
use Rattle.source_tree.specs.declared.expr.Expr.{Expr, out-Expr}
use Rattle.source_tree.specs.declared.expr.Binder.{Binder}
use Rattle.source_tree.specs.declared.decl.Signature.{Signature}
use Rattle.source_tree.specs.declared.decl.Clause.{Clause}
use Rattle.source_tree.specs.declared.decl.RecordItem.{RecordItem}
use Rattle.source_tree.specs.declared.decl.RecordItem.TheVariants as i
use Rattle.source_tree.specs.declared.decl.Decl.{Decl}
use Rattle.source_tree.specs.declared.decl.Decl.TheVariants as d
use Rattle.scope_check.specs.declared.error.ScopeError.{ScopeError}
use Rattle.scope_check.specs.declared.error.ScopeError.TheVariants.{Bad}
use Rattle.scope_check.specs.declared.error.ScopeKind.TheVariants.{NotInScope, Duplicate, Misplaced}
use Rattle.scope_table.specs.declared.global.GlobalId.{GlobalId}
use Rattle.scope_table.specs.declared.global.GlobalId.TheVariants as g
use Rattle.scope_table.specs.declared.scope.Fields.{Fields}
use Rattle.scope_check.specs.declared.holes.Holes.TheVariants as h
use Rattle.scope_check.specs.declared.depth.Depth.TheVariants.{Outer}
use Rattle.resolved_tree.specs.declared.resolved.ResolvedExpr.{ResolvedExpr}
use Rattle.resolved_tree.specs.declared.resolved.ResolvedBinder.{ResolvedBinder}
use Rattle.resolved_tree.specs.declared.resolved.ResolvedPattern.{ResolvedPattern}
use Rattle.resolved_tree.specs.declared.resolved.ResolvedClause.{ResolvedClause}
use Rattle.resolved_tree.specs.declared.resolved.ResolvedSignature.{ResolvedSignature}
use Rattle.resolved_tree.specs.declared.resolved.ResolvedItem.{ResolvedItem}
use Rattle.resolved_tree.specs.declared.resolved.ResolvedItem.TheVariants as ri
use Rattle.resolved_tree.specs.declared.resolved.Resolved.{Resolved}
use Rattle.resolved_tree.specs.declared.resolved.Resolved.TheVariants as rd
use Rattle.scope_check.specs.declared.parts.Parts.{Parts}
use Rattle.scope_check.specs.Answers.{Checked, made, refused}
use Rattle.scope_table.specs.Known.{Known, global_in, with_global, with_def, with_family, with_families, with_names, Texts, with_text, with_texts, fields_of}
use Rattle.scope_check.specs.Mentions.{texts, in_decl}
use Rattle.scope_check.specs.Exprs.{Locals, label, under}
use Rattle.scope_check.specs.Decls.{is_global, is_among, signed, with_defs, with_cons, with_record, left_variables, is_ended}
use Rattle.scope_check.specs.ResolvesExprs.{ResolvesExpr, ResolvesBehind}
use Rattle.scope_check.specs.ResolvesPatterns.{ResolvesPatterns}

-- ---- new names

-- names that are declared together, behind those seen so far
pub data NewNames (k : Known) : Texts → List Name → Checked Texts → Type 0 where
  all_are_new : {seen : Texts} → NewNames k seen [] (Ok seen)
  -- a global is declared again
  declared_again : {seen : Texts} {x : Name} {xs : List Name} → is_global k x.text ≡ true → NewNames k seen (x ∷ xs) (refused Duplicate x)
  -- by the same declaration
  declared_twice : {seen : Texts} {x : Name} {xs : List Name} → is_global k x.text ≡ false → is_among seen x.text ≡ true
      → NewNames k seen (x ∷ xs) (refused Duplicate x)
  is_new : {seen : Texts} {x : Name} {xs : List Name} {m : Checked Texts} → is_global k x.text ≡ false → is_among seen x.text ≡ false
      → NewNames k (with_text seen x.text) xs m
      → NewNames k seen (x ∷ xs) m

-- fields of one record: a field may have the name of a global
pub data NewFields : Texts → List Name → Checked Texts → Type 0 where
  all_fields_are_new : {seen : Texts} → NewFields seen [] (Ok seen)
  -- a field has the name of an earlier field of its record
  field_declared_twice : {seen : Texts} {x : Name} {xs : List Name} → is_among seen x.text ≡ true
      → NewFields seen (x ∷ xs) (refused Duplicate x)
  field_is_new : {seen : Texts} {x : Name} {xs : List Name} {m : Checked Texts} → is_among seen x.text ≡ false
      → NewFields (with_text seen x.text) xs m
      → NewFields seen (x ∷ xs) m

-- ---- postulates

-- a postulated name is in scope only after its line
pub data PostulateLine (k : Known) (s : Signature) : Checked (ResolvedSignature × Known) → Type 0 where
  names_refused : {e : ScopeError} → NewNames k [] s.names (Err e) → PostulateLine k s (Err e)
  postulate_line : {seen : Texts} {m : Checked ResolvedExpr} → NewNames k [] s.names (Ok seen)
      → ResolvesExpr k h.Allowed [] (out-Expr s.ty) m
      → PostulateLine k s (made (λ a. (signed k s a, with_defs k (texts s.names))) m)

pub data PostulateLines : Known → List Signature → Checked (List ResolvedSignature × Known) → Type 0 where
  no_postulate : {k : Known} → PostulateLines k [] (Ok ([], k))
  postulate_refused : {k : Known} {s : Signature} {ss : List Signature} {e : ScopeError} → PostulateLine k s (Err e)
      → PostulateLines k (s ∷ ss) (Err e)
  next_postulate : {k next : Known} {s : Signature} {ss : List Signature} {y : ResolvedSignature} {m : Checked (List ResolvedSignature × Known)}
      → PostulateLine k s (Ok (y, next)) → PostulateLines next ss m
      → PostulateLines k (s ∷ ss) (made (λ z. (y ∷ z.0, z.1)) m)

-- ---- functions

pub data RightSide (k : Known) (ls : Locals) : Option Expr → Checked (Option ResolvedExpr) → Type 0 where
  no_right_side : RightSide k ls None (Ok None)
  right_side : {e : Expr} {m : Checked ResolvedExpr} → ResolvesExpr k h.Allowed ls (out-Expr e) m
      → RightSide k ls (Some e) (made (λ y. Some y) m)

-- a clause of function f whose name has the text x: its right side and its dotted patterns see all variables of the left side
pub data ResolvesClause (k : Known) (f : ℕ) (x : List ℕ) (c : Clause) : Checked ResolvedClause → Type 0 where
  -- a clause that does not follow its signature or a clause of its name
  clause_of_another_name : bytes_eq c.name.text x ≡ false → ResolvesClause k f x c (refused Misplaced c.name)
  -- a clause that has neither a right side nor, at any depth, a `()` among its patterns
  clause_without_right_side : bytes_eq c.name.text x ≡ true → is_ended c ≡ false → ResolvesClause k f x c (refused Misplaced c.name)
  left_side_refused : {e : ScopeError} → bytes_eq c.name.text x ≡ true → is_ended c ≡ true
      → ResolvesPatterns k (left_variables k c.patterns) Outer [] c.patterns (Err e)
      → ResolvesClause k f x c (Err e)
  clause : {qs : List ResolvedPattern} {seen : Texts} {m : Checked (Option ResolvedExpr)} → bytes_eq c.name.text x ≡ true
      → is_ended c ≡ true → ResolvesPatterns k (left_variables k c.patterns) Outer [] c.patterns (Ok (qs, seen))
      → RightSide k (left_variables k c.patterns) c.right m
      → ResolvesClause k f x c (made (λ y. record { place = c.place; function = f; patterns = qs; right = y }) m)

pub data ResolvesClauses (k : Known) (f : ℕ) (x : List ℕ) : List Clause → Checked (List ResolvedClause) → Type 0 where
  no_more_clauses : ResolvesClauses k f x [] (Ok [])
  clause_refused : {c : Clause} {cs : List Clause} {e : ScopeError} → ResolvesClause k f x c (Err e)
      → ResolvesClauses k f x (c ∷ cs) (Err e)
  next_clause : {c : Clause} {cs : List Clause} {y : ResolvedClause} {m : Checked (List ResolvedClause)} → ResolvesClause k f x c (Ok y)
      → ResolvesClauses k f x cs m
      → ResolvesClauses k f x (c ∷ cs) (made (λ ys. y ∷ ys) m)

-- a function with its signature's names and its clauses; its name is in scope after its signature
pub data ResolvesFunction (k : Known) (p : Place) (s : Signature) : List Name → List Clause → Checked (Resolved × Known) → Type 0 where
  -- no source has a signature without a name
  no_name : {cs : List Clause} → ResolvesFunction k p s [] cs (Err (Bad p.pos Misplaced []))
  -- a global is declared again
  function_declared_again : {x : Name} {xs : List Name} {cs : List Clause} → is_global k x.text ≡ true
      → ResolvesFunction k p s (x ∷ xs) cs (refused Duplicate x)
  -- a function signature that has several names
  several_names : {x y : Name} {xs : List Name} {cs : List Clause} → is_global k x.text ≡ false
      → ResolvesFunction k p s (x ∷ y ∷ xs) cs (refused Misplaced x)
  -- a function signature that is not followed at once by a clause of its name
  no_clause : {x : Name} → is_global k x.text ≡ false → ResolvesFunction k p s (x ∷ []) [] (refused Misplaced x)
  type_of_function_refused : {x : Name} {c : Clause} {cs : List Clause} {e : ScopeError} → is_global k x.text ≡ false
      → ResolvesExpr k h.Allowed [] (out-Expr s.ty) (Err e)
      → ResolvesFunction k p s (x ∷ []) (c ∷ cs) (Err e)
  function : {x : Name} {c : Clause} {cs : List Clause} {a : ResolvedExpr} {m : Checked (List ResolvedClause)} → is_global k x.text ≡ false
      → ResolvesExpr k h.Allowed [] (out-Expr s.ty) (Ok a) → ResolvesClauses (with_def k x.text) k.defs x.text (c ∷ cs) m
      → ResolvesFunction k p s (x ∷ []) (c ∷ cs) (made (λ ys. (rd.Function p (signed k s a) ys, with_def k x.text)) m)

-- ---- `open`

-- the fields from number f on come into scope under their own names
pub data OpensFields (x : Name) : ℕ → Texts → Known → Checked Known → Type 0 where
  no_field_left : {f : ℕ} {k : Known} → OpensFields x f [] k (Ok k)
  -- a global has the name of a field: it is refused at the record's name, with the first such field
  field_named_as_a_global : {f : ℕ} {y : List ℕ} {ys : Texts} {k : Known} → is_global k y ≡ true
      → OpensFields x f (y ∷ ys) k (Err (Bad x.place.pos Duplicate y))
  next_field : {f : ℕ} {y : List ℕ} {ys : Texts} {k : Known} {m : Checked Known} → is_global k y ≡ false
      → OpensFields x (f + 1) ys (with_global k y (g.Field f)) m
      → OpensFields x f (y ∷ ys) k m

pub data IsNoRecord (k : Known) : GlobalId → Type 0 where
  opens_postulate_or_function : {n : ℕ} → IsNoRecord k (g.Def n)
  opens_constructor : {n : ℕ} → IsNoRecord k (g.Con n)
  opens_field : {n : ℕ} → IsNoRecord k (g.Field n)
  opens_data_type : {n : ℕ} → fields_of k n ≡ None → IsNoRecord k (g.Family n)

-- ---- data types

-- one line of constructors, behind the names seen so far
pub data ConLine (k : Known) (ls : Locals) (seen : Texts) (s : Signature) : Checked (ResolvedSignature × Texts) → Type 0 where
  con_names_refused : {e : ScopeError} → NewNames k seen s.names (Err e) → ConLine k ls seen s (Err e)
  con_line : {more : Texts} {m : Checked ResolvedExpr} → NewNames k seen s.names (Ok more) → ResolvesExpr k h.Allowed ls (out-Expr s.ty) m
      → ConLine k ls seen s (made (λ a. (signed k s a, more)) m)

pub data ConLines (k : Known) (ls : Locals) : Texts → List Signature → Checked (List ResolvedSignature × Texts) → Type 0 where
  no_con : {seen : Texts} → ConLines k ls seen [] (Ok ([], seen))
  con_refused : {seen : Texts} {s : Signature} {ss : List Signature} {e : ScopeError} → ConLine k ls seen s (Err e)
      → ConLines k ls seen (s ∷ ss) (Err e)
  next_con : {seen more : Texts} {s : Signature} {ss : List Signature} {y : ResolvedSignature} {m : Checked (List ResolvedSignature × Texts)}
      → ConLine k ls seen s (Ok (y, more)) → ConLines k ls more ss m
      → ConLines k ls seen (s ∷ ss) (made (λ z. (y ∷ z.0, z.1)) m)

-- ---- records

-- one line of fields, behind the parts of the record read so far: the earlier fields are variables of the later ones
pub data FieldLine (k : Known) (r : Parts) (s : Signature) : Checked (ResolvedSignature × Parts) → Type 0 where
  field_names_refused : {e : ScopeError} → NewFields r.fields s.names (Err e) → FieldLine k r s (Err e)
  field_line : {more : Texts} {m : Checked ResolvedExpr} → NewFields r.fields s.names (Ok more)
      → ResolvesExpr k h.Allowed r.locals (out-Expr s.ty) m
      → FieldLine k r s (made (λ a. (signed k s a, record { con = r.con; fields = more; locals = under r.locals s.names })) m)

pub data FieldLines (k : Known) : Parts → List Signature → Checked (List ResolvedSignature × Parts) → Type 0 where
  no_field_line : {r : Parts} → FieldLines k r [] (Ok ([], r))
  field_line_refused : {r : Parts} {s : Signature} {ss : List Signature} {e : ScopeError} → FieldLine k r s (Err e)
      → FieldLines k r (s ∷ ss) (Err e)
  next_field_line : {r next : Parts} {s : Signature} {ss : List Signature} {y : ResolvedSignature} {m : Checked (List ResolvedSignature × Parts)}
      → FieldLine k r s (Ok (y, next)) → FieldLines k next ss m
      → FieldLines k r (s ∷ ss) (made (λ z. (y ∷ z.0, z.1)) m)

pub data ResolvesItem (k : Known) (r : Parts) : RecordItem → Checked (ResolvedItem × Parts) → Type 0 where
  inductive : {p : Place} → ResolvesItem k r (i.Inductive p) (Ok (ri.Inductive p, r))
  coinductive : {p : Place} → ResolvesItem k r (i.Coinductive p) (Ok (ri.Coinductive p, r))
  -- a global is declared again
  con_declared_again : {p : Place} {x : Name} → is_global k x.text ≡ true → ResolvesItem k r (i.Constructor p x) (refused Duplicate x)
  -- no source has a second constructor in a record
  second_con : {p : Place} {x : Name} → is_global k x.text ≡ false → is_some r.con ≡ true
      → ResolvesItem k r (i.Constructor p x) (refused Duplicate x)
  con : {p : Place} {x : Name} → is_global k x.text ≡ false → is_some r.con ≡ false
      → ResolvesItem k r (i.Constructor p x) (Ok (ri.Constructor p (label k x), record { con = Some x.text; fields = r.fields; locals = r.locals }))
  fields : {p : Place} {ss : List Signature} {m : Checked (List ResolvedSignature × Parts)} → FieldLines k r ss m
      → ResolvesItem k r (i.Field p ss) (made (λ y. (ri.Field p y.0, y.1)) m)

pub data ResolvesItems (k : Known) : Parts → List RecordItem → Checked (List ResolvedItem × Parts) → Type 0 where
  no_item : {r : Parts} → ResolvesItems k r [] (Ok ([], r))
  item_refused : {r : Parts} {x : RecordItem} {xs : List RecordItem} {e : ScopeError} → ResolvesItem k r x (Err e)
      → ResolvesItems k r (x ∷ xs) (Err e)
  next_item : {r next : Parts} {x : RecordItem} {xs : List RecordItem} {y : ResolvedItem} {m : Checked (List ResolvedItem × Parts)}
      → ResolvesItem k r x (Ok (y, next)) → ResolvesItems k next xs m
      → ResolvesItems k r (x ∷ xs) (made (λ z. (y ∷ z.0, z.1)) m)

-- before the first item of a record, whose fields stand under its parameters
abbrev pub nothing_read : Locals → Parts
nothing_read ls = record { con = None; fields = []; locals = ls }

-- ---- declarations

-- where the names have their numbers
pub data ResolvesDecl (k : Known) : Decl → Checked (Resolved × Known) → Type 0 where
  postulates : {p : Place} {ss : List Signature} {m : Checked (List ResolvedSignature × Known)} → PostulateLines k ss m
      → ResolvesDecl k (d.Postulate p ss) (made (λ y. (rd.Postulate p y.0, y.1)) m)
  a_function : {p : Place} {s : Signature} {cs : List Clause} {m : Checked (Resolved × Known)} → ResolvesFunction k p s s.names cs m
      → ResolvesDecl k (d.Function p s cs) m
  -- a clause that does not follow its signature or a clause of its name
  lone_clause : {c : Clause} → ResolvesDecl k (d.Clause c) (refused Misplaced c.name)
  -- `open` of a name that is nothing in scope
  opens_unknown : {p : Place} {x : Name} {b : Bool} → global_in k.globals x.text ≡ None → ResolvesDecl k (d.Open p x b) (refused NotInScope x)
  -- `open` of a name that is no record
  opens_no_record : {p : Place} {x : Name} {b : Bool} {t : GlobalId} → global_in k.globals x.text ≡ Some t → IsNoRecord k t
      → ResolvesDecl k (d.Open p x b) (refused Misplaced x)
  opens_record : {p : Place} {x : Name} {b : Bool} {n : ℕ} {fs : Fields} {m : Checked Known}
      → global_in k.globals x.text ≡ Some (g.Family n) → fields_of k n ≡ Some fs → OpensFields x fs.first fs.names k m
      → ResolvesDecl k (d.Open p x b) (made (λ next. (rd.Open p n b, next)) m)
  -- a global is declared again
  data_type_declared_again : {p : Place} {x : Name} {bs : List Binder} {a : Expr} {ss : List Signature} → is_global k x.text ≡ true
      → ResolvesDecl k (d.«Data» p x bs a ss) (refused Duplicate x)
  head_of_data_type_refused : {p : Place} {x : Name} {bs : List Binder} {a : Expr} {ss : List Signature} {e : ScopeError}
      → is_global k x.text ≡ false → ResolvesBehind k h.Allowed [] bs (out-Expr a) (Err e)
      → ResolvesDecl k (d.«Data» p x bs a ss) (Err e)
  -- its name is in scope after the type that follows its colon, and its constructors after the whole
  data_type : {p : Place} {x : Name} {bs : List Binder} {a : Expr} {ss : List Signature} {ys : List ResolvedBinder} {b : ResolvedExpr} {ls : Locals} {m : Checked (List ResolvedSignature × Texts)}
      → is_global k x.text ≡ false → ResolvesBehind k h.Allowed [] bs (out-Expr a) (Ok (ys, b, ls))
      → ConLines (with_family k x.text) ls [] ss m
      → ResolvesDecl k (d.«Data» p x bs a ss) (made (λ z. (rd.«Data» p (label k x) ys b z.0, with_families (with_cons (with_family k x.text) z.1) None)) m)
  -- a global is declared again
  record_declared_again : {p : Place} {x : Name} {bs : List Binder} {a : Expr} {is : List RecordItem} → is_global k x.text ≡ true
      → ResolvesDecl k (d.Record p x bs a is) (refused Duplicate x)
  head_of_record_refused : {p : Place} {x : Name} {bs : List Binder} {a : Expr} {is : List RecordItem} {e : ScopeError}
      → is_global k x.text ≡ false → ResolvesBehind k h.Allowed [] bs (out-Expr a) (Err e)
      → ResolvesDecl k (d.Record p x bs a is) (Err e)
  -- its name is in scope after the type that follows its colon, and its constructor and its fields, as `R.f`, after the whole
  record_type : {p : Place} {x : Name} {bs : List Binder} {a : Expr} {is : List RecordItem} {ys : List ResolvedBinder} {b : ResolvedExpr} {ls : Locals} {m : Checked (List ResolvedItem × Parts)}
      → is_global k x.text ≡ false → ResolvesBehind k h.Allowed [] bs (out-Expr a) (Ok (ys, b, ls))
      → ResolvesItems (with_family k x.text) (nothing_read ls) is m
      → ResolvesDecl k (d.Record p x bs a is) (made (λ z. (rd.Record p (label k x) ys b z.0, with_record (with_family k x.text) x.text z.1)) m)

-- what the declaration stands for behind k, and what is known behind it: its names get their numbers first, in the order of the text
abbrev pub Resolves : Known → Decl → Checked (Resolved × Known) → Type 0
Resolves k e m = ResolvesDecl (with_names k (with_texts k.names (in_decl e))) e m
