-- The cases of declarations are those of the function: what holds by the cases is what the function gives, and what it gives holds.
use Rattle.std.proofs.Common.{◌≡◌, ◌∙◌, Ok, Err, Some, None, List, [], ◌∷◌, ◌++◌, map, ℕ, ◌+◌, true, false, Bool, if◌then◌else◌, Option, is_some, ◌↔◌, refl, ap, sym, subst}
use Rattle.std.specs.Str.{bytes_eq}
use Rattle.source_tree.specs.declared.place.Place.{Place}
use Rattle.source_tree.specs.declared.place.Name.{Name}
use Rattle.source_tree.specs.declared.expr.Expr.{Expr, out-Expr}
use Rattle.source_tree.specs.declared.expr.Binder.{Binder}
use Rattle.source_tree.specs.declared.decl.Signature.{Signature}
use Rattle.source_tree.specs.declared.decl.Clause.{Clause}
use Rattle.source_tree.specs.declared.decl.RecordItem.{RecordItem}
use Rattle.source_tree.specs.declared.decl.RecordItem.TheVariants as i
use Rattle.source_tree.specs.declared.decl.Decl.{Decl}
use Rattle.source_tree.specs.declared.decl.Decl.TheVariants as d
use Rattle.scope_check.specs.declared.error.ScopeError.TheVariants.{Bad}
use Rattle.scope_check.specs.declared.error.ScopeKind.TheVariants.{Duplicate, Misplaced}
use Rattle.scope_table.specs.declared.global.GlobalId.{GlobalId}
use Rattle.scope_table.specs.declared.global.GlobalId.TheVariants as g
use Rattle.scope_table.specs.declared.scope.Fields.{Fields}
use Rattle.scope_check.specs.declared.holes.Holes.TheVariants as h
use Rattle.scope_check.specs.declared.depth.Depth.TheVariants.{Outer}
use Rattle.resolved_tree.specs.declared.resolved.ResolvedExpr.{ResolvedExpr}
use Rattle.resolved_tree.specs.declared.resolved.ResolvedBinder.{ResolvedBinder}
use Rattle.resolved_tree.specs.declared.resolved.ResolvedPattern.{ResolvedPattern}
use Rattle.resolved_tree.specs.declared.resolved.ResolvedClause.{ResolvedClause}
use Rattle.resolved_tree.specs.declared.resolved.ResolvedSignature.{ResolvedSignature}
use Rattle.resolved_tree.specs.declared.resolved.ResolvedItem.{ResolvedItem}
use Rattle.resolved_tree.specs.declared.resolved.ResolvedItem.TheVariants as ri
use Rattle.resolved_tree.specs.declared.resolved.Resolved.{Resolved}
use Rattle.resolved_tree.specs.declared.resolved.Resolved.TheVariants as rd
use Rattle.scope_check.specs.declared.parts.Parts.{Parts}
use Rattle.scope_check.specs.Answers.{Checked, and_then, made, each_from, refused}
use Rattle.scope_table.specs.Known.{Known, global_in, with_global, with_def, with_family, with_families, with_names, Texts, with_text, with_texts, fields_of}
use Rattle.scope_check.specs.Mentions.{texts, in_decl}
use Rattle.scope_check.specs.Exprs.{Locals, label, under, expr}
use Rattle.scope_check.specs.Patterns.{patterns}
use Rattle.scope_check.specs.Decls as spec
use Rattle.scope_check.specs.ResolvesExprs.{ResolvesExpr, ResolvesBehind}
use Rattle.scope_check.specs.ResolvesPatterns.{ResolvesPatterns}
use Rattle.scope_check.specs.Resolves as c
use Rattle.scope_check.specs.Resolves.{NewNames, NewFields, PostulateLine, PostulateLines, RightSide, ResolvesClause, ResolvesClauses, ResolvesFunction, OpensFields, IsNoRecord, ConLine, ConLines, FieldLine, FieldLines, ResolvesItem, ResolvesItems, nothing_read, ResolvesDecl, Resolves}
use Rattle.scope_check.proofs.Answered.{then_by, made_by, each_first, behind, behind_none, behind_both, then_behind, then_same}
use Rattle.scope_check.proofs.ExprCases.{expr_at, expr_is, expr_holds, behind_of, behind_is, behind_holds, behind_then}
use Rattle.scope_check.proofs.PatternCases.{patterns_are, patterns_hold}

-- an expression where holes may stand
typed_is : {k : Known} (ls : Locals) (e : Expr) {m : Checked ResolvedExpr} → ResolvesExpr k h.Allowed ls (out-Expr e) m → expr k h.Allowed ls e ≡ m
typed_is {k = k} ls e d = expr_at k h.Allowed ls e ∙ expr_is k h.Allowed d

-- ---- new names

abbrev name_by : Texts → Name → Bool → Bool → Checked Texts
name_by seen x b t = if b then refused Duplicate x else (if t then refused Duplicate x else Ok (with_text seen x.text))

abbrev field_by : Texts → Name → Bool → Checked Texts
field_by seen x t = if t then refused Duplicate x else Ok (with_text seen x.text)

module _ (k : Known) where
  abbrev names_behind : Texts → Name → List Name → Bool → Bool → Checked Texts
  names_behind seen x xs b t = and_then (name_by seen x b t) (λ more. spec.new_names k more xs)

  new_names_are : {seen : Texts} {xs : List Name} {m : Checked Texts} → NewNames k seen xs m → spec.new_names k seen xs ≡ m
  unfolding spec.new_names
  new_names_are c.all_are_new = refl
  new_names_are (c.declared_again {seen = seen} {x = x} {xs = xs} q) = ap (λ (b : Bool). names_behind seen x xs b (spec.is_among seen x.text)) q
  new_names_are (c.declared_twice {seen = seen} {x = x} {xs = xs} q s) = ap (λ (b : Bool). names_behind seen x xs b (spec.is_among seen x.text)) q ∙ ap (λ (t : Bool). names_behind seen x xs false t) s
  new_names_are (c.is_new {seen = seen} {x = x} {xs = xs} q s d) = ap (λ (b : Bool). names_behind seen x xs b (spec.is_among seen x.text)) q ∙ ap (λ (t : Bool). names_behind seen x xs false t) s ∙ new_names_are d

  new_name_holds : (seen : Texts) (x : Name) (xs : List Name) → NewNames k (with_text seen x.text) xs (spec.new_names k (with_text seen x.text) xs)
      → (b t : Bool) → spec.is_global k x.text ≡ b → spec.is_among seen x.text ≡ t → NewNames k seen (x ∷ xs) (names_behind seen x xs b t)
  new_name_holds seen x xs d true t q s = c.declared_again q
  new_name_holds seen x xs d false true q s = c.declared_twice q s
  new_name_holds seen x xs d false false q s = c.is_new q s d

  new_names_hold : (seen : Texts) (xs : List Name) → NewNames k seen xs (spec.new_names k seen xs)
  unfolding spec.new_names
  new_names_hold seen [] = c.all_are_new
  new_names_hold seen (x ∷ xs) = new_name_holds seen x xs (new_names_hold (with_text seen x.text) xs) (spec.is_global k x.text) (spec.is_among seen x.text) refl refl

abbrev fields_behind : Texts → Name → List Name → Bool → Checked Texts
fields_behind seen x xs t = and_then (field_by seen x t) (λ more. spec.new_fields more xs)

new_fields_are : {seen : Texts} {xs : List Name} {m : Checked Texts} → NewFields seen xs m → spec.new_fields seen xs ≡ m
unfolding spec.new_fields
new_fields_are c.all_fields_are_new = refl
new_fields_are (c.field_declared_twice {seen = seen} {x = x} {xs = xs} s) = ap (fields_behind seen x xs) s
new_fields_are (c.field_is_new {seen = seen} {x = x} {xs = xs} s d) = ap (fields_behind seen x xs) s ∙ new_fields_are d

new_field_holds : (seen : Texts) (x : Name) (xs : List Name) → NewFields (with_text seen x.text) xs (spec.new_fields (with_text seen x.text) xs)
    → (t : Bool) → spec.is_among seen x.text ≡ t → NewFields seen (x ∷ xs) (fields_behind seen x xs t)
new_field_holds seen x xs d true s = c.field_declared_twice s
new_field_holds seen x xs d false s = c.field_is_new s d

new_fields_hold : (seen : Texts) (xs : List Name) → NewFields seen xs (spec.new_fields seen xs)
unfolding spec.new_fields
new_fields_hold seen [] = c.all_fields_are_new
new_fields_hold seen (x ∷ xs) = new_field_holds seen x xs (new_fields_hold (with_text seen x.text) xs) (spec.is_among seen x.text) refl

-- a name is that of no global, and then the rest
abbrev fresh_by : {A : Type 0} → Name → Bool → Checked A → Checked A
fresh_by x b m = and_then {A = Unit {0}} (if b then refused Duplicate x else Ok tt) (λ _. m)

-- ---- postulates

abbrev postulate_behind : Known → Signature → Checked Texts → Checked (ResolvedSignature × Known)
postulate_behind k s n = and_then n (λ _. made (λ a. (spec.signed k s a, spec.with_defs k (texts s.names))) (expr k h.Allowed [] s.ty))

postulate_is : {k : Known} {s : Signature} {m : Checked (ResolvedSignature × Known)} → PostulateLine k s m → spec.postulate_line k s ≡ m
postulate_is {k = k} {s = s} (c.names_refused q) = ap (postulate_behind k s) (new_names_are k q)
postulate_is {k = k} {s = s} (c.postulate_line q d) = ap (postulate_behind k s) (new_names_are k q) ∙ made_by (λ a. (spec.signed k s a, spec.with_defs k (texts s.names))) (typed_is [] s.ty d)

postulate_by : (k : Known) (s : Signature) (n : Checked Texts) → NewNames k [] s.names n → PostulateLine k s (postulate_behind k s n)
postulate_by k s (Ok seen) q = c.postulate_line q (expr_holds k h.Allowed [] s.ty)
postulate_by k s (Err e) q = c.names_refused q

postulate_holds : (k : Known) (s : Signature) → PostulateLine k s (spec.postulate_line k s)
postulate_holds k s = postulate_by k s (spec.new_names k [] s.names) (new_names_hold k [] s.names)

postulates_behind : (found : List ResolvedSignature) (ss : List Signature) (k : Known) → spec.postulate_lines found ss k ≡ behind found (spec.postulate_lines [] ss k)
unfolding spec.postulate_lines
postulates_behind found [] k = behind_none found k
postulates_behind found (s ∷ ss) k =
    then_behind found (spec.postulate_line k s) (λ y. spec.postulate_lines (found ++ y.0 ∷ []) ss y.1) (λ y. spec.postulate_lines (y.0 ∷ []) ss y.1)
    (λ y. postulates_behind (found ++ y.0 ∷ []) ss y.1 ∙ behind_both found (y.0 ∷ []) (spec.postulate_lines [] ss y.1) ∙ ap (behind found) (sym (postulates_behind (y.0 ∷ []) ss y.1)))

postulates_first : (s : Signature) (ss : List Signature) (k : Known) → spec.postulate_lines [] (s ∷ ss) k ≡ and_then (spec.postulate_line k s) (λ y. behind (y.0 ∷ []) (spec.postulate_lines [] ss y.1))
unfolding spec.postulate_lines
postulates_first s ss k = then_same (spec.postulate_line k s) (λ y. spec.postulate_lines (y.0 ∷ []) ss y.1) (λ y. behind (y.0 ∷ []) (spec.postulate_lines [] ss y.1)) (λ y. postulates_behind (y.0 ∷ []) ss y.1)

postulates_are : {k : Known} {ss : List Signature} {m : Checked (List ResolvedSignature × Known)} → PostulateLines k ss m → spec.postulate_lines [] ss k ≡ m
unfolding spec.postulate_lines
postulates_are c.no_postulate = refl
postulates_are (c.postulate_refused {k = k} {s = s} {ss = ss} d) = postulates_first s ss k ∙ then_by (λ y. behind (y.0 ∷ []) (spec.postulate_lines [] ss y.1)) (postulate_is d) refl
postulates_are (c.next_postulate {k = k} {s = s} {ss = ss} {y = y} d ds) = postulates_first s ss k ∙ then_by (λ y. behind (y.0 ∷ []) (spec.postulate_lines [] ss y.1)) (postulate_is d) (ap (behind (y ∷ [])) (postulates_are ds))

postulates_more : {k : Known} {s : Signature} {ss : List Signature} (m : Checked (ResolvedSignature × Known)) → PostulateLine k s m → ((next : Known) → PostulateLines next ss (spec.postulate_lines [] ss next))
    → PostulateLines k (s ∷ ss) (and_then m (λ y. behind (y.0 ∷ []) (spec.postulate_lines [] ss y.1)))
postulates_more (Ok y) d ds = c.next_postulate {y = y.0} d (ds y.1)
postulates_more (Err q) d ds = c.postulate_refused d

postulates_hold : (ss : List Signature) (k : Known) → PostulateLines k ss (spec.postulate_lines [] ss k)
unfolding spec.postulate_lines
postulates_hold [] k = c.no_postulate
postulates_hold (s ∷ ss) k = subst (λ m. PostulateLines k (s ∷ ss) m) (sym (postulates_first s ss k)) (postulates_more (spec.postulate_line k s) (postulate_holds k s) (postulates_hold ss))

-- ---- functions

right_is : {k : Known} {ls : Locals} {o : Option Expr} {m : Checked (Option ResolvedExpr)} → RightSide k ls o m → spec.right_side k ls o ≡ m
right_is c.no_right_side = refl
right_is {ls = ls} (c.right_side {e = e} d) = made_by (λ y. Some y) (typed_is ls e d)

right_holds : (k : Known) (ls : Locals) (o : Option Expr) → RightSide k ls o (spec.right_side k ls o)
right_holds k ls None = c.no_right_side
right_holds k ls (Some e) = c.right_side (expr_holds k h.Allowed ls e)

module _ (k : Known) (f : ℕ) (x : List ℕ) where
  abbrev clause_by : Clause → Bool → Bool → Checked ResolvedClause
  clause_by a b t = if (if b then t else false) then spec.clause_sides k f a else refused Misplaced a.name

  abbrev sides_behind : Clause → Checked (List ResolvedPattern × Texts) → Checked ResolvedClause
  sides_behind a n = and_then n (λ qs. made (λ y. record { place = a.place; function = f; patterns = qs.0; right = y }) (spec.right_side k (spec.left_variables k a.patterns) a.right))

  clause_when : (a : Clause) {b t : Bool} → bytes_eq a.name.text x ≡ b → spec.is_ended a ≡ t → spec.clause k f x a ≡ clause_by a b t
  clause_when a {t = t} q s = ap (λ (t : Bool). clause_by a (bytes_eq a.name.text x) t) s ∙ ap (λ (b : Bool). clause_by a b t) q

  clause_is : {a : Clause} {m : Checked ResolvedClause} → ResolvesClause k f x a m → spec.clause k f x a ≡ m
  clause_is {a = a} (c.clause_of_another_name q) = clause_when a q refl
  clause_is {a = a} (c.clause_without_right_side q s) = clause_when a q s
  clause_is {a = a} (c.left_side_refused q s ds) = clause_when a q s ∙ ap (sides_behind a) (patterns_are k (spec.left_variables k a.patterns) ds)
  clause_is {a = a} (c.clause {qs = qs} q s ds d) = clause_when a q s ∙ ap (sides_behind a) (patterns_are k (spec.left_variables k a.patterns) ds) ∙ made_by (λ y. record { place = a.place; function = f; patterns = qs; right = y }) (right_is d)

  sides_hold : (a : Clause) → bytes_eq a.name.text x ≡ true → spec.is_ended a ≡ true → (n : Checked (List ResolvedPattern × Texts)) → ResolvesPatterns k (spec.left_variables k a.patterns) Outer [] a.patterns n → ResolvesClause k f x a (sides_behind a n)
  sides_hold a q s (Ok y) ds = c.clause {qs = y.0} q s ds (right_holds k (spec.left_variables k a.patterns) a.right)
  sides_hold a q s (Err e) ds = c.left_side_refused q s ds

  clause_holds_by : (a : Clause) (b t : Bool) → bytes_eq a.name.text x ≡ b → spec.is_ended a ≡ t → ResolvesClause k f x a (clause_by a b t)
  clause_holds_by a true true q s = sides_hold a q s (patterns k (spec.left_variables k a.patterns) Outer [] a.patterns []) (patterns_hold k (spec.left_variables k a.patterns) Outer a.patterns [])
  clause_holds_by a true false q s = c.clause_without_right_side q s
  clause_holds_by a false t q s = c.clause_of_another_name q

  clause_holds : (a : Clause) → ResolvesClause k f x a (spec.clause k f x a)
  clause_holds a = clause_holds_by a (bytes_eq a.name.text x) (spec.is_ended a) refl refl

  abbrev clauses : List Clause → Checked (List ResolvedClause)
  clauses cs = each_from [] (map (spec.clause k f x) cs)

  clauses_are : {cs : List Clause} {m : Checked (List ResolvedClause)} → ResolvesClauses k f x cs m → clauses cs ≡ m
  unfolding each_from
  clauses_are c.no_more_clauses = refl
  clauses_are (c.clause_refused {c = a} {cs = cs} d) = each_first (spec.clause k f x a) (map (spec.clause k f x) cs) ∙ then_by (λ y. made (λ ys. y ∷ ys) (clauses cs)) (clause_is d) refl
  clauses_are (c.next_clause {c = a} {cs = cs} {y = y} d ds) = each_first (spec.clause k f x a) (map (spec.clause k f x) cs) ∙ then_by (λ y. made (λ ys. y ∷ ys) (clauses cs)) (clause_is d) (made_by (λ ys. y ∷ ys) (clauses_are ds))

  clauses_more : {a : Clause} {cs : List Clause} {n : Checked (List ResolvedClause)} (m : Checked ResolvedClause) → ResolvesClause k f x a m → ResolvesClauses k f x cs n → ResolvesClauses k f x (a ∷ cs) (and_then m (λ y. made (λ ys. y ∷ ys) n))
  clauses_more (Ok y) d ds = c.next_clause d ds
  clauses_more (Err q) d ds = c.clause_refused d

  clauses_hold : (cs : List Clause) → ResolvesClauses k f x cs (clauses cs)
  unfolding each_from
  clauses_hold [] = c.no_more_clauses
  clauses_hold (a ∷ cs) = subst (λ m. ResolvesClauses k f x (a ∷ cs) m) (sym (each_first (spec.clause k f x a) (map (spec.clause k f x) cs))) (clauses_more (spec.clause k f x a) (clause_holds a) (clauses_hold cs))

module _ (k : Known) (p : Place) (s : Signature) where
  abbrev function_by : Name → List Name → List Clause → Bool → Checked (Resolved × Known)
  function_by x xs cs b = fresh_by x b (if spec.is_single xs cs then spec.function_of k p s x cs else refused Misplaced x)

  abbrev function_behind : Name → List Clause → Checked ResolvedExpr → Checked (Resolved × Known)
  function_behind x cs n = and_then n (λ a. made (λ ys. (rd.Function p (spec.signed k s a) ys, with_def k x.text)) (clauses (with_def k x.text) k.defs x.text cs))

  function_is : {xs : List Name} {cs : List Clause} {m : Checked (Resolved × Known)} → ResolvesFunction k p s xs cs m → spec.function k p s xs cs ≡ m
  function_is c.no_name = refl
  function_is (c.function_declared_again {x = x} {xs = xs} {cs = cs} q) = ap (function_by x xs cs) q
  function_is (c.several_names {x = x} {y = y} {xs = xs} {cs = cs} q) = ap (function_by x (y ∷ xs) cs) q
  function_is (c.no_clause {x = x} q) = ap (function_by x [] []) q
  function_is (c.type_of_function_refused {x = x} {c = a} {cs = cs} q t) = ap (function_by x [] (a ∷ cs)) q ∙ ap (function_behind x (a ∷ cs)) (typed_is [] s.ty t)
  function_is (c.function {x = x} {c = a} {cs = cs} {a = b} q t ds) = ap (function_by x [] (a ∷ cs)) q ∙ ap (function_behind x (a ∷ cs)) (typed_is [] s.ty t)
      ∙ made_by (λ ys. (rd.Function p (spec.signed k s b) ys, with_def k x.text)) (clauses_are (with_def k x.text) k.defs x.text ds)

  function_more : (x : Name) (a : Clause) (cs : List Clause) → spec.is_global k x.text ≡ false → (n : Checked ResolvedExpr) → ResolvesExpr k h.Allowed [] (out-Expr s.ty) n → ResolvesFunction k p s (x ∷ []) (a ∷ cs) (function_behind x (a ∷ cs) n)
  function_more x a cs q (Ok y) t = c.function q t (clauses_hold (with_def k x.text) k.defs x.text (a ∷ cs))
  function_more x a cs q (Err e) t = c.type_of_function_refused q t

  function_holds_by : (x : Name) (xs : List Name) (cs : List Clause) (b : Bool) → spec.is_global k x.text ≡ b → ResolvesFunction k p s (x ∷ xs) cs (function_by x xs cs b)
  function_holds_by x xs cs true q = c.function_declared_again q
  function_holds_by x (y ∷ xs) cs false q = c.several_names q
  function_holds_by x [] [] false q = c.no_clause q
  function_holds_by x [] (a ∷ cs) false q = function_more x a cs q (expr k h.Allowed [] s.ty) (expr_holds k h.Allowed [] s.ty)

  function_holds : (xs : List Name) (cs : List Clause) → ResolvesFunction k p s xs cs (spec.function k p s xs cs)
  function_holds [] cs = c.no_name
  function_holds (x ∷ xs) cs = function_holds_by x xs cs (spec.is_global k x.text) refl

-- ---- `open`

module _ (x : Name) where
  abbrev opens_by : ℕ → List ℕ → Texts → Known → Bool → Checked Known
  opens_by f y ys k b = and_then (if b then Err (Bad x.place.pos Duplicate y) else Ok (with_global k y (g.Field f))) (λ m. spec.open_fields x (f + 1) ys m)

  opens_are : {f : ℕ} {ys : Texts} {k : Known} {m : Checked Known} → OpensFields x f ys k m → spec.open_fields x f ys k ≡ m
  unfolding spec.open_fields
  opens_are c.no_field_left = refl
  opens_are (c.field_named_as_a_global {f = f} {y = y} {ys = ys} {k = k} q) = ap (opens_by f y ys k) q
  opens_are (c.next_field {f = f} {y = y} {ys = ys} {k = k} q d) = ap (opens_by f y ys k) q ∙ opens_are d

  opens_more : (f : ℕ) (y : List ℕ) (ys : Texts) (k : Known) → OpensFields x (f + 1) ys (with_global k y (g.Field f)) (spec.open_fields x (f + 1) ys (with_global k y (g.Field f)))
      → (b : Bool) → spec.is_global k y ≡ b → OpensFields x f (y ∷ ys) k (opens_by f y ys k b)
  opens_more f y ys k d true q = c.field_named_as_a_global q
  opens_more f y ys k d false q = c.next_field q d

  opens_hold : (f : ℕ) (ys : Texts) (k : Known) → OpensFields x f ys k (spec.open_fields x f ys k)
  unfolding spec.open_fields
  opens_hold f [] k = c.no_field_left
  opens_hold f (y ∷ ys) k = opens_more f y ys k (opens_hold (f + 1) ys (with_global k y (g.Field f))) (spec.is_global k y) refl

module _ (k : Known) (p : Place) (x : Name) (b : Bool) where
  no_record_is : {t : GlobalId} → IsNoRecord k t → spec.open_global k p x b t ≡ refused Misplaced x
  no_record_is c.opens_postulate_or_function = refl
  no_record_is c.opens_constructor = refl
  no_record_is c.opens_field = refl
  no_record_is (c.opens_data_type {n = n} q) = ap (spec.open_record k p x b n) q

  open_record_holds : (n : ℕ) → global_in k.globals x.text ≡ Some (g.Family n) → (o : Option Fields) → fields_of k n ≡ o → ResolvesDecl k (d.Open p x b) (spec.open_record k p x b n o)
  open_record_holds n q None s = c.opens_no_record q (c.opens_data_type s)
  open_record_holds n q (Some fs) s = c.opens_record q s (opens_hold x fs.first fs.names k)

  open_holds : (o : Option GlobalId) → global_in k.globals x.text ≡ o → ResolvesDecl k (d.Open p x b) (spec.open_named k p x b o)
  open_holds None q = c.opens_unknown q
  open_holds (Some (g.Def n)) q = c.opens_no_record q c.opens_postulate_or_function
  open_holds (Some (g.Con n)) q = c.opens_no_record q c.opens_constructor
  open_holds (Some (g.Field n)) q = c.opens_no_record q c.opens_field
  open_holds (Some (g.Family n)) q = open_record_holds n q (fields_of k n) refl

-- ---- data types

module _ (k : Known) (ls : Locals) where
  abbrev con_behind : Signature → Checked Texts → Checked (ResolvedSignature × Texts)
  con_behind s n = and_then n (λ more. made (λ a. (spec.signed k s a, more)) (expr k h.Allowed ls s.ty))

  con_is : {seen : Texts} {s : Signature} {m : Checked (ResolvedSignature × Texts)} → ConLine k ls seen s m → spec.con_line k ls seen s ≡ m
  con_is {s = s} (c.con_names_refused q) = ap (con_behind s) (new_names_are k q)
  con_is {s = s} (c.con_line {more = more} q t) = ap (con_behind s) (new_names_are k q) ∙ made_by (λ a. (spec.signed k s a, more)) (typed_is ls s.ty t)

  con_by : (seen : Texts) (s : Signature) (n : Checked Texts) → NewNames k seen s.names n → ConLine k ls seen s (con_behind s n)
  con_by seen s (Ok more) q = c.con_line q (expr_holds k h.Allowed ls s.ty)
  con_by seen s (Err e) q = c.con_names_refused q

  cons_behind : (found : List ResolvedSignature) (ss : List Signature) (seen : Texts) → spec.con_lines k ls found ss seen ≡ behind found (spec.con_lines k ls [] ss seen)
  unfolding spec.con_lines
  cons_behind found [] seen = behind_none found seen
  cons_behind found (s ∷ ss) seen =
      then_behind found (spec.con_line k ls seen s) (λ y. spec.con_lines k ls (found ++ y.0 ∷ []) ss y.1) (λ y. spec.con_lines k ls (y.0 ∷ []) ss y.1)
      (λ y. cons_behind (found ++ y.0 ∷ []) ss y.1 ∙ behind_both found (y.0 ∷ []) (spec.con_lines k ls [] ss y.1) ∙ ap (behind found) (sym (cons_behind (y.0 ∷ []) ss y.1)))

  cons_first : (s : Signature) (ss : List Signature) (seen : Texts) → spec.con_lines k ls [] (s ∷ ss) seen ≡ and_then (spec.con_line k ls seen s) (λ y. behind (y.0 ∷ []) (spec.con_lines k ls [] ss y.1))
  unfolding spec.con_lines
  cons_first s ss seen = then_same (spec.con_line k ls seen s) (λ y. spec.con_lines k ls (y.0 ∷ []) ss y.1) (λ y. behind (y.0 ∷ []) (spec.con_lines k ls [] ss y.1)) (λ y. cons_behind (y.0 ∷ []) ss y.1)

  cons_are : {seen : Texts} {ss : List Signature} {m : Checked (List ResolvedSignature × Texts)} → ConLines k ls seen ss m → spec.con_lines k ls [] ss seen ≡ m
  unfolding spec.con_lines
  cons_are c.no_con = refl
  cons_are (c.con_refused {seen = seen} {s = s} {ss = ss} d) = cons_first s ss seen ∙ then_by (λ y. behind (y.0 ∷ []) (spec.con_lines k ls [] ss y.1)) (con_is d) refl
  cons_are (c.next_con {seen = seen} {s = s} {ss = ss} {y = y} d ds) = cons_first s ss seen ∙ then_by (λ y. behind (y.0 ∷ []) (spec.con_lines k ls [] ss y.1)) (con_is d) (ap (behind (y ∷ [])) (cons_are ds))

  cons_more : {seen : Texts} {s : Signature} {ss : List Signature} (m : Checked (ResolvedSignature × Texts)) → ConLine k ls seen s m → ((more : Texts) → ConLines k ls more ss (spec.con_lines k ls [] ss more))
      → ConLines k ls seen (s ∷ ss) (and_then m (λ y. behind (y.0 ∷ []) (spec.con_lines k ls [] ss y.1)))
  cons_more (Ok y) d ds = c.next_con {y = y.0} d (ds y.1)
  cons_more (Err q) d ds = c.con_refused d

  cons_hold : (ss : List Signature) (seen : Texts) → ConLines k ls seen ss (spec.con_lines k ls [] ss seen)
  unfolding spec.con_lines
  cons_hold [] seen = c.no_con
  cons_hold (s ∷ ss) seen = subst (λ m. ConLines k ls seen (s ∷ ss) m) (sym (cons_first s ss seen)) (cons_more (spec.con_line k ls seen s) (con_by seen s (spec.new_names k seen s.names) (new_names_hold k seen s.names)) (cons_hold ss))

-- ---- records

module _ (k : Known) where
  abbrev line_behind : Parts → Signature → Checked Texts → Checked (ResolvedSignature × Parts)
  line_behind r s n = and_then n (λ more. made (λ a. (spec.signed k s a, record { con = r.con; fields = more; locals = under r.locals s.names })) (expr k h.Allowed r.locals s.ty))

  line_is : {r : Parts} {s : Signature} {m : Checked (ResolvedSignature × Parts)} → FieldLine k r s m → spec.field_line k r s ≡ m
  line_is {r = r} {s = s} (c.field_names_refused q) = ap (line_behind r s) (new_fields_are q)
  line_is {r = r} {s = s} (c.field_line {more = more} q t) = ap (line_behind r s) (new_fields_are q) ∙ made_by (λ a. (spec.signed k s a, record { con = r.con; fields = more; locals = under r.locals s.names })) (typed_is r.locals s.ty t)

  line_by : (r : Parts) (s : Signature) (n : Checked Texts) → NewFields r.fields s.names n → FieldLine k r s (line_behind r s n)
  line_by r s (Ok more) q = c.field_line q (expr_holds k h.Allowed r.locals s.ty)
  line_by r s (Err e) q = c.field_names_refused q

  lines_behind : (found : List ResolvedSignature) (ss : List Signature) (r : Parts) → spec.field_lines k found ss r ≡ behind found (spec.field_lines k [] ss r)
  unfolding spec.field_lines
  lines_behind found [] r = behind_none found r
  lines_behind found (s ∷ ss) r =
      then_behind found (spec.field_line k r s) (λ y. spec.field_lines k (found ++ y.0 ∷ []) ss y.1) (λ y. spec.field_lines k (y.0 ∷ []) ss y.1)
      (λ y. lines_behind (found ++ y.0 ∷ []) ss y.1 ∙ behind_both found (y.0 ∷ []) (spec.field_lines k [] ss y.1) ∙ ap (behind found) (sym (lines_behind (y.0 ∷ []) ss y.1)))

  lines_first : (s : Signature) (ss : List Signature) (r : Parts) → spec.field_lines k [] (s ∷ ss) r ≡ and_then (spec.field_line k r s) (λ y. behind (y.0 ∷ []) (spec.field_lines k [] ss y.1))
  unfolding spec.field_lines
  lines_first s ss r = then_same (spec.field_line k r s) (λ y. spec.field_lines k (y.0 ∷ []) ss y.1) (λ y. behind (y.0 ∷ []) (spec.field_lines k [] ss y.1)) (λ y. lines_behind (y.0 ∷ []) ss y.1)

  lines_are : {r : Parts} {ss : List Signature} {m : Checked (List ResolvedSignature × Parts)} → FieldLines k r ss m → spec.field_lines k [] ss r ≡ m
  unfolding spec.field_lines
  lines_are c.no_field_line = refl
  lines_are (c.field_line_refused {r = r} {s = s} {ss = ss} d) = lines_first s ss r ∙ then_by (λ y. behind (y.0 ∷ []) (spec.field_lines k [] ss y.1)) (line_is d) refl
  lines_are (c.next_field_line {r = r} {s = s} {ss = ss} {y = y} d ds) = lines_first s ss r ∙ then_by (λ y. behind (y.0 ∷ []) (spec.field_lines k [] ss y.1)) (line_is d) (ap (behind (y ∷ [])) (lines_are ds))

  lines_more : {r : Parts} {s : Signature} {ss : List Signature} (m : Checked (ResolvedSignature × Parts)) → FieldLine k r s m → ((next : Parts) → FieldLines k next ss (spec.field_lines k [] ss next))
      → FieldLines k r (s ∷ ss) (and_then m (λ y. behind (y.0 ∷ []) (spec.field_lines k [] ss y.1)))
  lines_more (Ok y) d ds = c.next_field_line {y = y.0} d (ds y.1)
  lines_more (Err q) d ds = c.field_line_refused d

  lines_hold : (ss : List Signature) (r : Parts) → FieldLines k r ss (spec.field_lines k [] ss r)
  unfolding spec.field_lines
  lines_hold [] r = c.no_field_line
  lines_hold (s ∷ ss) r = subst (λ m. FieldLines k r (s ∷ ss) m) (sym (lines_first s ss r)) (lines_more (spec.field_line k r s) (line_by r s (spec.new_fields r.fields s.names) (new_fields_hold r.fields s.names)) (lines_hold ss))

  abbrev con_item_by : Parts → Place → Name → Bool → Bool → Checked (ResolvedItem × Parts)
  con_item_by r p x b t = fresh_by x b (if t then refused Duplicate x else Ok (ri.Constructor p (label k x), record { con = Some x.text; fields = r.fields; locals = r.locals }))

  item_is : {r : Parts} {x : RecordItem} {m : Checked (ResolvedItem × Parts)} → ResolvesItem k r x m → spec.item k r x ≡ m
  item_is c.inductive = refl
  item_is c.coinductive = refl
  item_is {r = r} (c.con_declared_again {p = p} {x = x} q) = ap (λ (b : Bool). con_item_by r p x b (is_some r.con)) q
  item_is {r = r} (c.second_con {p = p} {x = x} q s) = ap (λ (b : Bool). con_item_by r p x b (is_some r.con)) q ∙ ap (con_item_by r p x false) s
  item_is {r = r} (c.con {p = p} {x = x} q s) = ap (λ (b : Bool). con_item_by r p x b (is_some r.con)) q ∙ ap (con_item_by r p x false) s
  item_is (c.fields {p = p} ds) = made_by (λ (y : List ResolvedSignature × Parts). (ri.Field p y.0, y.1)) (lines_are ds)

  con_item_holds : (r : Parts) (p : Place) (x : Name) (b t : Bool) → spec.is_global k x.text ≡ b → is_some r.con ≡ t → ResolvesItem k r (i.Constructor p x) (con_item_by r p x b t)
  con_item_holds r p x true t q s = c.con_declared_again q
  con_item_holds r p x false true q s = c.second_con q s
  con_item_holds r p x false false q s = c.con q s

  item_holds : (r : Parts) (x : RecordItem) → ResolvesItem k r x (spec.item k r x)
  item_holds r (i.Inductive p) = c.inductive
  item_holds r (i.Coinductive p) = c.coinductive
  item_holds r (i.Constructor p x) = con_item_holds r p x (spec.is_global k x.text) (is_some r.con) refl refl
  item_holds r (i.Field p ss) = c.fields (lines_hold ss r)

  items_behind : (found : List ResolvedItem) (xs : List RecordItem) (r : Parts) → spec.items_from k found xs r ≡ behind found (spec.items_from k [] xs r)
  unfolding spec.items_from
  items_behind found [] r = behind_none found r
  items_behind found (x ∷ xs) r =
      then_behind found (spec.item k r x) (λ y. spec.items_from k (found ++ y.0 ∷ []) xs y.1) (λ y. spec.items_from k (y.0 ∷ []) xs y.1)
      (λ y. items_behind (found ++ y.0 ∷ []) xs y.1 ∙ behind_both found (y.0 ∷ []) (spec.items_from k [] xs y.1) ∙ ap (behind found) (sym (items_behind (y.0 ∷ []) xs y.1)))

  items_first : (x : RecordItem) (xs : List RecordItem) (r : Parts) → spec.items_from k [] (x ∷ xs) r ≡ and_then (spec.item k r x) (λ y. behind (y.0 ∷ []) (spec.items_from k [] xs y.1))
  unfolding spec.items_from
  items_first x xs r = then_same (spec.item k r x) (λ y. spec.items_from k (y.0 ∷ []) xs y.1) (λ y. behind (y.0 ∷ []) (spec.items_from k [] xs y.1)) (λ y. items_behind (y.0 ∷ []) xs y.1)

  items_are : {r : Parts} {xs : List RecordItem} {m : Checked (List ResolvedItem × Parts)} → ResolvesItems k r xs m → spec.items_from k [] xs r ≡ m
  unfolding spec.items_from
  items_are c.no_item = refl
  items_are (c.item_refused {r = r} {x = x} {xs = xs} d) = items_first x xs r ∙ then_by (λ y. behind (y.0 ∷ []) (spec.items_from k [] xs y.1)) (item_is d) refl
  items_are (c.next_item {r = r} {x = x} {xs = xs} {y = y} d ds) = items_first x xs r ∙ then_by (λ y. behind (y.0 ∷ []) (spec.items_from k [] xs y.1)) (item_is d) (ap (behind (y ∷ [])) (items_are ds))

  items_more : {r : Parts} {x : RecordItem} {xs : List RecordItem} (m : Checked (ResolvedItem × Parts)) → ResolvesItem k r x m → ((next : Parts) → ResolvesItems k next xs (spec.items_from k [] xs next))
      → ResolvesItems k r (x ∷ xs) (and_then m (λ y. behind (y.0 ∷ []) (spec.items_from k [] xs y.1)))
  items_more (Ok y) d ds = c.next_item {y = y.0} d (ds y.1)
  items_more (Err q) d ds = c.item_refused d

  items_hold : (xs : List RecordItem) (r : Parts) → ResolvesItems k r xs (spec.items_from k [] xs r)
  unfolding spec.items_from
  items_hold [] r = c.no_item
  items_hold (x ∷ xs) r = subst (λ m. ResolvesItems k r (x ∷ xs) m) (sym (items_first x xs r)) (items_more (spec.item k r x) (item_holds r x) (items_hold xs))

-- ---- declarations

module _ (k : Known) (p : Place) (x : Name) (bs : List Binder) (a : Expr) where
  abbrev Header : Type 0
  Header = List ResolvedBinder × ResolvedExpr × Locals

  abbrev header : Checked Header
  header = behind_of k h.Allowed [] bs (out-Expr a)

  abbrev cons_of : List Signature → Header → Checked (Resolved × Known)
  cons_of ss y = made (λ (z : List ResolvedSignature × Texts). (rd.«Data» p (label k x) y.0 y.1 z.0, with_families (spec.with_cons (with_family k x.text) z.1) None)) (spec.con_lines (with_family k x.text) y.2 [] ss [])

  abbrev data_by : List Signature → Bool → Checked (Resolved × Known)
  data_by ss t = fresh_by x t (spec.data_of k p x bs a ss)

  data_of_header : (ss : List Signature) → spec.data_of k p x bs a ss ≡ and_then header (cons_of ss)
  data_of_header ss = behind_then k h.Allowed [] bs a (λ ys b ls. cons_of ss (ys, b, ls))

  data_is : (ss : List Signature) {n : Checked Header} → spec.is_global k x.text ≡ false → ResolvesBehind k h.Allowed [] bs (out-Expr a) n → spec.declared k (d.«Data» p x bs a ss) ≡ and_then n (cons_of ss)
  data_is ss q t = ap (data_by ss) q ∙ data_of_header ss ∙ ap (λ (n : Checked Header). and_then n (cons_of ss)) (behind_is k h.Allowed t)

  data_more : (ss : List Signature) → spec.is_global k x.text ≡ false → (n : Checked Header) → ResolvesBehind k h.Allowed [] bs (out-Expr a) n → ResolvesDecl k (d.«Data» p x bs a ss) (and_then n (cons_of ss))
  data_more ss q (Ok y) t = c.data_type {ys = y.0} {b = y.1} {ls = y.2} q t (cons_hold (with_family k x.text) y.2 ss [])
  data_more ss q (Err e) t = c.head_of_data_type_refused q t

  data_holds : (ss : List Signature) (t : Bool) → spec.is_global k x.text ≡ t → ResolvesDecl k (d.«Data» p x bs a ss) (data_by ss t)
  data_holds ss true q = c.data_type_declared_again q
  data_holds ss false q = subst (λ m. ResolvesDecl k (d.«Data» p x bs a ss) m) (sym (data_of_header ss)) (data_more ss q header (behind_holds k h.Allowed [] bs a))

  abbrev items_of : List RecordItem → Header → Checked (Resolved × Known)
  items_of xs y = made (λ (z : List ResolvedItem × Parts). (rd.Record p (label k x) y.0 y.1 z.0, spec.with_record (with_family k x.text) x.text z.1)) (spec.items_from (with_family k x.text) [] xs (nothing_read y.2))

  abbrev record_by : List RecordItem → Bool → Checked (Resolved × Known)
  record_by xs t = fresh_by x t (spec.record_of k p x bs a xs)

  record_of_header : (xs : List RecordItem) → spec.record_of k p x bs a xs ≡ and_then header (items_of xs)
  record_of_header xs = behind_then k h.Allowed [] bs a (λ ys b ls. items_of xs (ys, b, ls))

  record_is : (xs : List RecordItem) {n : Checked Header} → spec.is_global k x.text ≡ false → ResolvesBehind k h.Allowed [] bs (out-Expr a) n → spec.declared k (d.Record p x bs a xs) ≡ and_then n (items_of xs)
  record_is xs q t = ap (record_by xs) q ∙ record_of_header xs ∙ ap (λ (n : Checked Header). and_then n (items_of xs)) (behind_is k h.Allowed t)

  record_more : (xs : List RecordItem) → spec.is_global k x.text ≡ false → (n : Checked Header) → ResolvesBehind k h.Allowed [] bs (out-Expr a) n → ResolvesDecl k (d.Record p x bs a xs) (and_then n (items_of xs))
  record_more xs q (Ok y) t = c.record_type {ys = y.0} {b = y.1} {ls = y.2} q t (items_hold (with_family k x.text) xs (nothing_read y.2))
  record_more xs q (Err e) t = c.head_of_record_refused q t

  record_holds : (xs : List RecordItem) (t : Bool) → spec.is_global k x.text ≡ t → ResolvesDecl k (d.Record p x bs a xs) (record_by xs t)
  record_holds xs true q = c.record_declared_again q
  record_holds xs false q = subst (λ m. ResolvesDecl k (d.Record p x bs a xs) m) (sym (record_of_header xs)) (record_more xs q header (behind_holds k h.Allowed [] bs a))

module _ (k : Known) where
  declares_is : {e : Decl} {m : Checked (Resolved × Known)} → ResolvesDecl k e m → spec.declared k e ≡ m
  declares_is (c.postulates {p = p} ds) = made_by (λ (y : List ResolvedSignature × Known). (rd.Postulate p y.0, y.1)) (postulates_are ds)
  declares_is (c.a_function {p = p} {s = s} d) = function_is k p s d
  declares_is c.lone_clause = refl
  declares_is (c.opens_unknown {p = p} {x = x} {b = b} q) = ap (spec.open_named k p x b) q
  declares_is (c.opens_no_record {p = p} {x = x} {b = b} q s) = ap (spec.open_named k p x b) q ∙ no_record_is k p x b s
  declares_is (c.opens_record {p = p} {x = x} {b = b} {n = n} q s ds) = ap (spec.open_named k p x b) q ∙ ap (spec.open_record k p x b n) s ∙ made_by (λ (next : Known). (rd.Open p n b, next)) (opens_are x ds)
  declares_is (c.data_type_declared_again {p = p} {x = x} {bs = bs} {a = a} {ss = ss} q) = ap (data_by k p x bs a ss) q
  declares_is (c.head_of_data_type_refused {p = p} {x = x} {bs = bs} {a = a} {ss = ss} q t) = data_is k p x bs a ss q t
  declares_is (c.data_type {p = p} {x = x} {bs = bs} {a = a} {ss = ss} {ys = ys} {b = b} {ls = ls} q t ds) = data_is k p x bs a ss q t
      ∙ made_by (λ (z : List ResolvedSignature × Texts). (rd.«Data» p (label k x) ys b z.0, with_families (spec.with_cons (with_family k x.text) z.1) None)) (cons_are (with_family k x.text) ls ds)
  declares_is (c.record_declared_again {p = p} {x = x} {bs = bs} {a = a} {is = xs} q) = ap (record_by k p x bs a xs) q
  declares_is (c.head_of_record_refused {p = p} {x = x} {bs = bs} {a = a} {is = xs} q t) = record_is k p x bs a xs q t
  declares_is (c.record_type {p = p} {x = x} {bs = bs} {a = a} {is = xs} {ys = ys} {b = b} q t ds) = record_is k p x bs a xs q t
      ∙ made_by (λ (z : List ResolvedItem × Parts). (rd.Record p (label k x) ys b z.0, spec.with_record (with_family k x.text) x.text z.1)) (items_are (with_family k x.text) ds)

  declares_holds : (e : Decl) → ResolvesDecl k e (spec.declared k e)
  declares_holds (d.Postulate p ss) = c.postulates (postulates_hold ss k)
  declares_holds (d.Function p s cs) = c.a_function (function_holds k p s s.names cs)
  declares_holds (d.Clause a) = c.lone_clause
  declares_holds (d.Open p x b) = open_holds k p x b (global_in k.globals x.text) refl
  declares_holds (d.«Data» p x bs a ss) = data_holds k p x bs a ss (spec.is_global k x.text) refl
  declares_holds (d.Record p x bs a xs) = record_holds k p x bs a xs (spec.is_global k x.text) refl

-- what the function gives holds by the cases
pub resolved_holds : (k : Known) (e : Decl) → Resolves k e (spec.resolved k e)
resolved_holds k e = declares_holds (with_names k (with_texts k.names (in_decl e))) e

-- and nothing else holds
pub resolves_is : (k : Known) (e : Decl) (m : Checked (Resolved × Known)) → Resolves k e m → spec.resolved k e ≡ m
resolves_is k e m d = declares_is (with_names k (with_texts k.names (in_decl e))) d

-- there is one answer
pub one_answer : (k : Known) (e : Decl) (m n : Checked (Resolved × Known)) → Resolves k e m → Resolves k e n → m ≡ n
one_answer k e m n d q = sym (resolves_is k e m d) ∙ resolves_is k e n q

-- the answer of the function, however it is written
pub resolved_by : (k : Known) (e : Decl) {m : Checked (Resolved × Known)} → spec.resolved k e ≡ m → Resolves k e m
resolved_by k e q = subst (λ m. Resolves k e m) q (resolved_holds k e)

-- the function is the relation
pub resolves_by_function : (k : Known) (e : Decl) (m : Checked (Resolved × Known)) → Resolves k e m ↔ (spec.resolved k e ≡ m)
resolves_by_function k e m = (resolves_is k e m, λ q. resolved_by k e q)
