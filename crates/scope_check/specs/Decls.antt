-- What a declaration stands for, and what is in scope behind it, or the first refusal, as a function: what `Resolves` says, as the
-- code goes.
use Rattle.std.specs.Prelude.{ℕ, ◌+◌, Bool, true, false, ◌||◌, List, [], ◌∷◌, ◌++◌, map, Option, Some, None, is_some, if◌then◌else◌, Ok, Err}
use Rattle.std.specs.List.{list_any}
use Rattle.std.specs.Str.{bytes_eq}
use Rattle.source_tree.specs.declared.place.Place.{Place}
use Rattle.source_tree.specs.declared.place.Name.{Name}
use Rattle.source_tree.specs.declared.expr.Expr.{Expr}
use Rattle.source_tree.specs.declared.expr.Binder.{Binder}
use Rattle.source_tree.specs.declared.pattern.Pattern.{Pattern}
use Rattle.source_tree.specs.declared.decl.Signature.{Signature}
use Rattle.source_tree.specs.declared.decl.Clause.{Clause}
use Rattle.source_tree.specs.declared.decl.RecordItem.{RecordItem}
use Rattle.source_tree.specs.declared.decl.RecordItem.TheVariants as i
use Rattle.source_tree.specs.declared.decl.Decl.{Decl}
use Rattle.source_tree.specs.declared.decl.Decl.TheVariants as d
use Rattle.scope_check.specs.declared.error.ScopeError.TheVariants.{Bad}
use Rattle.scope_check.specs.declared.error.ScopeKind.TheVariants.{NotInScope, Duplicate, Misplaced}
use Rattle.scope_table.specs.declared.global.GlobalId.{GlobalId}
use Rattle.scope_table.specs.declared.global.GlobalId.TheVariants as g
use Rattle.scope_table.specs.declared.scope.Fields.{Fields}
use Rattle.scope_check.specs.declared.holes.Holes.TheVariants as h
use Rattle.scope_check.specs.declared.depth.Depth.TheVariants.{Outer}
use Rattle.resolved_tree.specs.declared.resolved.ResolvedExpr.{ResolvedExpr}
use Rattle.resolved_tree.specs.declared.resolved.ResolvedClause.{ResolvedClause}
use Rattle.resolved_tree.specs.declared.resolved.ResolvedSignature.{ResolvedSignature}
use Rattle.resolved_tree.specs.declared.resolved.ResolvedItem.{ResolvedItem}
use Rattle.resolved_tree.specs.declared.resolved.ResolvedItem.TheVariants as ri
use Rattle.resolved_tree.specs.declared.resolved.Resolved.{Resolved}
use Rattle.resolved_tree.specs.declared.resolved.Resolved.TheVariants as rd
use Rattle.scope_check.specs.declared.parts.Parts.{Parts}
use Rattle.scope_check.specs.Answers.{Checked, ◌>>=◌, each_from, refused}
use Rattle.scope_table.specs.Known.{Known, place_of, global_in, with_global, with_def, with_con, with_nameless_con, with_field, with_family, with_families, with_names, fields_of, Texts, with_text, with_texts}
use Rattle.scope_check.specs.Mentions.{texts, all_of, in_decl}
use Rattle.scope_check.specs.Exprs.{Locals, label, under, expr}
use Rattle.scope_check.specs.Layers.{binders}
use Rattle.scope_check.specs.Patterns.{is_absurd, inside, variables, patterns}

-- ---- new names

abbrev pub is_global : Known → List ℕ → Bool
is_global k x = is_some (global_in k.globals x)

abbrev pub is_among : Texts → List ℕ → Bool
is_among xs x = is_some (place_of xs x)

-- the name of no global
abbrev pub fresh : Known → Name → Checked (Unit {0})
fresh k x = if is_global k x.text then refused Duplicate x else Ok tt

-- names that are to be declared together, behind those tested so far: each is that of no global, and none stands twice
abbrev pub new_name : Known → Texts → Name → Checked Texts
new_name k seen x = if is_global k x.text then refused Duplicate x else (if is_among seen x.text then refused Duplicate x else Ok (with_text seen x.text))

unfoldable pub new_names : Known → Texts → List Name → Checked Texts
new_names k seen [] = Ok seen
new_names k seen (x ∷ xs) = new_name k seen x >>= (λ more. new_names k more xs)

-- fields of one record: a field may have the name of a global, but not that of an earlier field
abbrev pub new_field : Texts → Name → Checked Texts
new_field seen x = if is_among seen x.text then refused Duplicate x else Ok (with_text seen x.text)

unfoldable pub new_fields : Texts → List Name → Checked Texts
new_fields seen [] = Ok seen
new_fields seen (x ∷ xs) = new_field seen x >>= (λ more. new_fields more xs)

-- a signature with its type
abbrev pub signed : Known → Signature → ResolvedExpr → ResolvedSignature
signed k s a = record { place = s.place; names = map (label k) s.names; ty = a }

-- ---- postulates

unfoldable pub with_defs : Known → Texts → Known
with_defs k [] = k
with_defs k (x ∷ xs) = with_defs (with_def k x) xs

-- one line: its names come into scope behind it
abbrev pub postulate_line : Known → Signature → Checked (ResolvedSignature × Known)
postulate_line k s = new_names k [] s.names >>= (λ _. expr k h.Allowed [] s.ty >>= (λ a. Ok (signed k s a, with_defs k (texts s.names))))

unfoldable pub postulate_lines : List ResolvedSignature → List Signature → Known → Checked (List ResolvedSignature × Known)
postulate_lines found [] k = Ok (found, k)
postulate_lines found (s ∷ ss) k = postulate_line k s >>= (λ y. postulate_lines (found ++ y.0 ∷ []) ss y.1)

-- ---- functions

abbrev pub right_side : Known → Locals → Option Expr → Checked (Option ResolvedExpr)
right_side k ls None = Ok None
right_side k ls (Some e) = expr k h.Allowed ls e >>= (λ y. Ok (Some y))

-- the variables of a left side, the innermost first
abbrev pub left_variables : Known → List Pattern → Locals
left_variables k qs = inside [] (all_of (map (variables k) qs))

-- a clause has a right side or a `()`
abbrev pub is_ended : Clause → Bool
is_ended c = is_some c.right || list_any is_absurd c.patterns

-- the clause of function f whose name has this text
abbrev pub clause_sides : Known → ℕ → Clause → Checked ResolvedClause
clause_sides k f c =
    let ls = left_variables k c.patterns in
    patterns k ls Outer [] c.patterns [] >>= (λ qs. right_side k ls c.right >>= (λ e.
    Ok (record { place = c.place; function = f; patterns = qs.0; right = e })))

abbrev pub is_clause_of : List ℕ → Clause → Bool
is_clause_of x c = if bytes_eq c.name.text x then is_ended c else false

abbrev pub clause : Known → ℕ → List ℕ → Clause → Checked ResolvedClause
clause k f x c = if is_clause_of x c then clause_sides k f c else refused Misplaced c.name

-- a signature of one name, and at least one clause
abbrev pub is_single : List Name → List Clause → Bool
is_single [] (c ∷ cs) = true
is_single [] [] = false
is_single (x ∷ xs) cs = false

abbrev pub function_of : Known → Place → Signature → Name → List Clause → Checked (Resolved × Known)
function_of k p s x cs =
    let m = with_def k x.text in
    expr k h.Allowed [] s.ty >>= (λ a. each_from [] (map (clause m k.defs x.text) cs) >>= (λ ys. Ok (rd.Function p (signed k s a) ys, m)))

abbrev pub function : Known → Place → Signature → List Name → List Clause → Checked (Resolved × Known)
function k p s [] cs = Err (Bad p.pos Misplaced [])
function k p s (x ∷ xs) cs = fresh k x >>= (λ _. if is_single xs cs then function_of k p s x cs else refused Misplaced x)

-- ---- `open`

-- the fields from number f on come into scope under their own names; x is the record's name
abbrev pub open_field : Name → ℕ → List ℕ → Known → Checked Known
open_field x f y k = if is_global k y then Err (Bad x.place.pos Duplicate y) else Ok (with_global k y (g.Field f))

unfoldable pub open_fields : Name → ℕ → Texts → Known → Checked Known
open_fields x f [] k = Ok k
open_fields x f (y ∷ ys) k = open_field x f y k >>= (λ m. open_fields x (f + 1) ys m)

abbrev pub open_record : Known → Place → Name → Bool → ℕ → Option Fields → Checked (Resolved × Known)
open_record k p x b n None = refused Misplaced x
open_record k p x b n (Some fs) = open_fields x fs.first fs.names k >>= (λ m. Ok (rd.Open p n b, m))

abbrev pub open_global : Known → Place → Name → Bool → GlobalId → Checked (Resolved × Known)
open_global k p x b (g.Family n) = open_record k p x b n (fields_of k n)
open_global k p x b (g.Def n) = refused Misplaced x
open_global k p x b (g.Con n) = refused Misplaced x
open_global k p x b (g.Field n) = refused Misplaced x

abbrev pub open_named : Known → Place → Name → Bool → Option GlobalId → Checked (Resolved × Known)
open_named k p x b None = refused NotInScope x
open_named k p x b (Some i) = open_global k p x b i

-- ---- data types

unfoldable pub with_cons : Known → Texts → Known
with_cons k [] = k
with_cons k (x ∷ xs) = with_cons (with_con k x) xs

-- one line of constructors, behind those tested so far
abbrev pub con_line : Known → Locals → Texts → Signature → Checked (ResolvedSignature × Texts)
con_line k ls seen s = new_names k seen s.names >>= (λ more. expr k h.Allowed ls s.ty >>= (λ a. Ok (signed k s a, more)))

unfoldable pub con_lines : Known → Locals → List ResolvedSignature → List Signature → Texts → Checked (List ResolvedSignature × Texts)
con_lines k ls found [] seen = Ok (found, seen)
con_lines k ls found (s ∷ ss) seen = con_line k ls seen s >>= (λ y. con_lines k ls (found ++ y.0 ∷ []) ss y.1)

abbrev pub data_of : Known → Place → Name → List Binder → Expr → List Signature → Checked (Resolved × Known)
data_of k p x bs a ss =
    binders k h.Allowed [] [] bs >>= (λ ys. expr k h.Allowed ys.1 a >>= (λ b. let m = with_family k x.text in
    con_lines m ys.1 [] ss [] >>= (λ cs. Ok (rd.«Data» p (label k x) ys.0 b cs.0, with_families (with_cons m cs.1) None))))

-- ---- records

-- one line of fields: the earlier fields are variables of the later ones
abbrev pub field_line : Known → Parts → Signature → Checked (ResolvedSignature × Parts)
field_line k r s = new_fields r.fields s.names >>= (λ more. expr k h.Allowed r.locals s.ty >>= (λ a.
    Ok (signed k s a, record { con = r.con; fields = more; locals = under r.locals s.names })))

unfoldable pub field_lines : Known → List ResolvedSignature → List Signature → Parts → Checked (List ResolvedSignature × Parts)
field_lines k found [] r = Ok (found, r)
field_lines k found (s ∷ ss) r = field_line k r s >>= (λ y. field_lines k (found ++ y.0 ∷ []) ss y.1)

-- a record has one constructor at most
abbrev pub con_item : Known → Parts → Place → Name → Checked (ResolvedItem × Parts)
con_item k r p x = fresh k x >>= (λ _. if is_some r.con then refused Duplicate x
    else Ok (ri.Constructor p (label k x), record { con = Some x.text; fields = r.fields; locals = r.locals }))

abbrev pub item : Known → Parts → RecordItem → Checked (ResolvedItem × Parts)
item k r (i.Inductive p) = Ok (ri.Inductive p, r)
item k r (i.Coinductive p) = Ok (ri.Coinductive p, r)
item k r (i.Constructor p x) = con_item k r p x
item k r (i.Field p ss) = field_lines k [] ss r >>= (λ ys. Ok (ri.Field p ys.0, ys.1))

unfoldable pub items_from : Known → List ResolvedItem → List RecordItem → Parts → Checked (List ResolvedItem × Parts)
items_from k found [] r = Ok (found, r)
items_from k found (x ∷ xs) r = item k r x >>= (λ y. items_from k (found ++ y.0 ∷ []) xs y.1)

-- the constructor's name, if it has one, and the fields as `R.f` come into scope behind the record
abbrev pub with_record_con : Known → Option (List ℕ) → Known
with_record_con k (Some c) = with_con k c
with_record_con k None = with_nameless_con k

unfoldable pub with_fields : Known → List ℕ → Texts → Known
with_fields k x [] = k
with_fields k x (f ∷ fs) = with_fields (with_field k x f) x fs

abbrev pub with_record : Known → List ℕ → Parts → Known
with_record k x r = with_families (with_fields (with_record_con k r.con) x r.fields) (Some (record { first = k.fields; names = r.fields }))

abbrev pub record_of : Known → Place → Name → List Binder → Expr → List RecordItem → Checked (Resolved × Known)
record_of k p x bs a xs =
    binders k h.Allowed [] [] bs >>= (λ ys. expr k h.Allowed ys.1 a >>= (λ b. let m = with_family k x.text in
    items_from m [] xs (record { con = None; fields = []; locals = ys.1 }) >>= (λ zs. Ok (rd.Record p (label k x) ys.0 b zs.0, with_record m x.text zs.1))))

-- ---- declarations

-- where the names have their numbers
abbrev pub declared : Known → Decl → Checked (Resolved × Known)
declared k (d.Postulate p ss) = postulate_lines [] ss k >>= (λ y. Ok (rd.Postulate p y.0, y.1))
declared k (d.Function p s cs) = function k p s s.names cs
declared k (d.Clause c) = refused Misplaced c.name
declared k (d.Open p x b) = open_named k p x b (global_in k.globals x.text)
declared k (d.«Data» p x bs a ss) = fresh k x >>= (λ _. data_of k p x bs a ss)
declared k (d.Record p x bs a xs) = fresh k x >>= (λ _. record_of k p x bs a xs)

-- what the declaration stands for behind k, and what is known behind it
abbrev pub resolved : Known → Decl → Checked (Resolved × Known)
resolved k e = declared (with_names k (with_texts k.names (in_decl e))) e
