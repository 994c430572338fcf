-- A refusal of a name is one of its kinds, at a place: by the definition of names memory never runs out.
use Rattle.std.proofs.Common.{◌≡◌, ℕ, List, None, Ok, Err}
use Rattle.source_tree.specs.declared.expr.Arg.{Arg}
use Rattle.source_tree.specs.declared.expr.Binder.{Binder}
use Rattle.source_tree.specs.declared.expr.FieldValue.{FieldValue}
use Rattle.source_tree.specs.declared.place.Name.{Name}
use Rattle.source_tree.specs.declared.decl.Signature.{Signature}
use Rattle.source_tree.specs.declared.decl.RecordItem.{RecordItem}
use Rattle.source_tree.specs.declared.decl.Decl.{Decl}
use Rattle.source_tree.specs.declared.decl.Decl.TheVariants as d
use Rattle.file_load.specs.Unbuilt.{in_decl}
use Rattle.scope_check.specs.declared.error.ScopeError.{ScopeError}
use Rattle.scope_check.specs.declared.error.ScopeError.TheVariants.{Bad, NoMemory}
use Rattle.scope_check.specs.declared.head.Head.{Head}
use Rattle.scope_check.specs.declared.holes.Holes.{Holes}
use Rattle.scope_check.specs.declared.parts.Parts.{Parts}
use Rattle.resolved_tree.specs.declared.resolved.Resolved.{Resolved}
use Rattle.resolved_tree.specs.declared.resolved.ResolvedExpr.{ResolvedExpr}
use Rattle.resolved_tree.specs.declared.resolved.ResolvedArg.{ResolvedArg}
use Rattle.resolved_tree.specs.declared.resolved.ResolvedBinder.{ResolvedBinder}
use Rattle.resolved_tree.specs.declared.resolved.ResolvedSignature.{ResolvedSignature}
use Rattle.resolved_tree.specs.declared.resolved.ResolvedItem.{ResolvedItem}
use Rattle.resolved_tree.specs.declared.resolved.ResolvedValue.{ResolvedValue}
use Rattle.scope_check.specs.Answers.{Checked, made}
use Rattle.scope_table.specs.Known.{Known}
use Rattle.scope_check.specs.Exprs.{Locals}
use Rattle.scope_check.specs.Mentions.{Texts}
use Rattle.scope_check.specs.ResolvesNames.{StandsFor, StandsForGlobal, StandsForField}
use Rattle.scope_check.specs.ResolvesNames as n
use Rattle.scope_check.specs.ResolvesExprs as c
use Rattle.scope_check.specs.ResolvesExprs.{ExprForm, ArgForm, BinderForm, ValueForm, ResolvesHead, ResolvesExpr, ResolvesArg, ResolvesArgs, ResolvesBinder, ResolvesBinders, ResolvesBehind, ResolvesValue, ResolvesValues}
use Rattle.scope_check.specs.Resolves as w
use Rattle.scope_check.specs.Resolves.{NewNames, NewFields, PostulateLine, PostulateLines, OpensFields, ConLine, ConLines, FieldLine, FieldLines, ResolvesItem, ResolvesItems, Resolves}

abbrev pub HasPlace : ScopeError → Type 0
HasPlace (Bad p j x) = Unit {0}
HasPlace NoMemory = ⊥

abbrev pub IsTold : {A : Type 0} → Checked A → Type 0
IsTold (Ok x) = Unit {0}
IsTold (Err e) = HasPlace e

told_made : {A B : Type 0} (f : A → B) (m : Checked A) → IsTold m → IsTold (made f m)
told_made f (Ok x) h = tt
told_made f (Err e) h = h

-- ---- names

global_told : {k : Known} {x : Name} {m : Checked Head} → StandsForGlobal k x m → IsTold m
global_told (n.postulate_or_function e) = tt
global_told (n.data_or_record_type e) = tt
global_told (n.a_constructor e) = tt
global_told (n.a_field e) = tt
global_told (n.not_in_scope e) = tt

name_told : {k : Known} {ls : Locals} {x : Name} {m : Checked Head} → StandsFor k ls x m → IsTold m
name_told (n.variable e) = tt
name_told (n.a_global e s) = global_told s

field_told : {k : Known} {x : Name} {m : Checked ℕ} → StandsForField k x m → IsTold m
field_told (n.field_in_scope e) = tt
field_told (n.no_field_in_scope e) = tt

-- ---- expressions

module _ {k : Known} {holes : Holes} where
  mutual
    head_told : {ls : Locals} {l : ExprForm} {m : Checked Head} → ResolvesHead k holes ls l m → IsTold m
    head_told (c.name s) = name_told s
    head_told (c.qualified_name s) = global_told s
    head_told (c.head_refused h) = head_told h
    head_told (c.application {m = m} h xs) = told_made _ m (args_told xs)
    head_told (c.field_without_explicit_argument h e) = tt
    head_told (c.argument_of_field_refused h e a) = expr_told a
    head_told (c.field_applied {m = m} h e a xs) = told_made _ m (args_told xs)
    head_told (c.function_type {m = m} b) = told_made _ m (behind_told b)
    head_told (c.for_all {m = m} b) = told_made _ m (behind_told b)
    head_told (c.lambda {m = m} b) = told_made _ m (behind_told b)
    head_told (c.left_of_arrow_refused a) = expr_told a
    head_told (c.arrow {m = m} a b) = told_made _ m (expr_told b)
    head_told c.set_level = tt
    head_told (c.hole e) = tt
    head_told (c.hole_in_dotted_pattern e) = tt
    head_told c.underscore = tt
    head_told (c.record_value {m = m} vs) = told_made _ m (values_told vs)

    pub expr_told : {ls : Locals} {l : ExprForm} {m : Checked ResolvedExpr} → ResolvesExpr k holes ls l m → IsTold m
    expr_told (c.whole_expression h) = tt
    expr_told (c.field_without_argument h) = tt
    expr_told (c.refused_whole h) = head_told h

    arg_told : {ls : Locals} {l : ArgForm} {m : Checked ResolvedArg} → ResolvesArg k holes ls l m → IsTold m
    arg_told (c.plain {m = m} a) = told_made _ m (expr_told a)
    arg_told (c.implicit {m = m} a) = told_made _ m (expr_told a)
    arg_told (c.named {m = m} a) = told_made _ m (expr_told a)
    arg_told (c.projection {m = m} f) = told_made _ m (field_told f)
    arg_told (c.qualified_projection {m = m} f) = told_made _ m (field_told f)

    args_told : {ls : Locals} {xs : List Arg} {m : Checked (List ResolvedArg)} → ResolvesArgs k holes ls xs m → IsTold m
    args_told c.no_argument = tt
    args_told (c.argument_refused a) = arg_told a
    args_told (c.next_argument {m = m} a more) = told_made _ m (args_told more)

    binder_told : {ls : Locals} {l : BinderForm} {m : Checked (ResolvedBinder × Locals)} → ResolvesBinder k holes ls l m → IsTold m
    binder_told (c.explicit_binder {m = m} a) = told_made _ m (expr_told a)
    binder_told (c.implicit_binder {m = m} a) = told_made _ m (expr_told a)
    binder_told c.name_binder = tt
    binder_told c.braced_binder = tt
    binder_told c.underscore_binder = tt

    binders_told : {ls : Locals} {bs : List Binder} {m : Checked (List ResolvedBinder × Locals)} → ResolvesBinders k holes ls bs m → IsTold m
    binders_told c.no_binder = tt
    binders_told (c.binder_refused b) = binder_told b
    binders_told (c.next_binder {m = m} b more) = told_made _ m (binders_told more)

    behind_told : {ls : Locals} {bs : List Binder} {l : ExprForm} {m : Checked (List ResolvedBinder × ResolvedExpr × Locals)} → ResolvesBehind k holes ls bs l m → IsTold m
    behind_told (c.binders_refused bs) = binders_told bs
    behind_told (c.behind {m = m} bs b) = told_made _ m (expr_told b)

    value_told : {ls : Locals} {l : ValueForm} {m : Checked ResolvedValue} → ResolvesValue k holes ls l m → IsTold m
    value_told (c.field_value {m = m} a) = told_made _ m (expr_told a)

    values_told : {ls : Locals} {vs : List FieldValue} {m : Checked (List ResolvedValue)} → ResolvesValues k holes ls vs m → IsTold m
    values_told c.no_value = tt
    values_told (c.value_refused v) = value_told v
    values_told (c.next_value {m = m} v more) = told_made _ m (values_told more)

-- ---- postulates

new_told : {k : Known} {seen : Texts} {xs : List Name} {m : Checked Texts} → NewNames k seen xs m → IsTold m
new_told w.all_are_new = tt
new_told (w.declared_again e) = tt
new_told (w.declared_twice e f) = tt
new_told (w.is_new e f more) = new_told more

line_told : {k : Known} {s : Signature} {m : Checked (ResolvedSignature × Known)} → PostulateLine k s m → IsTold m
line_told (w.names_refused xs) = new_told xs
line_told (w.postulate_line {m = m} xs a) = told_made _ m (expr_told a)

lines_told : {k : Known} {ss : List Signature} {m : Checked (List ResolvedSignature × Known)} → PostulateLines k ss m → IsTold m
lines_told w.no_postulate = tt
lines_told (w.postulate_refused s) = line_told s
lines_told (w.next_postulate {m = m} s more) = told_made _ m (lines_told more)

-- ---- records and data types

fields_told : {seen : Texts} {xs : List Name} {m : Checked Texts} → NewFields seen xs m → IsTold m
fields_told w.all_fields_are_new = tt
fields_told (w.field_declared_twice e) = tt
fields_told (w.field_is_new e more) = fields_told more

opened_told : {x : Name} {f : ℕ} {ys : Texts} {k : Known} {m : Checked Known} → OpensFields x f ys k m → IsTold m
opened_told w.no_field_left = tt
opened_told (w.field_named_as_a_global e) = tt
opened_told (w.next_field e more) = opened_told more

con_line_told : {k : Known} {ls : Locals} {seen : Texts} {s : Signature} {m : Checked (ResolvedSignature × Texts)} → ConLine k ls seen s m → IsTold m
con_line_told (w.con_names_refused xs) = new_told xs
con_line_told (w.con_line {m = m} xs a) = told_made _ m (expr_told a)

con_lines_told : {k : Known} {ls : Locals} {seen : Texts} {ss : List Signature} {m : Checked (List ResolvedSignature × Texts)} → ConLines k ls seen ss m → IsTold m
con_lines_told w.no_con = tt
con_lines_told (w.con_refused s) = con_line_told s
con_lines_told (w.next_con {m = m} s more) = told_made _ m (con_lines_told more)

field_line_told : {k : Known} {r : Parts} {s : Signature} {m : Checked (ResolvedSignature × Parts)} → FieldLine k r s m → IsTold m
field_line_told (w.field_names_refused xs) = fields_told xs
field_line_told (w.field_line {m = m} xs a) = told_made _ m (expr_told a)

field_lines_told : {k : Known} {r : Parts} {ss : List Signature} {m : Checked (List ResolvedSignature × Parts)} → FieldLines k r ss m → IsTold m
field_lines_told w.no_field_line = tt
field_lines_told (w.field_line_refused s) = field_line_told s
field_lines_told (w.next_field_line {m = m} s more) = told_made _ m (field_lines_told more)

item_told : {k : Known} {r : Parts} {x : RecordItem} {m : Checked (ResolvedItem × Parts)} → ResolvesItem k r x m → IsTold m
item_told w.inductive = tt
item_told w.coinductive = tt
item_told (w.con_declared_again e) = tt
item_told (w.second_con e f) = tt
item_told (w.con e f) = tt
item_told (w.fields {m = m} ls) = told_made _ m (field_lines_told ls)

items_told : {k : Known} {r : Parts} {xs : List RecordItem} {m : Checked (List ResolvedItem × Parts)} → ResolvesItems k r xs m → IsTold m
items_told w.no_item = tt
items_told (w.item_refused x) = item_told x
items_told (w.next_item {m = m} x more) = told_made _ m (items_told more)

-- a declaration whose forms are built
pub resolves_told : (k : Known) (x : Decl) {m : Checked (Resolved × Known)} → in_decl x ≡ None → Resolves k x m → IsTold m
resolves_told k (d.Postulate p ss) e (w.postulates {m = m} ls) = told_made _ m (lines_told ls)
resolves_told k (d.Function p s cs) e r = absurd cc
resolves_told k (d.Clause cl) e r = absurd cc
resolves_told k (d.Open p x b) e (w.opens_unknown o) = tt
resolves_told k (d.Open p x b) e (w.opens_no_record o r) = tt
resolves_told k (d.Open p x b) e (w.opens_record {m = m} o f os) = told_made _ m (opened_told os)
resolves_told k (d.«Data» p x bs a ss) e (w.data_type_declared_again o) = tt
resolves_told k (d.«Data» p x bs a ss) e (w.head_of_data_type_refused o h) = behind_told h
resolves_told k (d.«Data» p x bs a ss) e (w.data_type {m = m} o h ls) = told_made _ m (con_lines_told ls)
resolves_told k (d.Record p x bs a is) e (w.record_declared_again o) = tt
resolves_told k (d.Record p x bs a is) e (w.head_of_record_refused o h) = behind_told h
resolves_told k (d.Record p x bs a is) e (w.record_type {m = m} o h xs) = told_made _ m (items_told xs)
