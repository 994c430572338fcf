-- What a name stands for among the names so far, by cases.
use Rattle.std.specs.Prelude.{◌≡◌, ℕ, Some, None, Ok}
use Rattle.source_tree.specs.declared.place.Name.{Name}
use Rattle.scope_check.specs.declared.error.ScopeKind.TheVariants.{NotInScope}
use Rattle.scope_table.specs.declared.global.GlobalId.TheVariants as g
use Rattle.scope_check.specs.declared.head.Head.{Head}
use Rattle.scope_check.specs.declared.head.Head.TheVariants.{Whole, Field}
use Rattle.resolved_tree.specs.declared.resolved.ResolvedExpr.TheVariants as r
use Rattle.scope_check.specs.Answers.{Checked, refused}
use Rattle.scope_table.specs.Known.{Known, place_of, global_in}
use Rattle.scope_check.specs.Exprs.{Locals, field_named}

-- a qualified name, or a name that no variable has: the global of its text
pub data StandsForGlobal (k : Known) (x : Name) : Checked Head → Type 0 where
  postulate_or_function : {d : ℕ} → global_in k.globals x.text ≡ Some (g.Def d) → StandsForGlobal k x (Ok (Whole (r.Def x.place d)))
  data_or_record_type : {d : ℕ} → global_in k.globals x.text ≡ Some (g.Family d) → StandsForGlobal k x (Ok (Whole (r.Family x.place d)))
  a_constructor : {c : ℕ} → global_in k.globals x.text ≡ Some (g.Con c) → StandsForGlobal k x (Ok (Whole (r.Con x.place c)))
  -- a field waits for its argument
  a_field : {f : ℕ} → global_in k.globals x.text ≡ Some (g.Field f) → StandsForGlobal k x (Ok (Field x f))
  not_in_scope : global_in k.globals x.text ≡ None → StandsForGlobal k x (refused NotInScope x)

-- any other name: variables shadow globals, and the innermost variable counts
pub data StandsFor (k : Known) (ls : Locals) (x : Name) : Checked Head → Type 0 where
  variable : {i : ℕ} → place_of ls x.text ≡ Some i → StandsFor k ls x (Ok (Whole (r.Variable x.place i)))
  a_global : {m : Checked Head} → place_of ls x.text ≡ None → StandsForGlobal k x m → StandsFor k ls x m

-- a name behind a dot in an expression: a field in scope, whatever the variables
pub data StandsForField (k : Known) (x : Name) : Checked ℕ → Type 0 where
  field_in_scope : {f : ℕ} → field_named k x ≡ Some f → StandsForField k x (Ok f)
  no_field_in_scope : field_named k x ≡ None → StandsForField k x (refused NotInScope x)
