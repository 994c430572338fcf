-- What is in scope after the declarations so far.
use Rattle.std.specs.Prelude.{◌≡◌, ℕ, zero, suc, ◌+◌, List, [], ◌∷◌, ◌++◌, Option, Some, None, is_some, if◌then◌else◌, length, slice_get, refl}
use Rattle.std.specs.Coded.{Coded, code_by, coded×, coded_list, coded_option, coded_ℕ}
use Rattle.std.specs.List.{position_from}
use Rattle.std.specs.Str.{bytes_eq}
use Rattle.scope_table.specs.declared.global.GlobalId.{GlobalId}
use Rattle.scope_table.specs.declared.global.GlobalId.TheVariants as g
use Rattle.scope_table.specs.declared.scope.Fields.{Fields}

-- ---- codes, by which values are told apart

abbrev pub global_number : GlobalId → ℕ × ℕ
global_number (g.Def d) = (0, d)
global_number (g.Family d) = (1, d)
global_number (g.Con c) = (2, c)
global_number (g.Field f) = (3, f)

abbrev pub global_by : ℕ → ℕ → GlobalId
global_by zero n = g.Def n
global_by (suc zero) n = g.Family n
global_by (suc (suc zero)) n = g.Con n
global_by (suc (suc (suc m))) n = g.Field n

abbrev pub global_back : (i : GlobalId) → global_by (global_number i).0 (global_number i).1 ≡ i
global_back (g.Def d) = refl
global_back (g.Family d) = refl
global_back (g.Con c) = refl
global_back (g.Field f) = refl

abbrev pub coded_global : Coded GlobalId
coded_global = code_by (ℕ × ℕ) (coded× coded_ℕ coded_ℕ) global_number (λ t. global_by t.0 t.1) global_back

abbrev pub coded_text : Coded (List ℕ)
coded_text = coded_list coded_ℕ

abbrev pub coded_fields : Coded Fields
coded_fields = code_by (ℕ × List (List ℕ)) (coded× coded_ℕ (coded_list coded_text)) (λ f. (f.first, f.names)) (λ t. record { first = t.0; names = t.1 }) (λ _. refl)

-- ---- what is known

pub record Known : Type 0 where
  -- the texts of the names so far: a name's number is the place of its text
  pub names : List (List ℕ)
  -- the globals in scope, in the order in which they came into it
  pub globals : List (List ℕ × GlobalId)
  -- for each data or record type its fields, where it is a record
  pub families : List (Option Fields)
  -- how many of the other kinds there are: the next one has this number
  pub defs : ℕ
  pub cons : ℕ
  pub fields : ℕ

abbrev pub coded_known : Coded Known
coded_known =
    code_by (List (List ℕ) × (List (List ℕ × GlobalId) × (List (Option Fields) × (ℕ × (ℕ × ℕ)))))
    (coded× (coded_list coded_text) (coded× (coded_list (coded× coded_text coded_global)) (coded× (coded_list (coded_option coded_fields)) (coded× coded_ℕ (coded× coded_ℕ coded_ℕ)))))
    (λ k. (k.names, (k.globals, (k.families, (k.defs, (k.cons, k.fields))))))
    (λ t. record { names = t.0; globals = t.1.0; families = t.1.1.0; defs = t.1.1.1.0; cons = t.1.1.1.1.0; fields = t.1.1.1.1.1 }) (λ _. refl)

abbrev pub nothing_known : Known
nothing_known = record { names = [] ∷ []; globals = []; families = []; defs = 0; cons = 0; fields = 0 }

-- ---- texts and their numbers

abbrev pub Texts : Type 0
Texts = List (List ℕ)

-- the first place of a text in a list of texts
abbrev pub place_of : List (List ℕ) → List ℕ → Option ℕ
place_of xs x = position_from (bytes_eq x) 0 xs

-- the number of a text
abbrev pub place_or : ℕ → Option ℕ → ℕ
place_or n (Some i) = i
place_or n None = n

abbrev pub number : List (List ℕ) → List ℕ → ℕ
number xs x = place_or (length xs) (place_of xs x)

-- a text that has no number yet gets the next one
abbrev pub with_text : Texts → List ℕ → Texts
with_text ns x = if is_some (place_of ns x) then ns else ns ++ x ∷ []

unfoldable pub with_texts : Texts → Texts → Texts
with_texts ns [] = ns
with_texts ns (x ∷ xs) = with_texts (with_text ns x) xs

-- ---- what a text names

-- the global that a text names
abbrev pub global_in : List (List ℕ × GlobalId) → List ℕ → Option GlobalId
global_in [] x = None
global_in (g ∷ gs) x = if bytes_eq x g.0 then Some g.1 else global_in gs x

-- the fields of a data or record type: none, where it is no record
abbrev pub record_fields : Option (Option Fields) → Option Fields
record_fields (Some o) = o
record_fields None = None

abbrev pub fields_of : Known → ℕ → Option Fields
fields_of k n = record_fields (slice_get k.families n)

-- ms are the variables ls with others inside
pub record Inside (ls ms : List (List ℕ)) : Type 0 where
  pub more : List (List ℕ)
  pub is : ms ≡ more ++ ls

-- ---- what a declaration adds

-- a global after the others; the first one of a text stays
abbrev pub with_global_in : List (List ℕ × GlobalId) → List ℕ → GlobalId → List (List ℕ × GlobalId)
with_global_in gs x i = if is_some (global_in gs x) then gs else gs ++ (x, i) ∷ []

abbrev pub with_global : Known → List ℕ → GlobalId → Known
with_global k x i = record { names = k.names; globals = with_global_in k.globals x i; families = k.families; defs = k.defs; cons = k.cons; fields = k.fields }

-- the next postulate or function
abbrev pub with_def : Known → List ℕ → Known
with_def k x = record { names = k.names; globals = with_global_in k.globals x (g.Def k.defs); families = k.families; defs = k.defs + 1; cons = k.cons; fields = k.fields }

-- the next constructor
abbrev pub with_con : Known → List ℕ → Known
with_con k x = record { names = k.names; globals = with_global_in k.globals x (g.Con k.cons); families = k.families; defs = k.defs; cons = k.cons + 1; fields = k.fields }

-- a constructor that the source does not name
abbrev pub with_nameless_con : Known → Known
with_nameless_con k = record { names = k.names; globals = k.globals; families = k.families; defs = k.defs; cons = k.cons + 1; fields = k.fields }

-- the next field of the record R, as `R.f`
abbrev pub with_field : Known → List ℕ → List ℕ → Known
with_field k x f = record { names = k.names; globals = with_global_in k.globals (x ++ 46 ∷ f) (g.Field k.fields); families = k.families; defs = k.defs; cons = k.cons; fields = k.fields + 1 }

-- the name of a data or record type, whose fields are told once it is done
abbrev pub with_family : Known → List ℕ → Known
with_family k x = with_global k x (g.Family (length k.families))

abbrev pub with_families : Known → Option Fields → Known
with_families k o = record { names = k.names; globals = k.globals; families = k.families ++ o ∷ []; defs = k.defs; cons = k.cons; fields = k.fields }

abbrev pub with_names : Known → List (List ℕ) → Known
with_names k ns = record { names = ns; globals = k.globals; families = k.families; defs = k.defs; cons = k.cons; fields = k.fields }

-- ---- marks

pub record Longer {A : Type 0} (xs ys : List A) : Type 0 where
  pub more : List A
  pub is : ys ≡ xs ++ more

-- m knows what k knows, in the same order, and perhaps more
pub record Grows (k m : Known) : Type 0 where
  pub names : Longer k.names m.names
  pub globals : Longer k.globals m.globals
  pub families : Longer k.families m.families

-- where k ends
abbrev pub mark_of : Known → ℕ × ℕ × ℕ × ℕ × ℕ × ℕ
mark_of k = (length k.names, length k.globals, length k.families, k.defs, k.cons, k.fields)
