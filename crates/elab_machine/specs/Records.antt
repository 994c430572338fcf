-- Record values in code: the record that a head form is, its environment, and the values of its fields.
use Rattle.std.specs.Prelude.{◌≡◌, ℕ, ◌+◌, ◌<◌, List, [], length, map, reverse, drop, Option, Some, None, Result, Ok, Err}
use Rattle.std.specs.Option.{option_map_or}
use Rattle.std.specs.List.{AllByRecursion}
use Rattle.std.specs.declared.vec.Vec.{Vec}
use Rattle.core_rules.specs.Term.{Term, App, Fam, Con, from_list}
use Rattle.core_rules.specs.declared.Flag.{Flag}
use Rattle.core_rules.specs.Signature.{Telescope, Signature, fams, fam_decl}
use Rattle.core_rules.specs.Elimination.{Elim, elims, args}
use Rattle.term_pool.specs.Pool.{Pool, tree, StandsFor}
use Rattle.core_terms.specs.Signature.{signature_in}
use Rattle.kernel_rules.specs.Outcome.{Outcome, Gives, Refuses}
use Rattle.el_outside.specs.declared.place.Pos.{Pos}
use Rattle.resolved_tree.specs.declared.resolved.ResolvedValue.{ResolvedValue}
use Rattle.written_rules.specs.Refusals.{Refusal}
use Rattle.written_rules.specs.Asking.{Reads, Is, ◌>>=◌, gives}
use Rattle.written_rules.specs.Rules.{Values, ValueMeaning, AtRecord, record_at, record_shown, wanted, fields_checked}
use Rattle.written_rules.specs.Expressions.{value_meaning}
use Rattle.elab_machine.specs.declared.error.WrittenError.{WrittenError}
use Rattle.elab_machine.specs.declared.record.AtRecord as C
use Rattle.elab_machine.specs.declared.record.Put as P
use Rattle.elab_machine.specs.Answers.{RefusedBy}
use Rattle.elab_machine.specs.Labels.{label_of, labelled}
use Rattle.elab_machine.specs.declared.labels.Label.{Label}

-- the record that a head under eliminations is, if it is one at all its parameters
abbrev pub record_in : Signature Term → Term → List Elim → Option AtRecord
record_in g (Fam d) es = record_at g d es
record_in g h es = None

abbrev pub fields_of : Signature Term → ℕ → Telescope Term
fields_of g d = option_map_or (λ e. e.fields) (fam_decl g d) []

-- the record in code, over trees
abbrev pub at_record : Signature Term → Pool → C.AtRecord → AtRecord
at_record g p a = record { con = a.con; params = map (tree p) a.params.items; fields = fields_of g a.fam }

-- it is a record of a signature of n families, and its ids stand in the pool
pub record IsWithin (p : Pool) (n : ℕ) (a : C.AtRecord) : Type 0 where
  pub fam : a.fam < n
  pub params : AllByRecursion (λ t. t < length p.trees) a.params.items

abbrev pub IsRecordAt : Signature ℕ → Pool → Term → List Elim → Option C.AtRecord → Type 0
IsRecordAt g p h es None = record_in (signature_in p g) h es ≡ None
IsRecordAt g p h es (Some a) = IsWithin p (length (fams g)) a × (record_in (signature_in p g) h es ≡ Some (at_record (signature_in p g) p a))

-- r is what the record comes to
abbrev pub AnswersRecord : Pool → ℕ → Signature Term → Outcome Refusal AtRecord → Result C.AtRecord WrittenError → Type 0
AnswersRecord p n g r (Ok a) = IsWithin p n a × (r ≡ Gives (at_record g p a))
AnswersRecord p n g r (Err e) = RefusedBy p (λ d. r ≡ Refuses d) e

-- the record that the head form of the wanted type b is
abbrev pub record_wanted : Signature Term → Pos → Term → Reads AtRecord
record_wanted g p b = wanted p b >>= (λ w. Is (record_shown g p w))

abbrev pub AnswersAt : Pool → ℕ → Signature Term → (Outcome Refusal AtRecord → Type 0) → Result C.AtRecord WrittenError → Type 0
AnswersAt p n g K (Ok a) = IsWithin p n a × K (Gives (at_record g p a))
AnswersAt p n g K (Err e) = RefusedBy p (λ d. K (Refuses d)) e

-- the terms, the last one first, behind so many others
pub record IsEnv {G : Type 0} (ts : List ℕ) (room filler : ℕ) (v : Vec ℕ G) : Type 0 where
  pub count : length v.items ≡ room + length ts
  pub is : drop room v.items ≡ reverse ts
  pub below : (n : ℕ) → AllByRecursion (λ t. t < n) ts → filler < n → AllByRecursion (λ t. t < n) v.items

abbrev pub values_meant : Signature Term → List ResolvedValue → List ValueMeaning
values_meant g vs = map (value_meaning g) vs

abbrev pub AreLabels : List (ℕ × Label) → List ResolvedValue → Type 0
AreLabels m vs = (x : ℕ) → labelled m x ≡ label_of x 0 vs

-- the values of fields that are left, at a term, where r are the terms under which they stand
abbrev pub fields_put : Pos → Values → List ValueMeaning → Telescope Term → List Term → Term → Reads Term
fields_put p vs ms es r t = fields_checked p vs ms es r >>= (λ us. gives (elims t (args es us)))

-- the values of all fields of a record
abbrev pub record_put : Pos → Values → List ValueMeaning → AtRecord → Reads Term
record_put p vs ms d = fields_put p vs ms d.fields (reverse d.params) (Con d.con (from_list d.params))

-- the value of a field, and the term at it
pub record IsPut (p : Pool) (f : Flag) (t : Term) (K : Term → Type 0) (w : P.Put) : Type 0 where
  pub arg : w.arg < length p.trees
  pub term : StandsFor p w.term (App f t (tree p w.arg))
  pub is : K (tree p w.arg)

-- the value decides
abbrev pub AnswersPut : Pool → Flag → Term → (Outcome Refusal Term → Type 0) → Result P.Put WrittenError → Type 0
AnswersPut p f t K (Ok w) = IsPut p f t (λ u. K (Gives u)) w
AnswersPut p f t K (Err e) = RefusedBy p (λ r. K (Refuses r)) e
