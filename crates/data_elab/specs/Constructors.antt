-- The constructors of a data type in code.
use Rattle.std.specs.Prelude.{ℕ, ◌<◌, List, length, map, Some, Result}
use Rattle.std.specs.List.{AllByRecursion}
use Rattle.std.specs.declared.vec.Vec.{Vec}
use Rattle.core_rules.specs.Term.{Term}
use Rattle.core_rules.specs.Signature.{ConDecl, Entry}
use Rattle.core_rules.specs.Mapped.{AllCon, AllEntries, con_map, telescope_map}
use Rattle.term_pool.specs.Pool.{Pool, tree}
use Rattle.kernel_rules.specs.Outcome.{Outcome}
use Rattle.resolved_tree.specs.declared.resolved.ResolvedSignature.{ResolvedSignature}
use Rattle.data_rules.specs.Families.{line_meaning}
use Rattle.data_rules.specs.Refusals.{Refusal}
use Rattle.data_rules.specs.Rules.{LineMeaning, con_named}
use Rattle.data_elab.specs.declared.constructors.Line as L
use Rattle.data_elab.specs.declared.error.DataError.{DataError}
use Rattle.data_elab.specs.declared.reader.Reader.{Reader}
use Rattle.data_elab.specs.Answers.{Answers}
use Rattle.data_elab.specs.Reader.{signature_of}

-- the constructor of name x with these arguments and indices
abbrev pub named : List (Entry ℕ) → List ℕ → ℕ → ConDecl ℕ
named es is x = record { name = Some x; args = es; indices = is }

-- the ids of a line stand in the pool
pub record IsLine (p : Pool) (l : L.Line) : Type 0 where
  pub args : AllEntries (λ t. t < length p.trees) l.args.items
  pub indices : AllByRecursion (λ t. t < length p.trees) l.indices.items

-- its constructors of these names
abbrev pub line_in : List ℕ → Pool → L.Line → List (ConDecl Term)
line_in xs p l = map (con_named (telescope_map (tree p) l.args.items) (map (tree p) l.indices.items)) xs

-- an answer is what a reading of a line comes to
abbrev pub AnswersLine : List ℕ → Pool → (Outcome Refusal (List (ConDecl Term)) → Type 0) → Result L.Line DataError → Type 0
AnswersLine xs p K r = Answers p (IsLine p) (line_in xs p) K r

-- the ids of constructors stand in the pool
abbrev pub AreCons : Pool → List (ConDecl ℕ) → Type 0
AreCons p ks = AllByRecursion (AllCon (λ t. t < length p.trees)) ks

-- an answer is what a reading of constructors comes to
abbrev pub AnswersCons : {G : Type 0} → Pool → (Outcome Refusal (List (ConDecl Term)) → Type 0) → Result (Vec (ConDecl ℕ) G) DataError → Type 0
AnswersCons {G} p K r = Answers p (λ (v : Vec (ConDecl ℕ) G). AreCons p v.items) (λ (v : Vec (ConDecl ℕ) G). map (con_map (tree p)) v.items) K r

-- the lines as the rules see them
abbrev pub lines_in : Reader → List ResolvedSignature → List LineMeaning
lines_in x ss = map (line_meaning (signature_of x)) ss
