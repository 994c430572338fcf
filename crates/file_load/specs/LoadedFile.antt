-- What contracts see of a loaded file, and of the answer to a text.
use Rattle.std.specs.Prelude.{◌≡◌, ℕ, List, ⊤, Ok, Err}
use Rattle.core_rules.specs.Signature.{Signature}
use Rattle.term_pool.specs.Pool.{Pool}
use Rattle.core_terms.specs.Signature.{Stands, signature_in}
use Rattle.session_text.specs.declared.report.Report.{Report}
use Rattle.file_load.specs.declared.loaded_file.LoadedFile.{LoadedFile}
use Rattle.file_load.specs.declared.loaded_file.Loaded.{Loaded}
use Rattle.file_load.specs.declared.loaded_file.Loaded.TheVariants as answer
use Rattle.file_load.specs.Load.{HasVerdict, Made, complete_report}

abbrev pub report_of : LoadedFile → Report
report_of f = f.report

abbrev pub names_of : LoadedFile → List (List ℕ)
names_of f = f.scope.names

abbrev pub pool_of : LoadedFile → Pool
pool_of f = f.pool

-- the signature, whose types are ids of the pool
abbrev pub signature_of : LoadedFile → Signature ℕ
signature_of f = f.signature

-- f was made of so many declarations, with these names, this pool and this signature
pub record IsOf (f : LoadedFile) (n : ℕ) (xs : List (List ℕ)) (p : Pool) (g : Signature ℕ) : Type 0 where
  pub report : report_of f ≡ complete_report n
  pub names : names_of f ≡ xs
  pub pool : pool_of f ≡ p
  pub signature : signature_of f ≡ g

-- what was made of the text
abbrev pub made_of : LoadedFile → Made
made_of f = record { report = report_of f; names = names_of f; signature = signature_in (pool_of f) (signature_of f) }

module _ (fuel depth : ℕ) where
  -- f is what was made of the text, and the ids of its signature stand in its pool
  pub record IsDone (text : List ℕ) (f : LoadedFile) : Type 0 where
    pub verdict : HasVerdict fuel depth text (Ok (made_of f))
    pub stands : Stands (pool_of f) (signature_of f)

  -- the answer is what is said of the text, unless memory ran out
  abbrev pub Answers : List ℕ → Loaded → Type 0
  Answers text (answer.Error e) = HasVerdict fuel depth text (Err e)
  Answers text (answer.Done f) = IsDone text f
  Answers text answer.NoMemory = ⊤
