-- What the private parts that load a text say of their answers.
use Rattle.std.specs.Prelude.{◌≡◌, ℕ, List, ⊤, Ok, Err}
use Rattle.source_tree.specs.declared.decl.File.{File}
use Rattle.core_terms.specs.Signature.{Stands}
use Rattle.file_load.specs.declared.stages.Reading.{Reading}
use Rattle.file_load.specs.declared.stages.Reading.TheVariants as reading
use Rattle.file_load.specs.declared.loaded_file.LoadedFile.{LoadedFile}
use Rattle.file_load.specs.declared.loaded_file.Loaded.{Loaded}
use Rattle.file_load.specs.declared.loaded_file.Loaded.TheVariants as answer
use Rattle.session_text.specs.declared.error.LoadError.{LoadError}
use Rattle.file_load.specs.Load.{DeclaresFile, IsMade, IsParsed, Reads}
use Rattle.file_load.specs.LoadedFile.{made_of, pool_of, signature_of}

-- the text was parsed, or it is in error
abbrev pub IsRead : List ℕ → Reading → Type 0
IsRead text (reading.File file) = IsParsed text (Ok file)
IsRead text (reading.Error e) = Reads text (Err e)

-- the answer is this error, unless memory ran out
abbrev pub IsError : Loaded → LoadError → Type 0
IsError (answer.Error e) f = e ≡ f
IsError (answer.Done x) f = ⊥
IsError answer.NoMemory f = ⊤

module _ (fuel depth : ℕ) where
  -- the file was loaded
  pub record IsFileDone (file : File) (f : LoadedFile) : Type 0 where
    pub made : IsMade fuel depth file (made_of f)
    pub stands : Stands (pool_of f) (signature_of f)

  -- the answer to a file all of whose forms are built
  abbrev pub FileAnswers : File → Loaded → Type 0
  FileAnswers file (answer.Error e) = DeclaresFile fuel depth file (Err e)
  FileAnswers file (answer.Done f) = IsFileDone file f
  FileAnswers file answer.NoMemory = ⊤
