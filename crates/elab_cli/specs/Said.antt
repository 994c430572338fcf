-- What the private parts of the program say of a line that was to go out.
use Rattle.std.specs.Prelude.{◌≡◌, ◌⊎◌, ℕ, List, [], Result, Ok, Err}
use Rattle.std.specs.declared.option.Option.{Option}
use Rattle.std.specs.Io.KnownBytes.{Appends}
use Rattle.elab_cli.specs.Transcript.{AppendsPart, bytes_of, status_of}
use Rattle.std.specs.declared.vec.Vec.{Vec}
use Rattle.file_load.specs.declared.loaded_file.Loaded.{Loaded}
use Rattle.file_load.specs.declared.loaded_file.Loaded.TheVariants as answer
use Rattle.file_load.specs.Load.{Verdict}
use Rattle.file_load.specs.LoadedFile.{made_of}
use Rattle.elab_cli.specs.declared.program.Said.{Said}
use Rattle.elab_cli.specs.declared.program.Said.TheVariants.{All, Failed, NoMemory}
use Rattle.elab_cli.specs.declared.status.Status.{Status}
use Rattle.elab_cli.specs.declared.status.Status.TheVariants as status

-- all of the line went out, or a part
abbrev pub HasSaid : Option (List ℕ) → Option (List ℕ) → List ℕ → Said → Type 0
HasSaid old new line All = Appends old new line
HasSaid old new line Failed = AppendsPart old new line
HasSaid old new line NoMemory = AppendsPart old new line

-- all of these bytes went out and the status is the one meant, or a part went out and the status says why
abbrev pub SendsAll : List ℕ → Status → Option (List ℕ) → Option (List ℕ) → Status → Type 0
SendsAll whole meant old new result =
    ((result ≡ meant) × Appends old new whole)
    ⊎ ((result ≡ status.OutputFault) × AppendsPart old new whole)
    ⊎ ((result ≡ status.NoMemory) × AppendsPart old new whole)

-- memory ran out before anything went out
pub record IsOut (old new : Option (List ℕ)) (result : Status) : Type 0 where
  pub is : result ≡ status.NoMemory
  pub nothing : Appends old new []

-- what is to go out are these bytes, unless memory ran out before
abbrev pub Sends : {A E : Type 0} → Result (Vec ℕ A) E → Status → Option (List ℕ) → Option (List ℕ) → Status → Type 0
Sends (Ok v) meant old new result = SendsAll v.items meant old new result
Sends (Err e) meant old new result = IsOut old new result

-- the lines on a text went out whole or in part, or memory ran out before
abbrev pub TellsVerdict : Verdict → Option (List ℕ) → Option (List ℕ) → Status → Type 0
TellsVerdict v old new result = SendsAll (bytes_of v) (status_of v) old new result ⊎ IsOut old new result

abbrev pub Tells : Loaded → Option (List ℕ) → Option (List ℕ) → Status → Type 0
Tells (answer.Error e) old new result = TellsVerdict (Err e) old new result
Tells (answer.Done f) old new result = TellsVerdict (Ok (made_of f)) old new result
Tells answer.NoMemory old new result = IsOut old new result
