-- What the program writes and how it ends, by what the words ask for and by the files as they stood at the call.
use Rattle.std.specs.Prelude.{◌≡◌, ◌≢◌, ◌⊎◌, ℕ, List, [], ◌++◌, ⊤, if◌then◌else◌, None, Some, Ok, Err, codes}
use Rattle.std.specs.declared.option.Option.{Option}
use Rattle.std.specs.FinMap.{get}
use Rattle.std.specs.Io.KnownBytes.{Appends}
use Rattle.el_outside.specs.Causes.{Rose}
use Rattle.el_outside.specs.Stored.{FileMap}
use Rattle.command_line.specs.declared.ask.Ask.{Ask}
use Rattle.term_pool.specs.declared.limits.Limits.{Limits}
use Rattle.command_line.specs.declared.ask.Mode.{Mode}
use Rattle.command_line.specs.declared.ask.Mode.TheVariants.{Check, Session, Gen}
use Rattle.session_text.specs.declared.report.Report.{Report}
use Rattle.session_text.specs.Lines.{error_bytes, report_bytes}
use Rattle.file_load.specs.Load.{HasVerdict, Verdict}
use Rattle.elab_cli.specs.declared.status.Status.{Status}
use Rattle.elab_cli.specs.declared.status.Status.TheVariants.{Done, Open, FileError, Usage, FilesFault, InputFault, OutputFault, NoMemory, InputTooLong, Missing}

-- ---- what is written

abbrev pub usage_line : List ℕ
usage_line = codes "usage: elab_cli check NAME | session | gen SEED N; options --fuel N, --depth N, --order N\n"

-- the lines for a text of which this is said
abbrev pub bytes_of : Verdict → List ℕ
bytes_of (Err e) = error_bytes e
bytes_of (Ok m) = report_bytes m.report

abbrev pub status_of_report : Report → Status
status_of_report r = if r.complete then Done else Open

-- the status once these lines went out
abbrev pub status_of : Verdict → Status
status_of (Err e) = FileError
status_of (Ok m) = status_of_report m.report

-- of these bytes a part went out, and not all
pub record AppendsPart (old new : Option (List ℕ)) (whole : List ℕ) : Type 0 where
  pub sent : List ℕ
  pub rest : List ℕ
  pub parts : sent ++ rest ≡ whole
  pub short : rest ≢ []
  pub appends : Appends old new sent

-- ---- `check NAME`

-- what stands under the name: where the files tell nothing, it may be anything
abbrev pub MayHold : Option FileMap → List ℕ → Option (List ℕ) → Type 0
MayHold None name file = ⊤
MayHold (Some m) name file = get m name ≡ file

-- with these limits of head forms and comparisons
module _ (limits : Limits) where
  -- v is said of the text that stands under the name
  pub record IsJudged (files : Option FileMap) (name : List ℕ) (v : Verdict) : Type 0 where
    pub text : List ℕ
    pub holds : MayHold files name (Some text)
    pub judged : HasVerdict limits.fuel limits.depth text v

  -- all of the line went out, and the status is that line's
  pub record Wrote (files : Option FileMap) (name : List ℕ) (old new : Option (List ℕ)) (status : Status) : Type 0 where
    pub verdict : Verdict
    pub judged : IsJudged files name verdict
    pub meant : status_of verdict ≡ status
    pub appends : Appends old new (bytes_of verdict)

  -- a part of the line went out
  pub record WrotePart (files : Option FileMap) (name : List ℕ) (old new : Option (List ℕ)) : Type 0 where
    pub verdict : Verdict
    pub judged : IsJudged files name verdict
    pub part : AppendsPart old new (bytes_of verdict)

  -- the file is not there, and nothing went out
  pub record IsMissing (files : Option FileMap) (name : List ℕ) (old new : Option (List ℕ)) : Type 0 where
    pub absent : MayHold files name None
    pub appends : Appends old new []

  -- what each status says of a call for `check NAME`
  abbrev pub CheckAnswers : Option FileMap → List ℕ → Option (List ℕ) → Option (List ℕ) → Status → Type 0
  CheckAnswers files name old new Done = Wrote files name old new Done
  CheckAnswers files name old new FileError = Wrote files name old new FileError
  CheckAnswers files name old new Missing = IsMissing files name old new
  CheckAnswers files name old new FilesFault = Appends old new []
  CheckAnswers files name old new OutputFault = WrotePart files name old new
  CheckAnswers files name old new NoMemory = Appends old new [] ⊎ WrotePart files name old new
  CheckAnswers files name old new Open = ⊥
  CheckAnswers files name old new Usage = ⊥
  CheckAnswers files name old new InputFault = ⊥
  CheckAnswers files name old new InputTooLong = ⊥

-- ---- the usage line

-- what each status says of a call whose words ask for nothing that is built
abbrev pub UsageAnswers : Option (List ℕ) → Option (List ℕ) → Status → Type 0
UsageAnswers old new Usage = Appends old new usage_line
UsageAnswers old new OutputFault = AppendsPart old new usage_line
UsageAnswers old new NoMemory = AppendsPart old new usage_line
UsageAnswers old new Done = ⊥
UsageAnswers old new Open = ⊥
UsageAnswers old new FileError = ⊥
UsageAnswers old new FilesFault = ⊥
UsageAnswers old new InputFault = ⊥
UsageAnswers old new InputTooLong = ⊥
UsageAnswers old new Missing = ⊥

-- ---- every call

-- the same of a call for a mode. The modes `session` and `gen` are not built
abbrev pub ModeAnswers : Limits → Mode → Option FileMap → Option (List ℕ) → Option (List ℕ) → Status → Type 0
ModeAnswers limits (Check name) files old new status = CheckAnswers limits files name old new status
ModeAnswers limits Session files old new status = UsageAnswers old new status
ModeAnswers limits (Gen seed count) files old new status = UsageAnswers old new status

-- what each status says of the bytes that went out
abbrev pub Answers : Option Ask → Option FileMap → Option (List ℕ) → Option (List ℕ) → Status → Type 0
Answers None files old new status = UsageAnswers old new status
Answers (Some ask) files old new status = ModeAnswers ask.limits ask.mode files old new status

-- the counts of faults and misses of what was handed in
pub record Counts : Type 0 where
  pub files : ℕ
  pub misses : ℕ
  pub input : ℕ
  pub output : ℕ

-- a status that speaks of a fault or a miss comes only where that count rose
abbrev pub Caused : Status → Counts → Counts → Type 0
Caused Missing old new = Rose old.misses new.misses
Caused FilesFault old new = Rose old.files new.files
Caused InputFault old new = Rose old.input new.input
Caused OutputFault old new = Rose old.output new.output
Caused Done old new = ⊤
Caused Open old new = ⊤
Caused FileError old new = ⊤
Caused Usage old new = ⊤
Caused NoMemory old new = ⊤
Caused InputTooLong old new = ⊤

-- no count rose
pub record NothingFailed (old new : Counts) : Type 0 where
  pub files : ¬ (Rose old.files new.files)
  pub misses : ¬ (Rose old.misses new.misses)
  pub input : ¬ (Rose old.input new.input)
  pub output : ¬ (Rose old.output new.output)

-- the statuses that come where no count rises
abbrev pub ModeEndsWell : Mode → Status → Type 0
ModeEndsWell (Check name) Done = ⊤
ModeEndsWell (Check name) FileError = ⊤
ModeEndsWell Session Usage = ⊤
ModeEndsWell (Gen seed count) Usage = ⊤
ModeEndsWell mode NoMemory = ⊤
ModeEndsWell mode status = ⊥

abbrev pub EndsWell : Option Ask → Status → Type 0
EndsWell None Usage = ⊤
EndsWell None NoMemory = ⊤
EndsWell None status = ⊥
EndsWell (Some ask) status = ModeEndsWell ask.mode status
