-- The exit status of each way in which the program ends.
use Rattle.std.specs.Prelude.{ℕ}
use Rattle.elab_cli.specs.declared.status.Status.{Status}
use Rattle.elab_cli.specs.declared.status.Status.TheVariants.{Done, Open, FileError, Usage, FilesFault, InputFault, OutputFault, NoMemory, InputTooLong, Missing}

abbrev pub number_of : Status → ℕ
number_of Done = 0
number_of Open = 1
number_of FileError = 2
number_of Usage = 3
number_of FilesFault = 4
number_of InputFault = 5
number_of OutputFault = 6
number_of NoMemory = 7
number_of InputTooLong = 8
number_of Missing = 9
