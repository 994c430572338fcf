-- The word of each kind of error.
use Rattle.std.specs.Prelude.{ℕ, List, ◌++◌, codes}
use Rattle.session_text.specs.declared.error.KernelKind.{KernelKind}
use Rattle.session_text.specs.declared.error.KernelKind.TheVariants as kernel
use Rattle.session_text.specs.declared.error.LoadKind.{LoadKind}
use Rattle.session_text.specs.declared.error.LoadKind.TheVariants as kind

abbrev pub kernel_word : KernelKind → List ℕ
kernel_word kernel.Mismatch = codes "Mismatch"
kernel_word kernel.NotAFunction = codes "NotAFunction"
kernel_word kernel.NotARecord = codes "NotARecord"
kernel_word kernel.NotAType = codes "NotAType"
kernel_word kernel.LevelTooLarge = codes "LevelTooLarge"
kernel_word kernel.OutOfFuel = codes "OutOfFuel"
kernel_word kernel.OutOfDepth = codes "OutOfDepth"
kernel_word kernel.ConShape = codes "ConShape"
kernel_word kernel.TooBig = codes "TooBig"
kernel_word kernel.BadTree = codes "BadTree"

-- the last word of a kind: a kernel's has another before it
abbrev pub last_word : LoadKind → List ℕ
last_word kind.TextTooLong = codes "TextTooLong"
last_word kind.NotUtf8 = codes "NotUtf8"
last_word kind.BadToken = codes "BadToken"
last_word kind.BadPragma = codes "BadPragma"
last_word kind.OpenComment = codes "OpenComment"
last_word kind.OpenHole = codes "OpenHole"
last_word kind.Layout = codes "Layout"
last_word kind.Unexpected = codes "Unexpected"
last_word kind.TooNested = codes "TooNested"
last_word kind.NotInScope = codes "NotInScope"
last_word kind.Duplicate = codes "Duplicate"
last_word kind.NotAConstructor = codes "NotAConstructor"
last_word kind.Nonlinear = codes "Nonlinear"
last_word kind.Misplaced = codes "Misplaced"
last_word kind.BadSort = codes "BadSort"
last_word kind.ConShape = codes "ConShape"
last_word kind.TooBig = codes "TooBig"
last_word kind.TooLarge = codes "TooLarge"
last_word kind.CannotSplit = codes "CannotSplit"
last_word kind.NotAbsurd = codes "NotAbsurd"
last_word kind.WrongArity = codes "WrongArity"
last_word kind.ForcedConstructor = codes "ForcedConstructor"
last_word kind.Impossible = codes "Impossible"
last_word kind.Mixed = codes "Mixed"
last_word kind.NoSuchName = codes "NoSuchName"
last_word kind.CannotInfer = codes "CannotInfer"
last_word kind.BadField = codes "BadField"
last_word kind.Steps = codes "Steps"
last_word kind.OutOfFuel = codes "OutOfFuel"
last_word kind.OutOfDepth = codes "OutOfDepth"
last_word kind.Mismatch = codes "Mismatch"
last_word kind.DotWrong = codes "DotWrong"
last_word kind.UnifyStuck = codes "UnifyStuck"
last_word kind.NotAFunction = codes "NotAFunction"
last_word kind.NotARecord = codes "NotARecord"
last_word kind.NotAType = codes "NotAType"
last_word kind.Missing = codes "Missing"
last_word (kind.Kernel k) = kernel_word k
last_word kind.Unsupported = codes "Unsupported"

-- the words of a kind
abbrev pub kind_words : LoadKind → List ℕ
kind_words (kind.Kernel k) = codes "Kernel " ++ kernel_word k
kind_words k = last_word k
