-- The kinds of errors, by why a type or a family is refused.
use Rattle.written_rules.specs.Refusals as written
use Rattle.kernel_rules.specs.Refusals as kernel
use Rattle.data_rules.specs.Refusals as families
use Rattle.session_text.specs.declared.error.KernelKind.TheVariants as k
use Rattle.session_text.specs.declared.error.LoadKind.{LoadKind}
use Rattle.session_text.specs.declared.error.LoadKind.TheVariants as kind

abbrev pub elab_kind : written.Kind → LoadKind
elab_kind (written.Mismatch t u xs) = kind.Mismatch
elab_kind (written.DotWrong t u xs) = kind.DotWrong
elab_kind (written.NotAFunction t) = kind.NotAFunction
elab_kind (written.NotARecord t) = kind.NotARecord
elab_kind (written.NotAType t) = kind.NotAType
elab_kind written.NoSuchName = kind.NoSuchName
elab_kind written.CannotInfer = kind.CannotInfer
elab_kind written.BadField = kind.BadField
elab_kind written.OutOfFuel = kind.OutOfFuel
elab_kind written.OutOfDepth = kind.OutOfDepth

-- The kernel would wait for a metavariable only where the written rules left one, and they leave none: they refuse what is left out
abbrev pub kernel_kind : kernel.Refusal → LoadKind
kernel_kind (kernel.Mismatch t u) = kind.Kernel k.Mismatch
kernel_kind (kernel.NotAFunction t) = kind.Kernel k.NotAFunction
kernel_kind (kernel.NotARecord t) = kind.Kernel k.NotARecord
kernel_kind (kernel.NotAType t) = kind.Kernel k.NotAType
kernel_kind kernel.LevelTooLarge = kind.Kernel k.LevelTooLarge
kernel_kind (kernel.MetaLeft m) = kind.CannotInfer
kernel_kind kernel.OutOfFuel = kind.Kernel k.OutOfFuel
kernel_kind kernel.OutOfDepth = kind.Kernel k.OutOfDepth

abbrev pub family_kind : families.Kind → LoadKind
family_kind families.BadSort = kind.BadSort
family_kind families.ConShape = kind.ConShape
family_kind families.TooBig = kind.TooBig
family_kind (families.Elab k) = elab_kind k

abbrev pub decl_kind : kernel.DeclRefusal → LoadKind
decl_kind (kernel.OfKernel e) = kernel_kind e
decl_kind kernel.ConShape = kind.Kernel k.ConShape
decl_kind kernel.TooBig = kind.Kernel k.TooBig
decl_kind kernel.BadTree = kind.Kernel k.BadTree
