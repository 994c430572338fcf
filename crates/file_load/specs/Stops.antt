-- What a refusal in code stops the load with.
use Rattle.el_outside.specs.declared.place.Pos.{Pos}
use Rattle.core_kernel.specs.declared.error.KernelError.{KernelError}
use Rattle.core_kernel.specs.declared.error.KernelError.TheVariants as K
use Rattle.core_kernel.specs.declared.error.FamilyError.{FamilyError}
use Rattle.core_kernel.specs.declared.error.FamilyError.TheVariants as F
use Rattle.data_elab.specs.declared.error.DataError.{DataError}
use Rattle.data_elab.specs.declared.error.DataError.TheVariants as D
use Rattle.data_elab.specs.declared.error.DataKind.{DataKind}
use Rattle.data_elab.specs.declared.error.DataKind.TheVariants as J
use Rattle.elab_machine.specs.declared.error.ElabKind.{ElabKind}
use Rattle.elab_machine.specs.declared.error.ElabKind.TheVariants as E
use Rattle.elab_machine.specs.declared.error.WrittenError.{WrittenError}
use Rattle.elab_machine.specs.declared.error.WrittenError.TheVariants as W
use Rattle.session_text.specs.declared.error.KernelKind.TheVariants as k
use Rattle.session_text.specs.declared.error.LoadKind.{LoadKind}
use Rattle.session_text.specs.declared.error.LoadKind.TheVariants as kind
use Rattle.file_load.specs.declared.stop.Stop.{Stop}
use Rattle.file_load.specs.declared.stop.Stop.TheVariants.{Error, NoMemory}
use Rattle.file_load.specs.Passes.{error_at}

abbrev pub kind_of_elab : ElabKind → LoadKind
kind_of_elab (E.Mismatch t u xs) = kind.Mismatch
kind_of_elab (E.DotWrong t u xs) = kind.DotWrong
kind_of_elab (E.NotAFunction t) = kind.NotAFunction
kind_of_elab (E.NotARecord t) = kind.NotARecord
kind_of_elab (E.NotAType t) = kind.NotAType
kind_of_elab E.NoSuchName = kind.NoSuchName
kind_of_elab E.CannotInfer = kind.CannotInfer
kind_of_elab E.BadField = kind.BadField
kind_of_elab E.OutOfFuel = kind.OutOfFuel
kind_of_elab E.OutOfDepth = kind.OutOfDepth

abbrev pub not_elaborated : WrittenError → Stop
not_elaborated (W.Refused e) = Error (error_at e.pos (kind_of_elab e.kind))
not_elaborated W.NoMemory = NoMemory

abbrev pub not_checked : Pos → KernelError → Stop
not_checked p (K.Mismatch t u) = Error (error_at p (kind.Kernel k.Mismatch))
not_checked p (K.NotAFunction t) = Error (error_at p (kind.Kernel k.NotAFunction))
not_checked p (K.NotARecord t) = Error (error_at p (kind.Kernel k.NotARecord))
not_checked p (K.NotAType t) = Error (error_at p (kind.Kernel k.NotAType))
not_checked p K.LevelTooLarge = Error (error_at p (kind.Kernel k.LevelTooLarge))
not_checked p (K.MetaLeft m) = Error (error_at p kind.CannotInfer)
not_checked p K.OutOfFuel = Error (error_at p (kind.Kernel k.OutOfFuel))
not_checked p K.OutOfDepth = Error (error_at p (kind.Kernel k.OutOfDepth))
not_checked p K.NoMemory = NoMemory

abbrev pub kind_of_family : DataKind → LoadKind
kind_of_family J.BadSort = kind.BadSort
kind_of_family J.ConShape = kind.ConShape
kind_of_family J.TooBig = kind.TooBig
kind_of_family (J.Elab k) = kind_of_elab k

abbrev pub family_not_elaborated : DataError → Stop
family_not_elaborated (D.Bad p k) = Error (error_at p (kind_of_family k))
family_not_elaborated D.NoMemory = NoMemory

abbrev pub family_not_checked : Pos → FamilyError → Stop
family_not_checked p (F.Kernel e) = not_checked p e
family_not_checked p F.ConShape = Error (error_at p (kind.Kernel k.ConShape))
family_not_checked p F.TooBig = Error (error_at p (kind.Kernel k.TooBig))
family_not_checked p F.NoMemory = NoMemory
