use Rattle.std.proofs.Common.{◌≡◌, ◌∙◌, Ok, None, Some, sym}
use Rattle.file_load.specs.Unbuilt.{in_file}
use Rattle.file_load.specs.Load.{IsInError, IsParsed, Reads}
use Rattle.file_load.proofs.Loading.{answers_of}
use Rattle.file_load.proofs.stages.load_text.Goals as goal

pub returns-in-Some : goal.returns-in-Some
returns-in-Some c =
    let parsed : IsParsed c.args.text.now (Ok c.in-Ok-File.file) = rw c.in-Ok-File.field-0-is at c.in-Ok-File.ensures in
    let is : in_file c.in-Ok-File.file ≡ Some c.in-Some.byte = sym c.first_unbuilt.ensures ∙ c.in-Some.is in
    rw (c.error_at.ensures, c.place_of.ensures) (IsInError.unread (Reads.unbuilt parsed is))

pub returns : goal.returns
returns c =
    let parsed : IsParsed c.args.text.now (Ok c.in-Ok-File.file) = rw c.in-Ok-File.field-0-is at c.in-Ok-File.ensures in
    let is : in_file c.in-Ok-File.file ≡ None = sym c.first_unbuilt.ensures ∙ c.in-None.is in
    answers_of c.args.limits.fuel c.args.limits.depth c.args.text.now c.in-Ok-File.file c.load_file.result (Reads.built parsed is) c.load_file.ensures
