-- What the forms in memory hold.
use Rattle.std.specs.Prelude.{ℕ, List, length, min, refl}
use Rattle.std.specs.Coded.{Coded, code_by, coded×, coded_ℕ, coded_list}
use Rattle.std.specs.FinMap as map
use Rattle.el_outside.specs.Causes.{one_more}
use Rattle.el_outside.specs.Planned.{Plan}
use Rattle.el_outside.specs.Stored.{FileMap}
use Rattle.el_outside.specs.declared.files.FileRead.{FileRead}
use Rattle.el_outside.specs.declared.files.FileRead.TheVariants.{Missing}

-- a source: the bytes that are left, and the most that one call gives
pub record SourceState : Type 0 where
  pub left : List ℕ
  pub most : ℕ

-- how many bytes a call gives that has this much room
abbrev pub given : SourceState → ℕ → ℕ
given s room = min (min (length s.left) room) s.most

-- a source with the plan of its failing calls, and so below a sink and files
pub record FailingSource : Type 0 where
  pub source : SourceState
  pub plan : Plan

-- a sink: the bytes that were put, and the most that one call takes
pub record SinkState : Type 0 where
  pub bytes : List ℕ
  pub most : ℕ

pub record FailingSink : Type 0 where
  pub sink : SinkState
  pub plan : Plan

-- files: the bytes under each name, and how often a read has found nothing
pub record FilesState : Type 0 where
  pub map : FileMap
  pub misses : ℕ

pub record FailingFiles : Type 0 where
  pub files : FilesState
  pub plan : Plan

-- the misses after a read that gave this
abbrev pub misses_after : ℕ → FileRead → ℕ
misses_after n Missing = one_more n
misses_after n _ = n

-- how these are stored
abbrev pub map_code : Coded FileMap
map_code = map.code (coded_list coded_ℕ) (coded_list coded_ℕ)

abbrev pub files_code : Coded FilesState
files_code = code_by (FileMap × ℕ) (coded× map_code coded_ℕ) (λ s. (s.map, s.misses)) (λ p. record { map = p.0; misses = p.1 }) (λ _. refl)

abbrev pub plan_code : Coded Plan
plan_code = code_by (List ℕ × (ℕ × ℕ)) (coded× (coded_list coded_ℕ) (coded× coded_ℕ coded_ℕ)) (λ p. (p.fails, (p.calls, p.faults))) (λ p. record { fails = p.0; calls = p.1.0; faults = p.1.1 }) (λ _. refl)

abbrev pub failing_files_code : Coded FailingFiles
failing_files_code = code_by (FilesState × Plan) (coded× files_code plan_code) (λ s. (s.files, s.plan)) (λ p. record { files = p.0; plan = p.1 }) (λ _. refl)
